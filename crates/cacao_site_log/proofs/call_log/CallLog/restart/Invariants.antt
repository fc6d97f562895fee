use Rattle.std.proofs.Common.{◌≡◌, [], take}
use Rattle.cacao_site_log.proofs.call_log.CallLog.restart.Given as goal

abbrev pub invariant-loop-number : goal.invariant-loop-number
invariant-loop-number l = record {
  calls : l.log.calls ≡ [];
  lines : l.log.lines ≡ take l.number l.self.lines;
  most : l.log.most ≡ l.most;
}
