use Rattle.std.proofs.Common.{◌≡◌}
use Rattle.cacao_site_log.specs.Replay.{at_rest}
use Rattle.cacao_site_log.proofs.ReplayLemmas.{file_at}
use Rattle.cacao_site_log.proofs.tear.longest_after.Given as goal

abbrev pub invariant-loop-entry : goal.invariant-loop-entry
invariant-loop-entry l = l.longest ≡ (file_at l.file (at_rest l.synced) l.bytes l.entries l.entry-index).longest
