use Rattle.std.proofs.Common.{◌≤◌, length}
use Rattle.cacao_site_files.proofs.open_files.fill_whole.Given as goal

abbrev pub invariant-loop : goal.invariant-loop
invariant-loop g l = l.count ≤ length l.into
