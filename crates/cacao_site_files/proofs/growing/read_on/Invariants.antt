use Rattle.std.proofs.Common.{◌≤◌, vec_len}
use Rattle.cacao_site_files.proofs.growing.read_on.Given as goal

abbrev pub invariant-loop : goal.invariant-loop
invariant-loop g l = l.count ≤ vec_len l.bytes
