use Rattle.std.proofs.Common.{◌+◌, ◌*◌}
use Rattle.cacao_cond.proofs.reading.+reading.Given as goal

abbrev pub decreases-read_any : goal.decreases-read_any
decreases-read_any l = 2 * l.levels + 1

abbrev pub decreases-read_or : goal.decreases-read_or
decreases-read_or l = 2 * l.levels + 2

abbrev pub decreases-read_all : goal.decreases-read_all
decreases-read_all l = 2 * l.levels + 1

abbrev pub decreases-read_and : goal.decreases-read_and
decreases-read_and l = 2 * l.levels + 2

abbrev pub decreases-read_prime : goal.decreases-read_prime
decreases-read_prime l = 2 * l.levels + 1
