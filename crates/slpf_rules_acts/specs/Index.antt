-- Promise: Where the act of a run and an issue stands.
use Rattle.std.specs.Prelude.{ℕ, List, Option}
use Rattle.std.specs.Map.{lookup}
use Rattle.std.specs.BTreeMap.{is_at}
use Rattle.std.specs.Ordering.{nat_cmp, ordering_then}
use Rattle.std.specs.declared.cmp.Ordering.{Ordering}

-- places in a list of acts, by run and issue
abbrev pub Places : Type 0
Places = List ((ℕ × ℕ) × ℕ)

-- runs first, and then issues
abbrev pub key_cmp : ℕ × ℕ → ℕ × ℕ → Ordering
key_cmp a b = ordering_then (nat_cmp a.0 b.0) (nat_cmp a.1 b.1)

-- the place that is kept for a run and an issue
abbrev pub place_in : Places → ℕ → ℕ → Option ℕ
place_in places run issue = lookup (is_at (key_cmp (run, issue))) places
