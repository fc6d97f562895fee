use Rattle.std.proofs.Common.{◌≡◌, ℕ, ◌<◌, [], length, slice_index_or}
use Rattle.cacao_check_steps.specs.Calls.{LeadsTo}
use Rattle.cacao_check_regions.specs.Charts.{AreMarksOf}
use Rattle.cacao_check_regions.proofs.leading.leads_of.Given as goal

abbrev pub invariant-loop-number : goal.invariant-loop-number
invariant-loop-number l = (length l.leads.items ≡ l.number) × ((n : ℕ) → n < l.number → AreMarksOf (LeadsTo l.books n) (slice_index_or l.leads.items n []))
