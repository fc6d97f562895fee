use Rattle.std.proofs.Common.{◌≡◌, length}
use Rattle.cacao_check_steps.specs.Calls.{AreCallsOf}
use Rattle.cacao_check_steps.specs.Pairing.{EachPair}
use Rattle.cacao_check_regions.proofs.leading.call_table.Given as goal

abbrev pub invariant-loop-number : goal.invariant-loop-number
invariant-loop-number l = (length l.rows.items ≡ l.number) × EachPair (AreCallsOf l.books) l.books l.rows.items
