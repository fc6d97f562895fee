-- Scaffold: The record of a move, with the edits that are planned for it.
use Rattle.std.specs.Prelude.{◌≡◌, ℕ, Some}
use Rattle.flow_core_rules.specs.declared.moves.Move.{Move}
use Rattle.flow_core_rules.specs.Moves.{record_of}
use Rattle.flow_core_rules.specs.State.{Shown}
use Rattle.flow_core_plans.specs.Planned.{AreDeclared}
use Rattle.flow_core.specs.declared.coming.Coming.{Coming}
use Rattle.flow_core.specs.Views.{AsksText}

-- it is that of the move at a moment
pub record IsOfMove (s : Shown) (moment : ℕ) (step : Move) (coming : Coming) : Type 0 where
  pub made : record_of s moment step ≡ Some coming.item
  pub text : AsksText coming.item
  pub declared : AreDeclared coming.edits.items
