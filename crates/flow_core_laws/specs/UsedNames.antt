-- Promise: Each name that a step uses is declared where it is read and written.
use Rattle.std.specs.Prelude.{◌≡◌, ℕ, List, Some, IsSome, slice_get}
use Rattle.run_records.specs.declared.record.Record.{Record}
use Rattle.cacao_vars.specs.Scopes.{home_declaration}
use Rattle.cacao_book.specs.declared.books.Book.{Book}
use Rattle.cacao_book.specs.declared.steps.Step.{Step}
use Rattle.cacao_check.specs.Fits.{FitsKind}
use Rattle.cacao_check_regions.specs.Regions.{Sees}
use Rattle.cacao_check_steps.specs.Uses.{Uses}
use Rattle.flow_core_rules.specs.declared.tasks.Task.{Task}
use Rattle.flow_core_rules.specs.Givens.{book_at}
use Rattle.flow_core_rules.specs.Accepted.{IsRunOf}
use Rattle.flow_core_rules.specs.State.{State}
use Rattle.flow_core_setup.specs.Setups.{AreAccepted}

-- seen from a scope the name is declared, and as the step sees it at which the task stands
pub record IsDeclaredAsSeen (s : State) (book : Book) (task : Task) (scope : ℕ) (name : List ℕ) : Type 0 where
  pub declared : IsSome (home_declaration s.scopes scope name)
  pub seen : Sees book name task.step (home_declaration s.scopes scope name)

-- In each state of a run of accepted playbooks, from the scope of the step at which a task stands.
abbrev pub UsedNamesAreDeclared : Type 0
UsedNamesAreDeclared =
    (records : List Record) (run : IsRunOf AreAccepted FitsKind records) (t : ℕ) (task : Task) (book : Book) (step : Step)
    (scope : ℕ) (name : List ℕ) → slice_get run.state.tasks t ≡ Some task → book_at run.given task.book ≡ Some book
    → slice_get book.steps task.step ≡ Some step → task.step_scope ≡ Some scope → Uses step name
    → IsDeclaredAsSeen run.state book task scope name
