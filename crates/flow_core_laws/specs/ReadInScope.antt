-- Promise: Each variable is read in its scope: a run's scopes agree with what the steps of its playbooks see.
use Rattle.std.specs.Prelude.{◌≡◌, ℕ, List, Some, slice_get}
use Rattle.run_records.specs.declared.record.Record.{Record}
use Rattle.cacao_vars.specs.declared.scoping.Scope.{Scope}
use Rattle.cacao_vars.specs.Scopes.{home_declaration}
use Rattle.cacao_book.specs.declared.books.Book.{Book}
use Rattle.cacao_book.specs.declared.steps.Step.{Step}
use Rattle.cacao_check_steps.specs.Links.{declares}
use Rattle.cacao_check_regions.specs.Regions.{Outside, Sees, nearer}
use Rattle.flow_core_rules.specs.declared.tasks.Task.{Task}
use Rattle.flow_core_rules.specs.Givens.{Given, book_at}
use Rattle.flow_core_rules.specs.State.{State}
use Rattle.flow_core_rules.specs.Runs.{Leads}
use Rattle.flow_core_rules.specs.Runnable.{IsRunnable}

-- the scope of a step: its variables, inside the scope of the task
abbrev pub IsScopeOf : List Scope → Task → Step → ℕ → Type 0
IsScopeOf scopes task step scope = slice_get scopes scope ≡ Some (record { parent = Some task.scope; vars = step.variables })

-- A name is declared for a task, where it stands, as the regions of its playbook say: from its scope as outside its step, and from
-- the scope of its step as the step sees it, the nearest declaration first.
pub record ReadsInScope (s : State) (book : Book) (task : Task) : Type 0 where
  pub outside : (name : List ℕ) → Outside book name task.step (home_declaration s.scopes task.scope name)
  pub sees : (name : List ℕ)
      → Sees book name task.step (nearer (declares book name task.step) (home_declaration s.scopes task.scope name))
  pub step_scope : (scope : ℕ) (step : Step) → task.step_scope ≡ Some scope → slice_get book.steps task.step ≡ Some step
      → IsScopeOf s.scopes task step scope
  pub in_step : (scope : ℕ) (name : List ℕ) → task.step_scope ≡ Some scope
      → home_declaration s.scopes scope name ≡ nearer (declares book name task.step) (home_declaration s.scopes task.scope name)

-- So it is for each task of each state of a run. (Its playbook and its step are there: `IsSaneTask`, by the law that runs are sane.)
abbrev pub TasksReadInScope : Type 0
TasksReadInScope =
    (given : Given) (run : ℕ) (records : List Record) (s : State) (t : ℕ) (task : Task) (book : Book) → IsRunnable given
    → Leads given run records s → slice_get s.tasks t ≡ Some task → book_at given task.book ≡ Some book
    → ReadsInScope s book task
