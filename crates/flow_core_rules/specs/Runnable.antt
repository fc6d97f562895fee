-- Promise: What a run rests on, of what it is given. Accepted playbooks and bindings have all of it.
use Rattle.std.specs.Prelude.{◌≡◌, ◌≢◌, ℕ, ◌≤◌, List, [], ◌∷◌, ◌++◌, map, All, Some, IsSome, IfSome, IsSomeAnd, option_to_list, slice_get, ⊤}
use Rattle.cacao_json.specs.Reading.{tree}
use Rattle.cacao_book.specs.declared.books.Book.{Book}
use Rattle.cacao_book.specs.declared.steps.Step.{Step}
use Rattle.cacao_book.specs.declared.step_kinds.StepKind.{StepKind}
use Rattle.cacao_book.specs.declared.step_kinds.StepKind.TheVariants.{Action, PlaybookAction, Parallel, If, While, Switch}
use Rattle.cacao_book.specs.Steps.{place_of}
use Rattle.flow_core_rules.specs.Givens.{Given, book_with}
use Rattle.flow_core_rules.specs.Places.{Place, to_filter, to_operator, places}

-- the keys to which a step goes on, and those at which the branches of a control step begin
abbrev pub next_keys : Step → List (List ℕ)
next_keys step = option_to_list step.completion ++ option_to_list step.success ++ option_to_list step.failure

abbrev pub head_keys : StepKind → List (List ℕ)
head_keys (Parallel next) = next
head_keys (If condition on_true on_false) = on_true ∷ option_to_list on_false
head_keys (While condition on_true) = on_true ∷ []
head_keys (Switch subject cases) = map (λ one. one.step) cases
head_keys _ = []

-- the key is that of a step of the playbook
abbrev pub NamesStep : Book → List ℕ → Type 0
NamesStep book key = IsSome (place_of book.steps key)

-- what a place sends or asks is there; what it sends has a tree
abbrev pub CanIssue : Place → Type 0
CanIssue (to_filter content to) = IsSomeAnd content (λ text. IsSome (tree text))
CanIssue (to_operator content) = IsSome content

-- an action has a place at least, and a called playbook is given
abbrev pub CanDo : Given → StepKind → Type 0
CanDo given (Action commands agent targets in_args out_args) =
    (places (Action commands agent targets in_args out_args) ≢ [])
    × All CanIssue (places (Action commands agent targets in_args out_args))
CanDo given (PlaybookAction playbook version in_args out_args) = IsSome (book_with given playbook)
CanDo given _ = ⊤

pub record IsRunnableStep (given : Given) (book : Book) (step : Step) : Type 0 where
  pub goes_on : All (NamesStep book) (next_keys step)
  pub branches : All (NamesStep book) (head_keys step.kind)
  pub does : CanDo given step.kind

pub record IsRunnableBook (given : Given) (book : Book) : Type 0 where
  pub start : NamesStep book book.start
  pub exception : IfSome book.exception (NamesStep book)
  pub steps : (place : ℕ) (step : Step) → slice_get book.steps place ≡ Some step → IsRunnableStep given book step

-- there is a playbook; each one can be run; each filter that is bound has a number from 1 to 16
pub record IsRunnable (given : Given) : Type 0 where
  pub first : IsSome (slice_get given.books 0)
  pub books : (number : ℕ) (book : Book) → slice_get given.books number ≡ Some book → IsRunnableBook given book
  pub filters : All (λ entry. (1 ≤ entry.1) × (entry.1 ≤ 16)) given.agents
