-- Promise: What is accepted, and which lists of records are runs.
use Rattle.std.specs.Prelude.{◌≡◌, ℕ, ◌≤◌, List, [], ◌∷◌, length, map, Some, slice_get, unwrap_or, option_map, ⊤}
use Rattle.serde_json.specs.Data.{Data}
use Rattle.run_records.specs.declared.record.Record.{Record}
use Rattle.cacao_json.specs.Reading.{tree}
use Rattle.cacao_text.specs.Canon.{book_text}
use Rattle.cacao_vars.specs.declared.declarations.Var.{Var}
use Rattle.cacao_vars.specs.declared.kinds.Kind.{Kind}
use Rattle.cacao_book.specs.Books.{book}
use Rattle.flow_core_rules.specs.Givens.{Given}
use Rattle.flow_core_rules.specs.Bindings.{bindings_of, bind_text, agents_in, variables_in, BindRule, KeepsBind}
use Rattle.flow_core_rules.specs.State.{State}
use Rattle.flow_core_rules.specs.Runs.{Leads}

-- what a run is given by the trees of playbooks and the data of bindings
abbrev pub given_of : List Data → List ℕ → Data → Given
given_of trees bind bindings = record {
  books = map book trees;
  texts = map book_text trees;
  bind = bind_text bind bindings;
  agents = agents_in bindings;
  variables = variables_in bindings;
}

-- the variables of the first playbook
abbrev pub first_variables : List Data → List Var
first_variables trees = unwrap_or (option_map (λ t. (book t).variables) (slice_get trees 0)) []

-- Texts of at most 16 playbooks and of bindings are accepted, and this is what they give a run. The rules of playbooks and the kinds of
-- texts are those of the crate that checks: `AreAccepted` says that trees break none in the mode of runs, `Fits` that a text
-- fits a kind.
pub record Accepted (AreAccepted : List Data → Type 0) (Fits : Kind → List ℕ → Type 0) (texts : List (List ℕ))
    (bind : List ℕ) (given : Given) : Type 0 where
  pub trees : List Data
  pub bindings : Data
  pub trees_are : map tree texts ≡ map (λ t. Some t) trees
  pub bindings_are : bindings_of bind ≡ Some bindings
  pub few : length trees ≤ 16
  pub accepted : AreAccepted trees
  pub bound : (rule : BindRule) → KeepsBind Fits (first_variables trees) bindings rule
  pub given_is : given ≡ given_of trees bind bindings

-- Records are a run from their Begin on: it has canonical texts that are accepted, and they lead to a state.
pub record IsRunOf (AreAccepted : List Data → Type 0) (Fits : Kind → List ℕ → Type 0) (records : List Record) : Type 0 where
  pub given : Given
  pub run : ℕ
  pub state : State
  pub accepted : Accepted AreAccepted Fits given.texts given.bind given
  pub leads : Leads given run records state

-- A list of records is a run if it is empty, or begins with a Begin of what is accepted and goes on by the rules.
abbrev pub IsRun : (List Data → Type 0) → (Kind → List ℕ → Type 0) → List Record → Type 0
IsRun AreAccepted Fits [] = ⊤
IsRun AreAccepted Fits (first ∷ others) = IsRunOf AreAccepted Fits (first ∷ others)
