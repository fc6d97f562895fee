-- Promise: Values of variables are unset or of the declared kind, and a constant keeps the text that its scope opened with.
use Rattle.std.specs.Prelude.{◌≡◌, ℕ, ◌<◌, ◌^◌, false, List, Some, IsTrue, IfSome, ⊤}
use Rattle.std.specs.List.{AllByRecursion}
use Rattle.run_records.specs.declared.record.Record.{Record}
use Rattle.run_records.specs.declared.record.Record.TheVariants as entry
use Rattle.cacao_vars.specs.declared.declarations.Var.{Var}
use Rattle.cacao_vars.specs.Scopes.{home_declaration}
use Rattle.cacao_check.specs.Fits.{FitsKind}
use Rattle.flow_core_rules.specs.Accepted.{IsRunOf}
use Rattle.flow_core_rules.specs.State.{State, value}
use Rattle.flow_core_rules.specs.Runs.{GoesOn}
use Rattle.flow_core_setup.specs.Setups.{AreAccepted}

-- the rule's number of a Reply lies within its field, as in each record that is read from bytes
abbrev pub HasShortRule : Record → Type 0
HasShortRule (entry.Reply issue moment status rule text) = rule < 2 ^ 32
HasShortRule other = ⊤

-- In each state of a run of accepted playbooks, seen from any scope, a declared name has no text or one that fits the kind that
-- its home declares. (A name that is not declared has none.)
abbrev pub ValuesFitKinds : Type 0
ValuesFitKinds =
    (records : List Record) (run : IsRunOf AreAccepted FitsKind records) (scope : ℕ) (name : List ℕ) (var : Var)
    → AllByRecursion HasShortRule records → home_declaration run.state.scopes scope name ≡ Some var
    → IfSome (value run.state scope name) (FitsKind var.kind)

-- seen from the scope, the name has the declaration and the text that it had
pub record KeepsConstant (s later : State) (scope : ℕ) (name : List ℕ) (var : Var) : Type 0 where
  pub declared : home_declaration later.scopes scope name ≡ Some var
  pub value_is : value later scope name ≡ value s scope name

-- However a run goes on, a constant keeps the text that it has in a state in which its scope is open.
abbrev pub ConstantsStay : Type 0
ConstantsStay =
    (records more : List Record) (run : IsRunOf AreAccepted FitsKind records) (later : State) (scope : ℕ) (name : List ℕ)
    (var : Var) → AllByRecursion HasShortRule records → AllByRecursion HasShortRule more → GoesOn run.state more later
    → home_declaration run.state.scopes scope name ≡ Some var → IsTrue var.constant
    → KeepsConstant run.state later scope name var

-- That is the declared text, but for an external one, to which a Begin or a call may bind another.
abbrev pub ConstantsAreDeclared : Type 0
ConstantsAreDeclared =
    (records : List Record) (run : IsRunOf AreAccepted FitsKind records) (scope : ℕ) (name : List ℕ) (var : Var)
    → AllByRecursion HasShortRule records → home_declaration run.state.scopes scope name ≡ Some var → IsTrue var.constant
    → var.external ≡ false → value run.state scope name ≡ var.worth
