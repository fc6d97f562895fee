-- Promise: When what a task is to send or ask stays the very same after a record of another task.
use Rattle.std.specs.Prelude.{◌≡◌, ◌≢◌, ℕ, ◌≤◌, List, [], Contains, Some, None, option_and_then, slice_get}
use Rattle.std.specs.Option.{option_map_or}
use Rattle.run_records.specs.declared.record.Record.{Record}
use Rattle.run_records.specs.declared.record.Record.TheVariants as entry
use Rattle.run_records.specs.Ranges.{last_moment}
use Rattle.cacao_json.specs.Reading.{tree}
use Rattle.cacao_vars.specs.Scopes.{home_declaration}
use Rattle.cacao_book.specs.declared.steps.Step.{Step}
use Rattle.cacao_check_steps.specs.Uses.{referred, referred_in}
use Rattle.flow_core_rules.specs.declared.tasks.Task.{Task}
use Rattle.flow_core_rules.specs.declared.phases.Phase.TheVariants as phase
use Rattle.flow_core_rules.specs.Givens.{step_at}
use Rattle.flow_core_rules.specs.State.{State, shown, value}
use Rattle.flow_core_rules.specs.Places.{Place, to_filter, to_operator, places}
use Rattle.flow_core_rules.specs.Changes.{moment_of}
use Rattle.flow_core_rules.specs.Runs.{Next, IsEnabled}
use Rattle.flow_core_rules.specs.Laws.{issued_by}
use Rattle.flow_core_laws.specs.OwnTask.{task_of}

-- the names that a place reads: those to which the strings of a content refer, or the text for an operator
abbrev pub names_at : Place → List (List ℕ)
names_at (to_filter content to) = option_map_or referred_in (option_and_then tree content) []
names_at (to_operator content) = option_map_or referred content []

-- seen from a scope, a name has the declaration and the text that it had
abbrev pub KeepsName : State → State → ℕ → List ℕ → Type 0
KeepsName s new scope name =
    (home_declaration new.scopes scope name ≡ home_declaration s.scopes scope name)
    × (value new scope name ≡ value s scope name)

-- so has each name that a task reads at its place
abbrev pub KeepsRead : State → State → ℕ → Type 0
KeepsRead s new t =
    (task : Task) (step : Step) (n scope : ℕ) (place : Place) (name : List ℕ) → slice_get s.tasks t ≡ Some task
    → step_at s.given task.book task.step ≡ Some step → task.phase ≡ phase.Sending n
    → slice_get (places step.kind) n ≡ Some place → task.step_scope ≡ Some scope → Contains (names_at place) name
    → KeepsName s new scope name

-- Where a record sends and asks nothing, and keeps what another task reads, that one may send or ask the very same, at each
-- moment from those of both to the limit.
abbrev pub SendsTheSame : Type 0
SendsTheSame =
    (s new : State) (one : Record) (t n agent moment now : ℕ) (bytes : List ℕ) → Next s one new
    → IsEnabled s (entry.Send t n agent moment bytes) → task_of (shown s) one ≢ Some t → issued_by one ≡ None
    → KeepsRead s new t → moment_of one ≤ now → moment ≤ now → now ≤ last_moment
    → IsEnabled new (entry.Send t n agent now bytes)

abbrev pub AsksTheSame : Type 0
AsksTheSame =
    (s new : State) (one : Record) (t n moment now : ℕ) (bytes : List ℕ) → Next s one new
    → IsEnabled s (entry.Ask t n moment bytes) → task_of (shown s) one ≢ Some t → issued_by one ≡ None
    → KeepsRead s new t → moment_of one ≤ now → moment ≤ now → now ≤ last_moment
    → IsEnabled new (entry.Ask t n now bytes)
