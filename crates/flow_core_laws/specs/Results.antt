-- Promise: What a record writes in scopes that are there: results, in the homes that its step sees.
use Rattle.std.specs.Prelude.{ℕ, List, [], Contains}
use Rattle.std.specs.Option.{option_map_or}
use Rattle.run_records.specs.declared.record.Record.{Record}
use Rattle.run_records.specs.declared.record.Record.TheVariants as entry
use Rattle.cacao_book.specs.declared.step_kinds.StepKind.{StepKind}
use Rattle.cacao_book.specs.declared.step_kinds.StepKind.TheVariants as does
use Rattle.flow_core_rules.specs.declared.phases.Phase.{Phase}
use Rattle.flow_core_rules.specs.declared.phases.Phase.TheVariants as phase
use Rattle.flow_core_rules.specs.State.{Shown}
use Rattle.flow_core_rules.specs.Tasks.{Here, here_at}
use Rattle.flow_core_rules.specs.Changes.{Waiting, waiting_at, out_args_of}
use Rattle.flow_core_laws.specs.Reads.{homes, writes_of}

-- what a call hands back
abbrev pub handed_back : StepKind → List (List ℕ)
handed_back (does.PlaybookAction playbook version in_args out_args) = out_args
handed_back other = []

abbrev pub joined_results : Here → Phase → List (ℕ × List ℕ)
joined_results h (phase.Joining from) =
    option_map_or (λ scope. homes h.seen.lists.scopes scope (handed_back h.step.kind)) h.task.step_scope []
joined_results h other = []

abbrev pub answer_results : Waiting → List (ℕ × List ℕ)
answer_results w = homes w.here.seen.lists.scopes w.scope (out_args_of w.here.step.kind)

-- A Reply and a Told write to `out_args` of the issue's step, a call that joins to its own; no other record writes.
abbrev pub results_of : Shown → Record → List (ℕ × List ℕ)
results_of s (entry.Walk task moment) = option_map_or (λ h. joined_results h h.task.phase) (here_at s moment task) []
results_of s (entry.Reply issue moment status rule text) = option_map_or answer_results (waiting_at s moment issue) []
results_of s (entry.Told issue moment status text) = option_map_or answer_results (waiting_at s moment issue) []
results_of s other = []

abbrev pub WritesAreResults : Type 0
WritesAreResults =
    (s : Shown) (r : Record) (at : ℕ) (name : List ℕ) → Contains (writes_of s r) (at, name)
    → Contains (results_of s r) (at, name)
