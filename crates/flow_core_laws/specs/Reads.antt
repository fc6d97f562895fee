-- Promise: What a record reads and writes: the texts of names, each in the scope that is its home.
use Rattle.std.specs.Prelude.{ℕ, suc, nat_le, List, [], ◌∷◌, length, if◌then◌else◌, slice_get}
use Rattle.std.specs.List.{flat_map, list_any}
use Rattle.std.specs.Option.{option_map_or}
use Rattle.run_records.specs.declared.record.Record.{Record}
use Rattle.run_records.specs.declared.record.Record.TheVariants as entry
use Rattle.cacao_vars.specs.declared.scoping.Scope.{Scope}
use Rattle.cacao_vars.specs.References.{name_run}
use Rattle.cacao_vars.specs.Scopes.{home}
use Rattle.cacao_cond.specs.Names.{named}
use Rattle.cacao_book.specs.declared.step_kinds.StepKind.{StepKind}
use Rattle.cacao_book.specs.declared.step_kinds.StepKind.TheVariants as does
use Rattle.flow_core_rules.specs.declared.tasks.Task.{Task}
use Rattle.flow_core_rules.specs.declared.phases.Phase.{Phase}
use Rattle.flow_core_rules.specs.declared.phases.Phase.TheVariants as phase
use Rattle.flow_core_rules.specs.State.{Shown}
use Rattle.flow_core_rules.specs.Conditions.{condition_of}
use Rattle.flow_core_rules.specs.Tasks.{Here, here_at}
use Rattle.flow_core_rules.specs.Edits.{Edit}
use Rattle.flow_core_rules.specs.Edits.Edit.{writes}
use Rattle.flow_core_rules.specs.Changes.{inside, place_at, children, has_failed, change}
use Rattle.flow_core_laws.specs.SameBytes.{names_at}

-- names, each behind its home as it is seen from a scope; a name without a home has no text there
abbrev pub homes : List Scope → ℕ → List (List ℕ) → List (ℕ × List ℕ)
homes scopes scope names = flat_map (λ name. option_map_or (λ at. (at, name) ∷ []) (home scopes scope name) []) names

-- ---- what a record reads

-- the names of a condition
abbrev pub compared_names : List ℕ → List (List ℕ)
compared_names text = option_map_or named (condition_of text) []

-- what a step reads where it is entered: the names of its condition, the subject of a switch, what a call hands in
abbrev pub entered_names : StepKind → List (List ℕ)
entered_names (does.If condition on_true on_false) = compared_names condition
entered_names (does.While condition on_true) = compared_names condition
entered_names (does.Switch subject cases) = name_run subject ∷ []
entered_names (does.PlaybookAction playbook version in_args out_args) = in_args
entered_names other = []

-- What a step reads once its branches have ended well: a while-condition the names of its condition, and a call, in the scope of the
-- called playbook, what it hands back.
abbrev pub rejoined_reads : Here → ℕ → ℕ → StepKind → List (ℕ × List ℕ)
rejoined_reads h from scope (does.While condition on_true) = homes h.seen.lists.scopes scope (compared_names condition)
rejoined_reads h from scope (does.PlaybookAction playbook version in_args out_args) =
    option_map_or (λ root. homes h.seen.lists.scopes root.scope out_args) (slice_get h.seen.lists.tasks from) []
rejoined_reads h from scope other = []

abbrev pub joined_reads : Here → ℕ → ℕ → List Task → List (ℕ × List ℕ)
joined_reads h from scope branches =
    if list_any (λ task. has_failed task.phase) branches then [] else rejoined_reads h from scope h.step.kind

-- A step that is entered reads from its own scope.
abbrev pub walk_reads : Here → Phase → List (ℕ × List ℕ)
walk_reads h (phase.At since) =
    homes (inside h).seen.lists.scopes (length h.seen.lists.scopes) (entered_names h.step.kind)
walk_reads h (phase.Joining from) =
    option_map_or (λ scope. joined_reads h from scope (children h.seen.lists h.number from)) h.task.step_scope []
walk_reads h other = []

-- what a task refers to in what it sends or asks
abbrev pub issue_reads : Here → List (ℕ × List ℕ)
issue_reads h =
    option_map_or
    (λ place. option_map_or (λ scope. homes h.seen.lists.scopes scope (names_at place)) h.task.step_scope [])
    (place_at h h.task.phase) []

-- A Walk reads what its step does, a Send and an Ask what they refer to; no other record reads any.
abbrev pub reads : Shown → Record → List (ℕ × List ℕ)
reads s (entry.Walk task moment) = option_map_or (λ h. walk_reads h h.task.phase) (here_at s moment task) []
reads s (entry.Send task issue agent moment bytes) = option_map_or issue_reads (here_at s moment task) []
reads s (entry.Ask task issue moment bytes) = option_map_or issue_reads (here_at s moment task) []
reads s other = []

-- ---- what a record writes

-- the names that edits write to in scopes below a number
abbrev pub written_below : ℕ → List Edit → List (ℕ × List ℕ)
written_below count [] = []
written_below count (writes at name text ∷ edits) =
    if nat_le (suc at) count then (at, name) ∷ written_below count edits else written_below count edits
written_below count (other ∷ edits) = written_below count edits

-- What a record writes in scopes that are there: an answer its results, and a call that joins what it hands back. (A call that is
-- entered writes in the scope that it opens.)
abbrev pub writes_of : Shown → Record → List (ℕ × List ℕ)
writes_of s r = option_map_or (written_below (length s.lists.scopes)) (change s r) []
