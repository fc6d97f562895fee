-- Promise: The lines that tell of a run. Each ends with a line feed.
use Rattle.std.specs.Prelude.{ℕ, suc, Bool, true, false, ◌==◌, List, [], ◌∷◌, ◌++◌, codes, Option, Some, None, slice_get, option_map, option_and_then, unwrap_or, if◌then◌else◌}
use Rattle.std.specs.Fmt.{decimal}
use Rattle.std.specs.List.{flat_map}
use Rattle.cacao_text.specs.Canon.{string_text}
use Rattle.run_records.specs.declared.record.Record.{Record}
use Rattle.run_records.specs.declared.record.Record.TheVariants as entry
use Rattle.flow_core_rules.specs.declared.tasks.Task.{Task}
use Rattle.flow_core_rules.specs.declared.issues.Issue.{Issue}
use Rattle.flow_core_rules.specs.declared.phases.Phase.{Phase}
use Rattle.flow_core_rules.specs.declared.phases.Phase.TheVariants as phase
use Rattle.flow_core_rules.specs.declared.issues.IssuePhase.{IssuePhase}
use Rattle.flow_core_rules.specs.declared.issues.IssuePhase.TheVariants as issue_phase
use Rattle.flow_core_rules.specs.Givens.{step_at}
use Rattle.flow_core_rules.specs.State.{Shown, Texts}
use Rattle.flow_core_rules.specs.Changes.{moment_of, outcome}

-- words with a space before each, and a line feed
abbrev pub line : List (List ℕ) → List ℕ
line [] = 10 ∷ []
line (word ∷ words) = 32 ∷ (word ++ line words)

-- ---- the lines of records

-- the key of the step at which a task stands
abbrev pub key_of : Shown → ℕ → List ℕ
key_of s t =
    unwrap_or (option_map (λ step. step.key)
    (option_and_then (λ task. step_at s.given task.book task.step) (slice_get s.lists.tasks t))) []

-- What a record says behind its number and its moment, by what was shown before it: a Walk says the step at which the task stood.
abbrev pub said : Shown → Record → List (List ℕ)
said s (entry.Begin run moment books bind) = codes "begin" ∷ decimal run ∷ []
said s (entry.Walk task moment) = codes "walk" ∷ decimal task ∷ key_of s task ∷ []
said s (entry.Send task issue agent moment bytes) = codes "send" ∷ decimal issue ∷ decimal agent ∷ []
said s (entry.Reply issue moment status rule text) = codes "reply" ∷ decimal issue ∷ decimal status ∷ []
said s (entry.Expire issue moment) = codes "expire" ∷ decimal issue ∷ []
said s (entry.Upgrade version moment) = codes "upgrade" ∷ decimal version ∷ []
said s (entry.Ask task issue moment bytes) = codes "ask" ∷ decimal issue ∷ string_text bytes ∷ []
said s (entry.Told issue moment status text) = codes "told" ∷ decimal issue ∷ decimal status ∷ []

-- the line of the record with this number
abbrev pub record_line : Shown → ℕ → Record → List ℕ
record_line before n r = decimal n ++ line (decimal (moment_of r) ∷ said before r)

-- ---- the lines that tell a state

-- words with a space between them, and a line feed
abbrev pub line_from : List ℕ → List (List ℕ) → List ℕ
line_from first words = first ++ line words

abbrev pub well_words : Bool → List (List ℕ)
well_words true = codes "ended" ∷ codes "ok" ∷ []
well_words false = codes "ended" ∷ codes "failed" ∷ []

abbrev pub phase_words : Shown → ℕ → Phase → List (List ℕ)
phase_words s t (phase.Ended well) = well_words well
phase_words s t other = codes "at" ∷ key_of s t ∷ []

-- a number, or a hyphen where there is none
abbrev pub maybe_number : Option ℕ → List ℕ
maybe_number None = codes "-"
maybe_number (Some n) = decimal n

abbrev pub task_lines : Shown → ℕ → List Task → List ℕ
task_lines s t [] = []
task_lines s t (task ∷ tasks) =
    line_from (codes "task") (decimal t ∷ maybe_number task.parent ∷ phase_words s t task.phase) ++ task_lines s (suc t) tasks

abbrev pub issue_words : IssuePhase → List (List ℕ)
issue_words issue_phase.Waiting = codes "waiting" ∷ []
issue_words (issue_phase.Answered status) = codes "answered" ∷ decimal status ∷ []
issue_words (issue_phase.Told status) = codes "told" ∷ decimal status ∷ []
issue_words issue_phase.Expired = codes "expired" ∷ []

-- the number of a filter; an operator has none
abbrev pub agent_word : ℕ → List ℕ
agent_word agent = if agent == 0 then codes "-" else decimal agent

abbrev pub issue_lines : ℕ → List Issue → List ℕ
issue_lines n [] = []
issue_lines n (issue ∷ issues) =
    line_from (codes "issue") (decimal n ∷ agent_word issue.agent ∷ issue_words issue.phase) ++ issue_lines (suc n) issues

-- the text of a variable as a string of JSON, or a hyphen where it has none
abbrev pub maybe_text : Option (List ℕ) → List ℕ
maybe_text None = codes "-"
maybe_text (Some text) = string_text text

abbrev pub variable_lines : Texts → List ℕ
variable_lines texts = flat_map (λ entry. line_from (codes "var") (entry.0 ∷ maybe_text entry.1 ∷ [])) texts

abbrev pub outcome_words : Option Bool → List (List ℕ)
outcome_words None = codes "running" ∷ []
outcome_words (Some well) = well_words well

-- What `show` says of a run after so many records: its number, their number, the last moment, each task, each issue, each
-- variable of the first playbook in the order of names, and how the run stands.
abbrev pub report : Shown → ℕ → List ℕ
report s count =
    line_from (codes "run") (decimal s.run ∷ []) ++ (line_from (codes "records") (decimal count ∷ [])
    ++ (line_from (codes "moment") (decimal s.moment ∷ [])
    ++ (task_lines s 0 s.lists.tasks ++ (issue_lines 0 s.lists.issues
    ++ (variable_lines (unwrap_or (slice_get s.lists.texts 0) [])
    ++ line_from (codes "state") (outcome_words (outcome s.lists)))))))
