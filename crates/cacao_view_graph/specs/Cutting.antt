-- Scaffold: How the lines that tell of a run are taken apart.
use Rattle.std.specs.Prelude.{ℕ, ◌+◌, ◌==◌, true, false, List, [], ◌∷◌, ◌++◌, drop, take, decimal, codes, slice_get, slice_index_or, unwrap_or, if◌then◌else◌}
use Rattle.std.specs.List.{after_first, position_or_len}
use Rattle.flow_core_rules.specs.Changes.{outcome}
use Rattle.flow_core_rules.specs.Lines.{issue_lines, line_from, outcome_words, task_lines, variable_lines, well_words}
use Rattle.flow_core_rules.specs.State.{Shown}
use Rattle.flow_core_rules.specs.declared.phases.Phase.{Phase}
use Rattle.flow_core_rules.specs.declared.phases.Phase.TheVariants as phase
use Rattle.cacao_view_graph.specs.declared.way.Way.{Way}
use Rattle.cacao_view_graph.specs.declared.way.Way.TheVariants as way

-- what stands behind the first of these bytes
abbrev pub behind : ℕ → List ℕ → List ℕ
behind byte text = after_first (λ b. b == byte) text

-- the first line, with its line feed
abbrev pub first_line : List ℕ → List ℕ
first_line text = take (position_or_len (λ b. b == 10) text + 1) text

-- what stands behind the first three lines, and behind the first three words
abbrev pub behind_head : List ℕ → List ℕ
behind_head text = behind 10 (behind 10 (behind 10 text))

abbrev pub behind_words : List ℕ → List ℕ
behind_words text = behind 32 (behind 32 (behind 32 text))

-- how a task stands, as the words `at ..`, `ended ok` and `ended failed` tell
abbrev pub way_told : List ℕ → Way
way_told text =
    if slice_index_or text 0 0 == 97 then way.Stands
    else (if slice_index_or text 6 0 == 102 then way.Failed else way.Done)

-- what stands behind these words, where a task that stands does so at a step whose key has so many bytes
abbrev pub behind_way : ℕ → Way → List ℕ → List ℕ
behind_way key way.Stands text = drop (4 + key) text
behind_way key other text = behind 10 text

-- what is noted of a task that stands so
abbrev pub way_text : ℕ → Way → List ℕ
way_text t way.Stands = line_from (codes "task") (decimal t ∷ codes "stands" ∷ codes "here" ∷ [])
way_text t way.Failed = line_from (codes "task") (decimal t ∷ well_words false)
way_text t way.Done = []

abbrev pub way_of : Phase → Way
way_of (phase.Ended true) = way.Done
way_of (phase.Ended false) = way.Failed
way_of other = way.Stands

-- the lines behind those of tasks
abbrev pub lines_behind : Shown → List ℕ
lines_behind s =
    issue_lines 0 s.lists.issues
    ++ (variable_lines (unwrap_or (slice_get s.lists.texts 0) []) ++ line_from (codes "state") (outcome_words (outcome s.lists)))

-- the lines from this task on
abbrev pub lines_from_task : Shown → ℕ → List ℕ
lines_from_task s t = task_lines s t (drop t s.lists.tasks) ++ lines_behind s

-- the lines from this issue on
abbrev pub lines_from_issue : Shown → ℕ → List ℕ
lines_from_issue s n =
    issue_lines n (drop n s.lists.issues)
    ++ (variable_lines (unwrap_or (slice_get s.lists.texts 0) []) ++ line_from (codes "state") (outcome_words (outcome s.lists)))
