-- The lines that tell of a run, one after another.
use Rattle.std.proofs.Common.{◌≡◌, ◌∙◌, ℕ, suc, ◌+◌, ◌==◌, Bool, true, false, cond, List, [], ◌∷◌, ◌++◌, length, drop, codes, Option, Some, None, refl, sym, ap, arith, append_assoc}
use Rattle.std.specs.Prelude.{decimal, slice_get, unwrap_or}
use Rattle.flow_core_rules.specs.Changes.{outcome}
use Rattle.flow_core_rules.specs.Lines.{agent_word, issue_lines, issue_words, key_of, line, line_from, maybe_number, outcome_words, phase_words, report, task_lines, variable_lines}
use Rattle.flow_core_rules.specs.State.{Shown}
use Rattle.flow_core_rules.specs.declared.issues.Issue.{Issue}
use Rattle.flow_core_rules.specs.declared.issues.IssuePhase.{IssuePhase}
use Rattle.flow_core_rules.specs.declared.issues.IssuePhase.TheVariants as issue_phase
use Rattle.flow_core_rules.specs.declared.phases.Phase.{Phase}
use Rattle.flow_core_rules.specs.declared.phases.Phase.TheVariants as phase
use Rattle.flow_core_rules.specs.declared.tasks.Task.{Task}
use Rattle.cacao_view_graph.specs.Cutting.{behind, behind_head, behind_way, behind_words, first_line, lines_behind, lines_from_issue, lines_from_task, way_of, way_text, way_told}
use Rattle.cacao_view_graph.specs.Notes.{issue_text, task_text}
use Rattle.cacao_view_graph.proofs.CutLemmas.{Free, behind_is, first_line_is, free_append, free_decimal}

-- ---- the head

-- a line of a word and a number
one_line : (first number rest : List ℕ) → line_from first (number ∷ []) ++ rest ≡ (first ++ 32 ∷ number) ++ 10 ∷ rest
one_line first number rest =
    append_assoc first (32 ∷ (number ++ 10 ∷ [])) rest ∙ ap (λ l. first ++ 32 ∷ l) (append_assoc number (10 ∷ []) rest) ∙ sym (append_assoc first (32 ∷ number) (10 ∷ rest))

past_line : (first : List ℕ) (n : ℕ) (rest : List ℕ) → Free 10 first → behind 10 (line_from first (decimal n ∷ []) ++ rest) ≡ rest
past_line first n rest free =
    ap (behind 10) (one_line first (decimal n) rest) ∙ behind_is 10 (first ++ 32 ∷ decimal n) rest (free_append 10 first (32 ∷ decimal n) free (free_append 10 (32 ∷ []) (decimal n) refl (free_decimal 10 n (omega arith))))

pub head_is : (s : Shown) (count : ℕ) → behind_head (report s count) ≡ lines_from_task s 0
head_is s count =
    ap (λ l. behind 10 (behind 10 l)) (past_line (codes "run") s.run _ refl) ∙ ap (behind 10) (past_line (codes "records") count _ refl) ∙ past_line (codes "moment") s.moment _ refl

-- ---- a task

-- how a task stands, behind the space before
abbrev phase_text : Shown → ℕ → Phase → List ℕ
phase_text s t (phase.Ended true) = codes "ended ok\n"
phase_text s t (phase.Ended false) = codes "ended failed\n"
phase_text s t other = codes "at " ++ (key_of s t ++ 10 ∷ [])

phase_line : (s : Shown) (t : ℕ) (p : Phase) → line (phase_words s t p) ≡ 32 ∷ phase_text s t p
phase_line s t (phase.Ended true) = refl
phase_line s t (phase.Ended false) = refl
phase_line s t (phase.At since) = refl
phase_line s t (phase.Sending place) = refl
phase_line s t (phase.Awaiting place issue) = refl
phase_line s t (phase.Joining from) = refl

told_is : (s : Shown) (t : ℕ) (p : Phase) (rest : List ℕ) → way_told (phase_text s t p ++ rest) ≡ way_of p
told_is s t (phase.Ended true) rest = refl
told_is s t (phase.Ended false) rest = refl
told_is s t (phase.At since) rest = refl
told_is s t (phase.Sending place) rest = refl
told_is s t (phase.Awaiting place issue) rest = refl
told_is s t (phase.Joining from) rest = refl

drop_key : (key rest : List ℕ) → drop (length key + 1) ((key ++ 10 ∷ []) ++ rest) ≡ rest
drop_key [] rest = refl
drop_key (k ∷ key) rest = ap (λ n. drop n (k ∷ ((key ++ 10 ∷ []) ++ rest))) (let e : suc (length key) + 1 ≡ suc (length key + 1) = omega arith in e) ∙ drop_key key rest

at_past : (key rest : List ℕ) → drop (4 + length key) ((codes "at " ++ (key ++ 10 ∷ [])) ++ rest) ≡ rest
at_past key rest =
    ap (λ n. drop n ((codes "at " ++ (key ++ 10 ∷ [])) ++ rest)) (let e : 4 + length key ≡ suc (suc (suc (length key + 1))) = omega arith in e) ∙ drop_key key rest

way_past : (s : Shown) (t : ℕ) (p : Phase) (rest : List ℕ) → behind_way (length (key_of s t)) (way_of p) (phase_text s t p ++ rest) ≡ rest
way_past s t (phase.Ended true) rest = behind_is 10 (codes "ended ok") rest refl
way_past s t (phase.Ended false) rest = behind_is 10 (codes "ended failed") rest refl
way_past s t (phase.At since) rest = at_past (key_of s t) rest
way_past s t (phase.Sending place) rest = at_past (key_of s t) rest
way_past s t (phase.Awaiting place issue) rest = at_past (key_of s t) rest
way_past s t (phase.Joining from) rest = at_past (key_of s t) rest

pub way_noted : (t : ℕ) (p : Phase) → way_text t (way_of p) ≡ task_text t p
way_noted t (phase.Ended true) = refl
way_noted t (phase.Ended false) = refl
way_noted t (phase.At since) = refl
way_noted t (phase.Sending place) = refl
way_noted t (phase.Awaiting place issue) = refl
way_noted t (phase.Joining from) = refl

free_maybe : (o : Option ℕ) → Free 32 (maybe_number o)
free_maybe None = refl
free_maybe (Some n) = free_decimal 32 n (omega arith)

-- three words, and what stands behind them
words_past : (a b c rest : List ℕ) → Free 32 a → Free 32 b → Free 32 c → behind_words (a ++ 32 ∷ (b ++ 32 ∷ (c ++ 32 ∷ rest))) ≡ rest
words_past a b c rest e f g =
    ap (λ l. behind 32 (behind 32 l)) (behind_is 32 a (b ++ 32 ∷ (c ++ 32 ∷ rest)) e) ∙ ap (behind 32) (behind_is 32 b (c ++ 32 ∷ rest) f) ∙ behind_is 32 c rest g

task_line : (s : Shown) (t : ℕ) (task : Task) (rest : List ℕ)
    → line_from (codes "task") (decimal t ∷ maybe_number task.parent ∷ phase_words s t task.phase) ++ rest
    ≡ codes "task" ++ 32 ∷ (decimal t ++ 32 ∷ (maybe_number task.parent ++ 32 ∷ (phase_text s t task.phase ++ rest)))
task_line s t task rest =
    ap (λ l. codes "task" ++ 32 ∷ l) (append_assoc (decimal t) (32 ∷ (maybe_number task.parent ++ line (phase_words s t task.phase))) rest
    ∙ ap (λ l. decimal t ++ 32 ∷ l) (append_assoc (maybe_number task.parent) (line (phase_words s t task.phase)) rest ∙ ap (λ l. maybe_number task.parent ++ (l ++ rest)) (phase_line s t task.phase)))

-- the lines from a task on, taken apart
pub record IsTaskCut (s : Shown) (t : ℕ) (task : Task) (words : List ℕ) : Type 0 where
  pub way : way_told words ≡ way_of task.phase
  pub rest : behind_way (length (key_of s t)) (way_of task.phase) words ≡ lines_from_task s (t + 1)

pub task_cut : (s : Shown) (t : ℕ) (task : Task) → drop t s.lists.tasks ≡ task ∷ drop (t + 1) s.lists.tasks → IsTaskCut s t task (behind_words (lines_from_task s t))
task_cut s t task at =
    let next : suc t ≡ t + 1 = omega arith in
    let more : List ℕ = task_lines s (suc t) (drop (t + 1) s.lists.tasks) ++ lines_behind s in
    let first : List ℕ = line_from (codes "task") (decimal t ∷ maybe_number task.parent ∷ phase_words s t task.phase) in
    let text : lines_from_task s t ≡ first ++ more =
    ap (λ l. task_lines s t l ++ lines_behind s) at ∙ append_assoc first (task_lines s (suc t) (drop (t + 1) s.lists.tasks)) (lines_behind s) in
    let words : behind_words (lines_from_task s t) ≡ phase_text s t task.phase ++ more =
    ap behind_words (text ∙ task_line s t task more)
    ∙ words_past (codes "task") (decimal t) (maybe_number task.parent) (phase_text s t task.phase ++ more) refl (free_decimal 32 t (omega arith)) (free_maybe task.parent) in
    record {
      way = ap way_told words ∙ told_is s t task.phase more;
      rest = ap (behind_way (length (key_of s t)) (way_of task.phase)) words ∙ way_past s t task.phase more ∙ ap (λ n. task_lines s n (drop (t + 1) s.lists.tasks) ++ lines_behind s) next;
    }

-- behind the last task stand the issues
pub past_tasks : (s : Shown) (t : ℕ) → drop t s.lists.tasks ≡ [] → lines_from_task s t ≡ lines_from_issue s 0
past_tasks s t none = ap (λ l. task_lines s t l ++ lines_behind s) none

-- ---- an issue

abbrev phase_word : IssuePhase → List ℕ
phase_word issue_phase.Waiting = codes "waiting"
phase_word (issue_phase.Answered status) = codes "answered " ++ decimal status
phase_word (issue_phase.Told status) = codes "told " ++ decimal status
phase_word issue_phase.Expired = codes "expired"

free_phase : (p : IssuePhase) → Free 10 (phase_word p)
free_phase issue_phase.Waiting = refl
free_phase (issue_phase.Answered status) = free_append 10 (codes "answered ") (decimal status) refl (free_decimal 10 status (omega arith))
free_phase (issue_phase.Told status) = free_append 10 (codes "told ") (decimal status) refl (free_decimal 10 status (omega arith))
free_phase issue_phase.Expired = refl

issue_line : (p : IssuePhase) → line (issue_words p) ≡ 32 ∷ (phase_word p ++ 10 ∷ [])
issue_line issue_phase.Waiting = refl
issue_line (issue_phase.Answered status) = refl
issue_line (issue_phase.Told status) = refl
issue_line issue_phase.Expired = refl

free_agent : (b : Bool) (agent : ℕ) → Free 10 (cond b (codes "-") (decimal agent))
free_agent true agent = refl
free_agent false agent = free_decimal 10 agent (omega arith)

abbrev issue_word : ℕ → Issue → List ℕ
issue_word n issue = codes "issue" ++ 32 ∷ (decimal n ++ 32 ∷ (agent_word issue.agent ++ 32 ∷ phase_word issue.phase))

free_issue : (n : ℕ) (issue : Issue) → Free 10 (issue_word n issue)
free_issue n issue =
    free_append 10 (codes "issue ") (decimal n ++ 32 ∷ (agent_word issue.agent ++ 32 ∷ phase_word issue.phase)) refl
    (free_append 10 (decimal n) (32 ∷ (agent_word issue.agent ++ 32 ∷ phase_word issue.phase)) (free_decimal 10 n (omega arith))
    (free_append 10 (32 ∷ []) (agent_word issue.agent ++ 32 ∷ phase_word issue.phase) refl
    (free_append 10 (agent_word issue.agent) (32 ∷ phase_word issue.phase) (free_agent (issue.agent == 0) issue.agent) (free_append 10 (32 ∷ []) (phase_word issue.phase) refl (free_phase issue.phase)))))

issue_is : (n : ℕ) (issue : Issue) → issue_text n issue ≡ issue_word n issue ++ 10 ∷ []
issue_is n issue =
    ap (λ l. codes "issue" ++ 32 ∷ l) (ap (λ l. decimal n ++ 32 ∷ (agent_word issue.agent ++ l)) (issue_line issue.phase)
    ∙ ap (λ l. decimal n ++ 32 ∷ l) (sym (append_assoc (agent_word issue.agent) (32 ∷ phase_word issue.phase) (10 ∷ [])))
    ∙ sym (append_assoc (decimal n) (32 ∷ (agent_word issue.agent ++ 32 ∷ phase_word issue.phase)) (10 ∷ [])))

-- the lines from an issue on, taken apart
pub record IsIssueCut (s : Shown) (n : ℕ) (issue : Issue) : Type 0 where
  pub text : first_line (lines_from_issue s n) ≡ issue_text n issue
  pub rest : behind 10 (lines_from_issue s n) ≡ lines_from_issue s (n + 1)

pub issue_cut : (s : Shown) (n : ℕ) (issue : Issue) → drop n s.lists.issues ≡ issue ∷ drop (n + 1) s.lists.issues → IsIssueCut s n issue
issue_cut s n issue at =
    let next : suc n ≡ n + 1 = omega arith in
    let last : List ℕ = variable_lines (unwrap_or (slice_get s.lists.texts 0) []) ++ line_from (codes "state") (outcome_words (outcome s.lists)) in
    let more : List ℕ = issue_lines (suc n) (drop (n + 1) s.lists.issues) ++ last in
    let text : lines_from_issue s n ≡ issue_word n issue ++ 10 ∷ more =
    ap (λ l. issue_lines n l ++ last) at ∙ append_assoc (issue_text n issue) (issue_lines (suc n) (drop (n + 1) s.lists.issues)) last
    ∙ ap (λ l. l ++ more) (issue_is n issue) ∙ append_assoc (issue_word n issue) (10 ∷ []) more in
    record {
      text = ap first_line text ∙ first_line_is (issue_word n issue) more (free_issue n issue) ∙ sym (issue_is n issue);
      rest = ap (behind 10) text ∙ behind_is 10 (issue_word n issue) more (free_issue n issue) ∙ ap (λ k. issue_lines k (drop (n + 1) s.lists.issues) ++ last) next;
    }
