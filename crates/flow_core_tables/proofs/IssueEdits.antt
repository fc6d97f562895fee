-- An issue is added or ends: what the tables of issues hold then.
use Rattle.std.proofs.Common.{◌≡◌, ℕ, ◌+◌, ◌<◌, ◌==◌, Bool, true, false, cond, List, [], ◌∷◌, ◌++◌, length, Option, Some, None, refl, ap, sym, subst, ◌∙◌}
use Rattle.std.specs.Prelude.{slice_get, option_and_then, not}
use Rattle.std.specs.Option.{option_map_or}
use Rattle.base_dues.specs.Pairs.{Due, at}
use Rattle.flow_core_rules.specs.declared.tasks.Task.{Task}
use Rattle.flow_core_rules.specs.declared.issues.Issue.{Issue}
use Rattle.flow_core_rules.specs.declared.issues.IssuePhase.{IssuePhase}
use Rattle.flow_core_rules.specs.Givens.{Given, step_at}
use Rattle.flow_core_rules.specs.State.{Lists}
use Rattle.flow_core_rules.specs.Edits.{changed_at, closed, shown_edited, issues, closes}
use Rattle.flow_core_rules.specs.Changes.{is_waiting}
use Rattle.flow_core_rules.specs.Moves.{has_deadline, is_question}
use Rattle.flow_core_tables.specs.TableFacts.{seen_with, ready_of, delay_until_of, deadline_at, question_at}
use Rattle.flow_core_tables.specs.declared.tables.Wait.{Wait}
use Rattle.flow_core_tables.specs.Waits.{deadline_by, question_by}
use Rattle.flow_core_tables.proofs.EntryLemmas.{some_inner, same_number, within_some, get_last, get_front, changed_there, changed_apart, counts_to, counts_from, CountsAt, ready_plain, ready_is, delay_plain, delay_is, timeout_at, differ}
use Rattle.flow_core_tables.proofs.TaskEdits.{HasWaits, HasOwners, no_child}

-- ---- an issue is added

abbrev deadline_in : Given → List Task → Option Issue → Option ℕ
deadline_in given ts o = option_and_then (λ (issue : Issue). cond (has_deadline issue) (Some (issue.moment + timeout_at given ts issue.task)) None) o

abbrev question_in : Option Issue → Option ℕ
question_in o = option_and_then (λ (issue : Issue). cond (is_question issue) (Some 0) None) o

pub issue_deadlines : (given : Given) (l : Lists) (issue : Issue) (task : Task) (number : ℕ) (q one : List Due) → number ≡ length l.issues → slice_get l.tasks issue.task ≡ Some task
    → ((n : ℕ) → at q n ≡ deadline_at (seen_with given l) n)
    → ((n : ℕ) → at one n ≡ cond (n == number) (deadline_by given task issue) (at q n))
    → (n : ℕ) → at one n ≡ deadline_at (seen_with given (shown_edited (issues issue) l)) n
issue_deadlines given l issue task number q one number_is there h e n =
    e n ∙ ap (λ m. cond (n == m) (deadline_by given task issue) (at q n)) number_is ∙ by (n == length l.issues) refl
  where
    by : (b : Bool) → (n == length l.issues) ≡ b → cond b (deadline_by given task issue) (at q n) ≡ deadline_in given l.tasks (slice_get (l.issues ++ issue ∷ []) n)
    by true f =
        let here : length l.issues ≡ n = sym (same_number n (length l.issues) f) in
        let last : slice_get (l.issues ++ issue ∷ []) n ≡ Some issue = ap (slice_get (l.issues ++ issue ∷ [])) (sym here) ∙ get_last l.issues issue in
        ap (λ (x : Option Task). cond (has_deadline issue) (Some (issue.moment + option_map_or (λ step. step.timeout) (option_and_then (λ (y : Task). step_at given y.book y.step) x) 0)) None) (sym there)
        ∙ ap (deadline_in given l.tasks) (sym last)
    by false f = h n ∙ ap (deadline_in given l.tasks) (sym (get_front l.issues issue n f))

pub issue_questions : (given : Given) (l : Lists) (issue : Issue) (number : ℕ) (q one : List Due) → number ≡ length l.issues
    → ((n : ℕ) → at q n ≡ question_at (seen_with given l) n)
    → ((n : ℕ) → at one n ≡ cond (n == number) (question_by issue) (at q n))
    → (n : ℕ) → at one n ≡ question_at (seen_with given (shown_edited (issues issue) l)) n
issue_questions given l issue number q one number_is h e n =
    e n ∙ ap (λ m. cond (n == m) (question_by issue) (at q n)) number_is ∙ by (n == length l.issues) refl
  where
    by : (b : Bool) → (n == length l.issues) ≡ b → cond b (question_by issue) (at q n) ≡ question_in (slice_get (l.issues ++ issue ∷ []) n)
    by true f =
        let here : length l.issues ≡ n = sym (same_number n (length l.issues) f) in
        ap question_in (sym (ap (slice_get (l.issues ++ issue ∷ [])) (sym here) ∙ get_last l.issues issue))
    by false f = h n ∙ ap question_in (sym (get_front l.issues issue n f))

pub issue_owners : (l : Lists) (issue : Issue) → HasOwners l → issue.task < length l.tasks → HasOwners (shown_edited (issues issue) l)
issue_owners l issue o inside n x e = by (n == length l.issues) refl
  where
    by : (b : Bool) → (n == length l.issues) ≡ b → x.task < length l.tasks
    by true f =
        let here : length l.issues ≡ n = sym (same_number n (length l.issues) f) in
        let same : issue ≡ x = some_inner issue x (sym (get_last l.issues issue) ∙ ap (slice_get (l.issues ++ issue ∷ [])) here ∙ e) in
        subst (λ (y : Issue). y.task < length l.tasks) same inside
    by false f = o n x (sym (get_front l.issues issue n f) ∙ e)

-- ---- an issue ends

pub close_deadlines : (given : Given) (l : Lists) (t : ℕ) (end : IssuePhase) (q one : List Due) → t < length l.issues → is_waiting end ≡ false
    → ((n : ℕ) → at q n ≡ deadline_at (seen_with given l) n)
    → ((n : ℕ) → at one n ≡ cond (n == t) None (at q n))
    → (n : ℕ) → at one n ≡ deadline_at (seen_with given (shown_edited (closes t end) l)) n
close_deadlines given l t end q one inside over h e n = e n ∙ by (n == t) refl
  where
    by : (b : Bool) → (n == t) ≡ b → cond b None (at q n) ≡ deadline_in given l.tasks (slice_get (changed_at t (closed end) l.issues) n)
    by true f =
        let w = within_some l.issues t inside in
        let here : slice_get (changed_at t (closed end) l.issues) n ≡ Some (closed end w.0) =
        ap (slice_get (changed_at t (closed end) l.issues)) (same_number n t f) ∙ changed_there t (closed end) l.issues w.0 w.1 in
        ap (λ b. cond b (Some ((w.0).moment + timeout_at given l.tasks (w.0).task)) None) (sym (no_child (is_waiting end) (not ((w.0).agent == 0)) over))
        ∙ ap (deadline_in given l.tasks) (sym here)
    by false f = h n ∙ ap (deadline_in given l.tasks) (sym (changed_apart t (closed end) l.issues n (differ n t f)))

pub close_questions : (given : Given) (l : Lists) (t : ℕ) (end : IssuePhase) (q one : List Due) → t < length l.issues → is_waiting end ≡ false
    → ((n : ℕ) → at q n ≡ question_at (seen_with given l) n)
    → ((n : ℕ) → at one n ≡ cond (n == t) None (at q n))
    → (n : ℕ) → at one n ≡ question_at (seen_with given (shown_edited (closes t end) l)) n
close_questions given l t end q one inside over h e n = e n ∙ by (n == t) refl
  where
    by : (b : Bool) → (n == t) ≡ b → cond b None (at q n) ≡ question_in (slice_get (changed_at t (closed end) l.issues) n)
    by true f =
        let w = within_some l.issues t inside in
        let here : slice_get (changed_at t (closed end) l.issues) n ≡ Some (closed end w.0) =
        ap (slice_get (changed_at t (closed end) l.issues)) (same_number n t f) ∙ changed_there t (closed end) l.issues w.0 w.1 in
        ap (λ b. cond b (Some 0) None) (sym (no_child (is_waiting end) ((w.0).agent == 0) over)) ∙ ap question_in (sym here)
    by false f = h n ∙ ap question_in (sym (changed_apart t (closed end) l.issues n (differ n t f)))

pub close_owners : (l : Lists) (t : ℕ) (end : IssuePhase) → HasOwners l → t < length l.issues → HasOwners (shown_edited (closes t end) l)
close_owners l t end o inside n x e = by (n == t) refl
  where
    by : (b : Bool) → (n == t) ≡ b → x.task < length l.tasks
    by true f =
        let w = within_some l.issues t inside in
        let same : closed end w.0 ≡ x = some_inner (closed end w.0) x (sym (changed_there t (closed end) l.issues w.0 w.1) ∙ ap (slice_get (changed_at t (closed end) l.issues)) (sym (same_number n t f)) ∙ e) in
        subst (λ (y : Issue). y.task < length l.tasks) same (o t w.0 w.1)
    by false f = o n x (sym (changed_apart t (closed end) l.issues n (differ n t f)) ∙ e)

-- ---- where the tasks stay

pub ready_same : (given : Given) (l m : Lists) → m.tasks ≡ l.tasks → (n : ℕ) → ready_of (seen_with given l) n ≡ ready_of (seen_with given m) n
ready_same given l m e n = ready_is given l n ∙ ap (λ (ts : List Task). ready_plain given ts n) (sym e) ∙ sym (ready_is given m n)

pub delays_same : (given : Given) (l m : Lists) → m.tasks ≡ l.tasks → (n : ℕ) → delay_until_of (seen_with given l) n ≡ delay_until_of (seen_with given m) n
delays_same given l m e n = delay_is given l n ∙ ap (λ (ts : List Task). delay_plain given ts n) (sym e) ∙ sym (delay_is given m n)

pub waits_same : (l m : Lists) (ws : List Wait) → m.tasks ≡ l.tasks → HasWaits l ws → HasWaits m ws
waits_same l m ws e h n task wait there here =
    counts_from m n task.phase wait
    (subst (λ (ts : List Task). CountsAt ts n task.phase wait) (sym e) (counts_to l n task.phase wait (h n task wait (subst (λ (ts : List Task). slice_get ts n ≡ Some task) e there) here)))
