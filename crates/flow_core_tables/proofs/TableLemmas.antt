-- Each edit of the lists, with what its parts change in the tables, keeps what the tables are asked to hold.
use Rattle.std.proofs.Common.{◌≡◌, ℕ, zero, suc, ◌<◌, ◌==◌, Bool, true, false, cond, List, [], ◌∷◌, ◌++◌, length, get_or, Option, Some, None, arith, refl, ap, sym, subst, ◌∙◌}
use Rattle.std.specs.Prelude.{slice_get}
use Rattle.std.specs.List.{slice_set}
use Rattle.base_dues.specs.Pairs.{Due, at}
use Rattle.flow_core_rules.specs.declared.tasks.Task.{Task}
use Rattle.flow_core_rules.specs.declared.issues.Issue.{Issue}
use Rattle.flow_core_rules.specs.declared.issues.IssuePhase.{IssuePhase}
use Rattle.flow_core_rules.specs.Givens.{Given}
use Rattle.flow_core_rules.specs.State.{Lists}
use Rattle.flow_core_rules.specs.Edits.{changed_at, shown_edited, makes, moves, issues, closes}
use Rattle.flow_core_rules.specs.Changes.{has_failed, is_waiting}
use Rattle.flow_core_tables.specs.declared.tables.Wait.{Wait}
use Rattle.flow_core_tables.specs.declared.tables.Tables.{Tables}
use Rattle.flow_core_tables.specs.TableFacts.{seen_with, HasTables, ready_of, delay_until_of, deadline_at, question_at}
use Rattle.flow_core_tables.specs.Fits.{IsNewTask, IsMove, IsNewIssue}
use Rattle.flow_core_tables.specs.Waits.{ready_alone, delay_alone, deadline_by, question_by, ready_after, blank_wait, one_more, one_less, told, is_that}
use Rattle.flow_core_tables.proofs.EntryLemmas.{some_inner, same_number, changed_if}
use Rattle.flow_core_tables.proofs.TaskEdits.{HasWaits, HasOwners, make_waits, make_ready, make_delays, make_deadlines, make_owners, make_lengths}
use Rattle.flow_core_tables.proofs.MoveEdits.{move_waits, move_lengths, move_ready, move_delays, move_deadlines, move_owners}
use Rattle.flow_core_tables.proofs.IssueEdits.{issue_deadlines, issue_questions, issue_owners, close_deadlines, close_questions, close_owners, ready_same, delays_same, waits_same}

-- the tables over plain lists
pub record Tells (given : Given) (l : Lists) (ws : List Wait) (r d dl q : List Due) : Type 0 where
  pub waits_len : length ws ≡ length l.tasks
  pub texts_len : length l.texts ≡ length l.scopes
  pub waits : HasWaits l ws
  pub ready : (n : ℕ) → at r n ≡ ready_of (seen_with given l) n
  pub delays : (n : ℕ) → at d n ≡ delay_until_of (seen_with given l) n
  pub deadlines : (n : ℕ) → at dl n ≡ deadline_at (seen_with given l) n
  pub questions : (n : ℕ) → at q n ≡ question_at (seen_with given l) n
  pub owners : HasOwners l

pub tells_of : (given : Given) (l : Lists) (t : Tables) → HasTables (seen_with given l) t → Tells given l t.waits.items t.ready.pairs t.delays.pairs t.deadlines.pairs t.questions.pairs
tells_of given l t h = record {
  waits_len = h.waits_len;
  texts_len = h.texts_len;
  waits = h.waits;
  ready = h.ready;
  delays = h.delays;
  deadlines = h.deadlines;
  questions = h.questions;
  owners = h.owners;
}

tables_from : (given : Given) (l : Lists) (t : Tables) → Tells given l t.waits.items t.ready.pairs t.delays.pairs t.deadlines.pairs t.questions.pairs → HasTables (seen_with given l) t
tables_from given l t h = record {
  waits_len = h.waits_len;
  texts_len = h.texts_len;
  waits = h.waits;
  ready = h.ready;
  delays = h.delays;
  deadlines = h.deadlines;
  questions = h.questions;
  owners = h.owners;
}

pub tables_of : (given : Given) (l m : Lists) (t : Tables) → l ≡ m → Tells given m t.waits.items t.ready.pairs t.delays.pairs t.deadlines.pairs t.questions.pairs → HasTables (seen_with given l) t
tables_of given l m t e h = subst (λ (x : Lists). HasTables (seen_with given x) t) (sym e) (tables_from given m t h)

pub make_tells : (given : Given) (l : Lists) (task : Task) (number : ℕ) (ws us : List Wait) (r r1 r2 d d1 dl q : List Due) → Tells given l ws r d dl q → IsNewTask l task → number ≡ length l.tasks
    → us ≡ changed_if task.parent one_more (ws ++ blank_wait ∷ [])
    → ((n : ℕ) → at r1 n ≡ cond (is_that n task.parent) None (at r n))
    → ((n : ℕ) → at r2 n ≡ cond (n == number) (ready_alone given task task.phase) (at r1 n))
    → ((n : ℕ) → at d1 n ≡ cond (n == number) (delay_alone given task task.phase) (at d n))
    → Tells given (shown_edited (makes task) l) us r2 d1 dl q
make_tells given l task number ws us r r1 r2 d d1 dl q h f number_is us_is e1 e2 e3 = record {
  waits_len = make_lengths l task ws us h.waits_len us_is;
  texts_len = h.texts_len;
  waits = make_waits l task ws us h.waits_len h.waits f us_is;
  ready = make_ready given l task number r r1 r2 f number_is h.ready e1 e2;
  delays = make_delays given l task number d d1 number_is h.delays e3;
  deadlines = λ n. h.deadlines n ∙ sym (make_deadlines given l task h.owners n);
  questions = h.questions;
  owners = make_owners l task h.owners;
}

pub move_tells : (given : Given) (l : Lists) (t : ℕ) (new : Task) (failed : Bool) (ws us : List Wait) (r r1 r2 d d1 dl q : List Due) → Tells given l ws r d dl q → IsMove l t new → failed ≡ has_failed new.phase
    → us ≡ changed_if (told new.parent new.phase) (one_less failed) (slice_set ws t blank_wait)
    → ((n : ℕ) → at r1 n ≡ cond (n == t) (ready_alone given new new.phase) (at r n))
    → ((n : ℕ) (wait : Wait) → slice_get us n ≡ Some wait → at r2 n ≡ cond (is_that n (told new.parent new.phase)) (ready_after wait.open) (at r1 n))
    → ((n : ℕ) → is_that n (told new.parent new.phase) ≡ false → at r2 n ≡ at r1 n)
    → ((n : ℕ) → at d1 n ≡ cond (n == t) (delay_alone given new new.phase) (at d n))
    → Tells given (shown_edited (moves t new) l) us r2 d1 dl q
move_tells given l t new failed ws us r r1 r2 d d1 dl q h m failed_is us_is e1 e2 e3 e4 = record {
  waits_len = move_lengths l t new failed ws us h.waits_len us_is;
  texts_len = h.texts_len;
  waits = move_waits l t new failed ws us h.waits_len h.waits m failed_is us_is;
  ready = move_ready given l t new failed ws us r r1 r2 h.waits_len h.waits m us_is h.ready e1 e2 e3;
  delays = move_delays given l t new d d1 m h.delays e4;
  deadlines = λ n. h.deadlines n ∙ sym (move_deadlines given l t new m n);
  questions = h.questions;
  owners = move_owners l t new h.owners;
}

pub issue_tells : (given : Given) (l : Lists) (issue : Issue) (task : Task) (number : ℕ) (ws : List Wait) (r d dl dl1 q q1 : List Due) → Tells given l ws r d dl q → IsNewIssue l issue → number ≡ length l.issues
    → slice_get l.tasks issue.task ≡ Some task
    → ((n : ℕ) → at dl1 n ≡ cond (n == number) (deadline_by given task issue) (at dl n))
    → ((n : ℕ) → at q1 n ≡ cond (n == number) (question_by issue) (at q n))
    → Tells given (shown_edited (issues issue) l) ws r d dl1 q1
issue_tells given l issue task number ws r d dl dl1 q q1 h f number_is there e1 e2 = record {
  waits_len = h.waits_len;
  texts_len = h.texts_len;
  waits = waits_same l (shown_edited (issues issue) l) ws refl h.waits;
  ready = λ n. h.ready n ∙ ready_same given l (shown_edited (issues issue) l) refl n;
  delays = λ n. h.delays n ∙ delays_same given l (shown_edited (issues issue) l) refl n;
  deadlines = issue_deadlines given l issue task number dl dl1 number_is there h.deadlines e1;
  questions = issue_questions given l issue number q q1 number_is h.questions e2;
  owners = issue_owners l issue h.owners f.task_is;
}

pub close_tells : (given : Given) (l : Lists) (t : ℕ) (end : IssuePhase) (ws : List Wait) (r d dl dl1 q q1 : List Due) → Tells given l ws r d dl q → t < length l.issues → is_waiting end ≡ false
    → ((n : ℕ) → at dl1 n ≡ cond (n == t) None (at dl n))
    → ((n : ℕ) → at q1 n ≡ cond (n == t) None (at q n))
    → Tells given (shown_edited (closes t end) l) ws r d dl1 q1
close_tells given l t end ws r d dl dl1 q q1 h inside over e1 e2 = record {
  waits_len = h.waits_len;
  texts_len = h.texts_len;
  waits = waits_same l (shown_edited (closes t end) l) ws refl h.waits;
  ready = λ n. h.ready n ∙ ready_same given l (shown_edited (closes t end) l) refl n;
  delays = λ n. h.delays n ∙ delays_same given l (shown_edited (closes t end) l) refl n;
  deadlines = close_deadlines given l t end dl dl1 inside over h.deadlines e1;
  questions = close_questions given l t end q q1 inside over h.questions e2;
  owners = close_owners l t end h.owners inside;
}

-- ---- elements in their places

pub changed_is_set : {A : Type 0} (f : A → A) (xs : List A) (n : ℕ) (x : A) → n < length xs → x ≡ get_or xs n x → slice_set xs n (f x) ≡ changed_at n f xs
changed_is_set f [] n x h e = absurd (omega arith)
changed_is_set f (y ∷ ys) zero x h e = ap (λ z. f z ∷ ys) e
changed_is_set {A} f (y ∷ ys) (suc n) x h e = ap (λ (r : List A). y ∷ r) (changed_is_set f ys n x (omega arith) e)

pub read_there : {A : Type 0} (xs : List A) (n : ℕ) (x : A) → n < length xs → x ≡ get_or xs n x → slice_get xs n ≡ Some x
read_there [] n x h e = absurd (omega arith)
read_there (y ∷ ys) zero x h e = ap Some (sym e)
read_there (y ∷ ys) (suc n) x h e = read_there ys n x (omega arith) e

-- the task that is told has its new wait
pub told_ready : (ws : List Wait) (p : ℕ) (new : Wait) (x : Option ℕ) (n : ℕ) (wait : Wait) → p < length ws → slice_get (slice_set ws p new) n ≡ Some wait
    → cond (n == p) (ready_after new.open) x ≡ cond (n == p) (ready_after wait.open) x
told_ready ws p new x n wait inside e = by (n == p) refl
  where
    there : (xs : List Wait) (p : ℕ) → p < length xs → slice_get (slice_set xs p new) p ≡ Some new
    there [] p lt = absurd (omega arith)
    there (y ∷ ys) zero lt = refl
    there (y ∷ ys) (suc p) lt = there ys p (omega arith)

    by : (b : Bool) → (n == p) ≡ b → cond b (ready_after new.open) x ≡ cond b (ready_after wait.open) x
    by true f =
        let here : n ≡ p = same_number n p f in
        ap (λ (w : Wait). ready_after w.open) (some_inner new wait (sym (there ws p inside) ∙ ap (slice_get (slice_set ws p new)) (sym here) ∙ e))
    by false f = refl

-- the same where the task that is told has a name
pub move_tells_by : (given : Given) (l : Lists) (t : ℕ) (new : Task) (failed : Bool) (parent : Option ℕ) (ws us : List Wait) (r r1 r2 d d1 dl q : List Due) → Tells given l ws r d dl q → IsMove l t new
    → failed ≡ has_failed new.phase → parent ≡ told new.parent new.phase
    → us ≡ changed_if parent (one_less failed) (slice_set ws t blank_wait)
    → ((n : ℕ) → at r1 n ≡ cond (n == t) (ready_alone given new new.phase) (at r n))
    → ((n : ℕ) (wait : Wait) → slice_get us n ≡ Some wait → at r2 n ≡ cond (is_that n parent) (ready_after wait.open) (at r1 n))
    → ((n : ℕ) → is_that n parent ≡ false → at r2 n ≡ at r1 n)
    → ((n : ℕ) → at d1 n ≡ cond (n == t) (delay_alone given new new.phase) (at d n))
    → Tells given (shown_edited (moves t new) l) us r2 d1 dl q
move_tells_by given l t new failed parent ws us r r1 r2 d d1 dl q h m failed_is parent_is us_is e1 e2 e3 e4 =
    let e : told new.parent new.phase ≡ parent = sym parent_is in
    move_tells given l t new failed ws us r r1 r2 d d1 dl q h m failed_is (us_is ∙ ap (λ (o : Option ℕ). changed_if o (one_less failed) (slice_set ws t blank_wait)) parent_is) e1
    (λ n wait there. e2 n wait there ∙ ap (λ (o : Option ℕ). cond (is_that n o) (ready_after wait.open) (at r1 n)) parent_is)
    (λ n apart. e3 n (ap (is_that n) parent_is ∙ apart)) e4
