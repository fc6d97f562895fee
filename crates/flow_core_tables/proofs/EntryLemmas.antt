-- What each table holds of a task or an issue, over plain lists.
use Rattle.std.proofs.Common.{◌≡◌, ℕ, zero, suc, ◌+◌, ◌<◌, ◌==◌, ◌&&◌, Bool, true, false, cond, List, [], ◌∷◌, ◌++◌, length, drop, Option, Some, None, arith, refl, ap, sym, subst, ◌∙◌}
use Rattle.std.specs.Prelude.{count_by, slice_get, option_and_then, nat_eq, not}
use Rattle.std.specs.List.{slice_set, list_any}
use Rattle.std.specs.Option.{option_map_or}
use Rattle.base_dues.specs.Pairs.{at}
use Rattle.flow_core_rules.specs.declared.tasks.Task.{Task}
use Rattle.flow_core_rules.specs.declared.issues.Issue.{Issue}
use Rattle.flow_core_rules.specs.declared.phases.Phase.{Phase}
use Rattle.flow_core_rules.specs.declared.phases.Phase.TheVariants as phase
use Rattle.flow_core_rules.specs.Givens.{Given, step_at}
use Rattle.flow_core_rules.specs.State.{Lists}
use Rattle.flow_core_rules.specs.Edits.{changed_at}
use Rattle.flow_core_rules.specs.Changes.{has_ended, is_child_of, is_waiting}
use Rattle.flow_core_rules.specs.Moves.{ready_at, has_deadline}
use Rattle.flow_core_tables.specs.declared.tables.Wait.{Wait}
use Rattle.flow_core_tables.specs.TableFacts.{seen_with, ready_of, delay_in, delay_until_of, deadline_at, goes_on, failed_child, Counts}
use Rattle.flow_core_tables.specs.Waits.{delay_by, ready_alone, delay_alone, ready_after, is_that}
use Rattle.flow_core_tables.proofs.CountLemmas.{all_or_count}

-- ---- places of lists

pub none_some : {A : Type 0} (x : A) → None ≡ Some x → ⊥
none_some x h = cc

pub some_inner : {A : Type 0} (x y : A) → Some x ≡ Some y → x ≡ y
some_inner x y e = cc

pub same_number : (x y : ℕ) → (x == y) ≡ true → x ≡ y
same_number x y h = grind arith

pub other_number : (x y : ℕ) → (x ≡ y → ⊥) → (x == y) ≡ false
other_number x y h = by (x == y) refl
  where
    by : (b : Bool) → (x == y) ≡ b → b ≡ false
    by true e = absurd (h (same_number x y e))
    by false e = refl

pub clash : (b : Bool) → b ≡ true → b ≡ false → ⊥
clash true x y = cc
clash false x y = cc

pub same_yes : (x y : ℕ) → x ≡ y → (x == y) ≡ true
same_yes x y h = grind arith

pub differ : (x y : ℕ) → (x == y) ≡ false → x ≡ y → ⊥
differ x y e h = clash (x == y) (same_yes x y h) e

pub within_some : {A : Type 0} (xs : List A) (n : ℕ) → n < length xs → (x : A) × (slice_get xs n ≡ Some x)
within_some [] n lt = absurd (omega arith)
within_some (x ∷ xs) zero lt = (x, refl)
within_some (x ∷ xs) (suc n) lt = within_some xs n (omega arith)

pub get_last : {A : Type 0} (xs : List A) (x : A) → slice_get (xs ++ x ∷ []) (length xs) ≡ Some x
get_last [] x = refl
get_last (y ∷ xs) x = get_last xs x

pub get_front : {A : Type 0} (xs : List A) (x : A) (n : ℕ) → (n == length xs) ≡ false → slice_get (xs ++ x ∷ []) n ≡ slice_get xs n
get_front [] x zero e = absurd (clash (0 == 0) refl e)
get_front [] x (suc zero) e = refl
get_front [] x (suc (suc n)) e = refl
get_front (y ∷ xs) x zero e = refl
get_front (y ∷ xs) x (suc n) e = get_front xs x n (other_number n (length xs) (λ same. differ (suc n) (suc (length xs)) e (ap suc same)))

pub set_apart : {A : Type 0} (xs : List A) (t : ℕ) (new : A) (n : ℕ) → (n ≡ t → ⊥) → slice_get (slice_set xs t new) n ≡ slice_get xs n
set_apart [] t new n apart = refl
set_apart (x ∷ xs) zero new zero apart = absurd (apart refl)
set_apart (x ∷ xs) zero new (suc n) apart = refl
set_apart (x ∷ xs) (suc t) new zero apart = refl
set_apart (x ∷ xs) (suc t) new (suc n) apart = set_apart xs t new n (λ h. apart (ap suc h))

pub changed_there : {A : Type 0} (n : ℕ) (f : A → A) (xs : List A) (x : A) → slice_get xs n ≡ Some x → slice_get (changed_at n f xs) n ≡ Some (f x)
changed_there n f [] x e = absurd (none_some x e)
changed_there zero f (y ∷ xs) x e = ap (λ z. Some (f z)) (some_inner y x e)
changed_there (suc n) f (y ∷ xs) x e = changed_there n f xs x e

pub changed_apart : {A : Type 0} (t : ℕ) (f : A → A) (xs : List A) (n : ℕ) → (n ≡ t → ⊥) → slice_get (changed_at t f xs) n ≡ slice_get xs n
changed_apart t f [] n apart = refl
changed_apart zero f (y ∷ xs) zero apart = absurd (apart refl)
changed_apart zero f (y ∷ xs) (suc n) apart = refl
changed_apart (suc t) f (y ∷ xs) zero apart = refl
changed_apart (suc t) f (y ∷ xs) (suc n) apart = changed_apart t f xs n (λ h. apart (ap suc h))

pub changed_length : {A : Type 0} (n : ℕ) (f : A → A) (xs : List A) → length (changed_at n f xs) ≡ length xs
changed_length n f [] = refl
changed_length zero f (x ∷ xs) = refl
changed_length (suc n) f (x ∷ xs) = ap suc (changed_length n f xs)

-- the element at a place, where there is that place, changed
abbrev pub changed_if : {A : Type 0} → Option ℕ → (A → A) → List A → List A
changed_if o f xs = option_map_or (λ p. changed_at p f xs) o xs

pub is_that_some : (n : ℕ) (o : Option ℕ) → is_that n o ≡ true → o ≡ Some n
is_that_some n None e = absurd (clash false e refl)
is_that_some n (Some k) e = ap Some (sym (same_number n k e))

pub that_is : (n : ℕ) → is_that n (Some n) ≡ true
that_is n = grind arith

pub if_there : {A : Type 0} (n : ℕ) (o : Option ℕ) (f : A → A) (xs : List A) (x : A) → o ≡ Some n → slice_get xs n ≡ Some x → slice_get (changed_if o f xs) n ≡ Some (f x)
if_there n o f xs x e there = ap (λ p. slice_get (changed_if p f xs) n) e ∙ changed_there n f xs x there

pub if_apart : {A : Type 0} (n : ℕ) (o : Option ℕ) (f : A → A) (xs : List A) → is_that n o ≡ false → slice_get (changed_if o f xs) n ≡ slice_get xs n
if_apart n None f xs e = refl
if_apart n (Some k) f xs e = changed_apart k f xs n (λ same. clash (nat_eq n k) (ap (nat_eq n) (sym same) ∙ that_is n) e)

pub if_length : {A : Type 0} (o : Option ℕ) (f : A → A) (xs : List A) → length (changed_if o f xs) ≡ length xs
if_length None f xs = refl
if_length (Some k) f xs = changed_length k f xs

-- ---- the counts of a task

abbrev pub open_of : List Task → ℕ → ℕ → ℕ
open_of ts n from = count_by (goes_on n) (drop from ts)

abbrev pub failed_of : List Task → ℕ → ℕ → Bool
failed_of ts n from = list_any (failed_child n) (drop from ts)

abbrev pub CountsAt : List Task → ℕ → Phase → Wait → Type 0
CountsAt ts n p wait = (from : ℕ) → p ≡ phase.Joining from → (wait.open ≡ open_of ts n from) × (wait.failed ≡ failed_of ts n from)

pub counts_to : (l : Lists) (n : ℕ) (p : Phase) (wait : Wait) → Counts l n p wait → CountsAt l.tasks n p wait
counts_to l n p wait h from e = subst (λ (x : Phase). Counts l n x wait) e h

pub counts_from : (l : Lists) (n : ℕ) (p : Phase) (wait : Wait) → CountsAt l.tasks n p wait → Counts l n p wait
counts_from l n (phase.Joining from) wait h = h from refl
counts_from l n (phase.At since) wait h = tt
counts_from l n (phase.Sending place) wait h = tt
counts_from l n (phase.Awaiting place issue) wait h = tt
counts_from l n (phase.Ended well) wait h = tt

-- ---- the moments of a task

-- the moment from which a task can go on, by how many of its children go on
abbrev pub ready_in : Given → Task → Phase → (ℕ → ℕ) → Option ℕ
ready_in given task (phase.At since) k = Some (since + delay_by given task)
ready_in given task (phase.Sending place) k = Some 0
ready_in given task (phase.Joining from) k = ready_after (k from)
ready_in given task (phase.Awaiting place issue) k = None
ready_in given task (phase.Ended well) k = None

abbrev pub ready_plain : Given → List Task → ℕ → Option ℕ
ready_plain given ts n = option_and_then (λ (task : Task). ready_in given task task.phase (open_of ts n)) (slice_get ts n)

pub ready_is : (given : Given) (l : Lists) (n : ℕ) → ready_of (seen_with given l) n ≡ ready_plain given l.tasks n
ready_is given l n = by (slice_get l.tasks n)
  where
    at_phase : (task : Task) (p : Phase) → ready_at (seen_with given l) n task p ≡ ready_in given task p (open_of l.tasks n)
    at_phase task (phase.At since) = refl
    at_phase task (phase.Sending place) = refl
    at_phase task (phase.Awaiting place issue) = refl
    at_phase task (phase.Ended well) = refl
    at_phase task (phase.Joining from) = ap (λ b. cond b (Some 0) None) (all_or_count (is_child_of n) (λ (one : Task). has_ended one.phase) (drop from l.tasks))

    by : (o : Option Task) → option_and_then (λ (task : Task). ready_at (seen_with given l) n task task.phase) o ≡ option_and_then (λ (task : Task). ready_in given task task.phase (open_of l.tasks n)) o
    by None = refl
    by (Some task) = at_phase task task.phase

-- the same of a task whose place is known
pub ready_at_place : (given : Given) (ts : List Task) (n : ℕ) (task : Task) → slice_get ts n ≡ Some task → ready_plain given ts n ≡ ready_in given task task.phase (open_of ts n)
ready_at_place given ts n task e = ap (λ o. option_and_then (λ (one : Task). ready_in given one one.phase (open_of ts n)) o) e

pub ready_joining : (given : Given) (ts : List Task) (n : ℕ) (task : Task) (from : ℕ) → slice_get ts n ≡ Some task → task.phase ≡ phase.Joining from → ready_plain given ts n ≡ ready_after (open_of ts n from)
ready_joining given ts n task from e at = ready_at_place given ts n task e ∙ ap (λ p. ready_in given task p (open_of ts n)) at

-- a task that stays, with as many children that go on
pub ready_stays : (given : Given) (ts us : List Task) (n : ℕ) → slice_get us n ≡ slice_get ts n → ((from : ℕ) → open_of us n from ≡ open_of ts n from) → ready_plain given us n ≡ ready_plain given ts n
ready_stays given ts us n e h =
    ap (λ o. option_and_then (λ (one : Task). ready_in given one one.phase (open_of us n)) o) e ∙ by (slice_get ts n)
  where
    at_phase : (task : Task) (p : Phase) → ready_in given task p (open_of us n) ≡ ready_in given task p (open_of ts n)
    at_phase task (phase.At since) = refl
    at_phase task (phase.Sending place) = refl
    at_phase task (phase.Awaiting place issue) = refl
    at_phase task (phase.Ended well) = refl
    at_phase task (phase.Joining from) = ap ready_after (h from)

    by : (o : Option Task) → option_and_then (λ (task : Task). ready_in given task task.phase (open_of us n)) o ≡ option_and_then (λ (task : Task). ready_in given task task.phase (open_of ts n)) o
    by None = refl
    by (Some task) = at_phase task task.phase

-- a task without a child that goes on
pub ready_is_alone : (given : Given) (task : Task) (p : Phase) (k : ℕ → ℕ) → ((from : ℕ) → p ≡ phase.Joining from → k from ≡ 0) → ready_in given task p k ≡ ready_alone given task p
ready_is_alone given task (phase.At since) k h = refl
ready_is_alone given task (phase.Sending place) k h = refl
ready_is_alone given task (phase.Joining from) k h = ap ready_after (h from refl)
ready_is_alone given task (phase.Awaiting place issue) k h = refl
ready_is_alone given task (phase.Ended well) k h = refl

abbrev pub delay_plain : Given → List Task → ℕ → Option ℕ
delay_plain given ts n = option_and_then (λ (task : Task). delay_alone given task task.phase) (slice_get ts n)

pub delay_is : (given : Given) (l : Lists) (n : ℕ) → delay_until_of (seen_with given l) n ≡ delay_plain given l.tasks n
delay_is given l n = by (slice_get l.tasks n)
  where
    at_phase : (task : Task) (p : Phase) → delay_in (seen_with given l) task p ≡ delay_alone given task p
    at_phase task (phase.At since) = refl
    at_phase task (phase.Sending place) = refl
    at_phase task (phase.Awaiting place issue) = refl
    at_phase task (phase.Ended well) = refl
    at_phase task (phase.Joining from) = refl

    by : (o : Option Task) → option_and_then (λ (task : Task). delay_in (seen_with given l) task task.phase) o ≡ option_and_then (λ (task : Task). delay_alone given task task.phase) o
    by None = refl
    by (Some task) = at_phase task task.phase

pub delay_at_place : (given : Given) (ts : List Task) (n : ℕ) (task : Task) → slice_get ts n ≡ Some task → delay_plain given ts n ≡ delay_alone given task task.phase
delay_at_place given ts n task e = ap (λ o. option_and_then (λ (one : Task). delay_alone given one one.phase) o) e

pub delay_stays : (given : Given) (ts us : List Task) (n : ℕ) → slice_get us n ≡ slice_get ts n → delay_plain given us n ≡ delay_plain given ts n
delay_stays given ts us n e = ap (λ o. option_and_then (λ (one : Task). delay_alone given one one.phase) o) e

-- ---- deadlines

abbrev pub timeout_at : Given → List Task → ℕ → ℕ
timeout_at given ts t = option_map_or (λ step. step.timeout) (option_and_then (λ (task : Task). step_at given task.book task.step) (slice_get ts t)) 0

waits_for : (issue : Issue) → has_deadline issue ≡ true → is_waiting issue.phase ≡ true
waits_for issue e = by (is_waiting issue.phase) (not (issue.agent == 0)) e
  where
    by : (a b : Bool) → (a && b) ≡ true → a ≡ true
    by true b h = refl
    by false b h = h

pub deadlines_stay : (given : Given) (l : Lists) (ts : List Task)
    → ((n : ℕ) (issue : Issue) → slice_get l.issues n ≡ Some issue → is_waiting issue.phase ≡ true → timeout_at given ts issue.task ≡ timeout_at given l.tasks issue.task)
    → (n : ℕ) → deadline_at (seen_with given (record l { tasks = ts })) n ≡ deadline_at (seen_with given l) n
deadlines_stay given l ts h n = by (slice_get l.issues n) refl
  where
    one : (issue : Issue) → slice_get l.issues n ≡ Some issue → (b : Bool) → has_deadline issue ≡ b
        → cond b (Some (issue.moment + timeout_at given ts issue.task)) None ≡ cond b (Some (issue.moment + timeout_at given l.tasks issue.task)) None
    one issue e true waits = ap (λ m. Some (issue.moment + m)) (h n issue e (waits_for issue waits))
    one issue e false waits = refl

    by : (o : Option Issue) → slice_get l.issues n ≡ o
        → option_and_then (λ (issue : Issue). cond (has_deadline issue) (Some (issue.moment + timeout_at given ts issue.task)) None) o
        ≡ option_and_then (λ (issue : Issue). cond (has_deadline issue) (Some (issue.moment + timeout_at given l.tasks issue.task)) None) o
    by None e = refl
    by (Some issue) e = one issue e (has_deadline issue) refl
