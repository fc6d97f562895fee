-- A task is made or moved: what the tables of tasks hold then.
use Rattle.std.proofs.Common.{◌≡◌, ℕ, zero, suc, ◌+◌, ◌<◌, ◌≤◌, ◌==◌, ◌&&◌, Bool, true, false, cond, List, [], ◌∷◌, ◌++◌, length, drop, Option, Some, None, arith, refl, ap, sym, subst, ◌∙◌, length-append}
use Rattle.std.specs.Prelude.{IfSome, slice_get, option_and_then, not}
use Rattle.std.specs.Option.{option_map_or}
use Rattle.std.proofs.lemmas.List.Sums.{count_by-le-length}
use Rattle.base_dues.specs.Pairs.{Due, at}
use Rattle.flow_core_rules.specs.declared.tasks.Task.{Task}
use Rattle.flow_core_rules.specs.declared.issues.Issue.{Issue}
use Rattle.flow_core_rules.specs.declared.phases.Phase.TheVariants as phase
use Rattle.flow_core_rules.specs.Givens.{Given, step_at}
use Rattle.flow_core_rules.specs.State.{Lists}
use Rattle.flow_core_rules.specs.Edits.{shown_edited, makes}
use Rattle.flow_core_rules.specs.Changes.{has_ended, has_failed, is_child_of}
use Rattle.flow_core_tables.specs.declared.tables.Wait.{Wait}
use Rattle.flow_core_tables.specs.TableFacts.{seen_with, ready_of, delay_until_of, deadline_at, goes_on, failed_child, Counts}
use Rattle.flow_core_tables.specs.Fits.{IsNewTask, JoinsFor}
use Rattle.flow_core_tables.specs.Waits.{ready_alone, delay_alone, ready_after, blank_wait, one_more, is_that}
use Rattle.flow_core_tables.proofs.CountLemmas.{count_push_more, count_push_same, any_push_same}
use Rattle.flow_core_rules.proofs.TaskLemmas.{get_within}
use Rattle.flow_core_tables.proofs.EntryLemmas.{some_inner, same_number, clash, within_some, get_last, get_front, changed_if, is_that_some, if_there, if_apart, if_length, open_of, failed_of, counts_to, counts_from, ready_plain, ready_is, ready_at_place, ready_joining, ready_stays, ready_is_alone, delay_plain, delay_is, delay_at_place, delay_stays, deadlines_stay}

-- what the table of waits is asked to hold
abbrev pub HasWaits : Lists → List Wait → Type 0
HasWaits l ws = (n : ℕ) (task : Task) (wait : Wait) → slice_get l.tasks n ≡ Some task → slice_get ws n ≡ Some wait → Counts l n task.phase wait

not_joining : (since from : ℕ) → phase.At since ≡ phase.Joining from → ⊥
not_joining since from e = cc

from_same : (a b : ℕ) → phase.Joining a ≡ phase.Joining b → a ≡ b
from_same a b e = cc

pub no_child : (a b : Bool) → a ≡ false → (a && b) ≡ false
no_child true b e = absurd (clash true refl e)
no_child false b e = refl

pub both_true : (a b : Bool) → a ≡ true → b ≡ true → (a && b) ≡ true
both_true true true e f = refl
both_true true false e f = f
both_true false b e f = absurd (clash false e refl)

pub both_off : (a b : Bool) → b ≡ false → (a && b) ≡ false
both_off true b e = e
both_off false b e = refl

-- ---- a task is made

-- the parent of the new task, and its wait
pub record Waiting (l : Lists) (t : ℕ) (ws : List Wait) (n : ℕ) : Type 0 where
  pub by : Task
  pub from : ℕ
  pub wait : Wait
  pub by_is : slice_get l.tasks n ≡ Some by
  pub joins : by.phase ≡ phase.Joining from
  pub from_is : from ≤ t
  pub earlier : n < t
  pub wait_is : slice_get ws n ≡ Some wait
  pub open_is : wait.open ≡ open_of l.tasks n from
  pub failed_is : wait.failed ≡ failed_of l.tasks n from

pub waiting_of : (l : Lists) (t : ℕ) (ws : List Wait) (n : ℕ) → length ws ≡ length l.tasks → HasWaits l ws → JoinsFor l t n → Waiting l t ws n
waiting_of l t ws n len h j =
    let inside : n < length l.tasks = get_within l.tasks n j.by j.by_is in
    let w = within_some ws n (subst (λ m. n < m) (sym len) inside) in
    let c = counts_to l n (j.by).phase w.0 (h n j.by w.0 j.by_is w.1) j.from j.joins in
    record { by = j.by; from = j.from; wait = w.0; by_is = j.by_is; joins = j.joins; from_is = j.from_is; earlier = j.earlier; wait_is = w.1; open_is = c.0; failed_is = c.1 }

pub parent_of : (l : Lists) (t n : ℕ) (o : Option ℕ) → IfSome o (JoinsFor l t) → o ≡ Some n → JoinsFor l t n
parent_of l t n o h e = subst (λ x. IfSome x (JoinsFor l t)) e h

-- the new task goes on, and has not failed
new_goes_on : (task : Task) (since n : ℕ) → task.phase ≡ phase.At since → is_child_of n task ≡ true → goes_on n task ≡ true
new_goes_on task since n e c = both_true (is_child_of n task) (not (has_ended task.phase)) c (ap (λ p. not (has_ended p)) e)

new_is_well : (task : Task) (since n : ℕ) → task.phase ≡ phase.At since → failed_child n task ≡ false
new_is_well task since n e = both_off (is_child_of n task) (has_failed task.phase) (ap has_failed e)

pub make_waits : (l : Lists) (task : Task) (ws us : List Wait) → length ws ≡ length l.tasks → HasWaits l ws → IsNewTask l task
    → us ≡ changed_if task.parent one_more (ws ++ blank_wait ∷ []) → HasWaits (shown_edited (makes task) l) us
make_waits l task ws us len h f us_is n x wait x_is wait_is =
    counts_from (shown_edited (makes task) l) n x.phase wait (λ from joins. by from joins (is_that n task.parent) refl)
  where
    ts : List Task
    ts = l.tasks ++ task ∷ []

    old : (b : Bool) → (n == length l.tasks) ≡ b → (from : ℕ) → x.phase ≡ phase.Joining from → is_that n task.parent ≡ false
        → (wait.open ≡ open_of (l.tasks ++ task ∷ []) n from) × (wait.failed ≡ failed_of (l.tasks ++ task ∷ []) n from)
    old true e from joins apart =
        let here : n ≡ length l.tasks = same_number n (length l.tasks) e in
        let same : task ≡ x = some_inner task x (sym (get_last l.tasks task) ∙ ap (slice_get (l.tasks ++ task ∷ [])) (sym here) ∙ x_is) in
        absurd (not_joining f.since from (sym f.phase_is ∙ ap (λ (y : Task). y.phase) same ∙ joins))
    old false e from joins apart =
        let there : slice_get l.tasks n ≡ Some x = sym (get_front l.tasks task n e) ∙ x_is in
        let was : slice_get ws n ≡ Some wait =
        sym (get_front ws blank_wait n (subst (λ m. (n == m) ≡ false) (sym len) e))
        ∙ sym (if_apart n task.parent one_more (ws ++ blank_wait ∷ []) apart)
        ∙ ap (λ (vs : List Wait). slice_get vs n) (sym us_is)
        ∙ wait_is in
        let c = counts_to l n x.phase wait (h n x wait there was) from joins in (
          c.0 ∙ sym (count_push_same (goes_on n) l.tasks task from (no_child (is_child_of n task) (not (has_ended task.phase)) apart)),
          c.1 ∙ sym (any_push_same (failed_child n) l.tasks task from (new_is_well task f.since n f.phase_is)),
        )

    by : (from : ℕ) → x.phase ≡ phase.Joining from → (b : Bool) → is_that n task.parent ≡ b
        → (wait.open ≡ open_of (l.tasks ++ task ∷ []) n from) × (wait.failed ≡ failed_of (l.tasks ++ task ∷ []) n from)
    by from joins false apart = old (n == length l.tasks) refl from joins apart
    by from joins true this =
        let parent : task.parent ≡ Some n = is_that_some n task.parent this in
        let w : Waiting l (length l.tasks) ws n = waiting_of l (length l.tasks) ws n len h (parent_of l (length l.tasks) n task.parent f.parent parent) in
        let less : n < length l.tasks = w.earlier in
        let not_last : (n == length l.tasks) ≡ false = grind arith in
        let same : x ≡ w.by = some_inner x w.by (sym x_is ∙ get_front l.tasks task n not_last ∙ w.by_is) in
        let from_is : w.from ≡ from = from_same w.from from (sym w.joins ∙ ap (λ (y : Task). y.phase) (sym same) ∙ joins) in
        let had : slice_get (ws ++ blank_wait ∷ []) n ≡ Some w.wait = get_front ws blank_wait n (subst (λ m. (n == m) ≡ false) (sym len) not_last) ∙ w.wait_is in
        let has : slice_get us n ≡ Some (one_more w.wait) =
        ap (λ (vs : List Wait). slice_get vs n) us_is ∙ if_there n task.parent one_more (ws ++ blank_wait ∷ []) w.wait parent had in
        let wait_new : wait ≡ one_more w.wait = some_inner wait (one_more w.wait) (sym wait_is ∙ has) in
        let counted : open_of (l.tasks ++ task ∷ []) n w.from ≡ open_of l.tasks n w.from + 1 =
        count_push_more (goes_on n) l.tasks task w.from w.from_is (new_goes_on task f.since n f.phase_is this) in
        let any : failed_of (l.tasks ++ task ∷ []) n w.from ≡ failed_of l.tasks n w.from =
        any_push_same (failed_child n) l.tasks task w.from (new_is_well task f.since n f.phase_is) in (
          ap (λ (y : Wait). y.open) wait_new ∙ ap (λ k. k + 1) w.open_is ∙ sym counted ∙ ap (open_of (l.tasks ++ task ∷ []) n) from_is,
          ap (λ (y : Wait). y.failed) wait_new ∙ w.failed_is ∙ sym any ∙ ap (failed_of (l.tasks ++ task ∷ []) n) from_is,
        )

none_after : (n : ℕ) → ready_after (n + 1) ≡ None
none_after n = ap (λ b. cond b (Some 0) None) (some_left n)
  where
    some_left : (n : ℕ) → (n + 1 == 0) ≡ false
    some_left n = grind arith

pub make_ready : (given : Given) (l : Lists) (task : Task) (number : ℕ) (r one two : List Due) → IsNewTask l task → number ≡ length l.tasks
    → ((n : ℕ) → at r n ≡ ready_of (seen_with given l) n)
    → ((n : ℕ) → at one n ≡ cond (is_that n task.parent) None (at r n))
    → ((n : ℕ) → at two n ≡ cond (n == number) (ready_alone given task task.phase) (at one n))
    → (n : ℕ) → at two n ≡ ready_of (seen_with given (shown_edited (makes task) l)) n
make_ready given l task number r one two f number_is h e1 e2 n =
    e2 n ∙ ap (λ m. cond (n == m) (ready_alone given task task.phase) (at one n)) number_is ∙ by (n == length l.tasks) refl
    ∙ sym (ready_is given (shown_edited (makes task) l) n)
  where
    front : (b : Bool) → is_that n task.parent ≡ b → (n == length l.tasks) ≡ false → cond b None (at r n) ≡ ready_plain given (l.tasks ++ task ∷ []) n
    front false apart e =
        h n ∙ ready_is given l n
        ∙ sym (ready_stays given l.tasks (l.tasks ++ task ∷ []) n (get_front l.tasks task n e) (λ from. count_push_same (goes_on n) l.tasks task from (no_child (is_child_of n task) (not (has_ended task.phase)) apart)))
    front true this e =
        let j : JoinsFor l (length l.tasks) n = parent_of l (length l.tasks) n task.parent f.parent (is_that_some n task.parent this) in
        sym (ready_joining given (l.tasks ++ task ∷ []) n j.by j.from (get_front l.tasks task n e ∙ j.by_is) j.joins
        ∙ ap ready_after (count_push_more (goes_on n) l.tasks task j.from j.from_is (new_goes_on task f.since n f.phase_is this))
        ∙ none_after (open_of l.tasks n j.from))

    by : (b : Bool) → (n == length l.tasks) ≡ b → cond b (ready_alone given task task.phase) (at one n) ≡ ready_plain given (l.tasks ++ task ∷ []) n
    by true e =
        let here : length l.tasks ≡ n = sym (same_number n (length l.tasks) e) in
        let there : slice_get (l.tasks ++ task ∷ []) n ≡ Some task = ap (slice_get (l.tasks ++ task ∷ [])) (sym here) ∙ get_last l.tasks task in
        sym (ready_at_place given (l.tasks ++ task ∷ []) n task there
        ∙ ready_is_alone given task task.phase (open_of (l.tasks ++ task ∷ []) n) (λ from joins. absurd (not_joining f.since from (sym f.phase_is ∙ joins))))
    by false e = e1 n ∙ front (is_that n task.parent) refl e

pub make_delays : (given : Given) (l : Lists) (task : Task) (number : ℕ) (d one : List Due) → number ≡ length l.tasks
    → ((n : ℕ) → at d n ≡ delay_until_of (seen_with given l) n)
    → ((n : ℕ) → at one n ≡ cond (n == number) (delay_alone given task task.phase) (at d n))
    → (n : ℕ) → at one n ≡ delay_until_of (seen_with given (shown_edited (makes task) l)) n
make_delays given l task number d one number_is h e1 n =
    e1 n ∙ ap (λ m. cond (n == m) (delay_alone given task task.phase) (at d n)) number_is ∙ old (n == length l.tasks) refl ∙ sym (delay_is given (shown_edited (makes task) l) n)
  where
    old : (b : Bool) → (n == length l.tasks) ≡ b → cond b (delay_alone given task task.phase) (at d n) ≡ delay_plain given (l.tasks ++ task ∷ []) n
    old true e =
        let here : length l.tasks ≡ n = sym (same_number n (length l.tasks) e) in
        sym (delay_at_place given (l.tasks ++ task ∷ []) n task (ap (slice_get (l.tasks ++ task ∷ [])) (sym here) ∙ get_last l.tasks task))
    old false e = h n ∙ delay_is given l n ∙ sym (delay_stays given l.tasks (l.tasks ++ task ∷ []) n (get_front l.tasks task n e))

-- the owners of issues are there
abbrev pub HasOwners : Lists → Type 0
HasOwners l = (n : ℕ) (issue : Issue) → slice_get l.issues n ≡ Some issue → issue.task < length l.tasks

pub make_deadlines : (given : Given) (l : Lists) (task : Task) → HasOwners l → (n : ℕ)
    → deadline_at (seen_with given (shown_edited (makes task) l)) n ≡ deadline_at (seen_with given l) n
make_deadlines given l task o = deadlines_stay given l (l.tasks ++ task ∷ []) (λ n issue e waits.
    let less : issue.task < length l.tasks = o n issue e in
    ap (λ x. option_map_or (λ step. step.timeout) (option_and_then (λ (y : Task). step_at given y.book y.step) x) 0) (get_front l.tasks task issue.task (below issue.task (length l.tasks) less)))
  where
    below : (a b : ℕ) → a < b → (a == b) ≡ false
    below a b h = grind arith

pub make_owners : (l : Lists) (task : Task) → HasOwners l → HasOwners (shown_edited (makes task) l)
make_owners l task o n issue e = let h : issue.task < length l.tasks = o n issue e in omega (arith, length-append l.tasks (task ∷ []))

pub make_lengths : (l : Lists) (task : Task) (ws us : List Wait) → length ws ≡ length l.tasks → us ≡ changed_if task.parent one_more (ws ++ blank_wait ∷ [])
    → length us ≡ length (l.tasks ++ task ∷ [])
make_lengths l task ws us len us_is =
    let a : length us ≡ length (ws ++ blank_wait ∷ []) = ap (λ (vs : List Wait). length vs) us_is ∙ if_length task.parent one_more (ws ++ blank_wait ∷ []) in
    omega (arith, length-append l.tasks (task ∷ []), length-append ws (blank_wait ∷ []))

drop_short : {A : Type 0} (xs : List A) (k : ℕ) → length (drop k xs) ≤ length xs
drop_short [] zero = omega arith
drop_short [] (suc k) = omega arith
drop_short (x ∷ xs) zero = omega arith
drop_short (x ∷ xs) (suc k) = let h : length (drop k xs) ≤ length xs = drop_short xs k in omega arith

-- one more is counted without overflow
pub make_fits : (l : Lists) (task : Task) (ws : List Wait) → length ws ≡ length l.tasks → HasWaits l ws → IsNewTask l task → length l.tasks < 4294967295
    → IfSome task.parent (λ p. (wait : Wait) → slice_get (ws ++ blank_wait ∷ []) p ≡ Some wait → wait.open < 4294967295)
make_fits l task ws len h f few = by task.parent f.parent
  where
    by : (o : Option ℕ) → IfSome o (JoinsFor l (length l.tasks)) → IfSome o (λ p. (wait : Wait) → slice_get (ws ++ blank_wait ∷ []) p ≡ Some wait → wait.open < 4294967295)
    by None j = tt
    by (Some p) j = λ wait e.
        let w : Waiting l (length l.tasks) ws p = waiting_of l (length l.tasks) ws p len h j in
        let less : p < length l.tasks = w.earlier in
        let not_last : (p == length ws) ≡ false = grind arith in
        let same : wait ≡ w.wait = some_inner wait w.wait (sym e ∙ get_front ws blank_wait p not_last ∙ w.wait_is) in
        let open_is : wait.open ≡ open_of l.tasks p w.from = ap (λ (y : Wait). y.open) same ∙ w.open_is in
        let most : open_of l.tasks p w.from ≤ length (drop w.from l.tasks) = count_by-le-length (goes_on p) (drop w.from l.tasks) in
        let short : length (drop w.from l.tasks) ≤ length l.tasks = drop_short l.tasks w.from in
        omega arith
