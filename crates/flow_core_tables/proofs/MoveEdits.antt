-- A task stands anew: what the tables of tasks hold then.
use Rattle.std.proofs.Common.{◌≡◌, ◌⊎◌, ℕ, ◌+◌, ◌-◌, ◌<◌, ◌≤◌, ◌==◌, ◌&&◌, ◌||◌, Bool, true, false, cond, List, length, Option, Some, None, arith, refl, ap, sym, subst, ◌∙◌, inl, inr}
use Rattle.std.specs.Prelude.{IfSome, slice_get, option_and_then, not}
use Rattle.std.specs.List.{slice_set}
use Rattle.std.specs.Option.{option_map_or}
use Rattle.base_dues.specs.Pairs.{Due, at}
use Rattle.flow_core_rules.specs.declared.tasks.Task.{Task}
use Rattle.flow_core_rules.specs.declared.issues.Issue.{Issue}
use Rattle.flow_core_rules.specs.declared.phases.Phase.{Phase}
use Rattle.flow_core_rules.specs.declared.phases.Phase.TheVariants as phase
use Rattle.flow_core_rules.specs.Givens.{Given, step_at}
use Rattle.flow_core_rules.specs.State.{Lists}
use Rattle.flow_core_rules.specs.Edits.{shown_edited, moves}
use Rattle.flow_core_rules.specs.Changes.{has_ended, has_failed, is_child_of, is_waiting}
use Rattle.flow_core_tables.specs.declared.tables.Wait.{Wait}
use Rattle.flow_core_tables.specs.TableFacts.{seen_with, ready_of, delay_until_of, deadline_at, goes_on, failed_child}
use Rattle.flow_core_tables.specs.Fits.{IsMove, JoinsFor, NoneWaits}
use Rattle.flow_core_tables.specs.Waits.{ready_alone, delay_alone, ready_after, blank_wait, one_less, told, is_that}
use Rattle.flow_core_tables.proofs.CountLemmas.{count_set_same, count_set_less, any_set_same, any_set_or, count_past, any_past}
use Rattle.flow_core_rules.proofs.TaskLemmas.{get_within, set_here, set_length}
use Rattle.flow_core_tables.proofs.EntryLemmas.{none_some, some_inner, same_number, clash, within_some, set_apart, changed_if, is_that_some, if_there, if_apart, if_length, open_of, failed_of, counts_to, counts_from, ready_plain, ready_is, ready_at_place, ready_joining, ready_stays, ready_is_alone, delay_plain, delay_is, delay_at_place, delay_stays, timeout_at, deadlines_stay, differ}
use Rattle.flow_core_tables.proofs.TaskEdits.{HasWaits, HasOwners, Waiting, waiting_of, parent_of, no_child, both_true, both_off}

-- ---- the task that is told of an end

told_parent : (parent : Option ℕ) (p : Phase) (n : ℕ) → told parent p ≡ Some n → (parent ≡ Some n) × (has_ended p ≡ true)
told_parent parent (phase.Ended well) n e = (e, refl)
told_parent parent (phase.At since) n e = absurd (none_some n e)
told_parent parent (phase.Sending place) n e = absurd (none_some n e)
told_parent parent (phase.Awaiting place issue) n e = absurd (none_some n e)
told_parent parent (phase.Joining from) n e = absurd (none_some n e)

told_at_end : (parent : Option ℕ) (p : Phase) → has_ended p ≡ true → told parent p ≡ parent
told_at_end parent (phase.Ended well) e = refl
told_at_end parent (phase.At since) e = absurd (clash true refl (sym e))
told_at_end parent (phase.Sending place) e = absurd (clash true refl (sym e))
told_at_end parent (phase.Awaiting place issue) e = absurd (clash true refl (sym e))
told_at_end parent (phase.Joining from) e = absurd (clash true refl (sym e))

going_well : (p : Phase) → has_ended p ≡ false → has_failed p ≡ false
going_well (phase.Ended well) e = absurd (clash true refl e)
going_well (phase.At since) e = refl
going_well (phase.Sending place) e = refl
going_well (phase.Awaiting place issue) e = refl
going_well (phase.Joining from) e = refl

pub told_joins : (l : Lists) (t : ℕ) (new : Task) (n : ℕ) → IsMove l t new → told new.parent new.phase ≡ Some n → JoinsFor l t n
told_joins l t new n m e =
    let k = told_parent new.parent new.phase n e in
    parent_of l t n new.parent (m.ended k.1) k.0

-- ---- the counts of other tasks

same_child : (n : ℕ) (new old : Task) → new.parent ≡ old.parent → is_child_of n new ≡ is_child_of n old
same_child n new old e = ap (is_that n) e

-- a task that isn't told of an end keeps its counts
kept_test : (n : ℕ) (new old : Task) → new.parent ≡ old.parent → has_ended old.phase ≡ false → is_that n (told new.parent new.phase) ≡ false
    → (goes_on n new ≡ goes_on n old) × (failed_child n new ≡ failed_child n old)
kept_test n new old parent going apart = by (has_ended new.phase) refl
  where
    child : is_child_of n new ≡ is_child_of n old
    child = same_child n new old parent

    by : (b : Bool) → has_ended new.phase ≡ b → (goes_on n new ≡ goes_on n old) × (failed_child n new ≡ failed_child n old)
    by true e =
        let none : is_child_of n new ≡ false = ap (is_that n) (sym (told_at_end new.parent new.phase e)) ∙ apart in
        let none_old : is_child_of n old ≡ false = sym child ∙ none in (
          no_child (is_child_of n new) (not (has_ended new.phase)) none ∙ sym (no_child (is_child_of n old) (not (has_ended old.phase)) none_old),
          no_child (is_child_of n new) (has_failed new.phase) none ∙ sym (no_child (is_child_of n old) (has_failed old.phase) none_old),
        )
    by false e = (
      ap (λ b. b && not (has_ended new.phase)) child ∙ ap (λ b. is_child_of n old && not b) (e ∙ sym going),
      both_off (is_child_of n new) (has_failed new.phase) (going_well new.phase e) ∙ sym (both_off (is_child_of n old) (has_failed old.phase) (going_well old.phase going)),
    )

open_stays : (l : Lists) (t : ℕ) (new : Task) (n : ℕ) → (m : IsMove l t new) → is_that n (told new.parent new.phase) ≡ false → (from : ℕ)
    → open_of (slice_set l.tasks t new) n from ≡ open_of l.tasks n from
open_stays l t new n m apart from = count_set_same (goes_on n) l.tasks t new m.old from m.old_is (kept_test n new m.old m.parent_is m.going apart).0

failed_stays : (l : Lists) (t : ℕ) (new : Task) (n : ℕ) → (m : IsMove l t new) → is_that n (told new.parent new.phase) ≡ false → (from : ℕ)
    → failed_of (slice_set l.tasks t new) n from ≡ failed_of l.tasks n from
failed_stays l t new n m apart from = any_set_same (failed_child n) l.tasks t new m.old from m.old_is (kept_test n new m.old m.parent_is m.going apart).1

-- ---- the counts of the task that is told

record Told (l : Lists) (t : ℕ) (new : Task) (n : ℕ) (from : ℕ) : Type 0 where
  less : open_of (slice_set l.tasks t new) n from + 1 ≡ open_of l.tasks n from
  any : failed_of (slice_set l.tasks t new) n from ≡ (failed_of l.tasks n from || has_failed new.phase)

counts_told : (l : Lists) (t : ℕ) (new : Task) (n from : ℕ) → (m : IsMove l t new) → told new.parent new.phase ≡ Some n → from ≤ t → Told l t new n from
counts_told l t new n from m e le =
    let k = told_parent new.parent new.phase n e in
    let child : is_child_of n new ≡ true = ap (is_that n) k.0 ∙ that n in
    let child_old : is_child_of n m.old ≡ true = sym (same_child n new m.old m.parent_is) ∙ child in
    record {
      less = count_set_less (goes_on n) l.tasks t new m.old from le m.old_is (both_true (is_child_of n m.old) (not (has_ended (m.old).phase)) child_old (ap not m.going))
          (both_off (is_child_of n new) (not (has_ended new.phase)) (ap not k.1));
      any = any_set_or (failed_child n) l.tasks t new m.old from le m.old_is (both_off (is_child_of n m.old) (has_failed (m.old).phase) (going_well (m.old).phase m.going))
          ∙ ap (λ b. failed_of l.tasks n from || b) (only (is_child_of n new) (has_failed new.phase) child);
    }
  where
    that : (n : ℕ) → is_that n (Some n) ≡ true
    that n = grind arith

    only : (a b : Bool) → a ≡ true → (a && b) ≡ b
    only true b h = refl
    only false b h = absurd (clash false h refl)

-- ---- the waits

pub move_waits : (l : Lists) (t : ℕ) (new : Task) (failed : Bool) (ws us : List Wait) → length ws ≡ length l.tasks → HasWaits l ws → IsMove l t new → failed ≡ has_failed new.phase
    → us ≡ changed_if (told new.parent new.phase) (one_less failed) (slice_set ws t blank_wait) → HasWaits (shown_edited (moves t new) l) us
move_waits l t new failed ws us len h m failed_is us_is n x wait x_is wait_is =
    counts_from (shown_edited (moves t new) l) n x.phase wait (λ from joins. by from joins (is_that n (told new.parent new.phase)) refl)
  where
    other : is_that n (told new.parent new.phase) ≡ false → slice_get (slice_set ws t blank_wait) n ≡ Some wait
    other apart = sym (if_apart n (told new.parent new.phase) (one_less failed) (slice_set ws t blank_wait) apart) ∙ ap (λ (vs : List Wait). slice_get vs n) (sym us_is) ∙ wait_is

    stays : (from : ℕ) → x.phase ≡ phase.Joining from → is_that n (told new.parent new.phase) ≡ false → (b : Bool) → (n == t) ≡ b
        → (wait.open ≡ open_of (slice_set l.tasks t new) n from) × (wait.failed ≡ failed_of (slice_set l.tasks t new) n from)
    stays from joins apart true e =
        let here : t ≡ n = sym (same_number n t e) in
        let same : new ≡ x = some_inner new x (sym (set_here l.tasks t new m.old m.old_is) ∙ ap (slice_get (slice_set l.tasks t new)) here ∙ x_is) in
        let from_is : from ≡ length l.tasks = m.joins from (ap (λ (y : Task). y.phase) same ∙ joins) in
        let there : t < length l.tasks = get_within l.tasks t m.old m.old_is in
        let w = within_some ws t (subst (λ k. t < k) (sym len) there) in
        let blank : wait ≡ blank_wait = some_inner wait blank_wait (sym (other apart) ∙ ap (slice_get (slice_set ws t blank_wait)) (sym here) ∙ set_here ws t blank_wait w.0 w.1) in
        let past : length (slice_set l.tasks t new) ≤ from = let g : length (slice_set l.tasks t new) ≡ length l.tasks = set_length l.tasks t new in omega arith in (
          ap (λ (y : Wait). y.open) blank ∙ sym (count_past (goes_on n) (slice_set l.tasks t new) from past),
          ap (λ (y : Wait). y.failed) blank ∙ sym (any_past (failed_child n) (slice_set l.tasks t new) from past),
        )
    stays from joins apart false e =
        let apart_t : n ≡ t → ⊥ = differ n t e in
        let there : slice_get l.tasks n ≡ Some x = sym (set_apart l.tasks t new n apart_t) ∙ x_is in
        let was : slice_get ws n ≡ Some wait = sym (set_apart ws t blank_wait n apart_t) ∙ other apart in
        let c = counts_to l n x.phase wait (h n x wait there was) from joins in
        (c.0 ∙ sym (open_stays l t new n m apart from), c.1 ∙ sym (failed_stays l t new n m apart from))

    by : (from : ℕ) → x.phase ≡ phase.Joining from → (b : Bool) → is_that n (told new.parent new.phase) ≡ b
        → (wait.open ≡ open_of (slice_set l.tasks t new) n from) × (wait.failed ≡ failed_of (slice_set l.tasks t new) n from)
    by from joins false apart = stays from joins apart (n == t) refl
    by from joins true this =
        let that : told new.parent new.phase ≡ Some n = is_that_some n (told new.parent new.phase) this in
        let w : Waiting l t ws n = waiting_of l t ws n len h (told_joins l t new n m that) in
        let less : n < t = w.earlier in
        let apart_t : n ≡ t → ⊥ = λ same. absurd (omega arith) in
        let same : x ≡ w.by = some_inner x w.by (sym x_is ∙ set_apart l.tasks t new n apart_t ∙ w.by_is) in
        let from_is : w.from ≡ from = from_same w.from from (sym w.joins ∙ ap (λ (y : Task). y.phase) (sym same) ∙ joins) in
        let has : slice_get us n ≡ Some (one_less failed w.wait) =
        ap (λ (vs : List Wait). slice_get vs n) us_is
        ∙ if_there n (told new.parent new.phase) (one_less failed) (slice_set ws t blank_wait) w.wait that (set_apart ws t blank_wait n apart_t ∙ w.wait_is) in
        let wait_new : wait ≡ one_less failed w.wait = some_inner wait (one_less failed w.wait) (sym wait_is ∙ has) in
        let c : Told l t new n w.from = counts_told l t new n w.from m that w.from_is in
        let open_was : (w.wait).open ≡ open_of l.tasks n w.from = w.open_is in
        let one_fewer : open_of (slice_set l.tasks t new) n w.from + 1 ≡ open_of l.tasks n w.from = c.less in
        let open_new : (w.wait).open - 1 ≡ open_of (slice_set l.tasks t new) n w.from = omega arith in (
          ap (λ (y : Wait). y.open) wait_new ∙ open_new ∙ ap (open_of (slice_set l.tasks t new) n) from_is,
          ap (λ (y : Wait). y.failed) wait_new ∙ ap (λ b. b || failed) w.failed_is ∙ ap (λ b. failed_of l.tasks n w.from || b) failed_is ∙ sym c.any ∙ ap (failed_of (slice_set l.tasks t new) n) from_is,
        )
      where
        from_same : (a b : ℕ) → phase.Joining a ≡ phase.Joining b → a ≡ b
        from_same a b e = cc

pub move_lengths : (l : Lists) (t : ℕ) (new : Task) (failed : Bool) (ws us : List Wait) → length ws ≡ length l.tasks
    → us ≡ changed_if (told new.parent new.phase) (one_less failed) (slice_set ws t blank_wait) → length us ≡ length (slice_set l.tasks t new)
move_lengths l t new failed ws us len us_is =
    ap (λ (vs : List Wait). length vs) us_is ∙ if_length (told new.parent new.phase) (one_less failed) (slice_set ws t blank_wait) ∙ set_length ws t blank_wait ∙ len ∙ sym (set_length l.tasks t new)

-- ---- the moments

pub move_ready : (given : Given) (l : Lists) (t : ℕ) (new : Task) (failed : Bool) (ws us : List Wait) (r one two : List Due)
    → length ws ≡ length l.tasks → HasWaits l ws → IsMove l t new
    → us ≡ changed_if (told new.parent new.phase) (one_less failed) (slice_set ws t blank_wait)
    → ((n : ℕ) → at r n ≡ ready_of (seen_with given l) n)
    → ((n : ℕ) → at one n ≡ cond (n == t) (ready_alone given new new.phase) (at r n))
    → ((n : ℕ) (wait : Wait) → slice_get us n ≡ Some wait → at two n ≡ cond (is_that n (told new.parent new.phase)) (ready_after wait.open) (at one n))
    → ((n : ℕ) → is_that n (told new.parent new.phase) ≡ false → at two n ≡ at one n)
    → (n : ℕ) → at two n ≡ ready_of (seen_with given (shown_edited (moves t new) l)) n
move_ready given l t new failed ws us r one two len h m us_is rh e1 e2 e3 n =
    by (is_that n (told new.parent new.phase)) refl ∙ sym (ready_is given (shown_edited (moves t new) l) n)
  where
    stays : is_that n (told new.parent new.phase) ≡ false → (b : Bool) → (n == t) ≡ b
        → cond b (ready_alone given new new.phase) (at r n) ≡ ready_plain given (slice_set l.tasks t new) n
    stays apart true e =
        let here : t ≡ n = sym (same_number n t e) in
        let there : slice_get (slice_set l.tasks t new) n ≡ Some new = ap (slice_get (slice_set l.tasks t new)) (sym here) ∙ set_here l.tasks t new m.old m.old_is in
        sym (ready_at_place given (slice_set l.tasks t new) n new there
        ∙ ready_is_alone given new new.phase (open_of (slice_set l.tasks t new) n) (λ from joins.
        let from_is : from ≡ length l.tasks = m.joins from joins in
        let g : length (slice_set l.tasks t new) ≡ length l.tasks = set_length l.tasks t new in
        count_past (goes_on n) (slice_set l.tasks t new) from (omega arith)))
    stays apart false e =
        let apart_t : n ≡ t → ⊥ = differ n t e in
        rh n ∙ ready_is given l n ∙ sym (ready_stays given l.tasks (slice_set l.tasks t new) n (set_apart l.tasks t new n apart_t) (open_stays l t new n m apart))

    by : (b : Bool) → is_that n (told new.parent new.phase) ≡ b → at two n ≡ ready_plain given (slice_set l.tasks t new) n
    by false apart = e3 n apart ∙ e1 n ∙ stays apart (n == t) refl
    by true this =
        let that : told new.parent new.phase ≡ Some n = is_that_some n (told new.parent new.phase) this in
        let w : Waiting l t ws n = waiting_of l t ws n len h (told_joins l t new n m that) in
        let less : n < t = w.earlier in
        let apart_t : n ≡ t → ⊥ = λ same. absurd (omega arith) in
        let has : slice_get us n ≡ Some (one_less failed w.wait) =
        ap (λ (vs : List Wait). slice_get vs n) us_is
        ∙ if_there n (told new.parent new.phase) (one_less failed) (slice_set ws t blank_wait) w.wait that (set_apart ws t blank_wait n apart_t ∙ w.wait_is) in
        let c : Told l t new n w.from = counts_told l t new n w.from m that w.from_is in
        let open_was : (w.wait).open ≡ open_of l.tasks n w.from = w.open_is in
        let one_fewer : open_of (slice_set l.tasks t new) n w.from + 1 ≡ open_of l.tasks n w.from = c.less in
        let open_new : (w.wait).open - 1 ≡ open_of (slice_set l.tasks t new) n w.from = omega arith in
        e2 n (one_less failed w.wait) has ∙ ap (λ b. cond b (ready_after ((w.wait).open - 1)) (at one n)) this ∙ ap ready_after open_new
        ∙ sym (ready_joining given (slice_set l.tasks t new) n w.by w.from (set_apart l.tasks t new n apart_t ∙ w.by_is) w.joins)

pub move_delays : (given : Given) (l : Lists) (t : ℕ) (new : Task) (d one : List Due) → IsMove l t new
    → ((n : ℕ) → at d n ≡ delay_until_of (seen_with given l) n)
    → ((n : ℕ) → at one n ≡ cond (n == t) (delay_alone given new new.phase) (at d n))
    → (n : ℕ) → at one n ≡ delay_until_of (seen_with given (shown_edited (moves t new) l)) n
move_delays given l t new d one m h e1 n = e1 n ∙ by (n == t) refl ∙ sym (delay_is given (shown_edited (moves t new) l) n)
  where
    by : (b : Bool) → (n == t) ≡ b → cond b (delay_alone given new new.phase) (at d n) ≡ delay_plain given (slice_set l.tasks t new) n
    by true e =
        let here : t ≡ n = sym (same_number n t e) in
        sym (delay_at_place given (slice_set l.tasks t new) n new (ap (slice_get (slice_set l.tasks t new)) (sym here) ∙ set_here l.tasks t new m.old m.old_is))
    by false e = h n ∙ delay_is given l n ∙ sym (delay_stays given l.tasks (slice_set l.tasks t new) n (set_apart l.tasks t new n (differ n t e)))

-- while an issue of a task waits, the task stays at its step
pub move_deadlines : (given : Given) (l : Lists) (t : ℕ) (new : Task) → IsMove l t new → (n : ℕ)
    → deadline_at (seen_with given (shown_edited (moves t new) l)) n ≡ deadline_at (seen_with given l) n
move_deadlines given l t new m = deadlines_stay given l (slice_set l.tasks t new) (λ n issue e waits. by n issue e waits (issue.task == t) refl m.stays)
  where
    timeout : Option Task → ℕ
    timeout x = option_map_or (λ step. step.timeout) (option_and_then (λ (y : Task). step_at given y.book y.step) x) 0

    by : (n : ℕ) (issue : Issue) → slice_get l.issues n ≡ Some issue → is_waiting issue.phase ≡ true → (b : Bool) → (issue.task == t) ≡ b
        → ((new.book ≡ (m.old).book) × (new.step ≡ (m.old).step)) ⊎ NoneWaits l t
        → timeout_at given (slice_set l.tasks t new) issue.task ≡ timeout_at given l.tasks issue.task
    by n issue e waits false f stays = ap timeout (set_apart l.tasks t new issue.task (differ issue.task t f))
    by n issue e waits true f (inr none) = absurd (none n issue e waits (same_number issue.task t f))
    by n issue e waits true f (inl same) =
        let here : issue.task ≡ t = same_number issue.task t f in
        ap (timeout_at given (slice_set l.tasks t new)) here
        ∙ ap timeout (set_here l.tasks t new m.old m.old_is)
        ∙ ap (λ (p : ℕ). option_map_or (λ step. step.timeout) (step_at given p new.step) 0) same.0
        ∙ ap (λ (p : ℕ). option_map_or (λ step. step.timeout) (step_at given (m.old).book p) 0) same.1
        ∙ ap timeout (sym m.old_is)
        ∙ ap (timeout_at given l.tasks) (sym here)

pub move_owners : (l : Lists) (t : ℕ) (new : Task) → HasOwners l → HasOwners (shown_edited (moves t new) l)
move_owners l t new o n issue e = subst (λ k. issue.task < k) (sym (set_length l.tasks t new)) (o n issue e)

-- ---- what the calls require

pub move_below : (l : Lists) (t : ℕ) (new : Task) (room : ℕ) → IsMove l t new → length l.tasks ≤ room → IfSome (told new.parent new.phase) (λ p. p < room)
move_below l t new room m le = by (told new.parent new.phase) refl
  where
    by : (o : Option ℕ) → told new.parent new.phase ≡ o → IfSome o (λ p. p < room)
    by None e = tt
    by (Some p) e =
        let j : JoinsFor l t p = told_joins l t new p m e in
        let inside : p < length l.tasks = get_within l.tasks p j.by j.by_is in
        omega arith

pub move_some : (l : Lists) (t : ℕ) (new : Task) (ws : List Wait) → length ws ≡ length l.tasks → HasWaits l ws → IsMove l t new
    → IfSome (told new.parent new.phase) (λ p. (wait : Wait) → slice_get (slice_set ws t blank_wait) p ≡ Some wait → 0 < wait.open)
move_some l t new ws len h m = by (told new.parent new.phase) refl
  where
    by : (o : Option ℕ) → told new.parent new.phase ≡ o → IfSome o (λ p. (wait : Wait) → slice_get (slice_set ws t blank_wait) p ≡ Some wait → 0 < wait.open)
    by None e = tt
    by (Some p) e = λ wait there.
        let w : Waiting l t ws p = waiting_of l t ws p len h (told_joins l t new p m e) in
        let less : p < t = w.earlier in
        let apart_t : p ≡ t → ⊥ = λ same. absurd (omega arith) in
        let same : wait ≡ w.wait = some_inner wait w.wait (sym there ∙ set_apart ws t blank_wait p apart_t ∙ w.wait_is) in
        let open_is : wait.open ≡ open_of l.tasks p w.from = ap (λ (y : Wait). y.open) same ∙ w.open_is in
        let c : Told l t new p w.from = counts_told l t new p w.from m e w.from_is in
        let one_fewer : open_of (slice_set l.tasks t new) p w.from + 1 ≡ open_of l.tasks p w.from = c.less in
        omega arith
