-- No move becomes enabled before something is due.
use Rattle.std.proofs.Common.{◌≡◌, ◌⊎◌, inl, inr, ◌∙◌, refl, sym, ap, subst, arith, ℕ, zero, suc, ◌+◌, ◌<◌, Bool, true, false, cond, List, [], ◌∷◌, ◌++◌, Option, Some, None}
use Rattle.std.specs.Prelude.{IfSome, IsSome, is_some, min, nat_le, option_and_then, slice_get}
use Rattle.std.specs.List.{AllByRecursion, flat_map, list_all}
use Rattle.std.specs.Option.{option_map_or, option_or}
use Rattle.std.proofs.lemmas.Bool.{false≢true}
use Rattle.std.proofs.lemmas.Option.{none-some}
use Rattle.cacao_book.specs.declared.steps.Step.{Step}
use Rattle.flow_core_rules.specs.Changes.{children, command_at, entered, has_ended, is_in_time, issuing, joined, next_command, next_question, outcome, place_at, question_at, walk, walked}
use Rattle.flow_core_rules.specs.Givens.{step_at}
use Rattle.flow_core_rules.specs.Moves.{deadlines, delay_of, delay_until, delays, due, enabled_move, first_move, least, move_at}
use Rattle.flow_core_rules.specs.Places.{Place}
use Rattle.flow_core_rules.specs.Sane.{IsSane, IsSaneAt}
use Rattle.flow_core_rules.specs.State.{Shown}
use Rattle.flow_core_rules.specs.Tasks.{Here, here_at}
use Rattle.flow_core_rules.specs.declared.issues.Issue.{Issue}
use Rattle.flow_core_rules.specs.declared.moves.Move.{Move}
use Rattle.flow_core_rules.specs.declared.phases.Phase.{Phase}
use Rattle.flow_core_rules.specs.declared.phases.Phase.TheVariants as phase
use Rattle.flow_core_rules.specs.declared.tasks.Task.{Task}
use Rattle.flow_core_rules.proofs.HereLemmas.{here_of, some_at}
use Rattle.flow_core_rules.proofs.NotStuck.{no-move, none_of}

-- ---- what is due, and delays

abbrev AllLater : ℕ → List ℕ → Type 0
AllLater now ns = AllByRecursion (λ (n : ℕ). now < n) ns

no-less : (n : ℕ) → Some n ≡ None → ⊥
no-less n e = cc

-- each is later than now where the least is
all-later : (now : ℕ) (ns : List ℕ) → ((at : ℕ) → least ns ≡ Some at → now < at) → AllLater now ns
all-later now [] later = tt
all-later now (n ∷ ns) later = by (least ns) refl later (all-later now ns)
  where
    some-one : (x y : ℕ) → Some x ≡ Some y → x ≡ y
    some-one x y h = cc

    by : (o : Option ℕ) → least ns ≡ o → ((at : ℕ) → Some (option_map_or (min n) o n) ≡ Some at → now < at)
        → (((at : ℕ) → least ns ≡ Some at → now < at) → AllLater now ns) → (now < n) × AllLater now ns
    by None e first rest = (first n refl, rest (λ at f. absurd (no-less at (sym f ∙ e))))
    by (Some m) e first rest =
        let both : now < min n m = first (min n m) refl in
        (omega (arith, both), rest (λ at f. let same : at ≡ m = some-one at m (sym f ∙ e) in omega (arith, both, same)))

front : (now : ℕ) (xs ys : List ℕ) → AllLater now (xs ++ ys) → AllLater now xs
front now [] ys all = tt
front now (x ∷ xs) ys all = (all.0, front now xs ys all.1)

back : (now : ℕ) (xs ys : List ℕ) → AllLater now (xs ++ ys) → AllLater now ys
back now [] ys all = all
back now (x ∷ xs) ys all = back now xs ys all.1

each-task : (now : ℕ) (f : Task → List ℕ) (tasks : List Task) (k : ℕ) (task : Task) → AllLater now (flat_map f tasks) → slice_get tasks k ≡ Some task → AllLater now (f task)
each-task now f [] k task all there = absurd (none-some task there)
each-task now f (x ∷ tasks) zero task all there = subst (λ (t : Task). AllLater now (f t)) (same x task there) (front now (f x) (flat_map f tasks) all)
  where
    same : (a b : Task) → Some a ≡ Some b → a ≡ b
    same a b h = cc
each-task now f (x ∷ tasks) (suc k) task all there = each-task now f tasks k task (back now (f x) (flat_map f tasks) all) there

-- ---- a task without a move

absent : {A : Type 0} (o : Option A) → IfSome o (λ x. ⊥) → o ≡ None
absent None h = refl
absent (Some x) h = absurd h

-- nothing comes of a task, where nothing does at its step
none-at : {A : Type 0} (s : Shown) (now t : ℕ) (f : Here → Option A)
    → ((task : Task) (step : Step) → slice_get s.lists.tasks t ≡ Some task → step_at s.given task.book task.step ≡ Some step → f (here_of s now t task step) ≡ None)
    → option_and_then f (here_at s now t) ≡ None
none-at {A} s now t f each = absent _ (some_at s now t f (λ (x : A). ⊥) (λ task step there here. subst (λ (o : Option A). IfSome o (λ (x : A). ⊥)) (sym (each task step there here)) tt))

late : (a b : ℕ) → b < a → nat_le a b ≡ false
late a b lt = grind arith

clash : (b : Bool) → b ≡ true → b ≡ false → ⊥
clash true e f = false≢true (sym f)
clash false e f = false≢true e

-- a task walks only from its delay on, and one that joins once its children have ended
no-walk : (h : Here) (at : Phase) → ((since : ℕ) → at ≡ phase.At since → h.now < since + h.step.delay)
    → ((from : ℕ) → at ≡ phase.Joining from → list_all (λ one. has_ended one.phase) (children h.seen.lists h.number from) ≡ false) → walked h at ≡ None
no-walk h (phase.At since) early open_ = subst (λ (b : Bool). cond b (entered h h.step.kind) None ≡ None) (sym (late (since + h.step.delay) h.now (early since refl))) refl
no-walk h (phase.Joining from) early open_ = by h.task.step_scope
  where
    by : (o : Option ℕ) → option_and_then (λ scope. joined h from scope (children h.seen.lists h.number from)) o ≡ None
    by None = refl
    by (Some scope) = rw (open_ from refl) refl
no-walk h (phase.Sending place) early open_ = refl
no-walk h (phase.Awaiting place issue) early open_ = refl
no-walk h (phase.Ended well) early open_ = refl

-- it stands at no place of its step
abbrev not-sending : Phase → Type 0
not-sending (phase.Sending place) = ⊥
not-sending other = Unit {0}

no-place : (h : Here) (at : Phase) → not-sending at → place_at h at ≡ None
no-place h (phase.At since) not_ = refl
no-place h (phase.Sending place) not_ = absurd not_
no-place h (phase.Awaiting place issue) not_ = refl
no-place h (phase.Joining from) not_ = refl
no-place h (phase.Ended well) not_ = refl

no-at : (place issue since : ℕ) → phase.Awaiting place issue ≡ phase.At since → ⊥
no-at place issue since e = cc

no-joining : (place issue from : ℕ) → phase.Awaiting place issue ≡ phase.Joining from → ⊥
no-joining place issue from e = cc

ended-at : (well : Bool) (since : ℕ) → phase.Ended well ≡ phase.At since → ⊥
ended-at well since e = cc

ended-joining : (well : Bool) (from : ℕ) → phase.Ended well ≡ phase.Joining from → ⊥
ended-joining well from e = cc

at-joining : (since from : ℕ) → phase.At since ≡ phase.Joining from → ⊥
at-joining since from e = cc

same-since : (since other : ℕ) → phase.At since ≡ phase.At other → since ≡ other
same-since since other e = cc

same-from : (from other : ℕ) → phase.Joining from ≡ phase.Joining other → from ≡ other
same-from from other e = cc

-- Where no move is enabled now, the run goes on, and all delays are over later than a moment, none is at that moment.
module _ (s : Shown) (now later : ℕ) (sane : IsSane s) (going : outcome s.lists ≡ None) (none : first_move s now 0 s.lists.tasks ≡ None) (delayed : AllLater later (delays s)) where
  none-now : (t : ℕ) (task : Task) → slice_get s.lists.tasks t ≡ Some task
      → (is_some (walk s now t) ≡ false) × (is_some (next_command s now t) ≡ false) × (is_some (next_question s now t) ≡ false)
  none-now t task there =
      let same : t + 0 ≡ t = omega arith in
      none_of s now t going (subst (λ (k : ℕ). move_at s now k ≡ None) same (no-move s now 0 s.lists.tasks t task none there))

  -- the task sends nothing, its delay is over later, and while it joins not all its children have ended
  record Stays (t : ℕ) (task : Task) (at : Phase) : Type 0 where
    quiet : not-sending at
    early : (since : ℕ) → at ≡ phase.At since → later < since + delay_of s task
    waits : (from : ℕ) → at ≡ phase.Joining from → list_all (λ one. has_ended one.phase) (children s.lists t from) ≡ false

  stays-at : (t : ℕ) (task : Task) → slice_get s.lists.tasks t ≡ Some task → (at : Phase) → IsSaneAt s t task at → AllLater later (delay_until s task at) → Stays t task at
  stays-at t task there (phase.At since) is all = record {
    quiet = tt;
    early = λ other e. let same = same-since since other e in let after = all.0 in omega (arith, same, after);
    waits = λ from e. absurd (at-joining since from e);
  }
  stays-at t task there (phase.Sending place) is all = absurd (by (is now))
    where
      by : IsSome (next_command s now t) ⊎ IsSome (next_question s now t) → ⊥
      by (inl sends) = clash (is_some (next_command s now t)) sends (none-now t task there).1
      by (inr asked) = clash (is_some (next_question s now t)) asked (none-now t task there).2
  stays-at t task there (phase.Awaiting place issue) is all = record { quiet = tt; early = λ since e. absurd (no-at place issue since e); waits = λ from e. absurd (no-joining place issue from e) }
  stays-at t task there (phase.Joining from) is all = record {
    quiet = tt;
    early = λ since e. absurd (at-joining since from (sym e));
    waits = λ other e. subst (λ (n : ℕ). list_all (λ one. has_ended one.phase) (children s.lists t n) ≡ false) (same-from from other e) (by (list_all (λ one. has_ended one.phase) (children s.lists t from)) refl);
  }
    where
      by : (b : Bool) → list_all (λ one. has_ended one.phase) (children s.lists t from) ≡ b → list_all (λ one. has_ended one.phase) (children s.lists t from) ≡ false
      by true e = absurd (clash (is_some (walk s now t)) (is.1 e now) (none-now t task there).0)
      by false e = e
  stays-at t task there (phase.Ended well) is all = record { quiet = tt; early = λ since e. absurd (ended-at well since e); waits = λ from e. absurd (ended-joining well from e) }

  stays : (t : ℕ) (task : Task) → slice_get s.lists.tasks t ≡ Some task → Stays t task task.phase
  stays t task there = stays-at t task there task.phase (sane.tasks t task there).phase (each-task later (λ (task : Task). delay_until s task task.phase) s.lists.tasks t task delayed there)

  walk-none : (t : ℕ) → walk s later t ≡ None
  walk-none t = none-at s later t (λ (h : Here). walked h h.task.phase) (λ task step there step_is.
      let at = stays t task there in
      let delay : delay_of s task ≡ step.delay = ap (λ (o : Option Step). option_map_or (λ (one : Step). one.delay) o 0) step_is in
      no-walk (here_of s later t task step) task.phase (λ since e. let after = at.early since e in omega (arith, delay, after)) at.waits)

  placed : (make : Here → Place → Option Issue) (t : ℕ)
      → option_and_then (λ (h : Here). option_and_then (λ (place : Place). option_and_then (λ (issue : Issue). Some (issuing h issue)) (make h place)) (place_at h h.task.phase)) (here_at s later t) ≡ None
  placed make t = none-at s later t _ (λ task step there step_is.
      let h : Here = here_of s later t task step in
      ap (λ (o : Option Place). option_and_then (λ (place : Place). option_and_then (λ (issue : Issue). Some (issuing h issue)) (make h place)) o) (no-place h task.phase (stays t task there).quiet))

  move-none : (t : ℕ) → move_at s later t ≡ None
  move-none t = rw (walk-none t, placed command_at t, placed question_at t) refl

  first-none : (k : ℕ) (tasks : List Task) → first_move s later k tasks ≡ None
  first-none k [] = refl
  first-none k (task ∷ tasks) = ap (λ (o : Option Move). option_or o (first_move s later (suc k) tasks)) (move-none k) ∙ first-none (suc k) tasks

-- Where no move is enabled at a moment at which a record may come, none is before something is due.
pub no-move-before : (s : Shown) (now later : ℕ) → IsSane s → outcome s.lists ≡ None → is_in_time s now ≡ true → enabled_move s now ≡ None
    → ((at : ℕ) → due s ≡ Some at → later < at) → enabled_move s later ≡ None
no-move-before s now later sane going timely none before = by (is_in_time s later)
  where
    first : first_move s now 0 s.lists.tasks ≡ None
    first = subst (λ (b : Bool). cond b (first_move s now 0 s.lists.tasks) None ≡ None) timely none

    delayed : AllLater later (delays s)
    delayed = front later (delays s) (flat_map (λ (deadline : ℕ × ℕ). deadline.0 ∷ []) (deadlines s))
        (all-later later (delays s ++ flat_map (λ (deadline : ℕ × ℕ). deadline.0 ∷ []) (deadlines s)) before)

    by : (b : Bool) → cond b (first_move s later 0 s.lists.tasks) None ≡ None
    by true = first-none s now later sane going first delayed 0 s.lists.tasks
    by false = refl
