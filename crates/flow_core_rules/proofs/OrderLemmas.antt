-- Each record keeps the tasks in order, so a run that is ended has no enabled record.
use Rattle.std.proofs.Common.{◌≡◌, ◌⊎◌, ℕ, zero, suc, ◌+◌, ◌<◌, ◌≤◌, ◌==◌, ◌&&◌, Bool, true, false, cond, List, [], ◌∷◌, ◌++◌, length, Option, Some, None, is_some, arith, refl, ap, sym, subst, ◌∙◌, append_assoc, length-append, inl, inr}
use Rattle.std.specs.Prelude.{IfSome, option_and_then, option_map, map, slice_get, not, nat_le, nat_eq, drop, filter, is_none}
use Rattle.std.specs.List.{flat_map, list_any, list_all, slice_set}
use Rattle.std.specs.Option.{option_map_or}
use Rattle.std.specs.Str.{bytes_eq}
use Rattle.cacao_vars.specs.Scopes.{home}
use Rattle.run_records.specs.declared.record.Record.{Record}
use Rattle.run_records.specs.declared.record.Record.TheVariants as entry
use Rattle.cacao_book.specs.declared.steps.Step.{Step}
use Rattle.cacao_book.specs.declared.step_kinds.StepKind.{StepKind}
use Rattle.cacao_book.specs.declared.step_kinds.StepKind.TheVariants as does
use Rattle.flow_core_rules.specs.declared.tasks.Task.{Task}
use Rattle.flow_core_rules.specs.declared.issues.Issue.{Issue}
use Rattle.flow_core_rules.specs.declared.issues.IssuePhase.{IssuePhase}
use Rattle.flow_core_rules.specs.declared.issues.IssuePhase.TheVariants as issue_phase
use Rattle.flow_core_rules.specs.declared.phases.Phase.{Phase}
use Rattle.flow_core_rules.specs.declared.phases.Phase.TheVariants as phase
use Rattle.flow_core_rules.specs.Givens.{book_with}
use Rattle.flow_core_rules.specs.State.{Lists, Shown}
use Rattle.flow_core_rules.specs.Edits.{Edit}
use Rattle.flow_core_rules.specs.Edits.Edit.{writes, makes, moves, closes, upgrades}
use Rattle.flow_core_rules.specs.Conditions.{heads, is_true}
use Rattle.flow_core_rules.specs.Places.{Place, places}
use Rattle.flow_core_rules.specs.Tasks.{Here, here_at, go, finish, child, next_key, exception_of, in_phase}
use Rattle.flow_core_rules.specs.Sane.{JoinsFrom}
use Rattle.flow_core_rules.specs.Changes as changes
use Rattle.flow_core_rules.specs.Changes.{has_ended, Waiting, Issuing}
use Rattle.flow_core_rules.proofs.PlacedLemmas.{some_then, some_if, some_map, some_from, map_from}
use Rattle.flow_core_rules.proofs.HereLemmas.{here_of, some_at, some_option, IsWaitingAt, waiting_known}
use Rattle.flow_core_rules.proofs.ShapeLemmas.{filter_known}
use Rattle.flow_core_rules.proofs.TaskLemmas.{JoinsWithin, HasParent, IsOrderly, IsFree, MayMove, AreFine, set_here, set_length, push_front}

clash : (b : Bool) → b ≡ true → b ≡ false → ⊥
clash true x y = cc
clash false x y = cc

-- ---- finish keeps the parent, and does not join

finish_parent : (h : Here) (well : Bool) → (finish h well).parent ≡ h.task.parent
finish_parent h well = by (next_key h.step well) well (exception_of h.seen h.task)
  where
    by : (o : Option (List ℕ)) (b : Bool) (x : Option (List ℕ))
        → (option_map_or (go h.seen.given h.now h.task) o (cond b (in_phase h.task (phase.Ended true)) (option_map_or (λ key. record (go h.seen.given h.now h.task key) { excepted = true }) x (in_phase h.task (phase.Ended false))))).parent ≡ h.task.parent
    by (Some key) b x = refl
    by None true x = refl
    by None false None = refl
    by None false (Some key) = refl

finish_within : (n : ℕ) (h : Here) (well : Bool) → JoinsWithin n (finish h well).phase
finish_within n h well = by (next_key h.step well) well (exception_of h.seen h.task)
  where
    by : (o : Option (List ℕ)) (b : Bool) (x : Option (List ℕ))
        → JoinsWithin n (option_map_or (go h.seen.given h.now h.task) o (cond b (in_phase h.task (phase.Ended true)) (option_map_or (λ key. record (go h.seen.given h.now h.task key) { excepted = true }) x (in_phase h.task (phase.Ended false))))).phase
    by (Some key) b x = tt
    by None true x = tt
    by None false None = tt
    by None false (Some key) = tt

-- ---- a task whose children have ended

-- a task that does not join has no child that goes on
free_unless : (ts : List Task) (t : ℕ) (task : Task) → IsOrderly ts → slice_get ts t ≡ Some task → ((k : ℕ) → JoinsFrom k task.phase → ⊥) → IsFree ts t
free_unless ts t task o is apart k c e child_of = by (has_ended c.phase) refl (o.parents k c e)
  where
    inner : (a b : ℕ) → Some a ≡ Some b → a ≡ b
    inner a b h = cc

    task_inner : (a b : Task) → Some a ≡ Some b → a ≡ b
    task_inner a b h = cc

    none_some : (x : ℕ) → None ≡ Some x → ⊥
    none_some x h = cc

    by : (b : Bool) → has_ended c.phase ≡ b → (k ≡ 0) ⊎ HasParent ts k c → has_ended c.phase ≡ true
    by true e' p = e'
    by false e' (inl z) = absurd (none_some t (sym (o.root c (subst (λ n. slice_get ts n ≡ Some c) z e)) ∙ child_of))
    by false e' (inr p) =
        let same : p.parent ≡ t = inner p.parent t (sym p.parent_is ∙ child_of) in
        let same_task : p.by ≡ task = task_inner p.by task (sym p.by_is ∙ ap (slice_get ts) same ∙ is) in
        absurd (apart k (subst (λ (x : Task). JoinsFrom k x.phase) same_task (p.waits e')))

-- where each child from a number on has ended, and the others are earlier than that, all have
filtered_all : (p q : Task → Bool) (xs : List Task) (k : ℕ) (x : Task) → list_all p (filter q xs) ≡ true → slice_get xs k ≡ Some x → q x ≡ true → p x ≡ true
filtered_all p q [] k x all e is = absurd (none_task e)
  where
    none_task : None ≡ Some x → ⊥
    none_task h = cc
filtered_all p q (y ∷ ys) k x all e is = by (q y) refl all k e (λ j h g. filtered_all p q ys j x h g is)
  where
    inner : (a b : Task) → Some a ≡ Some b → a ≡ b
    inner a b h = cc

    first : (a b : Bool) → (a && b) ≡ true → (a ≡ true) × (b ≡ true)
    first true true h = (refl, refl)
    first true false h = (refl, h)
    first false b h = absurd (clash false h refl)

    by : (b : Bool) → q y ≡ b → list_all p (cond b (y ∷ filter q ys) (filter q ys)) ≡ true → (k : ℕ) → slice_get (y ∷ ys) k ≡ Some x
        → ((j : ℕ) → list_all p (filter q ys) ≡ true → slice_get ys j ≡ Some x → p x ≡ true) → p x ≡ true
    by true holds h zero g rest = subst (λ (z : Task). p z ≡ true) (inner y x g) (first (p y) (list_all p (filter q ys)) h).0
    by true holds h (suc k) g rest = rest k (first (p y) (list_all p (filter q ys)) h).1 g
    by false holds h zero g rest = absurd (clash (q y) (subst (λ (z : Task). q z ≡ true) (sym (inner y x g)) is) holds)
    by false holds h (suc k) g rest = rest k h g

get_drop : (xs : List Task) (from k : ℕ) (x : Task) → from ≤ k → slice_get xs k ≡ Some x → (j : ℕ) × (slice_get (drop from xs) j ≡ Some x)
get_drop xs zero k x le e = (k, e)
get_drop [] (suc from) k x le e = (k, e)
get_drop (y ∷ ys) (suc from) zero x le e = absurd (omega arith)
get_drop (y ∷ ys) (suc from) (suc k) x le e = get_drop ys from k x (omega arith) e

-- once each child from the number on has ended, all children of a task that joins have
free_joined : (s : Lists) (t from : ℕ) (task : Task) → IsOrderly s.tasks → slice_get s.tasks t ≡ Some task → task.phase ≡ phase.Joining from
    → list_all (λ one. has_ended one.phase) (changes.children s t from) ≡ true → IsFree s.tasks t
free_joined s t from task o is joins all k c e child_of = by (nat_le from k) refl
  where
    le_of : (a b : ℕ) → nat_le a b ≡ true → a ≤ b
    le_of a b h = grind arith

    less_of : (a b : ℕ) → nat_le a b ≡ false → b < a
    less_of a b h = grind arith

    same : (n : ℕ) → nat_eq n n ≡ true
    same n = grind arith

    is_child : changes.is_child_of t c ≡ true
    is_child = ap (λ (p : Option ℕ). option_map_or (nat_eq t) p false) child_of ∙ same t

    inner : (a b : ℕ) → Some a ≡ Some b → a ≡ b
    inner a b h = cc

    task_inner : (a b : Task) → Some a ≡ Some b → a ≡ b
    task_inner a b h = cc

    none_some : (x : ℕ) → None ≡ Some x → ⊥
    none_some x h = cc

    past : k < from → (has_ended c.phase ≡ false) → (k ≡ 0) ⊎ HasParent s.tasks k c → ⊥
    past less going (inl z) = none_some t (sym (o.root c (subst (λ n. slice_get s.tasks n ≡ Some c) z e)) ∙ child_of)
    past less going (inr p) =
        let here : p.parent ≡ t = inner p.parent t (sym p.parent_is ∙ child_of) in
        let same_task : p.by ≡ task = task_inner p.by task (sym p.by_is ∙ ap (slice_get s.tasks) here ∙ is) in
        let from_le : from ≤ k = subst (JoinsFrom k) joins (subst (λ (x : Task). JoinsFrom k x.phase) same_task (p.waits going)) in
        omega arith

    ended : (b : Bool) → has_ended c.phase ≡ b → k < from → has_ended c.phase ≡ true
    ended true g less = g
    ended false g less = absurd (past less g (o.parents k c e))

    by : (b : Bool) → nat_le from k ≡ b → has_ended c.phase ≡ true
    by true h =
        let there = get_drop s.tasks from k c (le_of from k h) e in
        filtered_all (λ (x : Task). has_ended x.phase) (changes.is_child_of t) (drop from s.tasks) there.0 c all there.1 is_child
    by false h = ended (has_ended c.phase) refl (less_of from k h)

-- ---- the edits of each record are fine

-- the task of a rule stands where it is shown, perhaps without the scope that its step has opened, and goes on; its children have ended
record Stands (h : Here) : Type 0 where
  order : IsOrderly h.seen.lists.tasks
  old : Task
  is : slice_get h.seen.lists.tasks h.number ≡ Some old
  parent_is : h.task.parent ≡ old.parent
  going : has_ended old.phase ≡ false
  free : IsFree h.seen.lists.tasks h.number

may_move : (h : Here) (new : Task) → Stands h → new.parent ≡ h.task.parent → JoinsWithin (length h.seen.lists.tasks) new.phase → MayMove h.seen.lists.tasks h.number new
may_move h new st same within = record { old = st.old; old_is = st.is; parent_is = same ∙ st.parent_is; going = st.going; free = st.free; within = within }

stands_inside : (h : Here) → Stands h → Stands (changes.inside h)
stands_inside h st = record { order = st.order; old = st.old; is = st.is; parent_is = st.parent_is; going = st.going; free = st.free }

fine_done : (h : Here) (well : Bool) → Stands h → AreFine h.seen.lists.tasks (changes.done h well)
fine_done h well st = (may_move h (finish h well) st (finish_parent h well) (finish_within (length h.seen.lists.tasks) h well), tt)

fine_written : (s : Lists) (scope : ℕ) (ts : List Task) (ps : List (List ℕ × Option (List ℕ))) (es : List Edit) → AreFine ts es → AreFine ts (flat_map (changes.written s scope) ps ++ es)
fine_written s scope ts [] es h = h
fine_written s scope ts (p ∷ ps) es h =
    subst (AreFine ts) (sym (append_assoc (changes.written s scope p) (flat_map (changes.written s scope) ps) es))
    (one p (flat_map (changes.written s scope) ps ++ es) (fine_written s scope ts ps es h))
  where
    one : (p : List ℕ × Option (List ℕ)) (es : List Edit) → AreFine ts es → AreFine ts (changes.written s scope p ++ es)
    one (name, None) es h = h
    one (name, Some text) es h = by (home s.scopes scope name)
      where
        by : (o : Option ℕ) → AreFine ts (option_map_or (λ at. writes at name text ∷ []) o [] ++ es)
        by None = h
        by (Some at) = h

fine_bound : (scope : ℕ) (ts : List Task) (ps : List (List ℕ × Option (List ℕ))) (es : List Edit) → AreFine ts es → AreFine ts (flat_map (changes.binding scope) ps ++ es)
fine_bound scope ts [] es h = h
fine_bound scope ts (p ∷ ps) es h =
    subst (AreFine ts) (sym (append_assoc (changes.binding scope p) (flat_map (changes.binding scope) ps) es))
    (one p (flat_map (changes.binding scope) ps ++ es) (fine_bound scope ts ps es h))
  where
    one : (p : List ℕ × Option (List ℕ)) (es : List Edit) → AreFine ts es → AreFine ts (changes.binding scope p ++ es)
    one (name, None) es h = h
    one (name, Some text) es h = h

-- tasks that are made of a task that joins from a number that is not past the next
fine_made : (ts : List Task) (t : ℕ) (by : Task) (from : ℕ) (f : List ℕ → Task) (keys : List (List ℕ)) → slice_get ts t ≡ Some by → by.phase ≡ phase.Joining from → from ≤ length ts
    → ((key : List ℕ) → (f key).parent ≡ Some t) → ((key : List ℕ) (n : ℕ) → JoinsWithin n (f key).phase) → AreFine ts (map (λ key. makes (f key)) keys)
fine_made ts t by from f [] is joins le parents phases = tt
fine_made ts t by from f (key ∷ keys) is joins le parents phases =
    let grown : length (ts ++ f key ∷ []) ≡ suc (length ts) = omega (arith, length-append ts (f key ∷ [])) in (
      record {
        parent = t;
        parent_is = parents key;
        by = by;
        by_is = is;
        waits = subst (JoinsFrom (length ts)) (sym joins) le;
        within = phases key (length ts);
      },
      fine_made (ts ++ f key ∷ []) t by from f keys (push_front ts (f key) t by is) joins (omega arith) parents phases,
    )

-- the task joins, and tasks are made of it
fine_joining : (h : Here) (f : List ℕ → Task) (keys : List (List ℕ)) → Stands h → ((key : List ℕ) → (f key).parent ≡ Some h.number) → ((key : List ℕ) (n : ℕ) → JoinsWithin n (f key).phase)
    → AreFine h.seen.lists.tasks (moves h.number (changes.joining h) ∷ map (λ key. makes (f key)) keys)
fine_joining h f keys st parents phases =
    let ts : List Task = h.seen.lists.tasks in
    let same : length (slice_set ts h.number (changes.joining h)) ≡ length ts = set_length ts h.number (changes.joining h) in (
      may_move h (changes.joining h) st refl (omega arith),
      fine_made (slice_set ts h.number (changes.joining h)) h.number (changes.joining h) (length ts) f keys (set_here ts h.number (changes.joining h) st.old st.is) refl (omega arith) parents phases,
    )

fine_branched : (h : Here) (scope : ℕ) (keys : List (List ℕ)) → Stands h → AreFine h.seen.lists.tasks (changes.branched h scope keys)
fine_branched h scope [] st = fine_done h true st
fine_branched h scope (key ∷ keys) st = fine_joining h (child h h.task.book scope) (key ∷ keys) st (λ k. refl) (λ k n. tt)

fine_controlled : (h : Here) (kind : StepKind) → Stands h → AreFine h.seen.lists.tasks (changes.controlled h kind)
fine_controlled h kind st =
    fine_branched (changes.inside h) (length h.seen.lists.scopes) (heads (changes.inside h).seen.lists (length h.seen.lists.scopes) kind) (stands_inside h st)

fine_entered : (h : Here) (kind : StepKind) → Stands h → IfSome (changes.entered h kind) (AreFine h.seen.lists.tasks)
fine_entered h does.Start st = fine_done h true st
fine_entered h does.End st = (may_move h (in_phase h.task (phase.Ended true)) st refl tt, tt)
fine_entered h (does.Action a b c d e) st = (may_move (changes.inside h) (in_phase (changes.inside h).task (phase.Sending 0)) (stands_inside h st) refl tt, tt)
fine_entered h (does.PlaybookAction playbook version in_args out_args) st =
    let n : ℕ = length h.seen.lists.scopes in
    some_map (book_with h.seen.given playbook) (λ theirs. changes.opening h ∷ changes.called (changes.inside h) n in_args theirs) (AreFine h.seen.lists.tasks) (λ theirs.
    fine_bound (suc n) h.seen.lists.tasks (changes.valued (changes.inside h).seen.lists n in_args)
    (moves h.number (changes.joining (changes.inside h)) ∷ makes (child (changes.inside h) theirs.0 (suc n) (theirs.1).start) ∷ [])
    (fine_joining (changes.inside h) (child (changes.inside h) theirs.0 (suc n)) ((theirs.1).start ∷ []) (stands_inside h st) (λ k. refl) (λ k m. tt)))
fine_entered h (does.Parallel a) st = fine_controlled h (does.Parallel a) st
fine_entered h (does.If a b c) st = fine_controlled h (does.If a b c) st
fine_entered h (does.While a b) st = fine_controlled h (does.While a b) st
fine_entered h (does.Switch a b) st = fine_controlled h (does.Switch a b) st

fine_choice : (ts : List Task) (b : Bool) (xs ys : List Edit) → AreFine ts xs → AreFine ts ys → AreFine ts (cond b xs ys)
fine_choice ts true xs ys a b = a
fine_choice ts false xs ys a b = b

-- the task that joins from a number
record Joins (h : Here) (from : ℕ) : Type 0 where
  stands : Stands h
  joins : (stands.old).phase ≡ phase.Joining from
  le : from ≤ length h.seen.lists.tasks

fine_rejoined : (h : Here) (from scope : ℕ) (kind : StepKind) → Joins h from → AreFine h.seen.lists.tasks (changes.rejoined h from scope kind)
fine_rejoined h from scope (does.While condition on_true) j =
    fine_choice h.seen.lists.tasks (is_true h.seen.lists scope condition) (makes (child h h.task.book scope on_true) ∷ []) (changes.done h true)
    (fine_made h.seen.lists.tasks h.number (j.stands).old from (child h h.task.book scope) (on_true ∷ []) (j.stands).is j.joins j.le (λ k. refl) (λ k n. tt))
    (fine_done h true j.stands)
fine_rejoined h from scope (does.PlaybookAction a b c d) j =
    fine_written h.seen.lists scope h.seen.lists.tasks (option_map_or (λ (root : Task). changes.valued h.seen.lists root.scope d) (slice_get h.seen.lists.tasks from) []) (changes.done h true) (fine_done h true j.stands)
fine_rejoined h from scope does.Start j = fine_done h true j.stands
fine_rejoined h from scope does.End j = fine_done h true j.stands
fine_rejoined h from scope (does.Action a b c d e) j = fine_done h true j.stands
fine_rejoined h from scope (does.Parallel a) j = fine_done h true j.stands
fine_rejoined h from scope (does.If a b c) j = fine_done h true j.stands
fine_rejoined h from scope (does.Switch a b) j = fine_done h true j.stands

two_ways_if : {B : Type 0} (b : Bool) (x y : Option B) (P : B → Type 0) → (b ≡ true → IfSome x P) → (b ≡ false → IfSome y P) → IfSome (cond b x y) P
two_ways_if true x y P a b = a refl
two_ways_if false x y P a b = b refl

not_true : (b : Bool) → not b ≡ false → b ≡ true
not_true true e = refl
not_true false e = absurd (clash true refl e)

-- the task of a rule is the one that is shown
abbrev stands_at : (s : Shown) (now t : ℕ) (task : Task) (step : Step) → IsOrderly s.lists.tasks → slice_get s.lists.tasks t ≡ Some task → has_ended task.phase ≡ false → IsFree s.lists.tasks t
    → Stands (here_of s now t task step)
stands_at s now t task step o is going free = record { order = o; old = task; is = is; parent_is = refl; going = going; free = free }

fine_walked : (s : Shown) (now t : ℕ) (task : Task) (step : Step) (at : Phase) → IsOrderly s.lists.tasks → slice_get s.lists.tasks t ≡ Some task → task.phase ≡ at
    → IfSome (changes.walked (here_of s now t task step) at) (AreFine s.lists.tasks)
fine_walked s now t task step (phase.At since) o is at =
    let h : Here = here_of s now t task step in
    let going : has_ended task.phase ≡ false = ap has_ended at in
    let free : IsFree s.lists.tasks t = free_unless s.lists.tasks t task o is (λ k j. subst (JoinsFrom k) at j) in
    some_if (nat_le (since + step.delay) now) (changes.entered h step.kind) (AreFine s.lists.tasks) (fine_entered h step.kind (stands_at s now t task step o is going free))
fine_walked s now t task step (phase.Joining from) o is at =
    let h : Here = here_of s now t task step in
    let branches : List Task = changes.children s.lists t from in
    some_then task.step_scope (λ (scope : ℕ). changes.joined h from scope (changes.children s.lists t from)) (AreFine s.lists.tasks) (λ scope.
    two_ways_if (not (list_all (λ one. has_ended one.phase) branches)) None (cond (list_any (λ one. changes.has_failed one.phase) branches) (Some (changes.done h false)) (Some (changes.rejoined h from scope step.kind))) (AreFine s.lists.tasks) (λ e. tt {0}) (λ e.
    let free : IsFree s.lists.tasks t = free_joined s.lists t from task o is at (not_true (list_all (λ one. has_ended one.phase) branches) e) in
    let st : Stands h = stands_at s now t task step o is (ap has_ended at) free in
    two_ways_if (list_any (λ one. changes.has_failed one.phase) branches) (Some (changes.done h false)) (Some (changes.rejoined h from scope step.kind)) (AreFine s.lists.tasks) (λ f. fine_done h false st)
    (λ f. fine_rejoined h from scope step.kind (record { stands = st; joins = at; le = subst (JoinsWithin (length s.lists.tasks)) at (o.joins t task is) }))))
fine_walked s now t task step (phase.Sending place) o is at = tt
fine_walked s now t task step (phase.Awaiting place issue) o is at = tt
fine_walked s now t task step (phase.Ended well) o is at = tt

fine_walk : (s : Shown) (now t : ℕ) → IsOrderly s.lists.tasks → IfSome (changes.walk s now t) (AreFine s.lists.tasks)
fine_walk s now t o =
    some_at s now t (λ (h : Here). changes.walked h h.task.phase) (AreFine s.lists.tasks) (λ task step task_is step_is. fine_walked s now t task step task.phase o task_is refl)

-- ---- a task that sends or asks

fine_issuing : (s : Shown) (now t : ℕ) (task : Task) (step : Step) (issue : Issue) → IsOrderly s.lists.tasks → slice_get s.lists.tasks t ≡ Some task → (n : ℕ) → task.phase ≡ phase.Sending n
    → AreFine s.lists.tasks (changes.issuing (here_of s now t task step) issue).1
fine_issuing s now t task step issue o is n at =
    let h : Here = here_of s now t task step in
    let free : IsFree s.lists.tasks t = free_unless s.lists.tasks t task o is (λ k j. subst (JoinsFrom k) at j) in
    (may_move h (in_phase task (phase.Awaiting (changes.place_number task.phase) (length s.lists.issues))) (stands_at s now t task step o is (ap has_ended at) free) refl tt, tt)

sends_from : (h : Here) (at : Phase) (place : Place) → changes.place_at h at ≡ Some place → (n : ℕ) × (at ≡ phase.Sending n)
sends_from h (phase.Sending n) place e = (n, refl)
sends_from h (phase.At since) place e = absurd (none_place e)
  where
    none_place : None ≡ Some place → ⊥
    none_place g = cc
sends_from h (phase.Awaiting p i) place e = absurd (none_place e)
  where
    none_place : None ≡ Some place → ⊥
    none_place g = cc
sends_from h (phase.Joining from) place e = absurd (none_place e)
  where
    none_place : None ≡ Some place → ⊥
    none_place g = cc
sends_from h (phase.Ended well) place e = absurd (none_place e)
  where
    none_place : None ≡ Some place → ⊥
    none_place g = cc

fine_next : (s : Shown) (now t : ℕ) (issue_at : Here → Place → Option Issue) → IsOrderly s.lists.tasks
    → IfSome (option_and_then (λ (h : Here). option_and_then (λ (place : Place). option_and_then (λ (issue : Issue). Some (changes.issuing h issue)) (issue_at h place)) (changes.place_at h h.task.phase)) (here_at s now t)) (λ made. AreFine s.lists.tasks made.1)
fine_next s now t issue_at o =
    some_at s now t (λ (h : Here). option_and_then (λ (place : Place). option_and_then (λ (issue : Issue). Some (changes.issuing h issue)) (issue_at h place)) (changes.place_at h h.task.phase)) (λ made. AreFine s.lists.tasks made.1) (λ task step task_is step_is.
    let h : Here = here_of s now t task step in
    some_option (changes.place_at h task.phase) (λ (place : Place). option_and_then (λ (issue : Issue). Some (changes.issuing h issue)) (issue_at h place)) (λ made. AreFine s.lists.tasks made.1) (λ place place_is.
    let at = sends_from h task.phase place place_is in
    some_then (issue_at h place) (λ (issue : Issue). Some (changes.issuing h issue)) (λ made. AreFine s.lists.tasks made.1) (λ issue. fine_issuing s now t task step issue o task_is at.0 at.1)))

fine_send : (s : Shown) (now t n agent : ℕ) (bytes : List ℕ) → IsOrderly s.lists.tasks → IfSome (changes.send s now t n agent bytes) (AreFine s.lists.tasks)
fine_send s now t n agent bytes o =
    some_from (changes.next_command s now t) (λ (made : Issuing). cond (same made) (Some made.1) None) (λ made. AreFine s.lists.tasks made.1) (AreFine s.lists.tasks) (fine_next s now t changes.command_at o) (λ made h. some_if (same made) (Some made.1) (AreFine s.lists.tasks) h)
  where
    same : Issuing → Bool
    same made = (n == length s.lists.issues) && (agent == (made.0).agent) && bytes_eq bytes (made.0).bytes

fine_ask : (s : Shown) (now t n : ℕ) (bytes : List ℕ) → IsOrderly s.lists.tasks → IfSome (changes.ask s now t n bytes) (AreFine s.lists.tasks)
fine_ask s now t n bytes o =
    some_from (changes.next_question s now t) (λ (made : Issuing). cond (same made) (Some made.1) None) (λ made. AreFine s.lists.tasks made.1) (AreFine s.lists.tasks) (fine_next s now t changes.question_at o) (λ made h. some_if (same made) (Some made.1) (AreFine s.lists.tasks) h)
  where
    same : Issuing → Bool
    same made = s.lists.is_upgraded && (n == length s.lists.issues) && bytes_eq bytes (made.0).bytes

-- ---- a task whose issue ends

awaits_from : (n : ℕ) (at : Phase) (place : ℕ) → changes.awaited_place n at ≡ Some place → (p : ℕ) × (issue : ℕ) × (at ≡ phase.Awaiting p issue)
awaits_from n (phase.Awaiting p i) place e = (p, i, refl)
awaits_from n (phase.At since) place e = absurd (none_number e)
  where
    none_number : None ≡ Some place → ⊥
    none_number g = cc
awaits_from n (phase.Sending m) place e = absurd (none_number e)
  where
    none_number : None ≡ Some place → ⊥
    none_number g = cc
awaits_from n (phase.Joining from) place e = absurd (none_number e)
  where
    none_number : None ≡ Some place → ⊥
    none_number g = cc
awaits_from n (phase.Ended well) place e = absurd (none_number e)
  where
    none_number : None ≡ Some place → ⊥
    none_number g = cc

-- the place of an issue that waits
record StandsAt (s : Shown) (w : Waiting) : Type 0 where
  seen : w.here.seen ≡ s
  stands : Stands w.here

waiting_stands : (s : Shown) (now n : ℕ) (w : Waiting) → IsOrderly s.lists.tasks → IsWaitingAt s now n w → StandsAt s w
waiting_stands s now n w o k =
    let at = awaits_from n (k.task).phase w.place k.place_is in
    let free : IsFree s.lists.tasks (w.issue).task = free_unless s.lists.tasks (w.issue).task k.task o k.task_is (λ j joins. subst (JoinsFrom j) at.2 joins) in
    record {
      seen = ap (λ (h : Here). h.seen) k.here_is;
      stands = subst Stands (sym k.here_is) (stands_at s now (w.issue).task k.task k.step o k.task_is (ap has_ended at.2) free);
    }

after_parent : (w : Waiting) (status : ℕ) → (changes.after_answer w status).parent ≡ w.here.task.parent
after_parent w status = by (not (status == 200)) (is_some (slice_get (places w.here.step.kind) (suc w.place)))
  where
    by : (a b : Bool) → (cond a (finish w.here false) (cond b (in_phase w.here.task (phase.Sending (suc w.place))) (finish w.here true))).parent ≡ w.here.task.parent
    by true b = finish_parent w.here false
    by false true = refl
    by false false = finish_parent w.here true

after_within : (n : ℕ) (w : Waiting) (status : ℕ) → JoinsWithin n (changes.after_answer w status).phase
after_within n w status = by (not (status == 200)) (is_some (slice_get (places w.here.step.kind) (suc w.place)))
  where
    by : (a b : Bool) → JoinsWithin n (cond a (finish w.here false) (cond b (in_phase w.here.task (phase.Sending (suc w.place))) (finish w.here true))).phase
    by true b = finish_within n w.here false
    by false true = tt
    by false false = finish_within n w.here true

fine_answered : (s : Shown) (n : ℕ) (end : IssuePhase) (status rule : ℕ) (text : List ℕ) (w : Waiting) → StandsAt s w → AreFine s.lists.tasks (changes.answered n end status rule text w)
fine_answered s n end status rule text w st =
    subst (λ (x : Shown). AreFine x.lists.tasks (changes.answered n end status rule text w)) st.seen
    (fine_written w.here.seen.lists w.scope w.here.seen.lists.tasks (changes.paired (changes.out_args_of w.here.step.kind) (changes.results status rule text)) (moves w.here.number (changes.after_answer w status) ∷ [])
    (may_move w.here (changes.after_answer w status) st.stands (after_parent w status) (after_within (length w.here.seen.lists.tasks) w status), tt))

fine_reply : (s : Shown) (now n status rule : ℕ) (text : List ℕ) → IsOrderly s.lists.tasks → IfSome (changes.reply s now n status rule text) (AreFine s.lists.tasks)
fine_reply s now n status rule text o =
    let f : Waiting → List Edit = changes.answered n (issue_phase.Answered status) status rule text in
    some_if (changes.is_answer status text) (option_map f (changes.waiting_filter_at s now n)) (AreFine s.lists.tasks)
    (map_from (changes.waiting_filter_at s now n) f (IsWaitingAt s now n) (AreFine s.lists.tasks) (filter_known s now n) (λ w k. fine_answered s n (issue_phase.Answered status) status rule text w (waiting_stands s now n w o k)))

fine_tell : (s : Shown) (now n status : ℕ) (text : List ℕ) → IsOrderly s.lists.tasks → IfSome (changes.tell s now n status text) (AreFine s.lists.tasks)
fine_tell s now n status text o =
    let f : Waiting → List Edit = changes.answered n (issue_phase.Told status) status 0 text in
    some_if (s.lists.is_upgraded && changes.is_answer status text) (option_map f (changes.waiting_at s now n)) (AreFine s.lists.tasks)
    (map_from (changes.waiting_at s now n) f (IsWaitingAt s now n) (AreFine s.lists.tasks) (waiting_known s now n) (λ w k. fine_answered s n (issue_phase.Told status) status 0 text w (waiting_stands s now n w o k)))

fine_expire : (s : Shown) (now n : ℕ) → IsOrderly s.lists.tasks → IfSome (changes.expire s now n) (AreFine s.lists.tasks)
fine_expire s now n o =
    some_from (changes.waiting_filter_at s now n) (changes.expired n) (IsWaitingAt s now n) (AreFine s.lists.tasks) (filter_known s now n) (λ w k.
    let st : StandsAt s w = waiting_stands s now n w o k in
    some_if (nat_le ((w.issue).moment + w.here.step.timeout) w.here.now) (Some (closes n issue_phase.Expired ∷ changes.done w.here false)) (AreFine s.lists.tasks)
    (subst (λ (x : Shown). AreFine x.lists.tasks (changes.done w.here false)) st.seen (fine_done w.here false st.stands)))

fine_edits : (s : Shown) (r : Record) → IsOrderly s.lists.tasks → IfSome (changes.edits_of s r) (AreFine s.lists.tasks)
fine_edits s (entry.Begin run moment books bind) o = tt
fine_edits s (entry.Walk task moment) o = fine_walk s moment task o
fine_edits s (entry.Send task issue agent moment bytes) o = fine_send s moment task issue agent bytes o
fine_edits s (entry.Reply issue moment status rule text) o = fine_reply s moment issue status rule text o
fine_edits s (entry.Expire issue moment) o = fine_expire s moment issue o
fine_edits s (entry.Upgrade version moment) o = some_if ((version == 2) && is_none (changes.outcome s.lists) && not s.lists.is_upgraded) (Some (upgrades ∷ [])) (AreFine s.lists.tasks) (tt {0})
fine_edits s (entry.Ask task issue moment bytes) o = fine_ask s moment task issue bytes o
fine_edits s (entry.Told issue moment status text) o = fine_tell s moment issue status text o

pub change_fine : (s : Shown) (r : Record) (edits : List Edit) → IsOrderly s.lists.tasks → changes.change s r ≡ Some edits → AreFine s.lists.tasks edits
change_fine s r edits o e =
    subst (λ x. IfSome x (AreFine s.lists.tasks)) e (some_if (changes.is_in_time s (changes.moment_of r)) (changes.edits_of s r) (AreFine s.lists.tasks) (fine_edits s r o))
