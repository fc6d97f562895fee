-- A sane state is not stuck: the last task that has not ended can move, or something is waited for.
use Rattle.std.proofs.Common.{◌≡◌, ◌⊎◌, ℕ, zero, suc, ◌+◌, ◌<◌, ◌≤◌, ◌==◌, Bool, true, false, cond, ◌&&◌, List, [], ◌∷◌, ◌++◌, length, Option, Some, None, is_some, arith, refl, sym, subst, inl, inr}
use Rattle.std.specs.Option.{option_or}
use Rattle.std.specs.Prelude.{IsSome, slice_get, drop, filter, nat_le, not}
use Rattle.std.specs.List.{list_all, flat_map}
use Rattle.run_records.specs.Ranges.{last_moment}
use Rattle.flow_core_rules.specs.declared.tasks.Task.{Task}
use Rattle.flow_core_rules.specs.declared.issues.Issue.{Issue}
use Rattle.flow_core_rules.specs.declared.phases.Phase.{Phase}
use Rattle.flow_core_rules.specs.declared.phases.Phase.TheVariants as phase
use Rattle.flow_core_rules.specs.declared.moves.Move.{Move}
use Rattle.flow_core_rules.specs.declared.moves.Move.TheVariants as move
use Rattle.flow_core_rules.specs.State.{Shown}
use Rattle.flow_core_rules.specs.Changes.{children, is_child_of, has_ended, is_waiting, walk, next_command, next_question, upgrade, outcome, ended_how, is_in_time}
use Rattle.flow_core_rules.specs.Moves.{move_at, first_move, enabled_move, delay_until, delays, deadline_of, has_deadline, deadlines_from, deadlines, least, due, is_question, first_question, asks}
use Rattle.flow_core_rules.specs.Sane.{IsSaneAt, IsSane}
use Rattle.flow_core_rules.specs.Laws.{SaneIsNotStuck}

none_some : {A : Type 0} (x : A) → None ≡ Some x → ⊥
none_some x e = cc

pub some_none : {A : Type 0} (x : A) → Some x ≡ None → ⊥
some_none x e = cc

no_cons : {A : Type 0} (x : A) (xs : List A) → x ∷ xs ≡ [] → ⊥
no_cons x xs e = cc

some_same : {A : Type 0} (x y : A) → Some x ≡ Some y → x ≡ y
some_same x y e = cc

least-none : (ns : List ℕ) → least ns ≡ None → ns ≡ []
least-none [] e = refl
least-none (n ∷ ns) e = absurd (some_none _ e)

left-empty : {A : Type 0} (xs ys : List A) → xs ++ ys ≡ [] → xs ≡ []
left-empty [] ys e = refl
left-empty (x ∷ xs) ys e = absurd (no_cons x (xs ++ ys) e)

right-empty : {A : Type 0} (xs ys : List A) → xs ++ ys ≡ [] → ys ≡ []
right-empty [] ys e = e
right-empty (x ∷ xs) ys e = absurd (no_cons x (xs ++ ys) e)

each-empty : {A B : Type 0} (f : A → List B) (xs : List A) (k : ℕ) (x : A) → flat_map f xs ≡ [] → slice_get xs k ≡ Some x → f x ≡ []
each-empty f [] k x e g = absurd (none_some x g)
each-empty f (y ∷ ys) zero x e g = subst (λ z. f z ≡ []) (some_same y x g) (left-empty (f y) (flat_map f ys) e)
each-empty f (y ∷ ys) (suc k) x e g = each-empty f ys k x (right-empty (f y) (flat_map f ys) e) g

ones-empty : (ds : List (ℕ × ℕ)) → flat_map (λ deadline. deadline.0 ∷ []) ds ≡ [] → ds ≡ []
ones-empty [] e = refl
ones-empty (d ∷ ds) e = absurd (no_cons d.0 (flat_map (λ deadline. deadline.0 ∷ []) ds) e)

-- where no deadline stands and no operator is asked, no issue waits
none-waits : (s : Shown) (n m : ℕ) (issues : List Issue) (k : ℕ) (i : Issue) → deadlines_from s n issues ≡ [] → first_question m issues ≡ None
    → slice_get issues k ≡ Some i → is_waiting i.phase ≡ true → ⊥
none-waits s n m [] k i d q g w = none_some i g
none-waits s n m (x ∷ issues) zero i d q g w =
    let here : is_waiting x.phase ≡ true = subst (λ (z : Issue). is_waiting z.phase ≡ true) (sym (some_same x i g)) w in
    by (is_waiting x.phase) (x.agent == 0) here d q
  where
    by : (waits operator : Bool) → waits ≡ true
        → cond (waits && not operator) ((deadline_of s x, n) ∷ deadlines_from s (suc n) issues) (deadlines_from s (suc n) issues) ≡ []
        → cond (waits && operator) (Some m) (first_question (suc m) issues) ≡ None → ⊥
    by true true h d q = some_none m q
    by true false h d q = no_cons (deadline_of s x, n) (deadlines_from s (suc n) issues) d
    by false operator h d q = cc
none-waits s n m (x ∷ issues) (suc k) i d q g w =
    none-waits s (suc n) (suc m) issues k i (by-deadline (has_deadline x) d) (by-question (is_question x) q) g w
  where
    by-deadline : (b : Bool) → cond b ((deadline_of s x, n) ∷ deadlines_from s (suc n) issues) (deadlines_from s (suc n) issues) ≡ [] → deadlines_from s (suc n) issues ≡ []
    by-deadline true e = absurd (no_cons (deadline_of s x, n) (deadlines_from s (suc n) issues) e)
    by-deadline false e = e

    by-question : (b : Bool) → cond b (Some m) (first_question (suc m) issues) ≡ None → first_question (suc m) issues ≡ None
    by-question true e = absurd (some_none m e)
    by-question false e = e

left-none : (o p : Option Move) → option_or o p ≡ None → o ≡ None
left-none None p h = refl
left-none (Some m) p h = absurd (some_none m h)

right-none : (o p : Option Move) → option_or o p ≡ None → p ≡ None
right-none None p h = h
right-none (Some m) p h = absurd (some_none m h)

pub no-move : (s : Shown) (now k : ℕ) (tasks : List Task) (j : ℕ) (task : Task) → first_move s now k tasks ≡ None → slice_get tasks j ≡ Some task → move_at s now (j + k) ≡ None
no-move s now k [] j task e g = absurd (none_some task g)
no-move s now k (x ∷ tasks) zero task e g =
    let z : 0 + k ≡ k = omega arith in rw z (left-none (move_at s now k) (first_move s now (suc k) tasks) e)
no-move s now k (x ∷ tasks) (suc j) task e g =
    let z : suc j + k ≡ j + suc k = omega arith in
    rw z (no-move s now (suc k) tasks j task (right-none (move_at s now k) (first_move s now (suc k) tasks) e) g)

-- what a task that has no move at a moment can't do, while the run goes on
moves_by : (walks sends asks upgraded upgrades : Bool) (t : ℕ) → (upgraded ≡ false → upgrades ≡ true)
    → cond walks (Some (move.Walk t)) (cond sends (Some (move.Send t)) (cond (not asks) None (cond upgraded (Some (move.Ask t)) (cond upgrades (Some move.Upgrade) None)))) ≡ None
    → (walks ≡ false) × (sends ≡ false) × (asks ≡ false)
moves_by true sends asks upgraded upgrades t h e = absurd (some_none (move.Walk t) e)
moves_by false true asks upgraded upgrades t h e = absurd (some_none (move.Send t) e)
moves_by false false true true upgrades t h e = absurd (some_none (move.Ask t) e)
moves_by false false true false true t h e = absurd (some_none move.Upgrade e)
moves_by false false true false false t h e = absurd (no (h refl))
  where
    no : false ≡ true → ⊥
    no g = cc
moves_by false false false upgraded upgrades t h e = (refl, refl, refl)

upgrades_if : (s : Shown) → outcome s.lists ≡ None → s.lists.is_upgraded ≡ false → is_some (upgrade s.lists 2) ≡ true
upgrades_if s going not_yet = rw (going, not_yet) refl

pub none_of : (s : Shown) (now t : ℕ) → outcome s.lists ≡ None → move_at s now t ≡ None
    → (is_some (walk s now t) ≡ false) × (is_some (next_command s now t) ≡ false) × (is_some (next_question s now t) ≡ false)
none_of s now t going e =
    moves_by (is_some (walk s now t)) (is_some (next_command s now t)) (is_some (next_question s now t)) s.lists.is_upgraded (is_some (upgrade s.lists 2)) t (upgrades_if s going) e

both-true : (a b : Bool) → (a && b) ≡ true → (a ≡ true) × (b ≡ true)
both-true true true e = (refl, refl)
both-true true false e = (refl, e)
both-true false b e = (e, absurd (no e))
  where
    no : false ≡ true → ⊥
    no h = cc

all-filtered : (p q : Task → Bool) (xs : List Task) → list_all p xs ≡ true → list_all p (filter q xs) ≡ true
all-filtered p q [] h = refl
all-filtered p q (x ∷ xs) h =
    let parts = both-true (p x) (list_all p xs) h in
    by (q x) (all-filtered p q xs parts.1)
  where
    by : (b : Bool) → list_all p (filter q xs) ≡ true → list_all p (cond b (x ∷ filter q xs) (filter q xs)) ≡ true
    by true rest = let parts = both-true (p x) (list_all p xs) h in rw parts.0 rest
    by false rest = rest

all-each : (p : Task → Bool) (xs : List Task) → ((k : ℕ) (x : Task) → slice_get xs k ≡ Some x → p x ≡ true) → list_all p xs ≡ true
all-each p [] h = refl
all-each p (x ∷ xs) h = rw (h 0 x refl) (all-each p xs (λ k y g. h (suc k) y g))

all-later : (p : Task → Bool) (xs : List Task) (from : ℕ) → ((k : ℕ) (x : Task) → from ≤ k → slice_get xs k ≡ Some x → p x ≡ true) → list_all p (drop from xs) ≡ true
all-later p xs zero h = all-each p xs (λ k x g. h k x (omega arith) g)
all-later p [] (suc from) h = refl
all-later p (x ∷ xs) (suc from) h = all-later p xs from (λ k y le g. h (suc k) y (omega arith) g)

within : (xs : List Task) (k : ℕ) (x : Task) → slice_get xs k ≡ Some x → k < length xs
within [] k x e = absurd (none_some x e)
within (y ∷ ys) zero x e = omega arith
within (y ∷ ys) (suc k) x e = let h : k < length ys = within ys k x e in omega arith

both_ways : (o : Bool) → o ≡ true → o ≡ false → ⊥
both_ways true a b = cc
both_ways false a b = cc

-- where nothing is waited for and nothing can move, a task has ended if all later ones have
ends : (s : Shown) (now k : ℕ) (task : Task) (at : Phase) → IsSaneAt s k task at → slice_get s.lists.tasks k ≡ Some task
    → delay_until s task at ≡ [] → deadlines s ≡ [] → asks s ≡ None → outcome s.lists ≡ None → move_at s now k ≡ None
    → ((j : ℕ) (y : Task) → k < j → slice_get s.lists.tasks j ≡ Some y → has_ended y.phase ≡ true)
    → has_ended at ≡ true
ends s now k task (phase.At since) sane get delay dead question going move later = absurd (no_cons _ _ delay)
ends s now k task (phase.Sending place) sane get delay dead question going move later =
    let none = none_of s now k going move in by none (sane now)
  where
    by : (is_some (walk s now k) ≡ false) × (is_some (next_command s now k) ≡ false) × (is_some (next_question s now k) ≡ false)
        → IsSome (next_command s now k) ⊎ IsSome (next_question s now k) → has_ended (phase.Sending place) ≡ true
    by none (inl sends) = absurd (both_ways (is_some (next_command s now k)) sends none.1)
    by none (inr asked) = absurd (both_ways (is_some (next_question s now k)) asked none.2)
ends s now k task (phase.Awaiting place issue) sane get delay dead question going move later =
    absurd (none-waits s 0 0 s.lists.issues issue sane.issue dead question sane.issue_is sane.waits)
ends s now k task (phase.Joining from) sane get delay dead question going move later =
    let all : list_all (λ task. has_ended task.phase) (children s.lists k from) ≡ true =
    all-filtered (λ c. has_ended c.phase) (is_child_of k) (drop from s.lists.tasks) (all-later (λ c. has_ended c.phase) s.lists.tasks from (λ j y le g. let less = sane.0 in later j y (omega arith) g)) in
    let none = none_of s now k going move in
    absurd (both_ways (is_some (walk s now k)) (sane.1 all now) none.0)
ends s now k task (phase.Ended well) sane get delay dead question going move later = refl

all-ended : (s : Shown) (now : ℕ) → IsSane s → delays s ≡ [] → deadlines s ≡ [] → asks s ≡ None → outcome s.lists ≡ None → first_move s now 0 s.lists.tasks ≡ None
    → (n k : ℕ) (x : Task) → length s.lists.tasks ≤ k + n → slice_get s.lists.tasks k ≡ Some x → has_ended x.phase ≡ true
all-ended s now sane delay dead question going move zero k x le get = let less = within s.lists.tasks k x get in absurd (omega arith)
all-ended s now sane delay dead question going move (suc n) k x le get =
    let none : move_at s now (k + 0) ≡ None = no-move s now 0 s.lists.tasks k x move get in
    let z : k + 0 ≡ k = omega arith in
    let here = sane.tasks k x get in
    ends s now k x x.phase here.phase get (each-empty (λ (task : Task). delay_until s task task.phase) s.lists.tasks k x delay get) dead question going (rw z at none)
    (λ j y less g. all-ended s now sane delay dead question going move n j y (omega arith) g)

le_true : (a b : ℕ) → a ≤ b → nat_le a b ≡ true
le_true a b h = grind arith

ended_known : (p : Phase) → has_ended p ≡ true → ended_how p ≡ None → ⊥
ended_known (phase.Ended well) e h = some_none well h
ended_known (phase.At since) e h = cc
ended_known (phase.Sending place) e h = cc
ended_known (phase.Awaiting place issue) e h = cc
ended_known (phase.Joining from) e h = cc

stuck : (s : Shown) (now : ℕ) → IsSane s → s.moment ≤ now → now ≤ last_moment → outcome s.lists ≡ None → enabled_move s now ≡ None → due s ≡ None → asks s ≡ None → ⊥
stuck s now sane from to going none waits_none question =
    let empty : delays s ++ flat_map (λ deadline. deadline.0 ∷ []) (deadlines s) ≡ [] = least-none (delays s ++ flat_map (λ deadline. deadline.0 ∷ []) (deadlines s)) waits_none in
    let guard : is_in_time s now ≡ true = rw (le_true s.moment now from, le_true now last_moment to) refl in
    let move : first_move s now 0 s.lists.tasks ≡ None = rw guard at none in
    let dead : deadlines s ≡ [] = ones-empty (deadlines s) (right-empty (delays s) (flat_map (λ deadline. deadline.0 ∷ []) (deadlines s)) empty) in
    let first : has_ended sane.first.phase ≡ true =
    all-ended s now sane (left-empty (delays s) (flat_map (λ deadline. deadline.0 ∷ []) (deadlines s)) empty) dead question going move (length s.lists.tasks) 0 sane.first (omega arith) sane.first_is in
    ended_known sane.first.phase first (rw sane.first_is at going)

pub not_stuck : SaneIsNotStuck
not_stuck s sane now from to going none = by (due s) (asks s) refl refl
  where
    by : (o p : Option ℕ) → due s ≡ o → asks s ≡ p → IsSome o ⊎ IsSome p
    by (Some n) p e f = inl refl
    by None (Some n) e f = inr refl
    by None None e f = absurd (stuck s now sane from to going none e f)
