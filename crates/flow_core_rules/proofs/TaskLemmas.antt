-- What holds of the tasks of each state of a run, whatever it is given: each but the first was made by an earlier one, which waits for it while it goes on.
use Rattle.std.proofs.Common.{◌≡◌, ◌⊎◌, ℕ, zero, suc, ◌<◌, ◌≤◌, ◌==◌, Bool, true, false, List, [], ◌∷◌, ◌++◌, length, Some, None, arith, refl, ap, sym, subst, ◌∙◌, length-append, inl, inr}
use Rattle.std.specs.Bool.{⊤}
use Rattle.std.specs.Prelude.{slice_get}
use Rattle.std.specs.List.{slice_set}
use Rattle.flow_core_rules.specs.declared.tasks.Task.{Task}
use Rattle.flow_core_rules.specs.declared.phases.Phase.{Phase}
use Rattle.flow_core_rules.specs.declared.phases.Phase.TheVariants as phase
use Rattle.flow_core_rules.specs.State.{State}
use Rattle.flow_core_rules.specs.Edits.{Edit, edited, all_edited}
use Rattle.flow_core_rules.specs.Edits.Edit.{opens, writes, makes, moves, issues, closes, upgrades}
use Rattle.flow_core_rules.specs.Sane.{JoinsFrom}
use Rattle.flow_core_rules.specs.Changes.{has_ended}
use Rattle.flow_core_rules.proofs.RunLemmas.{some_inner}

none_some : {A : Type 0} (x : A) → None ≡ Some x → ⊥
none_some x h = cc

-- ---- places of lists

pub get_set : {A : Type 0} (xs : List A) (n : ℕ) (new : A) (k : ℕ) (y : A) → slice_get (slice_set xs n new) k ≡ Some y
    → ((k ≡ n) × (new ≡ y)) ⊎ ((k ≡ n → ⊥) × (slice_get xs k ≡ Some y))
get_set [] n new k y e = absurd (none_some y e)
get_set (x ∷ xs) zero new zero y e = inl (refl, some_inner new y e)
get_set (x ∷ xs) zero new (suc k) y e = inr ((λ h. absurd (omega arith)), e)
get_set (x ∷ xs) (suc n) new zero y e = inr ((λ h. absurd (omega arith)), e)
get_set (x ∷ xs) (suc n) new (suc k) y e = by (get_set xs n new k y e)
  where
    by : ((k ≡ n) × (new ≡ y)) ⊎ ((k ≡ n → ⊥) × (slice_get xs k ≡ Some y)) → ((suc k ≡ suc n) × (new ≡ y)) ⊎ ((suc k ≡ suc n → ⊥) × (slice_get xs k ≡ Some y))
    by (inl h) = inl (ap suc h.0, h.1)
    by (inr h) = inr ((λ same. h.0 (omega arith)), h.1)

pub set_here : {A : Type 0} (xs : List A) (n : ℕ) (new old : A) → slice_get xs n ≡ Some old → slice_get (slice_set xs n new) n ≡ Some new
set_here [] n new old e = absurd (none_some old e)
set_here (x ∷ xs) zero new old e = refl
set_here (x ∷ xs) (suc n) new old e = set_here xs n new old e

pub set_other : {A : Type 0} (xs : List A) (n : ℕ) (new : A) (k : ℕ) (y : A) → (k ≡ n → ⊥) → slice_get xs k ≡ Some y → slice_get (slice_set xs n new) k ≡ Some y
set_other [] n new k y apart e = absurd (none_some y e)
set_other (x ∷ xs) zero new zero y apart e = absurd (apart refl)
set_other (x ∷ xs) zero new (suc k) y apart e = e
set_other (x ∷ xs) (suc n) new zero y apart e = e
set_other (x ∷ xs) (suc n) new (suc k) y apart e = set_other xs n new k y (λ h. apart (ap suc h)) e

pub set_length : {A : Type 0} (xs : List A) (n : ℕ) (new : A) → length (slice_set xs n new) ≡ length xs
set_length [] n new = refl
set_length (x ∷ xs) zero new = refl
set_length (x ∷ xs) (suc n) new = ap suc (set_length xs n new)

pub push_front : {A : Type 0} (xs : List A) (new : A) (k : ℕ) (y : A) → slice_get xs k ≡ Some y → slice_get (xs ++ new ∷ []) k ≡ Some y
push_front [] new k y e = absurd (none_some y e)
push_front (x ∷ xs) new zero y e = e
push_front (x ∷ xs) new (suc k) y e = push_front xs new k y e

pub get_pushed : {A : Type 0} (xs : List A) (x y : A) (k : ℕ) → slice_get (xs ++ x ∷ []) k ≡ Some y → (slice_get xs k ≡ Some y) ⊎ ((k ≡ length xs) × (x ≡ y))
get_pushed [] x y zero e = inr (refl, some_inner x y e)
get_pushed [] x y (suc k) e = inl e
get_pushed (z ∷ xs) x y zero e = inl e
get_pushed (z ∷ xs) x y (suc k) e = by (get_pushed xs x y k e)
  where
    by : (slice_get xs k ≡ Some y) ⊎ ((k ≡ length xs) × (x ≡ y)) → (slice_get xs k ≡ Some y) ⊎ ((suc k ≡ length (z ∷ xs)) × (x ≡ y))
    by (inl h) = inl h
    by (inr h) = inr (ap suc h.0, h.1)

pub get_within : {A : Type 0} (xs : List A) (k : ℕ) (x : A) → slice_get xs k ≡ Some x → k < length xs
get_within [] k x e = absurd (none_some x e)
get_within (y ∷ ys) zero x e = omega arith
get_within (y ∷ ys) (suc k) x e = let h : k < length ys = get_within ys k x e in omega arith

-- ---- what holds of the tasks

-- a task that joins waits for tasks from a number on that is not past the next one
abbrev pub JoinsWithin : ℕ → Phase → Type 0
JoinsWithin n (phase.Joining from) = from ≤ n
JoinsWithin n other = ⊤

joins_more : (at : Phase) (n m : ℕ) → n ≤ m → JoinsWithin n at → JoinsWithin m at
joins_more (phase.Joining from) n m le h = omega arith
joins_more (phase.At since) n m le h = tt
joins_more (phase.Sending place) n m le h = tt
joins_more (phase.Awaiting place issue) n m le h = tt
joins_more (phase.Ended well) n m le h = tt

-- the task that made it is earlier, and waits for it while it goes on
pub record HasParent (ts : List Task) (t : ℕ) (task : Task) : Type 0 where
  pub parent : ℕ
  pub parent_is : task.parent ≡ Some parent
  pub earlier : parent < t
  pub by : Task
  pub by_is : slice_get ts parent ≡ Some by
  pub waits : has_ended task.phase ≡ false → JoinsFrom t by.phase

pub record IsOrderly (ts : List Task) : Type 0 where
  pub parents : (t : ℕ) (task : Task) → slice_get ts t ≡ Some task → (t ≡ 0) ⊎ HasParent ts t task
  pub joins : (t : ℕ) (task : Task) → slice_get ts t ≡ Some task → JoinsWithin (length ts) task.phase
  pub root : (task : Task) → slice_get ts 0 ≡ Some task → task.parent ≡ None

-- each child of the task has ended
abbrev pub IsFree : List Task → ℕ → Type 0
IsFree ts t = (k : ℕ) (c : Task) → slice_get ts k ≡ Some c → c.parent ≡ Some t → has_ended c.phase ≡ true

pub record MayMake (ts : List Task) (task : Task) : Type 0 where
  pub parent : ℕ
  pub parent_is : task.parent ≡ Some parent
  pub by : Task
  pub by_is : slice_get ts parent ≡ Some by
  pub waits : JoinsFrom (length ts) by.phase
  pub within : JoinsWithin (length ts) task.phase

pub record MayMove (ts : List Task) (t : ℕ) (new : Task) : Type 0 where
  pub old : Task
  pub old_is : slice_get ts t ≡ Some old
  pub parent_is : new.parent ≡ old.parent
  pub going : has_ended old.phase ≡ false
  pub free : IsFree ts t
  pub within : JoinsWithin (length ts) new.phase

make-orderly : (ts : List Task) (task : Task) → IsOrderly ts → MayMake ts task → 0 < length ts → IsOrderly (ts ++ task ∷ [])
make-orderly ts task o m some = record {
  parents = λ t x e. parents t x (get_pushed ts task x t e);
  joins = λ t x e. joins t x (get_pushed ts task x t e);
  root = λ x e. root x (get_pushed ts task x 0 e);
}
  where
    grown : length (ts ++ task ∷ []) ≡ suc (length ts)
    grown = omega (arith, length-append ts (task ∷ []))

    parents : (t : ℕ) (x : Task) → (slice_get ts t ≡ Some x) ⊎ ((t ≡ length ts) × (task ≡ x)) → (t ≡ 0) ⊎ HasParent (ts ++ task ∷ []) t x
    parents t x (inl e) = by (o.parents t x e)
      where
        by : (t ≡ 0) ⊎ HasParent ts t x → (t ≡ 0) ⊎ HasParent (ts ++ task ∷ []) t x
        by (inl z) = inl z
        by (inr p) = inr (record { parent = p.parent; parent_is = p.parent_is; earlier = p.earlier; by = p.by; by_is = push_front ts task p.parent p.by p.by_is; waits = p.waits })
    parents t x (inr e) =
        let less : m.parent < length ts = get_within ts m.parent m.by m.by_is in
        inr (subst (λ (y : Task). HasParent (ts ++ task ∷ []) t y) e.1 (record {
          parent = m.parent;
          parent_is = m.parent_is;
          earlier = subst (λ n. m.parent < n) (sym e.0) less;
          by = m.by;
          by_is = push_front ts task m.parent m.by m.by_is;
          waits = λ h. subst (λ n. JoinsFrom n m.by.phase) (sym e.0) m.waits;
        }))

    joins : (t : ℕ) (x : Task) → (slice_get ts t ≡ Some x) ⊎ ((t ≡ length ts) × (task ≡ x)) → JoinsWithin (length (ts ++ task ∷ [])) x.phase
    joins t x (inl e) = joins_more x.phase (length ts) (length (ts ++ task ∷ [])) (let g = grown in omega arith) (o.joins t x e)
    joins t x (inr e) = subst (λ (y : Task). JoinsWithin (length (ts ++ task ∷ [])) y.phase) e.1 (joins_more task.phase (length ts) (length (ts ++ task ∷ [])) (let g = grown in omega arith) m.within)

    root : (x : Task) → (slice_get ts 0 ≡ Some x) ⊎ ((0 ≡ length ts) × (task ≡ x)) → x.parent ≡ None
    root x (inl e) = o.root x e
    root x (inr e) = let z = e.0 in absurd (omega arith)

move-orderly : (ts : List Task) (t : ℕ) (new : Task) → IsOrderly ts → MayMove ts t new → IsOrderly (slice_set ts t new)
move-orderly ts t new o m = record {
  parents = λ k x e. parents k x (get_set ts t new k x e);
  joins = λ k x e. joins k x (get_set ts t new k x e);
  root = λ x e. root x (get_set ts t new 0 x e);
}
  where
    same_length : length (slice_set ts t new) ≡ length ts
    same_length = set_length ts t new

    same_number : (x y : ℕ) → (x == y) ≡ true → x ≡ y
    same_number x y h = grind arith

    other_number : (x y : ℕ) → (x == y) ≡ false → x ≡ y → ⊥
    other_number x y h e = grind arith

    clash : (b : Bool) → b ≡ true → b ≡ false → ⊥
    clash true x y = cc
    clash false x y = cc

    -- a task whose parent is not the one that moves keeps it; one whose parent moves has ended
    keeps : (k : ℕ) (x : Task) → slice_get ts k ≡ Some x → HasParent ts k x → (b : Bool) → ((t == t) ≡ true) → (p : ℕ) → (p == t) ≡ b → p < k → x.parent ≡ Some p
        → (by : Task) → slice_get ts p ≡ Some by → (has_ended x.phase ≡ false → JoinsFrom k by.phase) → HasParent (slice_set ts t new) k x
    keeps k x e h true r p is less parent_is by by_is waits =
        let here : p ≡ t = same_number p t is in
        record {
          parent = p;
          parent_is = parent_is;
          earlier = less;
          by = new;
          by_is = subst (λ n. slice_get (slice_set ts t new) n ≡ Some new) (sym here) (set_here ts t new m.old m.old_is);
          waits = λ going. absurd (clash (has_ended x.phase) (m.free k x e (parent_is ∙ ap Some here)) going);
        }
    keeps k x e h false r p is less parent_is by by_is waits =
        record { parent = p; parent_is = parent_is; earlier = less; by = by; by_is = set_other ts t new p by (other_number p t is) by_is; waits = waits }

    -- the same of the task that moves, whose parent is another one
    moved : (p : HasParent ts t m.old) → HasParent (slice_set ts t new) t new
    moved p =
        let less = p.earlier in
        record {
          parent = p.parent;
          parent_is = m.parent_is ∙ p.parent_is;
          earlier = p.earlier;
          by = p.by;
          by_is = set_other ts t new p.parent p.by (λ h. absurd (omega arith)) p.by_is;
          waits = λ h. p.waits m.going;
        }

    parents : (k : ℕ) (x : Task) → ((k ≡ t) × (new ≡ x)) ⊎ ((k ≡ t → ⊥) × (slice_get ts k ≡ Some x)) → (k ≡ 0) ⊎ HasParent (slice_set ts t new) k x
    parents k x (inl e) = by (o.parents t m.old m.old_is)
      where
        by : (t ≡ 0) ⊎ HasParent ts t m.old → (k ≡ 0) ⊎ HasParent (slice_set ts t new) k x
        by (inl z) = inl (e.0 ∙ z)
        by (inr p) = inr (subst (λ n. HasParent (slice_set ts t new) n x) (sym e.0) (subst (HasParent (slice_set ts t new) t) e.1 (moved p)))
    parents k x (inr e) = by (o.parents k x e.1)
      where
        by : (k ≡ 0) ⊎ HasParent ts k x → (k ≡ 0) ⊎ HasParent (slice_set ts t new) k x
        by (inl z) = inl z
        by (inr p) = inr (keeps k x e.1 p (p.parent == t) (grind arith) p.parent refl p.earlier p.parent_is p.by p.by_is p.waits)

    joins : (k : ℕ) (x : Task) → ((k ≡ t) × (new ≡ x)) ⊎ ((k ≡ t → ⊥) × (slice_get ts k ≡ Some x)) → JoinsWithin (length (slice_set ts t new)) x.phase
    joins k x (inl e) = subst (λ n. JoinsWithin n x.phase) (sym same_length) (subst (λ (y : Task). JoinsWithin (length ts) y.phase) e.1 m.within)
    joins k x (inr e) = subst (λ n. JoinsWithin n x.phase) (sym same_length) (o.joins k x e.1)

    root : (x : Task) → ((0 ≡ t) × (new ≡ x)) ⊎ ((0 ≡ t → ⊥) × (slice_get ts 0 ≡ Some x)) → x.parent ≡ None
    root x (inl e) = ap (λ (y : Task). y.parent) (sym e.1) ∙ m.parent_is ∙ o.root m.old (subst (λ n. slice_get ts n ≡ Some m.old) (sym e.0) m.old_is)
    root x (inr e) = o.root x e.1

-- ---- edits that are fine for the tasks

abbrev pub tasks_after : List Edit → List Task → List Task
tasks_after [] ts = ts
tasks_after (opens parent vars ∷ es) ts = tasks_after es ts
tasks_after (writes scope name text ∷ es) ts = tasks_after es ts
tasks_after (makes task ∷ es) ts = tasks_after es (ts ++ task ∷ [])
tasks_after (moves t task ∷ es) ts = tasks_after es (slice_set ts t task)
tasks_after (issues issue ∷ es) ts = tasks_after es ts
tasks_after (closes i end ∷ es) ts = tasks_after es ts
tasks_after (upgrades ∷ es) ts = tasks_after es ts

pub tasks_are : (es : List Edit) (s : State) → (all_edited es s).tasks ≡ tasks_after es s.tasks
tasks_are [] s = refl
tasks_are (opens parent vars ∷ es) s = tasks_are es (edited (opens parent vars) s)
tasks_are (writes scope name text ∷ es) s = tasks_are es (edited (writes scope name text) s)
tasks_are (makes task ∷ es) s = tasks_are es (edited (makes task) s)
tasks_are (moves t task ∷ es) s = tasks_are es (edited (moves t task) s)
tasks_are (issues issue ∷ es) s = tasks_are es (edited (issues issue) s)
tasks_are (closes i end ∷ es) s = tasks_are es (edited (closes i end) s)
tasks_are (upgrades ∷ es) s = tasks_are es (edited upgrades s)

abbrev pub AreFine : List Task → List Edit → Type 0
AreFine ts [] = ⊤
AreFine ts (opens parent vars ∷ es) = AreFine ts es
AreFine ts (writes scope name text ∷ es) = AreFine ts es
AreFine ts (makes task ∷ es) = MayMake ts task × AreFine (ts ++ task ∷ []) es
AreFine ts (moves t task ∷ es) = MayMove ts t task × AreFine (slice_set ts t task) es
AreFine ts (issues issue ∷ es) = AreFine ts es
AreFine ts (closes i end ∷ es) = AreFine ts es
AreFine ts (upgrades ∷ es) = AreFine ts es

pub fine-orderly : (es : List Edit) (ts : List Task) → 0 < length ts → IsOrderly ts → AreFine ts es → IsOrderly (tasks_after es ts)
fine-orderly [] ts some o f = o
fine-orderly (opens parent vars ∷ es) ts some o f = fine-orderly es ts some o f
fine-orderly (writes scope name text ∷ es) ts some o f = fine-orderly es ts some o f
fine-orderly (makes task ∷ es) ts some o f =
    let grown : length (ts ++ task ∷ []) ≡ suc (length ts) = omega (arith, length-append ts (task ∷ [])) in
    fine-orderly es (ts ++ task ∷ []) (omega arith) (make-orderly ts task o f.0 some) f.1
fine-orderly (moves t task ∷ es) ts some o f =
    fine-orderly es (slice_set ts t task) (subst (λ n. 0 < n) (sym (set_length ts t task)) some) (move-orderly ts t task o f.0) f.1
fine-orderly (issues issue ∷ es) ts some o f = fine-orderly es ts some o f
fine-orderly (closes i end ∷ es) ts some o f = fine-orderly es ts some o f
fine-orderly (upgrades ∷ es) ts some o f = fine-orderly es ts some o f
