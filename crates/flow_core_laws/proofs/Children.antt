-- A task that waits for its children has them as they were after a record of another task, as far as it asks: all have ended still.
use Rattle.std.proofs.Common.{◌≡◌, ◌⊎◌, ℕ, zero, suc, ◌≤◌, ◌==◌, Bool, true, false, cond, List, [], ◌∷◌, length, drop, Option, Some, None, arith, refl, ap, sym, subst, ◌∙◌, inl, inr}
use Rattle.std.specs.Prelude.{slice_get, nat_eq, filter}
use Rattle.std.specs.List.{list_all}
use Rattle.std.specs.Option.{option_map_or}
use Rattle.run_records.specs.declared.record.Record.{Record}
use Rattle.run_records.specs.declared.record.Record.TheVariants as entry
use Rattle.flow_core_rules.specs.declared.tasks.Task.{Task}
use Rattle.flow_core_rules.specs.State.{State, shown}
use Rattle.flow_core_rules.specs.Changes.{has_ended, is_child_of, children}
use Rattle.flow_core_rules.proofs.RunLemmas.{some_inner}
use Rattle.flow_core_laws.specs.OwnTask.{task_of, Goes, MayMake, ChangesOwnTask}
use Rattle.flow_core_laws.proofs.Somes.{none_some, clash, equal_of, both_true, parts_true}

-- ---- a test of all that passes another, from a place of a list on

pub all_filtered : (p q : Task → Bool) (xs : List Task) (from : ℕ) → list_all p (filter q (drop from xs)) ≡ true → (k : ℕ) (x : Task) → from ≤ k → slice_get xs k ≡ Some x → q x ≡ true → p x ≡ true
all_filtered p q [] from all k x le e is = absurd (none_some x e)
all_filtered p q (y ∷ ys) zero all k x le e is = by (q y) refl all k e (λ j h g. all_filtered p q ys zero h j x (omega arith) g is)
  where
    by : (b : Bool) → q y ≡ b → list_all p (cond b (y ∷ filter q ys) (filter q ys)) ≡ true → (k : ℕ) → slice_get (y ∷ ys) k ≡ Some x
        → ((j : ℕ) → list_all p (filter q ys) ≡ true → slice_get ys j ≡ Some x → p x ≡ true) → p x ≡ true
    by true holds h zero g rest = subst (λ (z : Task). p z ≡ true) (some_inner y x g) (parts_true (p y) (list_all p (filter q ys)) h).0
    by true holds h (suc k) g rest = rest k (parts_true (p y) (list_all p (filter q ys)) h).1 g
    by false holds h zero g rest = absurd (clash (q y) (subst (λ (z : Task). q z ≡ true) (sym (some_inner y x g)) is) holds)
    by false holds h (suc k) g rest = rest k h g
all_filtered p q (y ∷ ys) (suc from) all zero x le e is = absurd (omega arith)
all_filtered p q (y ∷ ys) (suc from) all (suc k) x le e is = all_filtered p q ys from all k x (omega arith) e is

filtered_all : (p q : Task → Bool) (xs : List Task) (from : ℕ) → ((k : ℕ) (x : Task) → from ≤ k → slice_get xs k ≡ Some x → q x ≡ true → p x ≡ true) → list_all p (filter q (drop from xs)) ≡ true
filtered_all p q [] zero h = refl
filtered_all p q [] (suc from) h = refl
filtered_all p q (y ∷ ys) zero h = by (q y) refl (filtered_all p q ys zero (λ k x le e is. h (suc k) x (omega arith) e is))
  where
    by : (b : Bool) → q y ≡ b → list_all p (filter q ys) ≡ true → list_all p (cond b (y ∷ filter q ys) (filter q ys)) ≡ true
    by true e rest = both_true (p y) (list_all p (filter q ys)) (h zero y (omega arith) refl e) rest
    by false e rest = rest
filtered_all p q (y ∷ ys) (suc from) h = filtered_all p q ys from (λ k x le e is. h (suc k) x (omega arith) e is)

-- ---- children

pub none_past : {A : Type 0} (xs : List A) (k : ℕ) → slice_get xs k ≡ None → length xs ≤ k
none_past [] k e = omega arith
none_past (x ∷ xs) zero e = absurd (none_some x (sym e))
none_past (x ∷ xs) (suc k) e = let le : length xs ≤ k = none_past xs k e in omega arith

parent_is : (t : ℕ) (o : Option ℕ) → option_map_or (nat_eq t) o false ≡ true → o ≡ Some t
parent_is t None e = absurd (clash false e refl)
parent_is t (Some u) e = ap Some (same t u e)
  where
    same : (a b : ℕ) → nat_eq a b ≡ true → b ≡ a
    same a b h = grind arith

-- a record makes no child of another task
not_made : (s : State) (r : Record) (t : ℕ) (x : Task) → (task_of (shown s) r ≡ Some t → ⊥) → x.parent ≡ Some t → MayMake r x → ⊥
not_made s (entry.Walk u moment) t x apart parent made = apart (sym made.parent_is ∙ parent)
not_made s (entry.Begin run moment books bind) t x apart parent made = made
not_made s (entry.Send task issue agent moment bytes) t x apart parent made = made
not_made s (entry.Reply issue moment status rule text) t x apart parent made = made
not_made s (entry.Expire issue moment) t x apart parent made = made
not_made s (entry.Upgrade version moment) t x apart parent made = made
not_made s (entry.Ask task issue moment bytes) t x apart parent made = made
not_made s (entry.Told issue moment status text) t x apart parent made = made

pub is_own : (own : Option ℕ) (k : ℕ) → (own ≡ Some k) ⊎ (own ≡ Some k → ⊥)
is_own None k = inr (λ e. none_some k e)
is_own (Some u) k = by (u == k) refl
  where
    other : (a b : ℕ) → (a == b) ≡ false → a ≡ b → ⊥
    other a b h e = grind arith

    by : (b : Bool) → (u == k) ≡ b → (Some u ≡ Some k) ⊎ (Some u ≡ Some k → ⊥)
    by true e = inl (ap Some (equal_of u k e))
    by false e = inr (λ same. other u k e (some_inner u k same))

pub children_ended : (s new : State) (r : Record) (t from : ℕ) → ChangesOwnTask s new r (task_of (shown s) r) → (task_of (shown s) r ≡ Some t → ⊥)
    → list_all (λ one. has_ended one.phase) (children (shown s).lists t from) ≡ true → list_all (λ one. has_ended one.phase) (children (shown new).lists t from) ≡ true
children_ended s new r t from c apart all =
    filtered_all (λ one. has_ended one.phase) (is_child_of t) new.tasks from (λ k x le e is. by k x le e (parent_is t x.parent is) is (slice_get s.tasks k) refl)
  where
    before : (k : ℕ) (y : Task) → from ≤ k → slice_get s.tasks k ≡ Some y → is_child_of t y ≡ true → has_ended y.phase ≡ true
    before k y le e is = all_filtered (λ one. has_ended one.phase) (is_child_of t) s.tasks from all k y le e is

    -- the record's own task goes on, so it is none of these children
    not_own : (k : ℕ) (x : Task) → from ≤ k → slice_get new.tasks k ≡ Some x → is_child_of t x ≡ true → Goes s new k → ⊥
    not_own k x le e is g =
        let same : g.now ≡ x = some_inner g.now x (sym g.now_is ∙ e) in
        let parent : x.parent ≡ (g.was).parent = ap (λ (y : Task). y.parent) (sym same) ∙ g.keeps.0 in
        clash (has_ended (g.was).phase) (before k g.was le g.was_is (subst (λ o. option_map_or (nat_eq t) o false ≡ true) parent is)) g.goes_on

    by : (k : ℕ) (x : Task) → from ≤ k → slice_get new.tasks k ≡ Some x → x.parent ≡ Some t → is_child_of t x ≡ true → (o : Option Task) → slice_get s.tasks k ≡ o → has_ended x.phase ≡ true
    by k x le e parent is None there = absurd (not_made s r t x apart parent (c.tasks.made k x (none_past s.tasks k there) e))
    by k x le e parent is (Some y) there = one (is_own (task_of (shown s) r) k)
      where
        one : (task_of (shown s) r ≡ Some k) ⊎ (task_of (shown s) r ≡ Some k → ⊥) → has_ended x.phase ≡ true
        one (inl own) = absurd (not_own k x le e is (c.tasks.its_own k own))
        one (inr other) =
            let same : y ≡ x = some_inner y x (sym (c.tasks.others k y there other) ∙ e) in
            before k x le (there ∙ ap Some same) is
