-- After a record of another task, the children that a task waited for are the same, once they have ended.
use Rattle.std.proofs.Common.{◌≡◌, ◌⊎◌, ℕ, zero, suc, ◌≤◌, Bool, true, false, cond, List, [], ◌∷◌, drop, Option, Some, None, arith, refl, ap, sym, subst, ◌∙◌, inl, inr}
use Rattle.std.specs.Prelude.{nat_eq, slice_get, filter}
use Rattle.std.specs.List.{list_all}
use Rattle.std.specs.Option.{option_map_or}
use Rattle.run_records.specs.declared.record.Record.{Record}
use Rattle.run_records.specs.declared.record.Record.TheVariants as entry
use Rattle.flow_core_rules.specs.declared.tasks.Task.{Task}
use Rattle.flow_core_rules.specs.State.{State, shown}
use Rattle.flow_core_rules.specs.Changes.{has_ended, is_child_of, children}
use Rattle.flow_core_rules.proofs.RunLemmas.{some_inner}
use Rattle.flow_core_laws.specs.OwnTask.{task_of, Goes, MayMake, ChangesOwnTask}
use Rattle.flow_core_laws.proofs.Somes.{none_some, clash, parts_true}
use Rattle.flow_core_laws.proofs.Children.{none_past, is_own}

-- ---- a test of all that passes another, from a place of a list on

pub all_filtered : (p q : Task → Bool) (xs : List Task) (from : ℕ) → list_all p (filter q (drop from xs)) ≡ true → (k : ℕ) (x : Task) → from ≤ k → slice_get xs k ≡ Some x → q x ≡ true → p x ≡ true
all_filtered p q [] from all k x le e is = absurd (none_some x e)
all_filtered p q (y ∷ ys) zero all k x le e is = by (q y) refl all k e (λ j h g. all_filtered p q ys zero h j x (omega arith) g is)
  where
    by : (b : Bool) → q y ≡ b → list_all p (cond b (y ∷ filter q ys) (filter q ys)) ≡ true → (k : ℕ) → slice_get (y ∷ ys) k ≡ Some x
        → ((j : ℕ) → list_all p (filter q ys) ≡ true → slice_get ys j ≡ Some x → p x ≡ true) → p x ≡ true
    by true holds h zero g rest = subst (λ (z : Task). p z ≡ true) (some_inner y x g) (parts_true (p y) (list_all p (filter q ys)) h).0
    by true holds h (suc k) g rest = rest k (parts_true (p y) (list_all p (filter q ys)) h).1 g
    by false holds h zero g rest = absurd (clash (q y) (subst (λ (z : Task). q z ≡ true) (sym (some_inner y x g)) is) holds)
    by false holds h (suc k) g rest = rest k h g
all_filtered p q (y ∷ ys) (suc from) all zero x le e is = absurd (omega arith)
all_filtered p q (y ∷ ys) (suc from) all (suc k) x le e is = all_filtered p q ys from all k x (omega arith) e is

-- two lists that have the same elements that pass it at the same places
same_filtered : (q : Task → Bool) (xs ys : List Task) → ((k : ℕ) (x : Task) → slice_get xs k ≡ Some x → q x ≡ true → slice_get ys k ≡ Some x) → ((k : ℕ) (y : Task) → slice_get ys k ≡ Some y → q y ≡ true → slice_get xs k ≡ Some y)
    → filter q ys ≡ filter q xs
same_filtered q [] [] to from = refl
same_filtered q [] (y ∷ ys) to from = by (q y) refl (same_filtered q [] ys (λ k x g is. absurd (none_some x g)) (λ k z g is. absurd (none_some z (from (suc k) z g is))))
  where
    by : (b : Bool) → q y ≡ b → filter q ys ≡ [] → cond b (y ∷ filter q ys) (filter q ys) ≡ []
    by true e rest = absurd (none_some y (from 0 y refl e))
    by false e rest = rest
same_filtered q (x ∷ xs) [] to from = by (q x) refl (same_filtered q xs [] (λ k z g is. absurd (none_some z (to (suc k) z g is))) (λ k y g is. absurd (none_some y g)))
  where
    by : (b : Bool) → q x ≡ b → [] ≡ filter q xs → [] ≡ cond b (x ∷ filter q xs) (filter q xs)
    by true e rest = absurd (none_some x (to 0 x refl e))
    by false e rest = rest
same_filtered q (x ∷ xs) (y ∷ ys) to from = by (q x) (q y) refl refl (same_filtered q xs ys (λ k z g is. to (suc k) z g is) (λ k z g is. from (suc k) z g is))
  where
    by : (b c : Bool) → q x ≡ b → q y ≡ c → filter q ys ≡ filter q xs → cond c (y ∷ filter q ys) (filter q ys) ≡ cond b (x ∷ filter q xs) (filter q xs)
    by true true e g rest = ap (λ (z : Task). z ∷ filter q ys) (some_inner y x (to 0 x refl e)) ∙ ap (λ (zs : List Task). x ∷ zs) rest
    by true false e g rest = absurd (clash (q y) (subst (λ (z : Task). q z ≡ true) (some_inner x y (sym (to 0 x refl e))) e) g)
    by false true e g rest = absurd (clash (q x) (subst (λ (z : Task). q z ≡ true) (some_inner y x (sym (from 0 y refl g))) g) e)
    by false false e g rest = rest

same_dropped : (q : Task → Bool) (xs ys : List Task) (from : ℕ) → ((k : ℕ) (x : Task) → from ≤ k → slice_get xs k ≡ Some x → q x ≡ true → slice_get ys k ≡ Some x)
    → ((k : ℕ) (y : Task) → from ≤ k → slice_get ys k ≡ Some y → q y ≡ true → slice_get xs k ≡ Some y) → filter q (drop from ys) ≡ filter q (drop from xs)
same_dropped q xs ys zero to from = same_filtered q xs ys (λ k x e is. to k x (omega arith) e is) (λ k y e is. from k y (omega arith) e is)
same_dropped q [] [] (suc n) to from = refl
same_dropped q [] (y ∷ ys) (suc n) to from = same_dropped q [] ys n (λ k x le e is. absurd (none_some x e)) (λ k z le e is. absurd (none_some z (from (suc k) z (omega arith) e is))) ∙ nothing n
  where
    nothing : (n : ℕ) → filter q (drop n []) ≡ filter q (drop (suc n) [])
    nothing zero = refl
    nothing (suc n) = refl
same_dropped q (x ∷ xs) [] (suc n) to from = nothing n ∙ same_dropped q xs [] n (λ k z le e is. absurd (none_some z (to (suc k) z (omega arith) e is))) (λ k y le e is. absurd (none_some y e))
  where
    nothing : (n : ℕ) → filter q (drop (suc n) []) ≡ filter q (drop n [])
    nothing zero = refl
    nothing (suc n) = refl
same_dropped q (x ∷ xs) (y ∷ ys) (suc n) to from = same_dropped q xs ys n (λ k z le e is. to (suc k) z (omega arith) e is) (λ k z le e is. from (suc k) z (omega arith) e is)

-- ---- children

parent_is : (t : ℕ) (o : Option ℕ) → option_map_or (nat_eq t) o false ≡ true → o ≡ Some t
parent_is t None e = absurd (clash false e refl)
parent_is t (Some u) e = ap Some (same t u e)
  where
    same : (a b : ℕ) → nat_eq a b ≡ true → b ≡ a
    same a b h = grind arith

-- a record makes no child of another task
not_made : (s : State) (r : Record) (t : ℕ) (x : Task) → (task_of (shown s) r ≡ Some t → ⊥) → x.parent ≡ Some t → MayMake r x → ⊥
not_made s (entry.Walk u moment) t x apart parent made = apart (sym made.parent_is ∙ parent)
not_made s (entry.Begin run moment books bind) t x apart parent made = made
not_made s (entry.Send task issue agent moment bytes) t x apart parent made = made
not_made s (entry.Reply issue moment status rule text) t x apart parent made = made
not_made s (entry.Expire issue moment) t x apart parent made = made
not_made s (entry.Upgrade version moment) t x apart parent made = made
not_made s (entry.Ask task issue moment bytes) t x apart parent made = made
not_made s (entry.Told issue moment status text) t x apart parent made = made

pub children_same : (s new : State) (r : Record) (t from : ℕ) → ChangesOwnTask s new r (task_of (shown s) r) → (task_of (shown s) r ≡ Some t → ⊥)
    → list_all (λ one. has_ended one.phase) (children (shown s).lists t from) ≡ true → children (shown new).lists t from ≡ children (shown s).lists t from
children_same s new r t from c apart all = same_dropped (is_child_of t) s.tasks new.tasks from to back
  where
    ended : (k : ℕ) (x : Task) → from ≤ k → slice_get s.tasks k ≡ Some x → is_child_of t x ≡ true → has_ended x.phase ≡ true
    ended k x le e is = all_filtered (λ one. has_ended one.phase) (is_child_of t) s.tasks from all k x le e is

    -- the record's own task goes on, so it is none of these children
    not_own : (k : ℕ) (x : Task) → from ≤ k → slice_get s.tasks k ≡ Some x → is_child_of t x ≡ true → task_of (shown s) r ≡ Some k → ⊥
    not_own k x le e is own =
        let g : Goes s new k = c.tasks.its_own k own in
        clash (has_ended (g.was).phase) (subst (λ (y : Task). has_ended y.phase ≡ true) (some_inner x g.was (sym e ∙ g.was_is)) (ended k x le e is)) g.goes_on

    to : (k : ℕ) (x : Task) → from ≤ k → slice_get s.tasks k ≡ Some x → is_child_of t x ≡ true → slice_get new.tasks k ≡ Some x
    to k x le e is = c.tasks.others k x e (not_own k x le e is)

    back : (k : ℕ) (y : Task) → from ≤ k → slice_get new.tasks k ≡ Some y → is_child_of t y ≡ true → slice_get s.tasks k ≡ Some y
    back k y le e is = by (slice_get s.tasks k) refl
      where
        by : (o : Option Task) → slice_get s.tasks k ≡ o → slice_get s.tasks k ≡ Some y
        by None there = absurd (not_made s r t y apart (parent_is t y.parent is) (c.tasks.made k y (none_past s.tasks k there) e))
        by (Some x) there = one (is_own (task_of (shown s) r) k)
          where
            one : (task_of (shown s) r ≡ Some k) ⊎ (task_of (shown s) r ≡ Some k → ⊥) → slice_get s.tasks k ≡ Some y
            one (inl own) =
                let g : Goes s new k = c.tasks.its_own k own in
                let now : g.now ≡ y = some_inner g.now y (sym g.now_is ∙ e) in
                let was : g.was ≡ x = some_inner g.was x (sym g.was_is ∙ there) in
                let parent : y.parent ≡ x.parent = ap (λ (z : Task). z.parent) (sym now) ∙ (g.keeps).0 ∙ ap (λ (z : Task). z.parent) was in
                absurd (not_own k x le there (subst (λ o. option_map_or (nat_eq t) o false ≡ true) parent is) own)
            one (inr other) = there ∙ sym (c.tasks.others k x there other) ∙ e
