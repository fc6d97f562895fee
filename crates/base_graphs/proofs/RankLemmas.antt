-- Edges that never lead to a lower rank.
use Rattle.std.proofs.Common.{◌≡◌, ◌↔◌, inl, inr, ℕ, ◌+◌, ◌<◌, ◌≤◌, Bool, true, false, List, [], length, get_or, replicate, Contains, refl, sym, ◌∙◌, ap, subst, arith}
use Rattle.std.specs.Prelude.{nat_lt, nat_le}
use Rattle.std.specs.List.{list_all}
use Rattle.std.proofs.lemmas.Bool.{cases_lt}
use Rattle.std.proofs.lemmas.Bool.Decides.{Decides-by_and}
use Rattle.std.proofs.lemmas.List.{get_or_past, get_or-replicate}
use Rattle.std.proofs.lemmas.List.Elements.{All-contains}
use Rattle.base_graphs.specs.Closure.{Closure}
use Rattle.base_graphs.specs.Closure.Closure.{first, onward}
use Rattle.base_graphs.specs.Tables.{IsMarked, IsWithin, Leads, row}
use Rattle.base_graphs.specs.Ranks.{rank_of, stand_from, stand_above, NeverFalls, Stays}
use Rattle.base_graphs.proofs.MarkLemmas.{Contains-nil}
use Rattle.base_graphs.proofs.RowLemmas.{row_within}

each_of : {X : Type 0} (p : X → Bool) (xs : List X) (x : X) → list_all p xs ≡ true → Contains xs x → p x ≡ true
each_of p xs x e c = All-contains (λ y. p y ≡ true) xs x ((Decides-by_and p (λ y. p y ≡ true) (list_all p) (λ y. (λ h. h, λ h. h)) refl (λ y ys. refl) xs).0 e) c

less : (a b : ℕ) → nat_lt a b ≡ true → a < b
less a b e = grind arith

no_more : (a b : ℕ) → nat_le a b ≡ true → a ≤ b
no_more a b e = grind arith

not_true : (b : Bool) → (b ≡ true → ⊥) → b ≡ false
not_true true h = absurd (h refl)
not_true false h = refl

-- ---- one more row

-- the edges of the places below n lead to no lower rank
abbrev pub NeverFallsBelow : ℕ → List ℕ → List (List ℕ) → Type 0
NeverFallsBelow n ranks table = (from to : ℕ) → from < n → Contains (row table from) to → rank_of ranks from ≤ rank_of ranks to

pub NeverFalls-more : (n : ℕ) (ranks : List ℕ) (table : List (List ℕ)) (r : List ℕ) → r ≡ row table n → stand_from ranks (rank_of ranks n) r ≡ true → NeverFallsBelow n ranks table → NeverFallsBelow (n + 1) ranks table
NeverFalls-more n ranks table r is all done from to lt c = elim (cases_lt from n) [
  | inl before ↦ done from to before c
  | inr ge ↦ let e : n ≡ from = omega arith in
      let here : Contains r to = subst (λ v. Contains v to) (sym is) (subst (λ f. Contains (row table f) to) (sym e) c) in
      subst (λ f. rank_of ranks f ≤ rank_of ranks to) e (no_more (rank_of ranks n) (rank_of ranks to) (each_of (λ p. nat_le (rank_of ranks n) (rank_of ranks p)) r to all here))
]

pub NeverFalls-all : (n : ℕ) (ranks : List ℕ) (table : List (List ℕ)) → length table ≤ n → NeverFallsBelow n ranks table → NeverFalls ranks table
NeverFalls-all n ranks table over done from to c = elim (cases_lt from (length table)) [
  | inl lt ↦ done from to (omega (arith, over, lt)) c
  | inr ge ↦ absurd (Contains-nil to (subst (λ v. Contains v to) (get_or_past table from [] ge) c))
]

-- ---- what is reached from a place

module _ (free guarded : List (List ℕ)) (ranks : List ℕ) (f : NeverFalls ranks free) (g : NeverFalls ranks guarded) where
  -- where each guarded edge of a place rises, all that is reached by one stands higher
  climbs : (place : ℕ) → stand_above ranks (rank_of ranks place) (row guarded place) ≡ true → {p : ℕ} → Closure (Contains (row guarded place)) (Leads free guarded [] []) p → rank_of ranks place < rank_of ranks p
  climbs place all {p} (first c) = less (rank_of ranks place) (rank_of ranks p) (each_of (λ q. nat_lt (rank_of ranks place) (rank_of ranks q)) (row guarded place) p all c)
  climbs place all {p} (onward {from} c (inl e)) = let a : rank_of ranks place < rank_of ranks from = climbs place all c in let b : rank_of ranks from ≤ rank_of ranks p = f from p e in omega arith
  climbs place all {p} (onward {from} c (inr e)) = let a : rank_of ranks place < rank_of ranks from = climbs place all c in let b : rank_of ranks from ≤ rank_of ranks p = g from p e.1 in omega arith

  pub stays : (place : ℕ) → Closure (Contains (row guarded place)) (Leads free guarded [] []) place → Stays ranks guarded place
  stays place c = not_true (stand_above ranks (rank_of ranks place) (row guarded place)) (λ all. let lt : rank_of ranks place < rank_of ranks place = climbs place all c in omega arith)

pub reach_within : (n : ℕ) (free guarded : List (List ℕ)) (place : ℕ) → IsWithin n free → IsWithin n guarded → {p : ℕ} → Closure (Contains (row guarded place)) (Leads free guarded [] []) p → p < n
reach_within n free guarded place fs gs {p} (first c) = row_within n guarded place p gs c
reach_within n free guarded place fs gs {p} (onward {from} c (inl e)) = row_within n free from p fs e
reach_within n free guarded place fs gs {p} (onward {from} c (inr e)) = row_within n guarded from p gs e.1

-- ---- what the code marks

pub NeverFalls-none : (ranks : List ℕ) (table : List (List ℕ)) → NeverFallsBelow 0 ranks table
NeverFalls-none ranks table from to lt c = absurd (omega (arith, lt))

-- where all places are marked, one that may return is
pub marked_of_all : (n : ℕ) (free guarded : List (List ℕ)) (marks : List Bool) → marks ≡ replicate n true → IsWithin n free → IsWithin n guarded → (place : ℕ) → Closure (Contains (row guarded place)) (Leads free guarded [] []) place → IsMarked marks place
marked_of_all n free guarded marks e fs gs place c = ap (λ v. get_or v place false) e ∙ get_or-replicate n place true false (reach_within n free guarded place fs gs c)

-- and where the ranks never fall, the marks of the places that stay
pub marked_of_stays : (n : ℕ) (free guarded : List (List ℕ)) (ranks same : List ℕ) (marks : List Bool) → same ≡ ranks → NeverFalls ranks free → NeverFalls ranks guarded → IsWithin n free → IsWithin n guarded → ((p : ℕ) → IsMarked marks p ↔ (p < n × Stays same guarded p)) → (place : ℕ) → Closure (Contains (row guarded place)) (Leads free guarded [] []) place → IsMarked marks place
marked_of_stays n free guarded ranks same marks e f g fs gs exact place c =
    (exact place).1 (reach_within n free guarded place fs gs c, subst (λ r. Stays r guarded place) (sym e) (stays free guarded ranks f g place c))
