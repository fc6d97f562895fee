-- Edges, turned round one at a time.
use Rattle.std.proofs.Common.{◌≡◌, ◌↔◌, inl, inr, ℕ, ◌+◌, ◌<◌, ◌≤◌, List, [], ◌∷◌, ◌++◌, length, set, get_or, Contains, sym, ◌∙◌, subst, arith, get_or-set_same, get_or-set_other, length-set}
use Rattle.std.proofs.Math.ListN.{get_or-eq_default}
use Rattle.std.proofs.lemmas.List.{get_or_default}
use Rattle.std.proofs.lemmas.Bool.{cases_eq, cases_lt}
use Rattle.std.proofs.lemmas.List.Elements.{Contains-get_or, Contains-push, Contains-push_cases, Contains-append_left, Contains-append_right, Contains-append_cases}
use Rattle.base_graphs.specs.Tables.{row, IsWithin, IsReverse}
use Rattle.base_graphs.specs.Reversing.{AddsEdges}
use Rattle.base_graphs.proofs.MarkLemmas.{Contains-nil, the_one}

-- the same for the rows of the places below n
abbrev pub IsReverseTo : ℕ → List (List ℕ) → List (List ℕ) → Type 0
IsReverseTo n rows back = (to from : ℕ) → Contains (row back to) from ↔ (from < n × Contains (row rows from) to)

-- a row that gains a place
row_same : (rows : List (List ℕ)) (at to from : ℕ) → at < length rows → to ≡ at → row (set rows at (row rows at ++ from ∷ [])) to ≡ row rows to ++ from ∷ []
row_same rows at to from lt e = rw e (get_or-set_same rows at (row rows at ++ from ∷ []) [] lt)

row_other : (rows : List (List ℕ)) (at to from : ℕ) → (to ≡ at → ⊥) → row (set rows at (row rows at ++ from ∷ [])) to ≡ row rows to
row_other rows at to from ne = get_or-set_other rows at to (row rows at ++ from ∷ []) [] ne

pub AddsEdges-one : (from at : ℕ) (rows : List (List ℕ)) → at < length rows → AddsEdges from (at ∷ []) rows (set rows at (row rows at ++ from ∷ []))
AddsEdges-one from at rows lt = record {
  len = length-set rows at (row rows at ++ from ∷ []);
  edges = λ to other. (
    λ c. elim (cases_eq to at) [
      | inl e ↦ elim (Contains-push_cases (row rows to) from other (rw (row_same rows at to from lt e) at c)) [ inl old ↦ inl old | inr new ↦ inr (one to e, new) ]
      | inr ne ↦ inl (rw (row_other rows at to from ne) at c)
    ],
    λ h. elim (cases_eq to at) [
      | inl e ↦ rw (row_same rows at to from lt e) (elim h [ inl old ↦ Contains-append_left (row rows to) (from ∷ []) other old | inr new ↦ subst (Contains (row rows to ++ from ∷ [])) new.1 (Contains-push (row rows to) from) ])
      | inr ne ↦ rw (row_other rows at to from ne) (elim h [ inl old ↦ old | inr new ↦ absurd (ne (sym (the_one at to new.0))) ])
    ],
  );
}
  where
    one : (to : ℕ) → to ≡ at → Contains (at ∷ []) to
    one to e = (0, omega arith, sym e)

pub AddsEdges-more : (from x : ℕ) (xs : List ℕ) (r0 r1 r2 : List (List ℕ)) → AddsEdges from xs r0 r1 → AddsEdges from (x ∷ []) r1 r2 → AddsEdges from (xs ++ x ∷ []) r0 r2
AddsEdges-more from x xs r0 r1 r2 a b = record {
  len = b.len ∙ a.len;
  edges = λ to other. (
    λ c. elim ((b.edges to other).0 c) [
      | inl c1 ↦ elim ((a.edges to other).0 c1) [ inl old ↦ inl old | inr n ↦ inr (Contains-append_left xs (x ∷ []) to n.0, n.1) ]
      | inr n ↦ inr (Contains-append_right xs (x ∷ []) to n.0, n.1)
    ],
    λ h. elim h [
      | inl old ↦ (b.edges to other).1 (inl ((a.edges to other).1 (inl old)))
      | inr n ↦ elim (Contains-append_cases xs (x ∷ []) to n.0) [
        | inl early ↦ (b.edges to other).1 (inl ((a.edges to other).1 (inr (early, n.1))))
        | inr late ↦ (b.edges to other).1 (inr (late, n.1))
      ]
    ],
  );
}

-- the rows below i, and the next one
pub Reverse-more : (i : ℕ) (rows old new : List (List ℕ)) (r : List ℕ) → r ≡ row rows i → IsReverseTo i rows old → AddsEdges i r old new → IsReverseTo (i + 1) rows new
Reverse-more i rows old new r e done adds to from = (
  λ c. elim ((adds.edges to from).0 c) [
    | inl c0 ↦ let d : from < i × Contains (row rows from) to = (done to from).0 c0 in (let lt : from < i = d.0 in omega arith, d.1)
    | inr n ↦ (let s : i ≡ from = n.1 in omega arith, subst (λ k. Contains (row rows k) to) n.1 (subst (λ v. Contains v to) e n.0))
  ],
  λ h. elim (cases_lt from i) [
    | inl lt ↦ (adds.edges to from).1 (inl ((done to from).1 (lt, h.1)))
    | inr ge ↦ let lt : from < i + 1 = h.0 in let s : i ≡ from = omega arith in
        (adds.edges to from).1 (inr (subst (λ v. Contains v to) (sym e) (subst (λ k. Contains (row rows k) to) (sym s) h.1), s))
  ],
)

pub Reverse-all : (n : ℕ) (rows back : List (List ℕ)) → n ≡ length rows → IsReverseTo n rows back → IsReverse rows back
Reverse-all n rows back e done to from = (
  λ c. ((done to from).0 c).1,
  λ h. (done to from).1 (elim (cases_lt from n) [ inl lt ↦ lt | inr ge ↦ absurd (Contains-nil to (rw (get_or-eq_default rows [] {n = from} (let o : length rows ≤ from = omega arith in o)) at h)) ], h),
)

pub Reverse-within : (n : ℕ) (rows back : List (List ℕ)) → IsReverseTo n rows back → IsWithin n back
Reverse-within n rows back done k d lt j e inside =
    let here : get_or back k d ≡ row back k = get_or_default back k d [] lt in
    ((done k (get_or (get_or back k d) j e)).0 (subst (λ places. Contains places (get_or (get_or back k d) j e)) here (Contains-get_or (get_or back k d) j e inside))).0
