-- Lists of places that are gone through, one more place at a time.
use Rattle.std.proofs.Common.{◌≡◌, ◌↔◌, ◌⊎◌, inl, inr, ℕ, ◌+◌, ◌<◌, Bool, true, false, List, [], ◌∷◌, ◌++◌, length, take, get_or, set, Contains, sym, ◌∙◌, ap, subst}
use Rattle.std.proofs.lemmas.Bool.{cases_eq}
use Rattle.std.proofs.lemmas.List.{take_more, get_or-set_same, get_or-set_other}
use Rattle.std.proofs.lemmas.List.Elements.{Contains-push, Contains-push_cases, Contains-append_left}
use Rattle.base_graphs.specs.Tables.{IsMarked}
use Rattle.cacao_check_regions.specs.Charts.{AreMarksOf}

-- what stands among the first of a list
taken_more : (places : List ℕ) (n place : ℕ) → n < length places → place ≡ get_or places n 0 → (p : ℕ) → Contains (take (n + 1) places) p ↔ (Contains (take n places) p ⊎ (place ≡ p))
taken_more places n place lt at p =
    subst (λ (v : List ℕ). Contains v p ↔ (Contains (take n places) p ⊎ (place ≡ p))) (sym (take_more places n 0 lt ∙ ap (λ (x : ℕ). take n places ++ x ∷ []) (sym at))) (
      λ c. Contains-push_cases (take n places) place p c,
      λ h. elim h [
        | inl before ↦ Contains-append_left (take n places) (place ∷ []) p before
        | inr is ↦ subst (Contains (take n places ++ place ∷ [])) is (Contains-push (take n places) place)
      ],
    )

-- what is marked after one more mark
set_marks : (marks : List Bool) (place : ℕ) → place < length marks → (p : ℕ) → IsMarked (set marks place true) p ↔ (IsMarked marks p ⊎ (place ≡ p))
set_marks marks place lt p = elim (cases_eq p place) [
  | inl e ↦ (λ m. inr (sym e), λ h. ap (λ k. get_or (set marks place true) k false) e ∙ get_or-set_same marks place true false lt)
  | inr apart ↦ (
    λ m. inl (sym (get_or-set_other marks place p true false apart) ∙ m),
    λ h. elim h [ inl m ↦ get_or-set_other marks place p true false apart ∙ m | inr e ↦ absurd (apart (sym e)) ],
  )
]

pub marked_more : (marks : List Bool) (places : List ℕ) (n place : ℕ) → n < length places → place ≡ get_or places n 0 → place < length marks → AreMarksOf (Contains (take n places)) marks → AreMarksOf (Contains (take (n + 1) places)) (set marks place true)
marked_more marks places n place lt at inside done p = (
  λ m. (taken_more places n place lt at p).1 (elim ((set_marks marks place inside p).0 m) [ inl old ↦ inl ((done p).0 old) | inr e ↦ inr e ]),
  λ c. (set_marks marks place inside p).1 (elim ((taken_more places n place lt at p).0 c) [ inl old ↦ inl ((done p).1 old) | inr e ↦ inr e ]),
)

-- the list has those of the first places of which F holds
pub chosen_more : (F : ℕ → Type 0) (places old new : List ℕ) (n place : ℕ) → n < length places → place ≡ get_or places n 0 → ((p : ℕ) → Contains old p ↔ (Contains (take n places) p × F p)) → ((p : ℕ) → Contains new p ↔ (Contains old p ⊎ ((place ≡ p) × F p))) → (p : ℕ) → Contains new p ↔ (Contains (take (n + 1) places) p × F p)
chosen_more F places old new n place lt at done adds p = (
  λ c. elim ((adds p).0 c) [
    | inl o ↦ let d : Contains (take n places) p × F p = (done p).0 o in ((taken_more places n place lt at p).1 (inl d.0), d.1)
    | inr h ↦ ((taken_more places n place lt at p).1 (inr h.0), h.1)
  ],
  λ h. (adds p).1 (elim ((taken_more places n place lt at p).0 h.0) [ inl before ↦ inl ((done p).1 (before, h.1)) | inr e ↦ inr (e, h.1) ]),
)
