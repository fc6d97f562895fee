-- Bytes that are put into a buffer one after another.
use Rattle.std.proofs.Common.{◌≡◌, ℕ, ◌+◌, ◌-◌, ◌<◌, ◌≤◌, ◌⊎◌, max, min, List, length, slice_set, refl, sym, ◌∙◌, ap, arith, inl, inr, get_or, ⊎_elim}
use Rattle.std.proofs.lemmas.List.{get_or-set_same, get_or-set_other}
use Rattle.std.proofs.Math.ListN.{length-set}
use Rattle.std.proofs.lemmas.Bool.{cases_lt, cases_eq}
use Rattle.cacao_site_log.specs.Replay.{byte_after}
use Rattle.cacao_site_log.specs.Images.{byte_after-inside, byte_after-outside}

-- the buffer, which begins at place `at` of the file, has the bytes at places from `first` up to p
pub record IsOverlaid (place : ℕ) (bytes : List ℕ) (at first p : ℕ) (old new : List ℕ) : Type 0 where
  pub long : length new ≡ length old
  pub later : first ≤ p
  pub done : (k : ℕ) → k < length old → first ≤ at + k → at + k < p → get_or new k 0 ≡ get_or bytes (at + k - place) 0
  pub kept : (k : ℕ) → k < length old → (at + k < first) ⊎ (p ≤ at + k) → get_or new k 0 ≡ get_or old k 0

pub overlaid-start : (place : ℕ) (bytes : List ℕ) (at first : ℕ) (old : List ℕ) → IsOverlaid place bytes at first first old old
overlaid-start place bytes at first old = record { long = refl; later = omega arith; done = λ k lt le below. absurd (omega arith); kept = λ k lt h. refl }

pub overlaid-more : (place : ℕ) (bytes : List ℕ) (at first p : ℕ) (old new : List ℕ) → at ≤ p → p < at + length old → IsOverlaid place bytes at first p old new
    → IsOverlaid place bytes at first (p + 1) old (slice_set new (p - at) (get_or bytes (p - place) 0))
overlaid-more place bytes at first p old new low high is = record {
  long = length-set new (p - at) (get_or bytes (p - place) 0) ∙ is.long;
  later = omega (arith, is.later);
  done = λ k lt le below. elim (cases_eq k (p - at)) [
    | inl here ↦
        let there : at + k ≡ p = omega arith in
        ap (λ j. get_or (slice_set new (p - at) (get_or bytes (p - place) 0)) j 0) here
        ∙ get_or-set_same new (p - at) (get_or bytes (p - place) 0) 0 (omega (arith, is.long))
        ∙ ap (λ j. get_or bytes (j - place) 0) (sym there)
    | inr ne ↦ get_or-set_other new (p - at) k (get_or bytes (p - place) 0) 0 ne ∙ is.done k lt le (omega (arith, ne))
  ];
  kept = λ k lt h.
      let ne : k ≡ p - at → ⊥ = λ e. ⊎_elim (λ before. absurd (omega (arith, is.later, before, e))) (λ behind. absurd (omega (arith, behind, e))) h in
      get_or-set_other new (p - at) k (get_or bytes (p - place) 0) 0 ne ∙ is.kept k lt (⊎_elim (λ before. inl before) (λ behind. inr (omega (arith, behind))) h);
}

pub overlaid-all : (place : ℕ) (bytes : List ℕ) (at first p : ℕ) (old new : List ℕ) → first ≡ max place at → p ≡ max (min (place + length bytes) (at + length old)) first → IsOverlaid place bytes at first p old new
    → (k : ℕ) → k < length old → get_or new k 0 ≡ byte_after place bytes (at + k) (get_or old k 0)
overlaid-all place bytes at first p old new is_first is_last is k lt = elim (cases_lt (at + k) place) [
  | inl before ↦ is.kept k lt (inl (omega arith)) ∙ sym (byte_after-outside place bytes (at + k) (get_or old k 0) (inl before))
  | inr le ↦ elim (cases_lt (at + k) (place + length bytes)) [
    | inl inside ↦ is.done k lt (omega arith) (omega arith) ∙ sym (byte_after-inside place bytes (at + k) (get_or old k 0) le inside)
    | inr behind ↦ is.kept k lt (inr (omega arith)) ∙ sym (byte_after-outside place bytes (at + k) (get_or old k 0) (inr behind))
  ]
]
