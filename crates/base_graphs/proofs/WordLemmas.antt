-- Marks kept as bits.
use Rattle.std.proofs.Common.{◌≡◌, inl, inr, ℕ, ◌*◌, ◌/◌, ◌%◌, ◌^◌, ◌<◌, ◌≤◌, Bool, true, false, List, [], length, set, get_or, replicate, refl, sym, ◌∙◌, ap, arith, get_or-set_same, get_or-set_other, length-set}
use Rattle.std.specs.Prelude.{◌==◌, bit_and}
use Rattle.std.specs.Int.{bit_at, w64}
use Rattle.std.specs.Int.RustNames.{bit_or}
use Rattle.std.proofs.Math.ListN.{length-replicate}
use Rattle.std.proofs.lemmas.Bool.{cases_eq}
use Rattle.std.proofs.lemmas.List.{get_or_past, get_or_default, get_or-replicate}
use Rattle.std.proofs.lemmas.List.FromFn.{length-map-range_with_len, get_or-map-range_with_len, fill_by_all}
use Rattle.std.proofs.lemmas.Nat.Bits.{bit_at_set_same, bit_at_set_other, bit_at-zero, bit_at_ones, shr_and_one}
use Rattle.base_graphs.specs.Words.{mark_of, marks_of}

pub length-marks_of : (n : ℕ) (words : List ℕ) → length (marks_of n words) ≡ n
unfolding marks_of
length-marks_of n words = length-map-range_with_len (mark_of words) 0 n

pub get_or-marks_of : (n : ℕ) (words : List ℕ) (p : ℕ) → p < n → get_or (marks_of n words) p false ≡ mark_of words p
unfolding marks_of
get_or-marks_of n words p lt = get_or-map-range_with_len (mark_of words) 0 n p p false lt (omega arith)

pub marks_past : (n : ℕ) (words : List ℕ) (p : ℕ) → n ≤ p → get_or (marks_of n words) p false ≡ false
marks_past n words p over = get_or_past (marks_of n words) p false (let l = length-marks_of n words in omega arith)

by_marks : (n : ℕ) (words : List ℕ) (xs : List Bool) → length xs ≡ n → ((k : ℕ) → k < n → get_or xs k false ≡ mark_of words k) → xs ≡ marks_of n words
unfolding marks_of
by_marks n words xs len each = fill_by_all (mark_of words) xs n false len each

mark_of_zero : (words : List ℕ) (p : ℕ) → get_or words (p / 64) 0 ≡ 0 → mark_of words p ≡ false
mark_of_zero words p e = ap (λ w. bit_at w (p % 64) == 1) e ∙ ap (λ b. b == 1) (bit_at-zero (p % 64))

-- words without a bit mark nothing
pub marks_none : (n k : ℕ) (words : List ℕ) → words ≡ replicate k 0 → n ≤ 64 * k → marks_of n words ≡ replicate n false
marks_none n k words e room = sym (by_marks n words (replicate n false) (length-replicate n false) (λ i lt.
    get_or-replicate n i false false lt ∙ sym (mark_of_zero words i (ap (λ v. get_or v (i / 64) 0) e ∙ get_or-replicate k (i / 64) 0 0 (omega arith)))))

mark_of_ones : (words : List ℕ) (p : ℕ) → get_or words (p / 64) 0 ≡ 18446744073709551615 → mark_of words p ≡ true
mark_of_ones words p e = ap (λ w. bit_at w (p % 64) == 1) e ∙ ap (λ b. b == 1) (bit_at_ones 64 (p % 64) (omega arith))

-- words of ones mark all
pub marks_all : (n k : ℕ) (words : List ℕ) → words ≡ replicate k 18446744073709551615 → n ≤ 64 * k → marks_of n words ≡ replicate n true
marks_all n k words e room = sym (by_marks n words (replicate n true) (length-replicate n true) (λ i lt.
    get_or-replicate n i true false lt ∙ sym (mark_of_ones words i (ap (λ v. get_or v (i / 64) 0) e ∙ get_or-replicate k (i / 64) 18446744073709551615 0 (omega arith)))))

pub marks_nil : (words : List ℕ) → marks_of 0 words ≡ []
unfolding marks_of
marks_nil words = refl

-- the words with the bit of a place set
with_bit : List ℕ → ℕ → ℕ → List ℕ
with_bit words p w = set words (p / 64) (bit_or w (1 * 2 ^ (p % 64) % 18446744073709551616))

bit_same : (words : List ℕ) (p w : ℕ) → p / 64 < length words → mark_of (with_bit words p w) p ≡ true
unfolding with_bit
bit_same words p w lt =
    ap (λ v. bit_at v (p % 64) == 1) (get_or-set_same words (p / 64) (bit_or w (1 * 2 ^ (p % 64) % 18446744073709551616)) 0 lt)
    ∙ ap (λ b. b == 1) (bit_at_set_same w64 w (p % 64) (omega arith))

bit_other : (words : List ℕ) (p q w : ℕ) → p / 64 < length words → w ≡ get_or words (p / 64) 0 → (q ≡ p → ⊥) → mark_of (with_bit words p w) q ≡ mark_of words q
unfolding with_bit
bit_other words p q w lt at ne = elim (cases_eq (q / 64) (p / 64)) [
  | inl same ↦
      ap (λ v. bit_at v (q % 64) == 1) (ap (λ i. get_or (set words (p / 64) (bit_or w (1 * 2 ^ (p % 64) % 18446744073709551616))) i 0) same ∙ get_or-set_same words (p / 64) (bit_or w (1 * 2 ^ (p % 64) % 18446744073709551616)) 0 lt)
      ∙ ap (λ b. b == 1) (bit_at_set_other w64 w (p % 64) (omega arith) (q % 64) (λ e. ne (omega arith)))
      ∙ ap (λ v. bit_at v (q % 64) == 1) (at ∙ ap (λ i. get_or words i 0) (sym same))
  | inr other ↦ ap (λ v. bit_at v (q % 64) == 1) (get_or-set_other words (p / 64) (q / 64) (bit_or w (1 * 2 ^ (p % 64) % 18446744073709551616)) 0 other)
]

-- the marks with one more
pub marks_more : (n p w : ℕ) (words : List ℕ) → p < n → n ≤ 64 * length words → w ≡ get_or words (p / 64) w → marks_of n (set words (p / 64) (bit_or w (1 * 2 ^ (p % 64) % 18446744073709551616))) ≡ set (marks_of n words) p true
unfolding with_bit
marks_more n p w words lt room at =
    let inside : p / 64 < length words = omega arith in
    sym (by_marks n (with_bit words p w) (set (marks_of n words) p true) (length-set (marks_of n words) p true ∙ length-marks_of n words) (λ k below.
    elim (cases_eq k p) [
      | inl same ↦ ap (λ i. get_or (set (marks_of n words) p true) i false) same ∙ get_or-set_same (marks_of n words) p true false (let l = length-marks_of n words in omega arith) ∙ sym (ap (mark_of (with_bit words p w)) same ∙ bit_same words p w inside)
      | inr other ↦ get_or-set_other (marks_of n words) p k true false other ∙ get_or-marks_of n words k below ∙ sym (bit_other words p k w inside (at ∙ get_or_default words (p / 64) w 0 inside) other)
    ]))

-- the mark that is read
pub mark_read : (n p w : ℕ) (words : List ℕ) (view : List Bool) → view ≡ marks_of n words → p < n → n ≤ 64 * length words → w ≡ get_or words (p / 64) w → (bit_and (w / 2 ^ (p % 64)) 1 == 1) ≡ get_or view p false
mark_read n p w words view e lt room at =
    ap (λ b. b == 1) (shr_and_one w (p % 64)) ∙ ap (λ v. bit_at v (p % 64) == 1) (at ∙ get_or_default words (p / 64) w 0 (omega arith)) ∙ sym (get_or-marks_of n words p lt) ∙ ap (λ v. get_or v p false) (sym e)
