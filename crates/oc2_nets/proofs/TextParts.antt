-- The parts of a text between its separators.
use Rattle.std.proofs.Common.{◌≡◌, ◌≢◌, ◌<◌, ℕ, false, eqb, List, [], ◌∷◌, ◌++◌, length, get_or, refl, arith, ne_eqb, eq-eqb, zero, suc}
use Rattle.std.specs.List.{All, join_with_byte}
use Rattle.std.proofs.lemmas.List.Splits.{slice_split_none, slice_split_at, join_with_byte-slice_split}
use Rattle.std.proofs.lemmas.List.Elements.{All-from_get_or}
use Rattle.oc2_nets.specs.Texts.{parts}

-- no byte of the text is c
abbrev pub Lacks : ℕ → List ℕ → Type 0
Lacks c text = (i : ℕ) → i < length text → get_or text i 0 ≢ c

pub none_is : (c : ℕ) (text : List ℕ) → Lacks c text → All (λ b. eqb b c ≡ false) text
none_is c text lacks = All-from_get_or (λ b. eqb b c ≡ false) text 0 (λ i h. ne_eqb (get_or text i 0) c (lacks i h))

-- a text with no separator is one part
pub parts_one : (c : ℕ) (text : List ℕ) → Lacks c text → parts c text ≡ text ∷ []
parts_one c text lacks = slice_split_none (λ b. eqb b c) text (none_is c text lacks)

-- what stands before the first separator is the first part
pub parts_more : (c : ℕ) (front rest : List ℕ) → Lacks c front → parts c (front ++ c ∷ rest) ≡ front ∷ parts c rest
parts_more c front rest lacks = slice_split_at (λ b. eqb b c) front c rest (none_is c front lacks) (eq-eqb c c refl)

pub joined_parts : (c : ℕ) (text : List ℕ) → join_with_byte c (parts c text) ≡ text
joined_parts c text = join_with_byte-slice_split c text

pub Lacks-append : (c : ℕ) (xs ys : List ℕ) → Lacks c xs → Lacks c ys → Lacks c (xs ++ ys)
Lacks-append c [] ys left right i h = right i h
Lacks-append c (x ∷ xs) ys left right zero h = left zero (omega arith)
Lacks-append c (x ∷ xs) ys left right (suc i) h = Lacks-append c xs ys (λ j k. left (suc j) (omega arith)) right i (omega arith)

pub Lacks-right : (c : ℕ) (xs ys : List ℕ) → Lacks c (xs ++ ys) → Lacks c ys
Lacks-right c [] ys both = both
Lacks-right c (x ∷ xs) ys both = Lacks-right c xs ys (λ i h. both (suc i) (omega arith))
