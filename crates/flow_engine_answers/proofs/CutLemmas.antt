-- A text that is cut at the first byte of a kind.
use Rattle.std.proofs.Common.{◌≡◌, ◌≢◌, ◌∙◌, ◌<◌, ℕ, ◌+◌, true, false, eqb, List, ◌∷◌, ◌++◌, length, get_or, take, drop, Option, Some, None, refl, ap, sym, subst, arith, eq-eqb, ne_eqb, add-one, length-append, drop-cons, suc}
use Rattle.std.specs.Prelude.{option_map}
use Rattle.std.specs.List.{All, position, position_or_len}
use Rattle.std.proofs.lemmas.Bool.{eqb-true, lt-ltb}
use Rattle.std.proofs.lemmas.Option.{same_Some, none-some}
use Rattle.std.proofs.lemmas.List.{take-append-drop, get_or-take, get_or_append_left, length-take}
use Rattle.std.proofs.lemmas.List.Elements.{All-from_get_or}
use Rattle.std.proofs.lemmas.List.Sums.{position_or_len_is}
use Rattle.std.proofs.lemmas.List.Quantifiers.{position-Some}
use Rattle.std.proofs.Math.Seq.{get_or-append_seam, take-append_seam, drop-append-add}
use Rattle.flow_engine_answers.specs.AnswerReading.{cut}

-- no byte of the text is this one
abbrev pub Lacks : ℕ → List ℕ → Type 0
Lacks byte text = All (λ c. c ≢ byte) text

map_some : {A B P : Type 0} (f : A → B) (o : Option A) (y : B) → option_map f o ≡ Some y → ((x : A) → o ≡ Some x → f x ≡ y → P) → P
map_some f None y e k = absurd (none-some y e)
map_some f (Some x) y e k = k x refl (same_Some _ y e)

-- the text from a place on, where this byte stands
at_place : (byte : ℕ) (text : List ℕ) (i : ℕ) → i < length text → get_or text i 0 ≡ byte → text ≡ take i text ++ (byte ∷ drop (i + 1) text)
at_place byte text i lt is =
    let from : drop i text ≡ get_or text i 0 ∷ drop (suc i) text = drop-cons text i 0 lt in
    let whole : drop i text ≡ byte ∷ drop (i + 1) text = rw (add-one, from, is) refl in
    sym (take-append-drop i text) ∙ ap (λ t. take i text ++ t) whole

-- what is cut
pub cut_is : (byte : ℕ) (text : List ℕ) (parts : List ℕ × List ℕ) → cut byte text ≡ Some parts → (text ≡ parts.0 ++ (byte ∷ parts.1)) × Lacks byte parts.0
unfolding cut
cut_is byte text parts e = map_some (λ (i : ℕ). (take i text, drop (i + 1) text)) (position (λ c. eqb c byte) text) parts e λ i found is.
    let at = position-Some (λ c. eqb c byte) text i 0 found in
    let whole = at_place byte text i at.0 (eqb-true _ _ at.1) in
    let lacks : Lacks byte (take i text) = All-from_get_or (λ c. c ≢ byte) (take i text) 0 λ k lt same.
    let inside : k < i = omega (arith, lt, length-take i text) in
    let other : eqb (get_or text k 0) byte ≡ false = at.2 k inside in
    let value : get_or text k 0 ≡ byte = sym (get_or-take i text k 0 inside) ∙ same in
    let bad : true ≡ false = sym (eq-eqb _ _ value) ∙ other in
    absurd (cc bad)
    in
    subst (λ (p : List ℕ × List ℕ). (text ≡ p.0 ++ (byte ∷ p.1)) × Lacks byte p.0) is (whole, lacks)

-- how far it is to the first such byte
first_at : (byte : ℕ) (front rest : List ℕ) → Lacks byte front → position_or_len (λ c. eqb c byte) (front ++ (byte ∷ rest)) ≡ length front
first_at byte front rest lacks = position_or_len_is (λ c. eqb c byte) (front ++ (byte ∷ rest)) (length front) 0
    (omega (arith, length-append front (byte ∷ rest)))
    (λ k lt. rw (get_or_append_left front (byte ∷ rest) 0 k lt) (ne_eqb _ _ (lacks k 0 lt)))
    (λ lt. eq-eqb _ _ (get_or-append_seam front byte rest 0))

-- what stands before and behind the first such byte is cut
pub cut_first : (byte : ℕ) (front rest : List ℕ) → Lacks byte front → cut byte (front ++ (byte ∷ rest)) ≡ Some (front, rest)
unfolding cut
cut_first byte front rest lacks =
    let place : position_or_len (λ c. eqb c byte) (front ++ (byte ∷ rest)) ≡ length front = first_at byte front rest lacks in
    let lt : length front < length (front ++ (byte ∷ rest)) = omega (arith, length-append front (byte ∷ rest)) in
    let behind : drop (length front + 1) (front ++ (byte ∷ rest)) ≡ rest = drop-append-add front (byte ∷ rest) 1 in
    rw (place, lt-ltb _ _ lt, take-append_seam front (byte ∷ rest), behind) refl

none_is : (byte : ℕ) (text : List ℕ) (o : Option (List ℕ × List ℕ)) → cut byte text ≡ o → Lacks byte text → o ≡ None
none_is byte text None e lacks = refl
none_is byte text (Some parts) e lacks =
    let is = cut_is byte text parts e in
    let seam : get_or text (length parts.0) 0 ≡ byte = ap (λ t. get_or t (length parts.0) 0) is.0 ∙ get_or-append_seam parts.0 byte parts.1 0 in
    let long : length text ≡ length (parts.0 ++ (byte ∷ parts.1)) = ap length is.0 in
    let lt : length parts.0 < length text = omega (arith, long, length-append parts.0 (byte ∷ parts.1)) in
    absurd (lacks (length parts.0) 0 lt seam)

-- a text with no such byte is not cut
pub cut_none : (byte : ℕ) (text : List ℕ) → Lacks byte text → cut byte text ≡ None
cut_none byte text lacks = none_is byte text (cut byte text) refl lacks
