-- Bytes that come in pieces, by how many were received.
use Rattle.std.proofs.Common.{◌≡◌, ◌≢◌, ◌∙◌, ◌<◌, ◌≤◌, ℕ, ◌+◌, ◌-◌, min, List, [], ◌∷◌, ◌++◌, length, take, drop, get_or, refl, ap, sym, subst, arith, inl, inr, add-one, zero, suc, append_assoc, length-append, length-drop}
use Rattle.std.specs.List.{concat}
use Rattle.std.proofs.lemmas.Bool.{cases_lt, le-ltb, lt-ltb}
use Rattle.std.proofs.lemmas.List.{drop-append-le, drop-drop, get_or_default, length-take, take-append-drop, take_all}
use Rattle.std.proofs.lemmas.List.Folds.{concat-append}
use Rattle.std.proofs.Math.ListN.{drop_of_length-le}
use Rattle.std.proofs.Math.Seq.{drop-append-add, take-add, take-append_seam, take-suc}
use Rattle.oc2_wire_memory.specs.Pieces.{count_before, front_for, piece_at, piece_left}

-- ---- Places

-- the end of a piece is the beginning of the next
pub count_next : (pieces : List (List ℕ)) (number place : ℕ) → number < length pieces → place ≡ length (piece_at pieces number) → count_before pieces (number + 1) 0 ≡ count_before pieces number place
count_next pieces number place lt is =
    let piece : List ℕ = get_or pieces number [] in
    let more : take (number + 1) pieces ≡ take number pieces ++ (piece ∷ []) = rw add-one (take-suc pieces number [] lt) in
    let joined : concat (take (number + 1) pieces) ≡ concat (take number pieces) ++ (piece ++ []) = ap concat more ∙ concat-append (take number pieces) (piece ∷ []) in
    omega (arith, ap length joined, length-append (concat (take number pieces)) (piece ++ []), length-append piece [])

-- where a byte stands, the bytes behind it in its piece are left
left_here : (pieces : List (List ℕ)) (number place at : ℕ) → at ≡ count_before pieces number place → number < length pieces → place < length (piece_at pieces number) → piece_left at pieces ≡ drop place (piece_at pieces number)
left_here [] number place at is lt inside = absurd (omega arith)
left_here (piece ∷ pieces) zero place at is lt inside =
    let same : at ≡ place = omega (arith, is) in
    let below : at < length piece = omega (arith, same, inside) in
    rw (lt-ltb at (length piece) below, same) refl
left_here (piece ∷ pieces) (suc number) place at is lt inside =
    let long : at ≡ length piece + length (concat (take number pieces)) + place = is ∙ ap (λ n. n + place) (length-append piece (concat (take number pieces))) in
    let past : length piece ≤ at = omega (arith, long) in
    rw (le-ltb at (length piece) past) (left_here pieces number place (at - length piece) (omega (arith, long)) (omega arith) inside)

left_past : (pieces : List (List ℕ)) (at : ℕ) → length (concat pieces) ≤ at → piece_left at pieces ≡ []
left_past [] at past = refl
left_past (piece ∷ pieces) at past =
    let long : length piece + length (concat pieces) ≤ at = omega (arith, past, length-append piece (concat pieces)) in
    rw (le-ltb at (length piece) (omega (arith, long))) (left_past pieces (at - length piece) (omega (arith, long)))

pub left_at : (pieces : List (List ℕ)) (number place : ℕ) → number < length pieces → place < length (piece_at pieces number) → piece_left (count_before pieces number place) pieces ≡ drop place (piece_at pieces number)
left_at pieces number place = left_here pieces number place (count_before pieces number place) refl

pub left_at_end : (pieces : List (List ℕ)) (number place : ℕ) → number ≡ length pieces → piece_left (count_before pieces number place) pieces ≡ []
left_at_end pieces number place end = left_past pieces (count_before pieces number place) (omega (arith, ap (λ l. length (concat l)) (take_all number pieces (omega (arith, end)))))

-- ---- What is received

-- what is left of a piece comes next
next_is : (at : ℕ) (pieces : List (List ℕ)) → (more : List ℕ) × (drop at (concat pieces) ≡ piece_left at pieces ++ more)
next_is at [] = ([], drop_of_length-le [] (omega arith))
next_is at (piece ∷ pieces) = elim (cases_lt at (length piece)) [
  | inl inside ↦ (concat pieces, rw (lt-ltb at (length piece) inside) (drop-append-le at piece (concat pieces) (omega (arith, inside))))
  | inr past ↦
      let next = next_is (at - length piece) pieces in
      let split : at ≡ length piece + (at - length piece) = omega (arith, past) in
      let behind : drop at (piece ++ concat pieces) ≡ drop (at - length piece) (concat pieces) = ap (λ n. drop n (piece ++ concat pieces)) split ∙ drop-append-add piece (concat pieces) (at - length piece) in
      (next.0, rw (le-ltb at (length piece) past) (behind ∙ next.1))
]

none_left : (at : ℕ) (pieces : List (List ℕ)) → piece_left at pieces ≡ [] → drop at (concat pieces) ≡ []
none_left at [] none = drop_of_length-le [] (omega arith)
none_left at (piece ∷ pieces) none = elim (cases_lt at (length piece)) [
  | inl inside ↦
      let nothing : drop at piece ≡ [] = rw (lt-ltb at (length piece) inside) at none in
      absurd (omega (arith, inside, ap length nothing, length-drop at piece))
  | inr past ↦
      let split : at ≡ length piece + (at - length piece) = omega (arith, past) in
      let behind : drop at (piece ++ concat pieces) ≡ drop (at - length piece) (concat pieces) = ap (λ n. drop n (piece ++ concat pieces)) split ∙ drop-append-add piece (concat pieces) (at - length piece) in
      behind ∙ none_left (at - length piece) pieces (rw (le-ltb at (length piece) past) at none)
]

nil_is : (bytes : List ℕ) → length bytes ≡ 0 → bytes ≡ []
nil_is [] short = refl
nil_is (b ∷ bs) short = absurd (omega arith)

-- the bytes that come next were received
pub record Came (bytes : List ℕ) (pieces : List (List ℕ)) (old new size : ℕ) : Type 0 where
  pub received : take new (concat pieces) ≡ take old (concat pieces) ++ bytes
  pub to_come : drop old (concat pieces) ≡ bytes ++ drop new (concat pieces)
  pub at_end : bytes ≡ [] → 0 < size → drop new (concat pieces) ≡ []

pub came : (pieces : List (List ℕ)) (at size : ℕ) (bytes : List ℕ) → bytes ≡ front_for size (piece_left at pieces) → Came bytes pieces at (at + length bytes) size
came pieces at size bytes is =
    let all : List ℕ = concat pieces in
    let left : List ℕ = piece_left at pieces in
    let most : ℕ = min size 4_294_967_295 in
    let next = next_is at pieces in
    let parts : left ≡ bytes ++ drop most left = sym (take-append-drop most left) ∙ ap (λ b. b ++ drop most left) (sym is) in
    let behind : drop at all ≡ bytes ++ (drop most left ++ next.0) = next.1 ∙ ap (λ l. l ++ next.0) parts ∙ append_assoc bytes (drop most left) next.0 in
    let front : take (length bytes) (drop at all) ≡ bytes = ap (take (length bytes)) behind ∙ take-append_seam bytes (drop most left ++ next.0) in
    let rest : drop (length bytes) (drop at all) ≡ drop (at + length bytes) all = drop-drop (length bytes) at all in
    record {
      received = take-add at (length bytes) all ∙ ap (λ b. take at all ++ b) front;
      to_come = sym (take-append-drop (length bytes) (drop at all)) ∙ ap (λ b. b ++ drop (length bytes) (drop at all)) front ∙ ap (λ b. bytes ++ b) rest;
      at_end = λ none some.
          let short : length left ≡ 0 = omega (arith, ap length (sym is ∙ none), length-take most left, some) in
          let nothing : drop at all ≡ [] = none_left at pieces (nil_is left short) in
          sym rest ∙ ap (drop (length bytes)) nothing ∙ drop_of_length-le [] (omega arith);
    }

-- ---- What the calls of a link say

-- a place that is reached by passing over pieces with nothing left
pub left_where : (slice pieces : List (List ℕ)) (number place n p : ℕ) → slice ≡ pieces → count_before slice n p ≡ count_before slice number place → n < length pieces → p < length (piece_at slice n)
    → piece_left (count_before pieces number place) pieces ≡ drop p (piece_at pieces n)
left_where slice pieces number place n p same count lt inside =
    let at : count_before pieces n p ≡ count_before pieces number place = subst (λ (s : List (List ℕ)). count_before s n p ≡ count_before s number place) same count in
    ap (λ k. piece_left k pieces) (sym at) ∙ left_at pieces n p lt (subst (λ (s : List (List ℕ)). p < length (piece_at s n)) same inside)

pub left_nowhere : (slice pieces : List (List ℕ)) (number place n p : ℕ) → slice ≡ pieces → count_before slice n p ≡ count_before slice number place → n ≡ length pieces
    → piece_left (count_before pieces number place) pieces ≡ []
left_nowhere slice pieces number place n p same count end =
    let at : count_before pieces n p ≡ count_before pieces number place = subst (λ (s : List (List ℕ)). count_before s n p ≡ count_before s number place) same count in
    ap (λ k. piece_left k pieces) (sym at) ∙ left_at_end pieces n p end

pub front_of_nothing : (size : ℕ) (left : List ℕ) → left ≡ [] → front_for size left ≡ []
front_of_nothing size left e = ap (front_for size) e ∙ take_all (min size 4_294_967_295) [] (omega arith)

-- the same bytes, by the pieces and the counts before and behind the call
pub came_over : (pieces kept : List (List ℕ)) (at new n size : ℕ) (bytes : List ℕ) → kept ≡ pieces → bytes ≡ front_for size (piece_left at pieces) → n ≡ length bytes → new ≡ at + n
    → (take new (concat kept) ≡ take at (concat pieces) ++ bytes) × (drop at (concat pieces) ≡ bytes ++ drop new (concat kept)) × (bytes ≡ [] → 0 < size → drop new (concat kept) ≡ [])
came_over pieces kept at new n size bytes same is count goes =
    let reached : at + length bytes ≡ new = omega (arith, count, goes) in
    let it = came pieces at size bytes is in
    subst (λ (k : List (List ℕ)). (take new (concat k) ≡ take at (concat pieces) ++ bytes) × (drop at (concat pieces) ≡ bytes ++ drop new (concat k)) × (bytes ≡ [] → 0 < size → drop new (concat k) ≡ [])) (sym same)
    (subst (λ (m : ℕ). (take m (concat pieces) ≡ take at (concat pieces) ++ bytes) × (drop at (concat pieces) ≡ bytes ++ drop m (concat pieces)) × (bytes ≡ [] → 0 < size → drop m (concat pieces) ≡ [])) reached
    (it.received, it.to_come, it.at_end))

pub some_asked : (into : List ℕ) → into ≢ [] → 0 < length into
some_asked [] some = absurd (some refl)
some_asked (b ∷ bs) some = omega arith

-- the rest of the piece at that place is what is left
pub part_left : (slice pieces : List (List ℕ)) (number place n p : ℕ) (bytes other : List ℕ) → slice ≡ pieces → count_before slice n p ≡ count_before slice number place → n < length pieces
    → (n < length slice → p < length (piece_at slice n)) → bytes ≡ get_or pieces n other
    → take (length bytes - p) (drop p bytes) ≡ piece_left (count_before pieces number place) pieces
part_left slice pieces number place n p bytes other same count lt inside is =
    let there : n < length slice = omega (arith, lt, ap length same) in
    let piece : bytes ≡ piece_at pieces n = is ∙ get_or_default pieces n other [] lt in
    take_all (length bytes - p) (drop p bytes) (omega (arith, length-drop p bytes))
    ∙ ap (drop p) piece ∙ sym (left_where slice pieces number place n p same count lt (inside there))
