-- The scan of an object type from the left, and the grammar.
use Rattle.std.proofs.Common.{◌≡◌, ◌⊎◌, ℕ, suc, ◌+◌, ◌-◌, ◌<◌, ◌≤◌, get_or, take, drop, drop_at, take-append-drop, length-append, append_assoc, drop-cons, subst, ◌==◌, ◌&&◌, Bool, true, false, List, [], ◌∷◌, ◌++◌, length, arith, refl, sym, ◌∙◌, ap, inl, inr, if◌then◌else◌, IsTrue}
use Rattle.std.specs.List.{list_all, AllByRecursion, join_with_byte}
use Rattle.std.proofs.lemmas.Bool.{true≢false}
use Rattle.std.proofs.lemmas.List.{append-nil}
use Rattle.std.specs.Str.{IsUtf8, IsCharBoundary}
use Rattle.std.proofs.lemmas.Str.{IsCharBoundary-after_ascii}
use Rattle.cacao_ids.specs.Ids.{IsPart, IsObjectType, IsId, is_part_character}
use Rattle.cacao_ids.specs.Uuids.{IsUuid}
use Rattle.cacao_ids.proofs.UuidLemmas.{both}

-- whether the rest of a text ends an object type, where a part is open or not
abbrev pub completes : Bool → List ℕ → Bool
completes is_open [] = is_open
completes is_open (c ∷ cs) =
    if is_part_character c then completes true cs else (if (c == 45) && is_open then completes false cs else false)

-- the parts of a text, the first of which may be empty where a part is open
record Parts (is_open : Bool) (text : List ℕ) : Type 0 where
  first : List ℕ
  rest : List (List ℕ)
  some_byte : is_open ≡ false → 0 < length first
  first_fits : IsTrue (list_all is_part_character first)
  each : AllByRecursion IsPart rest
  joined : text ≡ join_with_byte 45 (first ∷ rest)

join-cons : (c : ℕ) (first : List ℕ) (rest : List (List ℕ)) → join_with_byte 45 ((c ∷ first) ∷ rest) ≡ c ∷ join_with_byte 45 (first ∷ rest)
join-cons c first [] = refl
join-cons c first (r ∷ rs) = refl

if_cases : (b : Bool) (x y : Bool) → (if b then x else y) ≡ true → ((b ≡ true) × (x ≡ true)) ⊎ ((b ≡ false) × (y ≡ true))
if_cases true x y e = inl (refl, e)
if_cases false x y e = inr (refl, e)

longer : (c : ℕ) (cs : List ℕ) → is_part_character c ≡ true → (is_open : Bool) → Parts true cs → Parts is_open (c ∷ cs)
longer c cs fits is_open p = record {
  first = c ∷ p.first;
  rest = p.rest;
  some_byte = λ _. omega arith;
  first_fits = rw fits p.first_fits;
  each = p.each;
  joined = ap (λ t. c ∷ t) p.joined ∙ sym (join-cons c p.first p.rest);
}

closed : (c : ℕ) (cs : List ℕ) (is_open : Bool) → c ≡ 45 → is_open ≡ true → Parts false cs → Parts is_open (c ∷ cs)
closed c cs is_open e o p = record {
  first = [];
  rest = p.first ∷ p.rest;
  some_byte = λ f. absurd (true≢false (sym o ∙ f));
  first_fits = refl;
  each = ((p.some_byte refl, p.first_fits), p.each);
  joined = cc p.joined;
}

parts_of : (is_open : Bool) (text : List ℕ) → completes is_open text ≡ true → Parts is_open text
parts_of is_open [] e = record {
  first = [];
  rest = [];
  some_byte = λ f. absurd (true≢false (sym e ∙ f));
  first_fits = refl;
  each = tt;
  joined = refl;
}
parts_of is_open (c ∷ cs) e = elim (if_cases (is_part_character c) (completes true cs) (if (c == 45) && is_open then completes false cs else false) e) [
  | inl h ↦ longer c cs h.0 is_open (parts_of true cs h.1)
  | inr h ↦ elim (if_cases ((c == 45) && is_open) (completes false cs) false h.1) [
    | inl k ↦ closed c cs is_open (grind (arith, both (c == 45) is_open k.0)) (both (c == 45) is_open k.0).1 (parts_of false cs k.1)
    | inr k ↦ absurd (true≢false (sym k.1))
  ]
]

pub object_type_from : (text : List ℕ) → completes false text ≡ true → IsObjectType text
object_type_from text e = let p = parts_of false text e in record {
  parts = p.first ∷ p.rest;
  some_part = omega arith;
  each = ((p.some_byte refl, p.first_fits), p.each);
  joined = p.joined;
}

-- past the characters of a part
completes-letters : (part tail : List ℕ) → list_all is_part_character part ≡ true → completes true (part ++ tail) ≡ completes true tail
completes-letters [] tail e = refl
completes-letters (c ∷ cs) tail e =
    let h = both (is_part_character c) (list_all is_part_character cs) e in rw h.0 (completes-letters cs tail h.1)

completes-part : (part tail : List ℕ) → IsPart part → completes false (part ++ tail) ≡ completes true tail
completes-part [] tail p = absurd (omega (arith, p.0))
completes-part (c ∷ cs) tail p =
    let h = both (is_part_character c) (list_all is_part_character cs) p.1 in rw h.0 (completes-letters cs tail h.1)

completes-join : (part : List ℕ) (parts : List (List ℕ)) → IsPart part → AllByRecursion IsPart parts → completes false (join_with_byte 45 (part ∷ parts)) ≡ true
completes-join part [] p ps = ap (completes false) (sym (append-nil part)) ∙ completes-part part [] p
completes-join part (r ∷ rs) p ps = completes-part part (45 ∷ join_with_byte 45 (r ∷ rs)) p ∙ completes-join r rs ps.0 ps.1

completes-parts : (parts : List (List ℕ)) → 0 < length parts → AllByRecursion IsPart parts → completes false (join_with_byte 45 parts) ≡ true
completes-parts [] some each = absurd (omega arith)
completes-parts (p ∷ ps) some each = completes-join p ps each.0 each.1

pub object_type_completes : (text : List ℕ) → IsObjectType text → completes false text ≡ true
object_type_completes text o = ap (completes false) o.joined ∙ completes-parts o.parts o.some_part o.each

-- a byte that is no part of one, and no hyphen behind a part
pub refuses : (is_open : Bool) (c : ℕ) (cs : List ℕ) → is_part_character c ≡ false → ((c == 45) && is_open) ≡ false → completes is_open (c ∷ cs) ≡ false
refuses is_open c cs letter hyphen = rw (letter, hyphen) refl

-- what the scan answers is what the grammar says
pub answers : (b : Bool) (text : List ℕ) → completes false text ≡ b → (IsTrue b → IsObjectType text) × (IsObjectType text → IsTrue b)
answers b text e = (λ t. object_type_from text (e ∙ t), λ o. sym e ∙ object_type_completes text o)

-- two characters, and what follows
two-cells : (s : List ℕ) (n m k : ℕ) → m ≡ n + 1 → k ≡ m + 1 → k ≤ length s → drop n s ≡ get_or s n 0 ∷ get_or s m 0 ∷ drop k s
two-cells s n m k e f h =
    let first : n < length s = omega arith in
    let second : m < length s = omega arith in
    let one : suc n ≡ m = omega arith in
    let two : suc m ≡ k = omega arith in
    drop-cons s n 0 first ∙ ap (λ i. get_or s n 0 ∷ drop i s) one ∙ ap (λ t. get_or s n 0 ∷ t) (drop-cons s m 0 second ∙ ap (λ i. get_or s m 0 ∷ drop i s) two)

pub id_from : (text : List ℕ) (n m k : ℕ) → m ≡ n + 1 → k ≡ m + 1 → k + 36 ≡ length text → length text ≤ 128 → get_or text n 0 ≡ 45 → get_or text m 0 ≡ 45
    → IsObjectType (take n text) → IsUuid (drop k text) → IsId text
id_from text n m k e f size short first second object_type uuid = (
  short,
  (
    take n text,
    record {
      uuid = drop k text;
      object_type_fits = object_type;
      uuid_fits = uuid;
      joined = sym (take-append-drop n text) ∙ ap (λ t. take n text ++ t) (two-cells text n m k e f (omega arith) ∙ cc);
    },
  ),
)

-- the last 36 characters are the UUID
last_is_uuid : (text front uuid : List ℕ) (k : ℕ) → k + 36 ≡ length text → text ≡ front ++ uuid → IsUuid uuid → IsUuid (drop k text)
last_is_uuid text front uuid k size e u =
    let total : length text ≡ length front + length uuid = ap length e ∙ length-append front uuid in
    let front_size : length front ≡ k = omega (arith, u.size) in
    let same : drop k text ≡ uuid = ap (drop k) e ∙ drop_at front uuid k front_size in
    subst IsUuid (sym same) u

pub uuid_of : (text : List ℕ) (k : ℕ) → k + 36 ≡ length text → IsId text → IsUuid (drop k text)
uuid_of text k size id =
    let h = id.1.1 in
    last_is_uuid text (id.1.0 ++ 45 ∷ 45 ∷ []) h.uuid k size (h.joined ∙ sym (append_assoc id.1.0 (45 ∷ 45 ∷ []) h.uuid)) h.uuid_fits

-- a text may be cut behind the second hyphen
pub cut_behind : (text bytes : List ℕ) → bytes ≡ text → IsUtf8 text → 38 ≤ length bytes → get_or bytes (length bytes - 37) 0 ≡ 45 → IsCharBoundary text (length bytes - 36)
cut_behind text bytes e utf8 size hyphen =
    let same : length bytes ≡ length text = ap length e in
    let here : get_or text (length bytes - 37) 0 ≡ 45 = ap (λ t. get_or t (length bytes - 37) 0) (sym e) ∙ hyphen in
    let next : (length bytes - 37) + 1 ≡ length bytes - 36 = omega arith in
    subst (IsCharBoundary text) next (IsCharBoundary-after_ascii text (length bytes - 37) utf8 (omega arith) (omega arith))

-- what the tests of the parts say of the whole
pub id_answers : (text bytes : List ℕ) (b : Bool) → bytes ≡ text → 38 ≤ length bytes → length bytes ≤ 128
    → get_or bytes (length bytes - 38) 0 ≡ 45 → get_or bytes (length bytes - 37) 0 ≡ 45
    → IsObjectType (take (length bytes - 38) bytes) → (IsTrue b → IsUuid (drop (length bytes - 36) text)) → (IsUuid (drop (length bytes - 36) text) → IsTrue b)
    → (IsTrue b → IsId text) × (IsId text → IsTrue b)
id_answers text bytes b e size short first second object_type to from =
    let same : length bytes ≡ length text = ap length e in (
      λ t. id_from text (length bytes - 38) (length bytes - 37) (length bytes - 36) (omega arith) (omega arith) (omega arith) (omega arith)
          (ap (λ s. get_or s (length bytes - 38) 0) (sym e) ∙ first) (ap (λ s. get_or s (length bytes - 37) 0) (sym e) ∙ second)
          (subst (λ s. IsObjectType (take (length bytes - 38) s)) e object_type) (to t),
      λ id. from (uuid_of text (length bytes - 36) (omega arith) id),
    )
