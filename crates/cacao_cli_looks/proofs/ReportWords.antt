-- The words of a report, none of which has a line feed.
use Rattle.std.proofs.Common.{◌≡◌, ◌∙◌, refl, sym, ap, subst, arith, ℕ, suc, ◌<◌, ◌/◌, ◌%◌, ◌==◌, ◌&&◌, nat_lt, Bool, true, false, List, [], ◌∷◌, ◌++◌, length, get_or}
use Rattle.std.specs.Prelude.{if◌then◌else◌, not}
use Rattle.std.specs.Fmt.{decimal}
use Rattle.std.specs.List.{flat_map, list_all, join_with_byte, AllByRecursion}
use Rattle.std.proofs.lemmas.Bool.{true≢false}
use Rattle.std.proofs.lemmas.List.Folds.{list_all-append}
use Rattle.cacao_ids.specs.Ids.{IsId, IsPart, is_part_character}
use Rattle.cacao_ids.specs.Uuids.{IsUuid, is_hyphen_at, is_lower_hex, may_stand}
use Rattle.cacao_text.specs.Canon.{escaped, hex_digit, string_text}
use Rattle.cacao_vars.specs.Names.{IsName, is_name_character, underscores}
use Rattle.flow_core_rules.specs.Laws.{is_digit}
use Rattle.cacao_cli_looks.proofs.OtherLines.{decimal-digits}

abbrev pub is_other_than_feed : ℕ → Bool
is_other_than_feed c = not (c == 10)

-- no line feed stands in it
abbrev pub IsWord : List ℕ → Type 0
IsWord text = list_all is_other_than_feed text ≡ true

both-true : (a b : Bool) → a ≡ true → b ≡ true → (a && b) ≡ true
both-true true b p q = q
both-true false b p q = p

pub first-true : (a b : Bool) → (a && b) ≡ true → a ≡ true
first-true true b h = refl
first-true false b h = h

pub second-true : (a b : Bool) → (a && b) ≡ true → b ≡ true
second-true true b h = h
second-true false b h = absurd (true≢false (sym h))

pub both-words : (xs ys : List ℕ) → IsWord xs → IsWord ys → IsWord (xs ++ ys)
both-words xs ys p q = list_all-append is_other_than_feed xs ys ∙ both-true (list_all is_other_than_feed xs) (list_all is_other_than_feed ys) p q

-- characters of a kind that no line feed is of
of-kind : (is : ℕ → Bool) → is 10 ≡ false → (text : List ℕ) → list_all is text ≡ true → IsWord text
of-kind is none [] h = refl
of-kind is none (c ∷ text) h = both-true (is_other_than_feed c) (list_all is_other_than_feed text) (other (c == 10) refl) (of-kind is none text (second-true (is c) (list_all is text) h))
  where
    same : (c == 10) ≡ true → c ≡ 10
    same e = grind arith

    other : (b : Bool) → (c == 10) ≡ b → not b ≡ true
    other false e = refl
    other true e = absurd (true≢false (sym (first-true (is c) (list_all is text) h) ∙ ap is (same e) ∙ none))

pub number-word : (n : ℕ) → IsWord (decimal n)
number-word n = of-kind is_digit refl (decimal n) (decimal-digits n)

-- ---- names of variables

pub name-word : (text : List ℕ) → IsName text → IsWord text
name-word text h = subst IsWord (sym h.spelled) (both-words underscores (h.middle ++ underscores) refl (both-words h.middle underscores (of-kind is_name_character refl h.middle h.characters) refl))

-- ---- identifiers

part-word : (parts : List (List ℕ)) → AllByRecursion IsPart parts → IsWord (join_with_byte 45 parts)
part-word [] h = refl
part-word (x ∷ []) h = of-kind is_part_character refl x h.0.1
part-word (x ∷ y ∷ parts) h = both-words x (45 ∷ join_with_byte 45 (y ∷ parts)) (of-kind is_part_character refl x h.0.1) (part-word (y ∷ parts) h.1)

from-places : (text : List ℕ) → ((k : ℕ) → k < length text → is_other_than_feed (get_or text k 0) ≡ true) → IsWord text
from-places [] h = refl
from-places (c ∷ text) h = both-true (is_other_than_feed c) (list_all is_other_than_feed text) (h 0 (omega arith)) (from-places text (λ k lt. h (suc k) (omega (arith, lt))))

uuid-place : (k c : ℕ) → may_stand k c ≡ true → is_other_than_feed c ≡ true
uuid-place k c h = go (is_hyphen_at k) h
  where
    hyphen : (c == 45) ≡ true → c ≡ 45
    hyphen e = grind arith

    feed : (c == 10) ≡ true → c ≡ 10
    feed e = grind arith

    hex : is_lower_hex c ≡ true → (b : Bool) → (c == 10) ≡ b → not b ≡ true
    hex e false f = refl
    hex e true f = absurd (true≢false (sym e ∙ ap is_lower_hex (feed f)))

    go : (b : Bool) → (if b then c == 45 else is_lower_hex c) ≡ true → is_other_than_feed c ≡ true
    go true e = ap is_other_than_feed (hyphen e)
    go false e = hex e (c == 10) refl

uuid-word : (text : List ℕ) → IsUuid text → IsWord text
uuid-word text h = from-places text (λ k lt. uuid-place k (get_or text k 0) (h.characters k (omega (arith, lt, h.size))))

pub id-word : (text : List ℕ) → IsId text → IsWord text
id-word text (short, (type, h)) = subst IsWord (sym h.joined) (both-words type (45 ∷ 45 ∷ h.uuid) (subst IsWord (sym h.object_type_fits.joined) (part-word h.object_type_fits.parts h.object_type_fits.each)) (uuid-word h.uuid h.uuid_fits))

-- ---- strings of JSON

hex-other : (n : ℕ) → is_other_than_feed (hex_digit n) ≡ true
hex-other n = grind arith

escaped-word : (b : ℕ) → IsWord (escaped b)
unfolding escaped
escaped-word b = at _ _ (b == 34) (λ e. refl) (λ e. at _ _ (b == 92) (λ e. refl) (λ e. at _ _ (b == 8) (λ e. refl) (λ e. at _ _ (b == 9) (λ e. refl) (λ e. at _ _ (b == 10) (λ e. refl)
    (λ feed. at _ _ (b == 12) (λ e. refl) (λ e. at _ _ (b == 13) (λ e. refl) (λ e. at _ _ (nat_lt b 32) (λ e. control) (λ e. plain feed))))))))
  where
    at : (xs ys : List ℕ) (t : Bool) → (t ≡ true → IsWord xs) → (t ≡ false → IsWord ys) → IsWord (if t then xs else ys)
    at xs ys true p q = p refl
    at xs ys false p q = q refl

    control : IsWord (92 ∷ 117 ∷ 48 ∷ 48 ∷ hex_digit (b / 16) ∷ hex_digit (b % 16) ∷ [])
    control = both-words (92 ∷ 117 ∷ 48 ∷ 48 ∷ []) (hex_digit (b / 16) ∷ hex_digit (b % 16) ∷ []) refl (rw (hex-other (b / 16), hex-other (b % 16)) refl)

    plain : (b == 10) ≡ false → IsWord (b ∷ [])
    plain e = rw e refl

all-escaped : (s : List ℕ) → IsWord (flat_map escaped s)
all-escaped [] = refl
all-escaped (b ∷ s) = both-words (escaped b) (flat_map escaped s) (escaped-word b) (all-escaped s)

pub string-word : (s : List ℕ) → IsWord (string_text s)
string-word s = both-words (34 ∷ []) (flat_map escaped s ++ 34 ∷ []) refl (both-words (flat_map escaped s) (34 ∷ []) (all-escaped s) refl)
