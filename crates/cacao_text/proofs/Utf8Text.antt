-- Canonical text is UTF-8.
use Rattle.std.proofs.Common.{ℕ, List, [], ◌∷◌, true, false, map, IsUtf8, refl, sym, subst}
use Rattle.std.proofs.lemmas.Str.{IsUtf8-append, IsUtf8-nil}
use Rattle.json.proofs.Printed.Utf8.{IsUtf8-are_ascii, IsUtf8-quoted}
use Rattle.serde_json.specs.Data.{Data, null, boolean, number, string, array, object, Items, no_items, item, Members, no_members, member}
use Rattle.cacao_json.specs.Profile.{IsFormed, AreFormed, AreFormedMembers}
use Rattle.cacao_text.specs.Canon.{string_text, in_order, after_commas, joined, member_text, canon, item_texts, named_texts}
use Rattle.cacao_text.proofs.Sorting.{Each, Each-in_order}
use Rattle.cacao_text.proofs.Escapes.{string_text-quoted}
use Rattle.cacao_text.proofs.Digits.{whole_text-marks, IsUtf8-marks}

one : (x : ℕ) (xs : List ℕ) → IsUtf8 (x ∷ []) → IsUtf8 xs → IsUtf8 (x ∷ xs)
one x xs h w = IsUtf8-append (x ∷ []) xs h w

utf8_string : (s : List ℕ) → IsUtf8 s → IsUtf8 (string_text s)
utf8_string s h = subst IsUtf8 (sym (string_text-quoted s)) (IsUtf8-quoted s h)

utf8_after : (ts : List (List ℕ)) → Each IsUtf8 ts → IsUtf8 (after_commas ts)
utf8_after [] w = IsUtf8-nil
utf8_after (t ∷ ts) w = one 44 _ (IsUtf8-are_ascii (44 ∷ []) refl) (IsUtf8-append t (after_commas ts) w.0 (utf8_after ts w.1))

utf8_joined : (ts : List (List ℕ)) → Each IsUtf8 ts → IsUtf8 (joined ts)
utf8_joined [] w = IsUtf8-nil
utf8_joined (t ∷ ts) w = IsUtf8-append t (after_commas ts) w.0 (utf8_after ts w.1)

-- a member's name and its text
abbrev AreUtf8 : List ℕ × List ℕ → Type 0
AreUtf8 m = IsUtf8 m.0 × IsUtf8 m.1

utf8_members : (ms : List (List ℕ × List ℕ)) → Each AreUtf8 ms → Each IsUtf8 (map member_text ms)
utf8_members [] w = tt
utf8_members (m ∷ ms) w = (IsUtf8-append (string_text m.0) (58 ∷ m.1) (utf8_string m.0 w.0.0) (one 58 m.1 (IsUtf8-are_ascii (58 ∷ []) refl) w.0.1), utf8_members ms w.1)

mutual
  pub IsUtf8-canon : (d : Data) → IsFormed d → IsUtf8 (canon d)
  IsUtf8-canon null h = IsUtf8-are_ascii (canon null) refl
  IsUtf8-canon (boolean true) h = IsUtf8-are_ascii (canon (boolean true)) refl
  IsUtf8-canon (boolean false) h = IsUtf8-are_ascii (canon (boolean false)) refl
  IsUtf8-canon (number n) h = IsUtf8-marks (canon (number n)) (whole_text-marks n h)
  IsUtf8-canon (string s) h = utf8_string s h
  IsUtf8-canon (array ds) h =
      one 91 _ (IsUtf8-are_ascii (91 ∷ []) refl) (IsUtf8-append (joined (item_texts ds)) (93 ∷ []) (utf8_joined (item_texts ds) (utf8_items ds h)) (IsUtf8-are_ascii (93 ∷ []) refl))
  IsUtf8-canon (object ms) h =
      let texts = in_order (λ m. m.0) (named_texts ms) in
      one 123 _ (IsUtf8-are_ascii (123 ∷ []) refl)
      (IsUtf8-append (joined (map member_text texts)) (125 ∷ []) (utf8_joined (map member_text texts) (utf8_members texts (Each-in_order AreUtf8 (λ m. m.0) (named_texts ms) (utf8_each ms h)))) (IsUtf8-are_ascii (125 ∷ []) refl))

  utf8_items : (ds : Items) → AreFormed ds → Each IsUtf8 (item_texts ds)
  utf8_items no_items h = tt
  utf8_items (item d ds) h = (IsUtf8-canon d h.0, utf8_items ds h.1)

  utf8_each : (ms : Members) → AreFormedMembers ms → Each AreUtf8 (named_texts ms)
  utf8_each no_members h = tt
  utf8_each (member k d ms) h = ((h.0, IsUtf8-canon d h.1), utf8_each ms h.3)
