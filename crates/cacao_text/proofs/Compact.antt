-- Canonical text is what the library's writer gives for the arranged data.
use Rattle.std.proofs.Common.{◌≡◌, ℕ, pos, negsuc, List, [], ◌∷◌, ◌++◌, true, false, map, refl, sym, ap, ◌∙◌, append_assoc}
use Rattle.serde_json.specs.Data.{Num, unsigned, negative, float, Data, null, boolean, number, string, array, object, Items, no_items, item, Members, no_members, member}
use Rattle.serde_json.specs.Written.{number_text, compact_text, items_text, members_text}
use Rattle.cacao_json.specs.Tree.{members_of}
use Rattle.cacao_text.specs.Canon.{whole_text, string_text, in_order, after_commas, joined, member_text, canon, item_texts, named_texts}
use Rattle.cacao_text.specs.Arranged.{arranged, arranged_items, arranged_pairs}
use Rattle.cacao_text.proofs.Sorting.{map-in_order}
use Rattle.cacao_text.proofs.Escapes.{string_text-quoted}

whole_text-number_text : (n : Num) → whole_text n ≡ number_text n
whole_text-number_text (unsigned n) = refl
whole_text-number_text (negative (pos n)) = refl
whole_text-number_text (negative (negsuc n)) = refl
whole_text-number_text (float x) = refl

abbrev named_text : List ℕ × Data → List ℕ × List ℕ
named_text m = (m.0, compact_text m.1)

later_members : (ms : List (List ℕ × Data)) → after_commas (map member_text (map named_text ms)) ++ 125 ∷ [] ≡ members_text true (members_of ms)
later_members [] = refl
later_members (m ∷ ms) =
    let rest = after_commas (map member_text (map named_text ms)) in
    ap (λ l. 44 ∷ l) (append_assoc (string_text m.0 ++ 58 ∷ compact_text m.1) rest (125 ∷ []) ∙ append_assoc (string_text m.0) (58 ∷ compact_text m.1) (rest ++ 125 ∷ [])
    ∙ ap (λ l. string_text m.0 ++ 58 ∷ (compact_text m.1 ++ l)) (later_members ms) ∙ ap (λ q. q ++ 58 ∷ (compact_text m.1 ++ members_text true (members_of ms))) (string_text-quoted m.0))

all_members : (ms : List (List ℕ × Data)) → joined (map member_text (map named_text ms)) ++ 125 ∷ [] ≡ members_text false (members_of ms)
all_members [] = refl
all_members (m ∷ ms) =
    let rest = after_commas (map member_text (map named_text ms)) in
    append_assoc (string_text m.0 ++ 58 ∷ compact_text m.1) rest (125 ∷ []) ∙ append_assoc (string_text m.0) (58 ∷ compact_text m.1) (rest ++ 125 ∷ [])
    ∙ ap (λ l. string_text m.0 ++ 58 ∷ (compact_text m.1 ++ l)) (later_members ms) ∙ ap (λ q. q ++ 58 ∷ (compact_text m.1 ++ members_text true (members_of ms))) (string_text-quoted m.0)

mutual
  pub canon-compact_text : (d : Data) → canon d ≡ compact_text (arranged d)
  canon-compact_text null = refl
  canon-compact_text (boolean true) = refl
  canon-compact_text (boolean false) = refl
  canon-compact_text (number n) = whole_text-number_text n
  canon-compact_text (string s) = string_text-quoted s
  canon-compact_text (array ds) = ap (λ l. 91 ∷ l) (all_items ds)
  canon-compact_text (object ms) =
      let name = λ (m : List ℕ × List ℕ). m.0 in
      ap (λ ts. 123 ∷ (joined (map member_text ts) ++ 125 ∷ [])) (ap (in_order name) (pairs_texts ms) ∙ sym (map-in_order named_text name (arranged_pairs ms)))
      ∙ ap (λ l. 123 ∷ l) (all_members (in_order (λ m. m.0) (arranged_pairs ms)))

  later_items : (ds : Items) → after_commas (item_texts ds) ++ 93 ∷ [] ≡ items_text true (arranged_items ds)
  later_items no_items = refl
  later_items (item d ds) =
      ap (λ l. 44 ∷ l) (append_assoc (canon d) (after_commas (item_texts ds)) (93 ∷ []) ∙ ap (λ l. canon d ++ l) (later_items ds) ∙ ap (λ t. t ++ items_text true (arranged_items ds)) (canon-compact_text d))

  all_items : (ds : Items) → joined (item_texts ds) ++ 93 ∷ [] ≡ items_text false (arranged_items ds)
  all_items no_items = refl
  all_items (item d ds) = append_assoc (canon d) (after_commas (item_texts ds)) (93 ∷ []) ∙ ap (λ l. canon d ++ l) (later_items ds) ∙ ap (λ t. t ++ items_text true (arranged_items ds)) (canon-compact_text d)

  pairs_texts : (ms : Members) → named_texts ms ≡ map named_text (arranged_pairs ms)
  pairs_texts no_members = refl
  pairs_texts (member k d ms) = ap (λ t. (k, t) ∷ named_texts ms) (canon-compact_text d) ∙ ap (λ l. (k, compact_text (arranged d)) ∷ l) (pairs_texts ms)
