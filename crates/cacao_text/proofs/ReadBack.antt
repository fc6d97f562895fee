-- `serde_json` reads canonical text back.
use Rattle.std.proofs.Common.{◌≡◌, ℕ, ◌+◌, ◌≤◌, pos, negsuc, List, [], ◌∷◌, true, Option, Some, map, refl, sym, ap, ◌∙◌, append-nil, arith}
use Rattle.std.specs.Prelude.{option_and_then, option_map}
use Rattle.std.proofs.lemmas.Bool.{leb-true}
use Rattle.json.specs.Token.{Token}
use Rattle.json.specs.Lex.{tokens}
use Rattle.json.specs.Json as json
use Rattle.json.specs.Tree as tree
use Rattle.json.specs.Tree.{json_tokens, HasNumbers, ItemsHaveNumbers, MembersHaveNumbers}
use Rattle.json.specs.Print.{IsNumber}
use Rattle.json.proofs.Printed.Decimals.{IsNumber-decimal, IsNumber-signed_decimal}
use Rattle.json.proofs.Printed.Tokens.{tokens-print}
use Rattle.json.proofs.Printed.Trees.{value-json_tokens, ArePrintable-json_tokens}
use Rattle.serde_json.specs.Data.{Num, unsigned, negative, float, Data, null, boolean, number, string, array, object, Items, no_items, item, Members, no_members, member, put, depth, items_depth, members_depth}
use Rattle.serde_json.specs.Read.{read, number_of, of_json, of_items, of_members, max_depth}
use Rattle.serde_json.specs.Written.{number_text, outline, items_outline, members_outline, compact_text}
use Rattle.serde_json.proofs.Numbers.{number_of-decimal, number_of-negative}
use Rattle.serde_json.proofs.Texts.{print-outline}
use Rattle.cacao_json.specs.Counts.{is_whole}
use Rattle.cacao_json.specs.Profile.{IsFormed, AreFormed, AreFormedMembers, IsTree}
use Rattle.cacao_json.specs.Tree.{members_of}
use Rattle.cacao_text.specs.Canon.{in_order, canon}
use Rattle.cacao_text.specs.Arranged.{arranged, arranged_items, arranged_pairs}
use Rattle.cacao_text.proofs.Sorting.{map-in_order, Each, Each-in_order}
use Rattle.cacao_text.proofs.Compact.{canon-compact_text}
use Rattle.cacao_text.proofs.Puts.{Named, pairs_of, put_all, AreRising, put_all-in_order}

abbrev whole : Option (json.Json × List Token) → Option Data
whole o = option_and_then of_json (option_and_then (λ p. json.if_last p.0 p.1) o)

-- the text reads as what its JSON says
read_compact : (d : Data) → HasNumbers (outline d) → tree.depth (outline d) ≤ max_depth → read (compact_text d) ≡ of_json (outline d)
read_compact d numbers shallow =
    let j = outline d in
    ap (λ ts. whole (json.value max_depth ts)) (ap tokens (sym (print-outline d)) ∙ tokens-print (json_tokens j) (ArePrintable-json_tokens j numbers) ∙ sym (append-nil (json_tokens j)))
    ∙ ap whole (value-json_tokens j max_depth [] shallow)

-- ---- numbers

kept_back : (n : Num) → is_whole n ≡ true → number_of (number_text n) ≡ Some n
kept_back (unsigned n) h = number_of-decimal n (omega (arith, leb-true n 9007199254740991 h))
kept_back (negative (pos n)) h = absurd (cc)
kept_back (negative (negsuc n)) h = number_of-negative n (omega (arith, leb-true (n + 1) 9007199254740991 h))
kept_back (float x) h = absurd (cc)

kept_text : (n : Num) → is_whole n ≡ true → IsNumber (number_text n)
kept_text (unsigned n) h = IsNumber-decimal n (omega (arith, leb-true n 9007199254740991 h))
kept_text (negative (pos n)) h = absurd (cc)
kept_text (negative (negsuc n)) h = IsNumber-signed_decimal (negsuc n) (omega (arith, leb-true (n + 1) 9007199254740991 h))
kept_text (float x) h = absurd (cc)

-- ---- the arranged members are the pairs with their values arranged

abbrev arrange : Named → Named
arrange m = (m.0, arranged m.1)

arranged_pairs-pairs_of : (ms : Members) → arranged_pairs ms ≡ map arrange (pairs_of ms)
arranged_pairs-pairs_of no_members = refl
arranged_pairs-pairs_of (member k d ms) = ap (λ l. (k, arranged d) ∷ l) (arranged_pairs-pairs_of ms)

sorted-pairs_of : (ms : Members) → in_order (λ (m : Named). m.0) (arranged_pairs ms) ≡ map arrange (in_order (λ (m : Named). m.0) (pairs_of ms))
sorted-pairs_of ms = ap (in_order (λ (m : Named). m.0)) (arranged_pairs-pairs_of ms) ∙ sym (map-in_order arrange (λ (m : Named). m.0) (pairs_of ms))

rising : (ms : Members) → AreFormedMembers ms → AreRising ms
rising no_members h = tt
rising (member k d ms) h = (h.2, rising ms h.3)

-- ---- what is read

abbrev IsBack : Named → Type 0
IsBack m = of_json (outline (arranged m.1)) ≡ Some m.1

back_pairs : (ms : List Named) (found : Members) → Each IsBack ms → of_members (members_outline (members_of (map arrange ms))) found ≡ Some (put_all ms found)
back_pairs [] found w = refl
back_pairs (m ∷ ms) found w = ap (option_and_then (λ d. of_members (members_outline (members_of (map arrange ms))) (put m.0 d found))) w.0 ∙ back_pairs ms (put m.0 m.1 found) w.1

mutual
  back : (d : Data) → IsFormed d → of_json (outline (arranged d)) ≡ Some d
  back null h = refl
  back (boolean b) h = refl
  back (number n) h = ap (option_map number) (kept_back n h)
  back (string s) h = refl
  back (array ds) h = ap (option_map array) (back_items ds h)
  back (object ms) h =
      let sorted = in_order (λ (m : Named). m.0) (pairs_of ms) in
      ap (λ l. option_map object (of_members (members_outline (members_of l)) no_members)) (sorted-pairs_of ms)
      ∙ ap (option_map object) (back_pairs sorted no_members (Each-in_order IsBack (λ m. m.0) (pairs_of ms) (back_each ms h)) ∙ ap Some (put_all-in_order ms (rising ms h)))

  back_items : (ds : Items) → AreFormed ds → of_items (items_outline (arranged_items ds)) ≡ Some ds
  back_items no_items h = refl
  back_items (item d ds) h = ap (option_and_then (λ x. option_map (item x) (of_items (items_outline (arranged_items ds))))) (back d h.0) ∙ ap (option_map (item d)) (back_items ds h.1)

  back_each : (ms : Members) → AreFormedMembers ms → Each IsBack (pairs_of ms)
  back_each no_members h = tt
  back_each (member k d ms) h = (back d h.1, back_each ms h.3)

-- ---- numbers are numbers of JSON

abbrev HasGood : Named → Type 0
HasGood m = HasNumbers (outline m.1)

good_members : (ms : List Named) → Each HasGood ms → MembersHaveNumbers (members_outline (members_of ms))
good_members [] w = tt
good_members (m ∷ ms) w = (w.0, good_members ms w.1)

mutual
  good : (d : Data) → IsFormed d → HasNumbers (outline (arranged d))
  good null h = tt
  good (boolean b) h = tt
  good (number n) h = kept_text n h
  good (string s) h = tt
  good (array ds) h = good_items ds h
  good (object ms) h = good_members (in_order (λ (m : Named). m.0) (arranged_pairs ms)) (Each-in_order HasGood (λ m. m.0) (arranged_pairs ms) (good_each ms h))

  good_items : (ds : Items) → AreFormed ds → ItemsHaveNumbers (items_outline (arranged_items ds))
  good_items no_items h = tt
  good_items (item d ds) h = (good d h.0, good_items ds h.1)

  good_each : (ms : Members) → AreFormedMembers ms → Each HasGood (arranged_pairs ms)
  good_each no_members h = tt
  good_each (member k d ms) h = (good d h.1, good_each ms h.3)

-- ---- levels

shallow_members : (n : ℕ) (ms : List Named) → Each (λ m. tree.depth (outline m.1) ≤ n) ms → tree.members_depth (members_outline (members_of ms)) ≤ n
shallow_members n [] w = omega arith
shallow_members n (m ∷ ms) w = omega (arith, w.0, shallow_members n ms w.1)

mutual
  shallow : (d : Data) (n : ℕ) → depth d ≤ n → tree.depth (outline (arranged d)) ≤ n
  shallow null n h = omega arith
  shallow (boolean b) n h = omega arith
  shallow (number m) n h = omega arith
  shallow (string s) n h = omega arith
  shallow (array ds) n h = omega (arith, shallow_items ds (items_depth ds) (omega arith))
  shallow (object ms) n h =
      let k = members_depth ms in
      omega (arith, shallow_members k (in_order (λ (m : Named). m.0) (arranged_pairs ms)) (Each-in_order (λ (m : Named). tree.depth (outline m.1) ≤ k) (λ m. m.0) (arranged_pairs ms) (shallow_each ms k (omega arith))))

  shallow_items : (ds : Items) (n : ℕ) → items_depth ds ≤ n → tree.items_depth (items_outline (arranged_items ds)) ≤ n
  shallow_items no_items n h = omega arith
  shallow_items (item d ds) n h = omega (arith, shallow d n (omega arith), shallow_items ds n (omega arith))

  shallow_each : (ms : Members) (n : ℕ) → members_depth ms ≤ n → Each (λ (m : Named). tree.depth (outline m.1) ≤ n) (arranged_pairs ms)
  shallow_each no_members n h = tt
  shallow_each (member k d ms) n h = (shallow d n (omega arith), shallow_each ms n (omega arith))

pub read-canon : (d : Data) → IsTree d → read (canon d) ≡ Some d
read-canon d w = ap read (canon-compact_text d) ∙ read_compact (arranged d) (good d w.formed) (shallow d max_depth w.shallow) ∙ back d w.formed
