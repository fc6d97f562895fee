-- What loops add to a writer.
use Rattle.std.proofs.Common.{◌≡◌, ℕ, ◌+◌, ◌<◌, List, [], ◌∷◌, ◌++◌, length, drop, ◌≤◌, get_or, map, Bool, refl, sym, ap, subst, ◌∙◌, append_assoc, append-nil}
use Rattle.std.specs.Prelude.{flat_map}
use Rattle.std.proofs.lemmas.List.{at_drop_more, drop_all}
use Rattle.json.specs.Token.{Token}
use Rattle.json.specs.Tree.{items_tokens, members_tokens}
use Rattle.serde_json.specs.Data.{Data}
use Rattle.serde_json.specs.Written.{items_outline, members_outline}
use Rattle.cacao_json.specs.declared.tree.Tree.{Tree}
use Rattle.cacao_json.specs.declared.tree.Pair.{Pair}
use Rattle.cacao_json.specs.Tree.{data_of, items_of, members_of}
use Rattle.std.specs.Prelude.{Result, Ok, Err, OnOk}
use Rattle.json.specs.Written.{Written, Writes}
use Rattle.serde_json.specs.Data.{Members, array, object}
use Rattle.cacao_json.specs.Tree.{pair_data}
use Rattle.cacao_text.specs.Canon.{in_order}
use Rattle.cacao_text.specs.Arranged.{arranged_pairs, arranged_items, arranged_pair, value_tokens, sorted_tokens, member_tokens, tree_tokens, pair_tokens, place_tokens, pair_at, name_at, kept_places, AreInOrder, Adds}
use Rattle.cacao_text.proofs.Sorting.{in_order-same}
use Rattle.cacao_text.proofs.Placed.{kept, pair_at-drop, map-sorted_places, arranged_pairs-members_of}

-- one turn adds what G gives for its element
pub step : {X : Type 0} (G : X → List Token) (old new whole : List Token) (xs : List X) (i : ℕ) (x : X) → i < length xs → x ≡ get_or xs i x → new ≡ old ++ G x
    → old ++ flat_map G (drop i xs) ≡ whole → new ++ flat_map G (drop (i + 1) xs) ≡ whole
step G old new whole xs i x below at more w =
    let rest = flat_map G (drop (i + 1) xs) in
    ap (λ ts. ts ++ rest) more ∙ append_assoc old (G x) rest ∙ ap (λ y. old ++ (G y ++ rest)) at ∙ ap (λ ts. old ++ ts) (sym (at_drop_more (flat_map G) xs i x below)) ∙ w

pub items_tokens-trees : (ts : List Tree) → items_tokens (items_outline (arranged_items (items_of (map data_of ts)))) ≡ flat_map tree_tokens ts ++ Token.end_array ∷ []
items_tokens-trees [] = refl
items_tokens-trees (t ∷ ts) = ap (λ l. tree_tokens t ++ l) (items_tokens-trees ts) ∙ sym (append_assoc (tree_tokens t) (flat_map tree_tokens ts) (Token.end_array ∷ []))

pub members_tokens-of : (ms : List (List ℕ × Data)) → members_tokens (members_outline (members_of ms)) ≡ flat_map member_tokens ms ++ Token.end_object ∷ []
members_tokens-of [] = refl
members_tokens-of (m ∷ ms) = ap (λ l. member_tokens m ++ l) (members_tokens-of ms) ∙ sym (append_assoc (member_tokens m) (flat_map member_tokens ms) (Token.end_object ∷ []))

pub pairs_tokens : (ps : List Pair) → flat_map pair_tokens ps ≡ flat_map member_tokens (map arranged_pair ps)
pairs_tokens [] = refl
pairs_tokens (p ∷ ps) = ap (λ l. pair_tokens p ++ l) (pairs_tokens ps)

pub places_tokens : (ps : List Pair) (is : List ℕ) → flat_map (place_tokens ps) is ≡ flat_map member_tokens (map (pair_at ps) is)
places_tokens ps [] = refl
places_tokens ps (i ∷ is) = ap (λ l. place_tokens ps i ++ l) (places_tokens ps is)

pub object_tokens : (ms : Members) → value_tokens (object ms) ≡ Token.begin_object ∷ (sorted_tokens ms ++ Token.end_object ∷ [])
object_tokens ms = ap (λ l. Token.begin_object ∷ l) (members_tokens-of (in_order (λ m. m.0) (arranged_pairs ms)))

pub array_tokens : (ts : List Tree) → value_tokens (array (items_of (map data_of ts))) ≡ Token.begin_array ∷ (flat_map tree_tokens ts ++ Token.end_array ∷ [])
array_tokens ts = ap (λ l. Token.begin_array ∷ l) (items_tokens-trees ts)

same_names : (ps : List Pair) → map (λ (m : List ℕ × Data). m.0) (map arranged_pair ps) ≡ map (λ p. (pair_data p).0) ps
same_names [] = refl
same_names (p ∷ ps) = ap (λ l. (pair_data p).0 ∷ l) (same_names ps)

-- pairs whose names stand in order are written as they stand
pub sorted_tokens-in_order : (ps : List Pair) → AreInOrder (map (λ p. (pair_data p).0) ps) → flat_map pair_tokens ps ≡ sorted_tokens (members_of (map pair_data ps))
sorted_tokens-in_order ps h =
    pairs_tokens ps ∙ ap (flat_map member_tokens) (sym (in_order-same (λ m. m.0) (map arranged_pair ps) (subst AreInOrder (sym (same_names ps)) h)) ∙ ap (in_order (λ m. m.0)) (sym (arranged_pairs-members_of ps)))

-- the others by their places
pub sorted_tokens-places : (unsigned : Bool) (ps : List Pair) → flat_map (place_tokens ps) (in_order (name_at ps) (kept_places unsigned 0 ps)) ≡ sorted_tokens (members_of (map pair_data (kept unsigned ps)))
sorted_tokens-places unsigned ps =
    places_tokens ps (in_order (name_at ps) (kept_places unsigned 0 ps)) ∙ ap (flat_map member_tokens) (map-sorted_places unsigned ps ∙ ap (in_order (λ m. m.0)) (sym (arranged_pairs-members_of (kept unsigned ps))))

-- ---- additions one after another

pub adds_then : (a b c : Written) (ts us : List Token) → Adds a b ts → Adds b c us → Adds a c (ts ++ us)
adds_then a b c ts us f g = (g.0 ∙ f.0, g.1 ∙ ap (λ l. l ++ us) f.1 ∙ append_assoc a.tokens ts us)

pub adds_last : {E : Type 0} (r : Result (Unit {0}) E) (a b c : Written) (ts whole : List Token) (t : Token) → Adds a b ts → Writes r b c t → whole ≡ ts ++ t ∷ [] → OnOk r (Adds a c whole)
adds_last (Ok u) a b c ts whole t f w e = (w.room.0 ∙ f.0, w.ok ∙ ap (λ l. l ++ t ∷ []) f.1 ∙ append_assoc a.tokens ts (t ∷ []) ∙ ap (λ l. a.tokens ++ l) (sym e))
adds_last (Err x) a b c ts whole t f w e = tt

-- a loop that has come to its end
pub looped : {X : Type 0} (G : X → List Token) (old new : List Token) (xs : List X) (i : ℕ) → length xs ≤ i → new ++ flat_map G (drop i xs) ≡ old ++ flat_map G xs → new ≡ old ++ flat_map G xs
looped G old new xs i past w = sym (append-nil new) ∙ ap (λ l. new ++ flat_map G l) (sym (drop_all i xs past)) ∙ w

-- a turn of a loop over places
pub step_place : (ps : List Pair) (old new whole : List Token) (js : List ℕ) (i : ℕ) (p : Pair) → i < length js → get_or js i 0 < length ps → p ≡ get_or ps (get_or js i 0) p → new ≡ old ++ pair_tokens p
    → old ++ flat_map (place_tokens ps) (drop i js) ≡ whole → new ++ flat_map (place_tokens ps) (drop (i + 1) js) ≡ whole
step_place ps old new whole js i p below within at more w =
    let j = get_or js i 0 in
    let rest = flat_map (place_tokens ps) (drop (i + 1) js) in
    let here : pair_at ps j ≡ arranged_pair p = pair_at-drop ps j p (drop (j + 1) ps) (at_drop_more (λ qs. qs) ps j p within ∙ ap (λ q. q ∷ drop (j + 1) ps) (sym at)) in
    ap (λ ts. ts ++ rest) more ∙ append_assoc old (pair_tokens p) rest ∙ ap (λ m. old ++ (member_tokens m ++ rest)) (sym here) ∙ ap (λ ts. old ++ ts) (sym (at_drop_more (flat_map (place_tokens ps)) js i 0 below)) ∙ w
