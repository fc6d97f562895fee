-- Places of members, and the members at them.
use Rattle.std.proofs.Common.{◌≡◌, ℕ, zero, suc, ◌+◌, ◌<◌, ◌≤◌, List, [], ◌∷◌, length, drop, Bool, true, false, not, map, Some, refl, sym, ap, ◌∙◌, arith}
use Rattle.std.specs.Prelude.{slice_get, option_map, unwrap_or, codes, All, if◌then◌else◌}
use Rattle.std.specs.Str.{bytes_eq}
use Rattle.std.proofs.lemmas.List.{drop-drop}
use Rattle.std.proofs.lemmas.List.Elements.{All-nil, All-cons}
use Rattle.serde_json.specs.Data.{null, Members, member}
use Rattle.cacao_json.specs.declared.tree.Pair.{Pair}
use Rattle.cacao_json.specs.Tree.{pair_data, members_of}
use Rattle.cacao_json.specs.Tree.{without}
use Rattle.cacao_text.specs.Canon.{in_order}
use Rattle.cacao_text.specs.Arranged.{arranged_pairs, arranged_pair, pair_at, name_at, is_kept, kept_places}
use Rattle.cacao_text.proofs.Sorting.{map-in_order, Each, Each-in_order}

map_if : {A B : Type 0} (f : A → B) (b : Bool) (xs ys : List A) → map f (if b then xs else ys) ≡ (if b then map f xs else map f ys)
map_if f true xs ys = refl
map_if f false xs ys = refl

-- the pairs that stay
abbrev pub kept : Bool → List Pair → List Pair
kept unsigned [] = []
kept unsigned (p ∷ ps) = if is_kept unsigned (pair_data p).0 then p ∷ kept unsigned ps else kept unsigned ps

slice_get-drop : (all : List Pair) (i : ℕ) (p : Pair) (ps : List Pair) → drop i all ≡ p ∷ ps → slice_get all i ≡ Some p
slice_get-drop [] zero p ps e = absurd (cc)
slice_get-drop [] (suc i) p ps e = absurd (cc)
slice_get-drop (x ∷ all) zero p ps e = cc
slice_get-drop (x ∷ all) (suc i) p ps e = slice_get-drop all i p ps e

pub pair_at-drop : (all : List Pair) (i : ℕ) (p : Pair) (ps : List Pair) → drop i all ≡ p ∷ ps → pair_at all i ≡ arranged_pair p
pair_at-drop all i p ps e = ap (λ o. unwrap_or (option_map arranged_pair o) ([], null)) (slice_get-drop all i p ps e)

pub drop_next : {X : Type 0} (all : List X) (i : ℕ) (p : X) (ps : List X) → drop i all ≡ p ∷ ps → drop (i + 1) all ≡ ps
drop_next all i p ps e = sym (drop-drop 1 i all) ∙ ap (drop 1) e

map-pair_at : (unsigned : Bool) (all : List Pair) (i : ℕ) (ps : List Pair) → drop i all ≡ ps → map (pair_at all) (kept_places unsigned i ps) ≡ map arranged_pair (kept unsigned ps)
map-pair_at unsigned all i [] e = refl
map-pair_at unsigned all i (p ∷ ps) e =
    let b = is_kept unsigned (pair_data p).0 in
    let later = kept_places unsigned (i + 1) ps in
    map_if (pair_at all) b (i ∷ later) later ∙ ap (λ x. if b then x ∷ map (pair_at all) later else map (pair_at all) later) (pair_at-drop all i p ps e)
    ∙ ap (λ l. if b then arranged_pair p ∷ l else l) (map-pair_at unsigned all (i + 1) ps (drop_next all i p ps e)) ∙ sym (map_if arranged_pair b (p ∷ kept unsigned ps) (kept unsigned ps))

-- the members at the sorted places are the sorted members
pub map-sorted_places : (unsigned : Bool) (ps : List Pair) → map (pair_at ps) (in_order (name_at ps) (kept_places unsigned 0 ps)) ≡ in_order (λ m. m.0) (map arranged_pair (kept unsigned ps))
map-sorted_places unsigned ps = map-in_order (pair_at ps) (λ m. m.0) (kept_places unsigned 0 ps) ∙ ap (in_order (λ m. m.0)) (map-pair_at unsigned ps 0 ps refl)

pub kept-all : (ps : List Pair) → kept false ps ≡ ps
kept-all [] = refl
kept-all (p ∷ ps) = ap (λ l. p ∷ l) (kept-all ps)

without_by : (b : Bool) (p : Pair) (ps : List Pair) (rest : Members) → members_of (map pair_data ps) ≡ rest → members_of (map pair_data (if not b then p ∷ ps else ps)) ≡ (if b then rest else member (pair_data p).0 (pair_data p).1 rest)
without_by true p ps rest e = e
without_by false p ps rest e = ap (member (pair_data p).0 (pair_data p).1) e

pub members_of-kept : (ps : List Pair) → members_of (map pair_data (kept true ps)) ≡ without (codes "signatures") (members_of (map pair_data ps))
members_of-kept [] = refl
members_of-kept (p ∷ ps) = without_by (bytes_eq (codes "signatures") (pair_data p).0) p (kept true ps) (without (codes "signatures") (members_of (map pair_data ps))) (members_of-kept ps)

pub arranged_pairs-members_of : (ps : List Pair) → arranged_pairs (members_of (map pair_data ps)) ≡ map arranged_pair ps
arranged_pairs-members_of [] = refl
arranged_pairs-members_of (p ∷ ps) = ap (λ l. arranged_pair p ∷ l) (arranged_pairs-members_of ps)

-- ---- places are within

each_if : (n : ℕ) (b : Bool) (xs ys : List ℕ) → Each (λ j. j < n) xs → Each (λ j. j < n) ys → Each (λ j. j < n) (if b then xs else ys)
each_if n true xs ys v w = v
each_if n false xs ys v w = w

places_within : (unsigned : Bool) (i : ℕ) (ps : List Pair) (n : ℕ) → i + length ps ≤ n → Each (λ j. j < n) (kept_places unsigned i ps)
places_within unsigned i [] n h = tt
places_within unsigned i (p ∷ ps) n h =
    let later = places_within unsigned (i + 1) ps n (omega arith) in
    each_if n (is_kept unsigned (pair_data p).0) (i ∷ kept_places unsigned (i + 1) ps) (kept_places unsigned (i + 1) ps) (omega arith, later) later

all_from_each : (P : ℕ → Type 0) (xs : List ℕ) → Each P xs → All P xs
all_from_each P [] w = All-nil P
all_from_each P (x ∷ xs) w = All-cons P x xs w.0 (all_from_each P xs w.1)

pub sorted_places_within : (unsigned : Bool) (ps : List Pair) → All (λ i. i < length ps) (in_order (name_at ps) (kept_places unsigned 0 ps))
sorted_places_within unsigned ps =
    all_from_each (λ i. i < length ps) (in_order (name_at ps) (kept_places unsigned 0 ps))
    (Each-in_order (λ i. i < length ps) (name_at ps) (kept_places unsigned 0 ps) (places_within unsigned 0 ps (length ps) (omega arith)))
