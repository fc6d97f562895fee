-- The data of items and of members, one at a time.
use Rattle.std.proofs.Common.{◌≡◌, ℕ, zero, suc, ◌+◌, ◌<◌, List, [], ◌∷◌, ◌++◌, length, take, get_or, map, string_bytes, refl, sym, ap, subst, add-one, arith, ◌≤◌}
use Rattle.std.proofs.lemmas.List.{map-append}
use Rattle.serde_json.specs.Data.{Data, Items, Members, item, member}
use Rattle.serde_json.specs.declared.value.Value.{Value}
use Rattle.serde_json.specs.View.{view, items_view, members_view}
use Rattle.serde_json.proofs.Views.{Entry}
use Rattle.cacao_json.specs.declared.tree.Tree.{Tree}
use Rattle.cacao_json.specs.declared.tree.Pair.{Pair}
use Rattle.cacao_json.specs.Tree.{data_of, items_of, pair_data, members_of, item_last}
use Rattle.cacao_json.specs.Profile.{IsSorted, AreSorted}
use Rattle.cacao_json.specs.Size.{size, items_size, members_size}

abbrev pub entry_data : Entry → List ℕ × Data
entry_data e = (string_bytes e.0, view e.1)

pub members_of-entries : (es : List Entry) → members_of (map entry_data es) ≡ members_view es
members_of-entries [] = refl
members_of-entries (e ∷ es) = ap (member (string_bytes e.0) (view e.1)) (members_of-entries es)

pub pairs_push : (ps qs : List Pair) (p : Pair) (done : List Entry) (e : Entry) → qs ≡ ps ++ p ∷ [] → map pair_data ps ≡ map entry_data done → pair_data p ≡ entry_data e → map pair_data qs ≡ map entry_data (done ++ e ∷ [])
pairs_push ps qs p done e q m s = simp (q, map-append, m, s) refl

pub items_push : (ts us : List Tree) (t : Tree) (done : List Value) (v : Value) → us ≡ ts ++ t ∷ [] → map data_of ts ≡ map view done → data_of t ≡ view v → map data_of us ≡ map view (done ++ v ∷ [])
items_push ts us t done v q m s = simp (q, map-append, m, s) refl

pub items_of-views : (vs : List Value) → items_of (map view vs) ≡ items_view vs
items_of-views [] = refl
items_of-views (v ∷ vs) = ap (item (view v)) (items_of-views vs)

pub none_of_length : (vs : List Value) → length vs ≡ 0 → vs ≡ []
none_of_length [] e = refl
none_of_length (v ∷ vs) e = absurd (omega arith)

-- ---- items that are sorted one by one

abbrev pub data_items : List Tree → Items
data_items ts = items_of (map data_of ts)

pub sorted_none : (ts : List Tree) → AreSorted (data_items (take 0 ts))
sorted_none [] = tt
sorted_none (t ∷ ts) = tt

sorted_suc : (ts : List Tree) (i : ℕ) (d : Tree) → i < length ts → AreSorted (data_items (take i ts)) → IsSorted (data_of (get_or ts i d)) → AreSorted (data_items (take (suc i) ts))
sorted_suc [] i d h w v = absurd (omega arith)
sorted_suc (t ∷ ts) zero d h w v = (v, sorted_none ts)
sorted_suc (t ∷ ts) (suc i) d h w v = (w.0, sorted_suc ts i d (omega arith) w.1 v)

pub sorted_step : (ts : List Tree) (i : ℕ) (d : Tree) → i < length ts → AreSorted (data_items (take i ts)) → IsSorted (data_of (get_or ts i d)) → AreSorted (data_items (take (i + 1) ts))
sorted_step ts i d h w v = subst (λ n. AreSorted (data_items (take n ts))) (sym (add-one i)) (sorted_suc ts i d h w v)

pub sorted_all : (ts : List Tree) (i : ℕ) → length ts ≤ i → AreSorted (data_items (take i ts)) → AreSorted (data_items ts)
sorted_all [] i h w = tt
sorted_all (t ∷ ts) zero h w = absurd (omega arith)
sorted_all (t ∷ ts) (suc i) h w = (w.0, sorted_all ts i (omega arith) w.1)

pub sorted_last : (ts : List Tree) (t : Tree) → AreSorted (data_items ts) → IsSorted (data_of t) → AreSorted (data_items (ts ++ t ∷ []))
sorted_last [] t w v = (v, tt)
sorted_last (u ∷ ts) t w v = (w.0, sorted_last ts t w.1 v)

pub item_last-append : (ts : List Tree) (t : Tree) → data_items (ts ++ t ∷ []) ≡ item_last (data_items ts) (data_of t)
item_last-append [] t = refl
item_last-append (u ∷ ts) t = ap (item (data_of u)) (item_last-append ts t)

-- ---- parts are smaller

pub item_within : (ts : List Tree) (i : ℕ) (t : Tree) → i < length ts → t ≡ get_or ts i t → size (data_of t) < items_size (data_items ts)
item_within [] i t h e = absurd (omega arith)
item_within (u ∷ ts) zero t h e = omega (arith, ap (λ x. size (data_of x)) e)
item_within (u ∷ ts) (suc i) t h e = omega (arith, item_within ts i t (omega arith) e)

abbrev pub pair_members : List Pair → Members
pair_members ps = members_of (map pair_data ps)

pub pair_within : (ps : List Pair) (i : ℕ) (p : Pair) → i < length ps → p ≡ get_or ps i p → size (data_of p.tree) < members_size (pair_members ps)
pair_within [] i p h e = absurd (omega arith)
pair_within (q ∷ ps) zero p h e = omega (arith, ap (λ x. size (data_of x.tree)) e)
pair_within (q ∷ ps) (suc i) p h e = omega (arith, pair_within ps i p (omega arith) e)
