-- Steps of reading tokens straight into a tree.
use Rattle.std.proofs.Common.{◌≡◌, ℕ, zero, suc, ◌+◌, ◌≤◌, List, [], ◌∷◌, ◌++◌, length, map, Bool, true, false, cond, Option, Some, None, Ordering, Less, Equal, Greater, nat_cmp, is_eq, IsUtf8, refl, ap, ◌∙◌, arith}
use Rattle.std.specs.List.{insert}
use Rattle.std.specs.Ordering.{match_ordering, ordering_reverse}
use Rattle.std.specs.Cmp.Lexicographic.{slice_cmp}
use Rattle.std.specs.BTreeMap.{insert_entry, is_at}
use Rattle.std.specs.Map.{lookup}
use Rattle.std.proofs.lemmas.Cmp.{nat_list_cmp_total}
use Rattle.std.proofs.lemmas.List.{map-append}
use Rattle.std.proofs.lemmas.Str.{is_utf8-from_IsUtf8}
use Rattle.std.specs.Prelude.{if◌then◌else◌, is_some}
use Rattle.std.specs.Str.{is_utf8}
use Rattle.json.specs.Token.{Token}
use Rattle.json.specs.Lex.{tokens}
use Rattle.json.specs.Json.{parse_map}
use Rattle.serde_json.specs.Data.{Data, Items, no_items, item, Members, member, put}
use Rattle.serde_json.specs.Read.{read}
use Rattle.cacao_json.specs.declared.tree.Tree.{Tree}
use Rattle.cacao_json.specs.declared.tree.Pair.{Pair}
use Rattle.cacao_json_counts.specs.Counts.{members, members_of_items, members_of_pairs}
use Rattle.cacao_json.specs.Profile.{IsBelow, AreSortedMembers, IsFormed, AreFormed}
use Rattle.cacao_json.specs.Reading.{tree}
use Rattle.cacao_json.specs.Straight.{keys_in, entries_data}
use Rattle.cacao_json.specs.Tree.{data_of, pair_data, pairs_data}
use Rattle.cacao_json.proofs.ExactColons.{colons-keys}
use Rattle.cacao_json.proofs.Profiles.{formed_whole}
use Rattle.cacao_json.proofs.Readings.{tree-from_reading}
use Rattle.cacao_json.proofs.Trees.{data_items}
use Rattle.cacao_json.proofs.Walk.{tokens-read}

abbrev compare : List ℕ → List ℕ → Ordering
compare k l = slice_cmp nat_cmp k l

-- ---- items that are pushed

-- the trees, and then the rest
abbrev pub trees_before : List Tree → Items → Items
trees_before [] rest = rest
trees_before (t ∷ ts) rest = item (data_of t) (trees_before ts rest)

pub trees_before-no_items : (ts : List Tree) → trees_before ts no_items ≡ data_items ts
trees_before-no_items [] = refl
trees_before-no_items (t ∷ ts) = ap (item (data_of t)) (trees_before-no_items ts)

trees_push : (ts : List Tree) (t : Tree) (rest : Items) → trees_before ts (item (data_of t) rest) ≡ trees_before (ts ++ t ∷ []) rest
trees_push [] t rest = refl
trees_push (u ∷ ts) t rest = ap (item (data_of u)) (trees_push ts t rest)

pub one_more_tree : (ts : List Tree) (t : Tree) (r : Option (Items × List Token)) → parse_map (trees_before ts) (parse_map (item (data_of t)) r) ≡ parse_map (trees_before (ts ++ t ∷ [])) r
one_more_tree ts t None = refl
one_more_tree ts t (Some p) = ap (λ ds. Some (ds, p.1)) (trees_push ts t p.0)

pub counted_last : (ts : List Tree) (t : Tree) → members_of_items (data_items (ts ++ t ∷ [])) ≡ members_of_items (data_items ts) + members (data_of t)
counted_last [] t = omega arith
counted_last (u ∷ ts) t = omega (arith, counted_last ts t)

pub formed_last_tree : (ts : List Tree) (t : Tree) → AreFormed (data_items ts) → IsFormed (data_of t) → AreFormed (data_items (ts ++ t ∷ []))
formed_last_tree [] t w v = (v, tt)
formed_last_tree (u ∷ ts) t w v = (w.0, formed_last_tree ts t w.1 v)

-- ---- a member that is inserted

pub counted_insert : (ps : List Pair) (i : ℕ) (p : Pair) → i ≤ length ps → members_of_pairs (pairs_data (insert ps i p)) ≡ 1 + (members (data_of p.tree) + members_of_pairs (pairs_data ps))
counted_insert [] zero p h = refl
counted_insert [] (suc i) p h = absurd (omega arith)
counted_insert (q ∷ ps) zero p h = refl
counted_insert (q ∷ ps) (suc i) p h = omega (arith, counted_insert ps i p (omega arith))

-- ---- members in a map

abbrev pub Entry : Type 0
Entry = List ℕ × Tree

abbrev pub entry_member : Entry → List ℕ × Data
entry_member e = (e.0, data_of e.1)

entries_by : (o : Ordering) (a b c : List Entry) → entries_data (match_ordering o a b c) ≡ match_ordering o (entries_data a) (entries_data b) (entries_data c)
entries_by Less a b c = refl
entries_by Equal a b c = refl
entries_by Greater a b c = refl

pub entries-insert_entry : (es : List Entry) (k : List ℕ) (t : Tree) → entries_data (insert_entry compare es k t) ≡ put k (data_of t) (entries_data es)
entries-insert_entry [] k t = refl
entries-insert_entry (e ∷ es) k t = entries_by (compare k e.0) _ _ _ ∙ rw (entries-insert_entry es k t) refl

counted_by : (o : Ordering) (k : List ℕ) (t : Tree) (e : Entry) (es more : List Entry) → cond (is_eq o) (Some e.1) (lookup (is_at (compare k)) es) ≡ None
    → (lookup (is_at (compare k)) es ≡ None → members_of_pairs (entries_data more) ≡ 1 + (members (data_of t) + members_of_pairs (entries_data es)))
    → members_of_pairs (entries_data (match_ordering o ((k, t) ∷ e ∷ es) ((e.0, t) ∷ es) (e ∷ more))) ≡ 1 + (members (data_of t) + members_of_pairs (entries_data (e ∷ es)))
counted_by Less k t e es more h w = refl
counted_by Equal k t e es more h w = absurd (cc)
counted_by Greater k t e es more h w = omega (arith, w h)

-- a name that was not there counts once more
pub counted-insert_entry : (es : List Entry) (k : List ℕ) (t : Tree) → lookup (is_at (compare k)) es ≡ None
    → members_of_pairs (entries_data (insert_entry compare es k t)) ≡ 1 + (members (data_of t) + members_of_pairs (entries_data es))
counted-insert_entry [] k t h = refl
counted-insert_entry (e ∷ es) k t h = counted_by (compare k e.0) k t e es (insert_entry compare es k t) h (λ n. counted-insert_entry es k t n)

pub none_there : (o : Option Tree) → is_some o ≡ false → o ≡ None
none_there None e = refl
none_there (Some t) e = absurd (cc)

below_middle : (k : List ℕ) (done rest : List Pair) (p : Pair) → IsBelow k (pairs_data (done ++ p ∷ rest)) → AreSortedMembers (pairs_data (done ++ p ∷ rest)) → compare k p.name ≡ Less
below_middle k [] rest p b s = b
below_middle k (q ∷ done) rest p b s = nat_list_cmp_total.trans k q.name p.name b (below_middle q.name done rest p s.2 s.3)

put_greater : (k : List ℕ) (d e : Data) (l : List ℕ) (ms : Members) → compare k l ≡ Greater → put k d (member l e ms) ≡ member l e (put k d ms)
put_greater k d e l ms h = ap (λ o. match_ordering o (member k d (member l e ms)) (member l d ms) (member l e (put k d ms))) h

-- a member whose name is above those before it goes last
pub put-last : (done rest : List Pair) (p : Pair) → AreSortedMembers (pairs_data (done ++ p ∷ rest)) → put p.name (data_of p.tree) (pairs_data done) ≡ pairs_data (done ++ p ∷ [])
put-last [] rest p s = refl
put-last (q ∷ done) rest p s =
    put_greater p.name (data_of p.tree) (data_of q.tree) q.name (pairs_data done) (nat_list_cmp_total.antisymm p.name q.name ∙ ap ordering_reverse (below_middle q.name done rest p s.2 s.3))
    ∙ ap (member q.name (data_of q.tree)) (put-last done rest p s.3)

pub entries_push : (ps qs : List Pair) (p : Pair) (done : List Entry) (e : Entry) → qs ≡ ps ++ p ∷ [] → map pair_data ps ≡ map entry_member done → pair_data p ≡ entry_member e → map pair_data qs ≡ map entry_member (done ++ e ∷ [])
entries_push ps qs p done e q m s = simp (q, map-append, m, s) refl

-- ---- the whole text

utf8_read : (b : Bool) (o : Option Data) → b ≡ true → (if b then o else None) ≡ o
utf8_read true o e = refl
utf8_read false o e = absurd (cc)

-- what is read with a member for each key, and with whole numbers, is the tree
pub tree-from_keys : (text : List ℕ) (d : Data) → IsUtf8 text → read text ≡ Some d → keys_in (tokens text) ≡ members d → IsFormed d → tree text ≡ Some d
tree-from_keys text d u e keys formed =
    let w = tokens-read text d e in
    tree-from_reading text d (utf8_read (is_utf8 text) (read text) (is_utf8-from_IsUtf8 text u) ∙ e) (colons-keys text w.0 w.1 ∙ keys) (formed_whole d formed)
