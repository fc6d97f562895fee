-- Trees in which the texts of constants stand, part by part.
use Rattle.std.proofs.Common.{◌≡◌, ◌∙◌, ℕ, ◌+◌, ◌<◌, ◌≤◌, List, [], ◌∷◌, ◌++◌, length, drop, get_or, map, Ordering, Less, Greater, nat_cmp, refl, sym, ap, subst, append-nil, Option}
use Rattle.std.specs.Ordering.{match_ordering, ordering_reverse}
use Rattle.std.specs.Cmp.Lexicographic.{slice_cmp}
use Rattle.std.proofs.lemmas.Cmp.{nat_list_cmp_total}
use Rattle.std.proofs.lemmas.List.{at_drop_more, drop_all}
use Rattle.serde_json.specs.Data.{Data, item, Members, no_members, member, put}
use Rattle.cacao_json.specs.declared.tree.Pair.{Pair}
use Rattle.cacao_json.specs.declared.tree.Tree.{Tree}
use Rattle.cacao_json.specs.Tree.{data_of, items_of, members_of, pair_data}
use Rattle.cacao_json.specs.Profile.{IsBelow, AreSortedMembers}
use Rattle.cacao_vars.specs.declared.declarations.Var.{Var}
use Rattle.cacao_view_preflight.specs.Constants.{constant_items, constant_members, with_constants}
use Rattle.cacao_view_preflight.specs.Names.{Text}

-- ---- items

module _ (known : Text → Option Var) where
  items_made : (ts : List Tree) → items_of (map (λ t. with_constants known (data_of t)) ts) ≡ constant_items known (items_of (map data_of ts))
  items_made [] = refl
  items_made (t ∷ ts) = ap (item (with_constants known (data_of t))) (items_made ts)

  -- the first ones made, and what is left
  abbrev pub AreMade : List Tree → List Tree → ℕ → Type 0
  AreMade ts made i = map data_of made ++ map (λ t. with_constants known (data_of t)) (drop i ts) ≡ map (λ t. with_constants known (data_of t)) ts

  pub items_done : (ts made : List Tree) (i : ℕ) → length ts ≤ i → AreMade ts made i → items_of (map data_of made) ≡ constant_items known (items_of (map data_of ts))
  items_done ts made i past w =
      let f : Tree → Data = λ t. with_constants known (data_of t) in
      ap items_of (sym (append-nil (map data_of made)) ∙ ap (λ l. map data_of made ++ map f l) (sym (drop_all i ts past)) ∙ w) ∙ items_made ts

-- ---- members

-- members behind others
abbrev pub followed : Members → Members → Members
followed no_members ns = ns
followed (member k d ms) ns = member k d (followed ms ns)

followed_none : (ms : Members) → followed ms no_members ≡ ms
followed_none no_members = refl
followed_none (member k d ms) = ap (member k d) (followed_none ms)

followed_twice : (ms ns os : Members) → followed (followed ms ns) os ≡ followed ms (followed ns os)
followed_twice no_members ns os = refl
followed_twice (member k d ms) ns os = ap (member k d) (followed_twice ms ns os)

abbrev AreRising : Members → Type 0
AreRising no_members = Unit {0}
AreRising (member k d ms) = IsBelow k ms × AreRising ms

-- the last name is above the first
below_last : (l k : List ℕ) (d : Data) (ms ns : Members) → IsBelow l (followed ms (member k d ns)) → AreRising (followed ms (member k d ns)) → slice_cmp nat_cmp l k ≡ Less
below_last l k d no_members ns b w = b
below_last l k d (member m e ms) ns b w = nat_list_cmp_total.trans l m k b (below_last m k d ms ns w.0 w.1)

put_by : (o : Ordering) (k l : List ℕ) (d e : Data) (ms : Members) → slice_cmp nat_cmp k l ≡ o → put k d (member l e ms) ≡ match_ordering o (member k d (member l e ms)) (member l d ms) (member l e (put k d ms))
put_by o k l d e ms h = ap (λ o. match_ordering o (member k d (member l e ms)) (member l d ms) (member l e (put k d ms))) h

-- a name above all others is put behind them
put_last : (k : List ℕ) (d : Data) (ms ns : Members) → AreRising (followed ms (member k d ns)) → put k d ms ≡ followed ms (member k d no_members)
put_last k d no_members ns w = refl
put_last k d (member l e ms) ns w =
    let less = below_last l k d ms ns w.0 w.1 in
    put_by Greater k l d e ms (nat_list_cmp_total.antisymm k l ∙ ap ordering_reverse less) ∙ ap (member l e) (put_last k d ms ns w.1)

module _ (known : Text → Option Var) where
  below_made : (k : List ℕ) (ms : Members) → IsBelow k ms → IsBelow k (constant_members known ms)
  below_made k no_members w = tt
  below_made k (member l d ms) w = w

  rising_made : (ms : Members) → AreSortedMembers ms → AreRising (constant_members known ms)
  rising_made no_members w = tt
  rising_made (member k d ms) w = (below_made k ms w.2, rising_made ms w.3)

  abbrev pub MembersMade : List Pair → Members → ℕ → Type 0
  MembersMade ps made i = followed made (constant_members known (members_of (map pair_data (drop i ps)))) ≡ constant_members known (members_of (map pair_data ps))

  pub members_more : (ps : List Pair) (old new : Members) (i : ℕ) (p : Pair) (name : List ℕ) (d : Data) → AreSortedMembers (members_of (map pair_data ps)) → i < length ps → p ≡ get_or ps i p
      → name ≡ p.name → d ≡ with_constants known (data_of p.tree) → new ≡ put name d old → MembersMade ps old i → MembersMade ps new (i + 1)
  members_more ps old new i p name d sorted below at n e more w =
      let f : List Pair → Members = λ ps. constant_members known (members_of (map pair_data ps)) in
      let left = f (drop (i + 1) ps) in
      let next : f (drop i ps) ≡ member name d left =
      at_drop_more f ps i p below ∙ ap (λ (q : Pair). member q.name (with_constants known (data_of q.tree)) left) (sym at)
      ∙ ap (λ k. member k (with_constants known (data_of p.tree)) left) (sym n) ∙ ap (λ x. member name x left) (sym e) in
      let whole : followed old (member name d left) ≡ f ps = ap (followed old) (sym next) ∙ w in
      let rises : AreRising (followed old (member name d left)) = subst AreRising (sym whole) (rising_made (members_of (map pair_data ps)) sorted) in
      ap (λ ms. followed ms left) (more ∙ put_last name d old left rises) ∙ followed_twice old (member name d no_members) left ∙ whole

  pub members_done : (ps : List Pair) (made : Members) (i : ℕ) → length ps ≤ i → MembersMade ps made i → made ≡ constant_members known (members_of (map pair_data ps))
  members_done ps made i past w =
      sym (followed_none made) ∙ ap (λ l. followed made (constant_members known (members_of (map pair_data l)))) (sym (drop_all i ps past)) ∙ w
