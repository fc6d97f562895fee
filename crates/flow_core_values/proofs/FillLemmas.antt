-- Trees, filled part by part.
use Rattle.std.proofs.Common.{◌≡◌, ℕ, zero, suc, ◌+◌, ◌<◌, ◌≤◌, List, [], ◌∷◌, ◌++◌, length, drop, get_or, map, Ordering, Less, Greater, nat_cmp, refl, sym, ap, subst, ◌∙◌, append-nil, arith}
use Rattle.std.specs.Ordering.{match_ordering, ordering_reverse}
use Rattle.std.specs.Cmp.Lexicographic.{slice_cmp}
use Rattle.std.proofs.lemmas.Cmp.{nat_list_cmp_total}
use Rattle.std.proofs.lemmas.List.{at_drop_more, drop_all}
use Rattle.serde_json.specs.Data.{Data, item, Members, no_members, member, put}
use Rattle.cacao_json.specs.declared.tree.Tree.{Tree}
use Rattle.cacao_json.specs.Tree.{data_of, items_of, members_of}
use Rattle.cacao_json.specs.Profile.{IsBelow, AreSortedMembers}
use Rattle.cacao_json.specs.Size.{size, items_size, members_size}
use Rattle.flow_core_rules.specs.State.{Lists}
use Rattle.flow_core_rules.specs.Filled.{filled, filled_items, filled_members}
use Rattle.flow_core_texts.specs.declared.contents.Content.{Content}
use Rattle.flow_core_texts.specs.declared.contents.Entry.{Entry}
use Rattle.flow_core_texts.specs.Contents.{content_data, entry_data}

-- ---- items

module _ (s : Lists) (scope : ℕ) where
  pub items_filled : (cs : List Content) → items_of (map (λ c. filled s scope (content_data c)) cs) ≡ filled_items s scope (items_of (map content_data cs))
  items_filled [] = refl
  items_filled (c ∷ cs) = ap (item (filled s scope (content_data c))) (items_filled cs)

  -- the first ones filled, and what is left
  abbrev pub AreFilled : List Content → List Tree → ℕ → Type 0
  AreFilled cs made i = map data_of made ++ map (λ c. filled s scope (content_data c)) (drop i cs) ≡ map (λ c. filled s scope (content_data c)) cs

  pub items_done : (cs : List Content) (made : List Tree) (i : ℕ) → length cs ≤ i → AreFilled cs made i → items_of (map data_of made) ≡ filled_items s scope (items_of (map content_data cs))
  items_done cs made i past w =
      let f : Content → Data = λ c. filled s scope (content_data c) in
      ap items_of (sym (append-nil (map data_of made)) ∙ ap (λ l. map data_of made ++ map f l) (sym (drop_all i cs past)) ∙ w) ∙ items_filled cs

-- ---- members

-- members behind others
abbrev pub followed : Members → Members → Members
followed no_members ns = ns
followed (member k d ms) ns = member k d (followed ms ns)

followed_none : (ms : Members) → followed ms no_members ≡ ms
followed_none no_members = refl
followed_none (member k d ms) = ap (member k d) (followed_none ms)

followed_twice : (ms ns os : Members) → followed (followed ms ns) os ≡ followed ms (followed ns os)
followed_twice no_members ns os = refl
followed_twice (member k d ms) ns os = ap (member k d) (followed_twice ms ns os)

abbrev AreRising : Members → Type 0
AreRising no_members = Unit {0}
AreRising (member k d ms) = IsBelow k ms × AreRising ms

-- the last name is above the first
below_last : (l k : List ℕ) (d : Data) (ms ns : Members) → IsBelow l (followed ms (member k d ns)) → AreRising (followed ms (member k d ns)) → slice_cmp nat_cmp l k ≡ Less
below_last l k d no_members ns b w = b
below_last l k d (member m e ms) ns b w = nat_list_cmp_total.trans l m k b (below_last m k d ms ns w.0 w.1)

put_by : (o : Ordering) (k l : List ℕ) (d e : Data) (ms : Members) → slice_cmp nat_cmp k l ≡ o → put k d (member l e ms) ≡ match_ordering o (member k d (member l e ms)) (member l d ms) (member l e (put k d ms))
put_by o k l d e ms h = ap (λ o. match_ordering o (member k d (member l e ms)) (member l d ms) (member l e (put k d ms))) h

-- a name above all others is put behind them
put_last : (k : List ℕ) (d : Data) (ms ns : Members) → AreRising (followed ms (member k d ns)) → put k d ms ≡ followed ms (member k d no_members)
put_last k d no_members ns w = refl
put_last k d (member l e ms) ns w =
    let less = below_last l k d ms ns w.0 w.1 in
    put_by Greater k l d e ms (nat_list_cmp_total.antisymm k l ∙ ap ordering_reverse less) ∙ ap (member l e) (put_last k d ms ns w.1)

module _ (s : Lists) (scope : ℕ) where
  below_filled : (k : List ℕ) (ms : Members) → IsBelow k ms → IsBelow k (filled_members s scope ms)
  below_filled k no_members w = tt
  below_filled k (member l d ms) w = w

  rising_filled : (ms : Members) → AreSortedMembers ms → AreRising (filled_members s scope ms)
  rising_filled no_members w = tt
  rising_filled (member k d ms) w = (below_filled k ms w.2, rising_filled ms w.3)

  abbrev pub MembersFilled : List Entry → Members → ℕ → Type 0
  MembersFilled ps made i = followed made (filled_members s scope (members_of (map entry_data (drop i ps)))) ≡ filled_members s scope (members_of (map entry_data ps))

  pub members_more : (ps : List Entry) (old new : Members) (i : ℕ) (p : Entry) (name : List ℕ) (d : Data) → AreSortedMembers (members_of (map entry_data ps)) → i < length ps → p ≡ get_or ps i p
      → name ≡ p.name → d ≡ filled s scope (content_data p.content) → new ≡ put name d old → MembersFilled ps old i → MembersFilled ps new (i + 1)
  members_more ps old new i p name d sorted below at n e more w =
      let f : List Entry → Members = λ ps. filled_members s scope (members_of (map entry_data ps)) in
      let left = f (drop (i + 1) ps) in
      let next : f (drop i ps) ≡ member name d left =
      at_drop_more f ps i p below ∙ ap (λ (q : Entry). member q.name (filled s scope (content_data q.content)) left) (sym at)
      ∙ ap (λ k. member k (filled s scope (content_data p.content)) left) (sym n) ∙ ap (λ x. member name x left) (sym e) in
      let whole : followed old (member name d left) ≡ f ps = ap (followed old) (sym next) ∙ w in
      let rises : AreRising (followed old (member name d left)) = subst AreRising (sym whole) (rising_filled (members_of (map entry_data ps)) sorted) in
      ap (λ ms. followed ms left) (more ∙ put_last name d old left rises) ∙ followed_twice old (member name d no_members) left ∙ whole

  pub members_done : (ps : List Entry) (made : Members) (i : ℕ) → length ps ≤ i → MembersFilled ps made i → made ≡ filled_members s scope (members_of (map entry_data ps))
  members_done ps made i past w =
      sym (followed_none made) ∙ ap (λ l. followed made (filled_members s scope (members_of (map entry_data l)))) (sym (drop_all i ps past)) ∙ w

-- ---- parts are smaller

pub item_within : (ts : List Content) (i : ℕ) (t : Content) → i < length ts → t ≡ get_or ts i t → size (content_data t) < items_size (items_of (map content_data ts))
item_within [] i t h e = absurd (omega arith)
item_within (u ∷ ts) zero t h e = omega (arith, ap (λ x. size (content_data x)) e)
item_within (u ∷ ts) (suc i) t h e = omega (arith, item_within ts i t (omega arith) e)

pub entry_within : (ps : List Entry) (i : ℕ) (p : Entry) → i < length ps → p ≡ get_or ps i p → size (content_data p.content) < members_size (members_of (map entry_data ps))
entry_within [] i p h e = absurd (omega arith)
entry_within (q ∷ ps) zero p h e = omega (arith, ap (λ x. size (content_data x.content)) e)
entry_within (q ∷ ps) (suc i) p h e = omega (arith, entry_within ps i p (omega arith) e)
