-- A text's tree is a tree of the profile.
use Rattle.std.proofs.Common.{◌≡◌, ℕ, List, Bool, true, false, Option, Some, None, Ordering, Less, Equal, Greater, nat_cmp, IsUtf8, refl, ap, subst, ◌∙◌}
use Rattle.std.specs.Prelude.{IfSome, if◌then◌else◌}
use Rattle.std.specs.Ordering.{match_ordering, ordering_reverse}
use Rattle.std.specs.Cmp.Lexicographic.{slice_cmp}
use Rattle.std.proofs.lemmas.Cmp.{nat_list_cmp_total}
use Rattle.std.proofs.lemmas.Str.{IsUtf8-from_is_utf8}
use Rattle.json.specs.Json as json
use Rattle.json.specs.Tree.{json_tokens, items_tokens, members_tokens}
use Rattle.serde_json.specs.Data.{Data, null, boolean, number, string, array, object, Items, no_items, item, Members, no_members, member, put}
use Rattle.serde_json.specs.Read.{read, of_json}
use Rattle.serde_json.proofs.Nesting.{depth-read}
use Rattle.cacao_json_counts.specs.Counts.{is_whole, first_broken, numbers, numbers_of_items, numbers_of_pairs}
use Rattle.cacao_json.specs.Reading.{tree}
use Rattle.cacao_json.specs.Profile.{IsBelow, IsSorted, AreSorted, AreSortedMembers, IsFormed, AreFormed, AreFormedMembers, IsTree}
use Rattle.cacao_json.proofs.LeftToTake.{first_broken_parts}
use Rattle.cacao_json.proofs.TextTokens.{AreTextTokens, text_tokens_parts, AreTextTokens-tokens}
use Rattle.cacao_json.proofs.Walk.{each_json, tokens-read}
use Rattle.cacao_json.proofs.Readings.{read-reading, HasTree-from_tree}

-- ---- a member that is put keeps the order

below_by : (o : Ordering) (l k : List ℕ) (a b c : Members) → IsBelow l a → IsBelow l b → IsBelow l c → IsBelow l (match_ordering o a b c)
below_by Less l k a b c x y z = x
below_by Equal l k a b c x y z = y
below_by Greater l k a b c x y z = z

pub below_put : (l k : List ℕ) (d : Data) (ms : Members) → slice_cmp nat_cmp l k ≡ Less → IsBelow l ms → IsBelow l (put k d ms)
below_put l k d no_members h w = h
below_put l k d (member m e ms) h w = below_by (slice_cmp nat_cmp k m) l k (member k d (member m e ms)) (member m d ms) (member m e (put k d ms)) h w w

put_by : (o : Ordering) (k l : List ℕ) (d e : Data) (ms : Members) → slice_cmp nat_cmp k l ≡ o → IsUtf8 k → IsSorted d → AreSortedMembers (member l e ms) → AreSortedMembers (put k d ms)
    → AreSortedMembers (match_ordering o (member k d (member l e ms)) (member l d ms) (member l e (put k d ms)))
put_by Less k l d e ms c u h w p = (u, h, c, w)
put_by Equal k l d e ms c u h w p = (w.0, h, w.2, w.3)
put_by Greater k l d e ms c u h w p = (w.0, w.1, below_put l k d ms (nat_list_cmp_total.antisymm l k ∙ ap ordering_reverse c) w.2, p)

pub sorted_put : (k : List ℕ) (d : Data) (ms : Members) → IsUtf8 k → IsSorted d → AreSortedMembers ms → AreSortedMembers (put k d ms)
sorted_put k d no_members u h w = (u, h, tt, tt)
sorted_put k d (member l e ms) u h w = put_by (slice_cmp nat_cmp k l) k l d e ms refl u h w (sorted_put k d ms u h w.3)

-- ---- what is read is sorted

record Shapes (j : json.Json) (d : Data) : Type 0 where
  gives : AreTextTokens (json_tokens j) → IsSorted d

record ItemsShape (js : json.Items) (ds : Items) : Type 0 where
  gives : AreTextTokens (items_tokens js) → AreSorted ds

record MembersShape (ms : json.Members) (found ds : Members) : Type 0 where
  gives : AreTextTokens (members_tokens ms) → AreSortedMembers found → AreSortedMembers ds

shapes : (j : json.Json) → IfSome (of_json j) (Shapes j)
shapes = each_json Shapes ItemsShape MembersShape (record { gives = λ t. tt }) (λ b. record { gives = λ t. tt }) (λ s n e. record { gives = λ t. tt }) (λ s. record { gives = λ t. t.0 })
    (λ js ds w. record { gives = λ t. w.gives t.1 }) (λ ms ds w. record { gives = λ t. w.gives t.1 tt }) (record { gives = λ t. tt })
    (λ j d js ds w v. record { gives = λ t. (w.gives (text_tokens_parts (json_tokens j) (items_tokens js) t).0, v.gives (text_tokens_parts (json_tokens j) (items_tokens js) t).1) })
    (λ found. record { gives = λ t h. h })
    (λ k j d ms found ds w v. record {
      gives = λ t h. (let p = text_tokens_parts (json_tokens j) (members_tokens ms) t.1 in v.gives p.1 (sorted_put k d found t.0 (w.gives p.0) h));
    })

sorted-read : (text : List ℕ) (d : Data) → IsUtf8 text → read text ≡ Some d → IsSorted d
sorted-read text d u e =
    let w = tokens-read text d e in
    let s = subst (λ o. IfSome o (Shapes w.0)) w.2 (shapes w.0) in
    s.gives (subst AreTextTokens w.1 (AreTextTokens-tokens text u))

-- ---- with whole numbers

whole_one : (b : Bool) → if◌then◌else◌ {A = Option ℕ} b None (Some 0) ≡ None → b ≡ true
whole_one true e = refl
whole_one false e = absurd (cc)

mutual
  pub formed : (d : Data) → IsSorted d → first_broken (numbers d) ≡ None → IsFormed d
  formed null h e = tt
  formed (boolean b) h e = tt
  formed (number n) h e = whole_one (is_whole n) e
  formed (string s) h e = h
  formed (array ds) h e = formed_items ds h e
  formed (object ms) h e = formed_pairs ms h e

  formed_items : (ds : Items) → AreSorted ds → first_broken (numbers_of_items ds) ≡ None → AreFormed ds
  formed_items no_items h e = tt
  formed_items (item d ds) h e = let p = first_broken_parts (numbers d) (numbers_of_items ds) e in (formed d h.0 p.0, formed_items ds h.1 p.1)

  formed_pairs : (ms : Members) → AreSortedMembers ms → first_broken (numbers_of_pairs ms) ≡ None → AreFormedMembers ms
  formed_pairs no_members h e = tt
  formed_pairs (member k d ms) h e = let p = first_broken_parts (numbers d) (numbers_of_pairs ms) e in (h.0, formed d h.1 p.0, h.2, formed_pairs ms h.3 p.1)

pub IsTree-from_tree : (bytes : List ℕ) (d : Data) → tree bytes ≡ Some d → IsTree d
IsTree-from_tree bytes d e =
    let w = HasTree-from_tree bytes d e in
    let r = read-reading bytes d w.reads in
    record { shallow = depth-read bytes d r.1; formed = formed d (sorted-read bytes d (IsUtf8-from_is_utf8 bytes r.0) r.1) w.whole }
