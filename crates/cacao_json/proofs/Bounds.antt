-- What a text that is read has at least: a colon outside strings for each member, and a byte for each number but one.
use Rattle.std.proofs.Common.{◌≡◌, ℕ, ◌+◌, ◌≤◌, List, [], length, Some, Ordering, Less, Equal, Greater, nat_cmp, sym, subst, length-append, arith}
use Rattle.std.specs.Prelude.{IfSome}
use Rattle.std.specs.Ordering.{match_ordering}
use Rattle.std.specs.Cmp.Lexicographic.{slice_cmp}
use Rattle.json.specs.Lex.{tokens}
use Rattle.json.specs.Json as json
use Rattle.json.specs.Tree.{json_tokens, items_tokens, members_tokens}
use Rattle.serde_json.specs.Data.{Data, Items, Members, no_members, member, put}
use Rattle.serde_json.specs.Read.{read, of_json}
use Rattle.cacao_json_counts.specs.Counts.{colons, members, members_of_items, members_of_pairs, numbers, numbers_of_items, numbers_of_pairs}
use Rattle.cacao_json.specs.Straight.{keys_in}
use Rattle.cacao_json.proofs.Keys.{keys_in-append}
use Rattle.cacao_json.proofs.Colons.{keys_in-tokens, length-tokens}
use Rattle.cacao_json.proofs.Walk.{each_json, tokens-read}

at_most : (f : Members → ℕ) (o : Ordering) (a b c : Members) (n : ℕ) → f a ≤ n → f b ≤ n → f c ≤ n → f (match_ordering o a b c) ≤ n
at_most f Less a b c n x y z = x
at_most f Equal a b c n x y z = y
at_most f Greater a b c n x y z = z

members-put : (k : List ℕ) (d : Data) (ms : Members) → members_of_pairs (put k d ms) ≤ 1 + (members d + members_of_pairs ms)
members-put k d no_members = omega arith
members-put k d (member l e ms) =
    at_most members_of_pairs (slice_cmp nat_cmp k l) (member k d (member l e ms)) (member l d ms) (member l e (put k d ms)) _ (omega arith) (omega arith) (omega (arith, members-put k d ms))

abbrev count : Members → ℕ
count ms = length (numbers_of_pairs ms)

numbers-put : (k : List ℕ) (d : Data) (ms : Members) → count (put k d ms) ≤ length (numbers d) + count ms
numbers-put k d no_members = omega (arith, length-append (numbers d) [])
numbers-put k d (member l e ms) =
    at_most count (slice_cmp nat_cmp k l) (member k d (member l e ms)) (member l d ms) (member l e (put k d ms)) (length (numbers d) + count (member l e ms))
    (omega (arith, length-append (numbers d) (numbers_of_pairs (member l e ms)))) (omega (arith, length-append (numbers d) (numbers_of_pairs ms), length-append (numbers e) (numbers_of_pairs ms)))
    (omega (arith, numbers-put k d ms, length-append (numbers e) (numbers_of_pairs ms), length-append (numbers e) (numbers_of_pairs (put k d ms))))

record Fits (j : json.Json) (d : Data) : Type 0 where
  keys : members d ≤ keys_in (json_tokens j)
  count : length (numbers d) ≤ length (json_tokens j)

record ItemsFit (js : json.Items) (ds : Items) : Type 0 where
  keys : members_of_items ds ≤ keys_in (items_tokens js)
  count : length (numbers_of_items ds) ≤ length (items_tokens js)

record MembersFit (ms : json.Members) (found ds : Members) : Type 0 where
  keys : members_of_pairs ds ≤ members_of_pairs found + keys_in (members_tokens ms)
  count : length (numbers_of_pairs ds) ≤ length (numbers_of_pairs found) + length (members_tokens ms)

fits : (j : json.Json) → IfSome (of_json j) (Fits j)
fits = each_json Fits ItemsFit MembersFit (record { keys = omega arith; count = omega arith }) (λ b. record { keys = omega arith; count = omega arith })
    (λ s n e. record { keys = omega arith; count = omega arith }) (λ s. record { keys = omega arith; count = omega arith })
    (λ js ds w. record { keys = w.keys; count = omega (arith, w.count) }) (λ ms ds w. record { keys = omega (arith, w.keys); count = omega (arith, w.count) }) (record { keys = omega arith; count = omega arith })
    (λ j d js ds w v. record {
      keys = omega (arith, w.keys, v.keys, keys_in-append (json_tokens j) (items_tokens js));
      count = omega (arith, w.count, v.count, length-append (numbers d) (numbers_of_items ds), length-append (json_tokens j) (items_tokens js));
    }) (λ found. record { keys = omega arith; count = omega arith })
    (λ k j d ms found ds w v. record {
      keys = omega (arith, w.keys, v.keys, members-put k d found, keys_in-append (json_tokens j) (members_tokens ms));
      count = omega (arith, w.count, v.count, numbers-put k d found, length-append (json_tokens j) (members_tokens ms));
    })

fits-read : (text : List ℕ) (d : Data) → read text ≡ Some d → (members d ≤ keys_in (tokens text)) × (length (numbers d) ≤ length (tokens text))
fits-read text d e =
    let w = tokens-read text d e in
    let f = subst (λ o. IfSome o (Fits w.0)) w.2 (fits w.0) in
    subst (λ ts. (members d ≤ keys_in ts) × (length (numbers d) ≤ length ts)) (sym w.1) (f.keys, f.count)

-- the members are at most the colons outside strings
pub members-read : (text : List ℕ) (d : Data) → read text ≡ Some d → members d ≤ colons text
members-read text d e = omega (arith, (fits-read text d e).0, keys_in-tokens text)

-- the numbers are at most the bytes and one more
pub numbers-read : (text : List ℕ) (d : Data) → read text ≡ Some d → length (numbers d) ≤ length text + 1
numbers-read text d e = omega (arith, (fits-read text d e).1, length-tokens text)
