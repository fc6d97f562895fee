use Rattle.std.proofs.Common.{◌≡◌, option_map, SFits, w64, to_z-of_z, ◌+◌, ◌-◌, ◌<◌, ◌∷◌, length, Some, None, sym, ap, subst, ◌∙◌, arith, rules}
use Rattle.std.proofs.lemmas.Result.{IfOk-weaker}
use Rattle.json.specs.Token.{Token}
use Rattle.json.specs.Json.{parse_map, after_end_array, read_key, items, members, value}
use Rattle.json.specs.Reads.{token_of}
use Rattle.json.proofs.Grammar.{value_is, value-begin_array, value-begin_object, read_key-shorter, read_key_is, closed_array}
use Rattle.serde_json.specs.Data.{number, array, object, put}
use Rattle.serde_json.specs.Find.{of_integer}
use Rattle.serde_json.specs.Read.{of_json, of_items, of_members, converted}
use Rattle.cacao_json.proofs.TokenSteps.{converted-array, converted-object, item_read, items_over, member_read, members_over}
use Rattle.cacao_json_counts.specs.Counts.{members as members_in, members_of_items}
use Rattle.cacao_json.specs.Profile.{AreFormed, AreFormedMembers}
use Rattle.cacao_json.specs.Straight.{keys_in, entries_data}
use Rattle.cacao_json.specs.Tree.{data_of}
use Rattle.cacao_json.proofs.FormedParts.{sorted, sorted_items}
use Rattle.cacao_json.proofs.Profiles.{formed_put}
use Rattle.cacao_json.proofs.StraightLemmas.{trees_before, trees_before-no_items, one_more_tree, counted_last, formed_last_tree}
use Rattle.cacao_json.proofs.Trees.{data_items}
use Rattle.cacao_json.proofs.straight.+straight.Goals as goal

pub read-returns-in_ok-from_str-in-String-clause-value : goal.read-returns-in_ok-from_str-in-String-clause-value
read-returns-in_ok-from_str-in-String-clause-value t c =
    let first : c.args.reader.now ≡ token_of c.in_ok-token.token ∷ c.next.new.self = grind arith in
    let is : c.args.reader.now ≡ Token.string c.in-String.text.now ∷ c.next.new.self = grind (arith, first) in
    ap (converted of_json) (ap (value c.args.depth) is ∙ value_is c.args.depth _) ∙ rw c.in_ok-from_str-in-String.ensures

pub read-returns-in-Bool-clause-value : goal.read-returns-in-Bool-clause-value
read-returns-in-Bool-clause-value t c =
    let first : c.args.reader.now ≡ token_of c.in_ok-token.token ∷ c.next.new.self = grind arith in
    let is : c.args.reader.now ≡ Token.boolean c.in-Bool.flag ∷ c.next.new.self = grind (arith, first) in
    ap (converted of_json) (ap (value c.args.depth) is ∙ value_is c.args.depth _)

pub read-returns-in-Null-clause-value : goal.read-returns-in-Null-clause-value
read-returns-in-Null-clause-value t c =
    let first : c.args.reader.now ≡ token_of c.in_ok-token.token ∷ c.next.new.self = grind arith in
    let is : c.args.reader.now ≡ Token.null ∷ c.next.new.self = grind (arith, first) in
    ap (converted of_json) (ap (value c.args.depth) is ∙ value_is c.args.depth _)

pub read-returns-in-Some-clause-value : goal.read-returns-in-Some-clause-value
read-returns-in-Some-clause-value t c =
    let first : c.args.reader.now ≡ token_of c.in_ok-token.token ∷ c.next.new.self = grind arith in
    let is : c.args.reader.now ≡ Token.number c.in-Number.text.now ∷ c.next.new.self = grind (arith, first) in
    let fits : SFits w64 c.in-Some.number = search rules in
    ap (converted of_json) (ap (value c.args.depth) is ∙ value_is c.args.depth _) ∙ ap (λ o. option_map (λ b. (b, c.next.new.self)) (option_map number o)) c.in-Some.ensures.0
    ∙ ap (λ z. Some (number (of_integer z), c.next.new.self)) (sym (to_z-of_z fits))

pub read-returns-in_ok-read_items-in-BeginArray-clause-value : goal.read-returns-in_ok-read_items-in-BeginArray-clause-value
read-returns-in_ok-read_items-in-BeginArray-clause-value t c =
    let first : c.args.reader.now ≡ token_of c.in_ok-token.token ∷ c.next.new.self = grind arith in
    let opened = ap (converted of_json) (ap (value c.args.depth) (first ∙ ap (λ k. token_of k ∷ c.next.new.self) c.in-BeginArray.is) ∙ value-begin_array c.args.depth c.next.new.self (omega arith)) ∙ converted-array (items (value (c.args.depth - 1)) (length c.next.new.self) c.next.new.self) in
    opened ∙ ap (parse_map array) c.in_ok-read_items-in-BeginArray.ensures.value

pub read-returns-in_ok-read_members-in-BeginObject-clause-value : goal.read-returns-in_ok-read_members-in-BeginObject-clause-value
read-returns-in_ok-read_members-in-BeginObject-clause-value t c =
    let first : c.args.reader.now ≡ token_of c.in_ok-token.token ∷ c.next.new.self = grind arith in
    let opened = ap (converted of_json) (ap (value c.args.depth) (first ∙ ap (λ k. token_of k ∷ c.next.new.self) c.in-BeginObject.is) ∙ value-begin_object c.args.depth c.next.new.self (omega arith)) ∙ converted-object (members (value (c.args.depth - 1)) (length c.next.new.self) c.next.new.self) in
    opened ∙ ap (parse_map object) c.in_ok-read_members-in-BeginObject.ensures.value

-- ---- items

pub read_items-items-preserved : goal.read_items-items-preserved
read_items-items-preserved t c =
    let p = value c.args.depth in
    let l = c.items in
    let n = l.invariant.0 in
    let going : (after_end_array l.reader ≡ None) × (c.take_end_array.new.self ≡ l.reader) = grind arith in
    let done = c.in_ok-item.ensures in
    let v = c.in_ok-item.item in
    let r = c.read.new.reader in
    let less : length r < length l.reader = rw (← going.1) done.shorter in
    let keys : keys_in l.reader ≡ members_in (data_of v) + keys_in r = rw (← going.1) done.keys in
    let turn = item_read p n l.reader r (data_of v) (omega (arith, l.invariant.1)) going.0 (rw (← going.1) done.value) in
    let pushed = c.in_ok-push.ensures.items in (
      n - 1,
      omega (arith, l.invariant.1),
      l.invariant.2 ∙ ap (parse_map (trees_before l.found.items)) turn ∙ one_more_tree l.found.items v _ ∙ ap (λ vs. parse_map (trees_before vs) (converted of_items (items p (n - 1) r))) (sym pushed),
      omega (arith, l.invariant.3),
      omega (arith, l.invariant.4, ap (λ vs. members_of_items (data_items vs)) pushed, counted_last l.found.items v),
      subst (λ vs. AreFormed (data_items vs)) (sym pushed) (formed_last_tree l.found.items v l.invariant.5 done.formed),
    )

pub read_items-invariant_of-result : goal.read_items-invariant_of-result
read_items-invariant_of-result t c = sorted_items (data_items c.items.found.items) c.items.invariant.5

pub read_items-returns-clause-value : goal.read_items-returns-clause-value
read_items-returns-clause-value t c =
    let p = value c.args.depth in
    let l = c.items in
    let n = l.invariant.0 in
    let r = c.take_end_array.new.self in
    l.invariant.2 ∙ ap (parse_map (trees_before l.found.items)) (items_over p n l.reader r l.invariant.1 (grind arith)) ∙ ap (λ ds. Some (ds, r)) (trees_before-no_items l.found.items)

pub read_items-returns-clause-keys : goal.read_items-returns-clause-keys
read_items-returns-clause-keys t c =
    let l = c.items in
    let r = c.take_end_array.new.self in
    let closed : l.reader ≡ Token.end_array ∷ r = closed_array l.reader r (grind arith) in
    omega (arith, l.invariant.4, ap keys_in closed)

-- ---- members

pub read_members-add-requires : goal.read_members-add-requires
read_members-add-requires t c = sorted (data_of c.in_ok-member.member) c.in_ok-member.ensures.formed

pub read_members-members-preserved : goal.read_members-members-preserved
read_members-members-preserved t c =
    let p = value c.args.depth in
    let l = c.members in
    let n = l.invariant.0 in
    let k = c.in-Some.key.now in
    let s = c.next_key.new.self in
    let named : read_key l.reader ≡ Some (Some k, s) = grind arith in
    let done = c.in_ok-member.ensures in
    let d = data_of c.in_ok-member.member in
    let r = c.read.new.reader in
    let less = read_key-shorter l.reader (Some k) s named in
    let lesser = done.shorter in
    let added = c.in_ok-add.ensures.value in
    let copied : put c.in_ok-name.name d l.found ≡ put k d l.found = ap (λ name. put name d l.found) c.in_ok-name.ensures.value in (
      n - 1,
      omega (arith, l.invariant.1),
      l.invariant.2 ∙ member_read p l.found n k l.reader s r d (omega (arith, l.invariant.1)) named done.value
          ∙ ap (λ found. converted (λ ms. of_members ms found) (members p (n - 1) r)) (sym (added ∙ copied)),
      omega (arith, l.invariant.3),
      omega (arith, l.invariant.4, ap keys_in (read_key_is l.reader (Some k) s named), done.keys, c.in_ok-add.ensures.counted),
      subst AreFormedMembers (sym added) (formed_put c.in_ok-name.name d l.found c.in_ok-name.ensures.utf8 done.formed l.invariant.5),
    )

pub read_members-returns-clause-value : goal.read_members-returns-clause-value
read_members-returns-clause-value t c =
    let l = c.members in
    l.invariant.2 ∙ members_over (value c.args.depth) l.found l.invariant.0 l.reader c.next_key.new.self l.invariant.1 (grind arith)

pub read_members-returns-clause-keys : goal.read_members-returns-clause-keys
read_members-returns-clause-keys t c =
    let l = c.members in
    let r = c.next_key.new.self in
    let over : read_key l.reader ≡ Some (None, r) = grind arith in
    omega (arith, l.invariant.4, ap keys_in (read_key_is l.reader None r over))

pub read_members-read_wide-requires : goal.read_members-read_wide-requires
read_members-read_wide-requires t c =
    let l = c.members in
    let name = c.in_ok-name.name in
    let d = data_of c.in_ok-member.member in
    (omega arith, subst AreFormedMembers (sym c.in_ok-map.ensures.value) (formed_put name d l.found c.in_ok-name.ensures.utf8 c.in_ok-member.ensures.formed l.invariant.5))

pub read_members-returns-then-is_wide-clause-value : goal.read_members-returns-then-is_wide-clause-value
read_members-returns-then-is_wide-clause-value t c =
    let p = value c.args.depth in
    let l = c.members in
    let n = l.invariant.0 in
    let k = c.in-Some.key.now in
    let s = c.next_key.new.self in
    let named : read_key l.reader ≡ Some (Some k, s) = grind arith in
    let done = c.in_ok-member.ensures in
    let d = data_of c.in_ok-member.member in
    let r = c.read.new.reader in
    let less = read_key-shorter l.reader (Some k) s named in
    let lesser = done.shorter in
    let copied : put c.in_ok-name.name d l.found ≡ put k d l.found = ap (λ name. put name d l.found) c.in_ok-name.ensures.value in
    let turn = l.invariant.2 ∙ member_read p l.found n k l.reader s r d (omega (arith, l.invariant.1)) named done.value
    ∙ ap (λ found. converted (λ js. of_members js found) (members p (n - 1) r)) (sym (c.in_ok-map.ensures.value ∙ copied)) in
    IfOk-weaker c.read_wide.result _ _ (λ ms h. turn ∙ h (n - 1) (omega (arith, l.invariant.1))) c.read_wide.ensures.value

-- ---- members in a map

pub read_wide-returns-clause-value : goal.read_wide-returns-clause-value
read_wide-returns-clause-value t c n enough =
    let l = c.members in
    let r = c.next_key.new.self in
    let w = l.invariant.0 n enough in
    let over : read_key l.reader ≡ Some (None, r) = grind arith in
    w.2 ∙ members_over (value c.args.depth) (entries_data l.found.entries) w.0 l.reader r w.1 over ∙ ap (λ ms. Some (ms, r)) (sym c.in_ok-pairs_of_map.ensures)

pub read_wide-members-preserved : goal.read_wide-members-preserved
read_wide-members-preserved t c =
    let p = value c.args.depth in
    let l = c.members in
    let k = c.in-Some.key.now in
    let s = c.next_key.new.self in
    let old = entries_data l.found.entries in
    let named : read_key l.reader ≡ Some (Some k, s) = grind arith in
    let done = c.in_ok-member.ensures in
    let d = data_of c.in_ok-member.member in
    let r = c.read.new.reader in
    let less = read_key-shorter l.reader (Some k) s named in
    let lesser = done.shorter in
    let added = c.in_ok-add_new.ensures.value in
    let copied : put c.in_ok-name.name d old ≡ put k d old = ap (λ name. put name d old) c.in_ok-name.ensures.value in (
      (λ n enough.
          let w = l.invariant.0 n enough in (
            w.0 - 1,
            omega (arith, w.1),
            w.2 ∙ member_read p old w.0 k l.reader s r d (omega (arith, w.1)) named done.value
                ∙ ap (λ found. converted (λ ms. of_members ms found) (members p (w.0 - 1) r)) (sym (added ∙ copied)),
          )),
      omega (arith, l.invariant.1),
      omega (arith, l.invariant.2, ap keys_in (read_key_is l.reader (Some k) s named), done.keys, c.in_ok-add_new.ensures.counted),
      subst AreFormedMembers (sym added) (formed_put c.in_ok-name.name d old c.in_ok-name.ensures.utf8 done.formed l.invariant.3),
    )
