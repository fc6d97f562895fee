-- How long the text of the playbook is.
use Rattle.std.proofs.Common.{◌≡◌, ◌⊎◌, inl, inr, refl, ap, ◌∙◌, arith, ℕ, zero, suc, ◌+◌, ◌-◌, ◌*◌, ◌/◌, ◌%◌, ◌==◌, ◌<◌, ◌≤◌, nat_lt, nat_cmp, Bool, true, false, List, [], ◌∷◌, ◌++◌, length, length-append, map, decimal, Ordering, Less, Equal, Greater}
use Rattle.std.specs.Prelude.{codes, flat_map, if◌then◌else◌, replicate}
use Rattle.std.specs.Cmp.Lexicographic.{slice_cmp}
use Rattle.std.specs.Fmt.{digit_glyph, digits, digits_onto}
use Rattle.std.specs.Ordering.{match_ordering}
use Rattle.std.proofs.lemmas.Bool.{eq-eqb}
use Rattle.std.proofs.lemmas.Fmt.{length-decimal-le}
use Rattle.std.proofs.lemmas.List.{length-replicate}
use Rattle.std.proofs.lemmas.List.Concat.{flat_map-append}
use Rattle.serde_json.specs.Data.{Data, string, array, object, Members, no_members, member, put}
use Rattle.cacao_json.specs.Tree.{items_of}
use Rattle.cacao_text.specs.Canon.{after_commas, canon, escaped, in_order, joined, member_text, named_texts, string_text}
use Rattle.cacao_text.proofs.Sorting.{total, total-in_order}
use Rattle.cacao_cli_rehearsal.specs.Books.{action, after, agent, allows, branch, command, delete_step, deletes, denies, deny_step, end_step, ends, head, http_command, identifier, integer, names, net, object_of, parallel_step, parts, placed, put_all, rehearsal_text}
use Rattle.cacao_cli_rehearsal.specs.Books.{sends, start_step, starts, steps_at, steps_to, texts, twelve_digits, workflow}

-- ---- strings

if_le : (b : Bool) (xs ys : List ℕ) (n : ℕ) → length xs ≤ n → length ys ≤ n → length (if b then xs else ys) ≤ n
if_le true xs ys n v w = v
if_le false xs ys n v w = w

escaped_le : (b : ℕ) → length (escaped b) ≤ 6
unfolding escaped
escaped_le b =
    if_le (b == 34) _ _ 6 (omega arith)
    (if_le (b == 92) _ _ 6 (omega arith)
    (if_le (b == 8) _ _ 6 (omega arith)
    (if_le (b == 9) _ _ 6 (omega arith)
    (if_le (b == 10) _ _ 6 (omega arith)
    (if_le (b == 12) _ _ 6 (omega arith)
    (if_le (b == 13) _ _ 6 (omega arith)
    (if_le (nat_lt b 32) _ _ 6 (omega arith) (omega arith))))))))

-- how many bytes a text has in a string
width : List ℕ → ℕ
width text = length (flat_map escaped text)

width_le : (text : List ℕ) → width text ≤ 6 * length text
unfolding width
width_le [] = omega arith
width_le (b ∷ bs) = omega (arith, length-append (escaped b) (flat_map escaped bs), escaped_le b, width_le bs)

width-append : (a b : List ℕ) → width (a ++ b) ≡ width a + width b
unfolding width
width-append a b = ap (λ (t : List ℕ). length t) (flat_map-append escaped a b) ∙ length-append (flat_map escaped a) (flat_map escaped b)

string_length : (text : List ℕ) → length (string_text text) ≡ width text + 2
unfolding width
string_length text = omega (arith, length-append (flat_map escaped text) (34 ∷ []))

-- ---- digits

fits : ℕ → ℕ → Type 0
fits limit few = (k n : ℕ) (acc : List ℕ) → n < limit → length (digits_onto k 16 false n acc) ≤ few + length acc

one_digit : fits 16 1
unfolding fits
one_digit zero n acc low = omega arith
one_digit (suc k) n acc low =
    let none : (n / 16 == 0) ≡ true = eq-eqb (n / 16) 0 (omega arith) in
    rw none (omega arith)

more_digits : (limit few : ℕ) → fits limit few → fits (16 * limit) (suc few)
unfolding fits
more_digits limit few fit zero n acc low = omega arith
more_digits limit few fit (suc k) n acc low =
    let rest : length (digits_onto k 16 false (n / 16) (digit_glyph false (n % 16) ∷ acc)) ≤ few + length (digit_glyph false (n % 16) ∷ acc) = fit k (n / 16) (digit_glyph false (n % 16) ∷ acc) (omega arith) in
    if_le (n / 16 == 0) (digit_glyph false (n % 16) ∷ acc) (digits_onto k 16 false (n / 16) (digit_glyph false (n % 16) ∷ acc)) (suc few + length acc) (omega arith) (omega (arith, rest))

four_digits : (n : ℕ) → n < 65536 → length (digits 16 false n) ≤ 4
unfolding digits fits
four_digits n low =
    let fit : fits (16 * (16 * (16 * 16))) 4 = more_digits (16 * (16 * 16)) 3 (more_digits (16 * 16) 2 (more_digits 16 1 one_digit)) in
    let all = fit 64 n [] (omega arith) in
    omega (arith, all)

twelve : (n : ℕ) → n < 65536 → length (twelve_digits n) ≡ 12
twelve n low = omega (arith, four_digits n low, length-append (replicate (12 - length (digits 16 false n)) 48) (digits 16 false n), length-replicate {A = ℕ} (12 - length (digits 16 false n)) 48)

stem : List ℕ
stem = codes "--00000000-0000-4000-8000-"

stem_width : width stem ≡ 26
unfolding width escaped stem
stem_width = refl

identifier_width : (kind : List ℕ) (n : ℕ) → n < 65536 → width (identifier kind n) ≤ width kind + 98
unfolding stem
identifier_width kind n low =
    omega (arith, width-append kind (stem ++ twelve_digits n), width-append stem (twelve_digits n), stem_width, width_le (twelve_digits n), twelve n low)

-- ---- names

parallel_width : width (codes "parallel") ≡ 8
unfolding width escaped
parallel_width = refl

action_width : width (codes "action") ≡ 6
unfolding width escaped
action_width = refl

end_width : width end_step ≤ 101
unfolding width escaped
end_width = identifier_width (codes "end") 2 (omega arith)

agent_width : width agent ≤ 109
unfolding width escaped
agent_width = identifier_width (codes "net-address") 3 (omega arith)

head_width : (position : ℕ) → position ≤ 1001 → width (head position) ≤ 106
head_width position few = go (position % 3 == 2)
  where
    go : (b : Bool) → width (identifier (if b then codes "parallel" else codes "action") (16 * position)) ≤ 106
    go true = omega (arith, identifier_width (codes "parallel") (16 * position) (omega arith), parallel_width)
    go false = omega (arith, identifier_width (codes "action") (16 * position) (omega arith), action_width)

action_named : (number : ℕ) → number < 65536 → width (action number) ≤ 104
action_named number low = omega (arith, identifier_width (codes "action") number low, action_width)

after_width : (last position : ℕ) → position ≤ 1000 → width (after last position) ≤ 106
after_width last position few = go (position == last)
  where
    go : (b : Bool) → width (if b then end_step else head (position + 1)) ≤ 106
    go true = omega (arith, end_width)
    go false = omega (arith, head_width (position + 1) (omega arith))

-- ---- commands

decimal_width : (n : ℕ) → n < 1000 → width (decimal n) ≤ 18
decimal_width n low = omega (arith, width_le (decimal n), length-decimal-le 3 n (omega arith) (omega arith) (omega arith))

five : (a b c d e : List ℕ) → width (a ++ b ++ c ++ d ++ e) ≡ width a + (width b + (width c + (width d + width e)))
five a b c d e = omega (arith, width-append (a ++ b ++ c ++ d) e, width-append (a ++ b ++ c) d, width-append (a ++ b) c, width-append a b)

seven : (a b c d e f g : List ℕ) → width (a ++ b ++ c ++ d ++ e ++ f ++ g) ≡ width a + (width b + (width c + (width d + (width e + (width f + width g)))))
seven a b c d e f g = omega (arith, width-append (a ++ b ++ c ++ d ++ e ++ f) g, width-append (a ++ b ++ c ++ d ++ e) f, five a b c d e)

front_width : width (codes "10.") ≡ 3
unfolding width escaped
front_width = refl

dot_width : width (codes ".") ≡ 1
unfolding width escaped
dot_width = refl

net_width : (position : ℕ) (rest : List ℕ) → position ≤ 1000 → width (net position rest) ≤ width rest + 40
net_width position rest few =
    omega (arith, five (codes "10.") (decimal (position / 256)) (codes ".") (decimal (position % 256)) rest, decimal_width (position / 256) (omega arith), decimal_width (position % 256) (omega arith), front_width, dot_width)

-- what a command has beside its verb, its target and their value
frame : ℕ
frame = width (codes "{\"action\":\"") + (width (codes "\",\"target\":{\"") + (width (codes "\":\"") + width (codes "\"}}")))

frame_is : frame ≡ 40
unfolding frame width escaped
frame_is = refl

command_width : (verb target value : List ℕ) → width (command verb target value) ≡ frame + (width verb + (width target + width value))
unfolding frame
command_width verb target value = omega (arith, seven (codes "{\"action\":\"") verb (codes "\",\"target\":{\"") target (codes "\":\"") value (codes "\"}}"))

deny_words : width (codes "deny") + (width (codes "ipv4_net") + width (codes ".0/24")) ≡ 17
unfolding width escaped
deny_words = refl

denies_width : (position : ℕ) → position ≤ 1000 → width (denies position) ≤ 97
denies_width position few = omega (arith, command_width (codes "deny") (codes "ipv4_net") (net position (codes ".0/24")), frame_is, net_width position (codes ".0/24") few, deny_words)

allow_words : width (codes "allow") + (width (codes "ipv4_net") + (width (codes ".") + width (codes "/32"))) ≡ 17
unfolding width escaped
allow_words = refl

allows_width : (position number : ℕ) → position ≤ 1000 → number < 1000 → width (allows position number) ≤ 115
allows_width position number few low =
    let rest : List ℕ = codes "." ++ decimal number ++ codes "/32" in
    omega (
      arith,
      command_width (codes "allow") (codes "ipv4_net") (net position rest),
      frame_is,
      net_width position rest few,
      width-append (codes "." ++ decimal number) (codes "/32"),
      width-append (codes ".") (decimal number),
      decimal_width number low,
      allow_words,
    )

deletes_width : width deletes ≡ 76
unfolding width escaped
deletes_width = refl

-- ---- members

-- a member with a comma
member_length : List ℕ × List ℕ → ℕ
member_length m = length (member_text m) + 1

members_length : Members → ℕ
members_length ms = total member_length (named_texts ms)

cost : List ℕ × Data → ℕ
cost m = member_length (m.0, canon m.1)

costs : List (List ℕ × Data) → ℕ
costs ms = total cost ms

length-joined : (ms : List (List ℕ × List ℕ)) → length (joined (map member_text ms)) ≤ total member_length ms
unfolding member_length
length-joined [] = omega arith
length-joined (m ∷ ms) = omega (arith, length-append (member_text m) (after_commas (map member_text ms)), behind ms)
  where
    behind : (ms : List (List ℕ × List ℕ)) → length (after_commas (map member_text ms)) ≡ total member_length ms
    behind [] = refl
    behind (m ∷ ms) = omega (arith, length-append (member_text m) (after_commas (map member_text ms)), behind ms)

length-object : (ms : Members) → length (canon (object ms)) ≤ members_length ms + 2
unfolding members_length
length-object ms =
    let sorted = in_order (λ m. m.0) (named_texts ms) in
    omega (arith, length-append (joined (map member_text sorted)) (125 ∷ []), length-joined sorted, total-in_order member_length (λ m. m.0) (named_texts ms))

at_most : (f : Members → ℕ) (o : Ordering) (a b c : Members) (n : ℕ) → f a ≤ n → f b ≤ n → f c ≤ n → f (match_ordering o a b c) ≤ n
at_most f Less a b c n x y z = x
at_most f Equal a b c n x y z = y
at_most f Greater a b c n x y z = z

length-member : (k t : List ℕ) → member_length (k, t) ≡ width k + (length t + 4)
unfolding member_length
length-member k t = omega (arith, length-append (string_text k) (58 ∷ t), string_length k)

members_length-put : (k : List ℕ) (d : Data) (ms : Members) → members_length (put k d ms) ≤ cost (k, d) + members_length ms
unfolding members_length cost
members_length-put k d no_members = omega arith
members_length-put k d (member l e ms) =
    at_most members_length (slice_cmp nat_cmp k l) (member k d (member l e ms)) (member l d ms) (member l e (put k d ms)) (cost (k, d) + members_length (member l e ms))
    (omega arith) (omega (arith, length-member k (canon d), length-member l (canon d), length-member l (canon e))) (omega (arith, members_length-put k d ms))

members_length-all : (ms : List (List ℕ × Data)) (before : Members) → members_length (put_all ms before) ≤ costs ms + members_length before
unfolding costs
members_length-all [] before = omega arith
members_length-all (m ∷ ms) before = omega (arith, members_length-all ms (put m.0 m.1 before), members_length-put m.0 m.1 before)

no_members_length : members_length no_members ≡ 0
unfolding members_length
no_members_length = refl

object_length : (ms : List (List ℕ × Data)) → length (canon (object_of ms)) ≤ costs ms + 2
object_length ms = omega (arith, length-object (placed ms), members_length-all ms no_members, no_members_length)

costs-append : (ms ns : List (List ℕ × Data)) → costs (ms ++ ns) ≡ costs ms + costs ns
unfolding costs
costs-append [] ns = omega arith
costs-append (m ∷ ms) ns = omega (arith, costs-append ms ns)

-- ---- members of each kind

cost_text : (k t : List ℕ) → cost (k, string t) ≡ width k + (width t + 6)
unfolding cost
cost_text k t = omega (arith, length-member k (string_text t), string_length t)

cost_tree : (k : List ℕ) (ms : List (List ℕ × Data)) → cost (k, object_of ms) ≤ width k + (costs ms + 6)
unfolding cost
cost_tree k ms = omega (arith, length-member k (canon (object_of ms)), object_length ms)

cost_one : (k : List ℕ) (ms : List (List ℕ × Data)) → cost (k, array (items_of (object_of ms ∷ []))) ≤ width k + (costs ms + 8)
unfolding cost
cost_one k ms =
    let text : List ℕ = canon (object_of ms) in
    omega (arith, length-member k (canon (array (items_of (object_of ms ∷ [])))), length-append (text ++ []) (93 ∷ []), length-append text [], object_length ms)

cost_two : (k a b : List ℕ) → cost (k, texts (a ∷ b ∷ [])) ≡ width k + (width a + (width b + 11))
unfolding cost
cost_two k a b =
    omega (
      arith,
      length-member k (canon (texts (a ∷ b ∷ []))),
      length-append (string_text a ++ 44 ∷ (string_text b ++ [])) (93 ∷ []),
      length-append (string_text a) (44 ∷ (string_text b ++ [])),
      length-append (string_text b) [],
      string_length a,
      string_length b,
    )

costs_cons : (m : List ℕ × Data) (ms : List (List ℕ × Data)) → costs (m ∷ ms) ≡ cost m + costs ms
unfolding costs
costs_cons m ms = refl

costs_nil : costs [] ≡ 0
unfolding costs
costs_nil = refl

-- ---- steps

http_words : width (codes "type") + (width (codes "openc2-http") + width (codes "content")) ≡ 22
unfolding width escaped
http_words = refl

http_cost : (content : List ℕ) → costs ((codes "type", string (codes "openc2-http")) ∷ (codes "content", string content) ∷ []) ≤ width content + 34
http_cost content =
    omega (
      arith,
      costs_cons (codes "type", string (codes "openc2-http")) ((codes "content", string content) ∷ []),
      costs_cons (codes "content", string content) [],
      costs_nil,
      cost_text (codes "type") (codes "openc2-http"),
      cost_text (codes "content") content,
      http_words,
    )

sends_words : width (codes "type") + (width (codes "action") + (width (codes "agent") + (width (codes "commands") + width (codes "on_completion")))) ≡ 36
unfolding width escaped
sends_words = refl

sends_cost : (content next : List ℕ) → costs (sends content next) ≤ width content + (width next + 205)
sends_cost content next =
    let http : List (List ℕ × Data) = (codes "type", string (codes "openc2-http")) ∷ (codes "content", string content) ∷ [] in
    let commands : List ℕ × Data = (codes "commands", array (items_of (http_command content ∷ []))) in
    let goes_on : List ℕ × Data = (codes "on_completion", string next) in
    omega (
      arith,
      costs_cons (codes "type", string (codes "action")) ((codes "agent", string agent) ∷ commands ∷ goes_on ∷ []),
      costs_cons (codes "agent", string agent) (commands ∷ goes_on ∷ []),
      costs_cons commands (goes_on ∷ []),
      costs_cons goes_on [],
      costs_nil,
      cost_text (codes "type") (codes "action"),
      cost_text (codes "agent") agent,
      cost_one (codes "commands") http,
      http_cost content,
      cost_text (codes "on_completion") next,
      agent_width,
      sends_words,
    )

out_words : width (codes "out_args") + (width (codes "__status__") + width (codes "__rule__")) ≡ 26
unfolding width escaped
out_words = refl

deny_cost : (position : ℕ) (next : List ℕ) → position ≤ 1000 → width next ≤ 106 → cost (head position, deny_step position next) ≤ 557
deny_cost position next few short =
    let out : List (List ℕ × Data) = (codes "out_args", texts (codes "__status__" ∷ codes "__rule__" ∷ [])) ∷ [] in
    omega (
      arith,
      cost_tree (head position) (sends (denies position) next ++ out),
      costs-append (sends (denies position) next) out,
      sends_cost (denies position) next,
      costs_cons (codes "out_args", texts (codes "__status__" ∷ codes "__rule__" ∷ [])) [],
      costs_nil,
      cost_two (codes "out_args") (codes "__status__") (codes "__rule__"),
      out_words,
      denies_width position few,
      head_width position (omega arith),
    )

branch_cost : (position number : ℕ) → position ≤ 1000 → number ≤ 2 → cost (branch position number) ≤ 531
branch_cost position number few low =
    omega (
      arith,
      cost_tree (action (16 * position + number)) (sends (allows position number) end_step),
      sends_cost (allows position number) end_step,
      allows_width position number few (omega arith),
      end_width,
      action_named (16 * position + number) (omega arith),
    )

parallel_words : width (codes "type") + (width (codes "parallel") + (width (codes "next_steps") + width (codes "on_completion"))) ≡ 35
unfolding width escaped
parallel_words = refl

parallel_cost : (position : ℕ) (next : List ℕ) → position ≤ 1000 → width next ≤ 106 → cost (head position, parallel_step position next) ≤ 484
parallel_cost position next few short =
    let first : List ℕ = action (16 * position + 1) in
    let second : List ℕ = action (16 * position + 2) in
    let kind : List ℕ × Data = (codes "type", string (codes "parallel")) in
    let next_steps : List ℕ × Data = (codes "next_steps", texts (first ∷ second ∷ [])) in
    let goes_on : List ℕ × Data = (codes "on_completion", string next) in
    omega (
      arith,
      cost_tree (head position) (kind ∷ next_steps ∷ goes_on ∷ []),
      costs_cons kind (next_steps ∷ goes_on ∷ []),
      costs_cons next_steps (goes_on ∷ []),
      costs_cons goes_on [],
      costs_nil,
      cost_text (codes "type") (codes "parallel"),
      cost_two (codes "next_steps") first second,
      cost_text (codes "on_completion") next,
      parallel_words,
      action_named (16 * position + 1) (omega arith),
      action_named (16 * position + 2) (omega arith),
      head_width position (omega arith),
    )

delete_cost : (position : ℕ) (next : List ℕ) → position ≤ 1000 → width next ≤ 106 → cost (head position, delete_step next) ≤ 499
delete_cost position next few short = omega (arith, cost_tree (head position) (sends deletes next), sends_cost deletes next, deletes_width, head_width position (omega arith))

-- ---- positions

-- what the steps of a position take, by its rest
taken : ℕ → ℕ
taken rest = if rest == 1 then 557 else (if rest == 2 then 1546 else 499)

steps_cost : (position : ℕ) (next : List ℕ) → position ≤ 1000 → width next ≤ 106 → costs (steps_at position next) ≤ taken (position % 3)
unfolding taken
steps_cost position next few short = go (position % 3 == 1) (position % 3 == 2)
  where
    one : (m : List ℕ × Data) (n : ℕ) → cost m ≤ n → costs (m ∷ []) ≤ n
    one m n le = omega (arith, costs_cons m [], costs_nil, le)

    three : costs ((head position, parallel_step position next) ∷ branch position 1 ∷ branch position 2 ∷ []) ≤ 1546
    three =
        omega (
          arith,
          costs_cons (head position, parallel_step position next) (branch position 1 ∷ branch position 2 ∷ []),
          costs_cons (branch position 1) (branch position 2 ∷ []),
          costs_cons (branch position 2) [],
          costs_nil,
          parallel_cost position next few short,
          branch_cost position 1 few (omega arith),
          branch_cost position 2 few (omega arith),
        )

    go : (b c : Bool) → costs (if b then (head position, deny_step position next) ∷ []
        else (if c then (head position, parallel_step position next) ∷ branch position 1 ∷ branch position 2 ∷ []
        else (head position, delete_step next) ∷ [])) ≤ (if b then 557 else (if c then 1546 else 499))
    go true c = one (head position, deny_step position next) 557 (deny_cost position next few short)
    go false true = three
    go false false = one (head position, delete_step next) 499 (delete_cost position next few short)

-- ---- all positions

-- what is left of 870 for each position, by the rest of their number
left : ℕ → ℕ
left rest = if rest == 1 then 0 else (if rest == 2 then 680 else 310)

rests : (n : ℕ) → n < 3 → (n ≡ 0) ⊎ ((n ≡ 1) ⊎ (n ≡ 2))
rests zero low = inl refl
rests (suc zero) low = inr (inl refl)
rests (suc (suc zero)) low = inr (inr refl)
rests (suc (suc (suc n))) low = absurd (omega arith)

-- three positions take no more than three times that
left_next : (before : ℕ) → left (before % 3) + taken ((before + 1) % 3) ≤ 870 + left ((before + 1) % 3)
unfolding left taken
left_next before = go (rests (before % 3) (omega arith))
  where
    by : (a b : ℕ) → before % 3 ≡ a → (before + 1) % 3 ≡ b → left a + taken b ≤ 870 + left b → left (before % 3) + taken ((before + 1) % 3) ≤ 870 + left ((before + 1) % 3)
    by a b e f le = rw (e, f) le

    go : (before % 3 ≡ 0) ⊎ ((before % 3 ≡ 1) ⊎ (before % 3 ≡ 2)) → left (before % 3) + taken ((before + 1) % 3) ≤ 870 + left ((before + 1) % 3)
    go (inl e) = by 0 1 e (omega arith) (omega arith)
    go (inr (inl e)) = by 1 2 e (omega arith) (omega arith)
    go (inr (inr e)) = by 2 0 e (omega arith) (omega arith)

positions_cost : (last positions : ℕ) → positions ≤ 1000 → costs (steps_to last positions) ≤ 870 * positions + left (positions % 3)
positions_cost last zero few = omega (arith, costs_nil)
positions_cost last (suc before) few =
    let next : List ℕ = after last (before + 1) in
    let same : suc before ≡ before + 1 = omega arith in
    rw same (omega (arith, costs-append (steps_to last before) (steps_at (before + 1) next), positions_cost last before (omega arith), steps_cost (before + 1) next (omega arith) (after_width last (before + 1) (omega arith)), left_next before))

left_le : (rest : ℕ) → left rest ≤ 680
unfolding left
left_le rest = go (rest == 1) (rest == 2)
  where
    go : (b c : Bool) → (if b then 0 else (if c then 680 else 310)) ≤ 680
    go true c = omega arith
    go false true = omega arith
    go false false = omega arith

-- ---- the playbook

start_width : width start_step ≤ 103
unfolding width escaped
start_width = omega (arith, identifier_width (codes "start") 1 (omega arith), start_word)
  where
    start_word : width (codes "start") ≡ 5
    start_word = refl

ends_words : width (codes "type") + (width (codes "end") + (width (codes "start") + width (codes "on_completion"))) ≡ 25
unfolding width escaped
ends_words = refl

ends_cost : costs ends ≤ 200
ends_cost =
    omega (
      arith,
      costs_cons (end_step, object_of ((codes "type", string (codes "end")) ∷ [])) [],
      costs_nil,
      cost_tree end_step ((codes "type", string (codes "end")) ∷ []),
      costs_cons (codes "type", string (codes "end")) [],
      cost_text (codes "type") (codes "end"),
      end_width,
      ends_words,
    )

starts_cost : (last : ℕ) → costs (starts last) ≤ 300
starts_cost last =
    let first : List ℕ = after last 0 in
    let kind : List ℕ × Data = (codes "type", string (codes "start")) in
    let goes_on : List ℕ × Data = (codes "on_completion", string first) in
    omega (
      arith,
      costs_cons (start_step, object_of (kind ∷ goes_on ∷ [])) [],
      costs_nil,
      cost_tree start_step (kind ∷ goes_on ∷ []),
      costs_cons kind (goes_on ∷ []),
      costs_cons goes_on [],
      cost_text (codes "type") (codes "start"),
      cost_text (codes "on_completion") first,
      after_width last 0 (omega arith),
      start_width,
      ends_words,
    )

workflow_cost : (last : ℕ) → last ≤ 1000 → costs (starts last ++ ends ++ steps_to last last) ≤ 872000
workflow_cost last few =
    omega (arith, costs-append (starts last ++ ends) (steps_to last last), costs-append (starts last) ends, starts_cost last, ends_cost, positions_cost last last few, left_le (last % 3))

parts_words : width (codes "agent_definitions") + (width (codes "playbook_variables") + (width (codes "workflow_start") + (width (codes "workflow") + (width (codes "__status__") + (width (codes "__rule__")
    + (width (codes "type") + width (codes "integer"))))))) ≡ 86
unfolding width escaped
parts_words = refl

parts_cost : (positions : ℕ) → positions ≤ 1000 → costs (parts positions) ≤ 873000
parts_cost positions few =
    let integer_kind : List (List ℕ × Data) = (codes "type", string (codes "integer")) ∷ [] in
    let agents : List ℕ × Data = (codes "agent_definitions", object_of ((agent, object_of []) ∷ [])) in
    let variables : List ℕ × Data = (codes "playbook_variables", object_of ((codes "__status__", integer) ∷ (codes "__rule__", integer) ∷ [])) in
    let start : List ℕ × Data = (codes "workflow_start", string start_step) in
    let flow : List ℕ × Data = (codes "workflow", workflow positions) in
    omega (
      arith,
      costs_cons agents (variables ∷ start ∷ flow ∷ []),
      costs_cons variables (start ∷ flow ∷ []),
      costs_cons start (flow ∷ []),
      costs_cons flow [],
      costs_nil,
      cost_tree (codes "agent_definitions") ((agent, object_of []) ∷ []),
      costs_cons (agent, object_of []) [],
      cost_tree agent [],
      cost_tree (codes "playbook_variables") ((codes "__status__", integer) ∷ (codes "__rule__", integer) ∷ []),
      costs_cons (codes "__status__", integer) ((codes "__rule__", integer) ∷ []),
      costs_cons (codes "__rule__", integer) [],
      cost_tree (codes "__status__") integer_kind,
      cost_tree (codes "__rule__") integer_kind,
      costs_cons (codes "type", string (codes "integer")) [],
      cost_text (codes "type") (codes "integer"),
      cost_text (codes "workflow_start") start_step,
      cost_tree (codes "workflow") (starts positions ++ ends ++ steps_to positions positions),
      workflow_cost positions few,
      agent_width,
      start_width,
      parts_words,
    )

names_cost : costs names ≤ 1000
unfolding width escaped costs cost member_length digits
names_cost = omega arith

-- the text of up to 1,000 positions has at most 1,048,576 bytes
pub text_short : (positions : ℕ) → positions ≤ 1000 → length (rehearsal_text positions) ≤ 1048576
text_short positions few = omega (arith, object_length (names ++ parts positions), costs-append names (parts positions), names_cost, parts_cost positions few)
