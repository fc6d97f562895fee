-- The playbook of a rehearsal has no number and nests little, so its canonical text reads back.
use Rattle.std.proofs.Common.{◌≡◌, ℕ, zero, suc, ◌+◌, ◌≤◌, List, [], ◌∷◌, ◌++◌, Bool, true, false, ◌==◌, ◌%◌, Some, refl, ap, arith}
use Rattle.std.specs.Prelude.{codes, if◌then◌else◌}
use Rattle.std.specs.List.{AllByRecursion}
use Rattle.std.specs.Ordering.{nat_cmp, match_ordering}
use Rattle.std.specs.Cmp.Lexicographic.{slice_cmp}
use Rattle.std.specs.declared.cmp.Ordering.{Ordering}
use Rattle.std.specs.declared.cmp.Ordering.TheVariants.{Less, Equal, Greater}
use Rattle.serde_json.specs.Data.{Data, Num, string, Members, no_members, member, put, depth, members_depth}
use Rattle.serde_json.specs.Read.{max_depth}
use Rattle.cacao_json.specs.Counts.{first_broken, numbers, numbers_of_pairs}
use Rattle.cacao_json.specs.Profile.{IsSorted, IsTree}
use Rattle.cacao_json.specs.Reading.{tree}
use Rattle.cacao_json.proofs.Profiles.{formed_if_whole}
use Rattle.cacao_text.specs.Canon.{canon}
use Rattle.cacao_text.proofs.LawLemmas.{tree-canon}
use Rattle.cacao_cli_rehearsal.specs.Books.{after, agent, branch, delete_step, deny_step, ends, head, integer, names, object_of, parallel_step, parts, put_all, rehearsal, starts, steps_at, steps_to, workflow}

-- no number, and at most so many levels
record Plain (high : ℕ) (d : Data) : Type 0 where
  none : numbers d ≡ []
  low : depth d ≤ high

record ArePlain (high : ℕ) (ms : Members) : Type 0 where
  none : numbers_of_pairs ms ≡ []
  low : members_depth ms ≤ high

abbrev EachPlain : ℕ → List (List ℕ × Data) → Type 0
EachPlain high xs = AllByRecursion (λ (m : List ℕ × Data). Plain high m.1) xs

-- ---- objects and lists

both : (xs ys : List Num) → xs ≡ [] → ys ≡ [] → xs ++ ys ≡ []
both [] ys e f = f
both (x ∷ xs) ys e f = absurd (cc)

first_none : (xs ys : List Num) → xs ++ ys ≡ [] → xs ≡ []
first_none [] ys e = refl
first_none (x ∷ xs) ys e = absurd (cc)

then_none : (xs ys : List Num) → xs ++ ys ≡ [] → ys ≡ []
then_none [] ys e = e
then_none (x ∷ xs) ys e = absurd (cc)

one_more : (high : ℕ) (k : List ℕ) (d : Data) (ms : Members) → Plain high d → ArePlain high ms → ArePlain high (member k d ms)
one_more high k d ms p q =
    let a = p.low in let b = q.low in
    record { none = both (numbers d) (numbers_of_pairs ms) p.none q.none; low = omega (arith, a, b) }

rest_plain : (high : ℕ) (k : List ℕ) (d : Data) (ms : Members) → ArePlain high (member k d ms) → ArePlain high ms
rest_plain high k d ms q = let a = q.low in record { none = then_none (numbers d) (numbers_of_pairs ms) q.none; low = omega (arith, a) }

head_plain : (high : ℕ) (k : List ℕ) (d : Data) (ms : Members) → ArePlain high (member k d ms) → Plain high d
head_plain high k d ms q = let a = q.low in record { none = first_none (numbers d) (numbers_of_pairs ms) q.none; low = omega (arith, a) }

put_by : (o : Ordering) (high : ℕ) (a b c : Members) → ArePlain high a → ArePlain high b → ArePlain high c → ArePlain high (match_ordering o a b c)
put_by Less high a b c p q r = p
put_by Equal high a b c p q r = q
put_by Greater high a b c p q r = r

put_plain : (high : ℕ) (k : List ℕ) (d : Data) (ms : Members) → Plain high d → ArePlain high ms → ArePlain high (put k d ms)
put_plain high k d no_members p q = one_more high k d no_members p q
put_plain high k d (member l e ms) p q =
    let rest = rest_plain high l e ms q in
    put_by (slice_cmp nat_cmp k l) high (member k d (member l e ms)) (member l d ms) (member l e (put k d ms)) (one_more high k d (member l e ms) p q) (one_more high l d ms p rest)
    (one_more high l e (put k d ms) (head_plain high l e ms q) (put_plain high k d ms p rest))

all_plain : (high : ℕ) (xs : List (List ℕ × Data)) (before : Members) → EachPlain high xs → ArePlain high before → ArePlain high (put_all xs before)
all_plain high [] before each q = q
all_plain high (x ∷ xs) before each q = all_plain high xs (put x.0 x.1 before) each.1 (put_plain high x.0 x.1 before each.0 q)

object_plain : (high : ℕ) (xs : List (List ℕ × Data)) → EachPlain high xs → Plain (high + 1) (object_of xs)
object_plain high xs each =
    let ms = all_plain high xs no_members each (record { none = refl; low = omega arith }) in
    let low = ms.low in
    record { none = ms.none; low = omega (arith, low) }

text : (high : ℕ) (s : List ℕ) → Plain high (string s)
text high s = record { none = refl; low = omega arith }

-- ---- steps

by_depth : (high : ℕ) (d : Data) → numbers d ≡ [] → depth d ≡ high → Plain high d
by_depth high d none same = record { none = none; low = omega (arith, same) }

wider : (low high : ℕ) (d : Data) → low ≤ high → Plain low d → Plain high d
wider low high d le p = let at = p.low in record { none = p.none; low = omega (arith, at, le) }

deny_plain : (position : ℕ) (next : List ℕ) → Plain 3 (deny_step position next)
deny_plain position next = by_depth 3 (deny_step position next) refl refl

parallel_plain : (position : ℕ) (next : List ℕ) → Plain 3 (parallel_step position next)
parallel_plain position next = wider 2 3 (parallel_step position next) (omega arith) (by_depth 2 (parallel_step position next) refl refl)

delete_plain : (next : List ℕ) → Plain 3 (delete_step next)
delete_plain next = by_depth 3 (delete_step next) refl refl

branch_plain : (position number : ℕ) → Plain 3 (branch position number).1
branch_plain position number = by_depth 3 (branch position number).1 refl refl

each_both : (high : ℕ) (xs ys : List (List ℕ × Data)) → EachPlain high xs → EachPlain high ys → EachPlain high (xs ++ ys)
each_both high [] ys p q = q
each_both high (x ∷ xs) ys p q = (p.0, each_both high xs ys p.1 q)

each_if : (b : Bool) (high : ℕ) (xs ys : List (List ℕ × Data)) → EachPlain high xs → EachPlain high ys → EachPlain high (if b then xs else ys)
each_if true high xs ys p q = p
each_if false high xs ys p q = q

steps_plain : (position : ℕ) (next : List ℕ) → EachPlain 3 (steps_at position next)
steps_plain position next =
    let deny : List (List ℕ × Data) = (head position, deny_step position next) ∷ [] in
    let parallel : List (List ℕ × Data) = (head position, parallel_step position next) ∷ branch position 1 ∷ branch position 2 ∷ [] in
    let delete : List (List ℕ × Data) = (head position, delete_step next) ∷ [] in
    each_if (position % 3 == 1) 3 deny (if position % 3 == 2 then parallel else delete) (deny_plain position next, tt)
    (each_if (position % 3 == 2) 3 parallel delete (parallel_plain position next, (branch_plain position 1, (branch_plain position 2, tt))) (delete_plain next, tt))

all_steps_plain : (last position : ℕ) → EachPlain 3 (steps_to last position)
all_steps_plain last zero = tt
all_steps_plain last (suc before) =
    each_both 3 (steps_to last before) (steps_at (before + 1) (after last (before + 1))) (all_steps_plain last before) (steps_plain (before + 1) (after last (before + 1)))

-- ---- the playbook

starts_plain : (last : ℕ) → EachPlain 3 (starts last ++ ends)
starts_plain last =
    let first : Data = object_of ((codes "type", string (codes "start")) ∷ (codes "on_completion", string (after last 0)) ∷ []) in
    let end : Data = object_of ((codes "type", string (codes "end")) ∷ []) in
    (wider 1 3 first (omega arith) (by_depth 1 first refl refl), (wider 1 3 end (omega arith) (by_depth 1 end refl refl), tt))

workflow_plain : (last : ℕ) → Plain 4 (workflow last)
workflow_plain last = object_plain 3 (starts last ++ ends ++ steps_to last last) (each_both 3 (starts last ++ ends) (steps_to last last) (starts_plain last) (all_steps_plain last last))

names_plain : EachPlain 4 names
names_plain = (text 4 _, (text 4 _, (text 4 _, (text 4 _, (text 4 _, (text 4 _, (text 4 _, tt)))))))

parts_plain : (positions : ℕ) → EachPlain 4 (parts positions)
parts_plain positions =
    let agents : Data = object_of ((agent, object_of []) ∷ []) in
    let variables : Data = object_of ((codes "__status__", integer) ∷ (codes "__rule__", integer) ∷ []) in
    (wider 2 4 agents (omega arith) (by_depth 2 agents refl refl), (wider 2 4 variables (omega arith) (by_depth 2 variables refl refl), (text 4 _, (workflow_plain positions, tt))))

rehearsal_plain : (positions : ℕ) → Plain 5 (rehearsal positions)
rehearsal_plain positions = object_plain 4 (names ++ parts positions) (each_both 4 names (parts positions) names_plain (parts_plain positions))

pub rehearsal_reads : (positions : ℕ) → IsSorted (rehearsal positions) → tree (canon (rehearsal positions)) ≡ Some (rehearsal positions)
rehearsal_reads positions sorted =
    let plain = rehearsal_plain positions in
    let low = plain.low in
    let most : max_depth ≡ 127 = refl in
    let is : IsTree (rehearsal positions) = record {
      shallow = omega (arith, low, most);
      formed = (formed_if_whole (rehearsal positions)).1 (sorted, ap (λ (ns : List Num). first_broken ns) plain.none);
    } in
    tree-canon (rehearsal positions) is
