-- No step of the playbook of a rehearsal has a command for operators.
use Rattle.std.proofs.Common.{◌≡◌, ℕ, zero, suc, ◌+◌, ◌≤◌, arith, ◌==◌, ◌%◌, List, [], ◌∷◌, ◌++◌, Bool, true, false, Option, Some, None, refl, sym, ◌∙◌, subst, ap, map}
use Rattle.std.specs.Prelude.{All, IsTrue, fold, slice_get, if◌then◌else◌}
use Rattle.std.specs.List.{AllByRecursion}
use Rattle.std.specs.Ordering.{nat_cmp, match_ordering}
use Rattle.std.specs.Cmp.Lexicographic.{slice_cmp}
use Rattle.std.specs.declared.cmp.Ordering.{Ordering}
use Rattle.std.specs.declared.cmp.Ordering.TheVariants.{Less, Equal, Greater}
use Rattle.std.proofs.lemmas.Option.{same_Some}
use Rattle.serde_json.specs.Data.{Data, Members, no_members, member, object, put}
use Rattle.cacao_json.specs.Reading.{tree}
use Rattle.cacao_vars.specs.declared.kinds.Kind.{Kind}
use Rattle.cacao_book_shape.specs.Members.{members_in, with_member}
use Rattle.cacao_book_shape.specs.Shape.{workflow as steps_in}
use Rattle.cacao_book.specs.Books.{book, kind_at, step_of}
use Rattle.cacao_book.specs.declared.books.Book.{Book}
use Rattle.cacao_book.specs.declared.steps.Step.{Step}
use Rattle.flow_core_rules.specs.Earlier.{WasAccepted, has_no_manual}
use Rattle.flow_core_rules.specs.Accepted.{Accepted}
use Rattle.flow_core_rules.specs.Bindings.{agents_in}
use Rattle.flow_core_rules.specs.Givens.{Given}
use Rattle.cacao_cli_rehearsal.specs.Books.{after, branch, delete_step, deny_step, ends, head, parallel_step, placed, put_all, rehearsal, starts, steps_at, steps_to}

-- a member of the workflow whose step asks no operator
abbrev AsksNone : List ℕ × Data → Type 0
AsksNone m = IsTrue (has_no_manual (kind_at m.1))

abbrev EachAsksNone : List (List ℕ × Data) → Type 0
EachAsksNone ms = AllByRecursion AsksNone ms

-- ---- members that are put in their places

put_by : (o : Ordering) (a b c : Members) → EachAsksNone (members_in a) → EachAsksNone (members_in b) → EachAsksNone (members_in c) → EachAsksNone (members_in (match_ordering o a b c))
put_by Less a b c p q r = p
put_by Equal a b c p q r = q
put_by Greater a b c p q r = r

put_each : (k : List ℕ) (d : Data) (ms : Members) → AsksNone (k, d) → EachAsksNone (members_in ms) → EachAsksNone (members_in (put k d ms))
put_each k d no_members p q = (p, tt)
put_each k d (member l e ms) p q =
    put_by (slice_cmp nat_cmp k l) (member k d (member l e ms)) (member l d ms) (member l e (put k d ms)) (p, q) (p, q.1) (q.0, put_each k d ms p q.1)

all_each : (xs : List (List ℕ × Data)) (before : Members) → EachAsksNone xs → EachAsksNone (members_in before) → EachAsksNone (members_in (put_all xs before))
all_each [] before each q = q
all_each (x ∷ xs) before each q = all_each xs (put x.0 x.1 before) each.1 (put_each x.0 x.1 before each.0 q)

with_by : (o : Ordering) (a b c : List (List ℕ × Data)) → EachAsksNone a → EachAsksNone b → EachAsksNone c → EachAsksNone (match_ordering o a b c)
with_by Less a b c p q r = p
with_by Equal a b c p q r = q
with_by Greater a b c p q r = r

with_each : (ms : List (List ℕ × Data)) (new : List ℕ × Data) → AsksNone new → EachAsksNone ms → EachAsksNone (with_member ms new)
with_each [] new p q = (p, tt)
with_each (m ∷ ms) new p q =
    with_by (slice_cmp nat_cmp new.0 m.0) (new ∷ m ∷ ms) (m ∷ ms) (m ∷ with_member ms new) (p, q) q (q.0, with_each ms new p q.1)

order_each : (ms before : List (List ℕ × Data)) → EachAsksNone ms → EachAsksNone before → EachAsksNone (fold with_member before ms)
order_each [] before each q = q
order_each (m ∷ ms) before each q = order_each ms (with_member before m) each.1 (with_each before m each.0 q)

-- ---- steps

each_both : (xs ys : List (List ℕ × Data)) → EachAsksNone xs → EachAsksNone ys → EachAsksNone (xs ++ ys)
each_both [] ys p q = q
each_both (x ∷ xs) ys p q = (p.0, each_both xs ys p.1 q)

each_if : (b : Bool) (xs ys : List (List ℕ × Data)) → EachAsksNone xs → EachAsksNone ys → EachAsksNone (if b then xs else ys)
each_if true xs ys p q = p
each_if false xs ys p q = q

deny_asks_none : (position : ℕ) (next : List ℕ) → has_no_manual (kind_at (deny_step position next)) ≡ true
deny_asks_none position next = refl

branch_asks_none : (position number : ℕ) → has_no_manual (kind_at (branch position number).1) ≡ true
branch_asks_none position number = refl

parallel_asks_none : (position : ℕ) (next : List ℕ) → has_no_manual (kind_at (parallel_step position next)) ≡ true
parallel_asks_none position next = refl

delete_asks_none : (next : List ℕ) → has_no_manual (kind_at (delete_step next)) ≡ true
delete_asks_none next = refl

position_asks_none : (position : ℕ) (next : List ℕ) → EachAsksNone (steps_at position next)
position_asks_none position next =
    let deny : List (List ℕ × Data) = (head position, deny_step position next) ∷ [] in
    let parallel : List (List ℕ × Data) = (head position, parallel_step position next) ∷ branch position 1 ∷ branch position 2 ∷ [] in
    let delete : List (List ℕ × Data) = (head position, delete_step next) ∷ [] in
    each_if (position % 3 == 1) deny (if position % 3 == 2 then parallel else delete) (deny_asks_none position next, tt)
    (each_if (position % 3 == 2) parallel delete (parallel_asks_none position next, (branch_asks_none position 1, (branch_asks_none position 2, tt))) (delete_asks_none next, tt))

positions_ask_none : (last position : ℕ) → EachAsksNone (steps_to last position)
positions_ask_none last zero = tt
positions_ask_none last (suc before) =
    each_both (steps_to last before) (steps_at (before + 1) (after last (before + 1))) (positions_ask_none last before) (position_asks_none (before + 1) (after last (before + 1)))

steps_ask_none : (last : ℕ) → EachAsksNone (starts last ++ ends ++ steps_to last last)
steps_ask_none last = each_both (starts last ++ ends) (steps_to last last) (refl, (refl, tt)) (positions_ask_none last last)

-- ---- the playbook

workflow_asks_none : (positions : ℕ) → EachAsksNone (steps_in (rehearsal positions))
workflow_asks_none positions =
    let xs : List (List ℕ × Data) = starts positions ++ ends ++ steps_to positions positions in
    order_each (members_in (placed xs)) [] (all_each xs no_members (steps_ask_none positions) tt) tt

at_place : (ms : List (List ℕ × Data)) (place : ℕ) (step : Step) → EachAsksNone ms → slice_get (map step_of ms) place ≡ Some step → IsTrue (has_no_manual step.kind)
at_place [] place step each e = absurd (none e)
  where
    none : None ≡ Some step → ⊥
    none h = cc
at_place (m ∷ ms) zero step each e = subst (λ (s : Step). IsTrue (has_no_manual s.kind)) (same_Some (step_of m) step e) each.0
at_place (m ∷ ms) (suc place) step each e = at_place ms place step each.1 e

no_manual_step : (positions place : ℕ) (step : Step) → slice_get (book (rehearsal positions)).steps place ≡ Some step → IsTrue (has_no_manual step.kind)
no_manual_step positions place step e = at_place (steps_in (rehearsal positions)) place step (workflow_asks_none positions) e

-- ---- what it gives a run

one_tree : (d : Data) (o : Option Data) (trees : List Data) → o ≡ Some d → o ∷ [] ≡ map (λ t. Some t) trees → trees ≡ d ∷ []
one_tree d o [] e h = absurd (cc)
one_tree d o (t ∷ []) e h = cc
one_tree d o (t ∷ other ∷ trees) e h = absurd (cc)

in_one : (b book : Book) (books : List Book) (number : ℕ) → books ≡ b ∷ [] → slice_get books number ≡ Some book → b ≡ book
in_one b book books number only e = by number (subst (λ (l : List Book). slice_get l number ≡ Some book) only e)
  where
    by : (number : ℕ) → slice_get (b ∷ []) number ≡ Some book → b ≡ book
    by zero h = same_Some b book h
    by (suc number) h = absurd (cc)

none_bound : (o : Option Data) (d : Data) → o ≡ Some d → o ≡ Some (object no_members) → agents_in d ≡ []
none_bound o d e f = let same : object no_members ≡ d = same_Some (object no_members) d (sym f ∙ e) in ap agents_in (sym same)

no_entry : (agents : List (List ℕ × ℕ)) → agents ≡ [] → All (λ entry. 1 ≤ entry.1) agents
no_entry agents none = subst (λ (l : List (List ℕ × ℕ)). All (λ entry. 1 ≤ entry.1) l) (sym none) (λ k x lt. absurd (omega (arith, lt)))

-- the rules of playbooks and of kinds of texts are any
module _ (AreAccepted : List Data → Type 0) (Fits : Kind → List ℕ → Type 0) where
  pub was_accepted : (positions : ℕ) (text : List ℕ) (given : Given) → tree text ≡ Some (rehearsal positions) → Accepted AreAccepted Fits (text ∷ []) [] given → WasAccepted given
  was_accepted positions text given reads accepted =
      let trees = one_tree (rehearsal positions) (tree text) accepted.trees reads accepted.trees_are in
      let books : given.books ≡ book (rehearsal positions) ∷ [] = ap (λ (g : Given). g.books) accepted.given_is ∙ ap (λ (l : List Data). map book l) trees in
      let agents : given.agents ≡ [] = ap (λ (g : Given). g.agents) accepted.given_is ∙ none_bound _ accepted.bindings accepted.bindings_are refl in
      record {
        no_manual = λ number place one step is there.
            no_manual_step positions place step (ap (λ (b : Book). slice_get b.steps place) (in_one (book (rehearsal positions)) one given.books number books is) ∙ there);
        filters = no_entry given.agents agents;
      }
