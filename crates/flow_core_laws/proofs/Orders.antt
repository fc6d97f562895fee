-- Both orders of two records show the same.
use Rattle.std.proofs.Common.{◌≡◌, ℕ, suc, ◌<◌, ◌≤◌, ◌&&◌, Bool, true, false, cond, List, [], ◌∷◌, length, Contains, Option, Some, arith, refl, ap, sym, subst, ◌∙◌}
use Rattle.std.specs.Bool.{⊤}
use Rattle.std.specs.Prelude.{IfSome, nat_le}
use Rattle.std.specs.List.{AllByRecursion, list_any}
use Rattle.std.specs.Option.{option_map_or}
use Rattle.run_records.specs.declared.record.Record.{Record}
use Rattle.flow_core_rules.specs.State.{State, Lists, shown}
use Rattle.flow_core_rules.specs.Edits.{Edit, all_shown_edited}
use Rattle.flow_core_rules.specs.Edits.Edit.{opens, writes, makes, moves, issues, closes, upgrades}
use Rattle.flow_core_rules.specs.Changes.{change, moment_of}
use Rattle.flow_core_rules.specs.Runs.{Next, after, shown_after}
use Rattle.flow_core_rules.specs.Laws.{HasPlacedWrites, IsShownAlone}
use Rattle.flow_core_rules.proofs.PlacedLemmas.{Placed, change-placed, records_shown}
use Rattle.flow_core_rules.proofs.RunLemmas.{some_inner}
use Rattle.flow_core_rules.proofs.ShapeLemmas.{change_shape}
use Rattle.flow_core_laws.specs.OwnTask.{task_of}
use Rattle.flow_core_laws.proofs.Somes.{le_true}
use Rattle.flow_core_laws.proofs.OwnRecords.{change_own}
use Rattle.flow_core_laws.proofs.OwnTask.{records_change_own_task}
use Rattle.flow_core_laws.specs.Reads.{written_below, writes_of}
use Rattle.flow_core_laws.specs.BothOrders.{opens_scope, makes_task, makes_issue, OpenApart, ChangesTheSame, OthersChangeTheSame, BothOrdersShowTheSame}
use Rattle.flow_core_laws.proofs.Acts.{ActsApart}
use Rattle.flow_core_laws.proofs.Parts.{text_act, PartsApart, both_ways}
use Rattle.flow_core_laws.proofs.Homes.{in_front, behind}
use Rattle.flow_core_laws.proofs.RunStates.{IsOfRun, of_run}
use Rattle.flow_core_laws.proofs.Frame.{frame}
use Rattle.flow_core_laws.proofs.Sides.{TextSide, WriteApart, Sides, sides_of, any_pairs, both_no, tasks_apart, issues_apart, scopes_apart, texts_apart, texts_count}

sides : (s new : State) (r : Record) (x : Next s r new) → Sides s (task_of (shown s) r) x.edits
sides s new r x =
    sides_of s r x.edits (change_own (shown s) r x.edits x.change_is) (change_shape (shown s) r x.edits x.change_is)
    (subst (λ o. IfSome o (Placed (length s.scopes))) x.change_is (change-placed (shown s) r))

-- ---- what both write is apart

-- an edit that writes to a scope that is there is listed
abbrev IsListed : ℕ → List (ℕ × List ℕ) → Edit → Type 0
IsListed count pairs (writes at name text) = at < count → Contains pairs (at, name)
IsListed count pairs (opens parent vars) = ⊤
IsListed count pairs (makes task) = ⊤
IsListed count pairs (moves n task) = ⊤
IsListed count pairs (issues issue) = ⊤
IsListed count pairs (closes n end) = ⊤
IsListed count pairs upgrades = ⊤

listed : (count : ℕ) (pairs : List (ℕ × List ℕ)) (es : List Edit) → ((at : ℕ) (name : List ℕ) → Contains (written_below count es) (at, name) → Contains pairs (at, name)) → AllByRecursion (IsListed count pairs) es
listed count pairs [] f = tt
listed count pairs (opens parent vars ∷ es) f = (tt, listed count pairs es f)
listed count pairs (writes at name text ∷ es) f = (
  λ less. f at name (subst (λ (b : Bool). Contains {X = ℕ × List ℕ} (cond b ((at, name) ∷ written_below count es) (written_below count es)) (at, name)) (sym (le_true (suc at) count less)) (in_front {A = ℕ × List ℕ} (at, name) (written_below count es))),
  listed count pairs es (λ n other c. f n other (later (nat_le (suc at) count) n other c)),
)
  where
    later : (b : Bool) (n : ℕ) (other : List ℕ) → Contains (written_below count es) (n, other) → Contains {X = ℕ × List ℕ} (cond b ((at, name) ∷ written_below count es) (written_below count es)) (n, other)
    later true n other c = behind {A = ℕ × List ℕ} (at, name) (written_below count es) (n, other) c
    later false n other c = c
listed count pairs (makes task ∷ es) f = (tt, listed count pairs es f)
listed count pairs (moves n task ∷ es) f = (tt, listed count pairs es f)
listed count pairs (issues issue ∷ es) f = (tt, listed count pairs es f)
listed count pairs (closes n end ∷ es) f = (tt, listed count pairs es f)
listed count pairs (upgrades ∷ es) f = (tt, listed count pairs es f)

all_listed : (s new : State) (r : Record) (x : Next s r new) → AllByRecursion (IsListed (length s.scopes) (writes_of (shown s) r)) x.edits
all_listed s new r x =
    listed (length s.scopes) (writes_of (shown s) r) x.edits (λ at name w.
    subst (λ (o : Option (List Edit)). Contains (option_map_or (written_below (length s.scopes)) o []) (at, name)) (sym x.change_is) w)

zipped : (P Q : Edit → Type 0) (es : List Edit) → AllByRecursion P es → AllByRecursion Q es → AllByRecursion (λ e. P e × Q e) es
zipped P Q [] p q = tt
zipped P Q (e ∷ es) p q = ((p.0, q.0), zipped P Q es p.1 q.1)

module _ (count : ℕ) (ps qs : List (ℕ × List ℕ)) (a b : Bool) (one : (a && b) ≡ false) (apart : (at : ℕ) (name : List ℕ) → Contains ps (at, name) → Contains qs (at, name) → ⊥) where
  same_write : (at other : ℕ) (name word : List ℕ) → (a ≡ false → at < count) → (at < count → Contains ps (at, name)) → (b ≡ false → other < count) → (other < count → Contains qs (other, word)) → at ≡ other → name ≡ word → ⊥
  same_write at other name word x p y q same equal = by (nat_le (suc at) count) refl
    where
      le_of : (n : ℕ) → nat_le (suc n) count ≡ true → n < count
      le_of n h = grind arith

      ge_of : (n : ℕ) → nat_le (suc n) count ≡ false → n < count → ⊥
      ge_of n h less = grind arith

      flag : (c : Bool) → c ≡ a → (a ≡ true → ⊥) → a ≡ false
      flag true e h = absurd (h (sym e))
      flag false e h = sym e

      flag_b : (c : Bool) → c ≡ b → (b ≡ true → ⊥) → b ≡ false
      flag_b true e h = absurd (h (sym e))
      flag_b false e h = sym e

      by : (c : Bool) → nat_le (suc at) count ≡ c → ⊥
      by true e =
          let less : at < count = le_of at e in
          apart at name (p less) (subst (λ (n : ℕ). Contains qs (n, name)) (sym same) (subst (λ (w : List ℕ). Contains qs (other, w)) (sym equal) (q (subst (λ n. n < count) same less))))
      by false e =
          let open_a : a ≡ false → ⊥ = λ none. ge_of at e (x none) in
          let open_b : b ≡ false → ⊥ = λ none. ge_of at e (subst (λ n. n < count) (sym same) (y none)) in
          open_b (flag_b b refl (λ is_b. open_a (flag a refl (λ is_a. both_no a b one is_a is_b))))

  pair_writes : (e f : Edit) → TextSide a count e × IsListed count ps e → TextSide b count f × IsListed count qs f → WriteApart e f
  pair_writes (writes at name text) (writes other word more) x y = λ same equal. same_write at other name word x.0 x.1 y.0 y.1 same equal
  pair_writes (writes at name text) (opens parent vars) x y = tt
  pair_writes (writes at name text) (makes task) x y = tt
  pair_writes (writes at name text) (moves n task) x y = tt
  pair_writes (writes at name text) (issues issue) x y = tt
  pair_writes (writes at name text) (closes n end) x y = tt
  pair_writes (writes at name text) upgrades x y = tt
  pair_writes (opens parent vars) f x y = tt
  pair_writes (makes task) f x y = tt
  pair_writes (moves n task) f x y = tt
  pair_writes (issues issue) f x y = tt
  pair_writes (closes n end) f x y = tt
  pair_writes upgrades f x y = tt

-- ---- both orders

pub others_change_the_same : OthersChangeTheSame
others_change_the_same given run records s a b one other leads x y tasks le few free may =
    frame s a one x (of_run given run records s leads) (records_change_own_task s a one x) b other y tasks le few (λ at name r w. free at name w r) may

-- what is shown after two records, where the second changes what it would have changed before
after_both : (s a ab : State) (one other : Record) (x : Next s one a) (fs : List Edit) → HasPlacedWrites s → change (shown s) other ≡ Some fs → ChangesTheSame s a other → Next a other ab
    → shown ab ≡ shown_after (moment_of other) fs (shown_after (moment_of one) x.edits (shown s))
after_both s a ab one other x fs placed changes same y =
    let first : IsShownAlone s one a = records_shown s a one placed x in
    let second : IsShownAlone a other ab = records_shown a ab other first.placed y in
    let es_is : first.edits ≡ x.edits = some_inner first.edits x.edits (sym first.edits_are ∙ x.change_is) in
    let fs_is : second.edits ≡ fs = some_inner second.edits fs (sym second.edits_are ∙ same ∙ changes) in
    second.shown_is ∙ ap (λ (es : List Edit). shown_after (moment_of other) es (shown a)) fs_is
    ∙ ap (shown_after (moment_of other) fs) (first.shown_is ∙ ap (λ (es : List Edit). shown_after (moment_of one) es (shown s)) es_is)

flipped : (es fs : List Edit) → OpenApart es fs → OpenApart fs es
flipped es fs o = record {
  scopes = flip (list_any opens_scope es) (list_any opens_scope fs) o.scopes;
  tasks = flip (list_any makes_task es) (list_any makes_task fs) o.tasks;
  issues = flip (list_any makes_issue es) (list_any makes_issue fs) o.issues;
}
  where
    flip : (a b : Bool) → (a && b) ≡ false → (b && a) ≡ false
    flip true true e = e
    flip true false e = refl
    flip false true e = refl
    flip false false e = refl

pub both_orders : BothOrdersShowTheSame
both_orders given run records s a b one other leads x y tasks moments few apart may_other may_one = record {
  ab = ab;
  ba = ba;
  one_first = to_ab;
  other_first = to_ba;
  same = after_both s a ab one other x y.edits k.placed y.change_is same_other to_ab
      ∙ ap (λ n. record (shown s) { moment = n; lists = all_shown_edited y.edits (all_shown_edited x.edits (shown s).lists) }) (sym moments)
      ∙ ap (λ (l : Lists). record (shown s) { moment = moment_of one; lists = l }) (both_ways (shown s).lists x.edits y.edits parts)
      ∙ sym (after_both s b ba other one y x.edits k.placed x.change_is same_one to_ba);
}
  where
    k : IsOfRun s
    k = of_run given run records s leads

    same_other : ChangesTheSame s a other
    same_other = frame s a one x k (records_change_own_task s a one x) b other y tasks (at_most (moment_of one) (moment_of other) moments) few (λ at name r w. apart.other_reads at name w r) may_other
      where
        at_most : (n m : ℕ) → n ≡ m → n ≤ m
        at_most n m e = omega arith

    same_one : ChangesTheSame s b one
    same_one = frame s b other y k (records_change_own_task s b other y) a one x (λ e. tasks (sym e)) (at_most (moment_of other) (moment_of one) moments) (flipped x.edits y.edits few) (λ at name r w. apart.one_reads at name w r) may_one
      where
        at_most : (n m : ℕ) → m ≡ n → n ≤ m
        at_most n m e = omega arith

    ab : State
    ab = after (moment_of other) y.edits a

    ba : State
    ba = after (moment_of one) x.edits b

    to_ab : Next a other ab
    to_ab = record { edits = y.edits; change_is = same_other ∙ y.change_is; new_is = refl }

    to_ba : Next b one ba
    to_ba = record { edits = x.edits; change_is = same_one ∙ x.change_is; new_is = refl }

    one_sides : Sides s (task_of (shown s) one) x.edits
    one_sides = sides s a one x

    other_sides : Sides s (task_of (shown s) other) y.edits
    other_sides = sides s b other y

    words : AllByRecursion (λ e. AllByRecursion (WriteApart e) y.edits) x.edits
    words =
        any_pairs (λ e. TextSide (list_any opens_scope x.edits) (length s.scopes) e × IsListed (length s.scopes) (writes_of (shown s) one) e)
        (λ f. TextSide (list_any opens_scope y.edits) (length s.scopes) f × IsListed (length s.scopes) (writes_of (shown s) other) f) WriteApart
        (pair_writes (length s.scopes) (writes_of (shown s) one) (writes_of (shown s) other) (list_any opens_scope x.edits) (list_any opens_scope y.edits) few.scopes apart.both_write) x.edits y.edits
        (zipped (TextSide (list_any opens_scope x.edits) (length s.scopes)) (IsListed (length s.scopes) (writes_of (shown s) one)) x.edits one_sides.texts (all_listed s a one x))
        (zipped (TextSide (list_any opens_scope y.edits) (length s.scopes)) (IsListed (length s.scopes) (writes_of (shown s) other)) y.edits other_sides.texts (all_listed s b other y))

    parts : PartsApart (shown s).lists x.edits y.edits
    parts = record {
      tasks = tasks_apart s (task_of (shown s) one) (task_of (shown s) other) x.edits y.edits tasks few.tasks one_sides other_sides;
      scopes = scopes_apart s (task_of (shown s) one) (task_of (shown s) other) x.edits y.edits few.scopes one_sides other_sides;
      texts = subst (λ n. ActsApart text_act n x.edits y.edits) (sym (texts_count 0 s.scopes s.writes))
          (texts_apart s (task_of (shown s) one) (task_of (shown s) other) x.edits y.edits few.scopes words one_sides other_sides);
      issues = issues_apart s (task_of (shown s) one) (task_of (shown s) other) x.edits y.edits tasks few.issues one_sides other_sides;
    }
