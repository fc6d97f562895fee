-- Deadlines of issues that were put.
use Rattle.std.proofs.Common.{◌≡◌, ◌≢◌, ℕ, ◌==◌, ◌≤◌, ◌&&◌, not, Bool, true, false, cond, List, Option, Some, None, IsSome, nat_eq, true≢false, arith, refl, ap, sym, subst, ◌∙◌}
use Rattle.std.specs.Prelude.{slice_get, option_and_then, option_map, IfSome}
use Rattle.std.proofs.lemmas.List.Elements.{All-contains}
use Rattle.std.proofs.lemmas.Map.Views.{Contains-from_lookup}
use Rattle.flow_core_rules.proofs.RunLemmas.{some_inner}
use Rattle.base_dues.specs.Pairs.{Due, at, rising, is_by, IsFirstBy}
use Rattle.base_dues.proofs.ListedLemmas.{at-rising_pairs}
use Rattle.flow_core_rules.specs.declared.issues.Issue.{Issue}
use Rattle.flow_core_rules.specs.State.{Shown}
use Rattle.flow_core_rules.specs.Changes.{is_waiting}
use Rattle.flow_core_rules.specs.Moves.{deadline_of, deadlines, has_deadline}
use Rattle.flow_engine_history.proofs.DueFacts.{deadline_pairs}
use Rattle.flow_engine.specs.declared.puts.Puts.{Puts}
use Rattle.flow_engine.specs.EngineView.{EngineView}
use Rattle.flow_engine.specs.EngineCalls.{put_deadline}
use Rattle.flow_engine.specs.OpenIssues.{OpenIssues, puts_of, ArePut, IsPut}

same_number : (a b : ℕ) → nat_eq a b ≡ true → a ≡ b
same_number a b h = grind arith

pub put_at : (seen : Shown) (issues : OpenIssues) (n : ℕ) (puts : Puts) → ArePut seen issues → puts_of issues n ≡ Some puts → IsPut seen (n, puts)
put_at seen issues n puts are is = All-contains (IsPut seen) issues (n, puts) are.each (Contains-from_lookup same_number n puts issues is)

some_puts : (o : Option Puts) → IsSome o → (puts : Puts) × (o ≡ Some puts)
some_puts None some = absurd (true≢false (sym some))
some_puts (Some puts) some = (puts, refl)

-- an issue that was put
pub put_of : (seen : Shown) (issues : OpenIssues) (n : ℕ) → ArePut seen issues → IsSome (puts_of issues n) → (puts : Puts) × (puts_of issues n ≡ Some puts) × IsPut seen (n, puts)
put_of seen issues n are some =
    let h = some_puts (puts_of issues n) some in
    (h.0, h.1, put_at seen issues n h.0 are h.1)

-- the deadline of an issue of a filter that waits
at_deadlines : (s : Shown) (n : ℕ) (issue : Issue) → slice_get s.lists.issues n ≡ Some issue → has_deadline issue ≡ true → at (rising (deadlines s)) n ≡ Some (deadline_of s issue)
at_deadlines s n issue is has =
    let f : ℕ → Issue → Option ℕ = λ k i. cond (has_deadline i) (Some (deadline_of s i)) None in
    ap (λ (ds : List Due). at (rising ds) n) (deadline_pairs s 0 s.lists.issues)
    ∙ at-rising_pairs f s.lists.issues n
    ∙ ap (λ (o : Option Issue). option_and_then (f n) o) is
    ∙ ap (λ b. cond b (Some (deadline_of s issue)) None) has

has : (issue : Issue) → is_waiting issue.phase ≡ true → issue.agent ≢ 0 → has_deadline issue ≡ true
has issue waits apart = ap (λ b. b && not (issue.agent == 0)) waits ∙ other (issue.agent == 0) refl
  where
    other : (b : Bool) → (issue.agent == 0) ≡ b → not b ≡ true
    other true e = absurd (apart (grind arith))
    other false e = refl

-- of an issue that was put, the deadlines have the deadline; of another there is none
pub put_deadline_at : (v : EngineView) (n : ℕ) (puts : Puts) → puts_of v.puts n ≡ Some puts → IsPut v.history.seen (n, puts)
    → put_deadline v n ≡ at (rising (deadlines v.history.seen)) n
put_deadline_at v n puts is put =
    let s : Shown = v.history.seen in
    ap (λ (o : Option Puts). option_and_then (λ (p : Puts). option_map (deadline_of s) (slice_get s.lists.issues n)) o) is
    ∙ ap (option_map (deadline_of s)) put.there
    ∙ sym (at_deadlines s n put.issue put.there (has put.issue put.waits put.of_filter))

pub deadline_some : (v : EngineView) (n : ℕ) (puts : Puts) → puts_of v.puts n ≡ Some puts → (put : IsPut v.history.seen (n, puts))
    → put_deadline v n ≡ Some (deadline_of v.history.seen put.issue)
deadline_some v n puts is put =
    let s : Shown = v.history.seen in
    ap (λ (o : Option Puts). option_and_then (λ (p : Puts). option_map (deadline_of s) (slice_get s.lists.issues n)) o) is
    ∙ ap (option_map (deadline_of s)) put.there

pub put_deadline_none : (v : EngineView) (n : ℕ) → puts_of v.puts n ≡ None → put_deadline v n ≡ None
put_deadline_none v n is =
    let s : Shown = v.history.seen in
    ap (λ (o : Option Puts). option_and_then (λ (p : Puts). option_map (deadline_of s) (slice_get s.lists.issues n)) o) is

clash : (b : Bool) → b ≡ false → b ≡ true → ⊥
clash true x y = cc
clash false x y = cc

-- an issue whose deadline among all has not come is not overdue
pub not_overdue : (v : EngineView) (moment n : ℕ) → ArePut v.history.seen v.puts → is_by moment (at (rising (deadlines v.history.seen)) n) ≡ false
    → is_by moment (put_deadline v n) ≡ false
not_overdue v moment n are late = by (puts_of v.puts n) refl
  where
    by : (o : Option Puts) → puts_of v.puts n ≡ o → is_by moment (put_deadline v n) ≡ false
    by None is = ap (is_by moment) (put_deadline_none v n is)
    by (Some puts) is = ap (is_by moment) (put_deadline_at v n puts is (put_at v.history.seen v.puts n puts are is)) ∙ late

pub none_overdue : (v : EngineView) (moment : ℕ) → ArePut v.history.seen v.puts → IsFirstBy moment (at (rising (deadlines v.history.seen))) None → IsFirstBy moment (put_deadline v) None
none_overdue v moment are first = λ n. not_overdue v moment n are (first n)

pub one_overdue : (v : EngineView) (moment n : ℕ) → ArePut v.history.seen v.puts → IsSome (puts_of v.puts n) → IsFirstBy moment (at (rising (deadlines v.history.seen))) (Some n)
    → IsFirstBy moment (put_deadline v) (Some n)
one_overdue v moment n are some first =
    let h = put_of v.history.seen v.puts n are some in (
      ap (is_by moment) (put_deadline_at v n h.0 h.1 h.2) ∙ first.0,
      λ k less. not_overdue v moment k are (first.1 k less),
    )

-- an issue that is overdue was put, and its deadline is not after the moment
pub record IsOverdue (v : EngineView) (moment n : ℕ) : Type 0 where
  pub put : IsSome (puts_of v.puts n)
  pub due : (it : Issue) → slice_get v.history.seen.lists.issues n ≡ Some it → deadline_of v.history.seen it ≤ moment

pub is_overdue : (v : EngineView) (moment n : ℕ) → is_by moment (put_deadline v n) ≡ true → IsOverdue v moment n
is_overdue v moment n late = by (puts_of v.puts n) refl (slice_get v.history.seen.lists.issues n) refl
  where
    within : (d : ℕ) → is_by moment (Some d) ≡ true → d ≤ moment
    within d h = grind arith

    by : (o : Option Puts) → puts_of v.puts n ≡ o → (i : Option Issue) → slice_get v.history.seen.lists.issues n ≡ i → IsOverdue v moment n
    by None is i there = absurd (clash (is_by moment (put_deadline v n)) (ap (is_by moment) (put_deadline_none v n is)) late)
    by (Some puts) is None there =
        let none : put_deadline v n ≡ None =
        ap (λ (o : Option Puts). option_and_then (λ (p : Puts). option_map (deadline_of v.history.seen) (slice_get v.history.seen.lists.issues n)) o) is
        ∙ ap (option_map (deadline_of v.history.seen)) there in
        absurd (clash (is_by moment (put_deadline v n)) (ap (is_by moment) none) late)
    by (Some puts) is (Some it) there =
        let some : put_deadline v n ≡ Some (deadline_of v.history.seen it) =
        ap (λ (o : Option Puts). option_and_then (λ (p : Puts). option_map (deadline_of v.history.seen) (slice_get v.history.seen.lists.issues n)) o) is
        ∙ ap (option_map (deadline_of v.history.seen)) there in
        record {
          put = subst (λ (o : Option Puts). IsSome o) (sym is) refl;
          due = λ other e.
              subst (λ (i : Issue). deadline_of v.history.seen i ≤ moment) (some_inner it other (sym there ∙ e))
              (within (deadline_of v.history.seen it) (sym (ap (is_by moment) some) ∙ late));
        }

pub overdue_put : (v : EngineView) (moment : ℕ) (o : Option ℕ) → IsFirstBy moment (put_deadline v) o → IfSome o (λ n. IsSome (puts_of v.puts n))
overdue_put v moment None first = tt
overdue_put v moment (Some n) first = (is_overdue v moment n first.0).put

pub overdue_due : (v : EngineView) (moment : ℕ) (o : Option ℕ) → IsFirstBy moment (put_deadline v) o
    → IfSome o (λ n. (it : Issue) → slice_get v.history.seen.lists.issues n ≡ Some it → deadline_of v.history.seen it ≤ moment)
overdue_due v moment None first = tt
overdue_due v moment (Some n) first = (is_overdue v moment n first.0).due
