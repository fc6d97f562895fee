-- What a look through the runs by place knows on its way.
use Rattle.std.proofs.Common.{◌≡◌, inl, inr, ℕ, ◌+◌, ◌-◌, ◌<◌, ◌≤◌, Bool, true, false, List, length, refl, sym, ◌∙◌, subst, ap, arith}
use Rattle.std.specs.Prelude.{Option, Some, None, MatchOption, min, nat_le, slice_get, if◌then◌else◌}
use Rattle.std.specs.Option.{option_map_or}
use Rattle.std.proofs.lemmas.Bool.{cases_lt}
use Rattle.std.proofs.lemmas.Bool.Decides.{nat_tests}
use Rattle.flow_core_rules.specs.Moves.{due}
use Rattle.flow_engine.specs.OpenIssues.{IsNextPut, IsNoLater, OpenIssues}
use Rattle.flow_engine.specs.EngineView.{EngineView}
use Rattle.flow_laws.proofs.Basics.{same_some}
use Rattle.flow_world_steps.proofs.Issues.{below}
use Rattle.flow_fleet_steps.specs.Turns.{ComesNextOf, HasNoMove, IsLeastNext, from_to}
use Rattle.flow_fleet_steps.specs.Worlds.{EachBelow, EachRun}
use Rattle.flow_fleet.specs.Searches.{IsLesser}

module _ (engines : List EngineView) (P : ℕ → EngineView → Type 0) (n : ℕ) where
  -- those at lower places have it, and so has the next one
  pub next_has : (v : EngineView) → slice_get engines n ≡ Some v → EachBelow n engines P → P n v → EachBelow (n + 1) engines P
  next_has v there lower has k x lt at = elim (cases_lt k n) [
    | inl less ↦ lower k x less at
    | inr ge ↦ here (omega (arith, lt, ge)) x at
  ]
    where
      here : k ≡ n → (y : EngineView) → slice_get engines k ≡ Some y → P k y
      here e y found =
          let same : v ≡ y = same_some (sym there ∙ subst (λ (m : ℕ). slice_get engines m ≡ Some y) e found) in
          subst (λ (m : ℕ). P m y) (sym e) (subst (λ (z : EngineView). P n z) same has)

  -- there is no other
  pub all_have : length engines ≤ n → EachBelow n engines P → EachRun engines P
  all_have most lower k x at = lower k x (let lt = below engines k x at in omega (arith, most, lt)) at

-- ---- around the circle

le_true : (a b : ℕ) → a ≤ b → nat_le a b ≡ true
le_true a b h = grind (arith, nat_tests)

le_false : (a b : ℕ) → b < a → nat_le a b ≡ false
le_false a b h = grind (arith, nat_tests)

from_far : (n turn k : ℕ) → turn ≤ k → from_to n turn k ≡ k - turn
from_far n turn k h = ap (λ (b : Bool). if b then k - turn else k + n - turn) (le_true turn k h)

from_near : (n turn k : ℕ) → k < turn → from_to n turn k ≡ k + n - turn
from_near n turn k h = ap (λ (b : Bool). if b then k - turn else k + n - turn) (le_false turn k h)

pub from_few : (n turn k : ℕ) → turn < n → k < n → from_to n turn k < n
from_few n turn k turns lt = elim (cases_lt k turn) [
  | inl near ↦ let e = from_near n turn k near in omega (arith, e, near, lt, turns)
  | inr beyond ↦ let e = from_far n turn k beyond in omega (arith, e, lt)
]

-- no run so near behind the turn has a move
abbrev pub HasNoneNear : List EngineView → ℕ → ℕ → ℕ → Type 0
HasNoneNear engines turn now back = (other : ℕ) → from_to (length engines) turn other < back → (x : EngineView) → slice_get engines other ≡ Some x → HasNoMove now x

pub near_all : (engines : List EngineView) (turn now back : ℕ) → turn < length engines → length engines ≤ back → HasNoneNear engines turn now back → EachRun engines (λ place. HasNoMove now)
near_all engines turn now back turns most near k x at = near k (let few = from_few (length engines) turn k turns (below engines k x at) in omega (arith, few, most)) x at

-- ---- what comes next

none_some : {T : Type 0} (x : T) → ◌≡◌ {A = Option T} None (Some x) → ⊥
none_some x e = cc

no_later : (a b : ℕ × ℕ) → IsNoLater a b → a.0 ≤ b.0
no_later a b is = elim is [ inl less ↦ omega (arith, less) | inr same ↦ let e = same.0 in omega (arith, e) ]

same_resend : (puts : OpenIssues) (a b : Option (ℕ × ℕ)) (at : ℕ) → IsNextPut puts a → IsNextPut puts b → option_map_or (λ next. min at next.0) a at ≡ option_map_or (λ next. min at next.0) b at
same_resend puts None None at x y = refl
same_resend puts None (Some n) at x y = absurd (none_some n.0 (sym (x n.1 y.0.0 y.0.1) ∙ y.0.2))
same_resend puts (Some m) None at x y = absurd (none_some m.0 (sym (y m.1 x.0.0 x.0.1) ∙ x.0.2))
same_resend puts (Some m) (Some n) at x y =
    let one = no_later m (n.0, n.1) (x.1 n.1 n.0 y.0.0 y.0.1 y.0.2) in
    let two = no_later n (m.0, m.1) (y.1 m.1 m.0 x.0.0 x.0.1 x.0.2) in
    ap (λ (k : ℕ). min at k) (omega (arith, one, two))

pub comes_same : (v : EngineView) (a b : ℕ) → ComesNextOf v a → ComesNextOf v b → a ≡ b
comes_same v a b x y =
    x.is ∙ same_resend v.puts x.resend y.resend x.at x.next y.next
    ∙ ap (λ (n : ℕ). option_map_or (λ next. min n next.0) y.resend n) (same_some (sym x.due_is ∙ y.due_is)) ∙ sym y.is

-- the least of what comes next of the runs at lower places
pub record IsLeastBelow (n : ℕ) (engines : List EngineView) (moment : ℕ) : Type 0 where
  pub place : ℕ
  pub v : EngineView
  pub there : slice_get engines place ≡ Some v
  pub of_one : ComesNextOf v moment
  pub least : (other later : ℕ) (x : EngineView) → other < n → slice_get engines other ≡ Some x → ComesNextOf x later → moment ≤ later

-- nothing is due for any of them, or this is the least
abbrev pub LeastBelow : ℕ → List EngineView → Option ℕ → Type 0
LeastBelow n engines found = MatchOption found (EachBelow n engines (λ k v. due v.history.seen ≡ None)) (λ moment. IsLeastBelow n engines moment)

module _ (engines : List EngineView) (n : ℕ) (v : EngineView) (there : slice_get engines n ≡ Some v) where
  -- what holds of the lower ones and of this one
  least_of : (moment : ℕ) → ((other later : ℕ) (x : EngineView) → other < n → slice_get engines other ≡ Some x → ComesNextOf x later → moment ≤ later) → ((later : ℕ) → ComesNextOf v later → moment ≤ later)
      → (other later : ℕ) (x : EngineView) → other < n + 1 → slice_get engines other ≡ Some x → ComesNextOf x later → moment ≤ later
  least_of moment lower here other later x lt at comes = elim (cases_lt other n) [
    | inl less ↦ lower other later x less at comes
    | inr ge ↦ same (omega (arith, lt, ge))
  ]
    where
      same : other ≡ n → moment ≤ later
      same e =
          let is : x ≡ v = same_some (sym (subst (λ (m : ℕ). slice_get engines m ≡ Some x) e at) ∙ there) in
          here later (subst (λ (z : EngineView). ComesNextOf z later) is comes)

  pub least_more : (found next result : Option ℕ) → IsLesser found next result → LeastBelow n engines found → MatchOption next (due v.history.seen ≡ None) (λ moment. ComesNextOf v moment) → LeastBelow (n + 1) engines result
  least_more None None None e lower none = next_has engines (λ k x. due x.history.seen ≡ None) n v there lower none
  least_more None None (Some r) e lower none = absurd (none_some r (sym e))
  least_more None (Some m) None e lower comes = absurd (none_some m e)
  least_more None (Some m) (Some r) e lower comes = subst (λ (t : ℕ). IsLeastBelow (n + 1) engines t) (same_some (sym e)) (record {
    place = n;
    v = v;
    there = there;
    of_one = comes;
    least = least_of m (λ other later x less at is. absurd (none_some is.at (sym (lower other x less at) ∙ is.due_is))) (λ later is. let same = comes_same v m later comes is in omega (arith, same));
  })
  least_more (Some a) None None e lower none = absurd (none_some a e)
  least_more (Some a) None (Some r) e lower none = subst (λ (t : ℕ). IsLeastBelow (n + 1) engines t) (same_some (sym e)) (record {
    place = lower.place;
    v = lower.v;
    there = lower.there;
    of_one = lower.of_one;
    least = least_of a lower.least (λ later is. absurd (none_some is.at (sym none ∙ is.due_is)));
  })
  least_more (Some a) (Some b) None e lower comes = absurd e
  least_more (Some a) (Some b) (Some r) e lower comes = elim e.2 [
    | inl same ↦ record {
      place = lower.place;
      v = lower.v;
      there = lower.there;
      of_one = subst (λ (t : ℕ). ComesNextOf lower.v t) (sym same) lower.of_one;
      least = least_of r (λ other later x less at is. let most = lower.least other later x less at is in let low = e.0 in omega (arith, most, low))
          (λ later is. let at_b = comes_same v b later comes is in let low = e.1 in omega (arith, at_b, low));
    }
    | inr same ↦ record {
      place = n;
      v = v;
      there = there;
      of_one = subst (λ (t : ℕ). ComesNextOf v t) (sym same) comes;
      least = least_of r (λ other later x less at is. let most = lower.least other later x less at is in let low = e.0 in omega (arith, most, low))
          (λ later is. let at_b = comes_same v b later comes is in let low = e.1 in omega (arith, at_b, low));
    }
  ]

pub least_all : (engines : List EngineView) (n moment : ℕ) → length engines ≤ n → IsLeastBelow n engines moment → IsLeastNext engines moment
least_all engines n moment most is = record {
  place = is.place;
  v = is.v;
  there = is.there;
  of_one = is.of_one;
  least = λ other later x at comes. is.least other later x (let lt = below engines other x at in omega (arith, lt, most)) at comes;
}
