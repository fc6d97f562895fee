-- Lists by place, and what a call of one run leaves to the others.
use Rattle.std.proofs.Common.{◌≡◌, ◌≢◌, inl, inr, ℕ, zero, suc, ◌<◌, ◌≤◌, List, [], ◌∷◌, length, refl, sym, ◌∙◌, subst, ap, arith}
use Rattle.std.specs.Prelude.{Some, slice_get, slice_set}
use Rattle.cacao_site.specs.DiskCalls.{GoesOn, KeepsDisk, OnlyFile, StaysAt}
use Rattle.cacao_site.specs.RunViews.{file_of}
use Rattle.cacao_site.specs.View.{ClockView, SiteView}
use Rattle.cacao_site.proofs.Beats.{goes_on-refl, goes_on-trans, stays-trans}
use Rattle.cacao_site.specs.SiteCalls.{Puts}
use Rattle.cacao_site.specs.declared.parcel.Parcel.{Parcel}
use Rattle.flow_engine.specs.EngineView.{EngineView}
use Rattle.flow_laws.proofs.Basics.{same_some}
use Rattle.flow_world_steps.specs.Sides.{IsWhole}
use Rattle.flow_world_steps.proofs.Filters.{get_set}
use Rattle.flow_world_steps.proofs.Issues.{below}
use Rattle.flow_world_steps.proofs.Readiness.{engine_stays}
use Rattle.flow_fleet_laws.specs.Views.{seen_from}
use Rattle.flow_fleet_laws.proofs.Seen.{goes_on-seen, journals_differ, stays-seen}
use Rattle.flow_fleet_steps.specs.Turns.{IsSettled, StandsAt}
use Rattle.flow_fleet_steps.specs.Worlds.{EachBelow, EachRun}
use Rattle.flow_fleet_steps.proofs.Back.{only_back, puts_back}
use Rattle.flow_fleet.specs.Leads.{IsBelow, LeavesRest}

pub set_get : {T : Type 0} (xs : List T) (k : ℕ) (v w : T) → slice_get xs k ≡ Some v → slice_get (slice_set xs k w) k ≡ Some w
set_get [] k v w there = absurd (cc)
set_get (x ∷ xs) zero v w there = refl
set_get (x ∷ xs) (suc k) v w there = set_get xs k v w there

pub set_twice : {T : Type 0} (xs : List T) (k : ℕ) (v w : T) → slice_set (slice_set xs k v) k w ≡ slice_set xs k w
set_twice [] zero v w = refl
set_twice [] (suc k) v w = refl
set_twice {T} (x ∷ xs) zero v w = refl
set_twice {T} (x ∷ xs) (suc k) v w = ap (λ (l : List T). x ∷ l) (set_twice xs k v w)

pub set_self : {T : Type 0} (xs : List T) (k : ℕ) (v : T) → slice_get xs k ≡ Some v → slice_set xs k v ≡ xs
set_self [] k v there = absurd (cc)
set_self {T} (x ∷ xs) zero v there = ap (λ (y : T). y ∷ xs) (same_some (sym there))
set_self {T} (x ∷ xs) (suc k) v there = ap (λ (l : List T). x ∷ l) (set_self xs k v there)

pub length_set : {T : Type 0} (xs : List T) (k : ℕ) (w : T) → length (slice_set xs k w) ≡ length xs
length_set [] zero w = refl
length_set [] (suc k) w = refl
length_set (x ∷ xs) zero w = refl
length_set (x ∷ xs) (suc k) w = ap suc (length_set xs k w)

pub low_place : (engines : List EngineView) (k : ℕ) (v : EngineView) → length engines ≤ 16 → slice_get engines k ≡ Some v → k ≤ 15
low_place engines k v few there = let lt = below engines k v there in omega (arith, few, lt)

-- ---- journals that stay

pub rest_only : (place : ℕ) (P : List ℕ → Type 0) (so sn : SiteView) → OnlyFile 0 (seen_from place so) (seen_from place sn) P → LeavesRest place so sn
rest_only place P so sn only =
    let back = only_back place P so sn only in
    record { on = back.each.goes_on; files = λ file ne. back.others file ne; now = ap (λ (c : ClockView). c.now) back.rest.clock }

pub rest_kept : (place : ℕ) (so sn : SiteView) → KeepsDisk so.disk sn.disk → sn.clock.now ≡ so.clock.now → LeavesRest place so sn
rest_kept place so sn keeps now = record { on = keeps.goes_on; files = λ file ne. keeps.stays file; now = now }

-- nothing was done
pub rest_same : (place : ℕ) (so : SiteView) → LeavesRest place so so
rest_same place so = record { on = goes_on-refl so.disk; files = λ file ne. record { reads = refl; images = λ beat image from to. ap (λ (n : ℕ). so.disk.left file n image) (omega (arith, from, to)) }; now = refl }

-- a parcel was put, as the run sees the rack
pub rest_seen : (place : ℕ) (so sn : SiteView) (parcel : Parcel) → Puts parcel (seen_from place so) (seen_from place sn) → LeavesRest place so sn
rest_seen place so sn parcel is = let put = puts_back place parcel so sn is in rest_kept place so sn put.disk.disk put.time.now

pub rest_then : (place : ℕ) (so mid sn : SiteView) → LeavesRest place so mid → LeavesRest place mid sn → LeavesRest place so sn
rest_then place so mid sn one two = record {
  on = goes_on-trans one.on two.on;
  files = λ file ne. stays-trans one.on two.on (one.files file ne) (two.files file ne);
  now = two.now ∙ one.now;
}

pub whole_stays : (k : ℕ) (v : EngineView) (so sn : SiteView) → GoesOn so.disk sn.disk → StaysAt so.disk sn.disk (file_of k) → IsWhole v (seen_from k so) → IsWhole v (seen_from k sn)
whole_stays k v so sn on stays is = record {
  engine = engine_stays v (seen_from k so) (seen_from k sn) (goes_on-seen k on) (stays-seen k 0 stays) is.engine;
  whole = is.whole;
}

pub settled_stays : (k : ℕ) (v : EngineView) (so sn : SiteView) → GoesOn so.disk sn.disk → StaysAt so.disk sn.disk (file_of k) → IsSettled so k v → IsSettled sn k v
settled_stays k v so sn on stays is = record { up = record { has_file = whole_stays k v so sn on stays is.up.has_file; begun = is.up.begun }; put = is.put }

-- one run went on, and the others stay
module _ (place : ℕ) (so sn : SiteView) (engines : List EngineView) (v w : EngineView) (there : slice_get engines place ≡ Some v) (few : length engines ≤ 16) (stay : LeavesRest place so sn) where
  other_stays : (k : ℕ) (x : EngineView) → slice_get engines k ≡ Some x → k ≢ place → StaysAt so.disk sn.disk (file_of k)
  other_stays k x at ne = stay.files (file_of k) (journals_differ k place (low_place engines k x few at) (low_place engines place v few there) (λ e. ne (sym e)))

  pub stands_after : EachRun engines (StandsAt so) → IsWhole w (seen_from place sn) → EachRun (slice_set engines place w) (StandsAt sn)
  stands_after stands whole k x at = elim (get_set engines place k w x at) [
    | inl here ↦ subst (λ (n : ℕ). IsWhole x (seen_from n sn)) (sym here.0) (subst (λ (y : EngineView). IsWhole y (seen_from place sn)) here.1 whole)
    | inr other ↦ whole_stays k x so sn stay.on (other_stays k x other.1 other.0) (stands k x other.1)
  ]

  pub below_after : IsBelow place so engines → IsWhole w (seen_from place sn) → IsBelow place sn (slice_set engines place w)
  below_after is whole = record {
    few = let same = length_set engines place w in omega (arith, same, few);
    stands = stands_after is.stands whole;
    settled = λ k x lt at. elim (get_set engines place k w x at) [
      | inl here ↦ absurd (omega (arith, here.0, lt))
      | inr other ↦ settled_stays k x so sn stay.on (other_stays k x other.1 other.0) (is.settled k x lt other.1)
    ];
  }
