-- Promise: How many of the parcels that a fleet takes change no journal: as many as there are more of them than of acts and Replies.
use Rattle.std.specs.Prelude.{◌≡◌, ◌↔◌, ℕ, ◌+◌, ◌≤◌, List, [], ◌++◌, length}
use Rattle.std.proofs.Common.{inl, inr}
use Rattle.cacao_site.specs.LinkCalls.{GainsAll}
use Rattle.cacao_site.specs.View.{SiteView}
use Rattle.cacao_site.specs.declared.parcel.Parcel.{Parcel}
use Rattle.flow_engine.specs.EngineView.{EngineView}
use Rattle.flow_world_steps.specs.Handled.{IsAtHand, one_reply}
use Rattle.flow_world_steps.specs.Sums.{total}
use Rattle.flow_world_steps.specs.Turns.{most_ignored}
use Rattle.flow_world_laws.specs.Parcels.{Took}
use Rattle.flow_fleet_steps.specs.Openings.{Runs}
use Rattle.flow_fleet_steps.specs.Steps.{FleetSteps}
use Rattle.flow_fleet_steps.specs.Worlds.{FleetWorld}
use Rattle.flow_fleet_steps.specs.declared.close.FleetClose.{FleetClose}
use Rattle.flow_fleet_steps.specs.declared.close.FleetClose.TheVariants as close
use Rattle.flow_fleet_steps.specs.declared.error.FleetError.{FleetError}
use Rattle.flow_fleet.specs.Fleets.{FleetClosed, FleetRefused}

-- the Replies in a run's journal
abbrev pub replies_of : EngineView → ℕ
replies_of v = total one_reply v.history.records

-- Of these parcels so many brought nothing: each of the others brought one act, or one Reply in the journal of a run.
abbrev pub BringNothing : ℕ → List (ℕ × Parcel) → FleetWorld → FleetWorld → Type 0
BringNothing many parcels a b =
    length parcels + length a.notes.acted + total replies_of a.engines
    ≡ many + length b.notes.acted + total replies_of b.engines

-- The parcels that were handed on, and that one which is in hand or was when the fleet refused. As many as the count has more
-- brought nothing.
pub record FleetCounts (a b : FleetWorld) : Type 0 where
  pub handled : List (ℕ × Parcel)
  pub at_hand : List (ℕ × Parcel)
  pub takes : GainsAll a.site.link.taken (handled ++ at_hand) b.site.link.taken
  pub open_one : IsAtHand b.phase at_hand
  pub many : ℕ
  pub bring : BringNothing many handled a b
  pub counted : b.notes.ignored ≡ a.notes.ignored + many

abbrev pub EachFleetCounts : Type 0
EachFleetCounts = (a b : FleetWorld) → IsAtHand a.phase [] → FleetSteps a b → FleetCounts a b

-- ---- a whole fleet

-- It closed, and took these parcels: it is flooded exactly where 1,000,000 of them brought nothing, and never more did.
pub record FloodedBy (how : FleetClose) (taken : List (ℕ × Parcel)) (a b : FleetWorld) : Type 0 where
  pub many : ℕ
  pub bring : BringNothing many taken a b
  pub few : many ≤ most_ignored
  pub exact : (how ≡ close.Flooded) ↔ (many ≡ most_ignored)

abbrev pub EachFleetCloseCounts : Type 0
EachFleetCloseCounts =
    (how : FleetClose) (runs : Runs) (most : ℕ) (old new : SiteView) (taken : List (ℕ × Parcel))
    → (closed : FleetClosed how runs most old new) → Took old new taken → FloodedBy how taken closed.went.start closed.went.to

-- It refused, and took these parcels, of which it had handed on all, or all but the last: at most 1,000,000 brought nothing.
pub record RefusedBefore (taken : List (ℕ × Parcel)) (a b : FleetWorld) : Type 0 where
  pub handled : List (ℕ × Parcel)
  pub at_hand : List (ℕ × Parcel)
  pub are : taken ≡ handled ++ at_hand
  pub one : length at_hand ≤ 1
  pub many : ℕ
  pub bring : BringNothing many handled a b
  pub few : many ≤ most_ignored

-- while files were opened it took none
abbrev pub CountsRefused : {error : FleetError} {runs : Runs} {most : ℕ} {old new : SiteView}
    → List (ℕ × Parcel) → FleetRefused error runs most old new → Type 0
CountsRefused taken (inl opening) = taken ≡ []
CountsRefused taken (inr later) = RefusedBefore taken later.went.start later.went.to

abbrev pub EachFleetRefusalCounts : Type 0
EachFleetRefusalCounts =
    (error : FleetError) (runs : Runs) (most : ℕ) (old new : SiteView) (taken : List (ℕ × Parcel))
    → (refused : FleetRefused error runs most old new) → Took old new taken → CountsRefused taken refused
