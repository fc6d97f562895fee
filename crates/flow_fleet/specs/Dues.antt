-- Scaffold: What a fleet does in a turn whose take found no parcel: the first of these that applies.
use Rattle.std.specs.Prelude.{◌≡◌, ℕ, List, None}
use Rattle.flow_core_rules.specs.Moves.{due}
use Rattle.flow_engine.specs.EngineView.{EngineView}
use Rattle.flow_fleet_steps.specs.Turns.{HasNoMove, HasNoResend, HasNoneOverdue, IsLeastNext, IsTurnOf}
use Rattle.flow_fleet_steps.specs.Worlds.{EachRun}
use Rattle.flow_fleet.specs.Searches.{IsFirstAsked, IsFirstOverdue, IsFirstResend}
use Rattle.flow_fleet.specs.declared.due.FleetDue.{FleetDue}
use Rattle.flow_fleet.specs.declared.due.FleetDue.TheVariants as kind

-- no run has a move, and this is the first place with an issue that is overdue
pub record IsToExpire (engines : List EngineView) (now place : ℕ) : Type 0 where
  pub idle : EachRun engines (λ other. HasNoMove now)
  pub first : IsFirstOverdue engines now place

-- none is overdue either, and this resend is the first, by place, whose moment has come
pub record IsToResend (engines : List EngineView) (now place moment issue : ℕ) : Type 0 where
  pub idle : EachRun engines (λ other. HasNoMove now)
  pub on_time : EachRun engines (λ other. HasNoneOverdue now)
  pub first : IsFirstResend engines now place moment issue

-- nothing is to be done at this moment
pub record IsUpToDate (engines : List EngineView) (now : ℕ) : Type 0 where
  pub idle : EachRun engines (λ other. HasNoMove now)
  pub on_time : EachRun engines (λ other. HasNoneOverdue now)
  pub none : EachRun engines (λ other. HasNoResend now)

-- then this moment comes next
pub record IsToWait (engines : List EngineView) (now moment : ℕ) : Type 0 where
  pub up_to_date : IsUpToDate engines now
  pub next : IsLeastNext engines moment

-- or nothing is due, and this is the first question, by place
pub record IsToAsk (engines : List EngineView) (now run issue : ℕ) : Type 0 where
  pub up_to_date : IsUpToDate engines now
  pub nothing_due : EachRun engines (λ place v. due v.history.seen ≡ None)
  pub first : IsFirstAsked engines run issue

-- each exactly where the runs stand so, the next move being looked for from this place on (no two hold together)
abbrev pub IsFleetDue : List EngineView → ℕ → ℕ → FleetDue → Type 0
IsFleetDue engines turn now (kind.Move place) = IsTurnOf engines turn now place
IsFleetDue engines turn now (kind.Expire place) = IsToExpire engines now place
IsFleetDue engines turn now (kind.Resend place moment issue) = IsToResend engines now place moment issue
IsFleetDue engines turn now (kind.Wait moment) = IsToWait engines now moment
IsFleetDue engines turn now (kind.Ask run issue) = IsToAsk engines now run issue
