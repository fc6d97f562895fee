-- Promise: What is under way for each issue that was put and waits.
use Rattle.std.specs.Prelude.{◌≡◌, ◌≢◌, ◌⊎◌, ℕ, List, [], None, IfSome, IsSome, Contains}
use Rattle.cacao_site.specs.Counts.{DidNotRise}
use Rattle.cacao_site.specs.declared.parcel.Parcel.{Parcel}
use Rattle.oc2_msg.specs.declared.answers.Answer.{Answer}
use Rattle.flow_core_rules.specs.declared.issues.Issue.{Issue}
use Rattle.flow_engine.specs.HistoryView.{HistoryView}
use Rattle.flow_engine.specs.EngineCalls.{IsReplyTo, IsWaiting, command_of}
use Rattle.flow_engine.specs.OpenIssues.{puts_of}
use Rattle.flow_world_steps.specs.Steps.{Expires, IsAddressed, Steps}
use Rattle.flow_world_steps.specs.Worlds.{World, Phase, HasAllFilters, IsGoing, holds, looked}

-- the parcel is the command of an issue that waits
pub record IsItsCommand (h : HistoryView) (issue : ℕ) (parcel : Parcel) : Type 0 where
  pub it : Issue
  pub waiting : IsWaiting h.seen issue it
  pub is : parcel ≡ command_of h issue it

-- the parcel is a final reply to it
pub record IsItsReply (h : HistoryView) (issue : ℕ) (parcel : Parcel) : Type 0 where
  pub of_issue : parcel.issue ≡ issue
  pub read : Answer
  pub to : IsReplyTo h parcel read

-- one of these, as it is handed on
pub record Serves (h : HistoryView) (issue : ℕ) (parcel : Parcel) : Type 0 where
  pub addressed : IsAddressed parcel
  pub kind : IsItsCommand h issue parcel ⊎ IsItsReply h issue parcel

-- such a parcel is pending
pub record IsPending (h : HistoryView) (issue : ℕ) (pending : List Parcel) : Type 0 where
  pub parcel : Parcel
  pub has : Contains pending parcel
  pub serves : Serves h issue parcel

-- such a parcel is in hand
pub record IsInHand (h : HistoryView) (issue : ℕ) (phase : Phase) : Type 0 where
  pub beat : ℕ
  pub parcel : Parcel
  pub is : phase ≡ holds beat parcel
  pub serves : Serves h issue parcel

-- for each issue that was put and waits one is in hand, or pending where that is told
pub record IsUnderWay (w : World) : Type 0 where
  pub each : IsGoing w.phase → (issue : ℕ) → puts_of w.engine.puts issue ≢ None
      → IsInHand w.engine.history issue w.phase ⊎ IfSome w.site.link.pending (IsPending w.engine.history issue)

-- from a world where nothing was put and each agent's filter stands, while no parcel is lost, doubled or held back
abbrev pub EachUnderWay : Type 0
EachUnderWay =
    (a b : World) → HasAllFilters a → a.engine.puts ≡ [] → DidNotRise a.site.counts.mishaps b.site.counts.mishaps → Steps a b
    → IsUnderWay b

-- So no issue expires, where pending parcels are told.
abbrev pub NoExpiry : Type 0
NoExpiry =
    (a old new : World) → HasAllFilters a → a.engine.puts ≡ [] → a.phase ≢ looked
    → DidNotRise a.site.counts.mishaps old.site.counts.mishaps → Steps a old → IsSome old.site.link.pending
    → (issue : ℕ) → Expires issue old new → ⊥
