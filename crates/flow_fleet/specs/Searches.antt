-- Scaffold: What a fleet looks for among its runs, by place.
use Rattle.std.specs.Prelude.{◌≡◌, ◌≢◌, ◌⊎◌, ℕ, ◌+◌, ◌<◌, ◌≤◌, false, List, [], Option, Some, None, MatchOption, slice_get}
use Rattle.base_dues.specs.Pairs.{IsFirstBy}
use Rattle.flow_core_rules.specs.Changes.{outcome}
use Rattle.flow_core_rules.specs.Moves.{asks}
use Rattle.flow_engine.specs.EngineCalls.{put_deadline}
use Rattle.flow_engine.specs.EngineView.{EngineView}
use Rattle.flow_engine.specs.OpenIssues.{IsNextPut}
use Rattle.slpf_actuator.specs.ActuatorView.{ActuatorView}
use Rattle.flow_world_parts.specs.Openings.{HasRunAt, IsFirstRunAt}
use Rattle.flow_fleet_steps.specs.Turns.{HasNoResend, HasNoneOverdue}
use Rattle.flow_fleet_steps.specs.Worlds.{EachBelow}

-- an issue of the run at this place is overdue, and none of one at a lower place
pub record IsFirstOverdue (engines : List EngineView) (now place : ℕ) : Type 0 where
  pub v : EngineView
  pub there : slice_get engines place ≡ Some v
  pub issue : ℕ
  pub first : IsFirstBy now (put_deadline v) (Some issue)
  pub lower : EachBelow place engines (λ other. HasNoneOverdue now)

-- this resend of the run at this place is due, and none of one at a lower place
pub record IsFirstResend (engines : List EngineView) (now place moment issue : ℕ) : Type 0 where
  pub v : EngineView
  pub there : slice_get engines place ≡ Some v
  pub next : IsNextPut v.puts (Some (moment, issue))
  pub come : moment ≤ now
  pub lower : EachBelow place engines (λ other. HasNoResend now)

-- this is the least question of the first run that has one
pub record IsFirstAsked (engines : List EngineView) (run issue : ℕ) : Type 0 where
  pub place : ℕ
  pub v : EngineView
  pub there : slice_get engines place ≡ Some v
  pub least : asks v.history.seen ≡ Some issue
  pub of_run : v.history.seen.run ≡ run
  pub lower : EachBelow place engines (λ other x. asks x.history.seen ≡ None)

-- the run at this place goes on
pub record GoesOnHere (engines : List EngineView) (place : ℕ) : Type 0 where
  pub v : EngineView
  pub there : slice_get engines place ≡ Some v
  pub on : outcome v.history.seen.lists ≡ None

-- this is the first run that ended failed
pub record FailedFirst (engines : List EngineView) (run : ℕ) : Type 0 where
  pub place : ℕ
  pub v : EngineView
  pub there : slice_get engines place ≡ Some v
  pub failed : outcome v.history.seen.lists ≡ Some false
  pub of_run : v.history.seen.run ≡ run
  pub lower : EachBelow place engines (λ other x. outcome x.history.seen.lists ≢ Some false)

-- no filter has an act of this run, where its journal is empty
abbrev pub IsUnusedBy : List ActuatorView → EngineView → Type 0
IsUnusedBy filters v = v.history.records ≡ [] → (agent : ℕ) → 1 ≤ agent → agent ≤ 16 → HasRunAt filters v.history.seen.run agent → ⊥

-- the first run whose journal is empty and of which a filter has an act, and the least such filter
pub record IsFirstUsed (engines : List EngineView) (filters : List ActuatorView) (run agent : ℕ) : Type 0 where
  pub place : ℕ
  pub v : EngineView
  pub there : slice_get engines place ≡ Some v
  pub empty : v.history.records ≡ []
  pub of_run : v.history.seen.run ≡ run
  pub used : IsFirstRunAt filters run agent
  pub lower : EachBelow place engines (λ other. IsUnusedBy filters)

-- the place that is so far behind the turn, once around the circle of n places
pub record IsAround (n turn back place : ℕ) : Type 0 where
  pub low : turn + back < n → place ≡ turn + back
  pub high : n ≤ turn + back → place + n ≡ turn + back

-- the lesser of two moments, where there are two
abbrev pub IsLesser : Option ℕ → Option ℕ → Option ℕ → Type 0
IsLesser None next result = result ≡ next
IsLesser (Some a) None result = result ≡ Some a
IsLesser (Some a) (Some b) result = MatchOption result ⊥ (λ moment. (moment ≤ a) × (moment ≤ b) × ((moment ≡ a) ⊎ (moment ≡ b)))
