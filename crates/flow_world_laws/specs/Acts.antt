-- Promise: How each act that a session appended came: by one call, on the command in hand, and at which moment.
use Rattle.std.specs.Prelude.{◌≡◌, ◌⊎◌, ℕ, ◌≤◌, List, ◌∷◌, ◌++◌, Some}
use Rattle.cacao_site.specs.View.{SiteView}
use Rattle.cacao_site.specs.declared.parcel.Parcel.{Parcel}
use Rattle.run_records.specs.declared.act.Act.{Act}
use Rattle.flow_core_rules.specs.Givens.{Given}
use Rattle.flow_engine_answers.specs.declared.answers.OperatorAnswer.{OperatorAnswer}
use Rattle.slpf_actuator.specs.ActLists.{moment_of_last}
use Rattle.slpf_actuator.specs.ActuatorView.{ActuatorView, act_for, moment_for}
use Rattle.flow_world_steps.specs.Steps.{ActsOn, Steps}
use Rattle.flow_world_steps.specs.Unsure.{UnsureByFilter}
use Rattle.flow_world_steps.specs.Worlds.{World}
use Rattle.flow_world.specs.Sessions.{Went}

-- ---- moments

-- The moment of an act is the clock's at its call, or that of the last act of its filter, if that is later. So it is never before
-- that one; and it is that one, or lies between those of the clock at the start and on return.
pub record IsActInTime (from to : SiteView) (now : ℕ) (acts : List Act) (act : Act) : Type 0 where
  pub at : act.moment ≡ moment_for acts now
  pub behind : moment_of_last acts ≤ act.moment
  pub no_earlier : from.clock.now ≤ act.moment
  pub within : (act.moment ≤ to.clock.now) ⊎ (act.moment ≡ moment_of_last acts)

-- ---- by which call

-- One call appended the act, behind those that the session had appended: the filter of its agent acted on the command in hand.
pub record ActedOn (a b : World) (from to : SiteView) (front : List (ℕ × Act)) (e : ℕ × Act) : Type 0 where
  pub old : World
  pub new : World
  pub before : Steps a old
  pub after : Steps new b
  pub beat : ℕ
  pub parcel : Parcel
  pub v : ActuatorView
  pub w : ActuatorView
  pub acts : ActsOn beat parcel v w old new
  pub was : old.notes.acted ≡ front
  pub is : e ≡ (parcel.agent, act_for v.acts parcel old.site.clock.now)
  pub in_time : IsActInTime from to old.site.clock.now v.acts e.1

-- So came each act that a session appended, whether it closed or refused. (They are what the filters gained: `grow` of `AddsUp`.)
abbrev pub EachActCame : Type 0
EachActCame =
    (given : Given) (run most : ℕ) (answers : List OperatorAnswer) (old new : SiteView)
    (went : Went given run most answers old new)
    → (front back : List (ℕ × Act)) (e : ℕ × Act) → went.to.notes.acted ≡ front ++ e ∷ back
    → ActedOn went.start went.to old new front e

-- So, and by the last call, came one that may stand behind those of its filter, which refused meanwhile.
pub record OfferedActLast (a b : World) (from to : SiteView) (e : ℕ × Act) : Type 0 where
  pub by : UnsureByFilter a b e
  pub in_time : IsActInTime from to by.old.site.clock.now by.v.acts e.1

abbrev pub EachOfferedActCame : Type 0
EachOfferedActCame =
    (given : Given) (run most : ℕ) (answers : List OperatorAnswer) (old new : SiteView)
    (went : Went given run most answers old new)
    → (e : ℕ × Act) → went.to.notes.unsure_act ≡ Some e → OfferedActLast went.start went.to old new e
