-- Promise: What stands at each world of a session that goes on: files, a run that has begun, the commands that were put, and the clock.
use Rattle.std.specs.Prelude.{◌≡◌, ◌≢◌, true}
use Rattle.flow_core_rules.specs.Changes.{is_in_time}
use Rattle.flow_world_steps.specs.Sides.{AllPut, FiltersReady, IsUp, IsWhole}
use Rattle.flow_world_steps.specs.Steps.{Steps}
use Rattle.flow_world_steps.specs.Worlds.{World, IsGoing, opened, looked}

-- the journal's file holds its records, and that of each filter its acts
pub record AllStand (w : World) : Type 0 where
  pub engine : IsWhole w.engine w.site
  pub filters : FiltersReady w.filters w.site

-- So it stays while a session goes on,
abbrev pub EachStands : Type 0
EachStands = (a b : World) → AllStand a → Steps a b → IsGoing b.phase → AllStand b

-- and a run that has begun stays begun.
abbrev pub EachUp : Type 0
EachUp = (a b : World) → IsUp a.engine a.site → Steps a b → IsGoing b.phase → IsUp b.engine b.site

-- where a turn has looked for a parcel, each issue that waits for a filter was put
abbrev pub AllPutWhileLooked : World → Type 0
AllPutWhileLooked w = w.phase ≡ looked → AllPut w.engine

abbrev pub EachAllPut : Type 0
EachAllPut = (a b : World) → AllPutWhileLooked a → Steps a b → AllPutWhileLooked b

-- once the clock was asked at the opening, a record may come now: the clock is not before the last one, and not past the limit
abbrev pub InTime : World → Type 0
InTime w = IsGoing w.phase → w.phase ≢ opened → is_in_time w.engine.history.seen w.site.clock.now ≡ true

abbrev pub EachInTime : Type 0
EachInTime = (a b : World) → InTime a → Steps a b → InTime b
