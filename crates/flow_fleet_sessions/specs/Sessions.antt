-- Promise: A session over one journal as calls in a row on a rack.
use Rattle.std.specs.Prelude.{◌⊎◌, ℕ, ◌<◌, ◌^◌, List, [], ◌∷◌, IsSome, IsTrue}
use Rattle.cacao_site.specs.Sound.{IsSound}
use Rattle.cacao_site.specs.View.{SiteView}
use Rattle.flow_core_rules.specs.Givens.{Given}
use Rattle.flow_world_steps.specs.EngineView.{EngineView}
use Rattle.flow_engine_answers.specs.declared.answers.OperatorAnswer.{OperatorAnswer}
use Rattle.slpf_actuator.specs.ActuatorView.{ActuatorView}
use Rattle.flow_world.specs.Openings.{AreOpen, OpensFilters, RefusesOpening}
use Rattle.flow_world.specs.WorldError.{WorldError}
use Rattle.flow_world.specs.Sessions.{IsStart, Went}
use Rattle.flow_laws.specs.Sessions.{IsStart as IsStartAs}
use Rattle.flow_fleet_laws.specs.Events.{Events}
use Rattle.flow_fleet_laws.specs.Fleets.{IsBystander, KeepsBystander, KeepsOne}
use Rattle.flow_fleet_laws.specs.Shrinking.{OnlyShrinks}
use Rattle.flow_fleet_laws.specs.Speeches.Form.{without_numbers}
use Rattle.flow_fleet_laws.specs.Speeches.{numbered}
use Rattle.flow_fleet_laws.specs.Views.{seen_from}

-- ---- openings leave of each file's images only such as it had

-- that of the first filters
abbrev pub FiltersOpen : Type 0
FiltersOpen = (n : ℕ) (old new : SiteView) (filters : List ActuatorView) → IsTrue old.disk.told → OpensFilters n old new filters
    → OnlyShrinks old new

-- that of all files
abbrev pub OpeningsShrink : Type 0
OpeningsShrink = (given : Given) (run : ℕ) (old new : SiteView) (v : EngineView) (filters : List ActuatorView)
    → IsTrue old.disk.told → AreOpen given run old new v filters → OnlyShrinks old new

-- and one that refused
abbrev pub RefusedOpeningsShrink : Type 0
RefusedOpeningsShrink = (error : WorldError) (given : Given) (run : ℕ) (old new : SiteView) → IsTrue old.disk.told
    → RefusesOpening error given run old new → OnlyShrinks old new

-- ---- a session

-- A session over the journal at place 0 of a rack that tells its files and its parcels, which went on or refused while files were
-- opened, is calls in a row of one run, whose lines have no number before them.
abbrev pub SessionsAreEvents : Type 0
SessionsAreEvents = (error : WorldError) (given : Given) (run most : ℕ) (answers : List OperatorAnswer) (old new : SiteView)
    → IsSound old → IsTrue old.disk.told → IsSome old.link.puts → IsSome old.link.pending
    → Went given run most answers old new ⊎ RefusesOpening error given run old new → Events without_numbers (run ∷ []) old new

-- So, where the session might begin, all agrees for its run with numbers before its lines too, if that might begin there: a fleet
-- may go on with it.
abbrev pub SessionsKeepNumbered : Type 0
SessionsKeepNumbered = (error : WorldError) (given : Given) (run most : ℕ) (answers : List OperatorAnswer) (old new : SiteView)
    → IsSound old → run < 2 ^ 64 → IsStart old run → IsStartAs (numbered run) (seen_from 0 old)
    → Went given run most answers old new ⊎ RefusesOpening error given run old new → KeepsOne numbered old new 0 run

-- And it does for each run at another place, whose number and journal are its own; its journal is left as it was.
abbrev pub SessionsKeepBystanders : Type 0
SessionsKeepBystanders = (error : WorldError) (given : Given) (run most : ℕ) (answers : List OperatorAnswer) (old new : SiteView)
    → IsSound old → run < 2 ^ 64 → IsTrue old.disk.told → IsSome old.link.puts → IsSome old.link.pending
    → Went given run most answers old new ⊎ RefusesOpening error given run old new
    → (place other : ℕ) → IsBystander (run ∷ []) old place other → KeepsBystander old new place other
