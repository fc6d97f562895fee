-- Promise: What a fleet keeps in view: the rack, the engine of each run, the filters, what it remembers, and what it has to do next.
use Rattle.std.specs.Prelude.{◌≡◌, ◌<◌, ◌==◌, ℕ, List, [], Option, slice_get, Some, if◌then◌else◌}
use Rattle.cacao_site.specs.View.{SiteView}
use Rattle.run_records.specs.declared.act.Act.{Act}
use Rattle.run_records.specs.declared.record.Record.{Record}
use Rattle.flow_world_steps.specs.EngineView.{EngineView}
use Rattle.slpf_actuator.specs.ActuatorView.{ActuatorView}
use Rattle.flow_world_steps.specs.Worlds.{Notes, Phase, World}
use Rattle.flow_fleet_laws.specs.Views.{seen_from}

-- what was noted of one run
pub record Own : Type 0 where
  pub put : List ℕ  -- the issues whose commands were put, in order
  pub unsure : Option Record  -- one that may stand in the journal behind the others: the disk failed while it was appended

-- what was noted of all runs together
pub record Shared : Type 0 where
  pub left : ℕ  -- how many records more may be appended
  pub turn : ℕ  -- the place from which the next move is looked for
  pub acted : List (ℕ × Act)  -- the acts that were appended, each with its agent
  pub unsure_act : Option (ℕ × Act)  -- one that may stand in its filter's file: the filter refused meanwhile
  pub ignored : ℕ  -- the parcels that changed no journal
  pub asked : Option ℕ  -- the moment that the clock was asked for last

pub record FleetWorld : Type 0 where
  pub site : SiteView  -- the rack
  pub engines : List EngineView  -- of the runs, by place
  pub own : ℕ → Own  -- place: what was noted of the run there
  pub filters : List ActuatorView  -- of agents 1 to 16, in order
  pub notes : Shared
  pub phase : Phase
  pub place : ℕ  -- of the run whose line is owed, or that refused

-- what was noted, as one run would note it; no operator answers
abbrev pub notes_of : Own → Shared → Notes
notes_of own notes = record {
  answers = [];
  left = notes.left;
  unsure = own.unsure;
  acted = notes.acted;
  unsure_act = notes.unsure_act;
  put = own.put;
  ignored = notes.ignored;
  asked = notes.asked;
}

-- the fleet as the run at a place sees it: a session of its own, over the rack with its journal as file 0
abbrev pub part : ℕ → EngineView → Own → FleetWorld → World
part place v own w = record {
  site = seen_from place w.site;
  engine = v;
  filters = w.filters;
  notes = notes_of own w.notes;
  phase = w.phase;
}

-- what was noted of the run at one place is now this
abbrev pub set_own : ℕ → Own → (ℕ → Own) → ℕ → Own
set_own place own owns other = if other == place then own else owns other

-- the run at this place has P
pub record At (w : FleetWorld) (place : ℕ) (P : EngineView → Type 0) : Type 0 where
  pub v : EngineView
  pub there : slice_get w.engines place ≡ Some v
  pub has : P v

-- each run has P
abbrev pub EachRun : List EngineView → (ℕ → EngineView → Type 0) → Type 0
EachRun engines P = (place : ℕ) (v : EngineView) → slice_get engines place ≡ Some v → P place v

-- each run at a lower place has P
abbrev pub EachBelow : ℕ → List EngineView → (ℕ → EngineView → Type 0) → Type 0
EachBelow n engines P = (place : ℕ) (v : EngineView) → place < n → slice_get engines place ≡ Some v → P place v
