-- Scaffold: The parts of a call of the filters' end: the opening, a command that is taken, and one that is handed to its filter.
use Rattle.std.specs.Prelude.{◌≡◌, ◌≢◌, ℕ, suc, ◌+◌, ◌*◌, ◌-◌, ◌<◌, ◌≤◌, Bool, true, false, List, [], length, All, Option, Some, None, IsTrue, IsErrOf, OnOk, OnErr, Result, Ok, Err, slice_get, ⊤}
use Rattle.cacao_site.specs.Counts.{Rose}
use Rattle.cacao_site.specs.Sound.{IsSound}
use Rattle.cacao_site.specs.View.{SiteView}
use Rattle.cacao_site.specs.declared.parcel.Parcel.{Parcel}
use Rattle.run_journal.specs.Durable.{header_bytes, header_calls}
use Rattle.run_records.specs.Ranges.{last_moment}
use Rattle.run_records.specs.declared.act.Act.{Act}
use Rattle.flow_core.specs.declared.flow_errors.LimitKind.TheVariants as limit
use Rattle.flow_laws.specs.Images.{IsAgent}
use Rattle.slpf_actuator.specs.ActuatorView.{ActuatorView}
use Rattle.slpf_actuator.specs.declared.error.ActError.{ActError}
use Rattle.slpf_actuator.specs.declared.error.ActError.TheVariants as act_error
use Rattle.flow_world_steps.specs.Grown.{acts_of}
use Rattle.flow_world_steps.specs.Sides.{FiltersReady}
use Rattle.flow_world_steps.specs.Sums.{total}
use Rattle.flow_world_steps.specs.Written.{act_bytes}
use Rattle.flow_world_parts.specs.Acting.{OneAnswers}
use Rattle.flow_world_parts.specs.Openings.{OpensFilters, RefusesFilters, blocks_to}
use Rattle.flow_world_parts.specs.declared.error.WorldError.{WorldError}
use Rattle.flow_world_parts.specs.declared.error.WorldError.TheVariants as world
use Rattle.oc2_wire_laws.specs.Ends.{IsFiltersStart}
use Rattle.oc2_wire_laws.specs.Since.{FiltersKeepSince, takes_of}
use Rattle.oc2_wire_site.specs.Wires.{WireView}
use Rattle.oc2_wire_site.specs.declared.link_state.LinkState.{LinkState}
use Rattle.oc2_wire_site.specs.declared.link_state.LinkState.TheVariants as state
use Rattle.oc2_wire.specs.Answering.{ReadsNoLine, Served, Serves, TellsLink, found_by, most_idle}
use Rattle.oc2_wire.specs.Turns.{Asks, Goes}
use Rattle.oc2_wire.specs.declared.error.WireError.{WireError}
use Rattle.oc2_wire.specs.declared.error.WireError.TheVariants as error
use Rattle.oc2_wire.specs.declared.tally.Tally.{Tally}

-- ---- errors

-- those of a filter's file
abbrev pub MayRefuseOpening : WorldError → Type 0
MayRefuseOpening world.Disk = ⊤
MayRefuseOpening (world.Damaged file place) = ⊤
MayRefuseOpening world.Memory = ⊤
MayRefuseOpening other = ⊥

-- the refusal of a call one of whose filters refused a command
abbrev pub act_error_of : ActError → WireError
act_error_of act_error.Disk = error.Disk
act_error_of (act_error.Full needed) = error.Limit limit.Journal
act_error_of other = error.Memory

-- how a call ends where no further command comes
abbrev pub end_of : LinkState → Result (Option Parcel) WireError
end_of state.Ended = Ok None
end_of state.TooLong = Err error.TooLong
end_of state.Failed = Err error.Link
end_of other = Err error.Memory

-- ---- the opening

abbrev pub OpenedAs : Result (List ActuatorView) WorldError → SiteView → SiteView → Type 0
OpenedAs (Ok fs) old new = OpensFilters 16 old new fs
OpenedAs (Err error) old new = RefusesFilters error old new

pub record Opened (r : Result (List ActuatorView) WorldError) (old new : WireView) : Type 0 where
  pub opened : OpenedAs r old.site new.site
  pub reads_none : ReadsNoLine old new
  pub whole : OnErr r (new.lines.state ≡ state.Whole)

-- ---- a command that is taken

-- a wire of the filters' end, before a take; this number of lines had been passed over when the call began
pub record IsAnswering (first : ℕ) (wire : WireView) : Type 0 where
  pub answering : wire.asking ≡ false
  pub found_none : found_by wire.lines.state ≡ 0
  pub since : first ≤ wire.lines.passed

-- ---- a command that is handed on

-- its filter did so at this moment, and no line was read
pub record Handed (r : Result Bool ActError) (parcel : Parcel) (moment : ℕ) (old new : WireView) (fs gs : List ActuatorView) : Type 0 where
  pub answers : OneAnswers r parcel moment old.site new.site fs gs
  pub filters : OnOk r (FiltersReady gs new.site)
  pub reads_none : ReadsNoLine old new
  pub whole : OnErr r (new.lines.state ≡ state.Whole)

-- the clock was asked, and then the filter, with this answer
pub record HandsOn (r : Result Bool ActError) (parcel : Parcel) (old new : WireView) (fs gs : List ActuatorView) : Type 0 where
  pub middle : WireView
  pub asks : Asks old middle
  pub in_time : asks.now ≤ last_moment
  pub before : IsSound middle.site
  pub after : IsSound new.site
  pub handed : Handed r parcel asks.now middle new fs gs

-- the present moment is past the last one
pub record IsLate (old new : WireView) (fs gs : List ActuatorView) : Type 0 where
  pub asks : Asks old new
  pub late : last_moment < asks.now
  pub filters : gs ≡ fs

-- how a command ended
abbrev pub AnsweredAs : Result Bool WireError → Parcel → WireView → WireView → List ActuatorView → List ActuatorView → Type 0
AnsweredAs (Ok acted) parcel old new fs gs = HandsOn (Ok acted) parcel old new fs gs
AnsweredAs (Err error.Disk) parcel old new fs gs = HandsOn (Err act_error.Disk) parcel old new fs gs
AnsweredAs (Err (error.Limit limit.Moment)) parcel old new fs gs = IsLate old new fs gs
AnsweredAs (Err (error.Limit limit.Journal)) parcel old new fs gs = (needed : ℕ) × HandsOn (Err (act_error.Full needed)) parcel old new fs gs
AnsweredAs (Err error.Memory) parcel old new fs gs = HandsOn (Err act_error.Memory) parcel old new fs gs
AnsweredAs (Err other) parcel old new fs gs = ⊥

-- ---- so far

-- what the site keeps, and how many parcels it took
pub record KeptTo (start site : SiteView) : Type 0 where
  pub kept : FiltersKeepSince start site
  pub more : takes_of start ≤ takes_of site

-- the most acts that are appended to one file
abbrev pub most_in_file : ℕ
most_in_file = 67_108_864

-- these were appended to a file that has at most so many acts
pub record IsShort (v : ActuatorView) (acts : List Act) : Type 0 where
  pub few : length acts ≤ most_in_file
  pub within : length acts ≤ length v.acts

-- A call between two commands, or with one at hand.
pub record Serving (old : WireView) (opened : SiteView) (now : WireView) (filters : List ActuatorView) (acts : List (ℕ × Act)) (repeats : ℕ)
    (at_hand : List (ℕ × Parcel)) : Type 0 where
  pub serves : Serves old opened now filters acts repeats at_hand None
  pub ready : FiltersReady filters now.site
  pub steady : now.site.disk.faults ≡ old.site.disk.faults
  pub calls : IsTrue old.site.disk.told → now.site.disk.calls + total (λ (v : ActuatorView). header_calls v.prepared) filters
      ≤ old.site.disk.calls + 5 * 16 + blocks_to 16 opened.disk + 4 * length acts
  pub written : now.site.disk.written + total (λ (v : ActuatorView). header_bytes v.prepared) filters
      ≤ old.site.disk.written + 9 * 16 + total act_bytes acts
  pub agents : All (λ (e : ℕ × Act). IsAgent e.0) acts
  pub short : (k : ℕ) (v : ActuatorView) → slice_get filters k ≡ Some v → IsShort v (acts_of (suc k) acts)
  pub found_none : found_by now.lines.state ≡ 0
  pub keeps : IsTrue old.site.disk.told → IsFiltersStart old.site → KeptTo old.site now.site

-- a call that goes on, with its counts
pub record GoesOnWith (old now : WireView) (filters : List ActuatorView) (tally : Tally) : Type 0 where
  pub opened : SiteView
  pub acts : List (ℕ × Act)
  pub serving : Serving old opened now filters acts tally.repeated []
  pub many : tally.acted ≡ length acts
  pub calm : tally.repeated ≤ most_idle

-- one command more
abbrev pub counted : Bool → Tally → Tally
counted true tally = record tally { acted = tally.acted + 1 }
counted false tally = record tally { repeated = tally.repeated + 1 }

-- how the call ended, with all that its contract says
pub record Ended (r : Result ℕ WireError) (old new : WireView) : Type 0 where
  pub served : Served r old new
  pub keeps : IsTrue old.site.disk.told → IsFiltersStart old.site → FiltersKeepSince old.site new.site
  pub disk : IsErrOf r error.Disk → Rose old.site.disk.faults new.site.disk.faults
  pub steady : r ≢ Err error.Disk → new.site.disk.faults ≡ old.site.disk.faults
  pub answering : new.asking ≡ false
  pub lines : old.lines.passed ≤ new.lines.passed
  pub link : r ≢ Err error.Flooded → TellsLink r new

-- and how it went
pub record EndedInTurns (r : Result ℕ WireError) (old new : WireView) : Type 0 where
  pub ended : Ended r old new
  pub turns : Goes r old new
