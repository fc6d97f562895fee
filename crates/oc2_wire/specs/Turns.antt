-- Promise: What became of each command that a call of the filters' end took, turn by turn.
use Rattle.std.specs.Prelude.{◌≡◌, ◌≢◌, ◌⊎◌, ℕ, ◌+◌, ◌-◌, ◌<◌, ◌≤◌, List, Option, Some, None, Result, Ok, Err, slice_get, slice_set}
use Rattle.cacao_site.specs.SiteCalls.{Reaches, TakesOnly, TakesSome}
use Rattle.cacao_site.specs.Sound.{IsSound}
use Rattle.cacao_site.specs.declared.parcel.Parcel.{Parcel}
use Rattle.run_records.specs.Ranges.{last_moment}
use Rattle.flow_core.specs.declared.flow_errors.LimitKind.TheVariants as limit
use Rattle.slpf_actuator.specs.ActuatorCalls.{Acts, Refuses, Repeats}
use Rattle.slpf_actuator.specs.ActuatorView.{ActuatorView}
use Rattle.slpf_actuator.specs.declared.error.ActError.{ActError}
use Rattle.slpf_actuator.specs.declared.error.ActError.TheVariants as act_error
use Rattle.flow_world_steps.specs.Handled.{IsCommand}
use Rattle.flow_world_parts.specs.Openings.{OpensFilters, RefusesFilters}
use Rattle.flow_world_parts.specs.declared.error.WorldError.{WorldError}
use Rattle.flow_world_parts.specs.declared.error.WorldError.TheVariants as world
use Rattle.oc2_wire_site.specs.LineLinks.{BreaksOver, TakesCommand}
use Rattle.oc2_wire_site.specs.Wires.{WireView}
use Rattle.oc2_wire_site.specs.declared.link_state.LinkState.{LinkState}
use Rattle.oc2_wire_site.specs.declared.link_state.LinkState.TheVariants as state
use Rattle.oc2_wire.specs.Answering.{ReadsNoLine, most_idle}
use Rattle.oc2_wire.specs.declared.error.WireError.{WireError}
use Rattle.oc2_wire.specs.declared.error.WireError.TheVariants as error

-- ---- a take

-- a command was taken: that of the next line which carries one; each line before it was answered
pub record TakesNext (parcel : Parcel) (old new : WireView) : Type 0 where
  pub sound : IsSound old.site
  pub only : TakesOnly old.site new.site
  pub some : TakesSome parcel old.site new.site
  pub is_command : IsCommand parcel
  pub reads : TakesCommand parcel old.lines new.lines
  pub asking : new.asking ≡ old.asking
  pub later : old.lines.passed ≤ new.lines.passed
  pub whole : new.lines.state ≡ state.Whole

-- none was, as the link broke, or was broken before
pub record TakesNothing (old new : WireView) : Type 0 where
  pub sound : IsSound old.site
  pub only : TakesOnly old.site new.site
  pub taken : new.site.link.taken ≡ old.site.link.taken
  pub reads : old.lines.state ≡ state.Whole → BreaksOver old.lines new.lines
  pub broken : old.lines.state ≢ state.Whole → new.lines ≡ old.lines
  pub asking : new.asking ≡ old.asking
  pub later : old.lines.passed ≤ new.lines.passed

abbrev pub TakesAs : Option Parcel → WireView → WireView → Type 0
TakesAs None old new = TakesNothing old new
TakesAs (Some parcel) old new = TakesNext parcel old new

-- none was taken, as the link is so
pub record EndsAs (at : LinkState) (old new : WireView) : Type 0 where
  pub takes : TakesNothing old new
  pub is : new.lines.state ≡ at

-- With the lines passed over since there were `first` of them, and the commands without a new act, it is a flood, or not. This is
-- tested behind each take, before all else.
pub record Overflowed (first repeats : ℕ) (old new : WireView) : Type 0 where
  pub taken : Option Parcel
  pub takes : TakesAs taken old new
  pub many : most_idle ≤ new.lines.passed - first + repeats

abbrev pub IsCalm : ℕ → ℕ → WireView → Type 0
IsCalm first repeats new = new.lines.passed - first + repeats < most_idle

-- how a take ended
abbrev pub TookAs : Result (Option Parcel) WireError → ℕ → ℕ → WireView → WireView → Type 0
TookAs (Ok (Some parcel)) first repeats old new = TakesNext parcel old new × IsCalm first repeats new
TookAs (Ok None) first repeats old new = EndsAs state.Ended old new × IsCalm first repeats new
TookAs (Err error.Flooded) first repeats old new = Overflowed first repeats old new
TookAs (Err error.TooLong) first repeats old new = EndsAs state.TooLong old new × IsCalm first repeats new
TookAs (Err error.Link) first repeats old new = EndsAs state.Failed old new × IsCalm first repeats new
TookAs (Err error.Memory) first repeats old new = EndsAs state.NoMemory old new × IsCalm first repeats new
TookAs (Err other) first repeats old new = ⊥

-- ---- a turn

-- the clock was asked for no later moment, and told this one
pub record Asks (old new : WireView) : Type 0 where
  pub sound : IsSound old.site
  pub lines : new.lines ≡ old.lines
  pub now : ℕ
  pub reaches : Reaches 0 now old.site new.site
  pub reads_none : ReadsNoLine old new

-- A command was taken, and right behind it the clock was asked. The moment that it told is within the limit, and the command came to the
-- filter of its agent; that filter is another behind it, and those of other agents stay. No further line was read.
pub record Hands (first repeats : ℕ) (old new : WireView) (fs gs : List ActuatorView) : Type 0 where
  pub parcel : Parcel
  pub taken : WireView  -- the wire behind the take
  pub took : TookAs (Ok (Some parcel)) first repeats old taken
  pub asked : WireView  -- the wire behind the clock
  pub asks : Asks taken asked
  pub in_time : asks.now ≤ last_moment
  pub v : ActuatorView
  pub w : ActuatorView
  pub there : slice_get fs (parcel.agent - 1) ≡ Some v
  pub others : gs ≡ slice_set fs (parcel.agent - 1) w
  pub reads_none : ReadsNoLine asked new

-- At that moment its filter acted on it, and put the reply of this act.
pub record ActsNow (first repeats : ℕ) (old new : WireView) (fs gs : List ActuatorView) : Type 0 where
  pub hands : Hands first repeats old new fs gs
  pub acts : Acts hands.v hands.w hands.parcel hands.asks.now hands.asked.site new.site

-- Its filter had acted on it, and put the reply of that act again.
pub record RepeatsNow (first repeats : ℕ) (old new : WireView) (fs gs : List ActuatorView) : Type 0 where
  pub hands : Hands first repeats old new fs gs
  pub answers : Repeats hands.v hands.w hands.parcel hands.asked.site new.site

-- Its filter refused it; an act that it may have appended is of that moment.
pub record RefusesNow (why : ActError) (first repeats : ℕ) (old new : WireView) (fs : List ActuatorView) : Type 0 where
  pub gs : List ActuatorView
  pub hands : Hands first repeats old new fs gs
  pub refuses : Refuses hands.v hands.w hands.parcel hands.asks.now why hands.asked.site new.site

-- a command was taken, and the moment that the clock told then is past the last one
pub record ComesLate (first repeats : ℕ) (old new : WireView) : Type 0 where
  pub parcel : Parcel
  pub taken : WireView
  pub took : TookAs (Ok (Some parcel)) first repeats old taken
  pub asks : Asks taken new
  pub late : last_moment < asks.now

-- The turns from the opening of the files on, of which so many repeated a reply. Each command that was taken has one turn.
pub data Turns (first : ℕ) (opened : WireView) (filters : List ActuatorView) : ℕ → WireView → List ActuatorView → Type 0 where
  none_yet : Turns first opened filters 0 opened filters
  then_acts : {repeats : ℕ} {old new : WireView} {fs gs : List ActuatorView} → Turns first opened filters repeats old fs
      → ActsNow first repeats old new fs gs → Turns first opened filters repeats new gs
  then_repeats : {repeats : ℕ} {old new : WireView} {fs gs : List ActuatorView} → Turns first opened filters repeats old fs
      → RepeatsNow first repeats old new fs gs → Turns first opened filters (repeats + 1) new gs

-- ---- a call

-- the refusal of a call that could not open a filter's file
abbrev pub opening_error : WorldError → WireError
opening_error world.Disk = error.Disk
opening_error (world.Damaged file place) = error.Damaged file place
opening_error other = error.Memory

-- a file could not be opened, and nothing was taken
pub record OpensNone (r : Result ℕ WireError) (old new : WireView) : Type 0 where
  pub why : WorldError
  pub is : r ≡ Err (opening_error why)
  pub refuses : RefusesFilters why old.site new.site

-- the files were opened, and these turns followed
pub record HasTurns (old new : WireView) (repeats : ℕ) (filters : List ActuatorView) : Type 0 where
  pub opened : WireView  -- the wire behind the opening
  pub first : List ActuatorView
  pub opens : OpensFilters 16 old.site opened.site first
  pub reads_none : ReadsNoLine old opened
  pub turns : Turns old.lines.passed opened first repeats new filters

-- how the last turn went: no command was taken, or it was a flood, or the last command was refused
abbrev pub EndsBy : Result ℕ WireError → ℕ → ℕ → WireView → WireView → List ActuatorView → Type 0
EndsBy (Ok acted) first repeats old new filters = TookAs (Ok None) first repeats old new
EndsBy (Err error.Disk) first repeats old new filters = RefusesNow act_error.Disk first repeats old new filters
EndsBy (Err (error.Limit limit.Moment)) first repeats old new filters = ComesLate first repeats old new
EndsBy (Err (error.Limit limit.Journal)) first repeats old new filters = (needed : ℕ) × RefusesNow (act_error.Full needed) first repeats old new filters
EndsBy (Err error.Memory) first repeats old new filters = TookAs (Err error.Memory) first repeats old new ⊎ RefusesNow act_error.Memory first repeats old new filters
EndsBy (Err other) first repeats old new filters = TookAs (Err other) first repeats old new

-- the files were opened, and each command that was taken was answered in its turn, but the last one where the call refuses
pub record AnswersInTurn (r : Result ℕ WireError) (old new : WireView) : Type 0 where
  pub last : WireView  -- the wire before the last turn
  pub repeats : ℕ
  pub filters : List ActuatorView
  pub so_far : HasTurns old last repeats filters
  pub ends : EndsBy r old.lines.passed repeats last new filters

-- how a call went
abbrev pub Goes : Result ℕ WireError → WireView → WireView → Type 0
Goes r old new = OpensNone r old new ⊎ AnswersInTurn r old new
