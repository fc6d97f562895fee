-- Promise: What a call of the filters' end of a wire does, and when each answer comes.
use Rattle.std.specs.Prelude.{◌≡◌, ◌≢◌, ◌⊎◌, ℕ, suc, ◌+◌, ◌*◌, ◌-◌, ◌<◌, ◌≤◌, true, List, [], ◌∷◌, ◌++◌, length, All, Option, Some, None, IfSome, IsOk, IsTrue, Result, Ok, Err, slice_get}
use Rattle.std.specs.Option.{option_map_or}
use Rattle.cacao_site.specs.Counts.{Rose}
use Rattle.cacao_site.specs.DiskCalls.{AllLeft, GoesOn, StaysAt}
use Rattle.cacao_site.specs.LinkCalls.{GainsAll}
use Rattle.cacao_site.specs.View.{SiteView}
use Rattle.cacao_site.specs.declared.parcel.Parcel.{Parcel}
use Rattle.run_records.specs.Ranges.{last_moment}
use Rattle.run_records.specs.declared.act.Act.{Act}
use Rattle.flow_core.specs.declared.flow_errors.LimitKind.TheVariants as limit
use Rattle.slpf_actuator.specs.ActLists.{HasActed}
use Rattle.slpf_actuator.specs.ActuatorCalls.{Overflows}
use Rattle.slpf_actuator.specs.ActuatorView.{ActuatorView}
use Rattle.flow_world_steps.specs.Grown.{HasGrown, acts_of}
use Rattle.flow_world_steps.specs.Handled.{IsCommand, IsTakenAct}
use Rattle.flow_world_steps.specs.Ready.{HoldsActsWithUnsure}
use Rattle.flow_world_steps.specs.Sums.{total}
use Rattle.flow_world_steps.specs.Written.{act_bytes}
use Rattle.flow_world_parts.specs.Openings.{OpensFilters, RefusesFilters, blocks_to}
use Rattle.flow_world_parts.specs.declared.error.WorldError.{WorldError}
use Rattle.flow_world_parts.specs.declared.error.WorldError.TheVariants as world
use Rattle.oc2_wire_site.specs.Wires.{WireView}
use Rattle.oc2_wire_site.specs.declared.link_state.LinkState.{LinkState}
use Rattle.oc2_wire_site.specs.declared.link_state.LinkState.TheVariants as state
use Rattle.oc2_wire.specs.declared.error.WireError.{WireError}
use Rattle.oc2_wire.specs.declared.error.WireError.TheVariants as error

-- ---- the wire

-- what reading lines found that breaks the link; 0 for all else
abbrev pub found_by : LinkState → ℕ
found_by state.Ended = 1
found_by state.TooLong = 2
found_by state.PassedOver = 3
found_by other = 0

-- nothing was read: no line was passed over, and reading found nothing that breaks the link
pub record ReadsNoLine (old new : WireView) : Type 0 where
  pub asking : new.asking ≡ old.asking
  pub passed : new.lines.passed ≡ old.lines.passed
  pub found_as : found_by new.lines.state ≡ found_by old.lines.state

-- so many lines passed over, and commands handled without a new act, are too many
abbrev pub most_idle : ℕ
most_idle = 1_000_000

-- the lines passed over in a call, and the commands that it handled without a new act
abbrev pub idle : WireView → WireView → ℕ → ℕ
idle old new repeats = new.lines.passed - old.lines.passed + repeats

-- ---- replies

-- the reply to a command, from its agent
pub record IsReplyOf (command reply : Parcel) : Type 0 where
  pub back : reply.back ≡ true
  pub agent : reply.agent ≡ command.agent
  pub of_run : reply.run ≡ command.run
  pub of_issue : reply.issue ≡ command.issue

-- the replies that were put for these commands, in their order: at most one for each
pub data AreReplies : List (ℕ × Parcel) → List (ℕ × Parcel) → Type 0 where
  none : AreReplies [] []
  replied : {commands replies : List (ℕ × Parcel)} (command reply : ℕ × Parcel) → AreReplies commands replies → IsReplyOf command.1 reply.1
      → AreReplies (commands ++ command ∷ []) (replies ++ reply ∷ [])
  lost : {commands replies : List (ℕ × Parcel)} (command : ℕ × Parcel) → AreReplies commands replies → AreReplies (commands ++ command ∷ []) replies

-- ---- what was done

-- the filter of a command's agent has an act of its run and issue
pub record HasAct (filters : List ActuatorView) (parcel : Parcel) : Type 0 where
  pub filter : ActuatorView
  pub there : slice_get filters (parcel.agent - 1) ≡ Some filter
  pub act : Act
  pub acted : HasActed filter.acts parcel.run parcel.issue act

-- What a call has done since its files are open, which they were on the site `opened`. It took commands, and handled each, in their order; one that it did not handle to
-- the end may be at hand. A command that it handled has its act: one that was appended, or an earlier one. A filter's file holds its
-- acts, or, where a call of the disk failed or memory was wanted, these and the act that may have been appended. Nothing was said,
-- the journal stays, and time was not asked to go on.
pub record Serves (old : WireView) (opened : SiteView) (new : WireView) (filters : List ActuatorView) (acted : List (ℕ × Act)) (repeats : ℕ)
    (at_hand : List (ℕ × Parcel)) (unsure : Option (ℕ × Act)) : Type 0 where
  pub first : List ActuatorView
  pub opens : OpensFilters 16 old.site opened first
  pub handled : List (ℕ × Parcel)
  pub takes : GainsAll old.site.link.taken (handled ++ at_hand) new.site.link.taken
  pub commands : All (λ e. IsCommand e.1) (handled ++ at_hand)
  pub have_acts : All (λ e. HasAct filters e.1) handled
  pub counted : length handled ≡ length acted + repeats
  pub grow : (k : ℕ) (v : ActuatorView) → slice_get first k ≡ Some v → HasGrown v filters k (acts_of (suc k) acted)
  pub of_acts : All (IsTakenAct handled) acted
  pub of_unsure : IfSome unsure (IsTakenAct at_hand)
  pub many : length filters ≡ 16
  pub hold : (k : ℕ) (v : ActuatorView) → slice_get filters k ≡ Some v → AllLeft (suc k) new.site.disk (HoldsActsWithUnsure (suc k) v.acts unsure)
  pub put : List (ℕ × Parcel)
  pub puts : GainsAll old.site.link.puts put new.site.link.puts
  pub replies : AreReplies handled put
  pub goes_on : GoesOn old.site.disk new.site.disk
  pub journal : StaysAt old.site.disk new.site.disk 0
  pub furthest : new.site.clock.furthest ≡ old.site.clock.furthest
  pub said : new.site.link.said ≡ old.site.link.said
  pub says : new.site.counts.says ≡ old.site.counts.says
  pub unsaid : new.site.counts.unsaid ≡ old.site.counts.unsaid
  pub calls : IsTrue old.site.disk.told
      → new.site.disk.calls ≤ old.site.disk.calls + 5 * 16 + blocks_to 16 opened.disk + 4 * length acted + 4 * length at_hand
  pub written : new.site.disk.written
      ≤ old.site.disk.written + 9 * 16 + total act_bytes acted + option_map_or act_bytes unsure 0
  pub asking : new.asking ≡ old.asking
  pub passed : old.lines.passed ≤ new.lines.passed

-- ---- ends

-- each command that was taken was handled, and no call of the disk failed
pub record ServesAll (old new : WireView) : Type 0 where
  pub opened : SiteView  -- the site behind the opening
  pub filters : List ActuatorView
  pub acted : List (ℕ × Act)
  pub repeats : ℕ
  pub serves : Serves old opened new filters acted repeats [] None
  pub steady : new.site.disk.faults ≡ old.site.disk.faults
  pub calm : idle old new repeats < most_idle

-- and so the link was found; with no memory, it was wanted for a parcel or for a line
pub record Finds (at : LinkState) (old new : WireView) : Type 0 where
  pub all : ServesAll old new
  pub found : new.lines.state ≡ at

-- too many lines and commands; the last command that was taken is not handled
pub record Floods (old new : WireView) : Type 0 where
  pub opened : SiteView  -- the site behind the opening
  pub filters : List ActuatorView
  pub acted : List (ℕ × Act)
  pub repeats : ℕ
  pub at_hand : List (ℕ × Parcel)
  pub one : length at_hand ≤ 1
  pub serves : Serves old opened new filters acted repeats at_hand None
  pub steady : new.site.disk.faults ≡ old.site.disk.faults
  pub many : most_idle ≤ idle old new repeats

-- the last command that was taken was refused
pub record RefusesLast (parcel : Parcel) (old new : WireView) : Type 0 where
  pub opened : SiteView  -- the site behind the opening
  pub filters : List ActuatorView
  pub acted : List (ℕ × Act)
  pub repeats : ℕ
  pub beat : ℕ
  pub unsure : Option (ℕ × Act)
  pub serves : Serves old opened new filters acted repeats ((beat, parcel) ∷ []) unsure
  pub calm : idle old new repeats < most_idle
  pub found_none : found_by new.lines.state ≡ 0

-- a call of the disk failed at it
pub record FailsAtLast (old new : WireView) : Type 0 where
  pub parcel : Parcel
  pub refuses : RefusesLast parcel old new
  pub rose : Rose old.site.disk.faults new.site.disk.faults

-- memory was wanted for it
pub record LacksMemoryAtLast (old new : WireView) : Type 0 where
  pub parcel : Parcel
  pub refuses : RefusesLast parcel old new
  pub steady : new.site.disk.faults ≡ old.site.disk.faults

-- the present moment was past the last one
pub record ComesTooLate (old new : WireView) : Type 0 where
  pub parcel : Parcel
  pub refuses : RefusesLast parcel old new
  pub steady : new.site.disk.faults ≡ old.site.disk.faults
  pub late : last_moment < new.site.clock.now

-- with its act the file would have been too long
pub record IsFull (old new : WireView) : Type 0 where
  pub parcel : Parcel
  pub refuses : RefusesLast parcel old new
  pub steady : new.site.disk.faults ≡ old.site.disk.faults
  pub filter : ActuatorView
  pub there : slice_get refuses.filters (parcel.agent - 1) ≡ Some filter
  pub needed : ℕ
  pub past : Overflows filter parcel new.site.clock.now needed

-- a file could not be opened, and nothing was read
pub record RefusesToOpen (why : WorldError) (old new : WireView) : Type 0 where
  pub refuses : RefusesFilters why old.site new.site
  pub reads_none : ReadsNoLine old new

-- how a call ended; the number is that of the acts that it appended
abbrev pub Served : Result ℕ WireError → WireView → WireView → Type 0
Served (Ok n) old new = (ends : Finds state.Ended old new) × (n ≡ length ends.all.acted)
Served (Err error.Flooded) old new = Floods old new
Served (Err error.TooLong) old new = Finds state.TooLong old new
Served (Err error.Link) old new = Finds state.Failed old new
Served (Err error.Disk) old new = RefusesToOpen world.Disk old new ⊎ FailsAtLast old new
Served (Err (error.Damaged file place)) old new = RefusesToOpen (world.Damaged file place) old new
Served (Err (error.Limit limit.Moment)) old new = ComesTooLate old new
Served (Err (error.Limit limit.Journal)) old new = IsFull old new
Served (Err error.Memory) old new = RefusesToOpen world.Memory old new ⊎ Finds state.NoMemory old new ⊎ LacksMemoryAtLast old new
Served (Err other) old new = ⊥

-- What a call answers, unless it was flooded, by what broke its link: at the end of input it is Ok, and each other cause is told by its
-- own refusal.
pub record TellsLink (r : Result ℕ WireError) (new : WireView) : Type 0 where
  pub ended : new.lines.state ≡ state.Ended → IsOk r
  pub failed : new.lines.state ≡ state.Failed → r ≡ Err error.Link
  pub too_long : new.lines.state ≡ state.TooLong → r ≡ Err error.TooLong
  pub not_over : new.lines.state ≢ state.PassedOver
  pub no_memory : new.lines.state ≡ state.NoMemory → r ≡ Err error.Memory
