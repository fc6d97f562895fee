-- A command that is handed on, and what its filter answered.
use Rattle.std.proofs.Common.{ℕ, ◌<◌, ◌≤◌, Bool, List, refl}
use Rattle.std.specs.Prelude.{Result, Err}
use Rattle.cacao_site.specs.SiteCalls.{Reaches}
use Rattle.cacao_site.specs.Sound.{IsSound}
use Rattle.cacao_site.specs.declared.parcel.Parcel.{Parcel}
use Rattle.run_records.specs.Ranges.{last_moment}
use Rattle.slpf_actuator.specs.ActuatorView.{ActuatorView}
use Rattle.slpf_actuator.specs.declared.error.ActError.{ActError}
use Rattle.slpf_actuator.specs.declared.error.ActError.TheVariants as act_error
use Rattle.flow_world_steps.specs.Sides.{FiltersReady}
use Rattle.flow_world_parts.specs.Errors.{MayRefuseAct}
use Rattle.flow_world_parts.proofs.Standing.{filters_stay}
use Rattle.oc2_wire_site.specs.WireCalls.{KeepsWire}
use Rattle.oc2_wire_site.specs.Wires.{WireView}
use Rattle.oc2_wire.specs.FilterTurns.{AnsweredAs, Handed, HandsOn, IsLate, act_error_of}
use Rattle.oc2_wire.specs.Turns.{Asks}
use Rattle.oc2_wire.proofs.LentWires.{kept_reads_none}

abbrev pub asks_now : (old new : WireView) (now : ℕ) → IsSound old.site → Reaches 0 now old.site new.site → KeepsWire old new → Asks old new
asks_now old new now sound reaches keeps = record { sound = sound; lines = keeps.lines; now = now; reaches = reaches; reads_none = kept_reads_none old new keeps }

pub ready_now : (old new : WireView) (now : ℕ) (fs : List ActuatorView) → Reaches 0 now old.site new.site → FiltersReady fs old.site → FiltersReady fs new.site
ready_now old new now fs reaches ready = filters_stay fs old.site new.site reaches.disk.disk ready

pub hands_on : (r : Result Bool ActError) (parcel : Parcel) (old middle new : WireView) (fs gs : List ActuatorView) (now : ℕ) → IsSound old.site → Reaches 0 now old.site middle.site → KeepsWire old middle
    → now ≤ last_moment → IsSound middle.site → IsSound new.site → Handed r parcel now middle new fs gs → HandsOn r parcel old new fs gs
hands_on r parcel old middle new fs gs now sound reaches keeps in_time before after handed =
    record { middle = middle; asks = asks_now old middle now sound reaches keeps; in_time = in_time; before = before; after = after; handed = handed }

pub is_late : (old new : WireView) (fs : List ActuatorView) (now : ℕ) → IsSound old.site → Reaches 0 now old.site new.site → KeepsWire old new → last_moment < now → IsLate old new fs fs
is_late old new fs now sound reaches keeps late = record { asks = asks_now old new now sound reaches keeps; late = late; filters = refl }

pub answered_err : (why : ActError) (parcel : Parcel) (old new : WireView) (fs gs : List ActuatorView) → MayRefuseAct why → HandsOn (Err why) parcel old new fs gs
    → AnsweredAs (Err (act_error_of why)) parcel old new fs gs
answered_err act_error.Disk parcel old new fs gs may hands = hands
answered_err act_error.Memory parcel old new fs gs may hands = hands
answered_err (act_error.Full needed) parcel old new fs gs may hands = (needed, hands)
answered_err (act_error.Damaged place) parcel old new fs gs may hands = absurd may
answered_err act_error.Broken parcel old new fs gs may hands = absurd may
