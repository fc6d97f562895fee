-- The turns of a call of the filters' end.
use Rattle.std.proofs.Common.{inl, inr, ℕ, Bool, true, false, List, refl}
use Rattle.std.specs.Prelude.{Some, None, Result, Ok, Err}
use Rattle.cacao_site.specs.declared.parcel.Parcel.{Parcel}
use Rattle.flow_core.specs.declared.flow_errors.LimitKind.TheVariants as limit
use Rattle.slpf_actuator.specs.ActuatorView.{ActuatorView}
use Rattle.slpf_actuator.specs.declared.error.ActError.{ActError}
use Rattle.slpf_actuator.specs.declared.error.ActError.TheVariants as act_error
use Rattle.flow_world_parts.specs.Openings.{OpensFilters, RefusesFilters}
use Rattle.flow_world_parts.specs.declared.error.WorldError.{WorldError}
use Rattle.oc2_wire_site.specs.Wires.{WireView}
use Rattle.oc2_wire.specs.Answering.{ReadsNoLine}
use Rattle.oc2_wire.specs.FilterTurns.{AnsweredAs, HandsOn, counted}
use Rattle.oc2_wire.specs.Turns.{EndsBy, Goes, Hands, HasTurns, RefusesNow, TookAs, opening_error}
use Rattle.oc2_wire.specs.Turns.Turns.{none_yet, then_acts, then_repeats}
use Rattle.oc2_wire.specs.declared.error.WireError.{WireError}
use Rattle.oc2_wire.specs.declared.error.WireError.TheVariants as error
use Rattle.oc2_wire.specs.declared.tally.Tally.{Tally}

pub goes_none : (why : WorldError) (old new : WireView) → RefusesFilters why old.site new.site → Goes (Err (opening_error why)) old new
goes_none why old new refuses = inl (record { why = why; is = refl; refuses = refuses })

pub turns_begin : (old now : WireView) (fs : List ActuatorView) → OpensFilters 16 old.site now.site fs → ReadsNoLine old now → HasTurns old now 0 fs
turns_begin old now fs opens reads = record { opened = now; first = fs; opens = opens; reads_none = reads; turns = none_yet }

hands_of : (r : Result Bool ActError) (parcel : Parcel) (first repeats : ℕ) (w t u : WireView) (fs gs : List ActuatorView) → TookAs (Ok (Some parcel)) first repeats w t → (did : HandsOn r parcel t u fs gs)
    → Hands first repeats w u fs gs
hands_of r parcel first repeats w t u fs gs took did = record {
  parcel = parcel;
  taken = t;
  took = took;
  asked = did.middle;
  asks = did.asks;
  in_time = did.in_time;
  v = did.handed.answers.v;
  w = did.handed.answers.w;
  there = did.handed.answers.there;
  others = did.handed.answers.others;
  reads_none = did.handed.reads_none;
}

-- one command more
pub one_turn : (acted : Bool) (parcel : Parcel) (old w t u : WireView) (fs gs : List ActuatorView) (tally : Tally) → HasTurns old w tally.repeated fs
    → TookAs (Ok (Some parcel)) old.lines.passed tally.repeated w t → AnsweredAs (Ok acted) parcel t u fs gs → HasTurns old u (counted acted tally).repeated gs
unfolding hands_of
one_turn true parcel old w t u fs gs tally so took did = record {
  opened = so.opened;
  first = so.first;
  opens = so.opens;
  reads_none = so.reads_none;
  turns = then_acts so.turns (record { hands = hands_of (Ok true) parcel old.lines.passed tally.repeated w t u fs gs took did; acts = did.handed.answers.answers });
}
one_turn false parcel old w t u fs gs tally so took did = record {
  opened = so.opened;
  first = so.first;
  opens = so.opens;
  reads_none = so.reads_none;
  turns = then_repeats so.turns (record { hands = hands_of (Ok false) parcel old.lines.passed tally.repeated w t u fs gs took did; answers = did.handed.answers.answers });
}

-- the last turn
pub ends_turns : (r : Result ℕ WireError) (old w u : WireView) (repeats : ℕ) (fs : List ActuatorView) → HasTurns old w repeats fs → EndsBy r old.lines.passed repeats w u fs → Goes r old u
ends_turns r old w u repeats fs so ends = inr (record { last = w; repeats = repeats; filters = fs; so_far = so; ends = ends })

-- no command came
pub ends_took : (e : WireError) (first repeats : ℕ) (w t : WireView) (fs : List ActuatorView) → TookAs (Err e) first repeats w t → EndsBy (Err e) first repeats w t fs
ends_took error.Flooded first repeats w t fs took = took
ends_took error.TooLong first repeats w t fs took = took
ends_took error.Link first repeats w t fs took = took
ends_took error.Memory first repeats w t fs took = inl took
ends_took error.Disk first repeats w t fs took = absurd took
ends_took (error.Damaged file place) first repeats w t fs took = absurd took
ends_took (error.OtherRun held asked) first repeats w t fs took = absurd took
ends_took (error.OtherBook index) first repeats w t fs took = absurd took
ends_took (error.Limit what) first repeats w t fs took = absurd took
ends_took error.Say first repeats w t fs took = absurd took

refuses_now : (why : ActError) (parcel : Parcel) (first repeats : ℕ) (w t u : WireView) (fs gs : List ActuatorView) → TookAs (Ok (Some parcel)) first repeats w t → HandsOn (Err why) parcel t u fs gs
    → RefusesNow why first repeats w u fs
unfolding hands_of
refuses_now why parcel first repeats w t u fs gs took did =
    record { gs = gs; hands = hands_of (Err why) parcel first repeats w t u fs gs took did; refuses = did.handed.answers.answers.0 }

-- the last command was refused
pub ends_refused : (e : WireError) (parcel : Parcel) (first repeats : ℕ) (w t u : WireView) (fs gs : List ActuatorView) → TookAs (Ok (Some parcel)) first repeats w t → AnsweredAs (Err e) parcel t u fs gs
    → EndsBy (Err e) first repeats w u fs
ends_refused error.Disk parcel first repeats w t u fs gs took did = refuses_now act_error.Disk parcel first repeats w t u fs gs took did
ends_refused error.Memory parcel first repeats w t u fs gs took did = inr (refuses_now act_error.Memory parcel first repeats w t u fs gs took did)
ends_refused (error.Limit limit.Moment) parcel first repeats w t u fs gs took did = record { parcel = parcel; taken = t; took = took; asks = did.asks; late = did.late }
ends_refused (error.Limit limit.Journal) parcel first repeats w t u fs gs took did = (did.0, refuses_now (act_error.Full did.0) parcel first repeats w t u fs gs took did.1)
ends_refused (error.Limit limit.Tasks) parcel first repeats w t u fs gs took did = absurd did
ends_refused (error.Limit limit.Command) parcel first repeats w t u fs gs took did = absurd did
ends_refused (error.Damaged file place) parcel first repeats w t u fs gs took did = absurd did
ends_refused (error.OtherRun held asked) parcel first repeats w t u fs gs took did = absurd did
ends_refused (error.OtherBook index) parcel first repeats w t u fs gs took did = absurd did
ends_refused error.Say parcel first repeats w t u fs gs took did = absurd did
ends_refused error.Flooded parcel first repeats w t u fs gs took did = absurd did
ends_refused error.TooLong parcel first repeats w t u fs gs took did = absurd did
ends_refused error.Link parcel first repeats w t u fs gs took did = absurd did
