-- How many bytes are written.
use Rattle.std.proofs.Common.{◌≡◌, inl, inr, ℕ, ◌+◌, ◌-◌, ◌≤◌, List, [], ◌∷◌, ◌++◌, length, refl, sym, ◌∙◌, subst, ap, arith}
use Rattle.std.specs.Prelude.{Option, None, slice_set}
use Rattle.std.specs.Option.{option_map_or}
use Rattle.cacao_site.specs.View.{SiteView}
use Rattle.cacao_site.specs.declared.parcel.Parcel.{Parcel}
use Rattle.run_journal.specs.Durable.{header_bytes}
use Rattle.run_records.specs.declared.record.Record.{Record}
use Rattle.run_records.specs.declared.act.Act.{Act}
use Rattle.flow_engine.specs.HistoryView.{HistoryView}
use Rattle.flow_engine.specs.EngineView.{EngineView}
use Rattle.flow_engine.specs.OpenIssues.{OpenIssues}
use Rattle.slpf_actuator.specs.ActuatorView.{ActuatorView, act_for}
use Rattle.slpf_actuator.specs.declared.error.ActError.{ActError}
use Rattle.slpf_actuator.specs.declared.error.ActError.TheVariants as act_error
use Rattle.flow_world_steps.specs.Appends.{Tries}
use Rattle.flow_world_steps.specs.Appends.Tries.{done, failed, limited}
use Rattle.flow_world_steps.specs.Ready.{FiltersStand, JournalStands}
use Rattle.flow_world_steps.specs.Steps.{ActsOn, DoesNothing, FailsToAct, MayHaveActed, Step, Unsures}
use Rattle.flow_world_steps.specs.Steps.Step.{opens_clock, finds_run_used, asks_clock, finds_late, begins, moves, upgrades, tells, expires, says, fails_to_say}
use Rattle.flow_world_steps.specs.Steps.Step.{puts_first, resends, takes, finds_none, fails_to_take, drops, replies, ignores_reply, acts_on, repeats_reply, fails_to_act, wants_memory_now}
use Rattle.flow_world_steps.specs.Steps.Steps.{nothing, and_then}
use Rattle.flow_world_steps.specs.Sums.{if_going, total}
use Rattle.flow_world_steps.specs.Worlds.{Cause, IsGoing, Phase, World, opened, rests, looked, owes, holds, waits, refused}
use Rattle.flow_world_steps.specs.Written.{EachWritesFew, WritesFew, act_bytes, entry_bytes, header_bytes_left, noted_bytes, record_bytes}
use Rattle.flow_world_steps.proofs.Costs.{sum_part, sum_set}
use Rattle.flow_world_steps.proofs.Filters.{steps_ready_filters}
use Rattle.flow_world_steps.proofs.Readiness.{steps_ready}

total_more : {T : Type 0} (f : T → ℕ) (xs : List T) (x : T) → total f (xs ++ x ∷ []) ≡ total f xs + f x
total_more f [] x = omega arith
total_more f (y ∷ xs) x = let rest = total_more f xs x in omega (arith, rest)

abbrev bytes_of : ActuatorView → ℕ
bytes_of v = header_bytes v.prepared

at_most : (p : Phase) (n : ℕ) → if_going p n ≤ n
at_most opened n = omega arith
at_most rests n = omega arith
at_most looked n = omega arith
at_most owes n = omega arith
at_most (holds beat parcel) n = omega arith
at_most (waits due) n = omega arith
at_most (refused cause lacks) n = omega arith

all_of : (p : Phase) (n : ℕ) → IsGoing p → if_going p n ≡ n
all_of opened n g = refl
all_of rests n g = refl
all_of looked n g = refl
all_of owes n g = refl
all_of (holds beat parcel) n g = refl
all_of (waits due) n g = absurd g
all_of (refused cause lacks) n g = absurd g

going_as : (p q : Phase) → p ≡ q → IsGoing q → IsGoing p
going_as p q e g = subst IsGoing (sym e) g

-- nothing was written
quiet : (old new : World) → IsGoing old.phase → new.site.disk.written ≡ old.site.disk.written → header_bytes_left new ≡ header_bytes_left old → entry_bytes new ≡ entry_bytes old → WritesFew old new
quiet old new going written header entries =
    record { written = omega (arith, all_of old.phase (header_bytes_left old) going, at_most new.phase (header_bytes_left new), written, header, entries) }

header_same : (old new : World) → new.engine ≡ old.engine → new.filters ≡ old.filters → header_bytes_left new ≡ header_bytes_left old
header_same old new e f = ap (λ (v : EngineView). header_bytes v.history.prepared + total bytes_of new.filters) e
    ∙ ap (λ (l : List ActuatorView). header_bytes old.engine.history.prepared + total bytes_of l) f

entries_same : (old new : World) → new.engine ≡ old.engine → noted_bytes new.notes ≡ noted_bytes old.notes → entry_bytes new ≡ entry_bytes old
entries_same old new e n = let records = ap (λ (v : EngineView). total record_bytes v.history.records) e in omega (arith, records, n)

site_written : (old new : SiteView) → new ≡ old → new.disk.written ≡ old.disk.written
site_written old new e = ap (λ (s : SiteView). s.disk.written) e

same : (old new : World) → IsGoing old.phase → new.site.disk.written ≡ old.site.disk.written → new.engine ≡ old.engine → new.filters ≡ old.filters → noted_bytes new.notes ≡ noted_bytes old.notes → WritesFew old new
same old new going written engine filters notes = quiet old new going written (header_same old new engine filters) (entries_same old new engine notes)

-- a command was put
put : (old new : World) (puts : OpenIssues) → IsGoing old.phase → new.site.disk.written ≡ old.site.disk.written → new.engine ≡ record old.engine { puts = puts } → new.filters ≡ old.filters
    → noted_bytes new.notes ≡ noted_bytes old.notes → WritesFew old new
put old new puts going written engine filters notes =
    let prepared = ap (λ (v : EngineView). header_bytes v.history.prepared) engine in
    let total_is = ap (λ (l : List ActuatorView). total bytes_of l) filters in
    let records = ap (λ (v : EngineView). total record_bytes v.history.records) engine in
    quiet old new going written (omega (arith, prepared, total_is)) (omega (arith, records, notes))

tried : (IsNext : Record → Type 0) (old new : World) → IsGoing old.phase → JournalStands old → Tries IsNext old new → WritesFew old new
tried IsNext old new going was (done is) =
    let offers = is.appends.adds.offers in
    let next = offers.comes.next in
    let prepared : header_bytes new.engine.history.prepared ≡ 0 = ap (λ (h : HistoryView). header_bytes h.prepared) is.appends.adds.view in
    let filters : total bytes_of new.filters ≡ total bytes_of old.filters = ap (λ (l : List ActuatorView). total bytes_of l) is.filters in
    let records : total record_bytes new.engine.history.records ≡ total record_bytes old.engine.history.records + record_bytes next =
    ap (λ (h : HistoryView). total record_bytes h.records) is.appends.adds.view ∙ total_more record_bytes old.engine.history.records next in
    let notes : noted_bytes new.notes ≡ noted_bytes old.notes = ap noted_bytes is.notes in
    record { written = omega (arith, all_of old.phase (header_bytes_left old) going, at_most new.phase (header_bytes_left new), prepared, filters, records, notes, offers.written) }
tried IsNext old new going was (failed is) =
    let offers = is.refuses.0.0 in
    let next = offers.comes.next in
    let none : old.notes.unsure ≡ None = was.sure offers.whole in
    let gone : if_going new.phase (header_bytes_left new) ≡ 0 = ap (λ (p : Phase). if_going p (header_bytes_left new)) is.phase in
    let records : total record_bytes new.engine.history.records ≡ total record_bytes old.engine.history.records = ap (λ (h : HistoryView). total record_bytes h.records) is.refuses.0.1 in
    let notes : noted_bytes new.notes ≡ record_bytes next + total act_bytes old.notes.acted + option_map_or act_bytes old.notes.unsure_act 0 = ap noted_bytes is.notes in
    let before : option_map_or record_bytes old.notes.unsure 0 ≡ 0 = ap (λ (o : Option Record). option_map_or record_bytes o 0) none in
    record { written = omega (arith, all_of old.phase (header_bytes_left old) going, gone, records, notes, before, offers.written) }
tried IsNext old new going was (limited what is) =
    let prepared = ap (λ (h : HistoryView). header_bytes h.prepared) is.refuses.0.1 in
    let filters = ap (λ (l : List ActuatorView). total bytes_of l) is.filters in
    let records = ap (λ (h : HistoryView). total record_bytes h.records) is.refuses.0.1 in
    let notes : noted_bytes new.notes ≡ noted_bytes old.notes = ap noted_bytes is.notes in
    quiet old new going (site_written old.site new.site is.refuses.0.2) (omega (arith, prepared, filters)) (omega (arith, records, notes))

acts : (old new : World) (beat : ℕ) (parcel : Parcel) (v w : ActuatorView) → ActsOn beat parcel v w old new → WritesFew old new
acts old new beat parcel v w is =
    let e : ℕ × Act = (parcel.agent, act_for v.acts parcel old.site.clock.now) in
    let going = going_as old.phase _ is.holds_command.phase tt in
    let prepared : bytes_of w ≡ 0 = ap bytes_of is.acts.view in
    let filters : total bytes_of new.filters ≡ total bytes_of (slice_set old.filters (parcel.agent - 1) w) = ap (λ (l : List ActuatorView). total bytes_of l) is.filters in
    let sum = sum_set bytes_of old.filters (parcel.agent - 1) v w is.holds_command.there in
    let engine = ap (λ (x : EngineView). header_bytes x.history.prepared) is.engine in
    let records = ap (λ (x : EngineView). total record_bytes x.history.records) is.engine in
    let notes : noted_bytes new.notes ≡ option_map_or record_bytes old.notes.unsure 0 + total act_bytes (old.notes.acted ++ e ∷ []) + option_map_or act_bytes old.notes.unsure_act 0 = ap noted_bytes is.notes in
    let more = total_more act_bytes old.notes.acted e in
    record {
      written = omega (
        arith,
        all_of old.phase (header_bytes_left old) going,
        at_most new.phase (header_bytes_left new),
        prepared,
        filters,
        sum,
        engine,
        records,
        notes,
        more,
        is.acts.offers.adds.written,
        is.acts.puts.disk.disk.written,
      );
    }

-- the filter did nothing but break, or its act may stand
fails : (old new : World) (beat : ℕ) (parcel : Parcel) (v w : ActuatorView) (error : ActError) (cause : Cause) → FiltersStand old → FailsToAct beat parcel v w error cause old new → WritesFew old new
fails old new beat parcel v w error cause stands is = by error is.notes
  where
    gone : if_going new.phase (header_bytes_left new) ≡ 0
    gone = ap (λ (p : Phase). if_going p (header_bytes_left new)) is.phase

    records : total record_bytes new.engine.history.records ≡ total record_bytes old.engine.history.records
    records = ap (λ (x : EngineView). total record_bytes x.history.records) is.engine

    none : DoesNothing old new → WritesFew old new
    none same =
        let notes : noted_bytes new.notes ≡ noted_bytes old.notes = ap noted_bytes same.notes in
        record { written = omega (arith, gone, records, notes, site_written old.site new.site same.site) }

    may : MayHaveActed parcel v old new → WritesFew old new
    may acted =
        let e : ℕ × Act = (parcel.agent, act_for v.acts parcel old.site.clock.now) in
        let going = going_as old.phase _ is.holds_command.phase tt in
        let part = sum_part bytes_of old.filters (parcel.agent - 1) v is.holds_command.there in
        let notes : noted_bytes new.notes ≡ option_map_or record_bytes old.notes.unsure 0 + total act_bytes old.notes.acted + act_bytes e = ap noted_bytes acted.notes in
        let before : option_map_or act_bytes old.notes.unsure_act 0 ≡ 0 = ap (λ (o : Option (ℕ × Act)). option_map_or act_bytes o 0) (stands.sure going) in
        record { written = omega (arith, all_of old.phase (header_bytes_left old) going, gone, part, records, notes, before, acted.offers.adds.written) }

    by : (error : ActError) → Unsures error parcel v old new → WritesFew old new
    by act_error.Disk is = may is
    by act_error.Memory is = elim is [ inl same ↦ none same | inr acted ↦ may acted ]
    by (act_error.Damaged place) is = none is
    by (act_error.Full length) is = none is
    by act_error.Broken is = none is

step_writes : (old new : World) → JournalStands old → FiltersStand old → Step old new → WritesFew old new
step_writes old new was stands (opens_clock answer is) = same old new (going_as old.phase _ is.phase tt) is.goes.reaches.disk.disk.written is.goes.sides.engine is.goes.sides.filters (ap noted_bytes is.goes.notes)
step_writes old new was stands (finds_run_used agent is) = same old new (going_as old.phase _ is.phase tt) (site_written old.site new.site is.only.site) is.only.sides.engine is.only.sides.filters (ap noted_bytes is.only.notes)
step_writes old new was stands (asks_clock moment answer is) = same old new (going_as old.phase _ is.next.up_to_date.on_time.untold.idle.has_looked.phase tt) is.goes.reaches.disk.disk.written is.goes.sides.engine is.goes.sides.filters (ap noted_bytes is.goes.notes)
step_writes old new was stands (finds_late moment is) = same old new (going_as old.phase _ is.next.up_to_date.on_time.untold.idle.has_looked.phase tt) (site_written old.site new.site is.only.site) is.only.sides.engine is.only.sides.filters (ap noted_bytes is.only.notes)
step_writes old new was stands (begins is) = tried _ old new (going_as old.phase _ is.phase tt) was is.tries
step_writes old new was stands (moves is) = tried _ old new (going_as old.phase _ is.has_looked.phase tt) was is.tries
step_writes old new was stands (upgrades issue told is) = tried _ old new (going_as old.phase _ is.to_be_told.idle.has_looked.phase tt) was is.tries
step_writes old new was stands (tells issue told is) = tried _ old new (going_as old.phase _ is.to_be_told.idle.has_looked.phase tt) was is.tries
step_writes old new was stands (expires issue is) = tried _ old new (going_as old.phase _ is.overdue.untold.idle.has_looked.phase tt) was is.tries
step_writes old new was stands (says bytes is) = same old new (going_as old.phase _ is.speaks.phase tt) is.speaks.only.disk.written is.speaks.sides.engine is.speaks.sides.filters (ap noted_bytes is.speaks.notes)
step_writes old new was stands (fails_to_say bytes is) = same old new (going_as old.phase _ is.speaks.phase tt) is.speaks.only.disk.written is.speaks.sides.engine is.speaks.sides.filters (ap noted_bytes is.speaks.notes)
step_writes old new was stands (puts_first issue is) = put old new _ (going_as old.phase _ is.phase tt) is.puts.sends.put.disk.disk.written is.puts.sends.view is.puts.filters (ap noted_bytes is.puts.notes)
step_writes old new was stands (resends issue is) = put old new _ (going_as old.phase _ is.due.on_time.untold.idle.has_looked.phase tt) is.puts.sends.put.disk.disk.written is.puts.sends.view is.puts.filters (ap noted_bytes is.puts.notes)
step_writes old new was stands (takes parcel is) = same old new (going_as old.phase _ is.turn.phase tt) is.only.disk.disk.written is.sides.engine is.sides.filters (ap noted_bytes is.notes)
step_writes old new was stands (finds_none is) = same old new (going_as old.phase _ is.turn.phase tt) is.only.disk.disk.written is.sides.engine is.sides.filters (ap noted_bytes is.notes)
step_writes old new was stands (fails_to_take is) = same old new (going_as old.phase _ is.turn.phase tt) is.only.disk.disk.written is.sides.engine is.sides.filters (ap noted_bytes is.notes)
step_writes old new was stands (drops beat parcel is) = same old new (going_as old.phase _ is.phase tt) (site_written old.site new.site is.site) is.ignores.engine is.ignores.filters (ap noted_bytes is.ignores.notes)
step_writes old new was stands (replies beat parcel is) = tried _ old new (going_as old.phase _ is.holds_reply.phase tt) was is.tries
step_writes old new was stands (ignores_reply beat parcel is) = same old new (going_as old.phase _ is.holds_reply.phase tt) (site_written old.site new.site is.site) is.ignores.engine is.ignores.filters (ap noted_bytes is.ignores.notes)
step_writes old new was stands (acts_on beat parcel v w is) = acts old new beat parcel v w is
step_writes old new was stands (repeats_reply beat parcel v w is) = same old new (going_as old.phase _ is.holds_command.phase tt) is.repeats.puts.disk.disk.written is.ignores.engine is.ignores.filters (ap noted_bytes is.ignores.notes)
step_writes old new was stands (fails_to_act beat parcel v w error cause is) = fails old new beat parcel v w error cause stands is
step_writes old new was stands (wants_memory_now is) = same old new is.going (site_written old.site new.site is.only.site) is.only.sides.engine is.only.sides.filters (ap noted_bytes is.only.notes)

pub steps_write_few : EachWritesFew
steps_write_few a b was stands nothing = record { written = omega arith }
steps_write_few a b was stands (and_then {mid} steps step) =
    let p = (steps_write_few a mid was stands steps).written in
    let q = (step_writes mid b (steps_ready a mid was steps) (steps_ready_filters a mid stands steps) step).written in
    record { written = omega (arith, p, q) }
