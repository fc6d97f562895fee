-- Device calls: those of the disk and of `say`, and those of the disk alone.
use Rattle.std.proofs.Common.{◌≡◌, inl, inr, ℕ, zero, suc, ◌+◌, ◌-◌, ◌≤◌, Bool, true, false, List, [], ◌∷◌, length, refl, sym, ◌∙◌, subst, ap, arith}
use Rattle.std.specs.Prelude.{Some, slice_get, slice_set, nat_lt, if◌then◌else◌}
use Rattle.std.proofs.lemmas.List.{length-append}
use Rattle.cacao_site.specs.SiteCalls.{LeavesDisk}
use Rattle.cacao_site.specs.View.{CountsView, SiteView, device_calls}
use Rattle.cacao_site.specs.declared.parcel.Parcel.{Parcel}
use Rattle.run_journal.specs.Durable.{header_calls}
use Rattle.run_records.specs.Ranges.{last_moment}
use Rattle.run_records.specs.declared.record.Record.{Record}
use Rattle.flow_engine.specs.LimitKind.TheVariants as limit
use Rattle.flow_engine.specs.HistoryView.{HistoryView}
use Rattle.flow_engine.specs.EngineView.{EngineView}
use Rattle.flow_engine.specs.OpenIssues.{OpenIssues}
use Rattle.slpf_actuator.specs.ActuatorCalls.{MayHaveDone}
use Rattle.slpf_actuator.specs.ActuatorView.{ActuatorView}
use Rattle.slpf_actuator.specs.declared.error.ActError.{ActError}
use Rattle.slpf_actuator.specs.declared.error.ActError.TheVariants as act_error
use Rattle.flow_world_steps.specs.Appends.{Tries}
use Rattle.flow_world_steps.specs.Appends.Tries.{done, failed, limited}
use Rattle.flow_world_steps.specs.Steps.{Step, ActsOn, FailsToAct, FailsToSay, GoesTowards, Says, after_reach}
use Rattle.flow_world_steps.specs.Steps.Step.{opens_clock, finds_run_used, asks_clock, finds_late, begins, moves, upgrades, tells, expires, says, fails_to_say}
use Rattle.flow_world_steps.specs.Steps.Step.{puts_first, resends, takes, finds_none, fails_to_take, drops, replies, ignores_reply, acts_on, repeats_reply, fails_to_act, wants_memory_now}
use Rattle.flow_world_steps.specs.Steps.Steps.{nothing, and_then}
use Rattle.flow_world_steps.specs.Sums.{Costs, EachCosts, headers, if_going, one_if, owed_lines, slack, total}
use Rattle.flow_world_steps.specs.Worlds.{World, Phase, Cause, Notes, IsGoing, opened, rests, looked, owes, holds, waits, refused, past, owes_line}
use Rattle.flow_world_steps.proofs.Failing.{fails_notes}

-- ---- sums over the filters

pub sum_set : {T : Type 0} (f : T → ℕ) (xs : List T) (k : ℕ) (v w : T) → slice_get xs k ≡ Some v → total f (slice_set xs k w) + f v ≡ total f xs + f w
sum_set f [] zero v w is = absurd (cc)
sum_set f [] (suc k) v w is = absurd (cc)
sum_set {T} f (x ∷ xs) zero v w is = let e : x ≡ v = cc in omega (arith, ap f e)
sum_set f (x ∷ xs) (suc k) v w is = let rest = sum_set f xs k v w is in omega (arith, rest)

pub sum_part : {T : Type 0} (f : T → ℕ) (xs : List T) (k : ℕ) (v : T) → slice_get xs k ≡ Some v → f v ≤ total f xs
sum_part f [] zero v is = absurd (cc)
sum_part f [] (suc k) v is = absurd (cc)
sum_part {T} f (x ∷ xs) zero v is = let e : x ≡ v = cc in omega (arith, ap f e)
sum_part f (x ∷ xs) (suc k) v is = let rest = sum_part f xs k v is in omega (arith, rest)

abbrev calls_of : ActuatorView → ℕ
calls_of v = header_calls v.prepared

-- ---- phases

-- what the sums see of a phase: the headers that count, what is owed, and what a refusal may have taken
record IsLike (p : Phase) (n left owed over : ℕ) : Type 0 where
  pub left_is : if_going p n ≡ left
  pub owed_is : owed_lines p ≡ owed
  pub over_is : slack p ≡ over

like_rests : (p : Phase) (n : ℕ) → p ≡ rests → IsLike p n n 0 0
like_rests p n e = record { left_is = ap (λ (q : Phase). if_going q n) e; owed_is = ap owed_lines e; over_is = ap slack e }

like_looked : (p : Phase) (n : ℕ) → p ≡ looked → IsLike p n n 0 0
like_looked p n e = record { left_is = ap (λ (q : Phase). if_going q n) e; owed_is = ap owed_lines e; over_is = ap slack e }

like_opened : (p : Phase) (n : ℕ) → p ≡ opened → IsLike p n n 0 0
like_opened p n e = record { left_is = ap (λ (q : Phase). if_going q n) e; owed_is = ap owed_lines e; over_is = ap slack e }

like_owes : (p : Phase) (n : ℕ) → p ≡ owes → IsLike p n n 1 0
like_owes p n e = record { left_is = ap (λ (q : Phase). if_going q n) e; owed_is = ap owed_lines e; over_is = ap slack e }

like_holds : (p : Phase) (n beat : ℕ) (parcel : Parcel) → p ≡ holds beat parcel → IsLike p n n 0 0
like_holds p n beat parcel e = record { left_is = ap (λ (q : Phase). if_going q n) e; owed_is = ap owed_lines e; over_is = ap slack e }

like_refused : (p : Phase) (n : ℕ) (cause : Cause) (lacks : Bool) → p ≡ refused cause lacks → IsLike p n 0 (one_if lacks) 5
like_refused p n cause lacks e = record { left_is = ap (λ (q : Phase). if_going q n) e; owed_is = ap owed_lines e; over_is = ap slack e }

like_going : (p : Phase) (n : ℕ) → IsGoing p → IsLike p n n (owed_lines p) 0
like_going opened n g = record { left_is = refl; owed_is = refl; over_is = refl }
like_going rests n g = record { left_is = refl; owed_is = refl; over_is = refl }
like_going looked n g = record { left_is = refl; owed_is = refl; over_is = refl }
like_going owes n g = record { left_is = refl; owed_is = refl; over_is = refl }
like_going (holds beat parcel) n g = record { left_is = refl; owed_is = refl; over_is = refl }
like_going (waits due) n g = absurd g
like_going (refused cause lacks) n g = absurd g

-- the clock answered
record IsReached (p : Phase) (n : ℕ) : Type 0 where
  pub left : if_going p n ≤ n
  pub owed : owed_lines p ≡ 0

reached : (p : Phase) (n moment answer : ℕ) → p ≡ after_reach moment answer → IsReached p n
reached p n moment answer e = subst (λ (q : Phase). IsReached q n) (sym e) (by (nat_lt last_moment answer) (nat_lt answer moment))
  where
    by : (a b : Bool) → IsReached (if a then refused (past limit.Moment) false else if b then waits moment else rests) n
    by true b = record { left = omega arith; owed = refl }
    by false true = record { left = omega arith; owed = refl }
    by false false = record { left = omega arith; owed = refl }

-- ---- one step

headers_same : (old new : World) → new.engine ≡ old.engine → new.filters ≡ old.filters → headers new ≡ headers old
headers_same old new e f = ap (λ (v : EngineView). header_calls v.history.prepared + total calls_of new.filters) e ∙ ap (λ (l : List ActuatorView). header_calls old.engine.history.prepared + total calls_of l) f

-- no entry was appended
none : (old new : World) (owed owed' over : ℕ) → IsLike old.phase (headers old) (headers old) owed 0 → if_going new.phase (headers new) ≤ headers old → owed_lines new.phase ≡ owed' → over ≡ slack new.phase
    → length new.engine.history.records ≡ length old.engine.history.records → length new.notes.acted ≡ length old.notes.acted
    → device_calls new.site + owed' ≤ device_calls old.site + owed + over → new.site.disk.calls ≡ old.site.disk.calls → Costs old new
none old new owed owed' over was left is slack_is records acted calls disk = record {
  calls = omega (arith, was.left_is, was.owed_is, left, is, slack_is, records, acted, calls);
  disk = omega (arith, was.left_is, left, records, acted, disk);
}

long_of : (v w : EngineView) → w ≡ v → length w.history.records ≡ length v.history.records
long_of v w e = ap (λ (x : EngineView). length x.history.records) e

acted_of : (old new : World) → new.notes ≡ old.notes → length new.notes.acted ≡ length old.notes.acted
acted_of old new e = ap (λ (n : Notes). length n.acted) e

calls_same : (old new : SiteView) → new ≡ old → device_calls new ≡ device_calls old
calls_same old new e = ap device_calls e

disk_same : (old new : SiteView) → new ≡ old → new.disk.calls ≡ old.disk.calls
disk_same old new e = ap (λ (s : SiteView). s.disk.calls) e

-- nothing was said
says_same : (old new : SiteView) → new.counts ≡ old.counts → new.counts.says ≡ old.counts.says
says_same old new e = ap (λ (c : CountsView). c.says) e

-- no device call was made
leaves_calls : (old new : SiteView) → LeavesDisk old new → device_calls new ≡ device_calls old
leaves_calls old new leaves = omega (arith, leaves.calls, leaves.says)

refused_none : (old new : World) (owed : ℕ) (cause : Cause) (lacks : Bool) → IsLike old.phase (headers old) (headers old) owed 0 → new.phase ≡ refused cause lacks → one_if lacks ≡ owed
    → length new.engine.history.records ≡ length old.engine.history.records → length new.notes.acted ≡ length old.notes.acted
    → device_calls new.site ≤ device_calls old.site + 5 → new.site.disk.calls ≡ old.site.disk.calls → Costs old new
refused_none old new owed cause lacks was phase lack records acted calls disk =
    let is = like_refused new.phase (headers new) cause lacks phase in
    none old new owed (one_if lacks) 5 was (omega (arith, is.left_is)) is.owed_is (sym is.over_is) records acted (omega (arith, calls, lack)) disk

going_none : (old new : World) → IsLike old.phase (headers old) (headers old) 0 0 → IsLike new.phase (headers new) (headers new) 0 0 → headers new ≡ headers old
    → length new.engine.history.records ≡ length old.engine.history.records → length new.notes.acted ≡ length old.notes.acted → device_calls new.site ≡ device_calls old.site → new.site.disk.calls ≡ old.site.disk.calls → Costs old new
going_none old new was is same records acted calls disk =
    none old new 0 0 0 was (omega (arith, is.left_is, same)) is.owed_is (sym is.over_is) records acted (omega (arith, calls)) disk

tried : (IsNext : Record → Type 0) (old new : World) → IsLike old.phase (headers old) (headers old) 0 0 → Tries IsNext old new → Costs old new
tried IsNext old new was (done is) =
    let offers = is.appends.adds.offers in
    let now = like_owes new.phase (headers new) is.phase in
    let prepared : header_calls new.engine.history.prepared ≡ 0 = ap (λ (h : HistoryView). header_calls h.prepared) is.appends.adds.view in
    let filters : total calls_of new.filters ≡ total calls_of old.filters = ap (λ (l : List ActuatorView). total calls_of l) is.filters in
    let records : length new.engine.history.records ≡ length old.engine.history.records + 1 =
    ap (λ (h : HistoryView). length h.records) is.appends.adds.view ∙ length-append old.engine.history.records (offers.comes.next ∷ []) in
    let acted : length new.notes.acted ≡ length old.notes.acted = ap (λ (n : Notes). length n.acted) is.notes in
    record {
      calls = omega (arith, was.left_is, was.owed_is, now.left_is, now.owed_is, now.over_is, prepared, filters, records, acted, offers.calls, says_same old.site new.site offers.file.rest.counts);
      disk = omega (arith, was.left_is, now.left_is, prepared, filters, records, acted, offers.calls);
    }
tried IsNext old new was (failed is) =
    let now = like_refused new.phase (headers new) _ false is.phase in
    let records : length new.engine.history.records ≡ length old.engine.history.records = ap (λ (h : HistoryView). length h.records) is.refuses.0.1 in
    let acted : length new.notes.acted ≡ length old.notes.acted = ap (λ (n : Notes). length n.acted) is.notes in
    record {
      calls = omega (arith, was.left_is, was.owed_is, now.left_is, now.owed_is, now.over_is, records, acted, is.refuses.0.0.calls, says_same old.site new.site is.refuses.0.0.file.rest.counts);
      disk = omega (arith, was.left_is, now.left_is, now.over_is, records, acted, is.refuses.0.0.calls);
    }
tried IsNext old new was (limited what is) =
    refused_none old new 0 _ false was is.phase refl (ap (λ (h : HistoryView). length h.records) is.refuses.0.1) (acted_of old new is.notes)
    (omega (arith, calls_same old.site new.site is.refuses.0.2)) (disk_same old.site new.site is.refuses.0.2)

acts : (old new : World) (beat : ℕ) (parcel : Parcel) (v w : ActuatorView) → ActsOn beat parcel v w old new → Costs old new
acts old new beat parcel v w is =
    let was = like_holds old.phase (headers old) beat parcel is.holds_command.phase in
    let now = like_rests new.phase (headers new) is.phase in
    let prepared : calls_of w ≡ 0 = ap calls_of is.acts.view in
    let filters : total calls_of new.filters ≡ total calls_of (slice_set old.filters (parcel.agent - 1) w) = ap (λ (l : List ActuatorView). total calls_of l) is.filters in
    let sum = sum_set calls_of old.filters (parcel.agent - 1) v w is.holds_command.there in
    let engine : header_calls new.engine.history.prepared ≡ header_calls old.engine.history.prepared = ap (λ (x : EngineView). header_calls x.history.prepared) is.engine in
    let acted : length new.notes.acted ≡ length old.notes.acted + 1 = ap (λ (n : Notes). length n.acted) is.notes ∙ length-append old.notes.acted _ in
    record {
      calls = omega (
        arith,
        was.left_is,
        was.owed_is,
        now.left_is,
        now.owed_is,
        now.over_is,
        prepared,
        filters,
        sum,
        engine,
        long_of old.engine new.engine is.engine,
        acted,
        is.acts.offers.adds.calls,
        says_same old.site is.acts.between is.acts.offers.adds.file.rest.counts,
        leaves_calls is.acts.between new.site is.acts.puts.disk,
      );
      disk = omega (arith, was.left_is, now.left_is, prepared, filters, sum, engine, long_of old.engine new.engine is.engine, acted, is.acts.offers.adds.calls, is.acts.puts.disk.calls);
    }

-- a command that was refused said nothing
record FailsFew (v : ActuatorView) (old new : SiteView) : Type 0 where
  pub disk : new.disk.calls ≤ old.disk.calls + (calls_of v + 4)
  pub says : new.counts.says ≡ old.counts.says

fails_none : (v : ActuatorView) (old new : SiteView) → new ≡ old → FailsFew v old new
fails_none v old new e = record { disk = omega (arith, disk_same old new e); says = ap (λ (s : SiteView). s.counts.says) e }

fails_few : (v : ActuatorView) (parcel : Parcel) (moment : ℕ) (old new : SiteView) (error : ActError) → MayHaveDone error v parcel moment old new → FailsFew v old new
fails_few v parcel moment old new act_error.Disk offers = record { disk = omega (arith, offers.adds.calls); says = says_same old new offers.adds.file.rest.counts }
fails_few v parcel moment old new act_error.Memory may = elim may [
  | inl e ↦ fails_none v old new e
  | inr offers ↦ record { disk = omega (arith, offers.adds.calls); says = says_same old new offers.adds.file.rest.counts }
]
fails_few v parcel moment old new (act_error.Damaged place) e = fails_none v old new e
fails_few v parcel moment old new (act_error.Full length) e = fails_none v old new e
fails_few v parcel moment old new act_error.Broken e = fails_none v old new e

fails : (old new : World) (beat : ℕ) (parcel : Parcel) (v w : ActuatorView) (error : ActError) (cause : Cause) → FailsToAct beat parcel v w error cause old new → Costs old new
fails old new beat parcel v w error cause is =
    let was = like_holds old.phase (headers old) beat parcel is.holds_command.phase in
    let now = like_refused new.phase (headers new) cause false is.phase in
    let part = sum_part calls_of old.filters (parcel.agent - 1) v is.holds_command.there in
    let acted : length new.notes.acted ≡ length old.notes.acted = ap (λ (n : Notes). length n.acted) (fails_notes error parcel v old new is.notes) in
    let few = fails_few v parcel old.site.clock.now old.site new.site error is.refuses.site in
    record {
      calls = omega (arith, was.left_is, was.owed_is, now.left_is, now.owed_is, now.over_is, part, long_of old.engine new.engine is.engine, acted, few.disk, few.says);
      disk = omega (arith, was.left_is, now.left_is, now.over_is, part, long_of old.engine new.engine is.engine, acted, few.disk);
    }

clock : (old new : World) (moment answer : ℕ) → IsLike old.phase (headers old) (headers old) 0 0 → GoesTowards moment answer old new → Costs old new
clock old new moment answer was is =
    let now = reached new.phase (headers new) moment answer is.phase in
    record {
      calls = omega (
        arith,
        was.left_is,
        was.owed_is,
        now.left,
        now.owed,
        headers_same old new is.sides.engine is.sides.filters,
        long_of old.engine new.engine is.sides.engine,
        ap (λ (n : Notes). length n.acted) is.notes,
        leaves_calls old.site new.site is.reaches.disk,
      );
      disk = omega (
        arith,
        was.left_is,
        now.left,
        headers_same old new is.sides.engine is.sides.filters,
        long_of old.engine new.engine is.sides.engine,
        ap (λ (n : Notes). length n.acted) is.notes,
        is.reaches.disk.calls,
      );
    }

said : (old new : World) (bytes : List ℕ) → Says bytes old new → Costs old new
said old new bytes is =
    let was = like_owes old.phase (headers old) is.speaks.phase in
    let now = like_rests new.phase (headers new) is.phase in
    record {
      calls = omega (
        arith,
        was.left_is,
        was.owed_is,
        now.left_is,
        now.owed_is,
        now.over_is,
        headers_same old new is.speaks.sides.engine is.speaks.sides.filters,
        long_of old.engine new.engine is.speaks.sides.engine,
        acted_of old new is.speaks.notes,
        is.speaks.only.calls,
        is.speaks.only.says,
      );
      disk = omega (
        arith,
        was.left_is,
        now.left_is,
        headers_same old new is.speaks.sides.engine is.speaks.sides.filters,
        long_of old.engine new.engine is.speaks.sides.engine,
        acted_of old new is.speaks.notes,
        is.speaks.only.calls,
      );
    }

not_said : (old new : World) (bytes : List ℕ) → FailsToSay bytes old new → Costs old new
not_said old new bytes is =
    refused_none old new 1 _ true (like_owes old.phase (headers old) is.speaks.phase) is.phase refl (long_of old.engine new.engine is.speaks.sides.engine) (acted_of old new is.speaks.notes)
    (omega (arith, is.speaks.only.calls, is.speaks.only.says)) is.speaks.only.calls

put_headers : (old new : World) (puts : OpenIssues) → new.engine ≡ record old.engine { puts = puts } → new.filters ≡ old.filters → headers new ≡ headers old
put_headers old new puts e f = ap (λ (v : EngineView). header_calls v.history.prepared + total calls_of new.filters) e ∙ ap (λ (l : List ActuatorView). header_calls old.engine.history.prepared + total calls_of l) f

step_costs : (old new : World) → Step old new → Costs old new
step_costs old new (opens_clock answer is) = clock old new _ answer (like_opened old.phase (headers old) is.phase) is.goes
step_costs old new (finds_run_used agent is) = refused_none old new 0 _ false (like_opened old.phase (headers old) is.phase) is.only.phase refl (long_of old.engine new.engine is.only.sides.engine) (acted_of old new is.only.notes)
    (omega (arith, calls_same old.site new.site is.only.site)) (disk_same old.site new.site is.only.site)
step_costs old new (asks_clock moment answer is) = clock old new moment answer (like_looked old.phase (headers old) is.next.up_to_date.on_time.untold.idle.has_looked.phase) is.goes
step_costs old new (finds_late moment is) = refused_none old new 0 _ false (like_looked old.phase (headers old) is.next.up_to_date.on_time.untold.idle.has_looked.phase) is.only.phase refl (long_of old.engine new.engine is.only.sides.engine) (acted_of old new is.only.notes)
    (omega (arith, calls_same old.site new.site is.only.site)) (disk_same old.site new.site is.only.site)
step_costs old new (begins is) = tried _ old new (like_rests old.phase (headers old) is.phase) is.tries
step_costs old new (moves is) = tried _ old new (like_looked old.phase (headers old) is.has_looked.phase) is.tries
step_costs old new (upgrades issue told is) = tried _ old new (like_looked old.phase (headers old) is.to_be_told.idle.has_looked.phase) is.tries
step_costs old new (tells issue told is) = tried _ old new (like_looked old.phase (headers old) is.to_be_told.idle.has_looked.phase) is.tries
step_costs old new (expires issue is) = tried _ old new (like_looked old.phase (headers old) is.overdue.untold.idle.has_looked.phase) is.tries
step_costs old new (says bytes is) = said old new bytes is
step_costs old new (fails_to_say bytes is) = not_said old new bytes is
step_costs old new (puts_first issue is) = going_none old new (like_rests old.phase (headers old) is.phase) (like_rests new.phase (headers new) is.puts.phase) (put_headers old new _ is.puts.sends.view is.puts.filters)
    (ap (λ (x : EngineView). length x.history.records) is.puts.sends.view) (ap (λ (n : Notes). length n.acted) is.puts.notes) (leaves_calls old.site new.site is.puts.sends.put.disk) is.puts.sends.put.disk.calls
step_costs old new (resends issue is) = going_none old new (like_looked old.phase (headers old) is.due.on_time.untold.idle.has_looked.phase) (like_rests new.phase (headers new) is.puts.phase) (put_headers old new _ is.puts.sends.view is.puts.filters)
    (ap (λ (x : EngineView). length x.history.records) is.puts.sends.view) (ap (λ (n : Notes). length n.acted) is.puts.notes) (leaves_calls old.site new.site is.puts.sends.put.disk) is.puts.sends.put.disk.calls
step_costs old new (takes parcel is) = going_none old new (like_rests old.phase (headers old) is.turn.phase) (like_holds new.phase (headers new) new.site.disk.beat parcel is.phase) (headers_same old new is.sides.engine is.sides.filters)
    (long_of old.engine new.engine is.sides.engine) (acted_of old new is.notes) (leaves_calls old.site new.site is.only.disk) is.only.disk.calls
step_costs old new (finds_none is) = going_none old new (like_rests old.phase (headers old) is.turn.phase) (like_looked new.phase (headers new) is.phase) (headers_same old new is.sides.engine is.sides.filters)
    (long_of old.engine new.engine is.sides.engine) (acted_of old new is.notes) (leaves_calls old.site new.site is.only.disk) is.only.disk.calls
step_costs old new (fails_to_take is) = refused_none old new 0 _ false (like_rests old.phase (headers old) is.turn.phase) is.phase refl (long_of old.engine new.engine is.sides.engine) (acted_of old new is.notes)
    (omega (arith, leaves_calls old.site new.site is.only.disk)) is.only.disk.calls
step_costs old new (drops beat parcel is) = going_none old new (like_holds old.phase (headers old) beat parcel is.phase) (like_rests new.phase (headers new) is.ignores.phase) (headers_same old new is.ignores.engine is.ignores.filters)
    (long_of old.engine new.engine is.ignores.engine) (ap (λ (n : Notes). length n.acted) is.ignores.notes) (calls_same old.site new.site is.site) (disk_same old.site new.site is.site)
step_costs old new (replies beat parcel is) = tried _ old new (like_holds old.phase (headers old) beat parcel is.holds_reply.phase) is.tries
step_costs old new (ignores_reply beat parcel is) = going_none old new (like_holds old.phase (headers old) beat parcel is.holds_reply.phase) (like_rests new.phase (headers new) is.ignores.phase) (headers_same old new is.ignores.engine is.ignores.filters)
    (long_of old.engine new.engine is.ignores.engine) (ap (λ (n : Notes). length n.acted) is.ignores.notes) (calls_same old.site new.site is.site) (disk_same old.site new.site is.site)
step_costs old new (acts_on beat parcel v w is) = acts old new beat parcel v w is
step_costs old new (repeats_reply beat parcel v w is) = going_none old new (like_holds old.phase (headers old) beat parcel is.holds_command.phase) (like_rests new.phase (headers new) is.ignores.phase) (headers_same old new is.ignores.engine is.ignores.filters)
    (long_of old.engine new.engine is.ignores.engine) (ap (λ (n : Notes). length n.acted) is.ignores.notes) (leaves_calls old.site new.site is.repeats.puts.disk) is.repeats.puts.disk.calls
step_costs old new (fails_to_act beat parcel v w error cause is) = fails old new beat parcel v w error cause is
step_costs old new (wants_memory_now is) = refused_none old new (owed_lines old.phase) _ (owes_line old.phase) (like_going old.phase (headers old) is.going) is.only.phase refl (long_of old.engine new.engine is.only.sides.engine) (acted_of old new is.only.notes)
    (omega (arith, calls_same old.site new.site is.only.site)) (disk_same old.site new.site is.only.site)

-- ---- a session that refused has ended

step_slack : (old new : World) → Step old new → slack old.phase ≡ 0
step_slack old new (opens_clock answer is) = ap slack is.phase
step_slack old new (finds_run_used agent is) = ap slack is.phase
step_slack old new (asks_clock moment answer is) = ap slack is.next.up_to_date.on_time.untold.idle.has_looked.phase
step_slack old new (finds_late moment is) = ap slack is.next.up_to_date.on_time.untold.idle.has_looked.phase
step_slack old new (begins is) = ap slack is.phase
step_slack old new (moves is) = ap slack is.has_looked.phase
step_slack old new (upgrades issue told is) = ap slack is.to_be_told.idle.has_looked.phase
step_slack old new (tells issue told is) = ap slack is.to_be_told.idle.has_looked.phase
step_slack old new (expires issue is) = ap slack is.overdue.untold.idle.has_looked.phase
step_slack old new (says bytes is) = ap slack is.speaks.phase
step_slack old new (fails_to_say bytes is) = ap slack is.speaks.phase
step_slack old new (puts_first issue is) = ap slack is.phase
step_slack old new (resends issue is) = ap slack is.due.on_time.untold.idle.has_looked.phase
step_slack old new (takes parcel is) = ap slack is.turn.phase
step_slack old new (finds_none is) = ap slack is.turn.phase
step_slack old new (fails_to_take is) = ap slack is.turn.phase
step_slack old new (drops beat parcel is) = ap slack is.phase
step_slack old new (replies beat parcel is) = ap slack is.holds_reply.phase
step_slack old new (ignores_reply beat parcel is) = ap slack is.holds_reply.phase
step_slack old new (acts_on beat parcel v w is) = ap slack is.holds_command.phase
step_slack old new (repeats_reply beat parcel v w is) = ap slack is.holds_command.phase
step_slack old new (fails_to_act beat parcel v w error cause is) = ap slack is.holds_command.phase
step_slack old new (wants_memory_now is) = (like_going old.phase 0 is.going).over_is

pub steps_cost : EachCosts
steps_cost a b nothing = record { calls = omega arith; disk = omega arith }
steps_cost a b (and_then {mid} steps step) =
    let p = steps_cost a mid steps in
    let q = step_costs mid b step in
    record { calls = omega (arith, p.calls, q.calls, step_slack mid b step); disk = omega (arith, p.disk, q.disk, step_slack mid b step) }
