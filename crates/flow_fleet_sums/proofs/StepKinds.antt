-- What a call of a fleet is: one run's, the filters', or nobody's.
use Rattle.std.proofs.Common.{◌≡◌, ℕ, ◌+◌, ◌≤◌, Bool, true, false, refl, ◌∙◌, ap, arith}
use Rattle.std.specs.Prelude.{Some, slice_get, slice_set, nat_lt, if◌then◌else◌}
use Rattle.cacao_site.specs.SiteCalls.{LeavesDisk}
use Rattle.cacao_site.specs.View.{SiteView, device_calls}
use Rattle.cacao_site.specs.declared.parcel.Parcel.{Parcel}
use Rattle.run_records.specs.Ranges.{last_moment}
use Rattle.run_records.specs.declared.record.Record.{Record}
use Rattle.flow_core.specs.declared.flow_errors.LimitKind.TheVariants as limit
use Rattle.flow_engine.specs.EngineView.{EngineView}
use Rattle.slpf_actuator.specs.ActuatorView.{ActuatorView}
use Rattle.slpf_actuator.specs.declared.error.ActError.{ActError}
use Rattle.flow_world_steps.specs.Appends.{Tries}
use Rattle.flow_world_steps.specs.Steps.{ActsOn, FailsToAct, PutsCommand, RepeatsReply, Step, after_reach}
use Rattle.flow_world_steps.specs.Steps.Step.{begins as one_begins, moves as one_moves, expires as one_expires, puts_first as one_puts_first, resends as one_resends, replies as one_replies}
use Rattle.flow_world_steps.specs.Steps.Step.{acts_on as one_acts_on, repeats_reply as one_repeats, fails_to_act as one_fails_to_act}
use Rattle.flow_world_steps.specs.Sums.{owed_lines, slack}
use Rattle.flow_world_steps.specs.Worlds.{Cause, Phase, World, past, refused, rests, waits}
use Rattle.flow_fleet_steps.specs.Steps.{DoesAt, FleetStep, GoesTowards, Ignores, SameSides}
use Rattle.flow_fleet_steps.specs.Steps.FleetStep.{opens_clock, finds_run_used, asks_clock, finds_late, begins, moves, expires, says, fails_to_say, puts_first, resends}
use Rattle.flow_fleet_steps.specs.Steps.FleetStep.{takes, finds_none, fails_to_take, drops, replies, ignores_reply, acts_on, repeats_reply, fails_to_act, wants_memory_now}
use Rattle.flow_fleet_steps.specs.Worlds.{FleetWorld, Own, Shared, part, set_own}

-- one run went on
pub record OneRun (old new : FleetWorld) (place : ℕ) (v w : EngineView) (own : Own) : Type 0 where
  pub there : slice_get old.engines place ≡ Some v
  pub engines : new.engines ≡ slice_set old.engines place w
  pub owns : new.own ≡ set_own place own old.own
  pub place_is : new.place ≡ place
  pub step : Step (part place v (old.own place) old) (part place w own new)

-- no run went on
pub record NoRun (old new : FleetWorld) (v : EngineView) : Type 0 where
  pub there : slice_get old.engines 0 ≡ Some v
  pub engines : new.engines ≡ old.engines
  pub owns : new.own ≡ old.own
  pub step : Step (part 0 v (old.own 0) old) (part 0 v (old.own 0) new)

-- what a filter did
pub data FilterDid (old new : World) : Type 0 where
  acted : (beat : ℕ) (parcel : Parcel) (v w : ActuatorView) → ActsOn beat parcel v w old new → FilterDid old new
  repeated : (beat : ℕ) (parcel : Parcel) (v w : ActuatorView) → RepeatsReply beat parcel v w old new → FilterDid old new
  failed : (beat : ℕ) (parcel : Parcel) (v w : ActuatorView) (error : ActError) (cause : Cause) → FailsToAct beat parcel v w error cause old new → FilterDid old new

-- nobody did anything: at most a line was said, or time went on
pub record IsQuiet (old new : FleetWorld) : Type 0 where
  pub sides : SameSides old new
  pub left : new.notes.left ≡ old.notes.left
  pub acted : new.notes.acted ≡ old.notes.acted
  pub unsure : new.notes.unsure_act ≡ old.notes.unsure_act
  pub calls : device_calls new.site + owed_lines new.phase ≤ device_calls old.site + owed_lines old.phase + slack new.phase
  pub disk : new.site.disk.calls ≡ old.site.disk.calls
  pub written : new.site.disk.written ≡ old.site.disk.written
  pub later : old.site.clock.now ≤ new.site.clock.now
  pub puts : new.site.link.puts ≡ old.site.link.puts
  pub mishaps : old.site.counts.mishaps ≤ new.site.counts.mishaps

pub data Kind (old new : FleetWorld) : Type 1 where
  tries : (place : ℕ) (v w : EngineView) (own : Own) (IsNext : Record → Type 0) → OneRun old new place v w own
      → Tries IsNext (part place v (old.own place) old) (part place w own new) → Kind old new
  puts : (place issue : ℕ) (v w : EngineView) (own : Own) → OneRun old new place v w own
      → PutsCommand issue (part place v (old.own place) old) (part place w own new) → Kind old new
  filter : (v : EngineView) → NoRun old new v → FilterDid (part 0 v (old.own 0) old) (part 0 v (old.own 0) new) → Kind old new
  quiet : IsQuiet old new → Kind old new

-- ---- nobody's

same_calls : (old new : SiteView) → LeavesDisk old new → device_calls new ≡ device_calls old
same_calls old new leaves = omega (arith, leaves.calls, leaves.says)

site_calls : (old new : SiteView) → new ≡ old → device_calls new ≡ device_calls old
site_calls old new e = ap device_calls e

-- what is owed after an answer of the clock
reached_owes : (p : Phase) (moment answer : ℕ) → p ≡ after_reach moment answer → owed_lines p ≡ 0
reached_owes p moment answer e = ap owed_lines e ∙ by (nat_lt last_moment answer) (nat_lt answer moment)
  where
    by : (a b : Bool) → owed_lines (if a then refused (past limit.Moment) false else if b then waits moment else rests) ≡ 0
    by true b = refl
    by false true = refl
    by false false = refl

towards : (moment answer : ℕ) (old new : FleetWorld) → GoesTowards moment answer old new → IsQuiet old new
towards moment answer old new is = record {
  sides = is.sides;
  left = ap (λ (n : Shared). n.left) is.notes;
  acted = ap (λ (n : Shared). n.acted) is.notes;
  unsure = ap (λ (n : Shared). n.unsure_act) is.notes;
  calls = let same = same_calls old.site new.site is.reaches.disk in let none = reached_owes new.phase moment answer is.phase in omega (arith, same, none);
  disk = is.reaches.disk.calls;
  written = is.reaches.disk.disk.written;
  later = let later = is.reaches.later in let now = is.reaches.now in omega (arith, later, now);
  puts = is.reaches.puts;
  mishaps = let same = is.reaches.mishaps in omega (arith, same);
}

-- the site stayed
same_site : (old new : FleetWorld) → new.site ≡ old.site → SameSides old new → new.notes.left ≡ old.notes.left → new.notes.acted ≡ old.notes.acted → new.notes.unsure_act ≡ old.notes.unsure_act
    → owed_lines new.phase ≤ owed_lines old.phase → IsQuiet old new
same_site old new same sides left acts unsure owed = record {
  sides = sides;
  left = left;
  acted = acts;
  unsure = unsure;
  calls = let calls = site_calls old.site new.site same in omega (arith, calls, owed);
  disk = ap (λ (s : SiteView). s.disk.calls) same;
  written = ap (λ (s : SiteView). s.disk.written) same;
  later = let now = ap (λ (s : SiteView). s.clock.now) same in omega (arith, now);
  puts = ap (λ (s : SiteView). s.link.puts) same;
  mishaps = let count = ap (λ (s : SiteView). s.counts.mishaps) same in omega (arith, count);
}

only : (old new : FleetWorld) → new.site ≡ old.site → SameSides old new → new.notes ≡ old.notes → owed_lines new.phase ≤ owed_lines old.phase → IsQuiet old new
only old new same sides notes owed = same_site old new same sides (ap (λ (n : Shared). n.left) notes) (ap (λ (n : Shared). n.acted) notes) (ap (λ (n : Shared). n.unsure_act) notes) owed

none_owed : (p q : Phase) → owed_lines q ≡ 0 → owed_lines q ≤ owed_lines p
none_owed p q e = omega (arith, e)

ignored : (old new : FleetWorld) → new.site ≡ old.site → Ignores old new → IsQuiet old new
ignored old new same is = same_site old new same is.sides (ap (λ (n : Shared). n.left) is.notes) (ap (λ (n : Shared). n.acted) is.notes) (ap (λ (n : Shared). n.unsure_act) is.notes)
    (none_owed old.phase new.phase (ap owed_lines is.phase))

-- a take, which says nothing
taken : (old new : FleetWorld) → SameSides old new → new.notes ≡ old.notes → LeavesDisk old.site new.site → new.site.clock.now ≡ old.site.clock.now → new.site.link.puts ≡ old.site.link.puts
    → new.site.counts.mishaps ≡ old.site.counts.mishaps → owed_lines new.phase ≡ 0 → IsQuiet old new
taken old new sides notes disk now link mishaps owed = record {
  sides = sides;
  left = ap (λ (n : Shared). n.left) notes;
  acted = ap (λ (n : Shared). n.acted) notes;
  unsure = ap (λ (n : Shared). n.unsure_act) notes;
  calls = let same = same_calls old.site new.site disk in omega (arith, same, owed);
  disk = disk.calls;
  written = disk.disk.written;
  later = omega (arith, now);
  puts = link;
  mishaps = omega (arith, mishaps);
}

-- ---- one run's

pub does : (Do : World → World → Type 0) (place : ℕ) (old new : FleetWorld) (is : DoesAt Do place old new) → Step (part place is.v (old.own place) old) (part place is.w is.own new) → OneRun old new place is.v is.w is.own
does Do place old new is step = record { there = is.there; engines = is.engines; owns = is.owns; place_is = is.place_is; step = step }

pub kind_of : (old new : FleetWorld) → FleetStep old new → Kind old new
kind_of old new (opens_clock answer is) = quiet (towards _ answer old new is.goes)
kind_of old new (finds_run_used place agent is) = quiet (only old new is.only.site is.only.sides is.only.notes (none_owed old.phase new.phase (ap owed_lines is.only.phase)))
kind_of old new (asks_clock moment answer is) = quiet (towards moment answer old new is.goes)
kind_of old new (finds_late moment is) = quiet (only old new is.only.site is.only.sides is.only.notes (none_owed old.phase new.phase (ap owed_lines is.only.phase)))
kind_of old new (begins place is) = tries place is.does.v is.does.w is.does.own _ (does _ place old new is.does (one_begins is.does.does)) is.does.does.tries
kind_of old new (moves place is) = tries place is.does.v is.does.w is.does.own _ (does _ place old new is.does (one_moves is.does.does)) is.does.does.tries
kind_of old new (expires place issue is) = tries place is.does.v is.does.w is.does.own _ (does _ place old new is.does (one_expires issue is.does.does)) is.does.does.tries
kind_of old new (says place v bytes is) = quiet (record {
  sides = is.speaks.sides;
  left = ap (λ (n : Shared). n.left) is.speaks.notes;
  acted = ap (λ (n : Shared). n.acted) is.speaks.notes;
  unsure = ap (λ (n : Shared). n.unsure_act) is.speaks.notes;
  calls = let was = ap owed_lines is.speaks.phase in let now = ap owed_lines is.phase in let calls = is.speaks.only.calls in let handed = is.speaks.only.says in omega (arith, was, now, calls, handed);
  disk = is.speaks.only.calls;
  written = is.speaks.only.disk.written;
  later = let now = is.speaks.only.time.now in omega (arith, now);
  puts = is.speaks.only.puts;
  mishaps = let same = is.speaks.only.mishaps in omega (arith, same);
})
kind_of old new (fails_to_say place v bytes is) = quiet (record {
  sides = is.speaks.sides;
  left = ap (λ (n : Shared). n.left) is.speaks.notes;
  acted = ap (λ (n : Shared). n.acted) is.speaks.notes;
  unsure = ap (λ (n : Shared). n.unsure_act) is.speaks.notes;
  calls = let was = ap owed_lines is.speaks.phase in let now = ap owed_lines is.phase in let over = ap slack is.phase in let calls = is.speaks.only.calls in let handed = is.speaks.only.says in omega (arith, was, now, over, calls, handed);
  disk = is.speaks.only.calls;
  written = is.speaks.only.disk.written;
  later = let now = is.speaks.only.time.now in omega (arith, now);
  puts = is.speaks.only.puts;
  mishaps = let same = is.speaks.only.mishaps in omega (arith, same);
})
kind_of old new (puts_first place issue is) = puts place issue is.does.v is.does.w is.does.own (does _ place old new is.does (one_puts_first issue is.does.does)) is.does.does.puts
kind_of old new (resends place issue is) = puts place issue is.does.v is.does.w is.does.own (does _ place old new is.does (one_resends issue is.does.does)) is.does.does.puts
kind_of old new (takes parcel is) = quiet (taken old new is.sides is.notes is.only.disk is.only.time.now is.only.puts is.only.mishaps (ap owed_lines is.phase))
kind_of old new (finds_none is) = quiet (taken old new is.sides is.notes is.only.disk is.only.time.now is.only.puts is.only.mishaps (ap owed_lines is.phase))
kind_of old new (fails_to_take is) = quiet (taken old new is.sides is.notes is.only.disk is.only.time.now is.only.puts is.only.mishaps (ap owed_lines is.phase))
kind_of old new (drops beat parcel is) = quiet (ignored old new is.site is.ignores)
kind_of old new (replies beat parcel place is) = tries place is.does.v is.does.w is.does.own _ (does _ place old new is.does (one_replies beat parcel is.does.does)) is.does.does.tries
kind_of old new (ignores_reply beat parcel is) = quiet (ignored old new is.site is.ignores)
kind_of old new (acts_on beat parcel v w is) = filter is.v (record { there = is.there; engines = is.engines; owns = is.own; step = one_acts_on beat parcel v w is.does }) (acted beat parcel v w is.does)
kind_of old new (repeats_reply beat parcel v w is) = filter is.v (record { there = is.there; engines = is.engines; owns = is.own; step = one_repeats beat parcel v w is.does }) (repeated beat parcel v w is.does)
kind_of old new (fails_to_act beat parcel v w error cause is) = filter is.v (record { there = is.there; engines = is.engines; owns = is.own; step = one_fails_to_act beat parcel v w error cause is.does }) (failed beat parcel v w error cause is.does)
kind_of old new (wants_memory_now is) = quiet (only old new is.only.site is.only.sides is.only.notes (let same = ap owed_lines is.only.phase in omega (arith, same)))
