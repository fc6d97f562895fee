-- Why a session ended as it did.
use Rattle.std.proofs.Common.{◌≡◌, inl, inr, ℕ, ◌+◌, ◌-◌, ◌≤◌, ◌<◌, Bool, true, false, List, refl, sym, ◌∙◌, subst, ap, arith}
use Rattle.std.specs.Prelude.{Any, Option, Some, None, count_by, length, nat_lt, min, slice_get, slice_set, if◌then◌else◌, ⊤}
use Rattle.std.specs.List.{list_any}
use Rattle.std.specs.Option.{option_map_or, option_or}
use Rattle.cacao_site.specs.Counts.{Rose}
use Rattle.cacao_site.specs.View.{CountsView, SiteView}
use Rattle.cacao_site.specs.declared.parcel.Parcel.{Parcel}
use Rattle.run_records.specs.Ranges.{last_moment}
use Rattle.run_records.specs.declared.act.Act.{Act}
use Rattle.run_records.specs.declared.record.Record.{Record}
use Rattle.flow_engine.specs.LimitKind.{LimitKind}
use Rattle.flow_engine.specs.LimitKind.TheVariants as limit
use Rattle.flow_engine.specs.Views.{is_long_command, is_makes, most_tasks, passed}
use Rattle.flow_engine.specs.HistoryCalls.{Is, PassesLimit, limit_of}
use Rattle.flow_engine.specs.HistoryView.{HistoryView, length_with}
use Rattle.flow_engine.specs.EngineView.{EngineView}
use Rattle.flow_core_rules.specs.Edits.{Edit}
use Rattle.flow_core_rules.specs.Moves.{due}
use Rattle.flow_laws.proofs.Basics.{same_some}
use Rattle.std.proofs.lemmas.Option.{none-some}
use Rattle.slpf_actuator.specs.ActuatorCalls.{MayHaveDone, Overflows}
use Rattle.slpf_actuator.specs.ActuatorView.{ActuatorView}
use Rattle.slpf_actuator.specs.declared.error.ActError.{ActError}
use Rattle.slpf_actuator.specs.declared.error.ActError.TheVariants as act_error
use Rattle.flow_world_steps.specs.Appends.{Tries}
use Rattle.flow_world_steps.specs.Appends.Tries.{done, failed, limited}
use Rattle.flow_world_steps.specs.Causes.{ActPasses, EachCause, RecordPasses, Shows}
use Rattle.flow_world_steps.specs.Steps.{FailsToAct, FindsLate, FindsRunUsed, GoesTowards, HasRun, IsAddressed, Step, Steps, after_reach}
use Rattle.flow_world_steps.specs.Steps.Step.{opens_clock, finds_run_used, asks_clock, finds_late, begins, moves, upgrades, tells, expires, says, fails_to_say}
use Rattle.flow_world_steps.specs.Steps.Step.{puts_first, resends, takes, finds_none, fails_to_take, drops, replies, ignores_reply, acts_on, repeats_reply, fails_to_act, wants_memory_now}
use Rattle.flow_world_steps.specs.Steps.Steps.{nothing, and_then}
use Rattle.flow_world_steps.specs.Worlds.{Cause, Notes, Phase, World, opened, rests, looked, owes, holds, waits, refused, disk_failed, not_said, run_used, past, wants_memory}
use Rattle.flow_world_steps.proofs.Adding.{fails_counts}
use Rattle.flow_world_steps.proofs.Handling.{get_set_same}
use Rattle.flow_world_steps.proofs.Resent.{step_asked}

-- ---- one step: the counts do not fall, and the last one shows why

-- the counts after a step
record Counted (old new : World) : Type 0 where
  pub faults : old.site.disk.faults ≤ new.site.disk.faults
  pub unsaid : old.site.counts.unsaid ≤ new.site.counts.unsaid

of_counts : (old new : SiteView) → new.counts ≡ old.counts → old.counts.unsaid ≤ new.counts.unsaid
of_counts old new e = let same = ap (λ (c : CountsView). c.unsaid) e in omega (arith, same)

of_unsaid : (old new : SiteView) → new.counts.unsaid ≡ old.counts.unsaid → old.counts.unsaid ≤ new.counts.unsaid
of_unsaid old new e = omega (arith, e)

of_site : (old new : World) → new.site ≡ old.site → Counted old new
of_site old new e = record {
  faults = let same = ap (λ (s : SiteView). s.disk.faults) e in omega (arith, same);
  unsaid = of_counts old.site new.site (ap (λ (s : SiteView). s.counts) e);
}

tried_counts : (IsNext : Record → Type 0) (old new : World) → Tries IsNext old new → Counted old new
tried_counts IsNext old new (done is) = record {
  faults = is.appends.adds.offers.file.each.goes_on.faults;
  unsaid = of_counts old.site new.site is.appends.adds.offers.file.rest.counts;
}
tried_counts IsNext old new (failed is) = record { faults = is.refuses.0.0.file.each.goes_on.faults; unsaid = of_counts old.site new.site is.refuses.0.0.file.rest.counts }
tried_counts IsNext old new (limited what is) = of_site old new is.refuses.0.2

fails_faults : (v : ActuatorView) (parcel : Parcel) (moment : ℕ) (old new : SiteView) (error : ActError) → MayHaveDone error v parcel moment old new → old.disk.faults ≤ new.disk.faults
fails_faults v parcel moment old new act_error.Disk offers = offers.adds.file.each.goes_on.faults
fails_faults v parcel moment old new act_error.Memory may =
    elim may [ inl e ↦ let same = ap (λ (s : SiteView). s.disk.faults) e in omega (arith, same) | inr offers ↦ offers.adds.file.each.goes_on.faults ]
fails_faults v parcel moment old new (act_error.Damaged place) e = let same = ap (λ (s : SiteView). s.disk.faults) e in omega (arith, same)
fails_faults v parcel moment old new (act_error.Full length) e = let same = ap (λ (s : SiteView). s.disk.faults) e in omega (arith, same)
fails_faults v parcel moment old new act_error.Broken e = let same = ap (λ (s : SiteView). s.disk.faults) e in omega (arith, same)

step_counts : (old new : World) → Step old new → Counted old new
step_counts old new (opens_clock answer is) = record { faults = is.goes.reaches.disk.disk.goes_on.faults; unsaid = of_unsaid old.site new.site is.goes.reaches.unsaid }
step_counts old new (finds_run_used agent is) = of_site old new is.only.site
step_counts old new (asks_clock moment answer is) = record { faults = is.goes.reaches.disk.disk.goes_on.faults; unsaid = of_unsaid old.site new.site is.goes.reaches.unsaid }
step_counts old new (finds_late moment is) = of_site old new is.only.site
step_counts old new (begins is) = tried_counts _ old new is.tries
step_counts old new (moves is) = tried_counts _ old new is.tries
step_counts old new (upgrades issue told is) = tried_counts _ old new is.tries
step_counts old new (tells issue told is) = tried_counts _ old new is.tries
step_counts old new (expires issue is) = tried_counts _ old new is.tries
step_counts old new (says bytes is) = record { faults = is.speaks.only.disk.goes_on.faults; unsaid = is.speaks.only.unsaid }
step_counts old new (fails_to_say bytes is) = record { faults = is.speaks.only.disk.goes_on.faults; unsaid = is.speaks.only.unsaid }
step_counts old new (puts_first issue is) = record { faults = is.puts.sends.put.disk.disk.goes_on.faults; unsaid = of_unsaid old.site new.site is.puts.sends.put.unsaid }
step_counts old new (resends issue is) = record { faults = is.puts.sends.put.disk.disk.goes_on.faults; unsaid = of_unsaid old.site new.site is.puts.sends.put.unsaid }
step_counts old new (takes parcel is) = record { faults = is.only.disk.disk.goes_on.faults; unsaid = of_unsaid old.site new.site is.only.unsaid }
step_counts old new (finds_none is) = record { faults = is.only.disk.disk.goes_on.faults; unsaid = of_unsaid old.site new.site is.only.unsaid }
step_counts old new (fails_to_take is) = record { faults = is.only.disk.disk.goes_on.faults; unsaid = of_unsaid old.site new.site is.only.unsaid }
step_counts old new (drops beat parcel is) = of_site old new is.site
step_counts old new (replies beat parcel is) = tried_counts _ old new is.tries
step_counts old new (ignores_reply beat parcel is) = of_site old new is.site
step_counts old new (acts_on beat parcel v w is) = record {
  faults = let one = is.acts.offers.adds.file.each.goes_on.faults in let two = is.acts.puts.disk.disk.goes_on.faults in omega (arith, one, two);
  unsaid = let one = of_counts old.site is.acts.between is.acts.offers.adds.file.rest.counts in let two = is.acts.puts.unsaid in omega (arith, one, two);
}
step_counts old new (repeats_reply beat parcel v w is) = record { faults = is.repeats.puts.disk.disk.goes_on.faults; unsaid = of_unsaid old.site new.site is.repeats.puts.unsaid }
step_counts old new (fails_to_act beat parcel v w error cause is) = record {
  faults = fails_faults v parcel old.site.clock.now old.site new.site error is.refuses.site;
  unsaid = of_counts old.site new.site (fails_counts v parcel old.site.clock.now old.site new.site error is.refuses.site);
}
step_counts old new (wants_memory_now is) = of_site old new is.only.site

-- ---- what the last step shows

-- the step asked the clock for this moment, and it answered less
record IsShortStep (old new : World) (moment : ℕ) : Type 0 where
  pub asked : new.site.clock.asked ≡ moment
  pub own : new.notes.asked ≡ Some moment
  pub short : new.site.clock.now < moment

abbrev ShowsStep : Phase → World → World → Type 0
ShowsStep (waits moment) old new = IsShortStep old new moment
ShowsStep (refused cause lacks) old new = Shows (refused cause lacks) old new
ShowsStep other old new = ⊤

-- a phase that shows nothing, or what it shows
shows_as : (p q : Phase) (old new : World) → p ≡ q → ShowsStep q old new → ShowsStep p old new
shows_as p q old new e is = subst (λ (x : Phase). ShowsStep x old new) (sym e) is

shows_limit : (what : LimitKind) (old new : World) → (what ≡ limit.Moment → ⊥) → RecordPasses new what → ShowsStep (refused (past what) false) old new
shows_limit limit.Moment old new not passes = absurd (not refl)
shows_limit limit.Journal old new not passes = inl passes
shows_limit limit.Tasks old new not passes = passes
shows_limit limit.Command old new not passes = passes

-- the record that would pass the limit, where the run is as it was
record_passes : (IsNext : Record → Type 0) (what : LimitKind) (old new : World) → new.engine.history ≡ old.engine.history → PassesLimit old.engine.history IsNext what → RecordPasses new what
record_passes IsNext what old new same passes = record {
  r = passes.comes.next;
  passes = subst (λ (h : HistoryView). PassesLimit h (Is passes.comes.next) what) (sym same) (record {
    comes = record { next = passes.comes.next; edits = passes.comes.edits; is = refl; takes = passes.comes.takes };
    passes = passes.passes;
    whole = passes.whole;
  });
}

-- no record passes the limit on moments: it is the clock that does
limit_no_moment : (h : HistoryView) (next : Record) (edits : List Edit) → limit_of h next edits ≡ Some limit.Moment → ⊥
limit_no_moment h next edits e = by (passed h.seen edits) refl (nat_lt 67_108_864 (length_with h.records next)) e
  where
    not_passed : (a b : Bool) → (if a then Some limit.Tasks else if b then Some limit.Command else None) ≡ Some limit.Moment → ⊥
    not_passed true b f = let g : limit.Tasks ≡ limit.Moment = same_some f in cc
    not_passed false true f = let g : limit.Command ≡ limit.Moment = same_some f in cc
    not_passed false false f = none-some limit.Moment f

    by : (o : Option LimitKind) → passed h.seen edits ≡ o → (b : Bool) → option_or o (if b then Some limit.Journal else None) ≡ Some limit.Moment → ⊥
    by None p true f = let g : limit.Journal ≡ limit.Moment = same_some f in cc
    by None p false f = none-some limit.Moment f
    by (Some what) p b f = not_passed (nat_lt most_tasks (length h.seen.lists.tasks + count_by is_makes edits)) (list_any is_long_command edits) (p ∙ f)

clock_shows : (old new : World) (moment answer : ℕ) → GoesTowards moment answer old new → ShowsStep new.phase old new
clock_shows old new moment answer is = shows_as new.phase (after_reach moment answer) old new is.phase (by (nat_lt last_moment answer) (nat_lt answer moment) refl refl)
  where
    less : (a b : ℕ) → nat_lt a b ≡ true → a < b
    less a b h = grind arith

    by : (p q : Bool) → nat_lt last_moment answer ≡ p → nat_lt answer moment ≡ q → ShowsStep (if p then refused (past limit.Moment) false else if q then waits moment else rests) old new
    by true q e f = let now = is.reaches.now in let lt = less last_moment answer e in inl (omega (arith, now, lt))
    by false true e f = record {
      asked = is.reaches.asked;
      own = ap (λ (n : Notes). n.asked) is.notes;
      short = let now = is.reaches.now in let lt = less answer moment f in omega (arith, now, lt);
    }
    by false false e f = tt

has_run : (old new : World) (agent : ℕ) → new.engine ≡ old.engine → new.filters ≡ old.filters → HasRun old agent → HasRun new agent
has_run old new agent e f is = record {
  v = is.v;
  there = subst (λ (l : List ActuatorView). slice_get l (agent - 1) ≡ Some is.v) (sym f) is.there;
  has = subst (λ (v : EngineView). Any (λ (act : Act). act.run ≡ v.history.seen.run) is.v.acts) (sym e) is.has;
}

run_used_shows : (old new : World) (agent : ℕ) → FindsRunUsed agent old new → ShowsStep new.phase old new
run_used_shows old new agent is = shows_as new.phase (refused (run_used agent) false) old new is.only.phase (record {
  empty = ap (λ (v : EngineView). v.history.records) is.only.sides.engine ∙ is.empty;
  low = is.low;
  high = is.high;
  has = has_run old new agent is.only.sides.engine is.only.sides.filters is.has;
  least = λ lower one less has. is.least lower one less (has_run new old lower (sym is.only.sides.engine) (sym is.only.sides.filters) has);
})

no_later : (at : ℕ) (o : Option (ℕ × ℕ)) → option_map_or (λ next. min at next.0) o at ≤ at
no_later at None = omega arith
no_later at (Some next) = omega arith

late_shows : (old new : World) (moment : ℕ) → FindsLate moment old new → ShowsStep new.phase old new
late_shows old new moment is = shows_as new.phase (refused (past limit.Moment) false) old new is.only.phase (inr (
  is.next.at,
  ap (λ (v : EngineView). due v.history.seen) is.only.sides.engine ∙ is.next.due_is,
  let le = no_later is.next.at is.next.up_to_date.resend in omega (arith, le, is.next.is, is.late),
))

tried_shows : (IsNext : Record → Type 0) (old new : World) → Tries IsNext old new → ShowsStep new.phase old new
tried_shows IsNext old new (done is) = shows_as new.phase owes old new is.phase tt
tried_shows IsNext old new (failed is) = shows_as new.phase (refused disk_failed false) old new is.phase is.refuses.0.2
tried_shows IsNext old new (limited what is) = shows_as new.phase (refused (past what) false) old new is.phase (shows_limit what old new (λ e. no_moment what e is.refuses.0.0) (record_passes IsNext what old new is.refuses.0.1 is.refuses.0.0))
  where
    no_moment : (what : LimitKind) → what ≡ limit.Moment → PassesLimit old.engine.history IsNext what → ⊥
    no_moment what e passes = limit_no_moment old.engine.history passes.comes.next passes.comes.edits (passes.passes ∙ ap Some e)

-- the filter that refused has the acts that it had
act_passes : (old new : World) (parcel : Parcel) (v w : ActuatorView) (needed : ℕ) → IsAddressed parcel → parcel.back ≡ false → slice_get old.filters (parcel.agent - 1) ≡ Some v → new.filters ≡ slice_set old.filters (parcel.agent - 1) w
    → w ≡ record v { prepared = w.prepared; broken = true } → new.site ≡ old.site → Overflows v parcel old.site.clock.now needed → ActPasses new
act_passes old new parcel v w needed addressed command was now view same overflows = record {
  parcel = parcel;
  addressed = addressed;
  command = command;
  v = w;
  there = ap (λ (l : List ActuatorView). slice_get l (parcel.agent - 1)) now ∙ get_set_same old.filters (parcel.agent - 1) v w was;
  needed = needed;
  passes = subst (λ (s : SiteView). Overflows w parcel s.clock.now needed) (sym same) (subst (λ (x : ActuatorView). Overflows x parcel old.site.clock.now needed) (sym view)
      (record { is_new = overflows.is_new; is = overflows.is; past = overflows.past }));
}

act_shows : (old new : World) (beat : ℕ) (parcel : Parcel) (v w : ActuatorView) (error : ActError) (cause : Cause) → FailsToAct beat parcel v w error cause old new → ShowsStep (refused cause false) old new
act_shows old new beat parcel v w act_error.Disk cause is = subst (λ (c : Cause). ShowsStep (refused c false) old new) (sym is.why.1) is.why.0
act_shows old new beat parcel v w (act_error.Full needed) cause is = subst (λ (c : Cause). ShowsStep (refused c false) old new) (sym is.why.1)
    (inr (act_passes old new parcel v w needed is.holds_command.addressed is.holds_command.command is.holds_command.there is.filters is.refuses.view is.refuses.site is.why.0))
act_shows old new beat parcel v w act_error.Memory cause is = subst (λ (c : Cause). ShowsStep (refused c false) old new) (sym is.why) tt
act_shows old new beat parcel v w (act_error.Damaged place) cause is = absurd is.why
act_shows old new beat parcel v w act_error.Broken cause is = absurd is.why

step_shows : (old new : World) → Step old new → ShowsStep new.phase old new
step_shows old new (opens_clock answer is) = clock_shows old new _ answer is.goes
step_shows old new (finds_run_used agent is) = run_used_shows old new agent is
step_shows old new (asks_clock moment answer is) = clock_shows old new moment answer is.goes
step_shows old new (finds_late moment is) = late_shows old new moment is
step_shows old new (begins is) = tried_shows _ old new is.tries
step_shows old new (moves is) = tried_shows _ old new is.tries
step_shows old new (upgrades issue told is) = tried_shows _ old new is.tries
step_shows old new (tells issue told is) = tried_shows _ old new is.tries
step_shows old new (expires issue is) = tried_shows _ old new is.tries
step_shows old new (says bytes is) = shows_as new.phase rests old new is.phase tt
step_shows old new (fails_to_say bytes is) = shows_as new.phase (refused not_said true) old new is.phase (let counted = is.counted in (omega (arith, counted), refl))
step_shows old new (puts_first issue is) = shows_as new.phase rests old new is.puts.phase tt
step_shows old new (resends issue is) = shows_as new.phase rests old new is.puts.phase tt
step_shows old new (takes parcel is) = shows_as new.phase (holds new.site.disk.beat parcel) old new is.phase tt
step_shows old new (finds_none is) = shows_as new.phase looked old new is.phase tt
step_shows old new (fails_to_take is) = shows_as new.phase (refused wants_memory false) old new is.phase tt
step_shows old new (drops beat parcel is) = shows_as new.phase rests old new is.ignores.phase tt
step_shows old new (replies beat parcel is) = tried_shows _ old new is.tries
step_shows old new (ignores_reply beat parcel is) = shows_as new.phase rests old new is.ignores.phase tt
step_shows old new (acts_on beat parcel v w is) = shows_as new.phase rests old new is.phase tt
step_shows old new (repeats_reply beat parcel v w is) = shows_as new.phase rests old new is.ignores.phase tt
step_shows old new (fails_to_act beat parcel v w error cause is) = shows_as new.phase (refused cause false) old new is.phase (act_shows old new beat parcel v w error cause is)
step_shows old new (wants_memory_now is) = shows_as new.phase (refused wants_memory _) old new is.only.phase tt

-- ---- all

rose_later : (a b c : ℕ) → a ≤ b → Rose b c → Rose a c
rose_later a b c le is = omega (arith, le, is)

-- what a step shows from the start of that step, it shows from an earlier world
shows_from : (p : Phase) (a mid b : World) → a.phase ≡ opened → Steps a mid → Step mid b → b.phase ≡ p → a.site.disk.faults ≤ mid.site.disk.faults → a.site.counts.unsaid ≤ mid.site.counts.unsaid → ShowsStep p mid b → Shows p a b
shows_from opened a mid b at steps step is_phase faults unsaid is = tt
shows_from rests a mid b at steps step is_phase faults unsaid is = tt
shows_from looked a mid b at steps step is_phase faults unsaid is = tt
shows_from owes a mid b at steps step is_phase faults unsaid is = tt
shows_from (holds beat parcel) a mid b at steps step is_phase faults unsaid is = tt
shows_from (waits due_) a mid b at steps step is_phase faults unsaid is = record { asked = is.asked; own = is.own; short = is.short; why = step_asked a mid b due_ at steps step is_phase }
shows_from (refused disk_failed lacks) a mid b at steps step is_phase faults unsaid is = rose_later a.site.disk.faults mid.site.disk.faults b.site.disk.faults faults is
shows_from (refused not_said lacks) a mid b at steps step is_phase faults unsaid is = (rose_later a.site.counts.unsaid mid.site.counts.unsaid b.site.counts.unsaid unsaid is.0, is.1)
shows_from (refused (run_used agent) lacks) a mid b at steps step is_phase faults unsaid is = is
shows_from (refused (past limit.Moment) lacks) a mid b at steps step is_phase faults unsaid is = is
shows_from (refused (past limit.Journal) lacks) a mid b at steps step is_phase faults unsaid is = is
shows_from (refused (past limit.Tasks) lacks) a mid b at steps step is_phase faults unsaid is = is
shows_from (refused (past limit.Command) lacks) a mid b at steps step is_phase faults unsaid is = is
shows_from (refused wants_memory lacks) a mid b at steps step is_phase faults unsaid is = tt

pub steps_cause : EachCause
steps_cause a b at nothing = record { faults = omega arith; unsaid = omega arith; shows = subst (λ (x : Phase). Shows x a a) (sym at) tt }
steps_cause a b at (and_then {mid} steps step) =
    let before = steps_cause a mid at steps in
    let last = step_counts mid b step in
    let p = before.faults in
    let q = before.unsaid in
    record {
      faults = omega (arith, p, last.faults);
      unsaid = omega (arith, q, last.unsaid);
      shows = shows_from b.phase a mid b at steps step refl p q (step_shows mid b step);
    }
