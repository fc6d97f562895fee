-- The lines that a fleet could not say.
use Rattle.std.proofs.Common.{◌≡◌, ◌⊎◌, inl, inr, ◌∙◌, refl, sym, ap, subst, ℕ, Bool, true, List}
use Rattle.cacao_site.specs.Counts.{next_count}
use Rattle.cacao_site.specs.View.{CountsView, SiteView}
use Rattle.flow_world_steps.specs.EngineView.{EngineView}
use Rattle.slpf_actuator.specs.ActuatorView.{ActuatorView}
use Rattle.flow_world_steps.specs.Steps.{Step}
use Rattle.flow_world_steps.specs.Steps.Step.{begins as one_begins, moves as one_moves, expires as one_expires, puts_first as one_puts_first, resends as one_resends, replies as one_replies}
use Rattle.flow_world_steps.specs.Steps.Step.{acts_on as one_acts_on, repeats_reply as one_repeats, fails_to_act as one_fails_to_act}
use Rattle.flow_world_steps.specs.Steps.Steps.{nothing as no_step, and_then as then_step}
use Rattle.flow_world_steps.specs.Worlds.{Cause, IsGoing, World, not_said, refused}
use Rattle.flow_fleet_steps.specs.Closes.{IsRefusalFor}
use Rattle.flow_fleet_steps.specs.Laws.{FleetWent}
use Rattle.flow_fleet_steps.specs.Openings.{AreFleetOpen, OpensJournals, RefusesFleetOpening, Runs}
use Rattle.flow_fleet_steps.specs.Openings.OpensJournals.{nothing as no_journal, and_then as one_journal}
use Rattle.flow_fleet_steps.specs.Steps.{FleetStep, FleetSteps}
use Rattle.flow_fleet_steps.specs.Steps.FleetStep.{opens_clock, finds_run_used, asks_clock, finds_late, begins, moves, expires, says, fails_to_say, puts_first, resends}
use Rattle.flow_fleet_steps.specs.Steps.FleetStep.{takes, finds_none, fails_to_take, drops, replies, ignores_reply, acts_on, repeats_reply, fails_to_act, wants_memory_now}
use Rattle.flow_fleet_steps.specs.Steps.FleetSteps.{nothing, and_then}
use Rattle.flow_fleet_steps.specs.Worlds.{FleetWorld}
use Rattle.flow_fleet_steps.specs.declared.close.FleetClose.{FleetClose}
use Rattle.flow_fleet_steps.specs.declared.error.FleetError.{FleetError}
use Rattle.flow_fleet_steps.specs.declared.error.FleetError.TheVariants as error
use Rattle.flow_fleet_steps.proofs.Closes.{closes_are_no_refusals}
use Rattle.flow_fleet_steps.proofs.Spending.{fleet_step_going}
use Rattle.flow_fleet_returns.specs.Fleets.{FleetClosed, FleetRefused}
use Rattle.cacao_cli_ends.specs.Ends.{unsaid}
use Rattle.cacao_cli_session_laws.proofs.StepLemmas.{Unsaid, none_unsaid, one_unsaid, steps_unsaid}
use Rattle.cacao_cli_fleets.specs.FleetEnds.{FleetEnd, error_end, plain}
use Rattle.cacao_cli_fleets.specs.Fleeting.{ClosesFleet, FleetHeld, RefusesFleet}

-- the count stays, or one line could not be said, and the fleet refuses
data Counted (old new : FleetWorld) : Type 0 where
  stays : new.site.counts.unsaid ≡ old.site.counts.unsaid → Counted old new
  counts : new.phase ≡ refused not_said true → new.site.counts.unsaid ≡ next_count old.site.counts.unsaid → Counted old new

same_site : (old new : FleetWorld) → new.site ≡ old.site → Counted old new
same_site old new e = stays (ap (λ (s : SiteView). s.counts.unsaid) e)

-- a step of one run, or of the filters beside one
one : (old new : FleetWorld) (a b : World) → a.site.counts.unsaid ≡ old.site.counts.unsaid → b.site.counts.unsaid ≡ new.site.counts.unsaid → b.phase ≡ new.phase → Step a b → Counted old new
one old new a b before after phase step = go (steps_unsaid a b (then_step no_step step))
  where
    go : Unsaid a b → Counted old new
    go (none_unsaid e) = stays (sym after ∙ e ∙ before)
    go (one_unsaid at e) = counts (sym phase ∙ at) (sym after ∙ e ∙ ap next_count before)

step_counted : (old new : FleetWorld) → FleetStep old new → Counted old new
step_counted old new (opens_clock answer is) = stays is.goes.reaches.unsaid
step_counted old new (finds_run_used place agent is) = same_site old new is.only.site
step_counted old new (asks_clock moment answer is) = stays is.goes.reaches.unsaid
step_counted old new (finds_late moment is) = same_site old new is.only.site
step_counted old new (begins place is) = one old new _ _ refl refl refl (one_begins is.does.does)
step_counted old new (moves place is) = one old new _ _ refl refl refl (one_moves is.does.does)
step_counted old new (expires place issue is) = one old new _ _ refl refl refl (one_expires issue is.does.does)
step_counted old new (says place v bytes is) = stays is.counted
step_counted old new (fails_to_say place v bytes is) = counts is.phase is.counted
step_counted old new (puts_first place issue is) = one old new _ _ refl refl refl (one_puts_first issue is.does.does)
step_counted old new (resends place issue is) = one old new _ _ refl refl refl (one_resends issue is.does.does)
step_counted old new (takes parcel is) = stays is.only.unsaid
step_counted old new (finds_none is) = stays is.only.unsaid
step_counted old new (fails_to_take is) = stays is.only.unsaid
step_counted old new (drops beat parcel is) = same_site old new is.site
step_counted old new (replies beat parcel place is) = one old new _ _ refl refl refl (one_replies beat parcel is.does.does)
step_counted old new (ignores_reply beat parcel is) = same_site old new is.site
step_counted old new (acts_on beat parcel v w is) = one old new _ _ refl refl refl (one_acts_on beat parcel v w is.does)
step_counted old new (repeats_reply beat parcel v w is) = one old new _ _ refl refl refl (one_repeats beat parcel v w is.does)
step_counted old new (fails_to_act beat parcel v w error cause is) = one old new _ _ refl refl refl (one_fails_to_act beat parcel v w error cause is.does)
step_counted old new (wants_memory_now is) = same_site old new is.only.site

steps_counted : (a b : FleetWorld) → FleetSteps a b → Counted a b
steps_counted a b nothing = stays refl
steps_counted a b (and_then {mid} steps step) = go (steps_counted a mid steps) (step_counted mid b step)
  where
    go : Counted a mid → Counted mid b → Counted a b
    go (stays e) (stays f) = stays (f ∙ e)
    go (stays e) (counts phase f) = counts phase (f ∙ ap next_count e)
    go (counts phase e) later = absurd (subst IsGoing phase (fleet_step_going mid b step))

-- ---- the opening

journals_counts : (runs : Runs) (start : SiteView) (n : ℕ) (site : SiteView) (engines : List EngineView) → OpensJournals runs start n site engines → site.counts ≡ start.counts
journals_counts runs start n site engines no_journal = refl
journals_counts runs start many site engines (one_journal {n} {old} {new} {before} run given v was there is) = is.opens.only.rest.counts ∙ journals_counts runs start n old before was

files_counts : (runs : Runs) (start site : SiteView) (engines : List EngineView) (filters : List ActuatorView) → AreFleetOpen runs start site engines filters → site.counts ≡ start.counts
files_counts runs start site engines filters files = files.others.rest.counts ∙ journals_counts runs start _ files.middle engines files.journals

opening_counts : (error : FleetError) (runs : Runs) (old new : SiteView) → RefusesFleetOpening error runs old new → new.counts ≡ old.counts
opening_counts error runs old new (inl first) = first.refuses.opens.only.rest.counts ∙ journals_counts runs old first.place first.middle first.engines first.before
opening_counts error runs old new (inr second) =
    second.refuses.refuses.opens.only.rest.counts ∙ second.refuses.before.rest.counts ∙ journals_counts runs old _ second.middle second.engines second.journals

-- ---- all

went_counted : (runs : Runs) (most : ℕ) (old new : SiteView) (w : FleetWent runs most old new) → (new.counts.unsaid ≡ old.counts.unsaid) ⊎ (w.to.phase ≡ refused not_said true)
went_counted runs most old new w = go (steps_counted w.start w.to w.steps)
  where
    go : Counted w.start w.to → (new.counts.unsaid ≡ old.counts.unsaid) ⊎ (w.to.phase ≡ refused not_said true)
    go (stays e) = inl (ap (λ (s : SiteView). s.counts.unsaid) (sym w.to_is) ∙ e ∙ ap (λ (c : CountsView). c.unsaid) (files_counts runs old w.start.site w.start.engines w.start.filters w.files))
    go (counts phase e) = inr phase

same_cause : (a b : Cause) (x y : Bool) → refused a x ≡ refused b y → a ≡ b
same_cause a b x y e = cc

-- a line that could not be said ends the fleet so
pub held-said : (runs : Runs) (most : ℕ) (old new : SiteView) (last : FleetEnd) → FleetHeld runs most old new last → (new.counts.unsaid ≡ old.counts.unsaid) ⊎ (last ≡ plain unsaid)
held-said runs most old new last h = go h.held
  where
    go : ClosesFleet runs most old new last ⊎ RefusesFleet runs most old new last → (new.counts.unsaid ≡ old.counts.unsaid) ⊎ (last ≡ plain unsaid)
    go (inl c) = by (went_counted runs most old new c.closed.went)
      where
        by : (new.counts.unsaid ≡ old.counts.unsaid) ⊎ (c.closed.went.to.phase ≡ refused not_said true) → (new.counts.unsaid ≡ old.counts.unsaid) ⊎ (last ≡ plain unsaid)
        by (inl e) = inl e
        by (inr phase) = absurd (closes_are_no_refusals c.closed.went.to c.close error.Say c.closed.closes (record { cause = not_said; lacks = true; phase = phase; is = refl }))
    go (inr r) = by r.refused
      where
        by : FleetRefused r.error runs most old new → (new.counts.unsaid ≡ old.counts.unsaid) ⊎ (last ≡ plain unsaid)
        by (inl opening) = inl (ap (λ (c : CountsView). c.unsaid) (opening_counts r.error runs old new opening))
        by (inr l) = at (went_counted runs most old new l.went)
          where
            at : (new.counts.unsaid ≡ old.counts.unsaid) ⊎ (l.went.to.phase ≡ refused not_said true) → (new.counts.unsaid ≡ old.counts.unsaid) ⊎ (last ≡ plain unsaid)
            at (inl e) = inl e
            at (inr phase) =
                let cause : l.refuses.cause ≡ not_said = same_cause l.refuses.cause not_said l.refuses.lacks true (sym l.refuses.phase ∙ phase) in
                let told : r.error ≡ error.Say = subst (λ (c : Cause). IsRefusalFor r.error c l.went.to) cause l.refuses.is in
                inr (r.ends ∙ ap error_end told)
