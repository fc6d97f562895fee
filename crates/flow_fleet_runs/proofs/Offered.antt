-- What the last call of a fleet may have left, where it failed.
use Rattle.std.proofs.Common.{◌≡◌, ◌≢◌, ◌⊎◌, inl, inr, ℕ, ◌≤◌, Bool, false, List, refl, sym, ◌∙◌, subst, ap, arith}
use Rattle.std.specs.Prelude.{Option, Some, None, slice_get, slice_set}
use Rattle.std.proofs.lemmas.Option.{none-some}
use Rattle.cacao_site.specs.View.{SiteView}
use Rattle.cacao_site.specs.declared.parcel.Parcel.{Parcel}
use Rattle.run_records.specs.declared.act.Act.{Act}
use Rattle.run_records.specs.declared.record.Record.{Record}
use Rattle.flow_core_rules.specs.Changes.{moment_of}
use Rattle.flow_engine_history.specs.HistoryCalls.{Is, Offers}
use Rattle.flow_engine_history.specs.HistoryView.{HistoryView}
use Rattle.flow_engine.specs.EngineView.{EngineView}
use Rattle.flow_laws.proofs.Basics.{same_or_not, same_some}
use Rattle.slpf_actuator.specs.ActuatorView.{ActuatorView, act_for}
use Rattle.slpf_actuator.specs.declared.error.ActError.{ActError}
use Rattle.slpf_actuator.specs.declared.error.ActError.TheVariants as act_error
use Rattle.flow_world_steps.specs.Appends.{Tries}
use Rattle.flow_world_steps.specs.Appends.Tries.{done, failed, limited}
use Rattle.flow_world_steps.specs.Steps.{FailsToAct, MayHaveActed, Unsures}
use Rattle.flow_world_steps.specs.Worlds.{Cause, IsGoing, Notes, World, disk_failed, refused}
use Rattle.flow_world_steps.proofs.Adding.{begins_now, moves_now, replies_now}
use Rattle.flow_world_steps.proofs.Handling.{get_set_same}
use Rattle.flow_fleet_laws.specs.Views.{seen_from}
use Rattle.flow_fleet_steps.specs.Steps.{FiltersDo, FleetStep, FleetSteps}
use Rattle.flow_fleet_steps.specs.Steps.FleetStep.{opens_clock, finds_run_used, asks_clock, finds_late, begins, moves, expires, says, fails_to_say, puts_first, resends}
use Rattle.flow_fleet_steps.specs.Steps.FleetStep.{takes, finds_none, fails_to_take, drops, replies, ignores_reply, acts_on, repeats_reply, fails_to_act, wants_memory_now}
use Rattle.flow_fleet_steps.specs.Steps.FleetSteps.{nothing, and_then}
use Rattle.flow_fleet_steps.specs.Worlds.{FleetWorld, Own, Shared, part, set_own}
use Rattle.flow_fleet_steps.proofs.Spending.{fleet_step_going}
use Rattle.flow_fleet_sums.proofs.Adding.{fleet_steps_add}
use Rattle.flow_fleet_sums.proofs.Written.{own_here}
use Rattle.flow_fleet_runs.specs.Came.{ShowsWhy}
use Rattle.flow_fleet_runs.specs.Unsure.{EachFleetOffered, EachFleetOfferedAct, EachOfferedBegin, FleetOffered, OfferedByFilter}
use Rattle.flow_fleet_runs.proofs.Calls.{why_begins, why_expires, why_moves, why_replies}
use Rattle.flow_fleet_runs.proofs.Came.{begins_why}
use Rattle.flow_fleet_runs.proofs.Changing.{own_other}

-- ---- the journals

-- no record of any run is unsure that was not
pub record StaysSure (old new : FleetWorld) : Type 0 where
  pub unsure : (place : ℕ) → (new.own place).unsure ≡ (old.own place).unsure

-- the disk failed while this record was appended to the journal at a place
pub record FailedRecord (place : ℕ) (r : Record) (old new : FleetWorld) : Type 0 where
  pub v : EngineView
  pub w : EngineView
  pub there : slice_get old.engines place ≡ Some v
  pub here : slice_get new.engines place ≡ Some w
  pub same : w.history.records ≡ v.history.records
  pub offers : Offers v.history (Is r) (seen_from place old.site) (seen_from place new.site)
  pub moment : moment_of r ≡ old.site.clock.now
  pub why : ShowsWhy r place v old
  pub budget : 1 ≤ new.notes.left
  pub phase : new.phase ≡ refused disk_failed false
  pub place_is : new.place ≡ place
  pub has : (new.own place).unsure ≡ Some r
  pub others : (other : ℕ) → other ≢ place → (new.own other).unsure ≡ (old.own other).unsure

-- one of these
pub data Goes (old new : FleetWorld) : Type 0 where
  stays_sure : StaysSure old new → Goes old new
  fails_at : (place : ℕ) (r : Record) → FailedRecord place r old new → Goes old new

same_own : (old new : FleetWorld) → new.own ≡ old.own → Goes old new
same_own old new e = stays_sure (record { unsure = λ place. ap (λ (o : ℕ → Own). (o place).unsure) e })

module _ (place : ℕ) (old new : FleetWorld) (own : Own) (owns : new.own ≡ set_own place own old.own) where
  own_now : (new.own place).unsure ≡ own.unsure
  own_now = ap (λ (o : ℕ → Own). (o place).unsure) owns ∙ ap (λ (o : Own). o.unsure) (own_here place own old.own)

  others_stay : (other : ℕ) → other ≢ place → (new.own other).unsure ≡ (old.own other).unsure
  others_stay other ne = ap (λ (o : ℕ → Own). (o other).unsure) owns ∙ ap (λ (o : Own). o.unsure) (own_other place other own old.own ne)

  same_at : own.unsure ≡ (old.own place).unsure → Goes old new
  same_at same = stays_sure (record {
    unsure = λ k. elim (same_or_not k place) [
      | inl e ↦ subst (λ (n : ℕ). (new.own n).unsure ≡ (old.own n).unsure) (sym e) (own_now ∙ same)
      | inr ne ↦ others_stay k ne
    ];
  })

as_is : (h : HistoryView) (IsNext : Record → Type 0) (old new : SiteView) → (offers : Offers h IsNext old new) → Offers h (Is offers.comes.next) old new
as_is h IsNext old new offers = record {
  comes = record { next = offers.comes.next; edits = offers.comes.edits; is = refl; takes = offers.comes.takes };
  in_range = offers.in_range;
  within = offers.within;
  whole = offers.whole;
  file = offers.file;
  calls = offers.calls;
  written = offers.written;
}

tried : (IsNext : Record → Type 0) (place : ℕ) (old new : FleetWorld) (v w : EngineView) (own : Own) → slice_get old.engines place ≡ Some v → new.engines ≡ slice_set old.engines place w
    → new.own ≡ set_own place own old.own → new.place ≡ place → 1 ≤ old.notes.left → ((next : Record) → IsNext next → moment_of next ≡ old.site.clock.now)
    → ((next : Record) → IsNext next → ShowsWhy next place v old) → Tries IsNext (part place v (old.own place) old) (part place w own new) → Goes old new
tried IsNext place old new v w own there engines owns place_is budget at why (done is) = same_at place old new own owns (ap (λ (n : Notes). n.unsure) is.notes)
tried IsNext place old new v w own there engines owns place_is budget at why (failed is) =
    let offers = is.refuses.0.0 in
    let left : new.notes.left ≡ old.notes.left = ap (λ (n : Notes). n.left) is.notes in
    fails_at place offers.comes.next (record {
      v = v;
      w = w;
      there = there;
      here = subst (λ (l : List EngineView). slice_get l place ≡ Some w) (sym engines) (get_set_same old.engines place v w there);
      same = ap (λ (h : HistoryView). h.records) is.refuses.0.1;
      offers = as_is v.history IsNext (seen_from place old.site) (seen_from place new.site) offers;
      moment = at offers.comes.next offers.comes.is;
      why = why offers.comes.next offers.comes.is;
      budget = omega (arith, left, budget);
      phase = is.phase;
      place_is = place_is;
      has = own_now place old new own owns ∙ ap (λ (n : Notes). n.unsure) is.notes;
      others = others_stay place old new own owns;
    })
tried IsNext place old new v w own there engines owns place_is budget at why (limited what is) = same_at place old new own owns (ap (λ (n : Notes). n.unsure) is.notes)

step_goes : (old new : FleetWorld) → FleetStep old new → Goes old new
step_goes old new (opens_clock answer is) = same_own old new is.goes.sides.own
step_goes old new (finds_run_used place agent is) = same_own old new is.only.sides.own
step_goes old new (asks_clock moment answer is) = same_own old new is.goes.sides.own
step_goes old new (finds_late moment is) = same_own old new is.only.sides.own
step_goes old new (begins place is) =
    let d = is.does in
    tried _ place old new d.v d.w d.own d.there d.engines d.owns d.place_is d.does.budget (begins_now d.v.history old.site.clock.now) (why_begins place old new is) d.does.tries
step_goes old new (moves place is) =
    let d = is.does in
    tried _ place old new d.v d.w d.own d.there d.engines d.owns d.place_is is.has_looked.budget (moves_now d.v.history old.site.clock.now) (why_moves place old new is) d.does.tries
step_goes old new (expires place issue is) =
    let d = is.does in
    tried _ place old new d.v d.w d.own d.there d.engines d.owns d.place_is is.idle.has_looked.budget (λ next e. ap moment_of e) (why_expires place issue old new is) d.does.tries
step_goes old new (says place v bytes is) = same_own old new is.speaks.sides.own
step_goes old new (fails_to_say place v bytes is) = same_own old new is.speaks.sides.own
step_goes old new (puts_first place issue is) = let d = is.does in same_at place old new d.own d.owns (ap (λ (n : Notes). n.unsure) d.does.puts.notes)
step_goes old new (resends place issue is) = let d = is.does in same_at place old new d.own d.owns (ap (λ (n : Notes). n.unsure) d.does.puts.notes)
step_goes old new (takes parcel is) = same_own old new is.sides.own
step_goes old new (finds_none is) = same_own old new is.sides.own
step_goes old new (fails_to_take is) = same_own old new is.sides.own
step_goes old new (drops beat parcel is) = same_own old new is.ignores.sides.own
step_goes old new (replies beat parcel place is) =
    let d = is.does in
    tried _ place old new d.v d.w d.own d.there d.engines d.owns d.place_is d.does.budget (replies_now d.v.history parcel old.site.clock.now) (why_replies beat parcel place old new is) d.does.tries
step_goes old new (ignores_reply beat parcel is) = same_own old new is.ignores.sides.own
step_goes old new (acts_on beat parcel v w is) = same_own old new is.own
step_goes old new (repeats_reply beat parcel v w is) = same_own old new is.own
step_goes old new (fails_to_act beat parcel v w error cause is) = same_own old new is.own
step_goes old new (wants_memory_now is) = same_own old new is.only.sides.own

-- no step follows a refusal
pub no_more : (old new : FleetWorld) (cause : Cause) (lacks : Bool) → old.phase ≡ refused cause lacks → FleetStep old new → ⊥
no_more old new cause lacks e step = subst IsGoing e (fleet_step_going old new step)

offered_by : (a mid b : FleetWorld) → FleetSteps a mid → FleetStep mid b → (place : ℕ) (v : EngineView) (r : Record) → slice_get a.engines place ≡ Some v → FailedRecord place r mid b → FleetOffered a b place v r
offered_by a mid b steps step place v r there is =
    let at = (fleet_steps_add a mid steps).each place v is.v there is.there in
    record {
      by = record {
        old = mid;
        before = steps;
        step = step;
        v = is.v;
        w = is.w;
        there = is.there;
        here = is.here;
        same = is.same;
        offers = is.offers;
        moment = is.moment;
        why = is.why;
        budget = is.budget;
        phase = is.phase;
        place_is = is.place_is;
      };
      run = at.run;
      given = at.given;
    }

pub fleets_offer : EachFleetOffered
fleets_offer a b nothing place v r there none has = absurd (none-some r (sym none ∙ has))
fleets_offer a b (and_then {mid} steps step) place v r there none has = by (mid.own place).unsure refl (step_goes mid b step) (λ s e. fleets_offer a mid steps place v s there none e)
  where
    at : (s : Record) → (b.own place).unsure ≡ Some s → FailedRecord place s mid b → FleetOffered a b place v r
    at s now is = offered_by a mid b steps step place v r there (subst (λ (x : Record). FailedRecord place x mid b) (same_some (sym now ∙ has)) is)

    by : (o : Option Record) → (mid.own place).unsure ≡ o → Goes mid b → ((s : Record) → (mid.own place).unsure ≡ Some s → FleetOffered a mid place v s) → FleetOffered a b place v r
    by None e (stays_sure is) before = absurd (none-some r (sym e ∙ sym (is.unsure place) ∙ has))
    by None e (fails_at k s is) before = elim (same_or_not place k) [
      | inl same ↦
          let here : FailedRecord place s mid b = subst (λ (n : ℕ). FailedRecord n s mid b) (sym same) is in
          at s here.has here
      | inr ne ↦ absurd (none-some r (sym e ∙ sym (is.others place ne) ∙ has))
    ]
    by (Some s) e goes before = absurd (no_more mid b disk_failed false (before s e).by.phase step)

pub offered_begins : EachOfferedBegin
offered_begins a b runs most opened steps place v r there has =
    let offered = fleets_offer a b steps place v r there (ap (λ (o : ℕ → Own). (o place).unsure) opened.own) has in
    begins_why runs place v offered.by.v offered.by.old r (opened.of_runs place v there) offered.run offered.given offered.by.why

-- ---- a filter's file

-- the filter of an agent refused, and may have appended this act
record FailedAct (e : ℕ × Act) (old new : FleetWorld) : Type 0 where
  pub beat : ℕ
  pub parcel : Parcel
  pub v : ActuatorView
  pub w : ActuatorView
  pub error : ActError
  pub cause : Cause
  pub fails : FiltersDo (FailsToAct beat parcel v w error cause) old new
  pub acted : MayHaveActed parcel v (part 0 fails.v (old.own 0) old) (part 0 fails.v (old.own 0) new)
  pub is : e ≡ (parcel.agent, act_for v.acts parcel old.site.clock.now)

-- no act is unsure that was not, or it is that one
abbrev ActGoes : FleetWorld → FleetWorld → Type 0
ActGoes old new = (new.notes.unsure_act ≡ old.notes.unsure_act) ⊎ ((e : ℕ × Act) → new.notes.unsure_act ≡ Some e → FailedAct e old new)

same_notes : (old new : FleetWorld) → new.notes ≡ old.notes → ActGoes old new
same_notes old new e = inl (ap (λ (n : Shared). n.unsure_act) e)

tried_act : (IsNext : Record → Type 0) (old new : World) → Tries IsNext old new → new.notes.unsure_act ≡ old.notes.unsure_act
tried_act IsNext old new (done is) = ap (λ (n : Notes). n.unsure_act) is.notes
tried_act IsNext old new (failed is) = ap (λ (n : Notes). n.unsure_act) is.notes
tried_act IsNext old new (limited what is) = ap (λ (n : Notes). n.unsure_act) is.notes

act_fails : (old new : FleetWorld) (beat : ℕ) (parcel : Parcel) (v w : ActuatorView) (error : ActError) (cause : Cause) → FiltersDo (FailsToAct beat parcel v w error cause) old new → ActGoes old new
act_fails old new beat parcel v w error cause is = by error is.does.notes
  where
    may : MayHaveActed parcel v (part 0 is.v (old.own 0) old) (part 0 is.v (old.own 0) new) → ActGoes old new
    may acted = inr (λ e has. record {
      beat = beat;
      parcel = parcel;
      v = v;
      w = w;
      error = error;
      cause = cause;
      fails = is;
      acted = acted;
      is = same_some (sym has ∙ ap (λ (n : Notes). n.unsure_act) acted.notes);
    })

    by : (x : ActError) → Unsures x parcel v (part 0 is.v (old.own 0) old) (part 0 is.v (old.own 0) new) → ActGoes old new
    by act_error.Disk acted = may acted
    by act_error.Memory one = elim one [ inl none ↦ inl (ap (λ (n : Notes). n.unsure_act) none.notes) | inr acted ↦ may acted ]
    by (act_error.Damaged place) none = inl (ap (λ (n : Notes). n.unsure_act) none.notes)
    by (act_error.Full needed) none = inl (ap (λ (n : Notes). n.unsure_act) none.notes)
    by act_error.Broken none = inl (ap (λ (n : Notes). n.unsure_act) none.notes)

step_act_goes : (old new : FleetWorld) → FleetStep old new → ActGoes old new
step_act_goes old new (opens_clock answer is) = inl (ap (λ (n : Shared). n.unsure_act) is.goes.notes)
step_act_goes old new (finds_run_used place agent is) = same_notes old new is.only.notes
step_act_goes old new (asks_clock moment answer is) = inl (ap (λ (n : Shared). n.unsure_act) is.goes.notes)
step_act_goes old new (finds_late moment is) = same_notes old new is.only.notes
step_act_goes old new (begins place is) = inl (tried_act _ _ _ is.does.does.tries)
step_act_goes old new (moves place is) = inl (tried_act _ _ _ is.does.does.tries)
step_act_goes old new (expires place issue is) = inl (tried_act _ _ _ is.does.does.tries)
step_act_goes old new (says place v bytes is) = same_notes old new is.speaks.notes
step_act_goes old new (fails_to_say place v bytes is) = same_notes old new is.speaks.notes
step_act_goes old new (puts_first place issue is) = inl (ap (λ (n : Notes). n.unsure_act) is.does.does.puts.notes)
step_act_goes old new (resends place issue is) = inl (ap (λ (n : Notes). n.unsure_act) is.does.does.puts.notes)
step_act_goes old new (takes parcel is) = same_notes old new is.notes
step_act_goes old new (finds_none is) = same_notes old new is.notes
step_act_goes old new (fails_to_take is) = same_notes old new is.notes
step_act_goes old new (drops beat parcel is) = inl (ap (λ (n : Shared). n.unsure_act) is.ignores.notes)
step_act_goes old new (replies beat parcel place is) = inl (tried_act _ _ _ is.does.does.tries)
step_act_goes old new (ignores_reply beat parcel is) = inl (ap (λ (n : Shared). n.unsure_act) is.ignores.notes)
step_act_goes old new (acts_on beat parcel v w is) = inl (ap (λ (n : Notes). n.unsure_act) is.does.notes)
step_act_goes old new (repeats_reply beat parcel v w is) = inl (ap (λ (n : Notes). n.unsure_act) is.does.ignores.notes)
step_act_goes old new (fails_to_act beat parcel v w error cause is) = act_fails old new beat parcel v w error cause is
step_act_goes old new (wants_memory_now is) = same_notes old new is.only.notes

pub fleets_offer_acts : EachFleetOfferedAct
fleets_offer_acts a b nothing e none has = absurd (none-some e (sym none ∙ has))
fleets_offer_acts a b (and_then {mid} steps step) e none has = by mid.notes.unsure_act refl (step_act_goes mid b step) (λ s was. fleets_offer_acts a mid steps s none was)
  where
    by : (o : Option (ℕ × Act)) → mid.notes.unsure_act ≡ o → ActGoes mid b → ((s : ℕ × Act) → mid.notes.unsure_act ≡ Some s → OfferedByFilter a mid s) → OfferedByFilter a b e
    by None was (inl same) before = absurd (none-some e (sym was ∙ sym same ∙ has))
    by None was (inr now) before =
        let is = now e has in
        record {
          old = mid;
          before = steps;
          beat = is.beat;
          parcel = is.parcel;
          v = is.v;
          w = is.w;
          error = is.error;
          cause = is.cause;
          fails = is.fails;
          acted = is.acted;
          is = is.is;
        }
    by (Some s) was goes before = let is = before s was in absurd (no_more mid b is.cause false is.fails.does.phase step)
