-- What may stand in a file after a fault.
use Rattle.std.proofs.Common.{◌≡◌, ◌⊎◌, inl, inr, ℕ, ◌≤◌, Bool, false, refl, sym, ◌∙◌, subst, ap, arith}
use Rattle.std.specs.Prelude.{Option, Some, None}
use Rattle.std.proofs.lemmas.Option.{none-some}
use Rattle.cacao_site.specs.declared.parcel.Parcel.{Parcel}
use Rattle.cacao_site.specs.View.{SiteView}
use Rattle.run_records.specs.declared.act.Act.{Act}
use Rattle.run_records.specs.declared.record.Record.{Record}
use Rattle.flow_core_rules.specs.Changes.{moment_of}
use Rattle.flow_engine.specs.HistoryCalls.{Is, Offers}
use Rattle.flow_engine.specs.HistoryView.{HistoryView}
use Rattle.flow_engine.specs.EngineView.{EngineView}
use Rattle.flow_laws.proofs.Basics.{same_some}
use Rattle.slpf_actuator.specs.ActuatorView.{ActuatorView}
use Rattle.slpf_actuator.specs.declared.error.ActError.{ActError}
use Rattle.slpf_actuator.specs.declared.error.ActError.TheVariants as act_error
use Rattle.flow_world_steps.specs.Appends.{Tries}
use Rattle.flow_world_steps.specs.Appends.Tries.{done, failed, limited}
use Rattle.flow_world_steps.specs.Steps.{FailsToAct, MayHaveActed, Step, Steps, Unsures}
use Rattle.flow_world_steps.specs.Steps.Step.{opens_clock, finds_run_used, asks_clock, finds_late, begins, moves, upgrades, tells, expires, says, fails_to_say}
use Rattle.flow_world_steps.specs.Steps.Step.{puts_first, resends, takes, finds_none, fails_to_take, drops, replies, ignores_reply, acts_on, repeats_reply, fails_to_act, wants_memory_now}
use Rattle.flow_world_steps.specs.Steps.Steps.{nothing, and_then}
use Rattle.flow_world_steps.specs.Unsure.{EachUnsure, EachUnsureAct, UnsureByFilter, UnsureByStep}
use Rattle.flow_world_steps.specs.Worlds.{Cause, IsGoing, Notes, World, disk_failed, refused}
use Rattle.flow_world_steps.proofs.Adding.{begins_now, moves_now, replies_now, steps_add}
use Rattle.flow_world_steps.proofs.Ended.{step_going}
use Rattle.flow_world_steps.proofs.Failing.{fails_notes}

-- ---- the journal

-- nothing is unsure that was not, and an engine whose file was whole still is
pub record StaysSure (old new : World) : Type 0 where
  pub unsure : new.notes.unsure ≡ old.notes.unsure
  pub whole : old.engine.history.broken ≡ false → new.engine.history.broken ≡ false

-- the disk failed while this record was appended
pub record FailedRecord (old new : World) : Type 0 where
  pub r : Record
  pub offers : Offers old.engine.history (Is r) old.site new.site
  pub notes : new.notes ≡ record old.notes { unsure = Some r }
  pub moment : moment_of r ≡ old.site.clock.now
  pub budget : 1 ≤ old.notes.left
  pub phase : new.phase ≡ refused disk_failed false

-- one of these
abbrev pub Goes : World → World → Type 0
Goes old new = StaysSure old new ⊎ FailedRecord old new

engine_same : (old new : World) → new.engine ≡ old.engine → new.notes.unsure ≡ old.notes.unsure → Goes old new
engine_same old new e unsure = inl (record { unsure = unsure; whole = λ whole. ap (λ (v : EngineView). v.history.broken) e ∙ whole })

-- a command was put
put : (old new : World) → new.engine.history ≡ old.engine.history → new.notes.unsure ≡ old.notes.unsure → Goes old new
put old new e unsure = inl (record { unsure = unsure; whole = λ whole. ap (λ (h : HistoryView). h.broken) e ∙ whole })

as_is : (h : HistoryView) (IsNext : Record → Type 0) (old new : SiteView) → (offers : Offers h IsNext old new) → Offers h (Is offers.comes.next) old new
as_is h IsNext old new offers = record {
  comes = record { next = offers.comes.next; edits = offers.comes.edits; is = refl; takes = offers.comes.takes };
  in_range = offers.in_range;
  within = offers.within;
  whole = offers.whole;
  file = offers.file;
  calls = offers.calls;
  written = offers.written;
}

tried : (IsNext : Record → Type 0) (old new : World) → ((next : Record) → IsNext next → moment_of next ≡ old.site.clock.now) → 1 ≤ old.notes.left → Tries IsNext old new → Goes old new
tried IsNext old new at budget (done is) = inl (record { unsure = ap (λ (n : Notes). n.unsure) is.notes; whole = λ whole. ap (λ (h : HistoryView). h.broken) is.appends.adds.view })
tried IsNext old new at budget (failed is) = inr (record {
  r = is.refuses.0.0.comes.next;
  offers = as_is old.engine.history IsNext old.site new.site is.refuses.0.0;
  notes = is.notes;
  moment = at is.refuses.0.0.comes.next is.refuses.0.0.comes.is;
  budget = budget;
  phase = is.phase;
})
tried IsNext old new at budget (limited what is) = put old new is.refuses.0.1 (ap (λ (n : Notes). n.unsure) is.notes)

pub step_goes : (old new : World) → Step old new → Goes old new
step_goes old new (opens_clock answer is) = engine_same old new is.goes.sides.engine (ap (λ (n : Notes). n.unsure) is.goes.notes)
step_goes old new (finds_run_used agent is) = engine_same old new is.only.sides.engine (ap (λ (n : Notes). n.unsure) is.only.notes)
step_goes old new (asks_clock moment answer is) = engine_same old new is.goes.sides.engine (ap (λ (n : Notes). n.unsure) is.goes.notes)
step_goes old new (finds_late moment is) = engine_same old new is.only.sides.engine (ap (λ (n : Notes). n.unsure) is.only.notes)
step_goes old new (begins is) = tried _ old new (begins_now old.engine.history old.site.clock.now) is.budget is.tries
step_goes old new (moves is) = tried _ old new (moves_now old.engine.history old.site.clock.now) is.has_looked.budget is.tries
step_goes old new (upgrades issue told is) = tried _ old new (λ next i. ap moment_of i) is.to_be_told.idle.has_looked.budget is.tries
step_goes old new (tells issue told is) = tried _ old new (λ next i. ap moment_of i) is.to_be_told.idle.has_looked.budget is.tries
step_goes old new (expires issue is) = tried _ old new (λ next i. ap moment_of i) is.overdue.untold.idle.has_looked.budget is.tries
step_goes old new (says bytes is) = engine_same old new is.speaks.sides.engine (ap (λ (n : Notes). n.unsure) is.speaks.notes)
step_goes old new (fails_to_say bytes is) = engine_same old new is.speaks.sides.engine (ap (λ (n : Notes). n.unsure) is.speaks.notes)
step_goes old new (puts_first issue is) = put old new (ap (λ (v : EngineView). v.history) is.puts.sends.view) (ap (λ (n : Notes). n.unsure) is.puts.notes)
step_goes old new (resends issue is) = put old new (ap (λ (v : EngineView). v.history) is.puts.sends.view) (ap (λ (n : Notes). n.unsure) is.puts.notes)
step_goes old new (takes parcel is) = engine_same old new is.sides.engine (ap (λ (n : Notes). n.unsure) is.notes)
step_goes old new (finds_none is) = engine_same old new is.sides.engine (ap (λ (n : Notes). n.unsure) is.notes)
step_goes old new (fails_to_take is) = engine_same old new is.sides.engine (ap (λ (n : Notes). n.unsure) is.notes)
step_goes old new (drops beat parcel is) = engine_same old new is.ignores.engine (ap (λ (n : Notes). n.unsure) is.ignores.notes)
step_goes old new (replies beat parcel is) = tried _ old new (replies_now old.engine.history parcel old.site.clock.now) is.budget is.tries
step_goes old new (ignores_reply beat parcel is) = engine_same old new is.ignores.engine (ap (λ (n : Notes). n.unsure) is.ignores.notes)
step_goes old new (acts_on beat parcel v w is) = engine_same old new is.engine (ap (λ (n : Notes). n.unsure) is.notes)
step_goes old new (repeats_reply beat parcel v w is) = engine_same old new is.ignores.engine (ap (λ (n : Notes). n.unsure) is.ignores.notes)
step_goes old new (fails_to_act beat parcel v w error cause is) = engine_same old new is.engine (ap (λ (n : Notes). n.unsure) (fails_notes error parcel v old new is.notes))
step_goes old new (wants_memory_now is) = engine_same old new is.only.sides.engine (ap (λ (n : Notes). n.unsure) is.only.notes)

-- no step follows a refusal
pub no_step : (old new : World) (cause : Cause) (lacks : Bool) → old.phase ≡ refused cause lacks → Step old new → ⊥
no_step old new cause lacks e step = subst IsGoing e (step_going old new step)

now_later : (old new : World) → Step old new → old.site.clock.now ≤ new.site.clock.now
now_later old new step = (steps_add old new (and_then nothing step)).later

pub unsure_by : (a mid b : World) → Steps a mid → (step : Step mid b) → mid.notes.unsure ≡ None → (is : FailedRecord mid b) → UnsureByStep a b is.r
unsure_by a mid b steps step none is = record {
  old = mid;
  before = steps;
  step = step;
  was = none;
  has = ap (λ (n : Notes). n.unsure) is.notes;
  offers = is.offers;
  moment = is.moment;
  later = (steps_add a mid steps).later;
  up_to = now_later mid b step;
  budget = let left = ap (λ (n : Notes). n.left) is.notes in let budget = is.budget in omega (arith, left, budget);
  phase = is.phase;
}

pub steps_unsure : EachUnsure
steps_unsure a b r none nothing has = absurd (none-some r (sym none ∙ has))
steps_unsure a b r none (and_then {mid} steps step) has = by mid.notes.unsure refl (step_goes mid b step) (λ s e. steps_unsure a mid s none steps e)
  where
    by : (o : Option Record) → mid.notes.unsure ≡ o → Goes mid b → ((s : Record) → mid.notes.unsure ≡ Some s → UnsureByStep a mid s) → UnsureByStep a b r
    by None e (inl same) before = absurd (none-some r (sym e ∙ sym same.unsure ∙ has))
    by None e (inr is) before =
        let same : is.r ≡ r = same_some (sym (ap (λ (n : Notes). n.unsure) is.notes) ∙ has) in
        subst (λ (x : Record). UnsureByStep a b x) same (unsure_by a mid b steps step e is)
    by (Some s) e goes before = absurd (no_step mid b disk_failed false (before s e).phase step)

-- ---- a filter's file

-- no act is unsure that was not, or the filter that refused may have added it
ActGoes : World → World → Type 0
ActGoes old new = (new.notes.unsure_act ≡ old.notes.unsure_act) ⊎ ((e : ℕ × Act) → new.notes.unsure_act ≡ Some e → UnsureByFilter old new e)

tried_act : (IsNext : Record → Type 0) (old new : World) → Tries IsNext old new → ActGoes old new
unfolding ActGoes
tried_act IsNext old new (done is) = inl (ap (λ (n : Notes). n.unsure_act) is.notes)
tried_act IsNext old new (failed is) = inl (ap (λ (n : Notes). n.unsure_act) is.notes)
tried_act IsNext old new (limited what is) = inl (ap (λ (n : Notes). n.unsure_act) is.notes)

act_fails : (old new : World) (beat : ℕ) (parcel : Parcel) (v w : ActuatorView) (error : ActError) (cause : Cause) → FailsToAct beat parcel v w error cause old new → Step old new → ActGoes old new
unfolding ActGoes
act_fails old new beat parcel v w error cause is step = by error is.notes
  where
    may : MayHaveActed parcel v old new → ActGoes old new
    may acted = inr (λ e has. record {
      old = old;
      before = nothing;
      beat = beat;
      parcel = parcel;
      v = v;
      w = w;
      error = error;
      cause = cause;
      fails = is;
      acted = acted;
      is = same_some (sym has ∙ ap (λ (n : Notes). n.unsure_act) acted.notes);
      later = omega arith;
      up_to = now_later old new step;
    })

    by : (error : ActError) → Unsures error parcel v old new → ActGoes old new
    by act_error.Disk acted = may acted
    by act_error.Memory one = elim one [ inl none ↦ inl (ap (λ (n : Notes). n.unsure_act) none.notes) | inr acted ↦ may acted ]
    by (act_error.Damaged place) none = inl (ap (λ (n : Notes). n.unsure_act) none.notes)
    by (act_error.Full length) none = inl (ap (λ (n : Notes). n.unsure_act) none.notes)
    by act_error.Broken none = inl (ap (λ (n : Notes). n.unsure_act) none.notes)

step_act_goes : (old new : World) → Step old new → ActGoes old new
unfolding ActGoes
step_act_goes old new (opens_clock answer is) = inl (ap (λ (n : Notes). n.unsure_act) is.goes.notes)
step_act_goes old new (finds_run_used agent is) = inl (ap (λ (n : Notes). n.unsure_act) is.only.notes)
step_act_goes old new (asks_clock moment answer is) = inl (ap (λ (n : Notes). n.unsure_act) is.goes.notes)
step_act_goes old new (finds_late moment is) = inl (ap (λ (n : Notes). n.unsure_act) is.only.notes)
step_act_goes old new (begins is) = tried_act _ old new is.tries
step_act_goes old new (moves is) = tried_act _ old new is.tries
step_act_goes old new (upgrades issue told is) = tried_act _ old new is.tries
step_act_goes old new (tells issue told is) = tried_act _ old new is.tries
step_act_goes old new (expires issue is) = tried_act _ old new is.tries
step_act_goes old new (says bytes is) = inl (ap (λ (n : Notes). n.unsure_act) is.speaks.notes)
step_act_goes old new (fails_to_say bytes is) = inl (ap (λ (n : Notes). n.unsure_act) is.speaks.notes)
step_act_goes old new (puts_first issue is) = inl (ap (λ (n : Notes). n.unsure_act) is.puts.notes)
step_act_goes old new (resends issue is) = inl (ap (λ (n : Notes). n.unsure_act) is.puts.notes)
step_act_goes old new (takes parcel is) = inl (ap (λ (n : Notes). n.unsure_act) is.notes)
step_act_goes old new (finds_none is) = inl (ap (λ (n : Notes). n.unsure_act) is.notes)
step_act_goes old new (fails_to_take is) = inl (ap (λ (n : Notes). n.unsure_act) is.notes)
step_act_goes old new (drops beat parcel is) = inl (ap (λ (n : Notes). n.unsure_act) is.ignores.notes)
step_act_goes old new (replies beat parcel is) = tried_act _ old new is.tries
step_act_goes old new (ignores_reply beat parcel is) = inl (ap (λ (n : Notes). n.unsure_act) is.ignores.notes)
step_act_goes old new (acts_on beat parcel v w is) = inl (ap (λ (n : Notes). n.unsure_act) is.notes)
step_act_goes old new (repeats_reply beat parcel v w is) = inl (ap (λ (n : Notes). n.unsure_act) is.ignores.notes)
step_act_goes old new (fails_to_act beat parcel v w error cause is) = act_fails old new beat parcel v w error cause is (fails_to_act beat parcel v w error cause is)
step_act_goes old new (wants_memory_now is) = inl (ap (λ (n : Notes). n.unsure_act) is.only.notes)

-- the filter that refused in the last step, from an earlier world
from_earlier : (a mid b : World) (e : ℕ × Act) → Steps a mid → UnsureByFilter mid b e → UnsureByFilter a b e
from_earlier a mid b e steps is = record {
  old = is.old;
  before = before_all a mid is.old steps is.before;
  beat = is.beat;
  parcel = is.parcel;
  v = is.v;
  w = is.w;
  error = is.error;
  cause = is.cause;
  fails = is.fails;
  acted = is.acted;
  is = is.is;
  later = let one = (steps_add a mid steps).later in let two = is.later in omega (arith, one, two);
  up_to = is.up_to;
}
  where
    before_all : (a b c : World) → Steps a b → Steps b c → Steps a c
    before_all a b c one nothing = one
    before_all a b c one (and_then {mid} two step) = and_then (before_all a b mid one two) step

pub steps_unsure_act : EachUnsureAct
unfolding ActGoes
steps_unsure_act a b r none nothing has = absurd (none-some r (sym none ∙ has))
steps_unsure_act a b r none (and_then {mid} steps step) has = by mid.notes.unsure_act refl (step_act_goes mid b step) (λ s e. steps_unsure_act a mid s none steps e)
  where
    by : (o : Option (ℕ × Act)) → mid.notes.unsure_act ≡ o → ActGoes mid b → ((s : ℕ × Act) → mid.notes.unsure_act ≡ Some s → UnsureByFilter a mid s) → UnsureByFilter a b r
    by None e (inl same) before = absurd (none-some r (sym e ∙ sym same ∙ has))
    by None e (inr is) before = from_earlier a mid b r steps (is r has)
    by (Some s) e goes before =
        let was = before s e in
        absurd (no_step mid b was.cause false was.fails.phase step)
