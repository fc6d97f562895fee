-- How each act came that a session appended.
use Rattle.std.proofs.Common.{◌≡◌, inl, inr, ℕ, ◌≤◌, List, [], ◌∷◌, ◌++◌, length, refl, sym, ◌∙◌, subst, ap, arith}
use Rattle.std.specs.Prelude.{max, Some}
use Rattle.std.proofs.lemmas.Bool.{cases_lt}
use Rattle.std.proofs.lemmas.List.{length-append}
use Rattle.cacao_site.specs.View.{ClockView, SiteView}
use Rattle.cacao_site.specs.declared.parcel.Parcel.{Parcel}
use Rattle.run_records.specs.declared.act.Act.{Act}
use Rattle.run_records.specs.declared.record.Record.{Record}
use Rattle.flow_core_rules.specs.Givens.{Given}
use Rattle.flow_engine_answers.specs.declared.answers.OperatorAnswer.{OperatorAnswer}
use Rattle.slpf_actuator.specs.ActLists.{moment_of_last}
use Rattle.slpf_actuator.specs.ActuatorView.{ActuatorView, act_for}
use Rattle.flow_world_steps.specs.Appends.{Tries}
use Rattle.flow_world_steps.specs.Appends.Tries.{done, failed, limited}
use Rattle.flow_world_steps.specs.Steps.{ActsOn, Step}
use Rattle.flow_world_steps.specs.Steps.Step.{opens_clock, finds_run_used, asks_clock, finds_late, begins, moves, upgrades, tells, expires, says, fails_to_say}
use Rattle.flow_world_steps.specs.Steps.Step.{puts_first, resends, takes, finds_none, fails_to_take, drops, replies, ignores_reply, acts_on, repeats_reply, fails_to_act, wants_memory_now}
use Rattle.flow_world_steps.specs.Worlds.{Notes, World}
use Rattle.flow_world_steps.proofs.Adding.{step_adds, steps_add}
use Rattle.flow_world_steps.proofs.Came.{same_last, steps_acted}
use Rattle.flow_world_steps.proofs.Failing.{fails_notes}
use Rattle.flow_world_steps.proofs.Unsure.{steps_unsure_act}
use Rattle.flow_world_laws.specs.Acts.{ActedOn, EachActCame, EachOfferedActCame, IsActInTime, OfferedActLast}
use Rattle.flow_world_laws.specs.AllCame.{WentOn}
use Rattle.flow_world_laws.proofs.Came.{went_on}

-- ---- one call

-- a filter acted on the command in hand
record Acted (old new : World) (e : ℕ × Act) : Type 0 where
  beat : ℕ
  parcel : Parcel
  v : ActuatorView
  w : ActuatorView
  acts : ActsOn beat parcel v w old new
  is : e ≡ (parcel.agent, act_for v.acts parcel old.site.clock.now)

not_more : (xs : List (ℕ × Act)) (e : ℕ × Act) → xs ≡ xs ++ e ∷ [] → ⊥
not_more xs e is = let long = ap (λ (l : List (ℕ × Act)). length l) is in omega (arith, long, length-append xs (e ∷ []))

module _ (old new : World) (e : ℕ × Act) (has : new.notes.acted ≡ old.notes.acted ++ e ∷ []) where
  none : new.notes.acted ≡ old.notes.acted → Acted old new e
  none same = absurd (not_more old.notes.acted e (sym same ∙ has))

  stay : new.notes ≡ old.notes → Acted old new e
  stay same = none (ap (λ (n : Notes). n.acted) same)

  tried : (IsNext : Record → Type 0) → Tries IsNext old new → Acted old new e
  tried IsNext (done is) = none (ap (λ (n : Notes). n.acted) is.notes)
  tried IsNext (failed is) = none (ap (λ (n : Notes). n.acted) is.notes)
  tried IsNext (limited what is) = none (ap (λ (n : Notes). n.acted) is.notes)

  by_step : Step old new → Acted old new e
  by_step (opens_clock answer is) = none (ap (λ (n : Notes). n.acted) is.goes.notes)
  by_step (finds_run_used agent is) = stay is.only.notes
  by_step (asks_clock moment answer is) = none (ap (λ (n : Notes). n.acted) is.goes.notes)
  by_step (finds_late moment is) = stay is.only.notes
  by_step (begins is) = tried _ is.tries
  by_step (moves is) = tried _ is.tries
  by_step (upgrades issue told is) = tried _ is.tries
  by_step (tells issue told is) = tried _ is.tries
  by_step (expires issue is) = tried _ is.tries
  by_step (says bytes is) = stay is.speaks.notes
  by_step (fails_to_say bytes is) = stay is.speaks.notes
  by_step (puts_first issue is) = none (ap (λ (n : Notes). n.acted) is.puts.notes)
  by_step (resends issue is) = none (ap (λ (n : Notes). n.acted) is.puts.notes)
  by_step (takes parcel is) = stay is.notes
  by_step (finds_none is) = stay is.notes
  by_step (fails_to_take is) = stay is.notes
  by_step (drops beat parcel is) = none (ap (λ (n : Notes). n.acted) is.ignores.notes)
  by_step (replies beat parcel is) = tried _ is.tries
  by_step (ignores_reply beat parcel is) = none (ap (λ (n : Notes). n.acted) is.ignores.notes)
  by_step (acts_on beat parcel v w is) = record {
    beat = beat;
    parcel = parcel;
    v = v;
    w = w;
    acts = is;
    is = (same_last old.notes.acted old.notes.acted e (parcel.agent, act_for v.acts parcel old.site.clock.now) (sym has ∙ ap (λ (n : Notes). n.acted) is.notes)).1;
  }
  by_step (repeats_reply beat parcel v w is) = none (ap (λ (n : Notes). n.acted) is.ignores.notes)
  by_step (fails_to_act beat parcel v w error cause is) = none (ap (λ (n : Notes). n.acted) (fails_notes error parcel v old new is.notes))
  by_step (wants_memory_now is) = stay is.only.notes

-- ---- its moment

in_time : (from to : SiteView) (now : ℕ) (acts : List Act) (parcel : Parcel) → from.clock.now ≤ now → now ≤ to.clock.now → IsActInTime from to now acts (act_for acts parcel now)
in_time from to now acts parcel later before =
    let is : (act_for acts parcel now).moment ≡ max now (moment_of_last acts) = refl in
    record {
      at = is;
      behind = omega (arith, is);
      no_earlier = omega (arith, is, later);
      within = elim (cases_lt now (moment_of_last acts)) [ inl less ↦ inr (omega (arith, is, less)) | inr past ↦ inl (omega (arith, is, past, before)) ];
    }

-- the same of an act that is known to be this one
this_in_time : (from to : SiteView) (now : ℕ) (acts : List Act) (parcel : Parcel) (e : ℕ × Act) → e ≡ (parcel.agent, act_for acts parcel now) → from.clock.now ≤ now → now ≤ to.clock.now
    → IsActInTime from to now acts e.1
this_in_time from to now acts parcel e is later before = subst (λ (x : ℕ × Act). IsActInTime from to now acts x.1) (sym is) (in_time from to now acts parcel later before)

-- ---- what went on from open files

module _ (given : Given) (run most : ℕ) (answers : List OperatorAnswer) (a b : World) (old new : SiteView) (went : WentOn given run most answers a b old new) where
  first_now : a.site.clock.now ≡ old.clock.now
  first_now = ap (λ (c : ClockView). c.now) went.rest.clock

  last_now : b.site.clock.now ≡ new.clock.now
  last_now = ap (λ (s : SiteView). s.clock.now) went.to_is

  none_yet : a.notes.acted ≡ []
  none_yet = ap (λ (n : Notes). n.acted) went.begins.notes

  pub act_came : (front back : List (ℕ × Act)) (e : ℕ × Act) → b.notes.acted ≡ front ++ e ∷ back → ActedOn a b old new front e
  act_came front back e split =
      let c = steps_acted a b went.steps front back e (split ∙ ap (λ (l : List (ℕ × Act)). (l ++ front) ++ e ∷ back) (sym none_yet)) in
      let did = by_step c.old c.new e c.has c.step in
      let early = steps_add a c.old c.before in
      let call = step_adds c.old c.new c.step in
      let late = steps_add c.new b c.after in
      record {
        old = c.old;
        new = c.new;
        before = c.before;
        after = c.after;
        beat = did.beat;
        parcel = did.parcel;
        v = did.v;
        w = did.w;
        acts = did.acts;
        was = c.was ∙ ap (λ (l : List (ℕ × Act)). l ++ front) none_yet;
        is = did.is;
        in_time = this_in_time old new c.old.site.clock.now did.v.acts did.parcel e did.is (omega (arith, early.later, first_now)) (omega (arith, call.later, late.later, last_now));
      }

  -- an act that may stand behind those of its filter
  pub offered_act_came : (e : ℕ × Act) → b.notes.unsure_act ≡ Some e → OfferedActLast a b old new e
  offered_act_came e unsure =
      let by = steps_unsure_act a b e (ap (λ (n : Notes). n.unsure_act) went.begins.notes) went.steps unsure in
      record {
        by = by;
        in_time = this_in_time old new by.old.site.clock.now by.v.acts by.parcel e by.is (omega (arith, by.later, first_now)) (omega (arith, by.up_to, last_now));
      }

-- ---- a session

pub each_act_came : EachActCame
each_act_came given run most answers old new went = act_came given run most answers went.start went.to old new (went_on given run most answers old new went)

pub each_offered_act_came : EachOfferedActCame
each_offered_act_came given run most answers old new went = offered_act_came given run most answers went.start went.to old new (went_on given run most answers old new went)
