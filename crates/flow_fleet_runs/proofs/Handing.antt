-- What each call of a fleet does with the parcel in hand.
use Rattle.std.proofs.Common.{◌≡◌, ◌⊎◌, inl, inr, ℕ, ◌-◌, Bool, true, false, List, [], ◌∷◌, ◌++◌, refl, sym, ◌∙◌, subst, ap}
use Rattle.std.specs.Prelude.{Some, Contains, slice_get, slice_set}
use Rattle.std.proofs.lemmas.Bool.{false≢true}
use Rattle.std.proofs.lemmas.List.Elements.{Contains-push}
use Rattle.cacao_site.specs.LinkCalls.{GainsAll}
use Rattle.cacao_site.specs.View.{LinkView, SiteView}
use Rattle.cacao_site.specs.declared.parcel.Parcel.{Parcel}
use Rattle.run_records.specs.declared.act.Act.{Act}
use Rattle.run_records.specs.declared.record.Record.{Record}
use Rattle.run_records.specs.declared.record.Record.TheVariants as entry
use Rattle.flow_engine_history.specs.HistoryView.{HistoryView}
use Rattle.flow_engine.specs.EngineCalls.{IsReply}
use Rattle.flow_engine.specs.EngineView.{EngineView}
use Rattle.slpf_actuator.specs.ActuatorView.{ActuatorView, act_for}
use Rattle.flow_world_steps.specs.Appends.{Tries}
use Rattle.flow_world_steps.specs.Appends.Tries.{done, failed, limited}
use Rattle.flow_world_steps.specs.Handled.{IsAtHand, IsBack, IsCommand}
use Rattle.flow_world_steps.specs.Steps.Step.{replies as one_replies}
use Rattle.flow_world_steps.specs.Worlds.{Cause, World, holds, refused}
use Rattle.flow_world_steps.proofs.Agreement.{step_run}
use Rattle.flow_world_steps.proofs.Growth.{gains_one}
use Rattle.flow_world_steps.proofs.Handling.{get_set_same}
use Rattle.flow_world_steps.proofs.Hands.{HandGoes, IsEmptyAt, TakesEmpty, at_looked, at_opened, at_owes, at_rests, empty_to, refused_to, to_looked, to_owes, to_reached, to_rests}
use Rattle.flow_world_steps.proofs.Spoken.{fails_said}
use Rattle.flow_fleet_laws.specs.Views.{seen_from}
use Rattle.flow_fleet_steps.specs.Steps.{FleetStep}
use Rattle.flow_fleet_steps.specs.Steps.FleetStep.{opens_clock, finds_run_used, asks_clock, finds_late, begins, moves, expires, says, fails_to_say, puts_first, resends}
use Rattle.flow_fleet_steps.specs.Steps.FleetStep.{takes, finds_none, fails_to_take, drops, replies, ignores_reply, acts_on, repeats_reply, fails_to_act, wants_memory_now}
use Rattle.flow_fleet_steps.specs.Worlds.{FleetWorld, Own, part}
use Rattle.flow_fleet_runs.specs.Handled.{HasItsActIn, HasItsReplyIn, IsNoReplyIn}

-- what one call did with the parcel in hand: nothing; or one was taken; or it was handed on
pub data Hands (old new : FleetWorld) : Type 0 where
  keeps_hand : new.site.link.taken ≡ old.site.link.taken → HandGoes old.phase new.phase → Hands old new
  takes_one : (parcel : Parcel) → IsEmptyAt old.phase → GainsAll old.site.link.taken ((new.site.disk.beat, parcel) ∷ []) new.site.link.taken
      → new.phase ≡ holds new.site.disk.beat parcel → Hands old new
  hands_on : (beat : ℕ) (parcel : Parcel) → old.phase ≡ holds beat parcel → new.site.link.taken ≡ old.site.link.taken → IsAtHand new.phase []
      → (IsCommand parcel → HasItsActIn new.filters parcel) → (IsBack parcel → HasItsReplyIn new.engines parcel ⊎ IsNoReplyIn old.engines parcel) → Hands old new

pub link_taken : (old new : SiteView) → new.link ≡ old.link → new.link.taken ≡ old.link.taken
link_taken old new e = ap (λ (l : LinkView). l.taken) e

pub site_taken : (old new : SiteView) → new ≡ old → new.link.taken ≡ old.link.taken
site_taken old new e = ap (λ (s : SiteView). s.link.taken) e

tried_taken : (IsNext : Record → Type 0) (old new : World) → Tries IsNext old new → new.site.link.taken ≡ old.site.link.taken
tried_taken IsNext old new (done is) = link_taken old.site new.site is.appends.adds.offers.file.rest.link
tried_taken IsNext old new (failed is) = link_taken old.site new.site is.refuses.0.0.file.rest.link
tried_taken IsNext old new (limited what is) = site_taken old.site new.site is.refuses.0.2

tried_hand : (IsNext : Record → Type 0) (old new : World) → Tries IsNext old new → IsEmptyAt old.phase → HandGoes old.phase new.phase
tried_hand IsNext old new (done is) empty = empty_to old.phase new.phase empty (to_owes new.phase is.phase)
tried_hand IsNext old new (failed is) empty = refused_to old.phase new.phase _ false is.phase
tried_hand IsNext old new (limited what is) empty = refused_to old.phase new.phase _ false is.phase

-- ---- what each call did with the parcel in hand

-- nothing, as none was, or as it refused
no_hand : (old new : FleetWorld) → new.site.link.taken ≡ old.site.link.taken → IsEmptyAt old.phase → TakesEmpty new.phase → Hands old new
no_hand old new taken from to = keeps_hand taken (empty_to old.phase new.phase from to)

refuses_hand : (old new : FleetWorld) (cause : Cause) (lacks : Bool) → new.site.link.taken ≡ old.site.link.taken → new.phase ≡ refused cause lacks → Hands old new
refuses_hand old new cause lacks taken phase = keeps_hand taken (refused_to old.phase new.phase cause lacks phase)

-- a reply is no command, and a command no reply
no_command : (parcel : Parcel) (P : Type 0) → parcel.back ≡ true → IsCommand parcel → P
no_command parcel P back command = absurd (false≢true (sym command.command ∙ back))

no_back : (parcel : Parcel) (P : Type 0) → parcel.back ≡ false → IsBack parcel → P
no_back parcel P command back = absurd (false≢true (sym command ∙ back.back))

module _ (IsNext : Record → Type 0) (old new : FleetWorld) (at : ℕ) (v w : EngineView) (own : Own) where
  tried_hands : Tries IsNext (part at v (old.own at) old) (part at w own new) → IsEmptyAt old.phase → Hands old new
  tried_hands try empty = keeps_hand (tried_taken IsNext _ _ try) (tried_hand IsNext _ _ try empty)

-- its Reply was appended, or the fleet refused
replied_hands : (old new : FleetWorld) (at : ℕ) (v w : EngineView) (own : Own) (beat : ℕ) (parcel : Parcel) → slice_get old.engines at ≡ Some v → new.engines ≡ slice_set old.engines at w
    → w.history.seen.run ≡ v.history.seen.run → old.phase ≡ holds beat parcel → parcel.back ≡ true → Tries (IsReply v.history parcel old.site.clock.now) (part at v (old.own at) old) (part at w own new) → Hands old new
replied_hands old new at v w own beat parcel there engines run phase back (done is) =
    let next = is.appends.adds.offers.comes.next in
    let reply = is.appends.adds.offers.comes.is in
    let now : ℕ = old.site.clock.now in
    let records : w.history.records ≡ v.history.records ++ next ∷ [] = ap (λ (x : HistoryView). x.records) is.appends.adds.view in
    hands_on beat parcel phase (link_taken (seen_from at old.site) (seen_from at new.site) is.appends.adds.offers.file.rest.link) (to_owes new.phase is.phase [] refl) (no_command parcel _ back)
    (λ b. inl (record {
      place = at;
      v = w;
      there = ap (λ (l : List EngineView). slice_get l at) engines ∙ get_set_same old.engines at v w there;
      of_run = reply.to.sent_back.of_run ∙ sym run;
      read = reply.read;
      moment = now;
      has = subst (λ (l : List Record). Contains l (entry.Reply parcel.issue now reply.read.status reply.read.rule reply.read.text)) (sym records)
          (subst (λ (r : Record). Contains (v.history.records ++ next ∷ []) r) reply.is (Contains-push v.history.records next));
      reads = reply.to.read_is.reads;
    }))
replied_hands old new at v w own beat parcel there engines run phase back (failed is) =
    refuses_hand old new _ false (link_taken (seen_from at old.site) (seen_from at new.site) is.refuses.0.0.file.rest.link) is.phase
replied_hands old new at v w own beat parcel there engines run phase back (limited what is) =
    refuses_hand old new _ false (site_taken (seen_from at old.site) (seen_from at new.site) is.refuses.0.2) is.phase

pub step_hands : (old new : FleetWorld) → FleetStep old new → Hands old new
step_hands old new (opens_clock answer is) = no_hand old new is.goes.reaches.taken (at_opened old.phase is.phase) (to_reached new.phase _ answer is.goes.phase)
step_hands old new (finds_run_used place agent is) = refuses_hand old new _ _ (site_taken old.site new.site is.only.site) is.only.phase
step_hands old new (asks_clock moment answer is) =
    no_hand old new is.goes.reaches.taken (at_looked old.phase is.next.up_to_date.on_time.idle.has_looked.phase) (to_reached new.phase moment answer is.goes.phase)
step_hands old new (finds_late moment is) = refuses_hand old new _ _ (site_taken old.site new.site is.only.site) is.only.phase
step_hands old new (begins place is) = let d = is.does in tried_hands _ old new place d.v d.w d.own d.does.tries (at_rests old.phase d.does.phase)
step_hands old new (moves place is) = let d = is.does in tried_hands _ old new place d.v d.w d.own d.does.tries (at_looked old.phase is.has_looked.phase)
step_hands old new (expires place issue is) = let d = is.does in tried_hands _ old new place d.v d.w d.own d.does.tries (at_looked old.phase is.idle.has_looked.phase)
step_hands old new (says place v bytes is) = no_hand old new is.speaks.only.taken (at_owes old.phase is.speaks.phase) (to_rests new.phase is.phase)
step_hands old new (fails_to_say place v bytes is) = refuses_hand old new _ _ is.speaks.only.taken is.phase
step_hands old new (puts_first place issue is) = let d = is.does in no_hand old new d.does.puts.sends.put.taken (at_rests old.phase d.does.phase) (to_rests new.phase d.does.puts.phase)
step_hands old new (resends place issue is) =
    let d = is.does in
    no_hand old new d.does.puts.sends.put.taken (at_looked old.phase is.on_time.idle.has_looked.phase) (to_rests new.phase d.does.puts.phase)
step_hands old new (takes parcel is) =
    takes_one parcel (at_rests old.phase is.turn.phase) (gains_one old.site.link.taken new.site.link.taken (new.site.disk.beat, parcel) is.some.taken) is.phase
step_hands old new (finds_none is) = no_hand old new is.none.taken (at_rests old.phase is.turn.phase) (to_looked new.phase is.phase)
step_hands old new (fails_to_take is) = refuses_hand old new _ _ (link_taken old.site new.site is.link) is.phase
step_hands old new (drops beat parcel is) =
    hands_on beat parcel is.phase (site_taken old.site new.site is.site) (to_rests new.phase is.ignores.phase [] refl) (λ command. absurd (is.why command.addressed)) (λ back. absurd (is.why back.addressed))
step_hands old new (replies beat parcel place is) =
    let d = is.does in
    let held = d.does.holds_reply in
    replied_hands old new place d.v d.w d.own beat parcel d.there d.engines (step_run _ _ (one_replies beat parcel d.does)) held.phase held.back d.does.tries
step_hands old new (ignores_reply beat parcel is) =
    hands_on beat parcel is.holds_reply.phase (site_taken old.site new.site is.site) (to_rests new.phase is.ignores.phase [] refl) (no_command parcel _ is.holds_reply.back) (λ back. inr is.no_reply)
step_hands old new (acts_on beat parcel v w is) =
    let held = is.does.holds_command in
    let act = act_for v.acts parcel old.site.clock.now in
    let acts_are : w.acts ≡ v.acts ++ act ∷ [] = ap (λ (x : ActuatorView). x.acts) is.does.acts.view in
    hands_on beat parcel held.phase (is.does.acts.puts.taken ∙ link_taken (seen_from 0 old.site) is.does.acts.between is.does.acts.offers.adds.file.rest.link) (to_rests new.phase is.does.phase [] refl)
    (λ command. record {
      filter = w;
      there = ap (λ (l : List ActuatorView). slice_get l (parcel.agent - 1)) is.does.filters ∙ get_set_same old.filters (parcel.agent - 1) v w held.there;
      act = act;
      has = subst (λ (l : List Act). Contains l act) (sym acts_are) (Contains-push v.acts act);
      run = refl;
      issue = refl;
    })
    (no_back parcel _ held.command)
step_hands old new (repeats_reply beat parcel v w is) =
    let held = is.does.holds_command in
    hands_on beat parcel held.phase is.does.repeats.puts.taken (to_rests new.phase is.does.ignores.phase [] refl)
    (λ command. record {
      filter = v;
      there = ap (λ (l : List ActuatorView). slice_get l (parcel.agent - 1)) is.does.ignores.filters ∙ held.there;
      act = is.does.repeats.act;
      has = is.does.repeats.acted.has;
      run = is.does.repeats.acted.of_run;
      issue = is.does.repeats.acted.of_issue;
    })
    (no_back parcel _ held.command)
step_hands old new (fails_to_act beat parcel v w error cause is) =
    refuses_hand old new cause false
    (link_taken (seen_from 0 old.site) (seen_from 0 new.site) (fails_said v parcel old.site.clock.now (seen_from 0 old.site) (seen_from 0 new.site) error is.does.refuses.site)) is.does.phase
step_hands old new (wants_memory_now is) = refuses_hand old new _ _ (site_taken old.site new.site is.only.site) is.only.phase
