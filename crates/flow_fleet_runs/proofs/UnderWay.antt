-- What is under way for each issue of each run that was put.
use Rattle.std.proofs.Common.{◌≡◌, ◌≢◌, ◌⊎◌, inl, inr, ℕ, zero, suc, Bool, true, false, List, [], ◌∷◌, ◌++◌, length, refl, sym, ◌∙◌, subst, ap, arith}
use Rattle.std.specs.Prelude.{Option, Some, None, IfSome, Contains, slice_get}
use Rattle.std.proofs.lemmas.Bool.{false≢true}
use Rattle.std.proofs.lemmas.List.Elements.{Contains-append_left, Contains-push}
use Rattle.cacao_site.specs.Counts.{DidNotRise}
use Rattle.cacao_site.specs.LinkCalls.{Gains, GainsAll, Loses}
use Rattle.cacao_site.specs.SiteCalls.{Puts}
use Rattle.cacao_site.specs.View.{CountsView, LinkView, SiteView}
use Rattle.cacao_site.specs.declared.parcel.Parcel.{Parcel}
use Rattle.oc2_msg.specs.declared.answers.Answer.{Answer}
use Rattle.run_records.specs.declared.record.Record.{Record}
use Rattle.flow_engine_history.specs.HistoryView.{HistoryView}
use Rattle.flow_engine.specs.EngineCalls.{IsReplyTo, IsWaiting}
use Rattle.flow_engine.specs.EngineView.{EngineView}
use Rattle.slpf_actuator.specs.ActLists.{IsFinalReply}
use Rattle.slpf_actuator.specs.ActuatorView.{ActuatorView, reply_parcel_of}
use Rattle.flow_world_steps.specs.Appends.{Tries}
use Rattle.flow_world_steps.specs.Appends.Tries.{done, failed, limited}
use Rattle.flow_world_steps.specs.Sides.{IsFilter}
use Rattle.flow_world_steps.specs.Steps.{HoldsCommand, PutsCommand}
use Rattle.flow_world_steps.specs.Steps.Step.{begins as one_begins, moves as one_moves, expires as one_expires, puts_first as one_puts_first, resends as one_resends, replies as one_replies}
use Rattle.flow_world_steps.specs.UnderWay.{IsInHand, IsPending, IsUnderWay, Serves}
use Rattle.flow_world_steps.specs.Worlds.{Cause, IsGoing, Phase, holds, looked, opened, owes, refused, rests}
use Rattle.flow_world_steps.proofs.Filters.{get_set}
use Rattle.flow_world_steps.proofs.Waiting.{step_waits}
use Rattle.flow_fleet_laws.specs.Views.{seen_from}
use Rattle.flow_fleet_steps.specs.Steps.{FleetStep}
use Rattle.flow_fleet_steps.specs.Steps.FleetStep.{opens_clock, finds_run_used, asks_clock, finds_late, begins, moves, expires, says, fails_to_say, puts_first, resends}
use Rattle.flow_fleet_steps.specs.Steps.FleetStep.{takes, finds_none, fails_to_take, drops, replies, ignores_reply, acts_on, repeats_reply, fails_to_act, wants_memory_now}
use Rattle.flow_fleet_steps.specs.Worlds.{FleetWorld, Own, part}
use Rattle.flow_fleet_sums.proofs.StepKinds.{OneRun, does}
use Rattle.flow_fleet_runs.specs.Complete.{AreUnderWay}

-- ---- pending parcels

-- one that serves an issue of this run is pending
abbrev pub Pends : EngineView → ℕ → Option (List Parcel) → Type 0
Pends x issue pending = IfSome pending (IsPending x.history issue)

pends_more : (x : EngineView) (issue : ℕ) (a b : Option (List Parcel)) (more : List Parcel) → GainsAll a more b → Pends x issue a → Pends x issue b
pends_more x issue (Some a) (Some b) more e is =
    record { parcel = is.parcel; has = subst (λ (l : List Parcel). Contains l is.parcel) (sym e) (Contains-append_left a more is.parcel is.has); serves = is.serves }
pends_more x issue (Some a) None more e is = absurd e
pends_more x issue None (Some b) more e is = absurd e
pends_more x issue None None more e is = tt

pends_last : (x : EngineView) (issue : ℕ) (a b : Option (List Parcel)) (parcel : Parcel) → Gains a parcel b → Serves x.history issue parcel → Pends x issue b
pends_last x issue (Some a) (Some b) parcel e s = record { parcel = parcel; has = subst (λ (l : List Parcel). Contains l parcel) (sym e) (Contains-push a parcel); serves = s }
pends_last x issue (Some a) None parcel e s = tt
pends_last x issue None (Some b) parcel e s = absurd e
pends_last x issue None None parcel e s = tt

pends_with : (x : EngineView) (issue : ℕ) (a b : Option (List Parcel)) (parcel : Parcel) → Gains a parcel b → Pends x issue a → Pends x issue b
pends_with x issue (Some a) (Some b) parcel e is =
    record { parcel = is.parcel; has = subst (λ (l : List Parcel). Contains l is.parcel) (sym e) (Contains-append_left a (parcel ∷ []) is.parcel is.has); serves = is.serves }
pends_with x issue (Some a) None parcel e is = tt
pends_with x issue None (Some b) parcel e is = absurd e
pends_with x issue None None parcel e is = tt

-- an element of a list is the one that was taken out, or among the others
in_parts : (front back : List Parcel) (p x : Parcel) → Contains (front ++ p ∷ back) x → (x ≡ p) ⊎ Contains (front ++ back) x
in_parts [] back p x (zero, lt, e) = inl (sym e)
in_parts [] back p x (suc k, lt, e) = inr (k, omega (arith, lt), e)
in_parts (y ∷ front) back p x (zero, lt, e) = inr (0, omega arith, e)
in_parts (y ∷ front) back p x (suc k, lt, e) = elim (in_parts front back p x (k, omega (arith, lt), e)) [
  | inl same ↦ inl same
  | inr rest ↦ inr (suc rest.0, omega (arith, rest.1), rest.2)
]

pends_less : (x : EngineView) (issue : ℕ) (a b : Option (List Parcel)) (p : Parcel) → Loses a p b → Pends x issue a → Serves x.history issue p ⊎ Pends x issue b
pends_less x issue (Some a) (Some b) p lost is = elim (in_parts lost.front lost.back p is.parcel (subst (λ (l : List Parcel). Contains l is.parcel) lost.was is.has)) [
  | inl same ↦ inl (subst (λ (q : Parcel). Serves x.history issue q) same is.serves)
  | inr rest ↦ inr (record { parcel = is.parcel; has = subst (λ (l : List Parcel). Contains l is.parcel) (sym lost.is) rest; serves = is.serves })
]
pends_less x issue (Some a) None p lost is = absurd lost
pends_less x issue None (Some b) p lost is = absurd lost
pends_less x issue None None p lost is = inr tt

pends_same : (x : EngineView) (issue : ℕ) (a b : Option (List Parcel)) → b ≡ a → Pends x issue a → Pends x issue b
pends_same x issue a b e is = subst (λ (o : Option (List Parcel)). Pends x issue o) (sym e) is

link_pending : (old new : SiteView) → new.link ≡ old.link → new.link.pending ≡ old.link.pending
link_pending old new e = ap (λ (l : LinkView). l.pending) e

site_pending : (old new : SiteView) → new ≡ old → new.link.pending ≡ old.link.pending
site_pending old new e = ap (λ (s : SiteView). s.link.pending) e

-- ---- phases

-- no parcel is in hand
abbrev pub HandIsFree : Phase → Type 0
HandIsFree p = (beat : ℕ) (parcel : Parcel) → p ≡ holds beat parcel → ⊥

-- and the fleet goes on
record IsFreePhase (p : Phase) : Type 0 where
  pub free : HandIsFree p
  pub going : IsGoing p

opened_free : (p : Phase) → p ≡ opened → IsFreePhase p
opened_free p e = record { free = λ beat parcel h. not beat parcel (sym e ∙ h); going = subst IsGoing (sym e) tt }
  where
    not : (beat : ℕ) (parcel : Parcel) → opened ≡ holds beat parcel → ⊥
    not beat parcel f = cc

rests_free : (p : Phase) → p ≡ rests → IsFreePhase p
rests_free p e = record { free = λ beat parcel h. not beat parcel (sym e ∙ h); going = subst IsGoing (sym e) tt }
  where
    not : (beat : ℕ) (parcel : Parcel) → rests ≡ holds beat parcel → ⊥
    not beat parcel f = cc

looked_free : (p : Phase) → p ≡ looked → IsFreePhase p
looked_free p e = record { free = λ beat parcel h. not beat parcel (sym e ∙ h); going = subst IsGoing (sym e) tt }
  where
    not : (beat : ℕ) (parcel : Parcel) → looked ≡ holds beat parcel → ⊥
    not beat parcel f = cc

owes_free : (p : Phase) → p ≡ owes → IsFreePhase p
owes_free p e = record { free = λ beat parcel h. not beat parcel (sym e ∙ h); going = subst IsGoing (sym e) tt }
  where
    not : (beat : ℕ) (parcel : Parcel) → owes ≡ holds beat parcel → ⊥
    not beat parcel f = cc

holds_going : (p : Phase) (beat : ℕ) (parcel : Parcel) → p ≡ holds beat parcel → IsGoing p
holds_going p beat parcel e = subst IsGoing (sym e) tt

same_parcel : (a b : ℕ) (p q : Parcel) → holds a p ≡ holds b q → p ≡ q
same_parcel a b p q e = cc

-- what is in hand is this parcel
in_hand_is : (h : HistoryView) (issue : ℕ) (p : Phase) (beat : ℕ) (parcel : Parcel) → p ≡ holds beat parcel → IsInHand h issue p → Serves h issue parcel
in_hand_is h issue p beat parcel at hand = subst (λ (q : Parcel). Serves h issue q) (sym (same_parcel beat hand.beat parcel hand.parcel (sym at ∙ hand.is))) hand.serves

-- ---- one run in two worlds

-- a run that did nothing
beside : (old new : FleetWorld) (k : ℕ) (x : EngineView) → IsGoing old.phase
    → ((issue : ℕ) → IsInHand x.history issue old.phase → IsInHand x.history issue new.phase ⊎ Pends x issue new.site.link.pending)
    → ((issue : ℕ) → Pends x issue old.site.link.pending → IsInHand x.history issue new.phase ⊎ Pends x issue new.site.link.pending)
    → IsUnderWay (part k x (old.own k) old) → IsUnderWay (part k x (new.own k) new)
beside old new k x going hand pending was = record { each = λ g issue put. elim (was.each going issue put) [ inl h ↦ hand issue h | inr p ↦ pending issue p ] }

-- where nothing was in hand
beside_free : (old new : FleetWorld) (k : ℕ) (x : EngineView) → IsFreePhase old.phase
    → ((issue : ℕ) → Pends x issue old.site.link.pending → IsInHand x.history issue new.phase ⊎ Pends x issue new.site.link.pending)
    → IsUnderWay (part k x (old.own k) old) → IsUnderWay (part k x (new.own k) new)
beside_free old new k x free = beside old new k x free.going (λ issue hand. absurd (free.free hand.beat hand.parcel hand.is))

-- a fleet that has refused has nothing under way
refused_waits : (new : FleetWorld) (cause : Cause) (lacks : Bool) → new.phase ≡ refused cause lacks → AreUnderWay new
refused_waits new cause lacks e k x there = record { each = λ g. absurd (subst IsGoing e g) }

-- ---- all runs

-- no run did anything
all_beside : (old new : FleetWorld) → new.engines ≡ old.engines
    → ((k : ℕ) (x : EngineView) → slice_get old.engines k ≡ Some x → IsUnderWay (part k x (old.own k) old) → IsUnderWay (part k x (new.own k) new))
    → AreUnderWay old → AreUnderWay new
all_beside old new engines on was k x there = let before = subst (λ (l : List EngineView). slice_get l k ≡ Some x) engines there in on k x before (was k x before)

-- and nothing was in hand
all_free : (old new : FleetWorld) → new.engines ≡ old.engines → IsFreePhase old.phase
    → ((x : EngineView) (issue : ℕ) → Pends x issue old.site.link.pending → Pends x issue new.site.link.pending) → AreUnderWay old → AreUnderWay new
all_free old new engines free pending = all_beside old new engines (λ k x there. beside_free old new k x free (λ issue p. inr (pending x issue p)))

-- one run went on, and the others did nothing
one_run : (old new : FleetWorld) (place : ℕ) (v w : EngineView) (own : Own) → OneRun old new place v w own → length old.filters ≡ 16 → DidNotRise old.site.counts.mishaps new.site.counts.mishaps
    → ((k : ℕ) (x : EngineView) → k ≢ place → slice_get old.engines k ≡ Some x → IsUnderWay (part k x (old.own k) old) → IsUnderWay (part k x (new.own k) new))
    → AreUnderWay old → AreUnderWay new
one_run old new place v w own is all still_ others was k x there =
    elim (get_set old.engines place k w x (subst (λ (l : List EngineView). slice_get l k ≡ Some x) is.engines there)) [
      | inl here ↦
          let one = step_waits (part place v (old.own place) old) (part place w own new) all still_ (was place v is.there) is.step in
          let at : IsUnderWay (part k w (new.own k) new) = record { each = one.each } in
          subst (λ (y : EngineView). IsUnderWay (part k y (new.own k) new)) here.1 at
      | inr other ↦ others k x other.0 other.1 (was k x other.1)
    ]

-- ---- a record was appended

module _ (old new : FleetWorld) (place : ℕ) (v w : EngineView) (own : Own) (IsNext : Record → Type 0) where
  -- beside a run that appended one
  tried_beside : Tries IsNext (part place v (old.own place) old) (part place w own new) → IsGoing old.phase → (k : ℕ) (x : EngineView)
      → ((next : Record) → IsNext next → (issue : ℕ) → IsInHand x.history issue old.phase → ⊥)
      → IsUnderWay (part k x (old.own k) old) → IsUnderWay (part k x (new.own k) new)
  tried_beside (done is) going k x no_hand =
      let offers = is.appends.adds.offers in
      beside old new k x going (λ issue hand. absurd (no_hand offers.comes.next offers.comes.is issue hand))
      (λ issue p. inr (pends_same x issue old.site.link.pending new.site.link.pending (link_pending old.site new.site offers.file.rest.link) p))
  tried_beside (failed is) going k x no_hand = λ was. record { each = λ g. absurd (subst IsGoing is.phase g) }
  tried_beside (limited what is) going k x no_hand = λ was. record { each = λ g. absurd (subst IsGoing is.phase g) }

  tried_free : Tries IsNext (part place v (old.own place) old) (part place w own new) → IsFreePhase old.phase → (k : ℕ) (x : EngineView)
      → IsUnderWay (part k x (old.own k) old) → IsUnderWay (part k x (new.own k) new)
  tried_free try free k x = tried_beside try free.going k x (λ next is issue hand. free.free hand.beat hand.parcel hand.is)

-- beside a run that put a command
put_beside : (old new : FleetWorld) (place issue : ℕ) (v w : EngineView) (own : Own) → PutsCommand issue (part place v (old.own place) old) (part place w own new) → IsFreePhase old.phase
    → DidNotRise old.site.counts.mishaps new.site.counts.mishaps → (k : ℕ) (x : EngineView) → IsUnderWay (part k x (old.own k) old) → IsUnderWay (part k x (new.own k) new)
put_beside old new place issue v w own is free still_ k x =
    beside_free old new k x free (λ i p. inr (pends_with x i old.site.link.pending new.site.link.pending _ (is.sends.put.arrives still_) p))

-- ---- a parcel in hand

command_no_reply : (h : HistoryView) (issue : ℕ) (parcel : Parcel) → parcel.back ≡ true → ((read : Answer) → IsReplyTo h parcel read → ⊥) → Serves h issue parcel → ⊥
command_no_reply h issue parcel back none s = elim s.kind [
  | inl command ↦ false≢true (sym (ap (λ (q : Parcel). q.back) command.is) ∙ back)
  | inr reply ↦ none reply.read reply.to
]

-- the reply to the command of an issue that waits
reply_serves : (h : HistoryView) (issue : ℕ) (parcel : Parcel) (v : ActuatorView) (site : SiteView) (bytes : List ℕ) → IsFilter v parcel.agent site → parcel.back ≡ false → IsFinalReply bytes → Serves h issue parcel
    → Serves h issue (reply_parcel_of v.agent parcel bytes)
reply_serves h issue parcel v site bytes filter command final s = record {
  addressed = record { low = filter.ready.low; high = filter.ready.high; small = final.short };
  kind = elim s.kind [
    | inl is ↦
        let issue_is : parcel.issue ≡ issue = ap (λ (q : Parcel). q.issue) is.is in
        inr (record {
          of_issue = issue_is;
          read = final.read;
          to = record {
            sent_back = record {
              back = refl;
              of_run = ap (λ (q : Parcel). q.run) is.is;
              it = is.it;
              waiting = subst (λ (n : ℕ). IsWaiting h.seen n is.it) (sym issue_is) is.waiting;
              of_agent = filter.of_agent ∙ ap (λ (q : Parcel). q.agent) is.is;
            };
            read_is = record { reads = final.reads; final = final.final };
          };
        })
    | inr reply ↦ absurd (false≢true (sym command ∙ reply.to.sent_back.back))
  ];
}

-- a filter replied to a command
replied : (old new : FleetWorld) (mid to : SiteView) (beat : ℕ) (parcel : Parcel) (v : ActuatorView) (x : EngineView) (own : Own) (bytes : List ℕ)
    → HoldsCommand beat parcel v (part 0 x own old) → new.engines ≡ old.engines → mid.link ≡ old.site.link → to.link ≡ new.site.link
    → DidNotRise mid.counts.mishaps to.counts.mishaps → Puts (reply_parcel_of v.agent parcel bytes) mid to → IsFinalReply bytes → AreUnderWay old → AreUnderWay new
replied old new mid to beat parcel v x own bytes held engines link there still_ puts final =
    let sent = reply_parcel_of v.agent parcel bytes in
    let gained : Gains old.site.link.pending sent new.site.link.pending =
    subst (λ (m : LinkView). Gains old.site.link.pending sent m.pending) there (subst (λ (l : LinkView). Gains l.pending sent to.link.pending) link (puts.arrives still_)) in
    all_beside old new engines (λ k y here. beside old new k y (holds_going old.phase beat parcel held.phase)
    (λ issue hand. inr (pends_last y issue old.site.link.pending new.site.link.pending sent gained
    (reply_serves y.history issue parcel v _ bytes held.filter held.command final (in_hand_is y.history issue old.phase beat parcel held.phase hand))))
    (λ issue p. inr (pends_with y issue old.site.link.pending new.site.link.pending sent gained p)))

-- a parcel in hand that serves no issue of any run was dropped or ignored
unserved : (old new : FleetWorld) (beat : ℕ) (parcel : Parcel) → old.phase ≡ holds beat parcel → new.engines ≡ old.engines → new.site ≡ old.site
    → ((k : ℕ) (x : EngineView) → slice_get old.engines k ≡ Some x → (issue : ℕ) → Serves x.history issue parcel → ⊥) → AreUnderWay old → AreUnderWay new
unserved old new beat parcel at engines site none =
    all_beside old new engines (λ k x there. beside old new k x (holds_going old.phase beat parcel at)
    (λ issue hand. absurd (none k x there issue (in_hand_is x.history issue old.phase beat parcel at hand)))
    (λ issue p. inr (pends_same x issue old.site.link.pending new.site.link.pending (site_pending old.site new.site site) p)))

between_still : (a mid new : SiteView) → mid.counts ≡ a.counts → DidNotRise a.counts.mishaps new.counts.mishaps → DidNotRise mid.counts.mishaps new.counts.mishaps
between_still a mid new e still_ = subst (λ (c : CountsView). DidNotRise c.mishaps new.counts.mishaps) (sym e) still_

-- each run has a number of its own
abbrev pub AreApart : FleetWorld → Type 0
AreApart w = (place other : ℕ) (v x : EngineView) → slice_get w.engines place ≡ Some v → slice_get w.engines other ≡ Some x → v.history.seen.run ≡ x.history.seen.run → other ≡ place

-- a reply to an issue of one run serves no other
other_reply : (h k : HistoryView) (parcel : Parcel) (read : Answer) (issue : ℕ) → IsReplyTo h parcel read → (h.seen.run ≡ k.seen.run → ⊥) → Serves k issue parcel → ⊥
other_reply h k parcel read issue to apart s = elim s.kind [
  | inl command ↦ false≢true (sym (ap (λ (q : Parcel). q.back) command.is) ∙ to.sent_back.back)
  | inr reply ↦ apart (sym to.sent_back.of_run ∙ reply.to.sent_back.of_run)
]

-- ---- a step

pub fleet_step_waits : (old new : FleetWorld) → length old.filters ≡ 16 → AreApart old → DidNotRise old.site.counts.mishaps new.site.counts.mishaps → AreUnderWay old → FleetStep old new → AreUnderWay new
fleet_step_waits old new all apart still_ was (opens_clock answer is) =
    all_free old new is.goes.sides.engines (opened_free old.phase is.phase) (λ x issue. pends_more x issue old.site.link.pending new.site.link.pending is.goes.reaches.pending.0 is.goes.reaches.pending.1) was
fleet_step_waits old new all apart still_ was (finds_run_used place agent is) = refused_waits new _ _ is.only.phase
fleet_step_waits old new all apart still_ was (asks_clock moment answer is) =
    all_free old new is.goes.sides.engines (looked_free old.phase is.next.up_to_date.on_time.idle.has_looked.phase)
    (λ x issue. pends_more x issue old.site.link.pending new.site.link.pending is.goes.reaches.pending.0 is.goes.reaches.pending.1) was
fleet_step_waits old new all apart still_ was (finds_late moment is) = refused_waits new _ _ is.only.phase
fleet_step_waits old new all apart still_ was (begins place is) =
    let d = is.does in
    one_run old new place d.v d.w d.own (does _ place old new d (one_begins d.does)) all still_
    (λ k x ne there. tried_free old new place d.v d.w d.own _ d.does.tries (rests_free old.phase d.does.phase) k x) was
fleet_step_waits old new all apart still_ was (moves place is) =
    let d = is.does in
    one_run old new place d.v d.w d.own (does _ place old new d (one_moves d.does)) all still_
    (λ k x ne there. tried_free old new place d.v d.w d.own _ d.does.tries (looked_free old.phase is.has_looked.phase) k x) was
fleet_step_waits old new all apart still_ was (expires place issue is) =
    let d = is.does in
    one_run old new place d.v d.w d.own (does _ place old new d (one_expires issue d.does)) all still_
    (λ k x ne there. tried_free old new place d.v d.w d.own _ d.does.tries (looked_free old.phase is.idle.has_looked.phase) k x) was
fleet_step_waits old new all apart still_ was (says place v bytes is) =
    all_free old new is.speaks.sides.engines (owes_free old.phase is.speaks.phase) (λ x issue. pends_same x issue old.site.link.pending new.site.link.pending is.speaks.only.pending) was
fleet_step_waits old new all apart still_ was (fails_to_say place v bytes is) = refused_waits new _ true is.phase
fleet_step_waits old new all apart still_ was (puts_first place issue is) =
    let d = is.does in
    one_run old new place d.v d.w d.own (does _ place old new d (one_puts_first issue d.does)) all still_
    (λ k x ne there. put_beside old new place issue d.v d.w d.own d.does.puts (rests_free old.phase d.does.phase) still_ k x) was
fleet_step_waits old new all apart still_ was (resends place issue is) =
    let d = is.does in
    one_run old new place d.v d.w d.own (does _ place old new d (one_resends issue d.does)) all still_
    (λ k x ne there. put_beside old new place issue d.v d.w d.own d.does.puts (looked_free old.phase is.on_time.idle.has_looked.phase) still_ k x) was
fleet_step_waits old new all apart still_ was (takes parcel is) =
    all_beside old new is.sides.engines (λ k x there. beside_free old new k x (rests_free old.phase is.turn.phase)
    (λ issue p. elim (pends_less x issue old.site.link.pending new.site.link.pending parcel is.some.pending p) [
      | inl serves ↦ inl (record { beat = new.site.disk.beat; parcel = parcel; is = is.phase; serves = serves })
      | inr rest ↦ inr rest
    ])) was
fleet_step_waits old new all apart still_ was (finds_none is) =
    all_free old new is.sides.engines (rests_free old.phase is.turn.phase) (λ x issue. pends_same x issue old.site.link.pending new.site.link.pending is.none.pending) was
fleet_step_waits old new all apart still_ was (fails_to_take is) = refused_waits new _ false is.phase
fleet_step_waits old new all apart still_ was (drops beat parcel is) =
    unserved old new beat parcel is.phase is.ignores.sides.engines is.site (λ k x there issue s. is.why s.addressed) was
fleet_step_waits old new all apart still_ was (replies beat parcel place is) =
    let d = is.does in
    let at = d.does.holds_reply.phase in
    one_run old new place d.v d.w d.own (does _ place old new d (one_replies beat parcel d.does)) all still_
    (λ k x ne there. tried_beside old new place d.v d.w d.own _ d.does.tries (holds_going old.phase beat parcel at) k x
    (λ next of issue hand. other_reply d.v.history x.history parcel of.read issue of.to (λ same. absurd (ne (apart place k d.v x d.there there same)))
    (in_hand_is x.history issue old.phase beat parcel at hand))) was
fleet_step_waits old new all apart still_ was (ignores_reply beat parcel is) =
    unserved old new beat parcel is.holds_reply.phase is.ignores.sides.engines is.site
    (λ k x there issue. command_no_reply x.history issue parcel is.holds_reply.back (is.no_reply k x there)) was
fleet_step_waits old new all apart still_ was (acts_on beat parcel v w is) =
    let acts = is.does.acts in
    replied old new acts.between (seen_from 0 new.site) beat parcel v is.v (old.own 0) _ is.does.holds_command is.engines acts.offers.adds.file.rest.link refl
    (between_still old.site acts.between new.site acts.offers.adds.file.rest.counts still_) acts.puts acts.final was
fleet_step_waits old new all apart still_ was (repeats_reply beat parcel v w is) =
    replied old new (seen_from 0 old.site) (seen_from 0 new.site) beat parcel v is.v (old.own 0) _ is.does.holds_command is.engines refl refl still_ is.does.repeats.puts is.does.repeats.final was
fleet_step_waits old new all apart still_ was (fails_to_act beat parcel v w error cause is) = refused_waits new cause false is.does.phase
fleet_step_waits old new all apart still_ was (wants_memory_now is) = refused_waits new _ _ is.only.phase
