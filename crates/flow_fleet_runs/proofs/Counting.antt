-- How many of the parcels that a fleet takes change no journal.
use Rattle.std.proofs.Common.{◌≡◌, inl, inr, ℕ, ◌+◌, ◌-◌, ◌≤◌, Bool, false, List, [], ◌∷◌, ◌++◌, length, refl, sym, ◌∙◌, subst, ap, arith}
use Rattle.std.specs.Prelude.{Option, Some, slice_get, slice_set}
use Rattle.std.proofs.lemmas.List.{append-nil, append_cancel_left, length-append}
use Rattle.cacao_site.specs.LinkCalls.{GainsAll}
use Rattle.cacao_site.specs.View.{LinkView, SiteView}
use Rattle.cacao_site.specs.declared.parcel.Parcel.{Parcel}
use Rattle.run_records.specs.declared.act.Act.{Act}
use Rattle.run_records.specs.declared.record.Record.{Record}
use Rattle.flow_core_rules.specs.Moves.{record_of}
use Rattle.flow_core_rules.specs.State.{Shown}
use Rattle.flow_core_rules.specs.declared.moves.Move.{Move}
use Rattle.flow_core_rules.specs.declared.moves.Move.TheVariants as move
use Rattle.flow_engine_history.specs.HistoryView.{HistoryView}
use Rattle.flow_engine.specs.EngineView.{EngineView}
use Rattle.slpf_actuator.specs.ActuatorView.{act_for}
use Rattle.flow_laws.proofs.Basics.{same_some}
use Rattle.flow_world_steps.specs.Appends.{Tries}
use Rattle.flow_world_steps.specs.Appends.Tries.{done, failed, limited}
use Rattle.flow_world_steps.specs.Handled.{IsAtHand, one_reply}
use Rattle.flow_world_steps.specs.Steps.{PutsCommand}
use Rattle.flow_world_steps.specs.Sums.{total}
use Rattle.flow_world_steps.specs.Turns.{most_ignored}
use Rattle.flow_world_steps.specs.Worlds.{Cause, Notes, Phase, holds, refused, waits}
use Rattle.flow_world_steps.proofs.Adding.{of_option}
use Rattle.flow_world_steps.proofs.Costs.{sum_set}
use Rattle.flow_world_steps.proofs.Failing.{fails_notes}
use Rattle.flow_world_steps.proofs.Growth.{gains_none, gains_one, gains_then}
use Rattle.flow_world_steps.proofs.Handling.{total_append}
use Rattle.flow_world_steps.proofs.Hands.{HandGoes, IsEmptyAt, TakesEmpty, at_looked, at_opened, at_owes, at_rests, empty_to, few_at_hand, hand_as, refused_to, to_looked, to_owes, to_reached, to_rests}
use Rattle.flow_world_steps.proofs.Spoken.{fails_said}
use Rattle.flow_world_laws.specs.Parcels.{Took}
use Rattle.flow_world_laws.proofs.Taken.{all_taken}
use Rattle.flow_fleet_laws.specs.Views.{seen_from}
use Rattle.flow_fleet_steps.specs.Closes.{IsFleetClose}
use Rattle.flow_fleet_steps.specs.Laws.{FleetWent}
use Rattle.flow_fleet_steps.specs.Openings.{Runs}
use Rattle.flow_fleet_steps.specs.Steps.{FleetStep, FleetSteps, Ignores, SameSides}
use Rattle.flow_fleet_steps.specs.Steps.FleetStep.{opens_clock, finds_run_used, asks_clock, finds_late, begins, moves, expires, says, fails_to_say, puts_first, resends}
use Rattle.flow_fleet_steps.specs.Steps.FleetStep.{takes, finds_none, fails_to_take, drops, replies, ignores_reply, acts_on, repeats_reply, fails_to_act, wants_memory_now}
use Rattle.flow_fleet_steps.specs.Steps.FleetSteps.{nothing, and_then}
use Rattle.flow_fleet_steps.specs.Worlds.{FleetWorld, Own, Shared, part}
use Rattle.flow_fleet_steps.specs.declared.close.FleetClose.{FleetClose}
use Rattle.flow_fleet_steps.specs.declared.close.FleetClose.TheVariants as close
use Rattle.flow_fleet_sums.proofs.Ends.{fleets_ignore}
use Rattle.flow_fleet_sums.proofs.Floods.{fleets_flood}
use Rattle.flow_fleet_runs.specs.Counted.{BringNothing, EachFleetCloseCounts, EachFleetCounts, EachFleetRefusalCounts, FleetCounts, replies_of}
use Rattle.flow_fleet_runs.proofs.Handing.{link_taken, site_taken}
use Rattle.flow_fleet_runs.proofs.InHand.{same_link}
use Rattle.flow_fleet_runs.proofs.Parcels.{link_stays}

-- acts, Replies of all runs, and parcels that changed nothing
abbrev sum : FleetWorld → ℕ
sum w = w.notes.ignored + length w.notes.acted + total replies_of w.engines

-- so many more, and of parcels that changed nothing no fewer
pub record Grows (n : ℕ) (old new : FleetWorld) : Type 0 where
  pub more : sum new ≡ sum old + n
  pub later : old.notes.ignored ≤ new.notes.ignored

-- what one call did with the parcel in hand: nothing; or one was taken; or it was handed on, which is counted
pub data Brings (old new : FleetWorld) : Type 0 where
  keeps_hand : Grows 0 old new → new.site.link.taken ≡ old.site.link.taken → HandGoes old.phase new.phase → Brings old new
  takes_one : (parcel : Parcel) → Grows 0 old new → IsEmptyAt old.phase
      → GainsAll old.site.link.taken ((new.site.disk.beat, parcel) ∷ []) new.site.link.taken → new.phase ≡ holds new.site.disk.beat parcel → Brings old new
  hands_on : (beat : ℕ) (parcel : Parcel) → Grows 1 old new → old.phase ≡ holds beat parcel → new.site.link.taken ≡ old.site.link.taken
      → IsAtHand new.phase [] → Brings old new

-- ---- what is counted

engines_of : (old new : FleetWorld) → new.engines ≡ old.engines → total replies_of new.engines ≡ total replies_of old.engines
engines_of old new e = ap (λ (l : List EngineView). total replies_of l) e

same_sum : (old new : FleetWorld) → new.engines ≡ old.engines → new.notes.ignored ≡ old.notes.ignored → new.notes.acted ≡ old.notes.acted → Grows 0 old new
same_sum old new engines ignored acted =
    let runs = engines_of old new engines in
    let acts = ap (λ (l : List (ℕ × Act)). length l) acted in
    record { more = omega (arith, runs, ignored, acts); later = omega (arith, ignored) }

same_notes : (old new : FleetWorld) → new.engines ≡ old.engines → new.notes ≡ old.notes → Grows 0 old new
same_notes old new engines notes = same_sum old new engines (ap (λ (n : Shared). n.ignored) notes) (ap (λ (n : Shared). n.acted) notes)

asked_notes : (old new : FleetWorld) (moment : ℕ) → SameSides old new → new.notes ≡ record old.notes { asked = Some moment } → Grows 0 old new
asked_notes old new moment sides notes = same_sum old new sides.engines (ap (λ (n : Shared). n.ignored) notes) (ap (λ (n : Shared). n.acted) notes)

ignored_one : (old new : FleetWorld) → Ignores old new → Grows 1 old new
ignored_one old new is =
    let runs = engines_of old new is.sides.engines in
    let acts = ap (λ (n : Shared). length n.acted) is.notes in
    let one = ap (λ (n : Shared). n.ignored) is.notes in
    record { more = omega (arith, runs, acts, one); later = omega (arith, one) }

-- the run at a place has so many Replies more
module _ (old new : FleetWorld) (at n : ℕ) (v w : EngineView) (there : slice_get old.engines at ≡ Some v) (engines : new.engines ≡ slice_set old.engines at w)
    (ignored : new.notes.ignored ≡ old.notes.ignored) (acted : new.notes.acted ≡ old.notes.acted) where
  one_run : replies_of w ≡ replies_of v + n → Grows n old new
  one_run is =
      let runs = ap (λ (l : List EngineView). total replies_of l) engines in
      let set = sum_set replies_of old.engines at v w there in
      let acts = ap (λ (l : List (ℕ × Act)). length l) acted in
      record { more = omega (arith, runs, set, is, ignored, acts); later = omega (arith, ignored) }

of_history : (v w : EngineView) → w.history ≡ v.history → replies_of w ≡ replies_of v + 0
of_history v w e = let same = ap (λ (h : HistoryView). total one_reply h.records) e in omega (arith, same)

of_next : (v w : EngineView) (next : Record) (n : ℕ) → w.history.records ≡ v.history.records ++ next ∷ [] → one_reply next ≡ n → replies_of w ≡ replies_of v + n
of_next v w next n records one =
    let all = ap (λ (l : List Record). total one_reply l) records in
    let both = total_append one_reply v.history.records (next ∷ []) in
    omega (arith, all, both, one)

module _ (IsNext : Record → Type 0) (old new : FleetWorld) (at : ℕ) (v w : EngineView) (own : Own) (there : slice_get old.engines at ≡ Some v) (engines : new.engines ≡ slice_set old.engines at w) where
  -- the record was not appended
  not_tried : (cause : Cause) → w.history.records ≡ v.history.records → (part at w own new).notes.ignored ≡ old.notes.ignored → (part at w own new).notes.acted ≡ old.notes.acted
      → new.site.link.taken ≡ old.site.link.taken → new.phase ≡ refused cause false → Brings old new
  not_tried cause records ignored acted taken phase =
      let same : replies_of w ≡ replies_of v + 0 = (let e = ap (λ (l : List Record). total one_reply l) records in omega (arith, e)) in
      keeps_hand (one_run old new at 0 v w there engines ignored acted same) taken (refused_to old.phase new.phase cause false phase)

  -- a record that is no Reply
  tried : Tries IsNext (part at v (old.own at) old) (part at w own new) → IsEmptyAt old.phase → ((next : Record) → IsNext next → one_reply next ≡ 0) → Brings old new
  tried (done is) empty none =
      let offers = is.appends.adds.offers in
      keeps_hand (one_run old new at 0 v w there engines (ap (λ (n : Notes). n.ignored) is.notes) (ap (λ (n : Notes). n.acted) is.notes)
      (of_next v w offers.comes.next 0 (ap (λ (h : HistoryView). h.records) is.appends.adds.view) (none offers.comes.next offers.comes.is)))
      (link_taken (seen_from at old.site) (seen_from at new.site) offers.file.rest.link) (empty_to old.phase new.phase empty (to_owes new.phase is.phase))
  tried (failed is) empty none =
      not_tried _ (ap (λ (h : HistoryView). h.records) is.refuses.0.1) (ap (λ (n : Notes). n.ignored) is.notes) (ap (λ (n : Notes). n.acted) is.notes)
      (link_taken (seen_from at old.site) (seen_from at new.site) is.refuses.0.0.file.rest.link) is.phase
  tried (limited what is) empty none =
      not_tried _ (ap (λ (h : HistoryView). h.records) is.refuses.0.1) (ap (λ (n : Notes). n.ignored) is.notes) (ap (λ (n : Notes). n.acted) is.notes)
      (site_taken (seen_from at old.site) (seen_from at new.site) is.refuses.0.2) is.phase

  -- the Reply of the parcel in hand
  replied : Tries IsNext (part at v (old.own at) old) (part at w own new) → (beat : ℕ) (parcel : Parcel) → old.phase ≡ holds beat parcel → ((next : Record) → IsNext next → one_reply next ≡ 1) → Brings old new
  replied (done is) beat parcel hand one =
      let offers = is.appends.adds.offers in
      hands_on beat parcel (one_run old new at 1 v w there engines (ap (λ (n : Notes). n.ignored) is.notes) (ap (λ (n : Notes). n.acted) is.notes)
      (of_next v w offers.comes.next 1 (ap (λ (h : HistoryView). h.records) is.appends.adds.view) (one offers.comes.next offers.comes.is)))
      hand (link_taken (seen_from at old.site) (seen_from at new.site) offers.file.rest.link) (to_owes new.phase is.phase [] refl)
  replied (failed is) beat parcel hand one =
      not_tried _ (ap (λ (h : HistoryView). h.records) is.refuses.0.1) (ap (λ (n : Notes). n.ignored) is.notes) (ap (λ (n : Notes). n.acted) is.notes)
      (link_taken (seen_from at old.site) (seen_from at new.site) is.refuses.0.0.file.rest.link) is.phase
  replied (limited what is) beat parcel hand one =
      not_tried _ (ap (λ (h : HistoryView). h.records) is.refuses.0.1) (ap (λ (n : Notes). n.ignored) is.notes) (ap (λ (n : Notes). n.acted) is.notes)
      (site_taken (seen_from at old.site) (seen_from at new.site) is.refuses.0.2) is.phase

-- a command was put
put : (old new : FleetWorld) (at : ℕ) (v w : EngineView) (own : Own) → slice_get old.engines at ≡ Some v → new.engines ≡ slice_set old.engines at w → (issue : ℕ)
    → PutsCommand issue (part at v (old.own at) old) (part at w own new) → IsEmptyAt old.phase → Brings old new
put old new at v w own there engines issue is empty =
    keeps_hand (one_run old new at 0 v w there engines (ap (λ (n : Notes). n.ignored) is.notes) (ap (λ (n : Notes). n.acted) is.notes) (of_history v w (ap (λ (x : EngineView). x.history) is.sends.view)))
    is.sends.put.taken (empty_to old.phase new.phase empty (to_rests new.phase is.phase))

-- ---- one call

still : (old new : FleetWorld) → Grows 0 old new → new.site.link.taken ≡ old.site.link.taken → IsEmptyAt old.phase → TakesEmpty new.phase → Brings old new
still old new grows taken from to = keeps_hand grows taken (empty_to old.phase new.phase from to)

refuses : (old new : FleetWorld) (cause : Cause) (lacks : Bool) → Grows 0 old new → new.site.link.taken ≡ old.site.link.taken → new.phase ≡ refused cause lacks → Brings old new
refuses old new cause lacks grows taken phase = keeps_hand grows taken (refused_to old.phase new.phase cause lacks phase)

move_no_reply : (seen : Shown) (now : ℕ) (m : Move) (next : Record) → record_of seen now m ≡ Some next → one_reply next ≡ 0
move_no_reply seen now (move.Walk t) next e = sym (ap one_reply (same_some e))
move_no_reply seen now (move.Send t) next e = of_option _ _ (λ (r : Record). one_reply r ≡ 0) next (λ x. refl) e
move_no_reply seen now (move.Ask t) next e = of_option _ _ (λ (r : Record). one_reply r ≡ 0) next (λ x. refl) e
move_no_reply seen now move.Upgrade next e = sym (ap one_reply (same_some e))

step_brings : (old new : FleetWorld) → FleetStep old new → Brings old new
step_brings old new (opens_clock answer is) =
    still old new (asked_notes old new _ is.goes.sides is.goes.notes) is.goes.reaches.taken (at_opened old.phase is.phase) (to_reached new.phase _ answer is.goes.phase)
step_brings old new (finds_run_used place agent is) = refuses old new _ _ (same_notes old new is.only.sides.engines is.only.notes) (site_taken old.site new.site is.only.site) is.only.phase
step_brings old new (asks_clock moment answer is) =
    still old new (asked_notes old new moment is.goes.sides is.goes.notes) is.goes.reaches.taken (at_looked old.phase is.next.up_to_date.on_time.idle.has_looked.phase) (to_reached new.phase moment answer is.goes.phase)
step_brings old new (finds_late moment is) = refuses old new _ _ (same_notes old new is.only.sides.engines is.only.notes) (site_taken old.site new.site is.only.site) is.only.phase
step_brings old new (begins place is) =
    let d = is.does in tried _ old new place d.v d.w d.own d.there d.engines d.does.tries (at_rests old.phase d.does.phase) (λ next i. ap one_reply i.is)
step_brings old new (moves place is) =
    let d = is.does in
    tried _ old new place d.v d.w d.own d.there d.engines d.does.tries (at_looked old.phase is.has_looked.phase) (λ next i. move_no_reply d.v.history.seen old.site.clock.now i.move next i.is)
step_brings old new (expires place issue is) =
    let d = is.does in tried _ old new place d.v d.w d.own d.there d.engines d.does.tries (at_looked old.phase is.idle.has_looked.phase) (λ next i. ap one_reply i)
step_brings old new (says place v bytes is) =
    still old new (same_notes old new is.speaks.sides.engines is.speaks.notes) is.speaks.only.taken (at_owes old.phase is.speaks.phase) (to_rests new.phase is.phase)
step_brings old new (fails_to_say place v bytes is) = refuses old new _ _ (same_notes old new is.speaks.sides.engines is.speaks.notes) is.speaks.only.taken is.phase
step_brings old new (puts_first place issue is) =
    let d = is.does in put old new place d.v d.w d.own d.there d.engines issue d.does.puts (at_rests old.phase d.does.phase)
step_brings old new (resends place issue is) =
    let d = is.does in put old new place d.v d.w d.own d.there d.engines issue d.does.puts (at_looked old.phase is.on_time.idle.has_looked.phase)
step_brings old new (takes parcel is) =
    takes_one parcel (same_notes old new is.sides.engines is.notes) (at_rests old.phase is.turn.phase) (gains_one old.site.link.taken new.site.link.taken (new.site.disk.beat, parcel) is.some.taken) is.phase
step_brings old new (finds_none is) =
    still old new (same_notes old new is.sides.engines is.notes) is.none.taken (at_rests old.phase is.turn.phase) (to_looked new.phase is.phase)
step_brings old new (fails_to_take is) = refuses old new _ _ (same_notes old new is.sides.engines is.notes) (link_taken old.site new.site is.link) is.phase
step_brings old new (drops beat parcel is) =
    hands_on beat parcel (ignored_one old new is.ignores) is.phase (site_taken old.site new.site is.site) (to_rests new.phase is.ignores.phase [] refl)
step_brings old new (replies beat parcel place is) =
    let d = is.does in replied _ old new place d.v d.w d.own d.there d.engines d.does.tries beat parcel d.does.holds_reply.phase (λ next i. ap one_reply i.is)
step_brings old new (ignores_reply beat parcel is) =
    hands_on beat parcel (ignored_one old new is.ignores) is.holds_reply.phase (site_taken old.site new.site is.site) (to_rests new.phase is.ignores.phase [] refl)
step_brings old new (acts_on beat parcel v w is) =
    let runs = engines_of old new is.engines in
    let acts : length new.notes.acted ≡ length old.notes.acted + 1 = ap (λ (n : Notes). length n.acted) is.does.notes ∙ length-append old.notes.acted ((parcel.agent, act_for v.acts parcel old.site.clock.now) ∷ []) in
    let none = ap (λ (n : Notes). n.ignored) is.does.notes in
    hands_on beat parcel (record { more = omega (arith, runs, acts, none); later = omega (arith, none) }) is.does.holds_command.phase
    (is.does.acts.puts.taken ∙ link_taken (seen_from 0 old.site) is.does.acts.between is.does.acts.offers.adds.file.rest.link) (to_rests new.phase is.does.phase [] refl)
step_brings old new (repeats_reply beat parcel v w is) =
    let runs = engines_of old new is.engines in
    let acts = ap (λ (n : Notes). length n.acted) is.does.ignores.notes in
    let one = ap (λ (n : Notes). n.ignored) is.does.ignores.notes in
    hands_on beat parcel (record { more = omega (arith, runs, acts, one); later = omega (arith, one) }) is.does.holds_command.phase is.does.repeats.puts.taken (to_rests new.phase is.does.ignores.phase [] refl)
step_brings old new (fails_to_act beat parcel v w error cause is) =
    let notes = fails_notes error parcel v (part 0 is.v (old.own 0) old) (part 0 is.v (old.own 0) new) is.does.notes in
    refuses old new cause _ (same_sum old new is.engines (ap (λ (n : Notes). n.ignored) notes) (ap (λ (n : Notes). n.acted) notes))
    (link_taken (seen_from 0 old.site) (seen_from 0 new.site) (fails_said v parcel old.site.clock.now (seen_from 0 old.site) (seen_from 0 new.site) error is.does.refuses.site)) is.does.phase
step_brings old new (wants_memory_now is) = refuses old new _ _ (same_notes old new is.only.sides.engines is.only.notes) (site_taken old.site new.site is.only.site) is.only.phase

-- ---- all calls

pub record SoFar (a b : FleetWorld) : Type 0 where
  pub handled : List (ℕ × Parcel)
  pub at_hand : List (ℕ × Parcel)
  pub taken : GainsAll a.site.link.taken (handled ++ at_hand) b.site.link.taken
  pub open_one : IsAtHand b.phase at_hand
  pub grows : Grows (length handled) a b

grows_then : (n m : ℕ) (a b c : FleetWorld) → Grows n a b → Grows m b c → Grows (n + m) a c
grows_then n m a b c one two =
    let first = one.more in
    let second = two.more in
    let le = one.later in
    let then_ = two.later in
    record { more = omega (arith, first, second); later = omega (arith, le, then_) }

so_far_on : (a mid b : FleetWorld) → SoFar a mid → Brings mid b → SoFar a b
so_far_on a mid b s (keeps_hand grows same goes) = record {
  handled = s.handled;
  at_hand = s.at_hand;
  taken = subst (λ (o : Option (List (ℕ × Parcel))). GainsAll a.site.link.taken (s.handled ++ s.at_hand) o) (sym same) s.taken;
  open_one = goes s.at_hand s.open_one;
  grows = subst (λ (n : ℕ). Grows n a b) {x = length s.handled + 0} {y = length s.handled} (omega arith) (grows_then (length s.handled) 0 a mid b s.grows grows);
}
so_far_on a mid b s (takes_one parcel grows empty gained phase) =
    let x : ℕ × Parcel = (b.site.disk.beat, parcel) in
    let all : s.handled ++ s.at_hand ≡ s.handled = ap (λ (l : List (ℕ × Parcel)). s.handled ++ l) (empty s.at_hand s.open_one) ∙ append-nil s.handled in
    record {
      handled = s.handled;
      at_hand = x ∷ [];
      taken = gains_then a.site.link.taken mid.site.link.taken b.site.link.taken s.handled (x ∷ []) (subst (λ (l : List (ℕ × Parcel)). GainsAll a.site.link.taken l mid.site.link.taken) all s.taken) gained;
      open_one = subst (λ (p : Phase). IsAtHand p (x ∷ [])) (sym phase) refl;
      grows = subst (λ (n : ℕ). Grows n a b) {x = length s.handled + 0} {y = length s.handled} (omega arith) (grows_then (length s.handled) 0 a mid b s.grows grows);
    }
so_far_on a mid b s (hands_on beat parcel grows hand same opens) =
    let x : ℕ × Parcel = (beat, parcel) in
    let at : s.at_hand ≡ x ∷ [] = hand_as mid.phase (holds beat parcel) hand s.at_hand s.open_one in
    let list : s.handled ++ s.at_hand ≡ (s.handled ++ x ∷ []) ++ [] = ap (λ (l : List (ℕ × Parcel)). s.handled ++ l) at ∙ sym (append-nil (s.handled ++ x ∷ [])) in
    record {
      handled = s.handled ++ x ∷ [];
      at_hand = [];
      taken = subst (λ (l : List (ℕ × Parcel)). GainsAll a.site.link.taken l b.site.link.taken) list
          (subst (λ (o : Option (List (ℕ × Parcel))). GainsAll a.site.link.taken (s.handled ++ s.at_hand) o) (sym same) s.taken);
      open_one = opens;
      grows = subst (λ (n : ℕ). Grows n a b) (sym (length-append s.handled (x ∷ []))) (grows_then (length s.handled) 1 a mid b s.grows grows);
    }

steps_so_far : (a b : FleetWorld) → IsAtHand a.phase [] → FleetSteps a b → SoFar a b
steps_so_far a b at nothing = record {
  handled = [];
  at_hand = [];
  taken = gains_none a.site.link.taken;
  open_one = at;
  grows = record { more = omega arith; later = omega arith };
}
steps_so_far a b at (and_then {mid} steps step) = so_far_on a mid b (steps_so_far a mid at steps) (step_brings mid b step)

pub fleets_count : EachFleetCounts
fleets_count a b at steps =
    let s = steps_so_far a b at steps in
    let more = s.grows.more in
    let later = s.grows.later in
    record {
      handled = s.handled;
      at_hand = s.at_hand;
      takes = s.taken;
      open_one = s.open_one;
      many = b.notes.ignored - a.notes.ignored;
      bring = omega (arith, more, later);
      counted = omega (arith, later);
    }

-- ---- whole fleets

module _ (runs : Runs) (most : ℕ) (old new : SiteView) (taken : List (ℕ × Parcel)) (went : FleetWent runs most old new) (took : Took old new taken) where
  counts : FleetCounts went.start went.to
  counts = fleets_count went.start went.to (subst (λ (p : Phase). IsAtHand p []) (sym went.begins.phase) refl) went.steps

  none_first : went.start.notes.ignored ≡ 0
  none_first = ap (λ (n : Shared). n.ignored) went.begins.notes

  few : went.to.notes.ignored ≤ most_ignored
  few = fleets_ignore went.start went.to (let none = none_first in omega (arith, none)) went.steps

  few_nothing : counts.many ≤ most_ignored
  few_nothing = let is = counts.counted in let none = none_first in let all = few in omega (arith, is, none, all)

  are_taken : taken ≡ counts.handled ++ counts.at_hand
  are_taken =
      let first : went.start.site.link.taken ≡ old.link.taken =
      ap (λ (l : LinkView). l.taken) (went.files.others.rest.link ∙ same_link runs old _ went.files.middle went.start.engines went.files.journals) in
      let last : went.to.site.link.taken ≡ new.link.taken = ap (λ (s : SiteView). s.link.taken) went.to_is in
      all_taken old.link.taken new.link.taken took.before taken (counts.handled ++ counts.at_hand) took.was took.now
      (subst (λ (o : Option (List (ℕ × Parcel))). GainsAll o (counts.handled ++ counts.at_hand) new.link.taken) first
      (subst (λ (o : Option (List (ℕ × Parcel))). GainsAll went.start.site.link.taken (counts.handled ++ counts.at_hand) o) last counts.takes))

-- a fleet that closes has nothing in hand
closes_empty : (how : FleetClose) (w : FleetWorld) → IsFleetClose how w → IsEmptyAt w.phase
closes_empty (close.Ended ill) w is = at_rests w.phase is.turn.phase
closes_empty close.Paused w is = elim is.more [ inl begin ↦ at_rests w.phase begin.phase | inr goes ↦ at_rests w.phase goes.turn.phase ]
closes_empty (close.Waiting moment) w is = λ parcels hand. hand_as w.phase (waits moment) is parcels hand
closes_empty close.Flooded w is = at_rests w.phase is.phase
closes_empty (close.Asked run issue) w is = at_looked w.phase is.idle.has_looked.phase

pub fleet_closes_count : EachFleetCloseCounts
fleet_closes_count how runs most old new taken closed took =
    let went = closed.went in
    let c : FleetCounts went.start went.to = counts runs most old new taken went took in
    let none = closes_empty how went.to closed.closes c.at_hand c.open_one in
    let all : taken ≡ c.handled = are_taken runs most old new taken went took ∙ ap (λ (l : List (ℕ × Parcel)). c.handled ++ l) none ∙ append-nil c.handled in
    let flood = fleets_flood went.start went.to runs most went.begins went.steps how closed.closes in
    let first = none_first runs most old new taken went took in
    let counted = c.counted in
    record {
      many = c.many;
      bring = subst (λ (l : List (ℕ × Parcel)). BringNothing c.many l went.start went.to) (sym all) c.bring;
      few = few_nothing runs most old new taken went took;
      exact = (λ is. (let full = flood.0 is in omega (arith, full, first, counted)), λ many. flood.1 (omega (arith, many, first, counted)));
    }

pub fleet_refusals_count : EachFleetRefusalCounts
fleet_refusals_count error runs most old new taken (inl opening) took =
    let same : new.link.taken ≡ old.link.taken = ap (λ (l : LinkView). l.taken) (link_stays error runs old new opening) in
    let lists : took.before ++ taken ≡ took.before = same_some (sym took.now ∙ same ∙ took.was) in
    append_cancel_left took.before taken [] (lists ∙ sym (append-nil took.before))
fleet_refusals_count error runs most old new taken (inr later) took =
    let went = later.went in
    let c : FleetCounts went.start went.to = counts runs most old new taken went took in
    record {
      handled = c.handled;
      at_hand = c.at_hand;
      are = are_taken runs most old new taken went took;
      one = few_at_hand went.to.phase c.at_hand c.open_one;
      many = c.many;
      bring = c.bring;
      few = few_nothing runs most old new taken went took;
    }
