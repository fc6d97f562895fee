-- Agreement over all that happened.
use Rattle.std.proofs.Common.{◌≡◌, inl, inr, ℕ, Bool, true, false, refl, sym, ◌∙◌, subst, ap, arith}
use Rattle.std.specs.Prelude.{nat_lt, if◌then◌else◌}
use Rattle.cacao_site.specs.View.{SiteView}
use Rattle.cacao_site.specs.declared.parcel.Parcel.{Parcel}
use Rattle.run_records.specs.Ranges.{last_moment}
use Rattle.run_records.specs.declared.record.Record.{Record}
use Rattle.flow_engine.specs.LimitKind.TheVariants as limit
use Rattle.flow_engine.specs.HistoryCalls.{Offers}
use Rattle.flow_engine.specs.HistoryView.{HistoryView}
use Rattle.flow_engine.specs.EngineView.{EngineView}
use Rattle.flow_laws.specs.Fresh.{IsFresh}
use Rattle.slpf_actuator.specs.ActuatorCalls.{MayHaveDone, Offers as FilterOffers}
use Rattle.slpf_actuator.specs.declared.error.ActError.{ActError}
use Rattle.slpf_actuator.specs.declared.error.ActError.TheVariants as act_error
use Rattle.flow_world_steps.specs.Agreement.{HasKept, StepsKeepAgreement, WasPut}
use Rattle.flow_world_steps.specs.Appends.{Tries}
use Rattle.flow_world_steps.specs.Appends.Tries.{done, failed, limited}
use Rattle.flow_world_steps.specs.Steps.{Step, Steps, OnlyPhase, GoesTowards, after_reach}
use Rattle.flow_world_steps.specs.Steps.Step.{opens_clock, finds_run_used, asks_clock, finds_late, begins, moves, upgrades, tells, expires, says, fails_to_say}
use Rattle.flow_world_steps.specs.Steps.Step.{puts_first, resends, takes, finds_none, fails_to_take, drops, replies, ignores_reply, acts_on, repeats_reply, fails_to_act, wants_memory_now}
use Rattle.flow_world_steps.specs.Steps.Steps.{nothing, and_then}
use Rattle.flow_world_steps.specs.Worlds.{World, Phase, Cause, rests, looked, owes, holds, waits, refused, past}
use Rattle.flow_world_steps.proofs.Backed.{reply_backed}
use Rattle.flow_world_steps.proofs.EngineCalls.{command_kept, line_kept, offers_kept}
use Rattle.flow_world_steps.proofs.FilterCalls.{act_kept, acts_kept, repeats_kept}
use Rattle.flow_world_steps.proofs.Records.{expire_backed, further_begin, further_next, move_backed, told_backed, upgrade_backed}
use Rattle.flow_world_steps.proofs.Sites.{HasKeptTo, failed_quiet, none_quiet, quiet, reaches_quiet, some_same, taken_was_put, takes_quiet}

-- ---- phases

-- nothing is in hand
abbrev HandIsEmpty : Phase → Type 0
HandIsEmpty p = (beat : ℕ) (parcel : Parcel) → p ≡ holds beat parcel → ⊥

empty_rests : (p : Phase) → p ≡ rests → HandIsEmpty p
empty_rests p e beat parcel h = let f : rests ≡ holds beat parcel = sym e ∙ h in cc

empty_looked : (p : Phase) → p ≡ looked → HandIsEmpty p
empty_looked p e beat parcel h = let f : looked ≡ holds beat parcel = sym e ∙ h in cc

empty_owes : (p : Phase) → p ≡ owes → HandIsEmpty p
empty_owes p e beat parcel h = let f : owes ≡ holds beat parcel = sym e ∙ h in cc

empty_refused : (p : Phase) (cause : Cause) (lacks : Bool) → p ≡ refused cause lacks → HandIsEmpty p
empty_refused p cause lacks e beat parcel h = let f : refused cause lacks ≡ holds beat parcel = sym e ∙ h in cc

empty_reached : (p : Phase) (moment answer : ℕ) → p ≡ after_reach moment answer → HandIsEmpty p
empty_reached p moment answer e = by (nat_lt last_moment answer) (nat_lt answer moment) e
  where
    by : (a b : Bool) → p ≡ (if a then refused (past limit.Moment) false else if b then waits moment else rests) → HandIsEmpty p
    by true b e beat parcel h = let f = sym e ∙ h in cc
    by false true e beat parcel h = let f = sym e ∙ h in cc
    by false false e beat parcel h = let f = sym e ∙ h in cc

kept_with : (start : SiteView) (new : World) → HasKeptTo start new.site → HandIsEmpty new.phase → HasKept start new
kept_with start new kept empty = record {
  agreed = kept.agreed;
  puts = kept.puts;
  pending = kept.pending;
  in_hand = λ beat parcel h. absurd (empty beat parcel h);
}

kept_to : (start : SiteView) (w : World) → HasKept start w → HasKeptTo start w.site
kept_to start w kept = record { agreed = kept.agreed; puts = kept.puts; pending = kept.pending }

-- nothing happened but that the session refuses
same_site : (start : SiteView) (old new : World) → new.site ≡ old.site → HandIsEmpty new.phase → HasKept start old → HasKept start new
same_site start old new same empty kept = kept_with start new (subst (λ (s : SiteView). HasKeptTo start s) (sym same) (kept_to start old kept)) empty

only_refuses : (start : SiteView) (old new : World) (cause : Cause) (lacks : Bool) → OnlyPhase old new (refused cause lacks) → HasKept start old → HasKept start new
only_refuses start old new cause lacks only = same_site start old new only.site (empty_refused new.phase cause lacks only.phase)

goes_towards : (start : SiteView) (old new : World) (moment answer : ℕ) → GoesTowards moment answer old new → HasKept start old → HasKept start new
goes_towards start old new moment answer goes kept =
    kept_with start new (reaches_quiet start old.site new.site moment answer goes.sound goes.reaches (kept_to start old kept)) (empty_reached new.phase moment answer goes.phase)

-- ---- records

-- a record may have been appended, if it is a further one
tries_kept : (start : SiteView) (old new : World) (IsNext : Record → Type 0) → (Offers old.engine.history IsNext old.site new.site → HasKeptTo start new.site)
    → Tries IsNext old new → HasKept start old → HasKept start new
tries_kept start old new IsNext offered (done is) kept = kept_with start new (offered is.appends.adds.offers) (empty_owes new.phase is.phase)
tries_kept start old new IsNext offered (failed is) kept = kept_with start new (offered is.refuses.0.0) (empty_refused new.phase _ false is.phase)
tries_kept start old new IsNext offered (limited what is) kept = same_site start old new is.refuses.0.2 (empty_refused new.phase _ false is.phase) kept

pub step_kept : (start : SiteView) (old new : World) → IsFresh start old.engine.history.seen.run start.disk.beat → Step old new → HasKept start old → HasKept start new
step_kept start old new fresh (opens_clock answer is) kept = goes_towards start old new _ answer is.goes kept
step_kept start old new fresh (finds_run_used agent is) kept = only_refuses start old new _ false is.only kept
step_kept start old new fresh (asks_clock moment answer is) kept = goes_towards start old new moment answer is.goes kept
step_kept start old new fresh (finds_late moment is) kept = only_refuses start old new _ false is.only kept
step_kept start old new fresh (begins is) kept = tries_kept start old new _ (λ offers.
    let agreed = kept.agreed.each old.site.disk.beat kept.agreed.later (omega arith) in
    offers_kept start old.engine _ old.site new.site is.sound is.whole offers (kept_to start old kept)
    (further_begin old.engine old.site _ is.whole is.sound kept.agreed.told is.empty offers.comes (agreed.fresh old.engine.history.seen.run refl fresh))) is.tries kept
step_kept start old new fresh (moves is) kept = tries_kept start old new _ (λ offers.
    offers_kept start old.engine _ old.site new.site is.has_looked.sound is.has_looked.up.has_file offers (kept_to start old kept)
    (further_next old.engine old.site _ is.has_looked.up offers.comes (move_backed old.engine old.site old.site.clock.now offers.comes.next offers.comes.is))) is.tries kept
step_kept start old new fresh (upgrades issue told is) kept = tries_kept start old new _ (λ offers.
    let at = is.to_be_told.idle.has_looked in
    offers_kept start old.engine _ old.site new.site at.sound at.up.has_file offers (kept_to start old kept)
    (further_next old.engine old.site _ at.up offers.comes (upgrade_backed old.site old.engine.history.records old.site.clock.now offers.comes.next offers.comes.is))) is.tries kept
step_kept start old new fresh (tells issue told is) kept = tries_kept start old new _ (λ offers.
    let at = is.to_be_told.idle.has_looked in
    offers_kept start old.engine _ old.site new.site at.sound at.up.has_file offers (kept_to start old kept)
    (further_next old.engine old.site _ at.up offers.comes
    (told_backed old.site old.engine.history.records issue old.site.clock.now told.status told.text offers.comes.next offers.comes.is))) is.tries kept
step_kept start old new fresh (expires issue is) kept = tries_kept start old new _ (λ offers.
    let at = is.overdue.untold.idle.has_looked in
    offers_kept start old.engine _ old.site new.site at.sound at.up.has_file offers (kept_to start old kept)
    (further_next old.engine old.site _ at.up offers.comes (expire_backed old.site old.engine.history.records issue old.site.clock.now offers.comes.next offers.comes.is))) is.tries kept
step_kept start old new fresh (says bytes is) kept =
    kept_with start new (line_kept start old.engine is.speaks.line.n bytes old.site new.site is.speaks.sound is.speaks.up.has_file is.speaks.line.line is.speaks.only is.said (kept_to start old kept))
    (empty_rests new.phase is.phase)
step_kept start old new fresh (fails_to_say bytes is) kept =
    kept_with start new (quiet start old.site new.site is.speaks.sound is.speaks.only.disk is.speaks.only.puts is.unsaid
    (some_same old.site.link.pending new.site.link.pending is.speaks.only.pending) (kept_to start old kept))
    (empty_refused new.phase _ true is.phase)
step_kept start old new fresh (puts_first issue is) kept =
    kept_with start new (command_kept start old.engine new.engine issue old.site.clock.now old.site new.site is.sound is.up is.puts.sends (kept_to start old kept)) (empty_rests new.phase is.puts.phase)
step_kept start old new fresh (resends issue is) kept =
    let at = is.due.on_time.untold.idle.has_looked in
    kept_with start new (command_kept start old.engine new.engine issue old.site.clock.now old.site new.site at.sound at.up is.puts.sends (kept_to start old kept)) (empty_rests new.phase is.puts.phase)
step_kept start old new fresh (takes parcel is) kept =
    let now = takes_quiet start old.site new.site parcel is.turn.sound is.only is.some (kept_to start old kept) in
    let put = taken_was_put old.site new.site parcel is.turn.sound kept.puts kept.pending is.only is.some in
    record {
      agreed = now.agreed;
      puts = now.puts;
      pending = now.pending;
      in_hand = λ beat other h. subst (λ (p : Parcel). WasPut new.site p) (same_parcel new.site.disk.beat beat parcel other (sym is.phase ∙ h)) put;
    }
  where
    same_parcel : (at beat : ℕ) (p q : Parcel) → holds at p ≡ holds beat q → p ≡ q
    same_parcel at beat p q e = cc
step_kept start old new fresh (finds_none is) kept =
    kept_with start new (none_quiet start old.site new.site is.turn.sound is.only is.none (kept_to start old kept)) (empty_looked new.phase is.phase)
step_kept start old new fresh (fails_to_take is) kept =
    kept_with start new (failed_quiet start old.site new.site is.turn.sound is.only is.link (kept_to start old kept)) (empty_refused new.phase _ false is.phase)
step_kept start old new fresh (drops beat parcel is) kept = same_site start old new is.site (empty_rests new.phase is.ignores.phase) kept
step_kept start old new fresh (replies beat parcel is) kept = tries_kept start old new _ (λ offers.
    let agreed = kept.agreed.each old.site.disk.beat kept.agreed.later (omega arith) in
    offers_kept start old.engine _ old.site new.site is.sound is.up.has_file offers (kept_to start old kept)
    (further_next old.engine old.site _ is.up offers.comes
    (reply_backed old.site is.sound kept.agreed.told agreed.good old.engine parcel old.site.clock.now offers.comes.next is.up (kept.in_hand beat parcel is.holds_reply.phase) offers.comes.is)))
    is.tries kept
step_kept start old new fresh (ignores_reply beat parcel is) kept = same_site start old new is.site (empty_rests new.phase is.ignores.phase) kept
step_kept start old new fresh (acts_on beat parcel v w is) kept =
    let at = is.holds_command in
    kept_with start new (acts_kept start old.site v parcel old.site.clock.now at.sound at.filter (kept.in_hand beat parcel at.phase) at.command at.begun w new.site is.sound is.acts (kept_to start old kept))
    (empty_rests new.phase is.phase)
step_kept start old new fresh (repeats_reply beat parcel v w is) kept =
    let at = is.holds_command in
    kept_with start new (repeats_kept start old.site v parcel old.site.clock.now at.sound at.filter (kept.in_hand beat parcel at.phase) at.command at.begun w new.site is.repeats (kept_to start old kept))
    (empty_rests new.phase is.ignores.phase)
step_kept start old new fresh (fails_to_act beat parcel v w error cause is) kept =
    let at = is.holds_command in
    kept_with start new (by error is.refuses.site) (empty_refused new.phase cause false is.phase)
  where
    same : new.site ≡ old.site → HasKeptTo start new.site
    same e = subst (λ (s : SiteView). HasKeptTo start s) (sym e) (kept_to start old kept)

    offered : FilterOffers v parcel old.site.clock.now old.site new.site → HasKeptTo start new.site
    offered offers =
        let at = is.holds_command in
        act_kept start old.site v parcel old.site.clock.now at.sound at.filter (kept.in_hand beat parcel at.phase) at.command at.begun new.site offers (kept_to start old kept)

    by : (error : ActError) → MayHaveDone error v parcel old.site.clock.now old.site new.site → HasKeptTo start new.site
    by act_error.Disk offers = offered offers
    by act_error.Memory may = elim may [ inl e ↦ same e | inr offers ↦ offered offers ]
    by (act_error.Damaged place) e = same e
    by (act_error.Full length) e = same e
    by act_error.Broken e = same e
step_kept start old new fresh (wants_memory_now is) kept = only_refuses start old new _ _ is.only kept

-- ---- the number of the run

run_tried : (old new : World) (IsNext : Record → Type 0) → Tries IsNext old new → new.engine.history.seen.run ≡ old.engine.history.seen.run
run_tried old new IsNext (done is) = ap (λ (h : HistoryView). h.seen.run) is.appends.adds.view
run_tried old new IsNext (failed is) = ap (λ (h : HistoryView). h.seen.run) is.refuses.0.1
run_tried old new IsNext (limited what is) = ap (λ (h : HistoryView). h.seen.run) is.refuses.0.1

run_same : (old new : World) → new.engine ≡ old.engine → new.engine.history.seen.run ≡ old.engine.history.seen.run
run_same old new e = ap (λ (v : EngineView). v.history.seen.run) e

pub step_run : (old new : World) → Step old new → new.engine.history.seen.run ≡ old.engine.history.seen.run
step_run old new (opens_clock answer is) = run_same old new is.goes.sides.engine
step_run old new (finds_run_used agent is) = run_same old new is.only.sides.engine
step_run old new (asks_clock moment answer is) = run_same old new is.goes.sides.engine
step_run old new (finds_late moment is) = run_same old new is.only.sides.engine
step_run old new (begins is) = run_tried old new _ is.tries
step_run old new (moves is) = run_tried old new _ is.tries
step_run old new (upgrades issue told is) = run_tried old new _ is.tries
step_run old new (tells issue told is) = run_tried old new _ is.tries
step_run old new (expires issue is) = run_tried old new _ is.tries
step_run old new (says bytes is) = run_same old new is.speaks.sides.engine
step_run old new (fails_to_say bytes is) = run_same old new is.speaks.sides.engine
step_run old new (puts_first issue is) = ap (λ (v : EngineView). v.history.seen.run) is.puts.sends.view
step_run old new (resends issue is) = ap (λ (v : EngineView). v.history.seen.run) is.puts.sends.view
step_run old new (takes parcel is) = run_same old new is.sides.engine
step_run old new (finds_none is) = run_same old new is.sides.engine
step_run old new (fails_to_take is) = run_same old new is.sides.engine
step_run old new (drops beat parcel is) = run_same old new is.ignores.engine
step_run old new (replies beat parcel is) = run_tried old new _ is.tries
step_run old new (ignores_reply beat parcel is) = run_same old new is.ignores.engine
step_run old new (acts_on beat parcel v w is) = run_same old new is.engine
step_run old new (repeats_reply beat parcel v w is) = run_same old new is.ignores.engine
step_run old new (fails_to_act beat parcel v w error cause is) = run_same old new is.engine
step_run old new (wants_memory_now is) = run_same old new is.only.sides.engine

pub steps_run : (a b : World) → Steps a b → b.engine.history.seen.run ≡ a.engine.history.seen.run
steps_run a b nothing = refl
steps_run a b (and_then {mid} steps step) = step_run mid b step ∙ steps_run a mid steps

pub steps_keep_agreement : StepsKeepAgreement
steps_keep_agreement start a b fresh kept nothing = kept
steps_keep_agreement start a b fresh kept (and_then {mid} steps step) =
    step_kept start mid b (subst (λ (n : ℕ). IsFresh start n start.disk.beat) (sym (steps_run a mid steps)) fresh) step
    (steps_keep_agreement start a mid fresh kept steps)
