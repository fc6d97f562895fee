-- The steps of a session are calls in a row.
use Rattle.std.proofs.Common.{◌≡◌, inl, inr, ℕ, Bool, true, false, [], ◌∷◌, sym, ◌∙◌, subst, ap}
use Rattle.std.specs.Prelude.{nat_lt, if◌then◌else◌}
use Rattle.cacao_site.specs.View.{LinkView, SiteView}
use Rattle.cacao_site.specs.declared.parcel.Parcel.{Parcel}
use Rattle.cacao_site.specs.Sound.{IsSound}
use Rattle.run_records.specs.Ranges.{last_moment}
use Rattle.run_records.specs.declared.record.Record.{Record}
use Rattle.flow_world_steps.specs.LimitKind.TheVariants as limit
use Rattle.flow_world_steps.specs.HistoryCalls.{Offers}
use Rattle.flow_laws.specs.Fresh.{IsFresh}
use Rattle.slpf_actuator.specs.ActuatorCalls.{MayHaveDone, Offers as FilterOffers}
use Rattle.slpf_actuator.specs.declared.error.ActError.{ActError}
use Rattle.slpf_actuator.specs.declared.error.ActError.TheVariants as act_error
use Rattle.flow_world_steps.specs.Agreement.{WasPut}
use Rattle.flow_world_steps.specs.Appends.{Tries}
use Rattle.flow_world_steps.specs.Appends.Tries.{done, failed, limited}
use Rattle.flow_world_steps.specs.Sides.{IsWhole}
use Rattle.flow_world_steps.specs.Steps.{Step, Steps, OnlyPhase, GoesTowards, after_reach}
use Rattle.flow_world_steps.specs.Steps.Step.{opens_clock, finds_run_used, asks_clock, finds_late, begins, moves, upgrades, tells, expires, says, fails_to_say}
use Rattle.flow_world_steps.specs.Steps.Step.{puts_first, resends, takes, finds_none, fails_to_take, drops, replies, ignores_reply, acts_on, repeats_reply, fails_to_act, wants_memory_now}
use Rattle.flow_world_steps.specs.Steps.Steps.{nothing, and_then}
use Rattle.flow_world_steps.specs.Worlds.{World, Phase, Cause, rests, looked, owes, holds, waits, refused, past}
use Rattle.flow_world_steps.proofs.Agreement.{step_run}
use Rattle.flow_world_steps.proofs.Backed.{reply_backed}
use Rattle.flow_world_steps.proofs.Records.{expire_backed, further_begin, further_next, move_backed, told_backed, upgrade_backed}
use Rattle.flow_world_steps.proofs.Sites.{some_lost, some_more, some_same, taken_was_put}
use Rattle.flow_fleet_laws.specs.Speeches.Form.{without_numbers}
use Rattle.flow_fleet_sessions.proofs.Calls.{HasCome, act_comes, acts_come, link_stays, one_more, put_one, quiet, repeats_come}
use Rattle.flow_fleet_sessions.proofs.Records.{IsFurtherFor, command_event, line_event, record_event}

-- ---- phases

-- nothing is in hand
abbrev pub HandIsEmpty : Phase → Type 0
HandIsEmpty p = (beat : ℕ) (parcel : Parcel) → p ≡ holds beat parcel → ⊥

pub empty_rests : (p : Phase) → p ≡ rests → HandIsEmpty p
empty_rests p e beat parcel h = let f : rests ≡ holds beat parcel = sym e ∙ h in cc

pub empty_looked : (p : Phase) → p ≡ looked → HandIsEmpty p
empty_looked p e beat parcel h = let f : looked ≡ holds beat parcel = sym e ∙ h in cc

pub empty_owes : (p : Phase) → p ≡ owes → HandIsEmpty p
empty_owes p e beat parcel h = let f : owes ≡ holds beat parcel = sym e ∙ h in cc

pub empty_refused : (p : Phase) (cause : Cause) (lacks : Bool) → p ≡ refused cause lacks → HandIsEmpty p
empty_refused p cause lacks e beat parcel h = let f : refused cause lacks ≡ holds beat parcel = sym e ∙ h in cc

pub empty_reached : (p : Phase) (moment answer : ℕ) → p ≡ after_reach moment answer → HandIsEmpty p
empty_reached p moment answer e = by (nat_lt last_moment answer) (nat_lt answer moment) e
  where
    by : (a b : Bool) → p ≡ (if a then refused (past limit.Moment) false else if b then waits moment else rests) → HandIsEmpty p
    by true b e beat parcel h = let f = sym e ∙ h in cc
    by false true e beat parcel h = let f = sym e ∙ h in cc
    by false false e beat parcel h = let f = sym e ∙ h in cc

-- ---- a world that calls in a row came to

-- the parcel in hand is a copy of one that was put
pub record Comes (start : SiteView) (run : ℕ) (w : World) : Type 0 where
  pub site : HasCome without_numbers (run ∷ []) start w.site
  pub of_run : w.engine.history.seen.run ≡ run
  pub in_hand : (beat : ℕ) (parcel : Parcel) → w.phase ≡ holds beat parcel → WasPut w.site parcel

module _ (start : SiteView) (run : ℕ) (old new : World) (come : Comes start run old) (same_run : new.engine.history.seen.run ≡ old.engine.history.seen.run) where
  with_site : HasCome without_numbers (run ∷ []) start new.site → HandIsEmpty new.phase → Comes start run new
  with_site site empty = record { site = site; of_run = same_run ∙ come.of_run; in_hand = λ beat parcel h. absurd (empty beat parcel h) }

  same_site : new.site ≡ old.site → HandIsEmpty new.phase → Comes start run new
  same_site same empty = with_site (subst (λ (s : SiteView). HasCome without_numbers (run ∷ []) start s) (sym same) come.site) empty

  only_refuses : (cause : Cause) (lacks : Bool) → OnlyPhase old new (refused cause lacks) → Comes start run new
  only_refuses cause lacks only = same_site only.site (empty_refused new.phase cause lacks only.phase)

  goes_towards : (moment answer : ℕ) → GoesTowards moment answer old new → Comes start run new
  goes_towards moment answer goes = with_site
      (quiet without_numbers (run ∷ []) start old.site new.site goes.sound goes.reaches.disk.disk goes.reaches.puts goes.reaches.said
      (some_more old.site.link.pending new.site.link.pending goes.reaches.pending.0 goes.reaches.pending.1) come.site)
      (empty_reached new.phase moment answer goes.phase)

  -- a record may have been appended, if it is a further one
  tried : (IsNext : Record → Type 0) → IsSound old.site → IsWhole old.engine old.site
      → ((offers : Offers old.engine.history IsNext old.site new.site) → IsFurtherFor start run old.site old.engine.history.records offers.comes.next)
      → Tries IsNext old new → Comes start run new
  tried IsNext sound whole further tries = by tries
    where
      offered : Offers old.engine.history IsNext old.site new.site → HasCome without_numbers (run ∷ []) start new.site
      offered offers = link_stays without_numbers (run ∷ []) start old.site new.site come.site sound
          (record_event start run old.engine IsNext old.site new.site whole come.of_run come.site.told offers (further offers)) offers.file.rest.link

      by : Tries IsNext old new → Comes start run new
      by (done is) = with_site (offered is.appends.adds.offers) (empty_owes new.phase is.phase)
      by (failed is) = with_site (offered is.refuses.0.0) (empty_refused new.phase _ false is.phase)
      by (limited what is) = same_site is.refuses.0.2 (empty_refused new.phase _ false is.phase)

step_comes : (start : SiteView) (run : ℕ) (old new : World) → Step old new → Comes start run old → Comes start run new
step_comes start run old new (opens_clock answer is) come = goes_towards start run old new come (step_run old new (opens_clock answer is)) _ answer is.goes
step_comes start run old new (finds_run_used agent is) come = only_refuses start run old new come (step_run old new (finds_run_used agent is)) _ false is.only
step_comes start run old new (asks_clock moment answer is) come = goes_towards start run old new come (step_run old new (asks_clock moment answer is)) moment answer is.goes
step_comes start run old new (finds_late moment is) come = only_refuses start run old new come (step_run old new (finds_late moment is)) _ false is.only
step_comes start run old new (begins is) come = tried start run old new come (step_run old new (begins is)) _ is.sound is.whole (λ offers good stays fresh.
    further_begin old.engine old.site _ is.whole is.sound come.site.told is.empty offers.comes
    (subst (λ (n : ℕ). IsFresh old.site n old.site.disk.beat) (sym come.of_run) (stays fresh))) is.tries
step_comes start run old new (moves is) come =
    let at = is.has_looked in
    tried start run old new come (step_run old new (moves is)) _ at.sound at.up.has_file (λ offers good stays fresh.
    further_next old.engine old.site _ at.up offers.comes (move_backed old.engine old.site old.site.clock.now offers.comes.next offers.comes.is)) is.tries
step_comes start run old new (upgrades issue told is) come =
    let at = is.to_be_told.idle.has_looked in
    tried start run old new come (step_run old new (upgrades issue told is)) _ at.sound at.up.has_file (λ offers good stays fresh.
    further_next old.engine old.site _ at.up offers.comes (upgrade_backed old.site old.engine.history.records old.site.clock.now offers.comes.next offers.comes.is)) is.tries
step_comes start run old new (tells issue told is) come =
    let at = is.to_be_told.idle.has_looked in
    tried start run old new come (step_run old new (tells issue told is)) _ at.sound at.up.has_file (λ offers good stays fresh.
    further_next old.engine old.site _ at.up offers.comes
    (told_backed old.site old.engine.history.records issue old.site.clock.now told.status told.text offers.comes.next offers.comes.is)) is.tries
step_comes start run old new (expires issue is) come =
    let at = is.overdue.untold.idle.has_looked in
    tried start run old new come (step_run old new (expires issue is)) _ at.sound at.up.has_file (λ offers good stays fresh.
    further_next old.engine old.site _ at.up offers.comes (expire_backed old.site old.engine.history.records issue old.site.clock.now offers.comes.next offers.comes.is)) is.tries
step_comes start run old new (says bytes is) come =
    let only = is.speaks.only in
    with_site start run old new come (step_run old new (says bytes is))
    (one_more without_numbers (run ∷ []) start old.site new.site come.site is.speaks.sound
    (line_event start run old.engine is.speaks.line.n bytes old.site new.site is.speaks.up come.of_run come.site.told is.speaks.line.line only is.said)
    (some_same old.site.link.puts new.site.link.puts only.puts) (some_same old.site.link.pending new.site.link.pending only.pending))
    (empty_rests new.phase is.phase)
step_comes start run old new (fails_to_say bytes is) come =
    let only = is.speaks.only in
    with_site start run old new come (step_run old new (fails_to_say bytes is))
    (quiet without_numbers (run ∷ []) start old.site new.site is.speaks.sound only.disk only.puts is.unsaid (some_same old.site.link.pending new.site.link.pending only.pending) come.site)
    (empty_refused new.phase _ true is.phase)
step_comes start run old new (puts_first issue is) come =
    let sends = is.puts.sends in
    with_site start run old new come (step_run old new (puts_first issue is))
    (put_one without_numbers (run ∷ []) start old.site new.site _ come.site is.sound sends.put
    (command_event start run old.engine new.engine issue old.site.clock.now old.site new.site is.up come.of_run come.site.told sends))
    (empty_rests new.phase is.puts.phase)
step_comes start run old new (resends issue is) come =
    let at = is.due.on_time.untold.idle.has_looked in
    let sends = is.puts.sends in
    with_site start run old new come (step_run old new (resends issue is))
    (put_one without_numbers (run ∷ []) start old.site new.site _ come.site at.sound sends.put
    (command_event start run old.engine new.engine issue old.site.clock.now old.site new.site at.up come.of_run come.site.told sends))
    (empty_rests new.phase is.puts.phase)
step_comes start run old new (takes parcel is) come =
    let put = taken_was_put old.site new.site parcel is.turn.sound come.site.puts come.site.pending is.only is.some in
    record {
      site = quiet without_numbers (run ∷ []) start old.site new.site is.turn.sound is.only.disk.disk is.only.puts is.only.said (some_lost old.site.link.pending new.site.link.pending parcel is.some.pending) come.site;
      of_run = step_run old new (takes parcel is) ∙ come.of_run;
      in_hand = λ beat other h. subst (λ (p : Parcel). WasPut new.site p) (same_parcel new.site.disk.beat beat parcel other (sym is.phase ∙ h)) put;
    }
  where
    same_parcel : (at beat : ℕ) (p q : Parcel) → holds at p ≡ holds beat q → p ≡ q
    same_parcel at beat p q e = cc
step_comes start run old new (finds_none is) come = with_site start run old new come (step_run old new (finds_none is))
    (quiet without_numbers (run ∷ []) start old.site new.site is.turn.sound is.only.disk.disk is.only.puts is.only.said (some_same old.site.link.pending new.site.link.pending is.none.pending) come.site)
    (empty_looked new.phase is.phase)
step_comes start run old new (fails_to_take is) come = with_site start run old new come (step_run old new (fails_to_take is))
    (quiet without_numbers (run ∷ []) start old.site new.site is.turn.sound is.only.disk.disk is.only.puts is.only.said
    (some_same old.site.link.pending new.site.link.pending (ap (λ (l : LinkView). l.pending) is.link)) come.site)
    (empty_refused new.phase _ false is.phase)
step_comes start run old new (drops beat parcel is) come =
    same_site start run old new come (step_run old new (drops beat parcel is)) is.site (empty_rests new.phase is.ignores.phase)
step_comes start run old new (replies beat parcel is) come = tried start run old new come (step_run old new (replies beat parcel is)) _ is.sound is.up.has_file (λ offers good stays fresh.
    further_next old.engine old.site _ is.up offers.comes
    (reply_backed old.site is.sound come.site.told good old.engine parcel old.site.clock.now offers.comes.next is.up (come.in_hand beat parcel is.holds_reply.phase) offers.comes.is)) is.tries
step_comes start run old new (ignores_reply beat parcel is) come =
    same_site start run old new come (step_run old new (ignores_reply beat parcel is)) is.site (empty_rests new.phase is.ignores.phase)
step_comes start run old new (acts_on beat parcel v w is) come =
    let at = is.holds_command in
    with_site start run old new come (step_run old new (acts_on beat parcel v w is))
    (acts_come without_numbers (run ∷ []) start old.site v parcel old.site.clock.now come.site at.sound at.filter (come.in_hand beat parcel at.phase) at.command w new.site is.sound is.acts)
    (empty_rests new.phase is.phase)
step_comes start run old new (repeats_reply beat parcel v w is) come =
    let at = is.holds_command in
    with_site start run old new come (step_run old new (repeats_reply beat parcel v w is))
    (repeats_come without_numbers (run ∷ []) start old.site v parcel old.site.clock.now come.site at.sound at.filter (come.in_hand beat parcel at.phase) at.command w new.site is.repeats)
    (empty_rests new.phase is.ignores.phase)
step_comes start run old new (fails_to_act beat parcel v w error cause is) come =
    with_site start run old new come (step_run old new (fails_to_act beat parcel v w error cause is)) (by error is.refuses.site) (empty_refused new.phase cause false is.phase)
  where
    same : new.site ≡ old.site → HasCome without_numbers (run ∷ []) start new.site
    same e = subst (λ (s : SiteView). HasCome without_numbers (run ∷ []) start s) (sym e) come.site

    offered : FilterOffers v parcel old.site.clock.now old.site new.site → HasCome without_numbers (run ∷ []) start new.site
    offered offers =
        let at = is.holds_command in
        act_comes without_numbers (run ∷ []) start old.site v parcel old.site.clock.now come.site at.sound at.filter (come.in_hand beat parcel at.phase) at.command new.site offers

    by : (error : ActError) → MayHaveDone error v parcel old.site.clock.now old.site new.site → HasCome without_numbers (run ∷ []) start new.site
    by act_error.Disk offers = offered offers
    by act_error.Memory may = elim may [ inl e ↦ same e | inr offers ↦ offered offers ]
    by (act_error.Damaged place) e = same e
    by (act_error.Full length) e = same e
    by act_error.Broken e = same e
step_comes start run old new (wants_memory_now is) come = only_refuses start run old new come (step_run old new (wants_memory_now is)) _ _ is.only

pub steps_come : (start : SiteView) (run : ℕ) (a b : World) → Steps a b → Comes start run a → Comes start run b
steps_come start run a b nothing come = come
steps_come start run a b (and_then {mid} before step) come = step_comes start run mid b step (steps_come start run a mid before come)
