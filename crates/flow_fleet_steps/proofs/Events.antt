-- What happens in a fleet is calls in a row on its rack.
use Rattle.std.proofs.Common.{◌≡◌, inl, inr, ℕ, Bool, true, false, List, refl, sym, ◌∙◌, subst, ap}
use Rattle.std.specs.Prelude.{Some, slice_get, slice_set}
use Rattle.cacao_site.specs.View.{LinkView, SiteView}
use Rattle.cacao_site.specs.declared.parcel.Parcel.{Parcel}
use Rattle.cacao_site.specs.Sound.{IsSound}
use Rattle.run_records.specs.declared.record.Record.{Record}
use Rattle.flow_world_steps.specs.EngineView.{EngineView}
use Rattle.flow_world_steps.specs.HistoryCalls.{Offers}
use Rattle.slpf_actuator.specs.ActuatorCalls.{MayHaveDone, Offers as FilterOffers}
use Rattle.slpf_actuator.specs.ActuatorView.{ActuatorView}
use Rattle.slpf_actuator.specs.declared.error.ActError.{ActError}
use Rattle.slpf_actuator.specs.declared.error.ActError.TheVariants as act_error
use Rattle.flow_world_steps.specs.Agreement.{WasPut}
use Rattle.flow_world_steps.specs.Appends.{Tries}
use Rattle.flow_world_steps.specs.Appends.Tries.{done, failed, limited}
use Rattle.flow_world_steps.specs.Sides.{IsWhole}
use Rattle.flow_world_steps.specs.Steps.{FailsToAct, Step}
use Rattle.flow_world_steps.specs.Steps.Step.{begins as one_begins, moves as one_moves, expires as one_expires, puts_first as one_puts_first, resends as one_resends, replies as one_replies}
use Rattle.flow_world_steps.specs.Worlds.{World, Cause, holds, refused}
use Rattle.flow_world_steps.proofs.Agreement.{step_run}
use Rattle.flow_world_steps.proofs.Backed.{reply_backed}
use Rattle.flow_world_steps.proofs.Records.{expire_backed, further_begin, further_next, move_backed}
use Rattle.flow_world_steps.proofs.Sites.{some_lost, some_more, some_same, taken_was_put}
use Rattle.flow_fleet_laws.specs.Events.{AllOwn}
use Rattle.flow_fleet_laws.specs.Fleets.{IsAt}
use Rattle.flow_fleet_laws.specs.Speeches.Form.{with_numbers}
use Rattle.flow_fleet_laws.specs.Views.{seen_from}
use Rattle.flow_fleet_laws.proofs.Seen.{views_from_the_first}
use Rattle.flow_fleet_sessions.proofs.Calls.{HasCome, act_comes, acts_come, link_stays, one_more, put_one, quiet, repeats_come}
use Rattle.flow_fleet_sessions.proofs.Records.{IsFurtherFor}
use Rattle.flow_fleet_sessions.proofs.Steps.{HandIsEmpty, empty_looked, empty_owes, empty_reached, empty_refused, empty_rests}
use Rattle.flow_fleet_steps.specs.Steps.{FleetStep, FleetSteps, GoesTowards, OnlyPhase}
use Rattle.flow_fleet_steps.specs.Steps.FleetStep.{opens_clock, finds_run_used, asks_clock, finds_late, begins, moves, expires, says, fails_to_say, puts_first, resends}
use Rattle.flow_fleet_steps.specs.Steps.FleetStep.{takes, finds_none, fails_to_take, drops, replies, ignores_reply, acts_on, repeats_reply, fails_to_act, wants_memory_now}
use Rattle.flow_fleet_steps.specs.Steps.FleetSteps.{nothing, and_then}
use Rattle.flow_fleet_steps.specs.Turns.{IsSettled, StandsAt}
use Rattle.flow_fleet_steps.specs.Worlds.{EachRun, FleetWorld, Own, part}
use Rattle.flow_fleet_steps.proofs.Back.{puts_back, same_back, sound_back}
use Rattle.flow_fleet_steps.proofs.Numbers.{are_runs_of, at_place, run_number, runs_of, set_same}
use Rattle.flow_fleet_steps.proofs.Records.{all_own, command_event, line_event, record_event}

-- the fleet that calls in a row came to: its engines have the numbers of its runs, and the parcel in hand is a copy of one that was put
pub record FleetComes (start : SiteView) (runs : List ℕ) (w : FleetWorld) : Type 0 where
  pub site : HasCome with_numbers runs start w.site
  pub numbers : runs_of w.engines ≡ runs
  pub in_hand : (beat : ℕ) (parcel : Parcel) → w.phase ≡ holds beat parcel → WasPut w.site parcel

stands_settled : (w : FleetWorld) → EachRun w.engines (IsSettled w.site) → EachRun w.engines (StandsAt w.site)
stands_settled w settled place v there = (settled place v there).up.has_file

module _ (start : SiteView) (runs : List ℕ) (old new : FleetWorld) (come : FleetComes start runs old) where
  at_its_place : (place : ℕ) (v : EngineView) → slice_get old.engines place ≡ Some v → IsAt runs place (run_number v)
  at_its_place place v there = subst (λ (l : List ℕ). IsAt l place (run_number v)) come.numbers (at_place old.engines place v there)

  own_all : EachRun old.engines (StandsAt old.site) → AllOwn runs old.site
  own_all stands =
      subst (λ (l : List ℕ). AllOwn l old.site) come.numbers
      (all_own (runs_of old.engines) old.engines old.site (are_runs_of old.engines) stands come.site.told)

  with_site : runs_of new.engines ≡ runs_of old.engines → HasCome with_numbers runs start new.site → HandIsEmpty new.phase → FleetComes start runs new
  with_site same site empty = record { site = site; numbers = same ∙ come.numbers; in_hand = λ beat parcel h. absurd (empty beat parcel h) }

  same_engines : new.engines ≡ old.engines → runs_of new.engines ≡ runs_of old.engines
  same_engines e = ap runs_of e

  same_site : runs_of new.engines ≡ runs_of old.engines → new.site ≡ old.site → HandIsEmpty new.phase → FleetComes start runs new
  same_site numbers same empty = with_site numbers (subst (λ (s : SiteView). HasCome with_numbers runs start s) (sym same) come.site) empty

  only_refuses : (cause : Cause) (lacks : Bool) → OnlyPhase old new (refused cause lacks) → FleetComes start runs new
  only_refuses cause lacks only = same_site (same_engines only.sides.engines) only.site (empty_refused new.phase cause lacks only.phase)

  goes_towards : (moment answer : ℕ) → GoesTowards moment answer old new → FleetComes start runs new
  goes_towards moment answer goes = with_site (same_engines goes.sides.engines)
      (quiet with_numbers runs start old.site new.site goes.sound goes.reaches.disk.disk goes.reaches.puts goes.reaches.said
      (some_more old.site.link.pending new.site.link.pending goes.reaches.pending.0 goes.reaches.pending.1) come.site)
      (empty_reached new.phase moment answer goes.phase)

  -- ---- one run

  module _ (place : ℕ) (v w : EngineView) (own : Own) (there : slice_get old.engines place ≡ Some v) (set : new.engines ≡ slice_set old.engines place w)
      (step : Step (part place v (old.own place) old) (part place w own new)) where
    one_numbers : runs_of new.engines ≡ runs_of old.engines
    one_numbers = ap runs_of set ∙ set_same old.engines place v w there (step_run (part place v (old.own place) old) (part place w own new) step)

    -- a record may have been appended, if it is a further one
    tried : (IsNext : Record → Type 0) → IsSound (seen_from place old.site) → IsWhole v (seen_from place old.site)
        → ((offers : Offers v.history IsNext (seen_from place old.site) (seen_from place new.site))
        → IsFurtherFor (seen_from place start) (run_number v) (seen_from place old.site) v.history.records offers.comes.next)
        → Tries IsNext (part place v (old.own place) old) (part place w own new) → FleetComes start runs new
    tried IsNext sound whole further tries = by tries
      where
        offered : Offers v.history IsNext (seen_from place old.site) (seen_from place new.site) → HasCome with_numbers runs start new.site
        offered offers = link_stays with_numbers runs start old.site new.site come.site (sound_back place old.site sound)
            (record_event runs start place (run_number v) (at_its_place place v there) v old.site new.site refl come.site.told IsNext whole offers (further offers)) offers.file.rest.link

        by : Tries IsNext (part place v (old.own place) old) (part place w own new) → FleetComes start runs new
        by (done is) = with_site one_numbers (offered is.appends.adds.offers) (empty_owes new.phase is.phase)
        by (failed is) = with_site one_numbers (offered is.refuses.0.0) (empty_refused new.phase _ false is.phase)
        by (limited what is) = same_site one_numbers (same_back place old.site new.site is.refuses.0.2) (empty_refused new.phase _ false is.phase)

  -- ---- the filters

  put_seen : (beat : ℕ) (parcel : Parcel) → old.phase ≡ holds beat parcel → WasPut (seen_from 0 old.site) parcel
  put_seen beat parcel phase = let put = come.in_hand beat parcel phase in record { at = put.at; has = put.has }

  come_seen : HasCome with_numbers runs start (seen_from 0 old.site)
  come_seen = subst (λ (s : SiteView). HasCome with_numbers runs start s) (sym (views_from_the_first old.site)) come.site

  from_seen : HasCome with_numbers runs start (seen_from 0 new.site) → HasCome with_numbers runs start new.site
  from_seen there = subst (λ (s : SiteView). HasCome with_numbers runs start s) (views_from_the_first new.site) there

filter_fails : (start : SiteView) (runs : List ℕ) (beat : ℕ) (parcel : Parcel) (v w : ActuatorView) (error : ActError) (cause : Cause) (old new : World)
    → HasCome with_numbers runs start old.site → WasPut old.site parcel → FailsToAct beat parcel v w error cause old new → HasCome with_numbers runs start new.site
filter_fails start runs beat parcel v w error cause old new come put is = by error is.refuses.site
  where
    same : new.site ≡ old.site → HasCome with_numbers runs start new.site
    same e = subst (λ (s : SiteView). HasCome with_numbers runs start s) (sym e) come

    offered : FilterOffers v parcel old.site.clock.now old.site new.site → HasCome with_numbers runs start new.site
    offered offers =
        let at = is.holds_command in
        act_comes with_numbers runs start old.site v parcel old.site.clock.now come at.sound at.filter put at.command new.site offers

    by : (error : ActError) → MayHaveDone error v parcel old.site.clock.now old.site new.site → HasCome with_numbers runs start new.site
    by act_error.Disk offers = offered offers
    by act_error.Memory may = elim may [ inl e ↦ same e | inr offers ↦ offered offers ]
    by (act_error.Damaged place) e = same e
    by (act_error.Full length) e = same e
    by act_error.Broken e = same e

step_comes : (start : SiteView) (runs : List ℕ) (old new : FleetWorld) → FleetStep old new → FleetComes start runs old → FleetComes start runs new
step_comes start runs old new (opens_clock answer is) come = goes_towards start runs old new come _ answer is.goes
step_comes start runs old new (finds_run_used place agent is) come = only_refuses start runs old new come _ false is.only
step_comes start runs old new (asks_clock moment answer is) come = goes_towards start runs old new come moment answer is.goes
step_comes start runs old new (finds_late moment is) come = only_refuses start runs old new come _ false is.only
step_comes start runs old new (begins place is) come =
    let d = is.does in
    let one = d.does in
    tried start runs old new come place d.v d.w d.own d.there d.engines (one_begins one) _ one.sound one.whole (λ offers good stays fresh.
    further_begin d.v (seen_from place old.site) _ one.whole one.sound come.site.told one.empty offers.comes (stays fresh)) one.tries
step_comes start runs old new (moves place is) come =
    let d = is.does in
    let one = d.does in
    let at = one.has_looked in
    tried start runs old new come place d.v d.w d.own d.there d.engines (one_moves one) _ at.sound at.up.has_file (λ offers good stays fresh.
    further_next d.v (seen_from place old.site) _ at.up offers.comes (move_backed d.v (seen_from place old.site) old.site.clock.now offers.comes.next offers.comes.is)) one.tries
step_comes start runs old new (expires place issue is) come =
    let d = is.does in
    let one = d.does in
    let at = one.overdue.untold.idle.has_looked in
    tried start runs old new come place d.v d.w d.own d.there d.engines (one_expires issue one) _ at.sound at.up.has_file (λ offers good stays fresh.
    further_next d.v (seen_from place old.site) _ at.up offers.comes
    (expire_backed (seen_from place old.site) d.v.history.records issue old.site.clock.now offers.comes.next offers.comes.is)) one.tries
step_comes start runs old new (says place v bytes is) come =
    let speaks = is.speaks in
    let only = speaks.only in
    with_site start runs old new come (same_engines start runs old new come speaks.sides.engines)
    (one_more with_numbers runs start old.site new.site come.site speaks.sound
    (line_event runs start place (run_number v) (at_its_place start runs old new come place v speaks.there) v old.site new.site refl come.site.told speaks.line.n bytes speaks.up
    (own_all start runs old new come speaks.stands) speaks.line.line only is.said)
    (some_same old.site.link.puts new.site.link.puts only.puts) (some_same old.site.link.pending new.site.link.pending only.pending))
    (empty_rests new.phase is.phase)
step_comes start runs old new (fails_to_say place v bytes is) come =
    let speaks = is.speaks in
    let only = speaks.only in
    with_site start runs old new come (same_engines start runs old new come speaks.sides.engines)
    (quiet with_numbers runs start old.site new.site speaks.sound only.disk only.puts is.unsaid (some_same old.site.link.pending new.site.link.pending only.pending) come.site)
    (empty_refused new.phase _ true is.phase)
step_comes start runs old new (puts_first place issue is) come =
    let d = is.does in
    let one = d.does in
    let sends = one.puts.sends in
    with_site start runs old new come (one_numbers start runs old new come place d.v d.w d.own d.there d.engines (one_puts_first issue one))
    (put_one with_numbers runs start old.site new.site _ come.site (sound_back place old.site one.sound) (puts_back place _ old.site new.site sends.put)
    (command_event runs start place (run_number d.v) (at_its_place start runs old new come place d.v d.there) d.v old.site new.site refl come.site.told d.w issue old.site.clock.now one.up
    (own_all start runs old new come is.stands) sends))
    (empty_rests new.phase one.puts.phase)
step_comes start runs old new (resends place issue is) come =
    let d = is.does in
    let one = d.does in
    let at = one.due.on_time.untold.idle.has_looked in
    let sends = one.puts.sends in
    with_site start runs old new come (one_numbers start runs old new come place d.v d.w d.own d.there d.engines (one_resends issue one))
    (put_one with_numbers runs start old.site new.site _ come.site (sound_back place old.site at.sound) (puts_back place _ old.site new.site sends.put)
    (command_event runs start place (run_number d.v) (at_its_place start runs old new come place d.v d.there) d.v old.site new.site refl come.site.told d.w issue old.site.clock.now at.up
    (own_all start runs old new come (stands_settled old is.on_time.idle.has_looked.settled)) sends))
    (empty_rests new.phase one.puts.phase)
step_comes start runs old new (takes parcel is) come =
    let put = taken_was_put old.site new.site parcel is.turn.sound come.site.puts come.site.pending is.only is.some in
    record {
      site = quiet with_numbers runs start old.site new.site is.turn.sound is.only.disk.disk is.only.puts is.only.said
          (some_lost old.site.link.pending new.site.link.pending parcel is.some.pending) come.site;
      numbers = ap runs_of is.sides.engines ∙ come.numbers;
      in_hand = λ beat other h. subst (λ (p : Parcel). WasPut new.site p) (same_parcel new.site.disk.beat beat parcel other (sym is.phase ∙ h)) put;
    }
  where
    same_parcel : (at beat : ℕ) (p q : Parcel) → holds at p ≡ holds beat q → p ≡ q
    same_parcel at beat p q e = cc
step_comes start runs old new (finds_none is) come = with_site start runs old new come (ap runs_of is.sides.engines)
    (quiet with_numbers runs start old.site new.site is.turn.sound is.only.disk.disk is.only.puts is.only.said
    (some_same old.site.link.pending new.site.link.pending is.none.pending) come.site)
    (empty_looked new.phase is.phase)
step_comes start runs old new (fails_to_take is) come = with_site start runs old new come (ap runs_of is.sides.engines)
    (quiet with_numbers runs start old.site new.site is.turn.sound is.only.disk.disk is.only.puts is.only.said
    (some_same old.site.link.pending new.site.link.pending (ap (λ (l : LinkView). l.pending) is.link)) come.site)
    (empty_refused new.phase _ false is.phase)
step_comes start runs old new (drops beat parcel is) come =
    same_site start runs old new come (ap runs_of is.ignores.sides.engines) is.site (empty_rests new.phase is.ignores.phase)
step_comes start runs old new (replies beat parcel place is) come =
    let d = is.does in
    let one = d.does in
    let put = come.in_hand beat parcel one.holds_reply.phase in
    tried start runs old new come place d.v d.w d.own d.there d.engines (one_replies beat parcel one) _ one.sound one.up.has_file (λ offers good stays fresh.
    further_next d.v (seen_from place old.site) _ one.up offers.comes
    (reply_backed (seen_from place old.site) one.sound come.site.told good d.v parcel old.site.clock.now offers.comes.next one.up (record { at = put.at; has = put.has }) offers.comes.is)) one.tries
step_comes start runs old new (ignores_reply beat parcel is) come =
    same_site start runs old new come (ap runs_of is.ignores.sides.engines) is.site (empty_rests new.phase is.ignores.phase)
step_comes start runs old new (acts_on beat parcel v w is) come =
    let one = is.does in
    let at = one.holds_command in
    with_site start runs old new come (ap runs_of is.engines)
    (from_seen start runs old new come
    (acts_come with_numbers runs start (seen_from 0 old.site) v parcel old.site.clock.now (come_seen start runs old new come) at.sound at.filter (put_seen start runs old new come beat parcel at.phase) at.command
    w (seen_from 0 new.site) one.sound one.acts))
    (empty_rests new.phase one.phase)
step_comes start runs old new (repeats_reply beat parcel v w is) come =
    let one = is.does in
    let at = one.holds_command in
    with_site start runs old new come (ap runs_of is.engines)
    (from_seen start runs old new come
    (repeats_come with_numbers runs start (seen_from 0 old.site) v parcel old.site.clock.now (come_seen start runs old new come) at.sound at.filter (put_seen start runs old new come beat parcel at.phase) at.command
    w (seen_from 0 new.site) one.repeats))
    (empty_rests new.phase one.ignores.phase)
step_comes start runs old new (fails_to_act beat parcel v w error cause is) come =
    let one = is.does in
    with_site start runs old new come (ap runs_of is.engines)
    (from_seen start runs old new come
    (filter_fails start runs beat parcel v w error cause (part 0 is.v (old.own 0) old) (part 0 is.v (old.own 0) new) (come_seen start runs old new come)
    (put_seen start runs old new come beat parcel one.holds_command.phase) one))
    (empty_refused new.phase cause false one.phase)
step_comes start runs old new (wants_memory_now is) come = only_refuses start runs old new come _ _ is.only

pub steps_come : (start : SiteView) (runs : List ℕ) (a b : FleetWorld) → FleetSteps a b → FleetComes start runs a → FleetComes start runs b
steps_come start runs a b nothing come = come
steps_come start runs a b (and_then {mid} before step) come = step_comes start runs mid b step (steps_come start runs a mid before come)
