use Rattle.std.proofs.Common.{◌≡◌, List, refl, subst}
use Rattle.std.specs.Prelude.{None}
use Rattle.flow_core_rules.specs.Moves.{asks, due}
use Rattle.flow_engine.specs.EngineView.{EngineView}
use Rattle.flow_fleet_steps.specs.Turns.{HasNoMove}
use Rattle.flow_fleet_steps.specs.Worlds.{EachRun}
use Rattle.flow_fleet.specs.Dues.{IsFleetDue}
use Rattle.flow_fleet.specs.declared.due.FleetDue.TheVariants as kind
use Rattle.flow_fleet.proofs.LoopLemmas.{never_stuck}
use Rattle.flow_fleet.proofs.TurnLemmas.{asking}
use Rattle.flow_fleet.proofs.fleet_state.Fleet.go_on.Goals as goal

pub first_due-requires-clause-never_stuck : goal.first_due-requires-clause-never_stuck
first_due-requires-clause-never_stuck g c = λ idle no_due no_asks.
    never_stuck c.accepted_is_runnable.ensures (g.R.Disk.view c.args.rack.now) c.args.self.now c.requires.between c.requires.goes
    (subst (λ (l : List EngineView). EachRun l (λ place. HasNoMove c.args.self.now.now)) c.deref.ensures.value idle)
    (subst (λ (l : List EngineView). EachRun l (λ place v. due v.history.seen ≡ None)) c.deref.ensures.value no_due)
    (subst (λ (l : List EngineView). EachRun l (λ place v. asks v.history.seen ≡ None)) c.deref.ensures.value no_asks)

pub make_move-requires-clause-turn : goal.make_move-requires-clause-turn
make_move-requires-clause-turn g c =
    let s = c.args.self.now in
    let is : IsFleetDue s.engines.items s.turn s.now (kind.Move c.in-Move.place) =
    (subst (λ (l : List EngineView). IsFleetDue l s.turn s.now (kind.Move c.in-Move.place)) c.deref.ensures.value ((c.in-Move.ensures (kind.Move c.in-Move.place)).0 refl)) in
    is

pub expire-requires-clause-idle : goal.expire-requires-clause-idle
expire-requires-clause-idle g c =
    let s = c.args.self.now in
    let is : IsFleetDue s.engines.items s.turn s.now (kind.Expire c.in-Expire.place) =
    (subst (λ (l : List EngineView). IsFleetDue l s.turn s.now (kind.Expire c.in-Expire.place)) c.deref.ensures.value ((c.in-Expire.ensures (kind.Expire c.in-Expire.place)).0 refl)) in
    is.idle

pub expire-requires-clause-overdue : goal.expire-requires-clause-overdue
expire-requires-clause-overdue g c =
    let s = c.args.self.now in
    let is : IsFleetDue s.engines.items s.turn s.now (kind.Expire c.in-Expire.place) =
    (subst (λ (l : List EngineView). IsFleetDue l s.turn s.now (kind.Expire c.in-Expire.place)) c.deref.ensures.value ((c.in-Expire.ensures (kind.Expire c.in-Expire.place)).0 refl)) in
    is.first

pub resend-requires-clause-idle : goal.resend-requires-clause-idle
resend-requires-clause-idle g c =
    let s = c.args.self.now in
    let is : IsFleetDue s.engines.items s.turn s.now (kind.Resend c.in-Resend.place c.in-Resend.moment c.in-Resend.issue) =
    (subst (λ (l : List EngineView). IsFleetDue l s.turn s.now (kind.Resend c.in-Resend.place c.in-Resend.moment c.in-Resend.issue)) c.deref.ensures.value ((c.in-Resend.ensures (kind.Resend c.in-Resend.place c.in-Resend.moment c.in-Resend.issue)).0 refl)) in
    is.idle

pub resend-requires-clause-on_time : goal.resend-requires-clause-on_time
resend-requires-clause-on_time g c =
    let s = c.args.self.now in
    let is : IsFleetDue s.engines.items s.turn s.now (kind.Resend c.in-Resend.place c.in-Resend.moment c.in-Resend.issue) =
    (subst (λ (l : List EngineView). IsFleetDue l s.turn s.now (kind.Resend c.in-Resend.place c.in-Resend.moment c.in-Resend.issue)) c.deref.ensures.value ((c.in-Resend.ensures (kind.Resend c.in-Resend.place c.in-Resend.moment c.in-Resend.issue)).0 refl)) in
    is.on_time

pub resend-requires-clause-resend : goal.resend-requires-clause-resend
resend-requires-clause-resend g c =
    let s = c.args.self.now in
    let is : IsFleetDue s.engines.items s.turn s.now (kind.Resend c.in-Resend.place c.in-Resend.moment c.in-Resend.issue) =
    (subst (λ (l : List EngineView). IsFleetDue l s.turn s.now (kind.Resend c.in-Resend.place c.in-Resend.moment c.in-Resend.issue)) c.deref.ensures.value ((c.in-Resend.ensures (kind.Resend c.in-Resend.place c.in-Resend.moment c.in-Resend.issue)).0 refl)) in
    is.first

pub wait_for-requires-clause-idle : goal.wait_for-requires-clause-idle
wait_for-requires-clause-idle g c =
    let s = c.args.self.now in
    let is : IsFleetDue s.engines.items s.turn s.now (kind.Wait c.in-Wait.moment) =
    (subst (λ (l : List EngineView). IsFleetDue l s.turn s.now (kind.Wait c.in-Wait.moment)) c.deref.ensures.value ((c.in-Wait.ensures (kind.Wait c.in-Wait.moment)).0 refl)) in
    is.up_to_date.idle

pub wait_for-requires-clause-on_time : goal.wait_for-requires-clause-on_time
wait_for-requires-clause-on_time g c =
    let s = c.args.self.now in
    let is : IsFleetDue s.engines.items s.turn s.now (kind.Wait c.in-Wait.moment) =
    (subst (λ (l : List EngineView). IsFleetDue l s.turn s.now (kind.Wait c.in-Wait.moment)) c.deref.ensures.value ((c.in-Wait.ensures (kind.Wait c.in-Wait.moment)).0 refl)) in
    is.up_to_date.on_time

pub wait_for-requires-clause-up_to_date : goal.wait_for-requires-clause-up_to_date
wait_for-requires-clause-up_to_date g c =
    let s = c.args.self.now in
    let is : IsFleetDue s.engines.items s.turn s.now (kind.Wait c.in-Wait.moment) =
    (subst (λ (l : List EngineView). IsFleetDue l s.turn s.now (kind.Wait c.in-Wait.moment)) c.deref.ensures.value ((c.in-Wait.ensures (kind.Wait c.in-Wait.moment)).0 refl)) in
    is.up_to_date.none

pub wait_for-requires-clause-next : goal.wait_for-requires-clause-next
wait_for-requires-clause-next g c =
    let s = c.args.self.now in
    let is : IsFleetDue s.engines.items s.turn s.now (kind.Wait c.in-Wait.moment) =
    (subst (λ (l : List EngineView). IsFleetDue l s.turn s.now (kind.Wait c.in-Wait.moment)) c.deref.ensures.value ((c.in-Wait.ensures (kind.Wait c.in-Wait.moment)).0 refl)) in
    is.next

pub returns-in-Ask-clause-turned : goal.returns-in-Ask-clause-turned
returns-in-Ask-clause-turned g c =
    let s = c.args.self.now in
    let is : IsFleetDue s.engines.items s.turn s.now (kind.Ask c.in-Ask.number c.in-Ask.issue) =
    (subst (λ (l : List EngineView). IsFleetDue l s.turn s.now (kind.Ask c.in-Ask.number c.in-Ask.issue)) c.deref.ensures.value ((c.in-Ask.ensures (kind.Ask c.in-Ask.number c.in-Ask.issue)).0 refl)) in
    asking (g.R.Disk.view c.args.rack.now) s (g.met.R.Disk.sound c.args.rack.now) c.requires.between c.requires.goes c.requires.some is.up_to_date.idle is.up_to_date.on_time is.up_to_date.none
    c.in-Ask.number c.in-Ask.issue is.nothing_due is.first
