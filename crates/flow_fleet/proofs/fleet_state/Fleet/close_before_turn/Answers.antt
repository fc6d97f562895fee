use Rattle.std.proofs.Common.{◌≢◌, ℕ, List, false, subst}
use Rattle.std.specs.Prelude.{MatchOption, None, Some}
use Rattle.flow_core_rules.specs.Changes.{outcome}
use Rattle.flow_engine.specs.EngineView.{EngineView}
use Rattle.flow_fleet_steps.specs.Worlds.{EachRun}
use Rattle.flow_fleet.specs.Searches.{FailedFirst, GoesOnHere}
use Rattle.flow_fleet.proofs.LoopLemmas.{none_goes, one_goes}
use Rattle.flow_fleet.proofs.TurnLemmas.{has_ended, has_paused}
use Rattle.flow_fleet.proofs.fleet_state.Fleet.close_before_turn.Goals as goal

pub returns-then-is_none-clause-closes : goal.returns-then-is_none-clause-closes
returns-then-is_none-clause-closes c = λ site between.
    let s = c.args.self.now in
    has_ended site s c.first_failed.result between
    (none_goes c.first_going.result c.is_none.result (EachRun s.engines.items (λ place v. outcome v.history.seen.lists ≢ None)) (λ place. GoesOnHere s.engines.items place) c.is_none.ensures c.if-is_none.true
    (subst (λ (l : List EngineView). MatchOption c.first_going.result (EachRun l (λ place v. outcome v.history.seen.lists ≢ None)) (λ place. GoesOnHere l place)) c.deref.ensures.value c.first_going.ensures))
    (subst (λ (l : List EngineView). MatchOption c.first_failed.result (EachRun l (λ place v. outcome v.history.seen.lists ≢ Some false)) (λ run. FailedFirst l run)) c.deref-then-is_none.ensures.value c.first_failed.ensures)

pub returns-then-self-eq0-clause-closes : goal.returns-then-self-eq0-clause-closes
returns-then-self-eq0-clause-closes c = λ site between.
    let s = c.args.self.now in
    has_paused site s between
    (one_goes s.engines.items c.first_going.result c.is_none.result (EachRun s.engines.items (λ place v. outcome v.history.seen.lists ≢ None)) c.is_none.ensures c.if-is_none.false
    (subst (λ (l : List EngineView). MatchOption c.first_going.result (EachRun l (λ place v. outcome v.history.seen.lists ≢ None)) (λ place. GoesOnHere l place)) c.deref.ensures.value c.first_going.ensures)) c.if-self-eq0.true
