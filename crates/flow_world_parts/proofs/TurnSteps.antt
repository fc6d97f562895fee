-- Turns of a session.
use Rattle.std.proofs.Common.{◌≡◌, ◌<◌, ◌≤◌, List, subst, arith}
use Rattle.std.specs.Prelude.{Option, None, Result, Ok}
use Rattle.cacao_site.specs.View.{SiteView}
use Rattle.flow_world_steps.specs.SetupLaws.{AcceptedIsRunnable}
use Rattle.flow_engine_answers.specs.declared.answers.OperatorAnswer.{OperatorAnswer}
use Rattle.flow_world_steps.specs.Sides.{AllPut}
use Rattle.flow_world_steps.specs.Spent.{most_spent, place}
use Rattle.flow_world_steps.specs.Worlds.{Phase, rests}
use Rattle.flow_world_steps.proofs.Bounded.{spent_few}
use Rattle.flow_world_steps.proofs.Spending.{turn_spends}
use Rattle.flow_world_steps.proofs.Timely.{in_time_bounds}
use Rattle.flow_world_parts.specs.Leads.{Goes, IsBetweenTurns, IsWorking, Turned, world_of}
use Rattle.flow_world_parts.specs.Used.{used}
use Rattle.flow_world_parts.specs.declared.close.Close.{Close}
use Rattle.flow_world_parts.specs.declared.error.WorldError.{WorldError}
use Rattle.flow_world_parts.specs.declared.turns.Session.{Session}
use Rattle.flow_world_parts.proofs.Standing.{sample, sample_counts}

-- ---- what a turn uses up

pub more_used : AcceptedIsRunnable → (answers : List OperatorAnswer) (so sn : SiteView) (s t : Session) (p : Phase) → IsWorking s so → AllPut s.engine → place rests < place p → Goes answers so s p sn t rests → used so s < used sn t
more_used runnable answers so sn s t p works put less goes =
    let leads = goes (sample answers s.left s.ignored) (sample_counts answers s) in
    let a = world_of so s (sample answers s.left s.ignored) p in
    let b = world_of sn t leads.notes rests in
    let more = turn_spends runnable a b (λ g o. works.engine.in_time) (λ e. put) leads.steps tt less in
    omega (arith, more, leads.counts.ignored)

pub went_on : (result : Result (Option Close) WorldError) (answers : List OperatorAnswer) (s t : Session) (so sn : SiteView) (p : Phase) → result ≡ Ok None → Turned result answers so s p sn t → Goes answers so s p sn t rests
went_on result answers s t so sn p e is = subst (λ r. Turned r answers so s p sn t) e is

pub used_few : (s : Session) (site : SiteView) → IsBetweenTurns s site → used site s ≤ most_spent
used_few s site is =
    let within = (in_time_bounds s.engine.history.seen site.clock.now is.works.engine.in_time).1 in
    let stands = is.works.engine.up.has_file.engine in
    let few = spent_few s.engine s.filters site s.ignored site.clock.now stands.history stands.put is.works.filters (omega (arith, is.calm)) within in
    omega (arith, few)
