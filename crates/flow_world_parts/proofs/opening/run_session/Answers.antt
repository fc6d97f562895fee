use Rattle.std.proofs.Common.{ℕ, sym, subst, refl}
use Rattle.std.specs.Prelude.{Ok}
use Rattle.flow_world_steps.specs.Worlds.{opened}
use Rattle.flow_world_parts.specs.Clock.{IsTooLate}
use Rattle.flow_world_parts.specs.Leads.{EndedAt, RefusesAt, at}
use Rattle.flow_world_parts.specs.declared.close.Close.TheVariants as close
use Rattle.flow_world_parts.proofs.OpenFiles.{reached_is, short_is}
use Rattle.flow_world_parts.proofs.Standing.{filters_stay, whole_stays}
use Rattle.flow_world_parts.proofs.WaitSteps.{opened_late, opened_now, opened_short, used_before}
use Rattle.flow_world_parts.proofs.opening.run_session.Goals as goal

pub user_of-requires : goal.user_of-requires
user_of-requires g c = c.requires.filters.few

pub returns-in-Some : goal.returns-in-Some
returns-in-Some g c = record {
  ended = λ notes new.
      used_before (g.S.Disk.view c.args.site.now) c.args.session.now.engine c.args.session.now.filters c.requires.whole notes c.args.run c.requires.of_run c.in-Some.agent c.in-Some.ensures.0 c.in-Some.ensures.1;
}

pub returns-in-Err : goal.returns-in-Err
returns-in-Err g c = record {
  ended = λ notes new.
      subst (λ e. RefusesAt e (g.S.Disk.view c.reach.new.site) (at (g.S.Disk.view c.args.site.now) c.args.session.now.engine c.args.session.now.filters notes opened)) (sym c.in-Err.ensures.late.0)
      (opened_late (g.S.Disk.view c.args.site.now) c.args.session.now.engine c.args.session.now.filters c.requires.whole notes c.args.run c.requires.of_run (g.met.S.Disk.sound c.args.site.now) c.in_default.ensures (g.S.Disk.view c.reach.new.site)
      (subst (λ (n : ℕ). IsTooLate n (g.S.Disk.view c.args.site.now) (g.S.Disk.view c.reach.new.site)) c.last_moment-last.ensures c.in-Err.ensures.late.1));
}

pub returns-in-Ok-None : goal.returns-in-Ok-None
returns-in-Ok-None g c = record {
  ended = λ notes new.
      subst (λ (n : ℕ). EndedAt (Ok (close.Waiting n)) (g.S.Disk.view c.reach.new.site) (at (g.S.Disk.view c.args.site.now) c.args.session.now.engine c.args.session.now.filters notes opened)) (sym c.last_moment-last.ensures)
      (opened_short (g.S.Disk.view c.args.site.now) c.args.session.now.engine c.args.session.now.filters c.requires.whole notes c.args.run c.requires.of_run (g.met.S.Disk.sound c.args.site.now) c.in_default.ensures (g.S.Disk.view c.reach.new.site)
      (short_is c.last_moment-last.result c.args.session.now.engine.history.seen.moment (g.S.Disk.view c.args.site.now) (g.S.Disk.view c.reach.new.site) c.reach.result c.in-Ok-None.field-0 c.last_moment-last.ensures c.in-Ok-None.is
      c.in-Ok-None.field-0-is c.reach.ensures.reached));
}

pub returns-in-Ok-Some : goal.returns-in-Ok-Some
returns-in-Ok-Some g c = record {
  ended = λ notes new.
      opened_now (g.S.Disk.view c.args.site.now) c.args.session.now.engine c.args.session.now.filters c.requires.whole notes c.args.run c.requires.of_run (g.met.S.Disk.sound c.args.site.now) c.in_default.ensures c.in-Ok-Some.now (g.S.Disk.view c.reach.new.site) c.args.answers.now c.args.session.now.left
      (record c.args.session.now { now = c.in-Ok-Some.now }) c.run.result (g.S.Disk.view c.run.new.site) new
      (reached_is c.last_moment-last.result c.args.session.now.engine.history.seen.moment (g.S.Disk.view c.args.site.now) (g.S.Disk.view c.reach.new.site) c.reach.result c.in-Ok-Some.field-0 c.in-Ok-Some.now c.last_moment-last.ensures c.in-Ok-Some.is
      c.in-Ok-Some.field-0-is c.reach.ensures.reached) refl refl refl c.requires.none c.run.ensures.ended;
}

pub run-requires-clause-whole : goal.run-requires-clause-whole
run-requires-clause-whole g c =
    whole_stays c.args.session.now.engine (g.S.Disk.view c.args.site.now) (g.S.Disk.view c.reach.new.site)
    (reached_is c.last_moment-last.result c.args.session.now.engine.history.seen.moment (g.S.Disk.view c.args.site.now) (g.S.Disk.view c.reach.new.site) c.reach.result c.in-Ok-Some.field-0 c.in-Ok-Some.now c.last_moment-last.ensures c.in-Ok-Some.is
    c.in-Ok-Some.field-0-is c.reach.ensures.reached).reaches.disk.disk c.requires.whole

pub run-requires-clause-filters : goal.run-requires-clause-filters
run-requires-clause-filters g c =
    filters_stay c.args.session.now.filters (g.S.Disk.view c.args.site.now) (g.S.Disk.view c.reach.new.site)
    (reached_is c.last_moment-last.result c.args.session.now.engine.history.seen.moment (g.S.Disk.view c.args.site.now) (g.S.Disk.view c.reach.new.site) c.reach.result c.in-Ok-Some.field-0 c.in-Ok-Some.now c.last_moment-last.ensures c.in-Ok-Some.is
    c.in-Ok-Some.field-0-is c.reach.ensures.reached).reaches.disk.disk c.requires.filters

pub run-requires-clause-now : goal.run-requires-clause-now
run-requires-clause-now g c =
    sym (reached_is c.last_moment-last.result c.args.session.now.engine.history.seen.moment (g.S.Disk.view c.args.site.now) (g.S.Disk.view c.reach.new.site) c.reach.result c.in-Ok-Some.field-0 c.in-Ok-Some.now c.last_moment-last.ensures c.in-Ok-Some.is
    c.in-Ok-Some.field-0-is c.reach.ensures.reached).reaches.now

pub run-requires-clause-later : goal.run-requires-clause-later
run-requires-clause-later g c =
    (reached_is c.last_moment-last.result c.args.session.now.engine.history.seen.moment (g.S.Disk.view c.args.site.now) (g.S.Disk.view c.reach.new.site) c.reach.result c.in-Ok-Some.field-0 c.in-Ok-Some.now c.last_moment-last.ensures c.in-Ok-Some.is
    c.in-Ok-Some.field-0-is c.reach.ensures.reached).far

pub run-requires-clause-in_time : goal.run-requires-clause-in_time
run-requires-clause-in_time g c =
    (reached_is c.last_moment-last.result c.args.session.now.engine.history.seen.moment (g.S.Disk.view c.args.site.now) (g.S.Disk.view c.reach.new.site) c.reach.result c.in-Ok-Some.field-0 c.in-Ok-Some.now c.last_moment-last.ensures c.in-Ok-Some.is
    c.in-Ok-Some.field-0-is c.reach.ensures.reached).in_time

pub run-requires-clause-no_puts : goal.run-requires-clause-no_puts
run-requires-clause-no_puts g c = c.requires.no_puts

pub run-requires-clause-none : goal.run-requires-clause-none
run-requires-clause-none g c = c.requires.none

pub run-requires-clause-some : goal.run-requires-clause-some
run-requires-clause-some g c = c.requires.some
