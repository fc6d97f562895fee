use Rattle.std.proofs.Common.{Some, None, ap, sym, subst, ◌∙◌}
use Rattle.base_dues.specs.Pairs.{at, IsFirstBy}
use Rattle.flow_core_rules.specs.Moves.{enabled_move}
use Rattle.flow_core_plans.specs.RunFacts.{shown_of}
use Rattle.flow_core.specs.Views.{View}
use Rattle.flow_core.proofs.FlowLemmas.{sane_now}
use Rattle.flow_core.proofs.TableReads.{enabled_table, ready_task}
use Rattle.flow_core.proofs.flow.Flow.enabled.Goals as goal

pub returns-in-None : goal.returns-in-None
returns-in-None c =
    let s = shown_of c.self.inside.run in
    let t = c.self.inside.run.tables in
    let sane = sane_now c.self.inside.count s c.if-self-eq0.false c.setup_law.ensures.runnable c.self.invariant.reached in
    sym (enabled_table s t c.args.moment None sane c.self.invariant.tables (sym c.if-not-is_in_time.ensures) (subst (IsFirstBy c.args.moment (at t.ready.pairs)) c.in-None.is c.least_by.ensures.each))
    ∙ ap (λ (v : View). enabled_move v.seen c.args.moment) c.self.view_is

pub returns-in-Some : goal.returns-in-Some
returns-in-Some c =
    let s = shown_of c.self.inside.run in
    let t = c.self.inside.run.tables in
    let sane = sane_now c.self.inside.count s c.if-self-eq0.false c.setup_law.ensures.runnable c.self.invariant.reached in
    let first = subst (IsFirstBy c.args.moment (at t.ready.pairs)) c.in-Some.is c.least_by.ensures.each in
    c.move_of.ensures (ready_task s t c.args.moment c.in-Some.t sane c.self.invariant.tables first)
    ∙ sym (enabled_table s t c.args.moment (Some c.in-Some.t) sane c.self.invariant.tables (sym c.if-not-is_in_time.ensures) first)
    ∙ ap (λ (v : View). enabled_move v.seen c.args.moment) c.self.view_is
