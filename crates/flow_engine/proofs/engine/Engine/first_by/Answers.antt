use Rattle.std.proofs.Common.{List, None, Some, Option, IsSome, sym, subst, ap, ◌∙◌}
use Rattle.base_dues.specs.Pairs.{Due, at, rising, IsFirstBy}
use Rattle.flow_core_rules.specs.Moves.{deadlines}
use Rattle.flow_core_rules.specs.State.{Shown}
use Rattle.flow_engine.specs.EngineView.{EngineView}
use Rattle.flow_engine.specs.OpenIssues.{puts_of}
use Rattle.flow_engine.specs.declared.puts.Puts.{Puts}
use Rattle.flow_engine.proofs.OverdueLemmas.{none_overdue, one_overdue}
use Rattle.flow_engine.proofs.engine.Engine.first_by.Goals as goal

pub returns-in-None : goal.returns-in-None
returns-in-None c =
    let pairs = c.deadlines.ensures ∙ ap (λ (s : Shown). rising (deadlines s)) c.flow.ensures.seen in
    none_overdue c.args.self.now c.args.moment c.law.ensures.put
    (subst (λ (ds : List Due). IsFirstBy c.args.moment (at ds) None) pairs
    (subst (λ o. IsFirstBy c.args.moment (at c.deadlines.result.now.pairs) o) c.in-None.is c.least_by.ensures.each))

pub returns-then-is_some : goal.returns-then-is_some
returns-then-is_some c =
    let pairs = c.deadlines.ensures ∙ ap (λ (s : Shown). rising (deadlines s)) c.flow.ensures.seen in
    let some = subst (λ (o : Option Puts). IsSome o) c.get.ensures.puts (sym c.if-is_some.ensures) in
    one_overdue c.args.self.now c.args.moment c.in-Some.issue c.law.ensures.put
    (subst (λ issues. IsSome (puts_of issues c.in-Some.issue)) (ap (λ (v : EngineView). v.puts) c.self.view_is) some)
    (subst (λ (ds : List Due). IsFirstBy c.args.moment (at ds) (Some c.in-Some.issue)) pairs
    (subst (λ o. IsFirstBy c.args.moment (at c.deadlines.result.now.pairs) o) c.in-Some.is c.least_by.ensures.each))
