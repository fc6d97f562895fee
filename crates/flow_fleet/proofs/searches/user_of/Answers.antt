use Rattle.std.proofs.Common.{◌∙◌, ap, arith}
use Rattle.flow_core_rules.specs.State.{Shown}
use Rattle.flow_fleet.proofs.SearchLemmas.{used_by}
use Rattle.flow_fleet.proofs.searches.user_of.Goals as goal

pub returns : goal.returns
returns c =
    used_by c.args.filters.now c.args.engine.now c.count.result c.run.result c.first_with_run.result c.count.ensures (omega (arith, c.if-count-ne0.false))
    (c.run.ensures ∙ ap (λ (s : Shown). s.run) c.flow.ensures.seen) c.first_with_run.ensures
