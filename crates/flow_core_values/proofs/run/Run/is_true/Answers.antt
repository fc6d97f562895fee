use Rattle.std.proofs.Common.{◌≡◌, Some, ◌∙◌}
use Rattle.cacao_cond.specs.Trees.{tree_of}
use Rattle.flow_core_values.specs.Sights.{lists_seen, scope_seen}
use Rattle.flow_core_values.specs.Truths.{condition_in}
use Rattle.flow_core_values.proofs.TruthLemmas.{condition_here, holds_here}
use Rattle.flow_core_values.proofs.run.Run.is_true.Goals as goal

pub returns : goal.returns
returns c =
    let r = c.args.self.now in
    let stand = c.args.stand in
    let tree = tree_of c.in-Some.cond.now in
    let is : Some tree ≡ condition_in stand.step.now.kind =
    condition_here r.setup stand.task.book stand.task.step stand.step.now tree c.requires.stands c.in-Some.ensures in
    c.truth.ensures
    ∙ holds_here (lists_seen r c.args.sight) (scope_seen r c.args.sight) tree (condition_in stand.step.now.kind) is
