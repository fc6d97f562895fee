use Rattle.oc2_msg_targets.proofs.FeatureLemmas.{repeated_stops, one_more}
use Rattle.oc2_msg_targets.proofs.feature_lists.read_items.Goals as goal

pub returns-then-has-clause-value : goal.returns-then-has-clause-value
returns-then-has-clause-value c =
    repeated_stops c.args.items.now c.loop-tree.tree-index c.loop-tree.list c.tree-item.result c.in-Some.feature
    c.loop-tree.invariant c.loop-tree-test.true c.tree-item.is c.in-Some.ensures c.if-has.ensures

pub loop-tree-preserved : goal.loop-tree-preserved
loop-tree-preserved c =
    one_more c.args.items.now c.loop-tree.tree-index c.loop-tree.list c.push.new.self c.tree-item.result c.in-Some.feature
    c.loop-tree.invariant c.loop-tree-test.true c.tree-item.is c.in-Some.ensures c.if-has.ensures c.in_ok-push.ensures.ok
