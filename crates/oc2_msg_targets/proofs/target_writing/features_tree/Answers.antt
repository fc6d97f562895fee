use Rattle.oc2_msg_targets.specs.declared.features.Feature.TheVariants.{Versions}
use Rattle.oc2_msg_targets.proofs.PutLemmas.{one_feature_more}
use Rattle.oc2_msg_targets.proofs.target_writing.features_tree.Goals as goal

pub loop-feature-preserved : goal.loop-feature-preserved
loop-feature-preserved c =
    one_feature_more c.args.features.now c.loop-feature.feature-index Versions c.loop-feature.items c.push_text.new.items c.word.result.now
    c.loop-feature-test.true c.loop-feature.invariant c.word.ensures c.in_ok-push_text.ensures
