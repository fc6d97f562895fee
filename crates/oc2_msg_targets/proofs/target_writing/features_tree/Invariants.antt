use Rattle.std.proofs.Common.{◌≡◌, map, take}
use Rattle.oc2_msg_targets.specs.Parts.{texts}
use Rattle.oc2_msg_targets.specs.Words.{feature_word}
use Rattle.oc2_msg_targets.proofs.target_writing.features_tree.Given as goal

abbrev pub invariant-loop-feature : goal.invariant-loop-feature
invariant-loop-feature l = l.items ≡ texts (map feature_word (take l.feature-index l.features))
