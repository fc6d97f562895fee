use Rattle.std.proofs.Common.{◌≡◌, map, take}
use Rattle.cacao_json.specs.Tree.{data_of}
use Rattle.oc2_msg_targets.specs.Parts.{whole_data}
use Rattle.cacao_view_log.proofs.members.bytes_tree.Given as goal

abbrev pub invariant-loop-byte : goal.invariant-loop-byte
invariant-loop-byte l = map data_of l.trees.items ≡ map whole_data (take l.byte-index l.bytes)
