use Rattle.cacao_json.specs.Size.{size, items_size, members_size}
use Rattle.cacao_json.specs.Tree.{data_of, pair_data}
use Rattle.flow_core_texts.specs.Contents.{content_data, entry_data}
use Rattle.flow_core_texts.proofs.ContentLemmas.{AreRead}
use Rattle.flow_core_texts.proofs.contents.+reading.Given as goal

abbrev pub invariant-read_contents-loop-tree : goal.invariant-read_contents-loop-tree
invariant-read_contents-loop-tree l = AreRead data_of content_data l.trees l.read.items l.tree-index

abbrev pub invariant-read_entries-loop-pair : goal.invariant-read_entries-loop-pair
invariant-read_entries-loop-pair l = AreRead pair_data entry_data l.members l.read.items l.pair-index

abbrev pub decreases-read_content : goal.decreases-read_content
decreases-read_content l = size (data_of l.tree.now)

abbrev pub decreases-read_contents : goal.decreases-read_contents
decreases-read_contents l = items_size l.items.now

abbrev pub decreases-read_entries : goal.decreases-read_entries
decreases-read_entries l = members_size l.pairs.now
