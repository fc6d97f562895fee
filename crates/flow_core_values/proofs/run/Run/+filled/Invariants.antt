use Rattle.cacao_json.specs.Size.{size, items_size, members_size}
use Rattle.flow_core_texts.specs.Contents.{content_data}
use Rattle.flow_core_tables.specs.TableFacts.{lists_of}
use Rattle.flow_core_values.proofs.FillLemmas.{AreFilled, MembersFilled}
use Rattle.flow_core_values.proofs.run.Run.+filled.Given as goal

abbrev pub invariant-filled_items-loop-content : goal.invariant-filled_items-loop-content
invariant-filled_items-loop-content l = AreFilled (lists_of l.self.tables) l.scope l.contents l.made.items l.content-index

abbrev pub invariant-filled_pairs-loop-entry : goal.invariant-filled_pairs-loop-entry
invariant-filled_pairs-loop-entry l = MembersFilled (lists_of l.self.tables) l.scope l.members l.made l.entry-index

abbrev pub decreases-filled : goal.decreases-filled
decreases-filled l = size (content_data l.content.now)

abbrev pub decreases-filled_items : goal.decreases-filled_items
decreases-filled_items l = items_size l.items.now

abbrev pub decreases-filled_pairs : goal.decreases-filled_pairs
decreases-filled_pairs l = members_size l.entries.now
