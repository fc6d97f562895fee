use Rattle.std.proofs.Common.{◌≡◌, ◌+◌, ◌*◌, ◌-◌, drop}
use Rattle.cacao_json.specs.Size.{size, items_size, members_size}
use Rattle.flow_core_texts.specs.Contents.{content_data}
use Rattle.flow_core_tables.specs.TableFacts.{lists_of}
use Rattle.flow_core_values.proofs.SizeLemmas.{trees_bytes, pairs_bytes}
use Rattle.flow_core_values.proofs.run.Run.+sizing.Given as goal

abbrev pub invariant-take_items-loop-content : goal.invariant-take_items-loop-content
invariant-take_items-loop-content l =
    l.left - trees_bytes (lists_of l.self.tables) l.scope (drop l.content-index l.contents) ≡ l.initial.left - trees_bytes (lists_of l.self.tables) l.scope l.contents

abbrev pub invariant-take_entries-loop-entry : goal.invariant-take_entries-loop-entry
invariant-take_entries-loop-entry l =
    l.left - pairs_bytes (lists_of l.self.tables) l.scope l.setting (drop l.entry-index l.members) ≡ l.initial.left - pairs_bytes (lists_of l.self.tables) l.scope l.setting l.members

abbrev pub decreases-take_filled : goal.decreases-take_filled
decreases-take_filled l = 2 * size (content_data l.content.now)

abbrev pub decreases-take_items : goal.decreases-take_items
decreases-take_items l = 2 * items_size l.items.now

abbrev pub decreases-take_entry : goal.decreases-take_entry
decreases-take_entry l = 2 * size (content_data l.entry.now.content) + 1

abbrev pub decreases-take_entries : goal.decreases-take_entries
decreases-take_entries l = 2 * members_size l.entries.now
