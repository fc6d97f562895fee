use Rattle.std.proofs.Common.{◌<◌, subst, arith}
use Rattle.cacao_json.specs.Size.{size, items_size, members_size}
use Rattle.flow_core_texts.specs.Contents.{content_data}
use Rattle.flow_core_tables.specs.TableFacts.{lists_of}
use Rattle.flow_core_values.proofs.FillLemmas.{item_within, entry_within}
use Rattle.flow_core_values.proofs.SizeLemmas.{items_taken, object_taken}
use Rattle.flow_core_values.proofs.run.Run.+sizing.Goals as goal

pub take_filled-returns-in-Members :
    goal.take_filled-returns-in-Members
take_filled-returns-in-Members t c =
    rw c.in-Members.is
    (object_taken (lists_of c.args.self.now.tables) c.args.scope c.as_slice.result.now c.in-Members.entries c.args.left.now _ _ _
    c.as_slice.ensures.value c.brackets.ensures c.take-in-Members.ensures c.take_entries.ensures)

pub take_items-take_filled-requires : goal.take_items-take_filled-requires
take_items-take_filled-requires t c = (
  omega (arith, subst (λ ds. size (content_data c.content-item.result) < items_size ds) c.as_slice-contents.ensures (item_within c.as_slice-contents.result.now c.loop-content.content-index c.content-item.result c.loop-content-test.true c.content-item.is)),
  (c.requires.well, c.requires.there),
)

pub take_items-returns : goal.take_items-returns
take_items-returns t c =
    items_taken (lists_of c.args.self.now.tables) c.args.scope c.as_slice-contents.result.now c.args.items.now c.loop-content.content-index c.loop-content.left c.args.left.now _ _
    c.as_slice-contents.ensures c.brackets.ensures c.take.ensures c.loop-content-test.false c.loop-content.invariant

pub take_entries-take_entry-requires : goal.take_entries-take_entry-requires
take_entries-take_entry-requires t c = (
  omega (arith, subst (λ ms. size (content_data c.entry-item.result.content) < members_size ms) c.as_slice-members.ensures.value (entry_within c.as_slice-members.result.now c.loop-entry.entry-index c.entry-item.result c.loop-entry-test.true c.entry-item.is)),
  (c.requires.well, c.requires.there),
)
