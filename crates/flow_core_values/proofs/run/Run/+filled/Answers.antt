use Rattle.std.proofs.Common.{◌<◌, sym, ap, subst, ◌∙◌, arith}
use Rattle.cacao_json.specs.Size.{size, items_size, members_size}
use Rattle.flow_core_texts.specs.Contents.{content_data}
use Rattle.cacao_json.specs.Profile.{AreSortedMembers}
use Rattle.flow_core_rules.specs.Filled.{filled_items, filled_members}
use Rattle.flow_core_tables.specs.TableFacts.{lists_of}
use Rattle.flow_core_values.proofs.FillLemmas.{items_done, members_more, members_done, item_within, entry_within}
use Rattle.flow_core_values.proofs.run.Run.+filled.Goals as goal

pub filled_items-filled-requires : goal.filled_items-filled-requires
filled_items-filled-requires t c = (
  omega (arith, subst (λ ds. size (content_data c.content-item.result) < items_size ds) c.as_slice-contents.ensures (item_within c.as_slice-contents.result.now c.loop-content.content-index c.content-item.result c.loop-content-test.true c.content-item.is)),
  (c.requires.well, c.requires.there),
)

pub filled_items-returns : goal.filled_items-returns
filled_items-returns t c =
    c.from_vec.ensures
    ∙ items_done (lists_of c.args.self.now.tables) c.args.scope c.as_slice-contents.result.now c.loop-content.made.items c.loop-content.content-index c.loop-content-test.false c.loop-content.invariant
    ∙ ap (filled_items (lists_of c.args.self.now.tables) c.args.scope) c.as_slice-contents.ensures

pub filled_pairs-filled-requires : goal.filled_pairs-filled-requires
filled_pairs-filled-requires t c = (
  omega (arith, subst (λ ms. size (content_data c.entry-item.result.content) < members_size ms) c.as_slice-members.ensures.value (entry_within c.as_slice-members.result.now c.loop-entry.entry-index c.entry-item.result c.loop-entry-test.true c.entry-item.is)),
  (c.requires.well, c.requires.there),
)

pub filled_pairs-loop-entry-preserved : goal.filled_pairs-loop-entry-preserved
filled_pairs-loop-entry-preserved t c =
    members_more (lists_of c.args.self.now.tables) c.args.scope c.as_slice-members.result.now c.loop-entry.made _ c.loop-entry.entry-index c.entry-item.result _ _
    (subst AreSortedMembers (sym c.as_slice-members.ensures.value) c.as_slice-members.ensures.sorted)
    c.loop-entry-test.true c.entry-item.is c.in_ok-name.ensures.cases c.in_ok-tree.ensures c.in_ok-put.ensures c.loop-entry.invariant

pub filled_pairs-returns : goal.filled_pairs-returns
filled_pairs-returns t c =
    members_done (lists_of c.args.self.now.tables) c.args.scope c.as_slice-members.result.now c.loop-entry.made c.loop-entry.entry-index c.loop-entry-test.false c.loop-entry.invariant
    ∙ ap (filled_members (lists_of c.args.self.now.tables) c.args.scope) c.as_slice-members.ensures.value
