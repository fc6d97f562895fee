use Rattle.std.proofs.Common.{◌∙◌, ap, filter_map}
use Rattle.std.proofs.lemmas.List.{take_all}
use Rattle.cacao_check_steps.specs.declared.parts.Parts.{Parts}
use Rattle.cacao_check_regions.proofs.LeadLemmas.{given_more, calls_of_book}
use Rattle.cacao_check_regions.proofs.leading.call_row.Goals as goal

pub loop-part-preserved : goal.loop-part-preserved
loop-part-preserved c =
    given_more (λ (part : Parts). part.called) c.args.parts.now c.loop-part.part-index c.part-item.result c.loop-part.row _ c.loop-part-test.true c.part-item.is c.loop-part.invariant c.in_ok-add_call.ensures

pub returns : goal.returns
returns c =
    calls_of_book c.args.books.now c.args.book.now c.args.parts.now c.loop-part.row c.requires
    (c.loop-part.invariant ∙ ap (filter_map (λ (part : Parts). part.called)) (take_all c.loop-part.part-index c.args.parts.now c.loop-part-test.false))
