use Rattle.std.proofs.Common.{◌∙◌, ap, map}
use Rattle.cacao_check_steps.specs.declared.parts.Parts.{Parts}
use Rattle.cacao_check_regions.specs.Charts.{next_row}
use Rattle.cacao_check_regions.proofs.PartLemmas.{next_read, heads_read}
use Rattle.cacao_check_regions.proofs.surveys.survey_book.Goals as goal

pub chart_of-requires-clause-next : goal.chart_of-requires-clause-next
chart_of-requires-clause-next c = ap (map next_row) c.as_slice.ensures.value ∙ next_read c.args.books.now c.args.book.now c.in_ok-parts.parts.items c.in_ok-parts.ensures

pub chart_of-requires-clause-heads : goal.chart_of-requires-clause-heads
chart_of-requires-clause-heads c = ap (map (λ (one : Parts). one.heads)) c.as_slice.ensures.value ∙ heads_read c.args.books.now c.args.book.now c.in_ok-parts.parts.items c.in_ok-parts.ensures
