use Rattle.std.proofs.Common.{refl, sym, ◌∙◌, arith}
use Rattle.std.proofs.lemmas.Bool.{false≢true}
use Rattle.cacao_json.specs.Tree.{data_of}
use Rattle.std.specs.Prelude.{codes}
use Rattle.cacao_book_shape.specs.Members.{Has, IsText}
use Rattle.cacao_book_shape.proofs.ListLemmas.{fits_more, fits_all, fits_at}
use Rattle.cacao_book_shape.proofs.contents.have_types.Goals as goal

pub returns-then-not-has_some_text : goal.returns-then-not-has_some_text
returns-then-not-has_some_text c = (
  λ e. absurd (false≢true e),
  λ all. absurd (false≢true (sym c.if-not-has_some_text.true ∙ c.has_some_text.ensures.1 (fits_at data_of (Has (codes "type") IsText) c.args.items.now c.loop-item.item-index c.item-item.result c.loop-item-test.true c.item-item.is all))),
)

pub loop-item-preserved : goal.loop-item-preserved
loop-item-preserved c = fits_more data_of (Has (codes "type") IsText) c.args.items.now c.loop-item.item-index c.item-item.result c.loop-item-test.true c.item-item.is c.loop-item.invariant (c.has_some_text.ensures.0 c.if-not-has_some_text.false)

pub returns : goal.returns
returns c = (λ _. fits_all data_of (Has (codes "type") IsText) c.args.items.now c.loop-item.item-index (omega arith) c.loop-item.invariant, λ _. refl)
