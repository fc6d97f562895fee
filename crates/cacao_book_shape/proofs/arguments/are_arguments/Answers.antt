use Rattle.std.proofs.Common.{refl, sym, ◌∙◌, arith}
use Rattle.std.proofs.lemmas.Bool.{false≢true}
use Rattle.cacao_json.specs.Tree.{data_of}
use Rattle.cacao_book_shape.specs.Members.{TextFits}
use Rattle.cacao_book_shape.specs.Shape.{IsArgument}
use Rattle.cacao_book_shape.proofs.ListLemmas.{fits_more, fits_all, fits_at}
use Rattle.cacao_book_shape.proofs.arguments.are_arguments.Goals as goal

pub returns-then-not-is_argument_text : goal.returns-then-not-is_argument_text
returns-then-not-is_argument_text c = (
  λ e. absurd (false≢true e),
  λ all. absurd (false≢true (sym c.if-not-is_argument_text.true ∙ c.is_argument_text.ensures.1 (fits_at data_of (TextFits IsArgument) c.args.items.now c.loop-item.item-index c.item-item.result c.loop-item-test.true c.item-item.is all))),
)

pub loop-item-preserved : goal.loop-item-preserved
loop-item-preserved c = fits_more data_of (TextFits IsArgument) c.args.items.now c.loop-item.item-index c.item-item.result c.loop-item-test.true c.item-item.is c.loop-item.invariant (c.is_argument_text.ensures.0 c.if-not-is_argument_text.false)

pub returns : goal.returns
returns c = (λ _. fits_all data_of (TextFits IsArgument) c.args.items.now c.loop-item.item-index (omega arith) c.loop-item.invariant, λ _. refl)
