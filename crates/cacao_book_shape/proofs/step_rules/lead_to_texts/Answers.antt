use Rattle.std.proofs.Common.{refl, sym, ◌∙◌, arith}
use Rattle.std.proofs.lemmas.Bool.{false≢true}
use Rattle.cacao_json.specs.Tree.{pair_data}
use Rattle.cacao_book_shape.specs.Members.{IsText}
use Rattle.cacao_book_shape.proofs.ListLemmas.{fits_more, fits_all, fits_at}
use Rattle.cacao_book_shape.proofs.step_rules.lead_to_texts.Goals as goal

pub returns-then-not-is_text : goal.returns-then-not-is_text
returns-then-not-is_text c = (
  λ e. absurd (false≢true e),
  λ all. absurd (false≢true (sym c.if-not-is_text.true ∙ c.is_text.ensures.1 (fits_at pair_data (λ m. IsText m.1) c.args.cases.now c.loop-case.case-index c.case-item.result c.loop-case-test.true c.case-item.is all))),
)

pub loop-case-preserved : goal.loop-case-preserved
loop-case-preserved c = fits_more pair_data (λ m. IsText m.1) c.args.cases.now c.loop-case.case-index c.case-item.result c.loop-case-test.true c.case-item.is c.loop-case.invariant (c.is_text.ensures.0 c.if-not-is_text.false)

pub returns : goal.returns
returns c = (λ _. fits_all pair_data (λ m. IsText m.1) c.args.cases.now c.loop-case.case-index (omega arith) c.loop-case.invariant, λ _. refl)
