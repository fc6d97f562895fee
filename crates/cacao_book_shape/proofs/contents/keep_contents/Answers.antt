use Rattle.std.proofs.Common.{refl, sym, ◌∙◌, arith}
use Rattle.std.proofs.lemmas.Bool.{false≢true}
use Rattle.cacao_json.specs.Tree.{data_of}
use Rattle.std.specs.Prelude.{codes}
use Rattle.cacao_book_shape.specs.Shape.{OnType, HasContent}
use Rattle.cacao_book_shape.proofs.ListLemmas.{fits_more, fits_all, fits_at}
use Rattle.cacao_book_shape.proofs.contents.keep_contents.Goals as goal

pub returns-then-not-branch : goal.returns-then-not-branch
returns-then-not-branch c = (
  λ e. absurd (false≢true e),
  λ all. absurd (false≢true (sym c.if-not-branch.true ∙ c.in_ok-keeps_content.ensures.1 (fits_at data_of (λ c. OnType (codes "openc2-http") (HasContent c) c) c.args.commands.now c.loop-command.command-index c.command-item.result c.loop-command-test.true c.command-item.is all))),
)

pub loop-command-preserved : goal.loop-command-preserved
loop-command-preserved c = fits_more data_of (λ c. OnType (codes "openc2-http") (HasContent c) c) c.args.commands.now c.loop-command.command-index c.command-item.result c.loop-command-test.true c.command-item.is c.loop-command.invariant (c.in_ok-keeps_content.ensures.0 c.if-not-branch.false)

pub returns : goal.returns
returns c = (λ _. fits_all data_of (λ c. OnType (codes "openc2-http") (HasContent c) c) c.args.commands.now c.loop-command.command-index (omega arith) c.loop-command.invariant, λ _. refl)
