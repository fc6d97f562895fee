-- One playbook more was told.
use Rattle.std.proofs.Common.{◌++◌, refl}
use Rattle.cacao_view_preflight.specs.Warnings.{each, of_book_variables}
use Rattle.cacao_view_preflight.proofs.EachLemmas.{each_all, each_next}
use Rattle.cacao_view_preflight.proofs.variables.warn_of_variables.Goals as goal

pub loop-n-init : goal.loop-n-init
loop-n-init c = λ all just. refl

pub loop-n-preserved : goal.loop-n-preserved
loop-n-preserved c = λ all just.
    each_next (of_book_variables all c.args.books.now) c.args.books.now c.loop-n.n c.index-books-n.result c.loop-n.lines c.add_book.new.lines (c.args.lines.now ++ each (of_book_variables all c.args.books.now) 0 c.args.books.now)
    c.loop-n-test.true c.index-books-n.is (c.in_ok-add_book.ensures all just) (c.loop-n.invariant all just)

pub returns : goal.returns
returns c = λ all just.
    each_all (of_book_variables all c.args.books.now) c.args.books.now c.loop-n.n c.loop-n.lines (c.args.lines.now ++ each (of_book_variables all c.args.books.now) 0 c.args.books.now) c.loop-n-test.false (c.loop-n.invariant all just)
