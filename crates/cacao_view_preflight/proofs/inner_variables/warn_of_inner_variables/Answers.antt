-- One playbook more was told.
use Rattle.std.proofs.Common.{◌++◌}
use Rattle.cacao_view_preflight.specs.Warnings.{each, of_inner_variables}
use Rattle.cacao_view_preflight.proofs.EachLemmas.{each_all, each_next}
use Rattle.cacao_view_preflight.proofs.inner_variables.warn_of_inner_variables.Goals as goal

pub loop-n-preserved : goal.loop-n-preserved
loop-n-preserved c =
    each_next of_inner_variables c.args.books.now c.loop-n.n c.index-books-n.result c.loop-n.lines c.add_book.new.lines (c.args.lines.now ++ each of_inner_variables 0 c.args.books.now)
    c.loop-n-test.true c.index-books-n.is c.in_ok-add_book.ensures c.loop-n.invariant

pub returns : goal.returns
returns c = each_all of_inner_variables c.args.books.now c.loop-n.n c.loop-n.lines (c.args.lines.now ++ each of_inner_variables 0 c.args.books.now) c.loop-n-test.false c.loop-n.invariant
