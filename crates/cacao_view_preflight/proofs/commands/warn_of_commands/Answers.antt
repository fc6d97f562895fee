use Rattle.std.proofs.Common.{◌++◌, ℕ, List}
use Rattle.cacao_book.specs.declared.books.Book.{Book}
use Rattle.cacao_view_preflight.specs.Warnings.{Text, each, of_book_commands}
use Rattle.cacao_view_preflight.proofs.EachLemmas.{each_all, each_next}
use Rattle.cacao_view_preflight.proofs.commands.warn_of_commands.Goals as goal

pub loop-n-preserved : goal.loop-n-preserved
loop-n-preserved c =
    let make : ℕ → Book → List Text = of_book_commands in
    each_next make c.args.books.now c.loop-n.n c.index-books-n.result c.loop-n.lines c.add_book.new.lines (c.args.lines.now ++ each make 0 c.args.books.now)
    c.loop-n-test.true c.index-books-n.is c.in_ok-add_book.ensures c.loop-n.invariant

pub returns : goal.returns
returns c =
    let make : ℕ → Book → List Text = of_book_commands in
    each_all make c.args.books.now c.loop-n.n c.loop-n.lines (c.args.lines.now ++ each make 0 c.args.books.now) c.loop-n-test.false c.loop-n.invariant
