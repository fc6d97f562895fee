use Rattle.std.proofs.Common.{◌≡◌, ◌∙◌, ℕ, ◌<◌, List, [], Some, length, map, slice_get, refl, sym, ap, subst, arith}
use Rattle.std.proofs.lemmas.List.{length-map}
use Rattle.std.proofs.lemmas.Option.{none-some, slice_get_read}
use Rattle.cacao_book.specs.Books.{book}
use Rattle.cacao_json.specs.Tree.{data_of}
use Rattle.cacao_view_graph.specs.Drawings.{DrawnBook}
use Rattle.cacao_view_graph.specs.Pictures.{AreDrawn, AreMarked, AreStepsMarked}
use Rattle.cacao_view_graph.specs.Placing.{drawn_book}
use Rattle.cacao_view_graph.specs.declared.placed_book.PlacedBook.{PlacedBook}
use Rattle.cacao_view_graph.proofs.PlacingLemmas.{books_drawn_next, each_next, grown, made_is, made_twice, no_books_drawn}
use Rattle.cacao_view_graph.proofs.placing.placed_books.Goals as goal

pub loop-n-init : goal.loop-n-init
loop-n-init c = record {
  count = ap length c.new-placed.ensures.items;
  drawn = subst (λ (l : List PlacedBook). AreDrawn [] (map drawn_book l)) (sym c.new-placed.ensures.items) no_books_drawn;
  marked = subst (λ (l : List PlacedBook). AreMarked c.args.marks.now (map drawn_book l)) (sym c.new-placed.ensures.items) (λ number d e. absurd (none-some d e));
}

pub placed_book-requires-clause-read : goal.placed_book-requires-clause-read
placed_book-requires-clause-read c =
    made_is data_of book c.args.trees.now c.args.books.now c.loop-n.n c.index-trees-n.result c.index-books-n.result c.requires.read c.loop-n-test.true c.index-trees-n.is c.index-books-n.is

pub placed_book-requires-clause-chart : goal.placed_book-requires-clause-chart
placed_book-requires-clause-chart c =
    let same : c.index-books-n.result ≡ book (data_of c.index-trees-n.result) =
    made_is data_of book c.args.trees.now c.args.books.now c.loop-n.n c.index-trees-n.result c.index-books-n.result c.requires.read c.loop-n-test.true c.index-trees-n.is c.index-books-n.is in
    let here : slice_get c.args.books.now c.loop-n.n ≡ Some c.index-books-n.result =
    made_twice data_of book c.args.trees.now c.args.books.now c.loop-n.n c.index-trees-n.result c.requires.read c.loop-n-test.true c.index-trees-n.is ∙ ap Some (sym same) in
    let count : length c.args.surveys.now ≡ length c.args.trees.now =
    c.requires.surveys.len ∙ ap length c.requires.read ∙ length-map (map data_of c.args.trees.now) book ∙ length-map c.args.trees.now data_of in
    let inside : c.loop-n.n < length c.args.surveys.now = omega (arith, c.loop-n-test.true) in
    let there : slice_get c.args.surveys.now c.loop-n.n ≡ Some c.index-surveys-n.result =
    slice_get_read c.args.surveys.now (length c.args.surveys.now) c.loop-n.n c.index-surveys-n.result refl inside c.index-surveys-n.is in
    (c.requires.surveys.each c.loop-n.n c.index-books-n.result c.index-surveys-n.result here there).chart

pub loop-n-preserved : goal.loop-n-preserved
loop-n-preserved c = record {
  count = grown c.loop-n.placed.items c.push.new.self.items c.in_ok-book.book c.loop-n.n c.loop-n.invariant.count c.in_ok-push.ensures.items;
  drawn = books_drawn_next drawn_book c.args.trees.now c.loop-n.n c.index-trees-n.result c.loop-n.placed.items c.push.new.self.items c.in_ok-book.book c.loop-n-test.true c.index-trees-n.is c.in_ok-push.ensures.items
      c.in_ok-book.ensures.tree c.in_ok-book.ensures.drawn c.loop-n.invariant.drawn;
  marked = each_next (λ (n : ℕ) (d : DrawnBook). AreStepsMarked c.args.marks.now n d.steps) drawn_book c.loop-n.n c.loop-n.placed.items c.push.new.self.items c.in_ok-book.book c.loop-n.invariant.count c.in_ok-push.ensures.items
      c.in_ok-book.ensures.marked c.loop-n.invariant.marked;
}
