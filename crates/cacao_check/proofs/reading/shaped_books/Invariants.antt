use Rattle.std.proofs.Common.{◌≡◌, map, take}
use Rattle.std.specs.List.{All}
use Rattle.cacao_book.specs.Books.{book}
use Rattle.cacao_book.specs.Steps.{AreSteps}
use Rattle.cacao_json.specs.Tree.{data_of}
use Rattle.cacao_check.specs.FirstBreak.{AreShapedBefore}
use Rattle.cacao_check.proofs.reading.shaped_books.Given as goal

abbrev pub invariant-loop-n : goal.invariant-loop-n
invariant-loop-n l = record {
  books : l.books ≡ map book (map data_of (take l.n l.fn.trees));
  steps : All (λ one. AreSteps one.steps) l.books;
  shaped : AreShapedBefore (map data_of l.fn.trees) l.n;
}
