-- The playbooks so far are those of their trees, and no tree before the one that is read breaks a rule of shape.
use Rattle.std.proofs.Common.{◌≡◌, ◌<◌, ◌∙◌, sym, ap, subst, arith, ℕ, List, length, map, get_or}
use Rattle.std.specs.List.{All}
use Rattle.std.proofs.lemmas.List.{get_or-map, length-map}
use Rattle.std.proofs.lemmas.List.Elements.{All-nil, All-push}
use Rattle.serde_json.specs.Data.{Data}
use Rattle.cacao_json.specs.Tree.{data_of}
use Rattle.cacao_json.specs.declared.tree.Tree.{Tree}
use Rattle.cacao_book.specs.declared.books.Book.{Book}
use Rattle.cacao_book.specs.Books.{book}
use Rattle.cacao_book.specs.Steps.{AreSteps}
use Rattle.cacao_book_shape.proofs.ListLemmas.{made_more}
use Rattle.cacao_check.specs.FirstBreak.{RefusesShapes}
use Rattle.cacao_check.proofs.FirstLemmas.{shaped_none, shaped_more, shaped_all, shape_refused}
use Rattle.cacao_check.proofs.reading.shaped_books.Goals as goal

here : (trees : List Tree) (n : ℕ) (t : Tree) → n < length trees → t ≡ get_or trees n t → data_of t ≡ get_or (map data_of trees) n (data_of t)
here trees n t lt at = ap data_of at ∙ sym (get_or-map data_of trees n t (data_of t) lt)

within : (trees : List Tree) (n : ℕ) → n < length trees → n < length (map data_of trees)
within trees n lt = omega (arith, lt, length-map trees data_of)

pub loop-n-init : goal.loop-n-init
loop-n-init c = record {
  books = c.new-books.ensures;
  steps = subst (All (λ (b : Book). AreSteps b.steps)) (sym c.new-books.ensures) (All-nil (λ (b : Book). AreSteps b.steps));
  shaped = shaped_none (map data_of c.args.trees.now);
}

pub loop-n-preserved : goal.loop-n-preserved
loop-n-preserved c = record {
  books = made_more data_of book c.args.trees.now c.loop-n.n c.index-trees-n.result c.loop-n.books c.push.new.self c.in-Ok.book c.loop-n-test.true c.index-trees-n.is c.loop-n.invariant.books c.in-Ok.ensures.book c.in_ok-push.ensures.ok;
  steps = subst (All (λ (b : Book). AreSteps b.steps)) (sym c.in_ok-push.ensures.ok)
      (All-push (λ (b : Book). AreSteps b.steps) c.loop-n.books c.in-Ok.book c.loop-n.invariant.steps (record { few = c.as_slice.ensures.few; order = c.as_slice.ensures.order; limits = c.as_slice.ensures.limits }));
  shaped = shaped_more (map data_of c.args.trees.now) c.loop-n.n (data_of c.index-trees-n.result) (within c.args.trees.now c.loop-n.n c.loop-n-test.true)
      (here c.args.trees.now c.loop-n.n c.index-trees-n.result c.loop-n-test.true c.index-trees-n.is) c.loop-n.invariant.shaped c.in-Ok.ensures.shaped;
}

pub returns-clause-shaped : goal.returns-clause-shaped
returns-clause-shaped c = shaped_all (map data_of c.args.trees.now) c.loop-n.n (omega (arith, c.loop-n-test.false, length-map c.args.trees.now data_of)) c.loop-n.invariant.shaped

pub returns-in-Err-clause-broken : goal.returns-in-Err-clause-broken
returns-in-Err-clause-broken c =
    let trees : List Data = map data_of c.args.trees.now in
    subst (RefusesShapes trees) (sym c.shape_error.ensures)
    (shape_refused trees c.loop-n.n (data_of c.index-trees-n.result) c.in-Err.error (within c.args.trees.now c.loop-n.n c.loop-n-test.true)
    (here c.args.trees.now c.loop-n.n c.index-trees-n.result c.loop-n-test.true c.index-trees-n.is) c.loop-n.invariant.shaped c.in-Err.ensures.broken)
