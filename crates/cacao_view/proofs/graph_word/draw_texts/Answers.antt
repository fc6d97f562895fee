-- The trees of the texts are read, and then they are judged.
use Rattle.std.proofs.Common.{◌≡◌, ◌⊎◌, sym, ap, subst, arith, List, length, map, Err}
use Rattle.std.proofs.lemmas.List.{length-map}
use Rattle.serde_json.specs.Data.{Data}
use Rattle.cacao_json.specs.Tree.{data_of}
use Rattle.cacao_json.specs.declared.tree.Tree.{Tree}
use Rattle.cacao_cli_ends.specs.Ends.{End, no_memory}
use Rattle.cacao_cli_ends.specs.Files.{NamedText}
use Rattle.cacao_cli_ends.specs.Told.{end_of}
use Rattle.cacao_cli_ends.specs.Work.{trees_of}
use Rattle.cacao_cli_ends.proofs.TreeLemmas.{trees-length}
use Rattle.cacao_cli_looks.specs.Command.{text_of}
use Rattle.cacao_view.specs.Drawing.{DrawsTrees}
use Rattle.cacao_view.proofs.DrawingLemmas.{draws-drawn, draws-treeless}
use Rattle.cacao_view.proofs.graph_word.draw_texts.Goals as goal

pub returns-in-Err : goal.returns-in-Err
returns-in-Err c =
    let texts : List NamedText = map text_of c.args.texts.now in
    draws-treeless texts c.ending.result.lines (end_of c.ending.result.end) c.ending.ensures.lines
    (subst (λ (e : End). (trees_of texts ≡ Err e) ⊎ (e ≡ no_memory)) (sym c.ending.ensures.end) c.in-Err.ensures)

pub returns-in-Ok : goal.returns-in-Ok
returns-in-Ok c =
    let texts : List NamedText = map text_of c.args.texts.now in
    let roots : List Data = map data_of c.in-Ok.trees.items in
    draws-drawn texts roots c.draw_trees.result.lines (end_of c.draw_trees.result.end) c.in-Ok.ensures
    (subst (λ (l : List Tree). DrawsTrees (map data_of l) c.draw_trees.result.lines (end_of c.draw_trees.result.end)) c.as_slice.ensures.value c.draw_trees.ensures)

pub draw_trees-requires-clause-few : goal.draw_trees-requires-clause-few
draw_trees-requires-clause-few c =
    omega (arith, trees-length (map text_of c.args.texts.now) (map data_of c.in-Ok.trees.items) c.in-Ok.ensures, length-map c.in-Ok.trees.items data_of, length-map c.args.texts.now text_of, ap length c.as_slice.ensures.value, c.requires.few)

pub draw_trees-requires-clause-some : goal.draw_trees-requires-clause-some
draw_trees-requires-clause-some c =
    omega (arith, trees-length (map text_of c.args.texts.now) (map data_of c.in-Ok.trees.items) c.in-Ok.ensures, length-map c.in-Ok.trees.items data_of, length-map c.args.texts.now text_of, ap length c.as_slice.ensures.value, c.requires.some)
