-- There are as many trees as texts; and each line is one.
use Rattle.std.proofs.Common.{◌≡◌, ◌∙◌, arith, sym, ap, List, length, map, Ok}
use Rattle.std.proofs.lemmas.List.{length-map}
use Rattle.cacao_json.specs.Tree.{data_of}
use Rattle.cacao_json.specs.declared.tree.Tree.{Tree}
use Rattle.cacao_cli_ends.proofs.TreeLemmas.{trees-length}
use Rattle.cacao_cli_ends.specs.Told.{end_of}
use Rattle.cacao_cli_looks.specs.Command.{text_of}
use Rattle.cacao_view_explain.proofs.EndLemmas.{trees_tell}
use Rattle.cacao_view_explain.proofs.explaining.explain.Goals as goal

pub judge-end-requires-clause-some : goal.judge-end-requires-clause-some
judge-end-requires-clause-some c =
    omega (
      arith,
      c.requires.some,
      trees-length (map text_of c.args.texts.now) (map data_of c.in-Ok.trees.items) c.in-Ok.ensures,
      length-map c.in-Ok.trees.items data_of,
      length-map c.args.texts.now text_of,
      ap length c.as_slice-roots.ensures.value,
    )

pub judge-end-requires-clause-few : goal.judge-end-requires-clause-few
judge-end-requires-clause-few c =
    omega (
      arith,
      c.requires.few,
      trees-length (map text_of c.args.texts.now) (map data_of c.in-Ok.trees.items) c.in-Ok.ensures,
      length-map c.in-Ok.trees.items data_of,
      length-map c.args.texts.now text_of,
      ap length c.as_slice-roots.ensures.value,
    )

pub returns-in-Ok-clause-told : goal.returns-in-Ok-clause-told
returns-in-Ok-clause-told c =
    let same : c.as_slice-roots.result.now ≡ c.in-Ok.trees.items = c.as_slice-roots.ensures.value in
    trees_tell (map text_of c.args.texts.now) (map data_of c.as_slice-roots.result.now) c.judged.result.lines (end_of c.judged.result.end)
    (c.in-Ok.ensures ∙ ap (λ (trees : List Tree). Ok (map data_of trees)) (sym same)) c.judged.ensures.end c.judged.ensures.told
