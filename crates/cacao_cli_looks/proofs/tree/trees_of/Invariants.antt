use Rattle.std.proofs.Common.{◌≡◌, map, take, Ok}
use Rattle.cacao_json.specs.Tree.{data_of}
use Rattle.cacao_cli_looks.specs.Command.{text_of}
use Rattle.cacao_cli_ends.specs.Work.{trees_of}
use Rattle.cacao_cli_looks.proofs.tree.trees_of.Given as goal

abbrev pub invariant-loop-text : goal.invariant-loop-text
invariant-loop-text l = trees_of (map text_of (take l.text-index l.fn.texts)) ≡ Ok (map data_of l.trees.items)
