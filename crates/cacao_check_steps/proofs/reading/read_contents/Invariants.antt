use Rattle.std.proofs.Common.{◌≡◌, map, option_map, take}
use Rattle.cacao_json.specs.Tree.{data_of}
use Rattle.cacao_check_steps.specs.Uses.{content_tree}
use Rattle.cacao_check_steps.proofs.reading.read_contents.Given as goal

abbrev pub invariant-loop-command : goal.invariant-loop-command
invariant-loop-command l = map (option_map data_of) l.trees.items ≡ map content_tree (take l.command-index l.commands)
