use Rattle.std.proofs.Common.{◌≡◌, map, take}
use Rattle.cacao_json.specs.Tree.{data_of}
use Rattle.cacao_book.specs.Books.{command_of}
use Rattle.cacao_book.proofs.contents.read_commands.Given as goal

abbrev pub invariant-loop-item : goal.invariant-loop-item
invariant-loop-item l = l.commands.items ≡ map command_of (map data_of (take l.item-index l.item-items))
