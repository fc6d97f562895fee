use Rattle.std.specs.Prelude.{map}
use Rattle.std.specs.List.{AllWithin}
use Rattle.cacao_json.specs.Tree.{data_of}
use Rattle.std.specs.Prelude.{codes}
use Rattle.cacao_book_shape.specs.Shape.{OnType, HasContent}
use Rattle.cacao_book_shape.proofs.contents.keep_contents.Given as goal

abbrev pub invariant-loop-command : goal.invariant-loop-command
invariant-loop-command l = AllWithin (λ c. OnType (codes "openc2-http") (HasContent c) c) (map data_of l.commands) 0 l.command-index
