use Rattle.std.proofs.Common.{codes}
use Rattle.serde_json.specs.Find.{get}
use Rattle.cacao_json.specs.Tree.{data_of}
use Rattle.cacao_book_shape.specs.Members.{TextFits}
use Rattle.cacao_book_shape.specs.Shape.{IsArgument, OnType, HasContent}
use Rattle.cacao_book_shape.proofs.ListLemmas.{items_fit, items_each}
use Rattle.cacao_book.proofs.step_reading.read_action.Goals as goal

pub read_commands-requires : goal.read_commands-requires
read_commands-requires c =
    items_each (λ d. OnType (codes "openc2-http") (HasContent d) d) (get (codes "commands") (data_of c.args.step.now)) (c.requires.k10 c.requires.action)

pub read_arguments-requires : goal.read_arguments-requires
read_arguments-requires c = (items_fit (TextFits IsArgument) 0 64 (get (codes "in_args") (data_of c.args.step.now)) (c.requires.k9 c.requires.action).3).1

pub read_arguments-requires-2 : goal.read_arguments-requires-2
read_arguments-requires-2 c = (items_fit (TextFits IsArgument) 0 3 (get (codes "out_args") (data_of c.args.step.now)) (c.requires.k9 c.requires.action).4).1
