use Rattle.std.proofs.Common.{codes}
use Rattle.serde_json.specs.Find.{get}
use Rattle.cacao_json.specs.Tree.{data_of}
use Rattle.cacao_book_shape.specs.Members.{TextFits}
use Rattle.cacao_book_shape.specs.Shape.{IsArgument}
use Rattle.cacao_book_shape.proofs.ListLemmas.{items_fit}
use Rattle.cacao_book.proofs.step_reading.read_playbook_action.Goals as goal

pub read_arguments-requires : goal.read_arguments-requires
read_arguments-requires c = (items_fit (TextFits IsArgument) 0 64 (get (codes "in_args") (data_of c.args.step.now)) (c.requires.k11 c.requires.action).2).1

pub read_arguments-requires-2 : goal.read_arguments-requires-2
read_arguments-requires-2 c = (items_fit (TextFits IsArgument) 0 64 (get (codes "out_args") (data_of c.args.step.now)) (c.requires.k11 c.requires.action).3).1
