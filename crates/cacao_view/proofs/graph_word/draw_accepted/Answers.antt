-- The picture was made, or memory was wanted for it.
use Rattle.std.proofs.Common.{inr, map}
use Rattle.cacao_check.specs.declared.breaks.Mode.TheVariants.{Read}
use Rattle.cacao_json.specs.Tree.{data_of}
use Rattle.cacao_view.proofs.DrawingLemmas.{shaped}
use Rattle.cacao_view.proofs.graph_word.draw_accepted.Goals as goal

pub picture-requires-clause-shaped : goal.picture-requires-clause-shaped
picture-requires-clause-shaped c = shaped (map data_of c.args.trees.now) Read c.requires.accepted

pub returns-in-Err : goal.returns-in-Err
returns-in-Err c = inr (c.ending.ensures.lines, c.ending.ensures.end)
