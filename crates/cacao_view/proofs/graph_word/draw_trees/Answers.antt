-- The playbooks were judged.
use Rattle.std.proofs.Common.{map}
use Rattle.cacao_json.specs.Tree.{data_of}
use Rattle.cacao_cli_ends.specs.Told.{end_of}
use Rattle.cacao_view.proofs.DrawingLemmas.{judged-accepted, judged-other}
use Rattle.cacao_view.proofs.graph_word.draw_trees.Goals as goal

pub draw_accepted-requires-clause-accepted : goal.draw_accepted-requires-clause-accepted
draw_accepted-requires-clause-accepted c = judged-accepted (map data_of c.args.trees.now) (end_of c.judge-end.result) c.judge-end.ensures (c.is_accepted.ensures.yes c.if-is_accepted.true)

pub returns : goal.returns
returns c = judged-other (map data_of c.args.trees.now) c.ending.result.lines (end_of c.judge-end.result) (end_of c.ending.result.end) c.judge-end.ensures (c.is_accepted.ensures.no c.if-is_accepted.false) c.ending.ensures.lines c.ending.ensures.end
