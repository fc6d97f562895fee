-- The report of the picture was said.
use Rattle.std.proofs.Common.{refl}
use Rattle.cacao_cli_ends.specs.Told.{end_of}
use Rattle.cacao_view.proofs.program.say_graph.Goals as goal

pub returns-clause-looks : goal.returns-clause-looks
returns-clause-looks g c = record {
  lines = c.graph-report.result.lines;
  end = end_of c.graph-report.result.end;
  told = c.graph-report.ensures.draws;
  left = end_of c.say-end.result;
  says = c.say-end.ensures;
  ends = refl;
}
