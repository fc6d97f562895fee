-- The report of the first break was said.
use Rattle.std.proofs.Common.{refl}
use Rattle.cacao_cli_ends.specs.Told.{end_of}
use Rattle.cacao_view.proofs.program.say_break.Goals as goal

pub returns-clause-looks : goal.returns-clause-looks
returns-clause-looks g c = record {
  lines = c.explain_books-report.result.lines;
  end = end_of c.explain_books-report.result.end;
  told = c.explain_books-report.ensures.told;
  left = end_of c.say-end.result;
  says = c.say-end.ensures;
  ends = refl;
}
