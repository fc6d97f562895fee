-- The report of the records was said.
use Rattle.std.proofs.Common.{refl}
use Rattle.cacao_cli_ends.specs.Told.{end_of}
use Rattle.cacao_view.proofs.program.say_file_log.Goals as goal

pub returns-clause-looks : goal.returns-clause-looks
returns-clause-looks g c = record {
  lines = c.log_file-report.result.lines;
  end = end_of c.log_file-report.result.end;
  told = c.log_file-report.ensures.logs;
  left = end_of c.say-end.result;
  says = c.say-end.ensures;
  ends = refl;
}
