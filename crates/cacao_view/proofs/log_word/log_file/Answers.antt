-- The file was read, or gave no bytes.
use Rattle.std.proofs.Common.{subst, [], ◌∷◌, Ok, Err, List, ℕ}
use Rattle.cacao_cli_ends.specs.Told.{end_of}
use Rattle.cacao_cli_ends.specs.Files.{named}
use Rattle.cacao_view.specs.Logging.{LogsImage}
use Rattle.cacao_view.proofs.log_word.log_file.Goals as goal

pub returns-in-Ok-clause-logs : goal.returns-in-Ok-clause-logs
returns-in-Ok-clause-logs g c = record {
  read = Ok (named c.args.name.now c.in-Ok.bytes ∷ []);
  reads = c.in-Ok.ensures.reads;
  logs = subst (λ (image : List ℕ). LogsImage c.args.form image c.log_image.result.lines (end_of c.log_image.result.end)) c.as_slice.ensures c.log_image.ensures;
}

pub returns-in-Err-clause-logs : goal.returns-in-Err-clause-logs
returns-in-Err-clause-logs g c = record {
  read = Err (end_of c.in-Err.end);
  reads = c.in-Err.ensures.reads;
  logs = (c.ending.ensures.lines, c.ending.ensures.end);
}
