use Rattle.std.proofs.Common.{◌≡◌, map, take, length}
use Rattle.cacao_cli_words.specs.Commands.{filter_of}
use Rattle.cacao_cli_looks.proofs.RunFileLemmas.{IsRunSoFar}
use Rattle.cacao_cli_looks.proofs.audit_command.read_run.Given as goal

abbrev pub invariant-loop-file : goal.invariant-loop-file
invariant-loop-file g l = record {
  so_far : IsRunSoFar (g.L.Shelf.told l.fn.shelf) l.fn.engine (map filter_of (take l.file-index l.fn.filters)) l.files.items (g.L.Shelf.reads l.fn.shelf) (g.L.Shelf.reads l.shelf);
  told : g.L.Shelf.told l.shelf ≡ g.L.Shelf.told l.fn.shelf;
  faults : g.L.Shelf.faults l.shelf ≡ g.L.Shelf.faults l.fn.shelf;
  long : length l.files.items ≡ 17;
}
