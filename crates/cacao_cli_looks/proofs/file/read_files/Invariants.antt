use Rattle.std.proofs.Common.{◌≡◌, map, take, length}
use Rattle.cacao_cli_looks.specs.Command.{text_of}
use Rattle.cacao_cli_ends.specs.Files.{Counts, book_file}
use Rattle.cacao_cli_ends.proofs.ReadLemmas.{GivesAll}
use Rattle.cacao_cli_looks.proofs.file.read_files.Given as goal

abbrev pub invariant-loop-name : goal.invariant-loop-name
invariant-loop-name g l = record {
  given : GivesAll (g.L.Shelf.told l.fn.shelf) (map (λ name. book_file name.now) (take l.name-index l.fn.names)) (map text_of l.texts.items);
  told : g.L.Shelf.told l.shelf ≡ g.L.Shelf.told l.fn.shelf;
  faults : g.L.Shelf.faults l.shelf ≡ g.L.Shelf.faults l.fn.shelf;
  counted : Counts (g.L.Shelf.reads l.fn.shelf) (length (map text_of l.texts.items)) (g.L.Shelf.reads l.shelf);
}
