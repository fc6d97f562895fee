-- The text has no tree.
use Rattle.cacao_cli_ends.specs.Told.{end_of}
use Rattle.cacao_cli_looks.specs.Command.{text_of}
use Rattle.cacao_cli_ends.specs.Files.{ShelfCall}
use Rattle.cacao_cli_looks.proofs.PerformLemmas.{canon-untold}
use Rattle.cacao_cli_looks.proofs.canon_command.canon.Goals as goal

pub returns-in-Err-tree_of-clause-performed : goal.returns-in-Err-tree_of-clause-performed
returns-in-Err-tree_of-clause-performed g c =
    let shelf : ShelfCall = record { told = g.L.Shelf.told c.args.shelf.now; before = g.L.Shelf.faults c.args.shelf.now; after = g.L.Shelf.faults c.read_file.new.shelf; reads_before = g.L.Shelf.reads c.args.shelf.now; reads_after = g.L.Shelf.reads c.read_file.new.shelf } in
    canon-untold c.args.book.now shelf (g.S.Disk.view c.args.site.now) (text_of c.in-Ok.text) (end_of c.in-Err-tree_of.end) c.in-Ok.ensures.reads c.in-Err-tree_of.ensures
