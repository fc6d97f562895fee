-- The files were read, and then compared.
use Rattle.std.proofs.Common.{map}
use Rattle.cacao_cli_words.specs.Commands.{filter_of}
use Rattle.cacao_cli_ends.specs.Told.{end_of}
use Rattle.cacao_cli_ends.specs.Files.{ShelfCall}
use Rattle.cacao_cli_looks.proofs.PerformLemmas.{audit-read}
use Rattle.cacao_cli_looks.proofs.audit_command.audit.Goals as goal

pub returns-in-Ok-clause-performed : goal.returns-in-Ok-clause-performed
returns-in-Ok-clause-performed g c =
    let shelf : ShelfCall = record { told = g.L.Shelf.told c.args.shelf.now; before = g.L.Shelf.faults c.args.shelf.now; after = g.L.Shelf.faults c.read_run.new.shelf; reads_before = g.L.Shelf.reads c.args.shelf.now; reads_after = g.L.Shelf.reads c.read_run.new.shelf } in
    audit-read c.args.engine.now (map filter_of c.args.filters.now) shelf (g.S.Disk.view c.args._site.now) (end_of c.compare.result) c.in-Ok.files c.in-Ok.ensures.reads.0 c.in-Ok.ensures.reads.1 c.in-Ok.ensures.reads.2 c.compare.ensures
