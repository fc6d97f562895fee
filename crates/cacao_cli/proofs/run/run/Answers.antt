-- A session is held with what is ready, or there is none.
use Rattle.std.specs.Prelude.{Some}
use Rattle.cacao_site.specs.View.{SiteView}
use Rattle.cacao_cli_words.specs.Commands.{run_request}
use Rattle.cacao_cli_words.specs.Requests.{RunRequest}
use Rattle.cacao_cli_ends.specs.Asked.{runs}
use Rattle.cacao_cli_ends.specs.Told.{end_of}
use Rattle.cacao_cli_ends.specs.Files.{ShelfCall}
use Rattle.cacao_cli_session.specs.Holding.{HoldsSession}
use Rattle.cacao_cli_peers.specs.ReadyRuns.{IsReady}
use Rattle.cacao_cli_peers.proofs.ReadyLemmas.{not-ready-performed, ready-performed}
use Rattle.cacao_cli.proofs.run.run.Goals as goal

pub returns-in-Ok-clause-performed : goal.returns-in-Ok-clause-performed
returns-in-Ok-clause-performed g c =
    let shelf : ShelfCall = record { told = g.L.Shelf.told c.args.shelf.now; before = g.L.Shelf.faults c.args.shelf.now; after = g.L.Shelf.faults c.make_ready.new.shelf; reads_before = g.L.Shelf.reads c.args.shelf.now; reads_after = g.L.Shelf.reads c.make_ready.new.shelf } in
    let wanted : RunRequest = run_request c.args.wanted.now in
    let old : SiteView = g.S.Disk.view c.args.site.now in
    let new : SiteView = g.S.Disk.view c.hold.new.site in
    let is : IsReady wanted shelf c.in-Ok.field-0.setup c.in-Ok.field-0.answers = c.in-Ok.ensures.ready in
    ready-performed HoldsSession wanted shelf c.in-Ok.field-0.setup c.in-Ok.field-0.answers old new (end_of c.hold.result) is
    (record { answers = c.in-Ok.field-0.answers; are = is.are; given = c.in-Ok.field-0.setup; accepted = is.accepted; holds = c.hold.ensures })

pub returns-in-Err-clause-performed : goal.returns-in-Err-clause-performed
returns-in-Err-clause-performed g c =
    let shelf : ShelfCall = record { told = g.L.Shelf.told c.args.shelf.now; before = g.L.Shelf.faults c.args.shelf.now; after = g.L.Shelf.faults c.make_ready.new.shelf; reads_before = g.L.Shelf.reads c.args.shelf.now; reads_after = g.L.Shelf.reads c.make_ready.new.shelf } in
    let site : SiteView = g.S.Disk.view c.args.site.now in
    not-ready-performed HoldsSession (Some (runs (run_request c.args.wanted.now))) shelf site site (end_of c.in-Err.end) (c.in-Err.ensures.refused site)
