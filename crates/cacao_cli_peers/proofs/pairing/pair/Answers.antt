-- There is no session, or one is held with what is ready.
use Rattle.std.proofs.Common.{inl, inr, refl}
use Rattle.std.specs.Prelude.{Ok}
use Rattle.cacao_cli_words.specs.Commands.{run_request}
use Rattle.cacao_cli_words.specs.Requests.{RunRequest}
use Rattle.cacao_cli_ends.specs.Ends.{no_memory}
use Rattle.cacao_cli_ends.specs.Files.{ShelfCall}
use Rattle.cacao_cli_ends.specs.Work.{start_of}
use Rattle.cacao_cli_starts.specs.ReadyRuns.{IsReady}
use Rattle.cacao_cli_starts.proofs.ReadyLemmas.{ready-reads, ready-wants, ready-work}
use Rattle.cacao_cli_peers.proofs.pairing.pair.Goals as goal

pub returns-clause-performed : goal.returns-clause-performed
returns-clause-performed g c = inl (c.in-Err.ensures.refused (g.S.Disk.view c.args.site.now), refl)

pub returns-in-Ok-clause-performed : goal.returns-in-Ok-clause-performed
returns-in-Ok-clause-performed g c =
    let shelf : ShelfCall = record { told = g.L.Shelf.told c.args.shelf.now; before = g.L.Shelf.faults c.args.shelf.now; after = g.L.Shelf.faults c.make_ready.new.shelf; reads_before = g.L.Shelf.reads c.args.shelf.now; reads_after = g.L.Shelf.reads c.make_ready.new.shelf } in
    inl (ready-wants (run_request c.args.wanted.now) shelf c.in-Ok.field-0.setup c.in-Ok.field-0.answers no_memory c.in-Ok.ensures.ready refl (g.S.Disk.view c.args.site.now), refl)

pub returns-in-Ok-new-clause-performed : goal.returns-in-Ok-new-clause-performed
returns-in-Ok-new-clause-performed g c =
    let shelf : ShelfCall = record { told = g.L.Shelf.told c.args.shelf.now; before = g.L.Shelf.faults c.args.shelf.now; after = g.L.Shelf.faults c.make_ready.new.shelf; reads_before = g.L.Shelf.reads c.args.shelf.now; reads_after = g.L.Shelf.reads c.make_ready.new.shelf } in
    let wanted : RunRequest = run_request c.args.wanted.now in
    let is : IsReady wanted shelf c.in-Ok.field-0.setup c.in-Ok.field-0.answers = c.in-Ok.ensures.ready in
    inr (record {
      read = Ok is.texts;
      reads = ready-reads wanted shelf c.in-Ok.field-0.setup c.in-Ok.field-0.answers is;
      start = start_of wanted is.texts;
      is = ready-work wanted shelf c.in-Ok.field-0.setup c.in-Ok.field-0.answers is;
      holds = record { answers = c.in-Ok.field-0.answers; are = is.are; given = c.in-Ok.field-0.setup; accepted = is.accepted; holds = c.pair_up.ensures.pairs };
    })
