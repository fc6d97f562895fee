-- Words that ask for a peer, words that ask for none, and want of memory for them.
use Rattle.std.proofs.Common.{◌≡◌, ◌∙◌, sym, ap, refl, subst, Option, None, Some, map, string_bytes}
use Rattle.std.specs.Prelude.{option_map}
use Rattle.cacao_site.specs.View.{SiteView}
use Rattle.cacao_cli_words.specs.Commands.{peer_request_by}
use Rattle.cacao_cli_words.specs.Requests.{PeerRequest, peer_request}
use Rattle.cacao_cli_ends.specs.Asked.{asked}
use Rattle.cacao_cli_ends.specs.Told.{end_of}
use Rattle.cacao_cli_ends.specs.Files.{ShelfCall}
use Rattle.cacao_cli_status_laws.proofs.PerformLemmas.{performed-memory}
use Rattle.cacao_cli.proofs.PeerLemmas.{memory-with, with-none}
use Rattle.cacao_cli.proofs.program.perform_any.Goals as goal

pub returns-then-short-clause-alone : goal.returns-then-short-clause-alone
returns-then-short-clause-alone g c none =
    let shelf : ShelfCall = record { told = g.L.Shelf.told c.args.shelf.now; before = g.L.Shelf.faults c.args.shelf.now; after = g.L.Shelf.faults c.args.shelf.now; reads_before = g.L.Shelf.reads c.args.shelf.now; reads_after = g.L.Shelf.reads c.args.shelf.now } in
    performed-memory (asked (map string_bytes c.args.words.now)) shelf (g.S.Disk.view c.args.site.now) refl refl

pub returns-then-short-clause-with_peer : goal.returns-then-short-clause-with_peer
returns-then-short-clause-with_peer g c =
    let shelf : ShelfCall = record { told = g.L.Shelf.told c.args.shelf.now; before = g.L.Shelf.faults c.args.shelf.now; after = g.L.Shelf.faults c.args.shelf.now; reads_before = g.L.Shelf.reads c.args.shelf.now; reads_after = g.L.Shelf.reads c.args.shelf.now } in
    memory-with (peer_request (map string_bytes c.args.words.now)) shelf (g.P.Peers.view c.args.peers.now) (g.S.Disk.view c.args.site.now) refl refl

pub returns-in-Err-clause-alone : goal.returns-in-Err-clause-alone
returns-in-Err-clause-alone g c none =
    let shelf : ShelfCall = record { told = g.L.Shelf.told c.args.shelf.now; before = g.L.Shelf.faults c.args.shelf.now; after = g.L.Shelf.faults c.args.shelf.now; reads_before = g.L.Shelf.reads c.args.shelf.now; reads_after = g.L.Shelf.reads c.args.shelf.now } in
    performed-memory (asked (map string_bytes c.args.words.now)) shelf (g.S.Disk.view c.args.site.now) refl refl

pub returns-in-Err-clause-with_peer : goal.returns-in-Err-clause-with_peer
returns-in-Err-clause-with_peer g c =
    let shelf : ShelfCall = record { told = g.L.Shelf.told c.args.shelf.now; before = g.L.Shelf.faults c.args.shelf.now; after = g.L.Shelf.faults c.args.shelf.now; reads_before = g.L.Shelf.reads c.args.shelf.now; reads_after = g.L.Shelf.reads c.args.shelf.now } in
    memory-with (peer_request (map string_bytes c.args.words.now)) shelf (g.P.Peers.view c.args.peers.now) (g.S.Disk.view c.args.site.now) refl refl
