-- Each clause holds of a call that went as `Ended` says, or, where it asks for a peer, as `EndsWithPeer` says.
use Rattle.std.proofs.Common.{◌≡◌, refl, sym, ap, subst, ℕ, [], length, Option, Some, None, map, string_bytes}
use Rattle.cacao_site.specs.View.{SiteView}
use Rattle.cacao_cli_ends.specs.Asked.{Asked, asked}
use Rattle.cacao_cli_ends.specs.Told.{end_of}
use Rattle.cacao_cli_status_laws.specs.Ended.{Ended, Performed}
use Rattle.oc2_wire_link.specs.Peering.{PeersView}
use Rattle.cacao_cli_words.specs.Commands.{fleet_request_by}
use Rattle.cacao_cli_words.specs.Requests.{FleetRequest, PeerRequest, RunRequest, fleet_request, pairs, peer_request, serves}
use Rattle.cacao_cli_ends.specs.Stays.{ReadsAtMost}
use Rattle.cacao_cli.specs.WithPeers.{EndsWithPeer, PerformsWithPeer, files_for, files_with}
use Rattle.cacao_cli.proofs.FaultLemmas.{faults-with}
use Rattle.cacao_cli.proofs.FleetLemmas.{by-short, ended-failed, ended-memory, ended-never, ended-own, ended-reads, fleet-is, fleetless, names-some, own-fleet, rack-fleet, rackless, reads-none, undamaged-fleet, undamaged-none, wants-words}
use Rattle.cacao_cli.proofs.FleetUse.{uses-fleet, uses-none}
use Rattle.cacao_cli.proofs.PeerLemmas.{ended-with, no-files, none-read-at, own-with, pair-failed, pair-memory, pair-reads, pair-rose, pair-steady, serve-memory, serve-never, serve-rose, seventeen-out}
use Rattle.cacao_cli.proofs.PastLemmas.{packets-ended}
use Rattle.cacao_cli.proofs.TextLemmas.{texts-ended}
use Rattle.cacao_cli.proofs.UseLemmas.{link-with, uses-with}
use Rattle.cacao_cli_ends.specs.Ends.{End}
use Rattle.cacao_cli_ends.specs.Files.{ShelfCall}
use Rattle.cacao_cli_ends.specs.Lines.{Tells}
use Rattle.cacao_cli_status_laws.proofs.AgreedLemmas.{agrees-ended}
use Rattle.cacao_cli_looks.proofs.BudgetLemmas.{asked-budget}
use Rattle.cacao_cli_status_laws.proofs.AnswerLemmas.{answers-ended, disk-ended, never}
use Rattle.cacao_cli_status_laws.proofs.ClockLemmas.{reached-ended}
use Rattle.cacao_cli_status_laws.proofs.CompleteLemmas.{completes-ended}
use Rattle.cacao_cli_status_laws.proofs.CountLemmas.{failed-ended, steady-ended, unsaid-ended, said-ended, memory-ended}
use Rattle.cacao_cli_status_laws.proofs.ExactLemmas.{exact-ended}
use Rattle.cacao_cli_status_laws.proofs.LeaveLemmas.{leaves-ended, few-ended}
use Rattle.cacao_cli_status_laws.proofs.ReturnLemmas.{returns-ended}
use Rattle.cacao_cli_session_laws.proofs.ReturnedRuns.{sound-reads}
use Rattle.cacao_cli_status_laws.proofs.ShortLemmas.{short-ended}
use Rattle.cacao_cli_status_laws.proofs.StatusLemmas.{damaged-ended, disagreement-ended, done-ended, words-ended, missing-ended, unreadable-ended, past-ended, much-ended, refused-ended, another-ended, asked-ended, failed-run-ended, flooded-ended, paused-ended, waiting-ended}
use Rattle.cacao_cli_status_laws.proofs.StayLemmas.{stays-ended}
use Rattle.cacao_cli_status_laws.proofs.SteadyLemmas.{disk-steady-ended}
use Rattle.cacao_cli_status_laws.proofs.UndamagedLemmas.{undamaged-ended}
use Rattle.cacao_cli_status_laws.proofs.UsageLemmas.{uses-ended}
use Rattle.cacao_cli.proofs.program.top.Goals as goal

abbrev came : {asked : Option Asked} {shelf : ShelfCall} {old mid new : SiteView} {last : End} {answer : ℕ} → Performed asked shelf old mid last → Tells last mid new answer → Ended asked shelf old new answer
came {mid = mid} {last = last} performed tells = record { last = last; between = mid; performed = performed; tells = tells }

-- what a clause says by the words
by-words : (asked : Option PeerRequest) (T : Type 0) → (asked ≡ None → T) → ((wanted : RunRequest) → asked ≡ Some (pairs wanted) → T) → (asked ≡ Some serves → T) → T
by-words None T alone pair filters = alone refl
by-words (Some (pairs wanted)) T alone pair filters = pair wanted refl
by-words (Some serves) T alone pair filters = filters refl

-- how a call ended that asks for a peer, by what its words ask
with-words : (asked : Option PeerRequest) (shelf : ShelfCall) (before after : PeersView) (old mid new : SiteView) (last : End) (answer : ℕ) → PerformsWithPeer asked shelf before after old mid last → Tells last mid new answer
    → (other : Option PeerRequest) → asked ≡ other → EndsWithPeer other shelf before after old new answer
with-words asked shelf before after old mid new last answer h tells other is =
    subst (λ (a : Option PeerRequest). EndsWithPeer a shelf before after old new answer) is (ended-with asked shelf before after old mid new last answer h tells)

pub returns-in-None-clause-agreement : goal.returns-in-None-clause-agreement
returns-in-None-clause-agreement g c no_fleet none =
    agrees-ended (asked (map string_bytes c.args.words.now)) _ (g.S.Disk.view c.args.site.now) (g.S.Disk.view c.perform_any-end.new.site) (g.S.Disk.view c.finish.new.site) (end_of c.perform_any-end.result) c.finish.result
    (g.met.S.Disk.sound c.args.site.now) (g.met.S.Disk.sound c.perform_any-end.new.site) (c.perform_any-end.ensures.alone none) c.finish.ensures

pub returns-in-None-clause-statuses : goal.returns-in-None-clause-statuses
returns-in-None-clause-statuses g c no_fleet none = record {
  exactly = exact-ended _ _ _ _ _ (came (c.perform_any-end.ensures.alone none) c.finish.ensures);
  answers = answers-ended _ _ _ _ _ (came (c.perform_any-end.ensures.alone none) c.finish.ensures);
  done = done-ended (asked (map string_bytes c.args.words.now)) _ _ (g.S.Disk.view c.finish.new.site) _ (sound-reads _ (g.met.S.Disk.sound c.finish.new.site)) (asked-budget (map string_bytes c.args.words.now)) (came (c.perform_any-end.ensures.alone none) c.finish.ensures);
  refused = refused-ended _ _ _ _ _ (came (c.perform_any-end.ensures.alone none) c.finish.ensures);
  not_understood = words-ended _ _ _ _ _ (came (c.perform_any-end.ensures.alone none) c.finish.ensures);
  missing = missing-ended _ _ _ _ _ (came (c.perform_any-end.ensures.alone none) c.finish.ensures);
  unreadable = unreadable-ended _ _ _ _ _ (came (c.perform_any-end.ensures.alone none) c.finish.ensures);
  past_limit = past-ended (asked (map string_bytes c.args.words.now)) _ _ (g.S.Disk.view c.finish.new.site) _ (sound-reads _ (g.met.S.Disk.sound c.finish.new.site)) (asked-budget (map string_bytes c.args.words.now)) (came (c.perform_any-end.ensures.alone none) c.finish.ensures);
  too_much = much-ended _ _ _ _ _ (came (c.perform_any-end.ensures.alone none) c.finish.ensures);
  past_packets = packets-ended _ _ _ _ _ (came (c.perform_any-end.ensures.alone none) c.finish.ensures);
  damaged = damaged-ended (asked (map string_bytes c.args.words.now)) _ _ (g.S.Disk.view c.finish.new.site) _ (sound-reads _ (g.met.S.Disk.sound c.finish.new.site)) (asked-budget (map string_bytes c.args.words.now)) (came (c.perform_any-end.ensures.alone none) c.finish.ensures);
  disagreement = disagreement-ended _ _ _ _ _ (came (c.perform_any-end.ensures.alone none) c.finish.ensures);
  failed = failed-run-ended (asked (map string_bytes c.args.words.now)) _ _ (g.S.Disk.view c.finish.new.site) _ (sound-reads _ (g.met.S.Disk.sound c.finish.new.site)) (asked-budget (map string_bytes c.args.words.now)) (came (c.perform_any-end.ensures.alone none) c.finish.ensures);
  pauses = paused-ended (asked (map string_bytes c.args.words.now)) _ _ (g.S.Disk.view c.finish.new.site) _ (sound-reads _ (g.met.S.Disk.sound c.finish.new.site)) (asked-budget (map string_bytes c.args.words.now)) (came (c.perform_any-end.ensures.alone none) c.finish.ensures);
  another_run = another-ended (asked (map string_bytes c.args.words.now)) _ _ (g.S.Disk.view c.finish.new.site) _ (sound-reads _ (g.met.S.Disk.sound c.finish.new.site)) (asked-budget (map string_bytes c.args.words.now)) (came (c.perform_any-end.ensures.alone none) c.finish.ensures);
  waits = waiting-ended (asked (map string_bytes c.args.words.now)) _ _ (g.S.Disk.view c.finish.new.site) _ (sound-reads _ (g.met.S.Disk.sound c.finish.new.site)) (asked-budget (map string_bytes c.args.words.now)) (came (c.perform_any-end.ensures.alone none) c.finish.ensures);
  floods = flooded-ended (asked (map string_bytes c.args.words.now)) _ _ (g.S.Disk.view c.finish.new.site) _ (sound-reads _ (g.met.S.Disk.sound c.finish.new.site)) (asked-budget (map string_bytes c.args.words.now)) (came (c.perform_any-end.ensures.alone none) c.finish.ensures);
  asks = asked-ended (asked (map string_bytes c.args.words.now)) _ _ (g.S.Disk.view c.finish.new.site) _ (sound-reads _ (g.met.S.Disk.sound c.finish.new.site)) (asked-budget (map string_bytes c.args.words.now)) (came (c.perform_any-end.ensures.alone none) c.finish.ensures);
  disk_failed = disk-ended _ _ _ _ _ (came (c.perform_any-end.ensures.alone none) c.finish.ensures);
  disk_steady = disk-steady-ended _ _ _ _ _ (came (c.perform_any-end.ensures.alone none) c.finish.ensures);
  unsaid = unsaid-ended _ _ _ _ _ (came (c.perform_any-end.ensures.alone none) c.finish.ensures);
  said = said-ended _ _ _ _ _ (came (c.perform_any-end.ensures.alone none) c.finish.ensures);
  stands_short = short-ended _ _ _ _ _ (came (c.perform_any-end.ensures.alone none) c.finish.ensures);
  stands_reached = reached-ended _ _ _ _ _ (came (c.perform_any-end.ensures.alone none) c.finish.ensures);
}

pub returns-in-None-clause-returned : goal.returns-in-None-clause-returned
returns-in-None-clause-returned g c no_fleet none = record {
  on_return = returns-ended (asked (map string_bytes c.args.words.now)) _ (g.S.Disk.view c.args.site.now) (g.S.Disk.view c.perform_any-end.new.site) (g.S.Disk.view c.finish.new.site) (end_of c.perform_any-end.result) c.finish.result
      (asked-budget (map string_bytes c.args.words.now)) (g.met.S.Disk.sound c.perform_any-end.new.site) (c.perform_any-end.ensures.alone none) c.finish.ensures;
  undamaged = λ told good. undamaged-ended c.complete_laws.ensures.undamaged c.complete_laws.ensures.no_damage _ (g.S.Disk.view c.args.site.now) (g.S.Disk.view c.finish.new.site) c.finish.result
      (g.met.S.Disk.sound c.args.site.now) told good (asked (map string_bytes c.args.words.now)) (came (c.perform_any-end.ensures.alone none) c.finish.ensures) (g.met.S.Disk.sound c.perform_any-end.new.site);
  completes = completes-ended c.complete_laws.ensures.no_other_run c.complete_laws.ensures.completes (asked (map string_bytes c.args.words.now)) _ (g.S.Disk.view c.args.site.now)
      (g.S.Disk.view c.perform_any-end.new.site) (g.S.Disk.view c.finish.new.site) (end_of c.perform_any-end.result) c.finish.result (g.met.S.Disk.sound c.args.site.now) (g.met.S.Disk.sound c.perform_any-end.new.site)
      (c.perform_any-end.ensures.alone none) c.finish.ensures;
  uses_few = uses-ended _ _ _ _ _ (came (c.perform_any-end.ensures.alone none) c.finish.ensures);
  stays = stays-ended _ _ _ _ _ (came (c.perform_any-end.ensures.alone none) c.finish.ensures);
  leaves = leaves-ended _ _ _ _ _ (came (c.perform_any-end.ensures.alone none) c.finish.ensures);
  by_texts = texts-ended _ _ _ _ _ (g.met.S.Disk.sound c.args.site.now) (came (c.perform_any-end.ensures.alone none) c.finish.ensures);
}

pub returns-in-None-clause-ended : goal.returns-in-None-clause-ended
returns-in-None-clause-ended g c no_fleet none = came (c.perform_any-end.ensures.alone none) c.finish.ensures

pub returns-in-None-clause-with_peer : goal.returns-in-None-clause-with_peer
returns-in-None-clause-with_peer g c = with-words (peer_request (map string_bytes c.args.words.now)) (record { told = g.L.Shelf.told c.args.shelf.now; before = g.L.Shelf.faults c.args.shelf.now; after = g.L.Shelf.faults c.perform_any-end.new.shelf; reads_before = g.L.Shelf.reads c.args.shelf.now; reads_after = g.L.Shelf.reads c.perform_any-end.new.shelf }) (g.P.Peers.view c.args.peers.now) (g.P.Peers.view c.perform_any-end.new.peers) (g.S.Disk.view c.args.site.now) (g.S.Disk.view c.perform_any-end.new.site) (g.S.Disk.view c.finish.new.site) (end_of c.perform_any-end.result) c.finish.result c.perform_any-end.ensures.with_peer c.finish.ensures (peer_request (map string_bytes c.args.words.now)) refl

pub returns-in-None-clause-peer_faults : goal.returns-in-None-clause-peer_faults
returns-in-None-clause-peer_faults g c = faults-with (peer_request (map string_bytes c.args.words.now)) (record { told = g.L.Shelf.told c.args.shelf.now; before = g.L.Shelf.faults c.args.shelf.now; after = g.L.Shelf.faults c.perform_any-end.new.shelf; reads_before = g.L.Shelf.reads c.args.shelf.now; reads_after = g.L.Shelf.reads c.perform_any-end.new.shelf }) (g.P.Peers.view c.args.peers.now) (g.P.Peers.view c.perform_any-end.new.peers) (g.S.Disk.view c.args.site.now) (g.S.Disk.view c.finish.new.site) c.finish.result (with-words (peer_request (map string_bytes c.args.words.now)) (record { told = g.L.Shelf.told c.args.shelf.now; before = g.L.Shelf.faults c.args.shelf.now; after = g.L.Shelf.faults c.perform_any-end.new.shelf; reads_before = g.L.Shelf.reads c.args.shelf.now; reads_after = g.L.Shelf.reads c.perform_any-end.new.shelf }) (g.P.Peers.view c.args.peers.now) (g.P.Peers.view c.perform_any-end.new.peers) (g.S.Disk.view c.args.site.now) (g.S.Disk.view c.perform_any-end.new.site) (g.S.Disk.view c.finish.new.site) (end_of c.perform_any-end.result) c.finish.result c.perform_any-end.ensures.with_peer c.finish.ensures (peer_request (map string_bytes c.args.words.now)) refl)

pub returns-in-None-clause-own : goal.returns-in-None-clause-own
returns-in-None-clause-own g c = own-with (peer_request (map string_bytes c.args.words.now)) (record { told = g.L.Shelf.told c.args.shelf.now; before = g.L.Shelf.faults c.args.shelf.now; after = g.L.Shelf.faults c.perform_any-end.new.shelf; reads_before = g.L.Shelf.reads c.args.shelf.now; reads_after = g.L.Shelf.reads c.perform_any-end.new.shelf }) (g.P.Peers.view c.args.peers.now) (g.P.Peers.view c.perform_any-end.new.peers) (g.S.Disk.view c.args.site.now) (g.S.Disk.view c.finish.new.site) c.finish.result (with-words (peer_request (map string_bytes c.args.words.now)) (record { told = g.L.Shelf.told c.args.shelf.now; before = g.L.Shelf.faults c.args.shelf.now; after = g.L.Shelf.faults c.perform_any-end.new.shelf; reads_before = g.L.Shelf.reads c.args.shelf.now; reads_after = g.L.Shelf.reads c.perform_any-end.new.shelf }) (g.P.Peers.view c.args.peers.now) (g.P.Peers.view c.perform_any-end.new.peers) (g.S.Disk.view c.args.site.now) (g.S.Disk.view c.perform_any-end.new.site) (g.S.Disk.view c.finish.new.site) (end_of c.perform_any-end.result) c.finish.result c.perform_any-end.ensures.with_peer c.finish.ensures (peer_request (map string_bytes c.args.words.now)) refl)

pub returns-in-None-clause-peer_uses_few : goal.returns-in-None-clause-peer_uses_few
returns-in-None-clause-peer_uses_few g c = uses-with (peer_request (map string_bytes c.args.words.now)) (record { told = g.L.Shelf.told c.args.shelf.now; before = g.L.Shelf.faults c.args.shelf.now; after = g.L.Shelf.faults c.perform_any-end.new.shelf; reads_before = g.L.Shelf.reads c.args.shelf.now; reads_after = g.L.Shelf.reads c.perform_any-end.new.shelf }) (g.P.Peers.view c.args.peers.now) (g.P.Peers.view c.perform_any-end.new.peers) (g.S.Disk.view c.args.site.now) (g.S.Disk.view c.finish.new.site) c.finish.result (with-words (peer_request (map string_bytes c.args.words.now)) (record { told = g.L.Shelf.told c.args.shelf.now; before = g.L.Shelf.faults c.args.shelf.now; after = g.L.Shelf.faults c.perform_any-end.new.shelf; reads_before = g.L.Shelf.reads c.args.shelf.now; reads_after = g.L.Shelf.reads c.perform_any-end.new.shelf }) (g.P.Peers.view c.args.peers.now) (g.P.Peers.view c.perform_any-end.new.peers) (g.S.Disk.view c.args.site.now) (g.S.Disk.view c.perform_any-end.new.site) (g.S.Disk.view c.finish.new.site) (end_of c.perform_any-end.result) c.finish.result c.perform_any-end.ensures.with_peer c.finish.ensures (peer_request (map string_bytes c.args.words.now)) refl)

pub returns-in-None-clause-peer_link : goal.returns-in-None-clause-peer_link
returns-in-None-clause-peer_link g c = link-with (peer_request (map string_bytes c.args.words.now)) (record { told = g.L.Shelf.told c.args.shelf.now; before = g.L.Shelf.faults c.args.shelf.now; after = g.L.Shelf.faults c.perform_any-end.new.shelf; reads_before = g.L.Shelf.reads c.args.shelf.now; reads_after = g.L.Shelf.reads c.perform_any-end.new.shelf }) (g.P.Peers.view c.args.peers.now) (g.P.Peers.view c.perform_any-end.new.peers) (g.S.Disk.view c.args.site.now) (g.S.Disk.view c.finish.new.site) c.finish.result (with-words (peer_request (map string_bytes c.args.words.now)) (record { told = g.L.Shelf.told c.args.shelf.now; before = g.L.Shelf.faults c.args.shelf.now; after = g.L.Shelf.faults c.perform_any-end.new.shelf; reads_before = g.L.Shelf.reads c.args.shelf.now; reads_after = g.L.Shelf.reads c.perform_any-end.new.shelf }) (g.P.Peers.view c.args.peers.now) (g.P.Peers.view c.perform_any-end.new.peers) (g.S.Disk.view c.args.site.now) (g.S.Disk.view c.perform_any-end.new.site) (g.S.Disk.view c.finish.new.site) (end_of c.perform_any-end.result) c.finish.result c.perform_any-end.ensures.with_peer c.finish.ensures (peer_request (map string_bytes c.args.words.now)) refl)

pub returns-in-None-clause-peers_failed : goal.returns-in-None-clause-peers_failed
returns-in-None-clause-peers_failed g c seventeen = by-words (peer_request (map string_bytes c.args.words.now)) _
    (λ none. absurd (never (asked (map string_bytes c.args.words.now)) _ _ _ c.finish.result 17 (seventeen-out (asked (map string_bytes c.args.words.now))) (came (c.perform_any-end.ensures.alone none) c.finish.ensures) seventeen))
    (λ wanted is. pair-rose _ _ _ _ _ _ wanted (with-words (peer_request (map string_bytes c.args.words.now)) (record { told = g.L.Shelf.told c.args.shelf.now; before = g.L.Shelf.faults c.args.shelf.now; after = g.L.Shelf.faults c.perform_any-end.new.shelf; reads_before = g.L.Shelf.reads c.args.shelf.now; reads_after = g.L.Shelf.reads c.perform_any-end.new.shelf }) (g.P.Peers.view c.args.peers.now) (g.P.Peers.view c.perform_any-end.new.peers) (g.S.Disk.view c.args.site.now) (g.S.Disk.view c.perform_any-end.new.site) (g.S.Disk.view c.finish.new.site) (end_of c.perform_any-end.result) c.finish.result c.perform_any-end.ensures.with_peer c.finish.ensures (Some (pairs wanted)) is) seventeen)
    (λ is. serve-rose _ _ _ _ _ (with-words (peer_request (map string_bytes c.args.words.now)) (record { told = g.L.Shelf.told c.args.shelf.now; before = g.L.Shelf.faults c.args.shelf.now; after = g.L.Shelf.faults c.perform_any-end.new.shelf; reads_before = g.L.Shelf.reads c.args.shelf.now; reads_after = g.L.Shelf.reads c.perform_any-end.new.shelf }) (g.P.Peers.view c.args.peers.now) (g.P.Peers.view c.perform_any-end.new.peers) (g.S.Disk.view c.args.site.now) (g.S.Disk.view c.perform_any-end.new.site) (g.S.Disk.view c.finish.new.site) (end_of c.perform_any-end.result) c.finish.result c.perform_any-end.ensures.with_peer c.finish.ensures (Some serves) is) seventeen)

pub returns-in-None-clause-shelf_failed : goal.returns-in-None-clause-shelf_failed
returns-in-None-clause-shelf_failed g c three = by-words (peer_request (map string_bytes c.args.words.now)) _
    (λ none. failed-ended _ _ _ _ _ (came (c.perform_any-end.ensures.alone none) c.finish.ensures) three)
    (λ wanted is. pair-failed _ _ _ _ _ _ wanted (with-words (peer_request (map string_bytes c.args.words.now)) (record { told = g.L.Shelf.told c.args.shelf.now; before = g.L.Shelf.faults c.args.shelf.now; after = g.L.Shelf.faults c.perform_any-end.new.shelf; reads_before = g.L.Shelf.reads c.args.shelf.now; reads_after = g.L.Shelf.reads c.perform_any-end.new.shelf }) (g.P.Peers.view c.args.peers.now) (g.P.Peers.view c.perform_any-end.new.peers) (g.S.Disk.view c.args.site.now) (g.S.Disk.view c.perform_any-end.new.site) (g.S.Disk.view c.finish.new.site) (end_of c.perform_any-end.result) c.finish.result c.perform_any-end.ensures.with_peer c.finish.ensures (Some (pairs wanted)) is) three)
    (λ is. absurd (serve-never _ _ _ _ _ (with-words (peer_request (map string_bytes c.args.words.now)) (record { told = g.L.Shelf.told c.args.shelf.now; before = g.L.Shelf.faults c.args.shelf.now; after = g.L.Shelf.faults c.perform_any-end.new.shelf; reads_before = g.L.Shelf.reads c.args.shelf.now; reads_after = g.L.Shelf.reads c.perform_any-end.new.shelf }) (g.P.Peers.view c.args.peers.now) (g.P.Peers.view c.perform_any-end.new.peers) (g.S.Disk.view c.args.site.now) (g.S.Disk.view c.perform_any-end.new.site) (g.S.Disk.view c.finish.new.site) (end_of c.perform_any-end.result) c.finish.result c.perform_any-end.ensures.with_peer c.finish.ensures (Some serves) is) 3 refl three))

pub returns-in-None-clause-shelf_steady : goal.returns-in-None-clause-shelf_steady
returns-in-None-clause-shelf_steady g c no3 no9 = by-words (peer_request (map string_bytes c.args.words.now)) _
    (λ none. steady-ended _ _ _ _ _ (came (c.perform_any-end.ensures.alone none) c.finish.ensures) no3 no9)
    (λ wanted is. pair-steady _ _ _ _ _ _ wanted (with-words (peer_request (map string_bytes c.args.words.now)) (record { told = g.L.Shelf.told c.args.shelf.now; before = g.L.Shelf.faults c.args.shelf.now; after = g.L.Shelf.faults c.perform_any-end.new.shelf; reads_before = g.L.Shelf.reads c.args.shelf.now; reads_after = g.L.Shelf.reads c.perform_any-end.new.shelf }) (g.P.Peers.view c.args.peers.now) (g.P.Peers.view c.perform_any-end.new.peers) (g.S.Disk.view c.args.site.now) (g.S.Disk.view c.perform_any-end.new.site) (g.S.Disk.view c.finish.new.site) (end_of c.perform_any-end.result) c.finish.result c.perform_any-end.ensures.with_peer c.finish.ensures (Some (pairs wanted)) is) no3 no9)
    (λ is. ap g.L.Shelf.faults (c.perform_any-end.ensures.untouched (no-files (asked (map string_bytes c.args.words.now)) is)))

pub returns-in-None-clause-no_memory : goal.returns-in-None-clause-no_memory
returns-in-None-clause-no_memory g c ten = by-words (peer_request (map string_bytes c.args.words.now)) _
    (λ none. memory-ended _ _ _ _ _ (came (c.perform_any-end.ensures.alone none) c.finish.ensures) ten)
    (λ wanted is. pair-memory _ _ _ _ _ _ wanted (with-words (peer_request (map string_bytes c.args.words.now)) (record { told = g.L.Shelf.told c.args.shelf.now; before = g.L.Shelf.faults c.args.shelf.now; after = g.L.Shelf.faults c.perform_any-end.new.shelf; reads_before = g.L.Shelf.reads c.args.shelf.now; reads_after = g.L.Shelf.reads c.perform_any-end.new.shelf }) (g.P.Peers.view c.args.peers.now) (g.P.Peers.view c.perform_any-end.new.peers) (g.S.Disk.view c.args.site.now) (g.S.Disk.view c.perform_any-end.new.site) (g.S.Disk.view c.finish.new.site) (end_of c.perform_any-end.result) c.finish.result c.perform_any-end.ensures.with_peer c.finish.ensures (Some (pairs wanted)) is) ten)
    (λ is. serve-memory _ _ _ _ _ (with-words (peer_request (map string_bytes c.args.words.now)) (record { told = g.L.Shelf.told c.args.shelf.now; before = g.L.Shelf.faults c.args.shelf.now; after = g.L.Shelf.faults c.perform_any-end.new.shelf; reads_before = g.L.Shelf.reads c.args.shelf.now; reads_after = g.L.Shelf.reads c.perform_any-end.new.shelf }) (g.P.Peers.view c.args.peers.now) (g.P.Peers.view c.perform_any-end.new.peers) (g.S.Disk.view c.args.site.now) (g.S.Disk.view c.perform_any-end.new.site) (g.S.Disk.view c.finish.new.site) (end_of c.perform_any-end.result) c.finish.result c.perform_any-end.ensures.with_peer c.finish.ensures (Some serves) is) (record { told = g.L.Shelf.told c.args.shelf.now; before = g.L.Shelf.faults c.args.shelf.now; after = g.L.Shelf.faults c.perform_any-end.new.shelf; reads_before = g.L.Shelf.reads c.args.shelf.now; reads_after = g.L.Shelf.reads c.perform_any-end.new.shelf })
    (ap g.L.Shelf.faults (c.perform_any-end.ensures.untouched (no-files (asked (map string_bytes c.args.words.now)) is))) ten)

pub returns-in-None-clause-reads : goal.returns-in-None-clause-reads
returns-in-None-clause-reads g c = by-short c.read_fleet-fleet.result.1 _
    (λ wants. reads-none _ (g.L.Shelf.reads c.args.shelf.now) (g.L.Shelf.reads c.perform_any-end.new.shelf) (ap g.L.Shelf.reads (c.perform_any-end.ensures.short wants).1))
    (λ alone. subst (λ (a : Option FleetRequest). ReadsAtMost (length (files_with a (map string_bytes c.args.words.now))) (g.L.Shelf.reads c.args.shelf.now) (g.L.Shelf.reads c.perform_any-end.new.shelf)) (sym (c.read_fleet-fleet.ensures.none c.in-None.is alone))
    (by-words (peer_request (map string_bytes c.args.words.now)) _
    (λ none. subst (λ (a : Option PeerRequest). ReadsAtMost (length (files_for a (asked (map string_bytes c.args.words.now)))) (g.L.Shelf.reads c.args.shelf.now) (g.L.Shelf.reads c.perform_any-end.new.shelf)) (sym none)
    (few-ended _ _ _ _ _ (came (c.perform_any-end.ensures.alone none) c.finish.ensures)))
    (λ wanted is. subst (λ (a : Option PeerRequest). ReadsAtMost (length (files_for a (asked (map string_bytes c.args.words.now)))) (g.L.Shelf.reads c.args.shelf.now) (g.L.Shelf.reads c.perform_any-end.new.shelf)) (sym is)
    (pair-reads _ _ _ _ _ _ wanted (with-words (peer_request (map string_bytes c.args.words.now)) (record { told = g.L.Shelf.told c.args.shelf.now; before = g.L.Shelf.faults c.args.shelf.now; after = g.L.Shelf.faults c.perform_any-end.new.shelf; reads_before = g.L.Shelf.reads c.args.shelf.now; reads_after = g.L.Shelf.reads c.perform_any-end.new.shelf }) (g.P.Peers.view c.args.peers.now) (g.P.Peers.view c.perform_any-end.new.peers) (g.S.Disk.view c.args.site.now) (g.S.Disk.view c.perform_any-end.new.site) (g.S.Disk.view c.finish.new.site) (end_of c.perform_any-end.result) c.finish.result c.perform_any-end.ensures.with_peer c.finish.ensures (Some (pairs wanted)) is)))
    (λ is. subst (λ (a : Option PeerRequest). ReadsAtMost (length (files_for a (asked (map string_bytes c.args.words.now)))) (g.L.Shelf.reads c.args.shelf.now) (g.L.Shelf.reads c.perform_any-end.new.shelf)) (sym is)
    (none-read-at (g.L.Shelf.reads c.args.shelf.now) (g.L.Shelf.reads c.perform_any-end.new.shelf) (ap g.L.Shelf.reads (c.perform_any-end.ensures.untouched (no-files (asked (map string_bytes c.args.words.now)) is)))))))

pub returns-in-None-clause-with_fleet : goal.returns-in-None-clause-with_fleet
returns-in-None-clause-with_fleet g c = (fleetless (fleet_request (map string_bytes c.args.words.now)) c.read_fleet-fleet.result.1 (c.read_fleet-fleet.ensures.none c.in-None.is) (record { told = g.L.Shelf.told c.args.shelf.now; before = g.L.Shelf.faults c.args.shelf.now; after = g.L.Shelf.faults c.perform_any-end.new.shelf; reads_before = g.L.Shelf.reads c.args.shelf.now; reads_after = g.L.Shelf.reads c.perform_any-end.new.shelf })
    (g.S.Disk.view c.args.site.now) (g.S.Disk.view c.finish.new.site) c.finish.result
    (λ wants. let short = c.perform_any-end.ensures.short wants in
    wants-words (end_of c.perform_any-end.result) (record { told = g.L.Shelf.told c.args.shelf.now; before = g.L.Shelf.faults c.args.shelf.now; after = g.L.Shelf.faults c.perform_any-end.new.shelf; reads_before = g.L.Shelf.reads c.args.shelf.now; reads_after = g.L.Shelf.reads c.perform_any-end.new.shelf })
    (g.S.Disk.view c.args.site.now) (g.S.Disk.view c.perform_any-end.new.site) (g.S.Disk.view c.finish.new.site) c.finish.result
    short.0 (ap g.L.Shelf.reads short.1) (ap g.L.Shelf.faults short.1) (ap g.S.Disk.view short.3) c.finish.ensures)).0

pub returns-in-None-clause-each_run : goal.returns-in-None-clause-each_run
returns-in-None-clause-each_run g c = (fleetless (fleet_request (map string_bytes c.args.words.now)) c.read_fleet-fleet.result.1 (c.read_fleet-fleet.ensures.none c.in-None.is) (record { told = g.L.Shelf.told c.args.shelf.now; before = g.L.Shelf.faults c.args.shelf.now; after = g.L.Shelf.faults c.perform_any-end.new.shelf; reads_before = g.L.Shelf.reads c.args.shelf.now; reads_after = g.L.Shelf.reads c.perform_any-end.new.shelf })
    (g.S.Disk.view c.args.site.now) (g.S.Disk.view c.finish.new.site) c.finish.result
    (λ wants. let short = c.perform_any-end.ensures.short wants in
    wants-words (end_of c.perform_any-end.result) (record { told = g.L.Shelf.told c.args.shelf.now; before = g.L.Shelf.faults c.args.shelf.now; after = g.L.Shelf.faults c.perform_any-end.new.shelf; reads_before = g.L.Shelf.reads c.args.shelf.now; reads_after = g.L.Shelf.reads c.perform_any-end.new.shelf })
    (g.S.Disk.view c.args.site.now) (g.S.Disk.view c.perform_any-end.new.site) (g.S.Disk.view c.finish.new.site) c.finish.result
    short.0 (ap g.L.Shelf.reads short.1) (ap g.L.Shelf.faults short.1) (ap g.S.Disk.view short.3) c.finish.ensures)).1.0

pub returns-in-None-clause-fleet_own : goal.returns-in-None-clause-fleet_own
returns-in-None-clause-fleet_own g c = (fleetless (fleet_request (map string_bytes c.args.words.now)) c.read_fleet-fleet.result.1 (c.read_fleet-fleet.ensures.none c.in-None.is) (record { told = g.L.Shelf.told c.args.shelf.now; before = g.L.Shelf.faults c.args.shelf.now; after = g.L.Shelf.faults c.perform_any-end.new.shelf; reads_before = g.L.Shelf.reads c.args.shelf.now; reads_after = g.L.Shelf.reads c.perform_any-end.new.shelf })
    (g.S.Disk.view c.args.site.now) (g.S.Disk.view c.finish.new.site) c.finish.result
    (λ wants. let short = c.perform_any-end.ensures.short wants in
    wants-words (end_of c.perform_any-end.result) (record { told = g.L.Shelf.told c.args.shelf.now; before = g.L.Shelf.faults c.args.shelf.now; after = g.L.Shelf.faults c.perform_any-end.new.shelf; reads_before = g.L.Shelf.reads c.args.shelf.now; reads_after = g.L.Shelf.reads c.perform_any-end.new.shelf })
    (g.S.Disk.view c.args.site.now) (g.S.Disk.view c.perform_any-end.new.site) (g.S.Disk.view c.finish.new.site) c.finish.result
    short.0 (ap g.L.Shelf.reads short.1) (ap g.L.Shelf.faults short.1) (ap g.S.Disk.view short.3) c.finish.ensures)).1.1

pub returns-in-None-clause-fleet_tells : goal.returns-in-None-clause-fleet_tells
returns-in-None-clause-fleet_tells g c = rackless (fleet_request (map string_bytes c.args.words.now)) c.read_fleet-fleet.result.1 (record { told = g.L.Shelf.told c.args.shelf.now; before = g.L.Shelf.faults c.args.shelf.now; after = g.L.Shelf.faults c.perform_any-end.new.shelf; reads_before = g.L.Shelf.reads c.args.shelf.now; reads_after = g.L.Shelf.reads c.perform_any-end.new.shelf })
    (g.S.Disk.view c.args.site.now) (g.S.Disk.view c.finish.new.site) c.finish.result (c.read_fleet-fleet.ensures.none c.in-None.is)
    (λ wants. let short = c.perform_any-end.ensures.short wants in
    wants-words (end_of c.perform_any-end.result) (record { told = g.L.Shelf.told c.args.shelf.now; before = g.L.Shelf.faults c.args.shelf.now; after = g.L.Shelf.faults c.perform_any-end.new.shelf; reads_before = g.L.Shelf.reads c.args.shelf.now; reads_after = g.L.Shelf.reads c.perform_any-end.new.shelf })
    (g.S.Disk.view c.args.site.now) (g.S.Disk.view c.perform_any-end.new.site) (g.S.Disk.view c.finish.new.site) c.finish.result
    short.0 (ap g.L.Shelf.reads short.1) (ap g.L.Shelf.faults short.1) (ap g.S.Disk.view short.3) c.finish.ensures)

pub returns-in-None-clause-fleet_uses_few : goal.returns-in-None-clause-fleet_uses_few
returns-in-None-clause-fleet_uses_few g c = uses-none (fleet_request (map string_bytes c.args.words.now)) c.read_fleet-fleet.result.1 (record { told = g.L.Shelf.told c.args.shelf.now; before = g.L.Shelf.faults c.args.shelf.now; after = g.L.Shelf.faults c.perform_any-end.new.shelf; reads_before = g.L.Shelf.reads c.args.shelf.now; reads_after = g.L.Shelf.reads c.perform_any-end.new.shelf })
    (g.S.Disk.view c.args.site.now) (g.S.Disk.view c.finish.new.site) c.finish.result (c.read_fleet-fleet.ensures.none c.in-None.is)
    (λ wants. let short = c.perform_any-end.ensures.short wants in
    wants-words (end_of c.perform_any-end.result) (record { told = g.L.Shelf.told c.args.shelf.now; before = g.L.Shelf.faults c.args.shelf.now; after = g.L.Shelf.faults c.perform_any-end.new.shelf; reads_before = g.L.Shelf.reads c.args.shelf.now; reads_after = g.L.Shelf.reads c.perform_any-end.new.shelf })
    (g.S.Disk.view c.args.site.now) (g.S.Disk.view c.perform_any-end.new.site) (g.S.Disk.view c.finish.new.site) c.finish.result
    short.0 (ap g.L.Shelf.reads short.1) (ap g.L.Shelf.faults short.1) (ap g.S.Disk.view short.3) c.finish.ensures)

pub returns-in-None-clause-fleet_undamaged : goal.returns-in-None-clause-fleet_undamaged
returns-in-None-clause-fleet_undamaged g c = undamaged-none (fleet_request (map string_bytes c.args.words.now)) c.read_fleet-fleet.result.1 (record { told = g.L.Shelf.told c.args.shelf.now; before = g.L.Shelf.faults c.args.shelf.now; after = g.L.Shelf.faults c.perform_any-end.new.shelf; reads_before = g.L.Shelf.reads c.args.shelf.now; reads_after = g.L.Shelf.reads c.perform_any-end.new.shelf })
    (g.S.Disk.view c.args.site.now) (g.S.Disk.view c.finish.new.site) c.finish.result (c.read_fleet-fleet.ensures.none c.in-None.is)
    (λ wants. let short = c.perform_any-end.ensures.short wants in
    wants-words (end_of c.perform_any-end.result) (record { told = g.L.Shelf.told c.args.shelf.now; before = g.L.Shelf.faults c.args.shelf.now; after = g.L.Shelf.faults c.perform_any-end.new.shelf; reads_before = g.L.Shelf.reads c.args.shelf.now; reads_after = g.L.Shelf.reads c.perform_any-end.new.shelf })
    (g.S.Disk.view c.args.site.now) (g.S.Disk.view c.perform_any-end.new.site) (g.S.Disk.view c.finish.new.site) c.finish.result
    short.0 (ap g.L.Shelf.reads short.1) (ap g.L.Shelf.faults short.1) (ap g.S.Disk.view short.3) c.finish.ensures)

pub returns-in-Some-clause-fleet_tells : goal.returns-in-Some-clause-fleet_tells
returns-in-Some-clause-fleet_tells g c = rack-fleet _ _ _ _ _ (fleet-is (fleet_request (map string_bytes c.args.words.now)) c.in-Some.is c.read_fleet-fleet.ensures.some) c.call_fleet.ensures.tells

pub returns-in-Some-clause-fleet_uses_few : goal.returns-in-Some-clause-fleet_uses_few
returns-in-Some-clause-fleet_uses_few g c = uses-fleet _ _ _ _ (fleet-is (fleet_request (map string_bytes c.args.words.now)) c.in-Some.is c.read_fleet-fleet.ensures.some) c.call_fleet.ensures.uses_few

pub returns-in-Some-clause-fleet_undamaged : goal.returns-in-Some-clause-fleet_undamaged
returns-in-Some-clause-fleet_undamaged g c = undamaged-fleet (fleet_request (map string_bytes c.args.words.now)) (fleet_request_by c.in-Some.wanted) (g.S.Disk.view c.args.site.now) c.call_fleet.result (fleet-is (fleet_request (map string_bytes c.args.words.now)) c.in-Some.is c.read_fleet-fleet.ensures.some) c.call_fleet.ensures.undamaged

pub returns-in-Some-clause-fleet_own : goal.returns-in-Some-clause-fleet_own
returns-in-Some-clause-fleet_own g c = own-fleet _ _ _ (fleet-is (fleet_request (map string_bytes c.args.words.now)) c.in-Some.is c.read_fleet-fleet.ensures.some) (ended-own _ _ _ _ _ c.call_fleet.ensures.ended)

pub returns-in-Some-clause-peers_failed : goal.returns-in-Some-clause-peers_failed
returns-in-Some-clause-peers_failed g c seventeen = absurd (ended-never _ _ _ _ _ c.call_fleet.ensures.ended 17 refl seventeen)

pub returns-in-Some-clause-shelf_failed : goal.returns-in-Some-clause-shelf_failed
returns-in-Some-clause-shelf_failed g c three = ended-failed _ _ _ _ _ c.call_fleet.ensures.ended three

pub returns-in-Some-clause-no_memory : goal.returns-in-Some-clause-no_memory
returns-in-Some-clause-no_memory g c ten = ended-memory _ _ _ _ _ c.call_fleet.ensures.ended ten

pub returns-in-Some-clause-reads : goal.returns-in-Some-clause-reads
returns-in-Some-clause-reads g c = subst (λ (a : Option FleetRequest). ReadsAtMost (length (files_with a (map string_bytes c.args.words.now))) (g.L.Shelf.reads c.args.shelf.now) (g.L.Shelf.reads c.call_fleet.new.shelf)) (sym (fleet-is (fleet_request (map string_bytes c.args.words.now)) c.in-Some.is c.read_fleet-fleet.ensures.some))
    (ended-reads _ _ _ _ _ c.call_fleet.ensures.ended)

pub returns-in-Some-clause-untouched : goal.returns-in-Some-clause-untouched
returns-in-Some-clause-untouched g c none = absurd (names-some c.in-Some.wanted.runs.items c.in-Some.wanted.most c.in-Some.wanted.some
    (subst (λ (a : Option FleetRequest). files_with a (map string_bytes c.args.words.now) ≡ []) (fleet-is (fleet_request (map string_bytes c.args.words.now)) c.in-Some.is c.read_fleet-fleet.ensures.some) none))
