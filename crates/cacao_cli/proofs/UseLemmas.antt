-- What a call uses that asks for a peer, and what it leaves.
use Rattle.std.proofs.Common.{ℕ, Option, Some, None}
use Rattle.cacao_site.specs.View.{SiteView}
use Rattle.oc2_wire_link.specs.Peering.{PeersView}
use Rattle.cacao_cli_words.specs.Requests.{PeerRequest, pairs, serves}
use Rattle.cacao_cli_ends.specs.Files.{ShelfCall}
use Rattle.cacao_cli_peers.proofs.LeaveLemmas.{filters-leave, pair-leaves}
use Rattle.cacao_cli_peers.proofs.UseLemmas.{filters-use, pair-uses}
use Rattle.cacao_cli.specs.WithPeers.{EndsWithPeer, LeavesLinkBeneath, UsesFewWithPeer}

pub uses-with : (asked : Option PeerRequest) (shelf : ShelfCall) (before after : PeersView) (old new : SiteView) (answer : ℕ) → EndsWithPeer asked shelf before after old new answer
    → UsesFewWithPeer asked shelf.told before after old new
uses-with None shelf before after old new answer h = tt
uses-with (Some (pairs wanted)) shelf before after old new answer h = pair-uses before after old h.between new h.last answer h.tells wanted shelf h.goes
uses-with (Some serves) shelf before after old new answer h = filters-use before after old h.between new h.last answer h.tells h.serves

pub link-with : (asked : Option PeerRequest) (shelf : ShelfCall) (before after : PeersView) (old new : SiteView) (answer : ℕ) → EndsWithPeer asked shelf before after old new answer → LeavesLinkBeneath asked old new
link-with None shelf before after old new answer h = tt
link-with (Some (pairs wanted)) shelf before after old new answer h = pair-leaves before after old h.between new h.last answer h.tells wanted shelf h.goes
link-with (Some serves) shelf before after old new answer h = filters-leave before after old h.between new h.last answer h.tells h.serves
