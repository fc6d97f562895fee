-- Promise: What a call of the program does with a peer, by its words.
use Rattle.std.specs.Prelude.{◌≡◌, ℕ, List, [], ◌∷◌, Option, Some, None, IfSome, ⊤}
use Rattle.cacao_site.specs.Counts.{Rose}
use Rattle.cacao_site.specs.View.{SiteView}
use Rattle.oc2_wire_link.specs.Peering.{PeerCalls, PeersView}
use Rattle.cacao_cli_words.specs.Requests.{FleetRequest, PeerRequest, RunRequest, fleet_request, pairs, peer_request, serves}
use Rattle.cacao_cli_words.specs.Words.{Text}
use Rattle.cacao_cli_ends.specs.Asked.{Asked, asked, runs}
use Rattle.cacao_cli_ends.specs.Comes.{IsOneOf}
use Rattle.cacao_cli_ends.specs.Ends.{End}
use Rattle.cacao_cli_ends.specs.Files.{File, Files, ShelfCall, files_of}
use Rattle.cacao_cli_ends.specs.Lines.{Tells}
use Rattle.cacao_cli_fleets.specs.FleetTexts.{fleet_files}
use Rattle.cacao_cli_peers.specs.FilterServing.{ServesSo}
use Rattle.cacao_cli_peers.specs.Pairing.{GoesAsPair}
use Rattle.cacao_cli_peers.specs.PeerCounts.{CallsAtMost}
use Rattle.cacao_cli_peers.specs.PeerUsage.{FiltersUseFew, PairUsesFew}
use Rattle.cacao_cli_peers.specs.SitesBeneath.{LeavesLink}

-- so it is where the words ask for no peer
abbrev pub IfPeerless : List Text → Type 0 → Type 0
IfPeerless words T = peer_request words ≡ None → T

-- and so where they ask for no fleet either
abbrev pub IfAlone : List Text → Type 0 → Type 0
IfAlone words T = fleet_request words ≡ None → peer_request words ≡ None → T

-- the files that the words name: those of `pair` are those of a `run` with its words
abbrev pub files_for : Option PeerRequest → Option Asked → List File
files_for None asked = files_of asked
files_for (Some (pairs wanted)) asked = files_of (Some (runs wanted))
files_for (Some serves) asked = []

abbrev pub files_without : List Text → List File
files_without words = files_for (peer_request words) (asked words)

-- those of a fleet are its playbooks
abbrev pub files_with : Option FleetRequest → List Text → List File
files_with None words = files_without words
files_with (Some wanted) words = fleet_files wanted

abbrev pub files_named : List Text → List File
files_named words = files_with (fleet_request words) words

-- all but the last line
abbrev pub PerformsWithPeer : Option PeerRequest → ShelfCall → PeersView → PeersView → SiteView → SiteView → End → Type 0
PerformsWithPeer None shelf before after old new last = ⊤
PerformsWithPeer (Some (pairs wanted)) shelf before after old new last = GoesAsPair (Some (runs wanted)) shelf before after old new last
PerformsWithPeer (Some serves) shelf before after old new last = ServesSo before after old new last

-- and then the last line was said
pub record EndedPairing (wanted : RunRequest) (shelf : ShelfCall) (before after : PeersView) (old new : SiteView) (answer : ℕ) : Type 0 where
  pub last : End
  pub between : SiteView
  pub goes : GoesAsPair (Some (runs wanted)) shelf before after old between last
  pub tells : Tells last between new answer

pub record EndedServing (before after : PeersView) (old new : SiteView) (answer : ℕ) : Type 0 where
  pub last : End
  pub between : SiteView
  pub serves : ServesSo before after old between last
  pub tells : Tells last between new answer

abbrev pub EndsWithPeer : Option PeerRequest → ShelfCall → PeersView → PeersView → SiteView → SiteView → ℕ → Type 0
EndsWithPeer None shelf before after old new answer = ⊤
EndsWithPeer (Some (pairs wanted)) shelf before after old new answer = EndedPairing wanted shelf before after old new answer
EndsWithPeer (Some serves) shelf before after old new answer = EndedServing before after old new answer

-- each of both answers its own statuses alone
abbrev pub peer_statuses : PeerRequest → List ℕ
peer_statuses (pairs wanted) =
    0 ∷ 1 ∷ 3 ∷ 4 ∷ 5 ∷ 6 ∷ 7 ∷ 8 ∷ 9 ∷ 10 ∷ 11 ∷ 12 ∷ 13 ∷ 14 ∷ 15 ∷ 16 ∷ 17 ∷ []
peer_statuses serves = 0 ∷ 8 ∷ 9 ∷ 10 ∷ 11 ∷ 13 ∷ 15 ∷ 17 ∷ []

abbrev pub IsPeerStatus : Option PeerRequest → ℕ → Type 0
IsPeerStatus asked answer = IfSome asked (λ wanted. IsOneOf answer (peer_statuses wanted))

-- what failed, where the status tells it: a call of the disk, or a line that could not be said
pub record TellsFaults (old new : SiteView) (answer : ℕ) : Type 0 where
  pub disk_failed : answer ≡ 8 → Rose old.disk.faults new.disk.faults
  pub unsaid : answer ≡ 9 → Rose old.counts.unsaid new.counts.unsaid

abbrev pub TellsPeerFaults : Option PeerRequest → SiteView → SiteView → ℕ → Type 0
TellsPeerFaults None old new answer = ⊤
TellsPeerFaults (Some wanted) old new answer = TellsFaults old new answer

-- `pair` starts a peer and closes the link once at most, `filters` binds, accepts and closes once at most, and nothing else calls the peers
abbrev pub CallsPeersFew : Option PeerRequest → Option PeerCalls → Option PeerCalls → Type 0
CallsPeersFew None old new = new ≡ old
CallsPeersFew (Some (pairs wanted)) old new = CallsAtMost 1 0 0 1 old new
CallsPeersFew (Some serves) old new = CallsAtMost 0 1 1 1 old new

-- Few device calls, and few bytes: `pair` opens no file, or uses what its session uses, which was held with what the texts of its files
-- give; `filters` uses what its filters use.
abbrev pub UsesFewWithPeer : Option PeerRequest → Option Files → PeersView → PeersView → SiteView → SiteView → Type 0
UsesFewWithPeer None told before after old new = ⊤
UsesFewWithPeer (Some (pairs wanted)) told before after old new = PairUsesFew wanted told before after old new
UsesFewWithPeer (Some serves) told before after old new = FiltersUseFew before after old new

-- parcels go over the wire: over the link of the site nothing was put, and nothing was taken from it
abbrev pub LeavesLinkBeneath : Option PeerRequest → SiteView → SiteView → Type 0
LeavesLinkBeneath None old new = ⊤
LeavesLinkBeneath (Some wanted) old new = LeavesLink old new
