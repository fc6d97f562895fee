-- Promise: The filters of a run that stand in this process, for an engine in another.
use Rattle.std.specs.Prelude.{◌≡◌, ◌≢◌, ◌⊎◌, ℕ, ◌≤◌, ◌++◌, Bool, true, false, List, codes, decimal, IsTrue, Result, Ok, Err}
use Rattle.cacao_site.specs.Counts.{Rose}
use Rattle.cacao_site.specs.LinkCalls.{GainsAll}
use Rattle.cacao_site.specs.declared.parcel.Parcel.{Parcel}
use Rattle.cacao_site.specs.View.{SiteView}
use Rattle.oc2_wire.specs.Answering.{Served, TellsLink}
use Rattle.oc2_wire.specs.Reading.{FiltersKeepByLines}
use Rattle.oc2_wire.specs.Turns.{Goes}
use Rattle.oc2_wire.specs.declared.error.WireError.{WireError}
use Rattle.oc2_wire.specs.declared.error.WireError.TheVariants as error
use Rattle.oc2_wire_laws.specs.Ends.{IsFiltersStart}
use Rattle.oc2_wire_laws.specs.Since.{FiltersKeepSince}
use Rattle.oc2_wire_link.specs.Peering.{IsAsTold, PeersView, accepted, bound}
use Rattle.oc2_wire_site.specs.LineLinks.{IsLineLink}
use Rattle.oc2_wire_site.specs.ReadLines.{KeepsLinesSince}
use Rattle.oc2_wire_site.specs.Wires.{WireView}
use Rattle.cacao_cli_words.specs.Words.{Text}
use Rattle.cacao_cli_ends.specs.Ends.{End, done, no_memory, peers_failed, unsaid}
use Rattle.cacao_cli_ends.specs.Lines.{FailsToSay, SaysLine}
use Rattle.cacao_cli_peers.specs.Pairing.{OverSite, wire_end}
use Rattle.cacao_cli_peers.specs.PeerCounts.{Calls, Closes, behind_close}

-- the line that tells the port
abbrev pub port_line : ℕ → Text
port_line port = codes "port " ++ (decimal port ++ codes "\n")

-- how a call ends whose filters were served so
abbrev pub served_end : Result ℕ WireError → End
served_end (Ok acts) = done
served_end (Err error) = wire_end error

-- what became of the link that was accepted: its end was served, and it was closed, or could not be
pub record ServesLink (before after : PeersView) (old new : SiteView) (last : End) : Type 0 where
  pub first : WireView
  pub wire : WireView
  pub over : OverSite false old new first wire
  pub how : Result ℕ WireError
  pub served : Served how first wire
  pub turns : Goes how first wire
  pub kept : IsTrue first.site.disk.told → IsFiltersStart first.site → FiltersKeepSince first.site wire.site
  pub lines : IsLineLink wire.lines
  pub link : how ≢ Err error.Flooded → TellsLink how wire
  pub read : (taken puts : List (ℕ × Parcel)) → GainsAll first.site.link.taken taken wire.site.link.taken
      → GainsAll first.site.link.puts puts wire.site.link.puts → KeepsLinesSince first wire taken puts
  pub by_lines : IsTrue first.site.disk.told → IsFiltersStart first.site → ∥ FiltersKeepByLines first wire ∥₁
  pub failed : how ≡ Err error.Disk → Rose first.site.disk.faults wire.site.disk.faults
  pub steady : how ≢ Err error.Disk → wire.site.disk.faults ≡ first.site.disk.faults
  pub fails : Bool
  pub closes : Closes wire.lines.link fails before after
  pub ends : last ≡ behind_close fails (served_end how)

-- one link was accepted, or could not be
pub record Accepts (before after : PeersView) (old new : SiteView) (last : End) : Type 0 where
  pub between : PeersView
  pub accepts : Calls accepted false before between
  pub serves : ServesLink between after old new last
  pub gives : IsAsTold before.next serves.first.lines.link

pub record FailsToAccept (before after : PeersView) (old new : SiteView) (last : End) : Type 0 where
  pub calls : Calls accepted true before after
  pub same : new ≡ old
  pub ends : last ≡ peers_failed

-- the port was said, and then a link accepted
pub record SaysPort (port : ℕ) (before after : PeersView) (old new : SiteView) (last : End) : Type 0 where
  pub said : SiteView
  pub says : SaysLine (port_line port) old said
  pub accepts : Accepts before after said new last ⊎ FailsToAccept before after said new last

-- or it could not be said, or memory was wanted for its line
pub record LeavesPort (before after : PeersView) (old new : SiteView) (last : End) : Type 0 where
  pub peers : after ≡ before
  pub why : (FailsToSay old new × (last ≡ unsaid)) ⊎ ((new ≡ old) × (last ≡ no_memory))

pub record Binds (before after : PeersView) (old new : SiteView) (last : End) : Type 0 where
  pub between : PeersView
  pub binds : Calls bound false before between
  pub next : between.next ≡ before.next
  pub port : ℕ
  pub is : IsAsTold between.port port
  pub there : 1 ≤ port
  pub goes_on : SaysPort port between after old new last ⊎ LeavesPort between after old new last

pub record FailsToBind (before after : PeersView) (old new : SiteView) (last : End) : Type 0 where
  pub calls : Calls bound true before after
  pub same : new ≡ old
  pub ends : last ≡ peers_failed

-- memory was wanted before any call
pub record WantsToServe (before after : PeersView) (old new : SiteView) (last : End) : Type 0 where
  pub peers : after ≡ before
  pub same : new ≡ old
  pub ends : last ≡ no_memory

abbrev pub ServesSo : PeersView → PeersView → SiteView → SiteView → End → Type 0
ServesSo before after old new last =
    Binds before after old new last ⊎ (FailsToBind before after old new last ⊎ WantsToServe before after old new last)
