-- Promise: A session whose filters stand in another process, from the texts that were read.
use Rattle.std.specs.Prelude.{◌≡◌, ◌≢◌, ◌⊎◌, ℕ, Bool, true, false, List, Option, Result}
use Rattle.cacao_check.specs.Fits.{FitsKind}
use Rattle.cacao_site.specs.LinkCalls.{GainsAll}
use Rattle.cacao_site.specs.View.{SiteView}
use Rattle.cacao_site.specs.declared.parcel.Parcel.{Parcel}
use Rattle.flow_core.specs.Setups.{AreAccepted}
use Rattle.flow_core_rules.specs.Accepted.{Accepted}
use Rattle.flow_core_rules.specs.Givens.{Given}
use Rattle.flow_engine_answers.specs.declared.answers.OperatorAnswer.{OperatorAnswer}
use Rattle.flow_world_parts.specs.declared.close.Close.{Close}
use Rattle.oc2_wire.specs.Prefixes.{GoesOn}
use Rattle.oc2_wire.specs.Reading.{KeepsByLines}
use Rattle.oc2_wire.specs.Serving.{HasRefused, HasServed}
use Rattle.oc2_wire.specs.declared.error.WireError.{WireError}
use Rattle.oc2_wire.specs.declared.error.WireError.TheVariants as error
use Rattle.oc2_wire_laws.specs.Since.{EngineKeepsSince}
use Rattle.oc2_wire_link.specs.Links.{LinkView}
use Rattle.oc2_wire_link.specs.Peering.{IsAsTold, PeersView, started}
use Rattle.oc2_wire_site.specs.Marks.{WireMark, marked_site}
use Rattle.oc2_wire_site.specs.ReadLines.{KeepsLinesSince}
use Rattle.oc2_wire_site.specs.Wires.{WireView, new_wire, wire_view}
use Rattle.oc2_wire.specs.Kept.{IsToldStart}
use Rattle.cacao_cli_ends.specs.Ends.{End, damaged, disk_failed, flooded, no_memory, other_book, other_run, past, peers_failed, unsaid}
use Rattle.cacao_cli_ends.specs.Work.{Start, starts, work}
use Rattle.cacao_cli_ends.specs.declared.limit.Limit.TheVariants.{LineBytes}
use Rattle.cacao_cli_session.specs.Holding.{AreAnswers, close_end, limit_of}
use Rattle.cacao_cli_ends.specs.Asked.{Asked}
use Rattle.cacao_cli_ends.specs.Files.{NamedText, ReadsTo, ShelfCall, files_of}
use Rattle.cacao_cli_starts.specs.Ended.{NoSession, PerformedBy}
use Rattle.cacao_cli_peers.specs.PeerCounts.{Calls, Closes, behind_close}
use Rattle.cacao_cli_peers.specs.SitesBeneath.{LeavesLink, beneath}

-- how a call ends whose end of a wire refused
abbrev pub wire_end : WireError → End
wire_end error.Disk = disk_failed
wire_end (error.Damaged file place) = damaged file place
wire_end (error.OtherRun held asked) = other_run held asked
wire_end (error.OtherBook index) = other_book index
wire_end (error.Limit what) = past (limit_of what)
wire_end error.Say = unsaid
wire_end error.Flooded = flooded
wire_end error.TooLong = past LineBytes
wire_end error.Link = peers_failed
wire_end error.Memory = no_memory

-- A wire was made over the site and a new link; and this is what it came to, over the site as it is now. (The site was lent to it
-- without its link, and its disk marked: the label tells so, which no call changes.) The link of the site was not used.
pub record OverSite (asking : Bool) (old new : SiteView) (first last : WireView) : Type 0 where
  pub name : ℕ
  pub link : LinkView
  pub begins : first ≡ new_wire (beneath name old 0 old) link asking
  pub puts : List (ℕ × Parcel)
  pub taken : List (ℕ × Parcel)
  pub empty : List ℕ
  pub mishaps : ℕ
  pub mark : WireMark
  pub site : last.site ≡ wire_view (marked_site asking mark (beneath name old 0 new)) puts taken empty mishaps
  pub leaves : LeavesLink old new

-- the session closed, or a call refused
pub record ClosesOver (given : Given) (run most : ℕ) (answers : List OperatorAnswer) (old new : SiteView) (how : End) : Type 0 where
  pub close : Close
  pub served : HasServed close given run most answers old new
  pub ends : how ≡ close_end close

pub record RefusesOver (given : Given) (run most : ℕ) (answers : List OperatorAnswer) (old new : SiteView) (how : End) : Type 0 where
  pub error : WireError
  pub refused : HasRefused error given run most answers old new
  pub ends : how ≡ wire_end error

-- And the engine's end kept what it promises at each beat, and its file goes on from what it was, where it did when the session
-- began; a failed disk is told.
pub record SessionOver (given : Given) (run most : ℕ) (answers : List OperatorAnswer) (old new : SiteView) (how : End) : Type 0 where
  pub held : ClosesOver given run most answers old new how ⊎ RefusesOver given run most answers old new how
  pub kept : IsToldStart old run → EngineKeepsSince old run new
  pub goes_on : IsToldStart old run → GoesOn most old new
  pub steady : how ≢ disk_failed → new.disk.faults ≡ old.disk.faults

-- no peer came to be
pub record Unstarted (before after : PeersView) (old new : SiteView) (last : End) : Type 0 where
  pub calls : Calls started true before after
  pub same : new ≡ old
  pub ends : last ≡ peers_failed

-- A peer was started, and a session held over a wire on the link to it; then that link was closed, or could not be. What was taken
-- and put are the parcels of the lines that came and went over it, and by these lines the end has kept what it promises.
pub record Paired (given : Given) (run most : ℕ) (answers : List OperatorAnswer) (before after : PeersView)
    (old new : SiteView) (last : End) : Type 0 where
  pub between : PeersView
  pub starts : Calls started false before between
  pub first : WireView
  pub wire : WireView
  pub over : OverSite true old new first wire
  pub gives : IsAsTold before.next first.lines.link
  pub how : End
  pub session : SessionOver given run most answers first.site wire.site how
  pub lines : (taken puts : List (ℕ × Parcel)) → GainsAll first.site.link.taken taken wire.site.link.taken
      → GainsAll first.site.link.puts puts wire.site.link.puts → KeepsLinesSince first wire taken puts
  pub by_lines : IsToldStart first.site run → ∥ KeepsByLines run first wire ∥₁
  pub fails : Bool
  pub closes : Closes wire.lines.link fails between after
  pub ends : last ≡ behind_close fails how

abbrev pub PairsSo : Given → ℕ → ℕ → List OperatorAnswer → PeersView → PeersView → SiteView → SiteView → End → Type 0
PairsSo given run most answers before after old new last =
    Unstarted before after old new last ⊎ Paired given run most answers before after old new last

-- The texts were accepted, and a session was held with what they give.
pub record HoldsPair (before after : PeersView) (start : Start) (old new : SiteView) (last : End) : Type 0 where
  pub answers : List OperatorAnswer
  pub are : AreAnswers start answers
  pub given : Given
  pub accepted : Accepted AreAccepted FitsKind start.books start.bind given
  pub holds : PairsSo given start.run start.most answers before after old new last

-- the texts that were asked for gave this start, and a session was held with it
pub record HoldsAsked (asked : Option Asked) (shelf : ShelfCall) (before after : PeersView) (old new : SiteView) (last : End) : Type 0 where
  pub read : Result (List NamedText) End
  pub reads : ReadsTo shelf (files_of asked) read
  pub start : Start
  pub is : work asked read ≡ starts start
  pub holds : HoldsPair before after start old new last

-- All but the last line: without a session a `run` with these words would have gone so, and no peer was called; or one was held.
abbrev pub GoesAsPair : Option Asked → ShelfCall → PeersView → PeersView → SiteView → SiteView → End → Type 0
GoesAsPair asked shelf before after old new last =
    (PerformedBy NoSession asked shelf old new last × (after ≡ before)) ⊎ HoldsAsked asked shelf before after old new last
