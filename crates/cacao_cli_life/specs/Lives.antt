-- Promise: Lives of the files of a run: calls of the program, crashes, and journals that are taken away, from blank files on.
use Rattle.std.specs.Prelude.{ℕ, ◌≤◌, ◌⊎◌, IsSome, IsTrue, List, [], Option, Some, None, ⊤}
use Rattle.cacao_site.specs.DiskCalls.{IsLeft}
use Rattle.cacao_site.specs.Sound.{IsSound}
use Rattle.cacao_site.specs.View.{SiteView}
use Rattle.run_journal.specs.Layout.{Stands}
use Rattle.flow_laws.specs.Beats.{Among}
use Rattle.flow_laws.specs.Fresh.{IsFresh, IsUnused}
use Rattle.flow_laws.specs.Good.{IsGood}
use Rattle.flow_laws.specs.Held.{IsHeldAs, IsRunLine, plain}
use Rattle.flow_laws.specs.Images.{HasImage, WasSaid, puts_of}
use Rattle.flow_laws.specs.Sessions.{AreCopies, IsBlank, IsRestart}
use Rattle.flow_world.specs.Sessions.{KeepsAgreement}
use Rattle.cacao_cli_ends.specs.Asked.{Asked, runs}
use Rattle.cacao_cli_status_laws.specs.Agreement.{MayBegin}

-- ---- what happens

-- the site tells its files, the parcels put and those that are pending
pub record TellsAll (site : SiteView) : Type 0 where
  pub files : IsTrue site.disk.told
  pub puts : IsSome site.link.puts
  pub pending : IsSome site.link.pending

-- what a site tells where a call begins: its files, and for `run` its parcels besides
abbrev pub Tells : Option Asked → SiteView → Type 0
Tells (Some (runs wanted)) site = TellsAll site
Tells other site = IsTrue site.disk.told

-- One number is used for one run: the number of a run is fresh where the call begins, as each number is where the journal has
-- begun, or no act and no parcel carried it when the journal last began empty. Other words name no run.
abbrev pub HasItsNumber : Option Asked → SiteView → SiteView → Type 0
HasItsNumber (Some (runs wanted)) origin site =
    IsFresh site wanted.run site.disk.beat ⊎ IsUnused origin wanted.run origin.disk.beat
HasItsNumber other origin site = ⊤

-- what the program promises of a call: where all agrees when it begins, all agrees at each of its beats
abbrev pub KeepsAll : Option Asked → SiteView → SiteView → Type 0
KeepsAll wanted old new = MayBegin wanted old → KeepsAgreement old new

-- File 0 was taken away: it stands for the empty list, and no line of a record was said on the new site. The other files have
-- images of that beat, and parcels are copies (the pending ones too: those of a site were put on it, `IsSound`).
pub record TakesJournalAway (old : SiteView) (beat : ℕ) (new : SiteView) : Type 0 where
  pub empty : (image : List ℕ) → IsLeft new.disk 0 new.disk.beat image → Stands image []
  pub images : (file : ℕ) → 1 ≤ file → file ≤ 16 → Among file old beat new new.disk.beat
  pub puts : AreCopies old beat new
  pub silent : (bytes : List ℕ) → WasSaid new new.disk.beat bytes → IsRunLine plain None bytes → ⊥

-- A life up to a site. `origin` is the site on which the journal last began empty, `start` the one on which the last call began,
-- or which the last crash left. A crash comes at any beat from there on: behind a call, or in the middle of one. A call that was
-- cut off is told as the same call gone on to its return: it returns, whatever the device answers, no later call of the disk
-- changes what an earlier beat may leave (`past` of `GoesOn` in `cacao_site`), and puts and lines only join. A call of the disk
-- that was cut in itself is the beat behind it, at which its write may be torn or absent.
pub data Life : SiteView → SiteView → SiteView → Type 0 where
  begins : (site : SiteView) → IsBlank plain site → Life site site site
  calls : (origin start old new : SiteView) (wanted : Option Asked) → Life origin start old → Tells wanted old
      → HasItsNumber wanted origin old → KeepsAll wanted old new → Life origin old new
  crashes : (origin start old new : SiteView) (beat : ℕ) → Life origin start old → start.disk.beat ≤ beat → beat ≤ old.disk.beat
      → IsRestart old beat new → Life origin new new
  loses_journal : (origin start old new : SiteView) (beat : ℕ) → Life origin start old → start.disk.beat ≤ beat
      → beat ≤ old.disk.beat → HasImage old 0 beat → TakesJournalAway old beat new → Life new new new

-- ---- what holds of it

-- All agrees at a beat: what a crash may leave is good, and what was acknowledged is held. A number of a run that nothing carried
-- when the journal last began empty is fresh, and so is one that was fresh when the last call began.
pub record AllAgrees (origin start site : SiteView) (beat : ℕ) : Type 0 where
  pub good : IsGood site beat
  pub held : IsHeldAs plain site (puts_of start) beat
  pub fresh : (run : ℕ) → IsUnused origin run origin.disk.beat → IsFresh site run beat
  pub kept : (run : ℕ) → IsFresh start run start.disk.beat → IsFresh site run beat

-- at each beat of the last call
pub record AgreesThroughout (origin start site : SiteView) : Type 0 where
  pub later : start.disk.beat ≤ site.disk.beat
  pub each : (beat : ℕ) → start.disk.beat ≤ beat → beat ≤ site.disk.beat → AllAgrees origin start site beat

-- ---- the theorem

-- The beats of an earlier call are those of the life up to its return.
abbrev pub EachLifeAgrees : Type 0
EachLifeAgrees = (origin start site : SiteView) → Life origin start site → AgreesThroughout origin start site

-- and so each next call may begin
abbrev pub EachCallMayBegin : Type 0
EachCallMayBegin = (origin start site : SiteView) (wanted : Option Asked) → Life origin start site → Tells wanted site
    → HasItsNumber wanted origin site → MayBegin wanted site

-- a life may begin here
pub record BeginsLife (site : SiteView) : Type 0 where
  pub tells : TellsAll site
  pub life : Life site site site

-- where its files are told, a crash leaves some image of each, at each beat up to now: so a journal may be taken away at any
abbrev pub EachBeatHasImages : Type 0
EachBeatHasImages = (site : SiteView) (file beat : ℕ) → IsSound site → IsTrue site.disk.told → beat ≤ site.disk.beat
    → HasImage site file beat
