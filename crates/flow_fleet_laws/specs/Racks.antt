-- Promise: From call to call: on which racks runs may begin, and begin again.
use Rattle.std.specs.Prelude.{◌≡◌, ◌⊎◌, ℕ, ◌≤◌, List, [], Some, None, IsSome, IsTrue}
use Rattle.cacao_site.specs.DiskCalls.{IsLeft}
use Rattle.cacao_site.specs.Sound.{IsSound}
use Rattle.cacao_site.specs.View.{SiteView}
use Rattle.run_journal.specs.Layout.{Stands}
use Rattle.flow_laws.specs.Beats.{Among}
use Rattle.flow_laws.specs.Fresh.{IsFresh, IsUnused}
use Rattle.flow_laws.specs.Good.{IsGood}
use Rattle.flow_laws.specs.Held.{Speech, IsHeldAs, IsRunLine, plain}
use Rattle.flow_laws.specs.Images.{AnyJournal, HasBegun, HasImage, IsAgent, WasSaid}
use Rattle.flow_laws.specs.Journals.{run_of}
use Rattle.flow_laws.specs.Sessions.{AreCopies, IsStart, StaysFresh}
use Rattle.flow_laws.specs.Since.{AgreedSince}
use Rattle.flow_fleet_laws.specs.Fleets.{IsAt, IsFleetStart, IsItsOwn, IsOwnAt, KeepsOne}
use Rattle.flow_fleet_laws.specs.Speeches.{bare, numbered}
use Rattle.cacao_site.specs.RunViews.{file_of}
use Rattle.flow_fleet_laws.specs.Views.{seen_from}

-- ---- what one rack leaves to the next

-- A rack that a crash of the old one at that beat may leave: the files of filters have images of that beat, its parcels are
-- copies, and its lines had been said. Of journals nothing is said here.
pub record IsRackRestart (old : SiteView) (beat : ℕ) (new : SiteView) : Type 0 where
  pub filters : (agent : ℕ) → IsAgent agent → Among agent old beat new new.disk.beat
  pub puts : AreCopies old beat new
  pub said : (bytes : List ℕ) → WasSaid new new.disk.beat bytes → WasSaid old beat bytes

-- the journal at this place has images of that beat
abbrev pub KeepsJournal : ℕ → SiteView → ℕ → SiteView → Type 0
KeepsJournal place old beat new = Among (file_of place) old beat new new.disk.beat

-- there is no journal at this place: it was taken away, or no run was there
abbrev pub HasNoJournal : ℕ → SiteView → Type 0
HasNoJournal place site = (image : List ℕ) → IsLeft site.disk (file_of place) site.disk.beat image → Stands image []

-- no line was said that would be one of a record of the run, where its journal is empty
abbrev pub IsSilent : Speech → SiteView → Type 0
IsSilent speech site = (bytes : List ℕ) → WasSaid site site.disk.beat bytes → IsRunLine speech None bytes → ⊥

-- what the crash of a rack in memory leaves: images that its files had at its last beat, and its parcels and lines
pub record IsCrashedRack (old new : SiteView) : Type 0 where
  pub left : (file : ℕ) (image : List ℕ) → file ≤ 31 → IsLeft new.disk file new.disk.beat image
      → IsLeft old.disk file old.disk.beat image
  pub link : new.link ≡ old.link
  pub beat : new.disk.beat ≡ old.disk.beat

-- it leaves such a rack, with each journal, at its last beat
abbrev pub CrashesAreRackRestarts : Type 0
CrashesAreRackRestarts = (old new : SiteView) → IsCrashedRack old new
    → IsRackRestart old old.disk.beat new × ((place : ℕ) → place ≤ 15 → KeepsJournal place old old.disk.beat new)

-- ---- the laws for one run

-- where its journal is kept, a run may go on, however it speaks
abbrev pub RunsGoOn : Type 0
RunsGoOn = (speech : Speech) (place : ℕ) (old new : SiteView) (first beat : ℕ)
    → IsRackRestart old beat new → KeepsJournal place old beat new
    → IsGood (seen_from place old) beat → IsHeldAs speech (seen_from place old) first beat
    → IsStart speech (seen_from place new) × StaysFresh (seen_from place old) beat (seen_from place new)

-- Where there is no journal, one may begin under a number that nothing carries, if all agreed for a run at that place or another.
abbrev pub RunsBeginAnew : Type 0
RunsBeginAnew = (speech : Speech) (place other : ℕ) (old new : SiteView) (beat : ℕ)
    → IsRackRestart old beat new → HasNoJournal place new → IsSilent speech new
    → IsGood (seen_from other old) beat → HasImage old (file_of other) beat
    → IsStart speech (seen_from place new)
    × ((run : ℕ) → IsUnused (seen_from place new) run new.disk.beat → IsFresh (seen_from place new) run new.disk.beat)

-- no line was said that would be one of a record of an image's run
abbrev pub HasNoLines : Speech → SiteView → Type 0
HasNoLines speech site = AnyJournal site site.disk.beat
    (λ records. (bytes : List ℕ) → WasSaid site site.disk.beat bytes → IsRunLine speech (run_of records) bytes → ⊥)

-- a run may begin in another form too, where none of that form's lines was said
abbrev pub StartsInAnotherForm : Type 0
StartsInAnotherForm = (speech other : Speech) (site : SiteView) → IsStart speech site → HasNoLines other site → IsStart other site

-- A run may take this number here, whatever its journal has: each image of that has records, whose number counts; or no line was
-- said that would be the run's own, and nothing carries its number.
abbrev pub MayTake : SiteView → ℕ → Type 0
MayTake site run = HasBegun site site.disk.beat ⊎ (IsSilent (numbered run) site × IsUnused site run site.disk.beat)

-- then it may begin under that number as it may under any
abbrev pub StartsUnderAnother : Type 0
StartsUnderAnother = (run other : ℕ) (site : SiteView) → IsSound site → IsTrue site.disk.told → IsStart (numbered run) site
    → MayTake site other → IsStart (numbered other) site × IsFresh site other site.disk.beat

-- a journal that was its own run's at the beat of which its images are is so on the next rack
abbrev pub KeptJournalsStayOwn : Type 0
KeptJournalsStayOwn = (place run : ℕ) (old new : SiteView) (beat : ℕ) → KeepsJournal place old beat new → IsOwnAt old beat place run
    → IsItsOwn new place run

-- A session over one journal, whose every command is its own, speaks without numbers.
abbrev pub SessionsAreBare : Type 0
SessionsAreBare = (run : ℕ) (start site : SiteView) → AgreedSince plain start site → AgreedSince (bare run) start site

abbrev pub BareStartsAreSessions : Type 0
BareStartsAreSessions = (run : ℕ) (site : SiteView)
    → (IsStart plain site → IsStart (bare run) site) × (IsStart (bare run) site → IsStart plain site)

-- ---- the laws for a fleet

-- A rack that no run used, which tells its files and its parcels: each of its files stands for the empty list, no parcel was put,
-- and no line was said that would be one of these runs'.
pub record IsBlankRack (runs : List ℕ) (site : SiteView) : Type 0 where
  pub told : IsTrue site.disk.told
  pub empty : (file : ℕ) (image : List ℕ) → file ≤ 31 → IsLeft site.disk file site.disk.beat image → Stands image []
  pub none_put : site.link.puts ≡ Some []
  pub pending : IsSome site.link.pending
  pub silent : (place run : ℕ) → IsAt runs place run → IsSilent (numbered run) site

-- a fleet may begin there, under any numbers
abbrev pub FleetsBeginOnBlankRacks : Type 0
FleetsBeginOnBlankRacks = (runs : List ℕ) (site : SiteView) → ((place run : ℕ) → IsAt runs place run → place ≤ 15)
    → IsBlankRack runs site → IsFleetStart site runs

-- And so may each run at any place, under any number, if none of its lines was said; its journal is its own.
abbrev pub RunsBeginOnBlankRacks : Type 0
RunsBeginOnBlankRacks = (place run : ℕ) (site : SiteView) → place ≤ 15 → IsBlankRack [] site → IsSilent (numbered run) site
    → IsStart (numbered run) (seen_from place site) × IsFresh (seen_from place site) run site.disk.beat × IsItsOwn site place run

-- How a run of the next fleet may begin. Its journal is kept, and all agreed for it, whether it took part or not; or the journal
-- is kept of a run for which all agreed, under whose number or another, and the new number may be taken; or there is none at its
-- place, nothing carries its number, and no line was said behind that.
pub data MayFollow (start old : SiteView) (beat : ℕ) (new : SiteView) (place run : ℕ) : Type 0 where
  goes_on : KeepsOne numbered start old place run → IsFresh (seen_from place start) run start.disk.beat
      → KeepsJournal place old beat new → MayFollow start old beat new place run
  takes_another : (number : ℕ) → KeepsOne numbered start old place number → KeepsJournal place old beat new
      → MayTake (seen_from place new) run → MayFollow start old beat new place run
  begins_anew : (other number : ℕ) → KeepsOne numbered start old other number → HasNoJournal place new
      → IsSilent (numbered run) new → IsUnused (seen_from place new) run new.disk.beat → MayFollow start old beat new place run

-- where one fleet ended or was cut off, at any beat, the next may begin
abbrev pub FleetsFollow : Type 0
FleetsFollow = (start old : SiteView) (beat : ℕ) (new : SiteView) (runs : List ℕ) → start.disk.beat ≤ beat → beat ≤ old.disk.beat
    → IsSound old → IsRackRestart old beat new → IsTrue new.disk.told → IsSome new.link.puts → IsSome new.link.pending
    → ((place run : ℕ) → IsAt runs place run → MayFollow start old beat new place run) → IsFleetStart new runs
