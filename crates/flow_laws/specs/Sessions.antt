-- Promise: From session to session: which sites a session may begin on.
use Rattle.std.specs.Prelude.{◌≡◌, ℕ, ◌≤◌, List, [], drop, None, Contains}
use Rattle.cacao_site.specs.DiskCalls.{IsLeft}
use Rattle.cacao_site.specs.Sound.{IsInTime}
use Rattle.cacao_site.specs.View.{SiteView}
use Rattle.cacao_site.specs.declared.parcel.Parcel.{Parcel}
use Rattle.run_journal.specs.Layout.{Stands}
use Rattle.flow_laws.specs.Images.{WasSaid, HasImage, up_to, told_list, puts_to, puts_of, session_puts}
use Rattle.flow_laws.specs.Good.{IsGood}
use Rattle.flow_laws.specs.Held.{Speech, IsHeldAs, IsRunLine}
use Rattle.flow_laws.specs.Fresh.{IsUnused, IsFresh}
use Rattle.flow_laws.specs.Beats.{Among}

-- each parcel put is a copy of one that had been put on the old site up to that beat
abbrev pub AreCopies : SiteView → ℕ → SiteView → Type 0
AreCopies old beat new =
    (at : ℕ) (parcel : Parcel) → Contains (puts_to new new.disk.beat) (at, parcel)
    → (was : ℕ) × Contains (puts_to old beat) (was, parcel)

-- A site that a crash of the old one at that beat may leave: its files have images of that beat, its parcels are copies, and
-- its lines had been said.
pub record IsRestart (old : SiteView) (beat : ℕ) (new : SiteView) : Type 0 where
  pub images : (file : ℕ) → file ≤ 16 → Among file old beat new new.disk.beat
  pub puts : AreCopies old beat new
  pub said : (bytes : List ℕ) → WasSaid new new.disk.beat bytes → WasSaid old beat bytes

-- what the crash of a site in memory leaves: images that its files had at its last beat, and its parcels and lines
pub record IsCrashed (old new : SiteView) : Type 0 where
  pub left : (file : ℕ) (image : List ℕ) → file ≤ 16 → IsLeft new.disk file new.disk.beat image
      → IsLeft old.disk file old.disk.beat image
  pub link : new.link ≡ old.link
  pub beat : new.disk.beat ≡ old.disk.beat

-- The same with a journal that was taken away: it stands for the empty list, and no line of a record was said on the new site.
pub record IsNewRun (speech : Speech) (old : SiteView) (beat : ℕ) (new : SiteView) : Type 0 where
  pub some : HasImage old 0 beat
  pub empty : (image : List ℕ) → IsLeft new.disk 0 new.disk.beat image → Stands image []
  pub images : (file : ℕ) → 1 ≤ file → file ≤ 16 → Among file old beat new new.disk.beat
  pub puts : AreCopies old beat new
  pub silent : (bytes : List ℕ) → WasSaid new new.disk.beat bytes → IsRunLine speech None bytes → ⊥

-- a session may begin here: all agrees, and nothing was put in it yet
pub record IsStart (speech : Speech) (site : SiteView) : Type 0 where
  pub good : IsGood site site.disk.beat
  pub held : IsHeldAs speech site (puts_of site) site.disk.beat

-- A site that no session used: each of its files stands for the empty list, no parcel was put, and no line of a record was said.
pub record IsBlank (speech : Speech) (site : SiteView) : Type 0 where
  pub empty : (file : ℕ) (image : List ℕ) → file ≤ 16 → IsLeft site.disk file site.disk.beat image → Stands image []
  pub none_put : told_list site.link.puts ≡ []
  pub silent : (bytes : List ℕ) → WasSaid site site.disk.beat bytes → IsRunLine speech None bytes → ⊥

-- numbers of runs that were fresh stay so
abbrev pub StaysFresh : SiteView → ℕ → SiteView → Type 0
StaysFresh old beat new = (run : ℕ) → IsFresh old run beat → IsFresh new run new.disk.beat

-- the first session may begin on a blank site, under any number
abbrev pub BeginsOnBlankFiles : Type 0
BeginsOnBlankFiles = (speech : Speech) (site : SiteView) → IsBlank speech site
    → IsStart speech site × ((run : ℕ) → IsFresh site run site.disk.beat)

-- where a session ended or was cut off another may begin
abbrev pub GoesOnAfterACrash : Type 0
GoesOnAfterACrash =
    (speech : Speech) (old new : SiteView) (first beat : ℕ) → IsRestart old beat new → IsGood old beat
    → IsHeldAs speech old first beat → IsStart speech new × StaysFresh old beat new

-- a crash of a site in memory leaves such a site, at its last beat
abbrev pub CrashesAreRestarts : Type 0
CrashesAreRestarts = (old new : SiteView) → IsCrashed old new → IsRestart old old.disk.beat new

-- Where puts stand in the order of their beats, those of a session are the list past the first ones, up to that beat.
abbrev pub SessionPutsArePast : Type 0
SessionPutsArePast = (first : ℕ) (site : SiteView) (beat : ℕ) → IsInTime site.disk.beat site.link.puts
    → session_puts first site beat ≡ up_to beat (drop first (told_list site.link.puts))

-- a run may begin where another's journal was taken away, under a number that nothing carries
abbrev pub BeginsAnew : Type 0
BeginsAnew =
    (speech : Speech) (old new : SiteView) (beat : ℕ) → IsNewRun speech old beat new → IsGood old beat
    → IsStart speech new × ((run : ℕ) → IsUnused new run new.disk.beat → IsFresh new run new.disk.beat)
