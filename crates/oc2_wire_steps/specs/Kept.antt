-- Promise: What the engine's end of a wire keeps over all that happens in its session.
use Rattle.std.specs.Prelude.{◌≡◌, ◌≢◌, ℕ, ◌≤◌, IsSome, IsTrue, List, [], drop, Contains}
use Rattle.cacao_site.specs.DiskCalls.{IsLeft, OnlyFile}
use Rattle.cacao_site.specs.Sound.{IsSound}
use Rattle.cacao_site.specs.View.{SiteView}
use Rattle.cacao_site.specs.declared.parcel.Parcel.{Parcel}
use Rattle.run_journal.specs.Layout.{Stands}
use Rattle.flow_laws.specs.Images.{puts_to, told_list}
use Rattle.flow_world_steps.specs.Steps.{Steps}
use Rattle.flow_world_steps.specs.Worlds.{World, holds, opened}
use Rattle.oc2_wire_laws.specs.Ends.{IsEngineStart}
use Rattle.oc2_wire_laws.specs.Since.{EngineKeepsSince, takes_of}

-- as long as an image of the journal may stand for the empty list, no parcel that was put carries the number
abbrev pub IsUnusedYet : SiteView → ℕ → Type 0
IsUnusedYet site run = (image : List ℕ) → IsLeft site.disk 0 site.disk.beat image → Stands image []
    → (at : ℕ) (parcel : Parcel) → Contains (puts_to site site.disk.beat) (at, parcel) → parcel.run ≢ run

-- A session of this run that began on `start`, with no filter beside its engine, has kept what the end promises. A parcel in hand
-- was taken in it.
pub record HasKeptEngine (start : SiteView) (run : ℕ) (w : World) : Type 0 where
  pub kept : EngineKeepsSince start run w.site
  pub unused : IsUnusedYet w.site run
  pub more : takes_of start ≤ takes_of w.site
  pub of_run : w.engine.history.seen.run ≡ run
  pub alone : w.filters ≡ []
  pub in_hand : (beat : ℕ) (parcel : Parcel) → w.phase ≡ holds beat parcel
      → (beat ≤ w.site.disk.beat) × Contains (drop (takes_of start) (told_list w.site.link.taken)) (beat, parcel)

-- Whatever happens, and however it ends: what has kept it keeps it.
abbrev pub StepsKeepEngine : Type 0
StepsKeepEngine = (start : SiteView) (run : ℕ) (a b : World) → HasKeptEngine start run a → Steps a b → HasKeptEngine start run b

-- a session of the end may begin here, under this number, on a site that tells its files and its own parcels
pub record IsToldStart (site : SiteView) (run : ℕ) : Type 0 where
  pub start : IsEngineStart site run
  pub told : IsTrue site.disk.told
  pub puts : IsSome site.link.puts
  pub taken : IsSome site.link.taken

-- the journal was opened, or could not be: each image of it on the way is one that it had, and nothing else changed
abbrev pub OpensJournal : SiteView → SiteView → Type 0
OpensJournal old new = OnlyFile 0 old new (IsLeft old.disk 0 old.disk.beat)

-- At each beat of an opening, also of one that refuses, what the end promises is kept.
abbrev pub OpeningIsKept : Type 0
OpeningIsKept = (start new : SiteView) (run : ℕ) → IsSound start → IsToldStart start run → OpensJournal start new
    → EngineKeepsSince start run new

-- a session begins, once its journal is open
pub record BeginsOn (start : SiteView) (run : ℕ) (w : World) : Type 0 where
  pub opens : OpensJournal start w.site
  pub phase : w.phase ≡ opened
  pub of_run : w.engine.history.seen.run ≡ run
  pub alone : w.filters ≡ []

abbrev pub BeginsKept : Type 0
BeginsKept =
    (start : SiteView) (run : ℕ) (w : World) → IsSound start → IsToldStart start run → BeginsOn start run w → HasKeptEngine start run w
