-- Promise: From beat to beat of a session of the engine alone: what keeps what it promises.
use Rattle.std.specs.Prelude.{◌≡◌, ◌≢◌, ◌⊎◌, ℕ, List, [], ◌∷◌, ◌++◌, Some, None, Contains}
use Rattle.cacao_site.specs.DiskCalls.{IsLeft}
use Rattle.cacao_site.specs.View.{SiteView}
use Rattle.cacao_site.specs.declared.parcel.Parcel.{Parcel}
use Rattle.run_records.specs.declared.record.Record.{Record}
use Rattle.flow_laws.specs.Beats.{OnlyChanges, PutsCommand, SaysLine}
use Rattle.flow_laws.specs.Held.{plain}
use Rattle.flow_laws.specs.Images.{HasImage, IsRecords, puts_to}
use Rattle.flow_laws.specs.Journals.{IsJournalRun, run_of}
use Rattle.oc2_wire_laws.specs.Ends.{EngineKeeps, IsOfReplies}

-- Each image of the journal stands for the records, and later for them or for them and one more, which makes a run again. A first
-- record is of the session's run, and no parcel that was put carries its number; a Reply is of a reply that was got.
pub record EngineGains (run : ℕ) (got : List Parcel) (earlier : SiteView) (early : ℕ) (later : SiteView) (late : ℕ)
    (records : List Record) (next : Record) : Type 0 where
  pub only : OnlyChanges plain (Some 0) None None earlier early later late
  pub some : HasImage earlier 0 early
  pub before : (image : List ℕ) → IsLeft earlier.disk 0 early image → IsRecords image records
  pub now : (image : List ℕ) → IsLeft later.disk 0 late image → IsRecords image records ⊎ IsRecords image (records ++ next ∷ [])
  pub is_run : IsJournalRun (records ++ next ∷ [])
  pub first : records ≡ [] → run_of (next ∷ []) ≡ Some run
  pub unused : records ≡ [] → (at : ℕ) (parcel : Parcel) → Contains (puts_to earlier early) (at, parcel) → parcel.run ≢ run
  pub reply : IsOfReplies got (records ++ next ∷ []) next

abbrev pub RecordIsKept : Type 0
RecordIsKept =
    (start : SiteView) (run : ℕ) (got : List Parcel) (earlier : SiteView) (early : ℕ) (later : SiteView) (late : ℕ) (records : List Record)
    (next : Record) → EngineGains run got earlier early later late records next → EngineKeeps start run got earlier early
    → EngineKeeps start run got later late

-- from an earlier beat to a later one
abbrev pub IsKept : (SiteView → ℕ → SiteView → ℕ → Type 0) → Type 0
IsKept Changes =
    (start : SiteView) (run : ℕ) (got : List Parcel) (earlier : SiteView) (early : ℕ) (later : SiteView) (late : ℕ)
    → Changes earlier early later late → EngineKeeps start run got earlier early → EngineKeeps start run got later late

-- where images shrink, a command is put whose Send stands open everywhere, or the line of a record is said
abbrev pub ShrunkIsKept : Type 0
ShrunkIsKept = IsKept (OnlyChanges plain None None None)

abbrev pub CommandIsKept : Type 0
CommandIsKept = (parcel : Parcel) → IsKept (λ earlier early later late. PutsCommand plain earlier early later late parcel)

abbrev pub LineIsKept : Type 0
LineIsKept = (line : List ℕ) → IsKept (λ earlier early later late. SaysLine plain earlier early later late line)

-- where more was got
abbrev pub MoreIsGot : Type 0
MoreIsGot = (start : SiteView) (run : ℕ) (got more : List Parcel) (site : SiteView) (beat : ℕ)
    → ((parcel : Parcel) → Contains got parcel → Contains more parcel) → EngineKeeps start run got site beat
    → EngineKeeps start run more site beat
