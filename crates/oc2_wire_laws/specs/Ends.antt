-- Promise: What each of two ends keeps on its own files, whatever it gets.
use Rattle.std.specs.Prelude.{◌≡◌, ◌≢◌, ℕ, true, false, List, [], ◌++◌, Some, All, Contains, ⊤}
use Rattle.cacao_site.specs.DiskCalls.{IsLeft}
use Rattle.cacao_site.specs.View.{SiteView}
use Rattle.cacao_site.specs.declared.parcel.Parcel.{Parcel}
use Rattle.run_records.specs.declared.record.Record.{Record}
use Rattle.run_records.specs.declared.record.Record.TheVariants as entry
use Rattle.run_records.specs.declared.act.Act.{Act}
use Rattle.run_journal.specs.Layout.{Stands}
use Rattle.slpf_rules_acts.specs.Acts.{AreActs}
use Rattle.flow_laws.specs.Acts.{HasReply, IsBytes, ReadsAs}
use Rattle.flow_laws.specs.Journals.{IsJournalRun, IsSent, run_of}
use Rattle.flow_laws.specs.Images.{IsAgent, IsRecords, IsActs, EachJournal, EachFilter, puts_of, puts_to, session_puts}
use Rattle.flow_laws.specs.Held.{IsHeldAs, plain}

-- ---- the end of the engine

-- a reply was got from the agent of the issue, of the journal's run, and its bytes have P
pub record HasGotReply (got : List Parcel) (records : List Record) (issue : ℕ) (P : List ℕ → Type 0) : Type 0 where
  pub parcel : Parcel
  pub has : Contains got parcel
  pub back : parcel.back ≡ true
  pub is_agent : IsAgent parcel.agent
  pub of_run : run_of records ≡ Some parcel.run
  pub of_issue : parcel.issue ≡ issue
  pub bytes : List ℕ
  pub sent : IsSent records issue parcel.agent bytes
  pub reads : P parcel.bytes

-- a Reply is what such a reply reads as
abbrev pub IsOfReplies : List Parcel → List Record → Record → Type 0
IsOfReplies got records (entry.Reply issue moment status rule text) = HasGotReply got records issue (ReadsAs status rule text)
IsOfReplies got records other = ⊤

-- The records go on from those of an image that the journal had at the start. Where there were none they are of this run, and each
-- further Reply is what a reply reads as that was got.
pub record GoesOnFrom (start : SiteView) (run : ℕ) (got : List Parcel) (records : List Record) : Type 0 where
  pub image : List ℕ
  pub left : IsLeft start.disk 0 start.disk.beat image
  pub before : List Record
  pub were : IsRecords image before
  pub added : List Record
  pub is : records ≡ before ++ added
  pub begins : before ≡ [] → records ≢ [] → run_of records ≡ Some run
  pub replies : All (IsOfReplies got records) added

-- each image of the journal stands for a run that goes on so
pub record IsRunFrom (start : SiteView) (run : ℕ) (got : List Parcel) (records : List Record) : Type 0 where
  pub is_run : IsJournalRun records
  pub goes_on : GoesOnFrom start run got records

-- at a beat of a session of this run, which began on `start` and has got these parcels
pub record EngineKeeps (start : SiteView) (run : ℕ) (got : List Parcel) (site : SiteView) (beat : ℕ) : Type 0 where
  pub journal : EachJournal site beat (IsRunFrom start run got)
  pub held : IsHeldAs plain site (puts_of start) beat
  pub only_commands : (at : ℕ) (parcel : Parcel) → Contains (session_puts (puts_of start) site beat) (at, parcel)
      → parcel.back ≡ false

-- where such a session may begin: what it keeps holds, and no parcel that was put carries the number, where the journal may be empty
pub record IsEngineStart (site : SiteView) (run : ℕ) : Type 0 where
  pub keeps : EngineKeeps site run [] site site.disk.beat
  pub unused : (image : List ℕ) → IsLeft site.disk 0 site.disk.beat image → Stands image []
      → (at : ℕ) (parcel : Parcel) → Contains (puts_to site site.disk.beat) (at, parcel) → parcel.run ≢ run

-- ---- the end of the filters

-- an act is on a command that was got for this agent
pub record HasGotCommand (agent : ℕ) (got : List Parcel) (act : Act) : Type 0 where
  pub parcel : Parcel
  pub has : Contains got parcel
  pub command : parcel.back ≡ false
  pub to : parcel.agent ≡ agent
  pub of_run : parcel.run ≡ act.run
  pub of_issue : parcel.issue ≡ act.issue
  pub bytes : parcel.bytes ≡ act.command

-- the acts go on from those of an image that the file had at the start, each on a command that was got
pub record ActsGoOnFrom (start : SiteView) (agent : ℕ) (got : List Parcel) (acts : List Act) : Type 0 where
  pub image : List ℕ
  pub left : IsLeft start.disk agent start.disk.beat image
  pub before : List Act
  pub were : IsActs image before
  pub added : List Act
  pub is : acts ≡ before ++ added
  pub commands : All (HasGotCommand agent got) added

-- each image of a filter's file stands for acts that go on so
pub record AreActsFrom (start : SiteView) (agent : ℕ) (got : List Parcel) (acts : List Act) : Type 0 where
  pub are_acts : AreActs acts
  pub go_on : ActsGoOnFrom start agent got acts

-- the act of a reply stands in each image of its agent's file
pub record IsActedEverywhere (site : SiteView) (beat : ℕ) (parcel : Parcel) : Type 0 where
  pub is_agent : IsAgent parcel.agent
  pub each : EachFilter site beat parcel.agent (λ acts. HasReply acts parcel.run parcel.issue (IsBytes parcel.bytes))

-- at a beat of a session of the filters, which began on `start` and has got these parcels
pub record FiltersKeep (start : SiteView) (got : List Parcel) (site : SiteView) (beat : ℕ) : Type 0 where
  pub files : (agent : ℕ) → IsAgent agent → EachFilter site beat agent (AreActsFrom start agent got)
  pub replies : (at : ℕ) (parcel : Parcel) → Contains (puts_to site beat) (at, parcel) → parcel.back ≡ true
      → IsActedEverywhere site beat parcel
  pub only_replies : (at : ℕ) (parcel : Parcel) → Contains (session_puts (puts_of start) site beat) (at, parcel)
      → parcel.back ≡ true

-- where such a session may begin: what it keeps holds
abbrev pub IsFiltersStart : SiteView → Type 0
IsFiltersStart site = FiltersKeep site [] site site.disk.beat
