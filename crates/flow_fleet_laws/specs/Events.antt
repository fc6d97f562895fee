-- Promise: What happens on a rack under runs that go on side by side, call by call, as far as agreement goes.
use Rattle.std.specs.Prelude.{◌≡◌, ◌⊎◌, ℕ, ◌≤◌, true, false, List, [], ◌∷◌, ◌++◌, All, Contains, Some, IsTrue}
use Rattle.cacao_site.specs.View.{SiteView}
use Rattle.cacao_site.specs.declared.parcel.Parcel.{Parcel}
use Rattle.cacao_site.specs.DiskCalls.{IsLeft, KeepsDisk, OnlyFile}
use Rattle.cacao_site.specs.LinkCalls.{Gains}
use Rattle.cacao_site.specs.SiteCalls.{Puts}
use Rattle.cacao_site.specs.Sound.{IsSound}
use Rattle.run_records.specs.declared.record.Record.{Record}
use Rattle.run_records.specs.declared.act.Act.{Act}
use Rattle.slpf_rules_acts.specs.Acts.{IsOther, IsReplied}
use Rattle.flow_laws.specs.Acts.{HasReply, IsBytes}
use Rattle.flow_laws.specs.Beats.{IsFurther}
use Rattle.flow_laws.specs.Held.{HasOpenSend, IsLineOf}
use Rattle.flow_laws.specs.Fresh.{IsFresh}
use Rattle.flow_laws.specs.Images.{EachFilter, EachJournal, IsActs, IsAgent, IsRecords, puts_of, puts_to, session_puts}
use Rattle.flow_laws.specs.Journals.{run_of}
use Rattle.flow_laws.specs.Sessions.{IsStart}
use Rattle.flow_laws.specs.Since.{Agreed}
use Rattle.flow_fleet_laws.specs.Fleets.{AreRuns, IsAt, IsBystander, IsFleetStart, IsItsOwn, IsOwnAt, KeepsBystander, KeepsEach, KeepsOne}
use Rattle.flow_fleet_laws.specs.Lines.{IsNoRecords}
use Rattle.flow_fleet_laws.specs.Shrinking.{OnlyShrinks}
use Rattle.flow_fleet_laws.specs.Speeches.Form.{with_numbers}
use Rattle.flow_fleet_laws.specs.Speeches.{Form, spoken}
use Rattle.cacao_site.specs.RunViews.{file_of}
use Rattle.flow_fleet_laws.specs.Views.{seen_from}

-- ---- one call

-- The journal at a place may have gained a record, which is a further one where all agrees there and the number was fresh. A
-- first record is of the run's number.
pub record RecordBy (form : Form) (place run : ℕ) (start old new : SiteView) : Type 0 where
  pub records : List Record
  pub next : Record
  pub only : OnlyFile (file_of place) old new (λ image. IsRecords image records ⊎ IsRecords image (records ++ next ∷ []))
  pub before : (image : List ℕ) → IsLeft old.disk (file_of place) old.disk.beat image → IsRecords image records
  pub further : IsFresh (seen_from place start) run start.disk.beat
      → Agreed (spoken form run) (seen_from place start) (seen_from place old) old.disk.beat
      → IsFurther (spoken form run) (seen_from place old) old.disk.beat records next
  pub begins : records ≡ [] → run_of (next ∷ []) ≡ Some run

-- the line of a record was said
pub record LineBy (form : Form) (place run : ℕ) (old new : SiteView) : Type 0 where
  pub line : List ℕ
  pub stands : EachJournal (seen_from place old) old.disk.beat (λ records. IsLineOf (spoken form run) records line)
  pub disk : KeepsDisk old.disk new.disk
  pub puts : new.link.puts ≡ old.link.puts
  pub gained : Gains old.link.said (new.disk.beat, line) new.link.said

-- a command was put, or lost
pub record CommandBy (place run : ℕ) (old new : SiteView) : Type 0 where
  pub parcel : Parcel
  pub command : parcel.back ≡ false
  pub of_run : parcel.run ≡ run
  pub sent : EachJournal (seen_from place old) old.disk.beat (λ records. HasOpenSend records parcel)
  pub puts : Puts parcel old new

-- a filter may have acted on a command that was put, of whatever run
pub record ActBy (agent : ℕ) (old new : SiteView) : Type 0 where
  pub is_agent : IsAgent agent
  pub acts : List Act
  pub act : Act
  pub parcel : Parcel
  pub at : ℕ
  pub put : Contains (puts_to old old.disk.beat) (at, parcel)
  pub command : parcel.back ≡ false
  pub agent_is : parcel.agent ≡ agent
  pub run_is : act.run ≡ parcel.run
  pub issue_is : act.issue ≡ parcel.issue
  pub bytes_is : act.command ≡ parcel.bytes
  pub only : OnlyFile agent old new (λ image. IsActs image acts ⊎ IsActs image (acts ++ act ∷ []))
  pub before : (image : List ℕ) → IsLeft old.disk agent old.disk.beat image → IsActs image acts
  pub other : All (λ a. IsOther a act) acts
  pub replied : IsReplied acts act

-- a filter's reply was put, or lost
pub record ReplyBy (old new : SiteView) : Type 0 where
  pub parcel : Parcel
  pub back : parcel.back ≡ true
  pub is_agent : IsAgent parcel.agent
  pub acted : EachFilter old old.disk.beat parcel.agent (λ acts. HasReply acts parcel.run parcel.issue (IsBytes parcel.bytes))
  pub puts : Puts parcel old new

-- each journal of these runs is that of its run
abbrev pub AllOwn : List ℕ → SiteView → Type 0
AllOwn runs site = (place run : ℕ) → IsAt runs place run → IsItsOwn site place run

-- One call: each file has at most the images that it had, and nothing is put or said; or one of these runs, or a filter, does
-- something; or a line is said that is no record's. Lines of records are said and commands are put once each run's journal is
-- known to be its own.
pub data Event (form : Form) (runs : List ℕ) (start old new : SiteView) : Type 0 where
  shrinks : OnlyShrinks old new → Event form runs start old new
  record_by : (place run : ℕ) → IsAt runs place run → RecordBy form place run start old new → Event form runs start old new
  line_by : (place run : ℕ) → IsAt runs place run → AllOwn runs old → LineBy form place run old new
      → Event form runs start old new
  other_line : (line : List ℕ) → IsNoRecords line → KeepsDisk old.disk new.disk → new.link.puts ≡ old.link.puts
      → Gains old.link.said (new.disk.beat, line) new.link.said → Event form runs start old new
  command_by : (place run : ℕ) → IsAt runs place run → AllOwn runs old → CommandBy place run old new
      → Event form runs start old new
  act_by : (agent : ℕ) → ActBy agent old new → Event form runs start old new
  reply_by : ReplyBy old new → Event form runs start old new

-- calls in a row
pub data Events (form : Form) (runs : List ℕ) (start : SiteView) : SiteView → Type 0 where
  nothing : Events form runs start start
  and_then : {old new : SiteView} → Events form runs start old → IsSound old → Event form runs start old new
      → Events form runs start new

-- ---- the laws, for all calls in a row

-- each run may begin, as it sees the rack, under a fresh number
abbrev pub StartsEach : Form → List ℕ → SiteView → Type 0
StartsEach form runs start = (place run : ℕ) → IsAt runs place run
    → IsStart (spoken form run) (seen_from place start) × IsFresh (seen_from place start) run start.disk.beat

-- Where each run might begin, all agrees for each of them at every beat, with the same acts and the one list of parcels.
abbrev pub EventsKeepEach : Type 0
EventsKeepEach = (form : Form) (runs : List ℕ) (start site : SiteView) → AreRuns form runs → IsTrue start.disk.told
    → StartsEach form runs start → Events form runs start site
    → (place run : ℕ) → IsAt runs place run → KeepsOne (spoken form) start site place run

-- So a fleet that began where it might keeps each of its runs.
abbrev pub EventsKeepFleets : Type 0
EventsKeepFleets = (runs : List ℕ) (start site : SiteView) → AreRuns with_numbers runs → IsFleetStart start runs
    → Events with_numbers runs start site → KeepsEach runs start site

-- For the run at place 0 so it does in the other form too, whatever was said before: lines of one form are none of the other.
abbrev pub EventsKeepBothForms : Type 0
EventsKeepBothForms = (form other : Form) (runs : List ℕ) (start site : SiteView) → AreRuns form runs → IsTrue start.disk.told
    → StartsEach form runs start → Events form runs start site
    → (run : ℕ) → IsAt runs 0 run → IsStart (spoken other run) (seen_from 0 start) → KeepsOne (spoken other) start site 0 run

-- And it does for each run that takes no part, whose number is its own; its journal is left as it was.
abbrev pub EventsKeepBystanders : Type 0
EventsKeepBystanders = (form : Form) (runs : List ℕ) (start site : SiteView) → AreRuns form runs → IsTrue start.disk.told
    → Events form runs start site
    → (place run : ℕ) → IsBystander runs start place run → KeepsBystander start site place run

-- A journal that is its own run's at the start is so at each beat, whether the run takes part or not, where no other has its
-- place.
abbrev pub EventsKeepOwn : Type 0
EventsKeepOwn = (form : Form) (runs : List ℕ) (start site : SiteView) → AreRuns form runs → IsTrue start.disk.told
    → Events form runs start site
    → (place run : ℕ) → place ≤ 15 → ((number : ℕ) → IsAt runs place number → number ≡ run) → IsItsOwn start place run
    → (beat : ℕ) → start.disk.beat ≤ beat → beat ≤ site.disk.beat → IsOwnAt site beat place run

-- Each command that was put in these calls carries the number of one of the runs.
abbrev pub EventsPutOwn : Type 0
EventsPutOwn = (form : Form) (runs : List ℕ) (start site : SiteView) → Events form runs start site
    → (at : ℕ) (parcel : Parcel) → Contains (session_puts (puts_of start) site site.disk.beat) (at, parcel) → parcel.back ≡ false
    → (place : ℕ) × IsAt runs place parcel.run
