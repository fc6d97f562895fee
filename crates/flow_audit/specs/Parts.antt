-- Scaffold: What the parts of an audit find.
use Rattle.std.specs.Prelude.{◌≡◌, ℕ, suc, ◌<◌, ◌≤◌, List, [], length, take, Option, Some, None, map, slice_get, All, Contains, ⊤}
use Rattle.std.specs.List.{AllByRecursion}
use Rattle.cacao_check.specs.Fits.{FitsKind}
use Rattle.run_journal.specs.Image.{ArePlaced, bytes_of}
use Rattle.run_journal.specs.Layout.{IsDamagedAt, Stands}
use Rattle.run_journal.specs.declared.entries.Entry.{Entry}
use Rattle.run_records.specs.declared.record.Record.{Record}
use Rattle.run_records.specs.declared.act.Act.{Act}
use Rattle.run_records.specs.Lists.{all_read}
use Rattle.run_records.specs.Ranges.{ActInRange}
use Rattle.run_records.specs.Reading.{act_of}
use Rattle.flow_core_rules.specs.Accepted.{Accepted}
use Rattle.flow_core_rules.specs.Runs.{Leads}
use Rattle.flow_core_rules.specs.State.{Shown, State, shown}
use Rattle.flow_core_rules.specs.declared.issues.Issue.{Issue}
use Rattle.flow_core.specs.Views.{View}
use Rattle.slpf_rules_acts.specs.Acts.{AreActs}
use Rattle.slpf_rules_acts.specs.Index.{Places}
use Rattle.flow_laws.specs.Acts.{HasReply}
use Rattle.flow_laws.specs.Images.{IsAgent}
use Rattle.flow_laws.specs.Journals.{AreAccepted}
use Rattle.flow_audit.specs.Files.{IsFirstBadFile, IsUnreadable, acts_of, gate_of, image_of}
use Rattle.flow_audit.specs.Breaks.{ActsFit, BreaksActs, BreaksRun, IsWithinTasks, LacksAct, PassesTasks, most_tasks}
use Rattle.flow_audit.specs.Audits.{IsVerdict, PassesTasksAt}
use Rattle.flow_audit.specs.Index.{ArePlacesOf}
use Rattle.flow_audit.specs.declared.reading.ActFile.{ActFile}
use Rattle.flow_audit.specs.declared.verdict.Stop.{Stop}
use Rattle.flow_audit.specs.declared.verdict.Stop.TheVariants as stop
use Rattle.flow_audit.specs.declared.verdict.Verdict17.TheVariants as verdict

-- ---- files

-- the entries of an image, and what each of them reads as
pub record IsFileOf {A : Type 0} (read : List ℕ → Option A) (InRange : A → Type 0) (image : List ℕ) (entries : List Entry)
    (values : List A) : Type 0 where
  pub stands : Stands image (bytes_of entries)
  pub placed : ArePlaced entries
  pub reads : all_read read (bytes_of entries) ≡ Some values
  pub ranges : AllByRecursion InRange values

-- the files of so many filters, from 1 on
pub record AreFilters (files : List (List ℕ)) (count : ℕ) (filters : List ActFile) : Type 0 where
  pub many : length filters ≡ count
  pub each : (n : ℕ) (f : ActFile) → slice_get filters n ≡ Some f
      → IsFileOf act_of ActInRange (image_of files (suc n)) f.entries f.acts.items

-- why an image was not read
abbrev pub StopsImage : ℕ → List ℕ → Stop → Type 0
StopsImage file image (stop.No at place) = (at ≡ file) × IsDamagedAt image place
StopsImage file image (stop.Tasks place) = ⊥
StopsImage file image stop.Memory = ⊤

-- why a file has no reading
abbrev pub StopsFile : {A : Type 0} → (List ℕ → Option A) → ℕ → List ℕ → Stop → Type 0
StopsFile read file image (stop.No at place) = (at ≡ file) × IsUnreadable read image place
StopsFile read file image (stop.Tasks place) = ⊥
StopsFile read file image stop.Memory = ⊤

-- why the files have none
abbrev pub StopsReading : List (List ℕ) → Stop → Type 0
StopsReading files (stop.No file place) = IsFirstBadFile files file place
StopsReading files (stop.Tasks place) = ⊥
StopsReading files stop.Memory = ⊤

-- ---- the run

-- the flow took these records, which are a run, and made at most 1,000,000 tasks
pub record HasTaken (records : List Record) (flow : View) : Type 0 where
  pub state : State
  pub accepted : Accepted AreAccepted FitsKind flow.seen.given.texts flow.seen.given.bind flow.seen.given
  pub leads : Leads flow.seen.given flow.seen.run records state
  pub is : flow.seen ≡ shown state
  pub count : flow.count ≡ length records
  pub few : length state.tasks ≤ most_tasks

-- the flow of these records, if there are any
abbrev pub IsFlowOf : List Record → Option View → Type 0
IsFlowOf records None = records ≡ []
IsFlowOf records (Some flow) = HasTaken records flow

-- why the records are no run
abbrev pub StopsRun : List (List ℕ) → List Record → Stop → Type 0
StopsRun entries records (stop.No file place) =
    (file ≡ 0) × ((n : ℕ) × BreaksRun records n × IsWithinTasks records × (place ≡ gate_of entries n))
StopsRun entries records (stop.Tasks place) = (n : ℕ) × PassesTasks records n × (place ≡ gate_of entries n)
StopsRun entries records stop.Memory = ⊤

-- ---- acts

-- why acts do not fit
abbrev pub StopsActs : ℕ → List (List ℕ) → List Record → List Act → Stop → Type 0
StopsActs agent entries records acts (stop.No file place) =
    (file ≡ agent) × ((n : ℕ) × BreaksActs records agent acts n × (place ≡ gate_of entries n))
StopsActs agent entries records acts (stop.Tasks place) = ⊥
StopsActs agent entries records acts stop.Memory = ⊤

-- the entries of a filter's file are as many as its acts, and these lie in their ranges
pub record IsActFile (file : ActFile) : Type 0 where
  pub placed : ArePlaced file.entries
  pub many : length file.entries ≡ length file.acts.items
  pub ranges : AllByRecursion ActInRange file.acts.items
  pub few : length file.acts.items < 67_108_864

abbrev pub AreActFiles : List ActFile → Type 0
AreActFiles filters = (k : ℕ) (f : ActFile) → slice_get filters k ≡ Some f → IsActFile f

-- the acts of each filter fit
abbrev pub AllActsFit : List Record → List ActFile → Type 0
AllActsFit records filters = (k : ℕ) (f : ActFile) → slice_get filters k ≡ Some f → ActsFit records (suc k) f.acts.items

-- there are the places of the acts of each filter
pub record HasIndex (acts : List Act) (indexes : List Places) (k : ℕ) : Type 0 where
  pub index : Places
  pub there : slice_get indexes k ≡ Some index
  pub places : ArePlacesOf acts index

abbrev pub AreIndexes : List ActFile → List Places → Type 0
AreIndexes filters indexes = (k : ℕ) (f : ActFile) → slice_get filters k ≡ Some f → HasIndex f.acts.items indexes k

-- this filter is the least with an act that does not fit
pub record BreaksFilter (records : List Record) (filters : List ActFile) (file place : ℕ) : Type 0 where
  pub k : ℕ
  pub f : ActFile
  pub n : ℕ
  pub there : slice_get filters k ≡ Some f
  pub file_is : file ≡ suc k
  pub breaks : BreaksActs records file f.acts.items n
  pub at : place ≡ gate_of (bytes_of f.entries) n
  pub before : AllActsFit records (take k filters)

abbrev pub StopsFilters : List Record → List ActFile → Stop → Type 0
StopsFilters records filters (stop.No file place) = BreaksFilter records filters file place
StopsFilters records filters (stop.Tasks place) = ⊥
StopsFilters records filters stop.Memory = ⊤

-- ---- replies

-- no filter acts twice on an issue of a run, and each replies as its rules do
abbrev pub ActOnce : List ActFile → Type 0
ActOnce filters = (k : ℕ) (f : ActFile) → slice_get filters k ≡ Some f → AreActs f.acts.items

-- an issue is shown with this filter and these bytes
pub record HasIssue (seen : Shown) (issue agent : ℕ) (bytes : List ℕ) : Type 0 where
  pub one : Issue
  pub there : slice_get seen.lists.issues issue ≡ Some one
  pub agent_is : one.agent ≡ agent
  pub bytes_are : one.bytes ≡ bytes

-- the acts of the filters, in order
abbrev pub lists_of : List ActFile → List (List Act)
lists_of filters = map (λ (f : ActFile). f.acts.items) filters

-- an act of a filter has this run and issue
pub record HasAct (filters : List ActFile) (agent run issue : ℕ) (act : Act) : Type 0 where
  pub is_agent : IsAgent agent
  pub has : Contains (acts_of (lists_of filters) agent) act
  pub of_run : act.run ≡ run
  pub of_issue : act.issue ≡ issue

-- none has
abbrev pub HasNoAct : List ActFile → ℕ → ℕ → ℕ → Type 0
HasNoAct filters agent run issue = (act : Act) → HasAct filters agent run issue act → ⊥

-- an issue is shown whose filter has an act on it, with a reply of which P holds
pub record IsActed (seen : Shown) (acts : ℕ → List Act) (issue : ℕ) (P : List ℕ → Type 0) : Type 0 where
  pub agent : ℕ
  pub bytes : List ℕ
  pub is_agent : IsAgent agent
  pub there : HasIssue seen issue agent bytes
  pub reply : HasReply (acts agent) seen.run issue P

-- why a Reply has no act
abbrev pub StopsReplies : List (List ℕ) → List Record → (ℕ → List Act) → Stop → Type 0
StopsReplies entries records acts (stop.No file place) =
    (file ≡ 0) × ((n : ℕ) × LacksAct records acts n × (place ≡ gate_of entries n))
StopsReplies entries records acts (stop.Tasks place) = ⊥
StopsReplies entries records acts stop.Memory = ⊤

-- ---- all

-- no step makes too many tasks
abbrev pub IsWithin : List (List ℕ) → Type 0
IsWithin files = (place : ℕ) → ¬ PassesTasksAt files place

-- the acts of each filter can be counted
abbrev pub AreFew : List ActFile → Type 0
AreFew filters = All (λ (f : ActFile). length f.acts.items < 67_108_864) filters

-- why an audit went no further
abbrev pub StopsAudit : List (List ℕ) → Stop → Type 0
StopsAudit files (stop.No file place) = IsVerdict files (verdict.No file place) × IsWithin files
StopsAudit files (stop.Tasks place) = PassesTasksAt files place
StopsAudit files stop.Memory = ⊤
