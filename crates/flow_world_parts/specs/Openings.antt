-- Promise: The opening of a session's files: the journal first, then those of the filters in order.
use Rattle.std.specs.Prelude.{◌≡◌, ◌≢◌, ◌⊎◌, ◌↔◌, ℕ, zero, suc, ◌+◌, ◌*◌, ◌-◌, ◌/◌, ◌<◌, ◌≤◌, IsTrue, List, [], ◌∷◌, ◌++◌, length, Any, Some, slice_get, ⊤}
use Rattle.cacao_site.specs.Counts.{Rose}
use Rattle.cacao_site.specs.DiskCalls.{GoesOn, IsDurable, IsLeft, OnlyFile, SameRest, StaysAt}
use Rattle.cacao_site.specs.View.{DiskView, SiteView}
use Rattle.run_records.specs.declared.act.Act.{Act}
use Rattle.flow_world_steps.specs.HistoryView.{HoldsRecords}
use Rattle.flow_world_steps.specs.Openings.{IsRefusedOpening}
use Rattle.flow_world_steps.specs.EngineError.{EngineError}
use Rattle.flow_world_steps.specs.EngineView.{EngineView}
use Rattle.flow_core_rules.specs.Givens.{Given}
use Rattle.slpf_actuator.specs.ActuatorView.{ActuatorView, HoldsActs}
use Rattle.slpf_actuator.specs.Damage.{IsDamaged}
use Rattle.flow_world_steps.specs.Sides.{IsFilter, IsWhole}
use Rattle.flow_world_parts.specs.Errors.{opening_refusal}
use Rattle.flow_world_parts.specs.declared.error.WorldError.{WorldError}
use Rattle.flow_world_parts.specs.declared.error.WorldError.TheVariants as error

-- one file was opened: each image of it on the way was one before, nothing was written, and the calls are few
pub record OpensFile (file : ℕ) (old new : SiteView) : Type 0 where
  pub only : OnlyFile file old new (IsLeft old.disk file old.disk.beat)
  pub calls : IsTrue old.disk.told → new.disk.calls ≤ old.disk.calls + 3 + length (new.disk.reads file) / 4096
  pub written : new.disk.written ≤ old.disk.written

-- no call of the disk failed, where that is not why
abbrev pub IsSteady : WorldError → SiteView → SiteView → Type 0
IsSteady why old new = why ≢ error.Disk → new.disk.faults ≡ old.disk.faults

-- the file reads as before, where the disk did not fail
abbrev pub ReadsAsBefore : WorldError → ℕ → SiteView → SiteView → Type 0
ReadsAsBefore why file old new = why ≢ error.Disk → new.disk.reads file ≡ old.disk.reads file

-- ---- the journal

-- the journal is open, no call of the disk failed, its file reads as before, and its one image stands for the records
pub record IsJournalOpen (given : Given) (run : ℕ) (old new : SiteView) (v : EngineView) : Type 0 where
  pub opens : OpensFile 0 old new
  pub steady : new.disk.faults ≡ old.disk.faults
  pub reads : new.disk.reads 0 ≡ old.disk.reads 0
  pub whole : IsWhole v new
  pub given_is : v.history.seen.given ≡ given
  pub of_run : v.history.seen.run ≡ run
  pub no_puts : v.puts ≡ []
  pub durable : IsDurable 0 new.disk
  pub stands : IsTrue old.disk.told → HoldsRecords v.history.records (new.disk.reads 0)
  pub prepared : IsTrue old.disk.told → IsTrue v.history.prepared ↔ (9 < length (new.disk.reads 0))

-- or it was not opened; unless the disk failed, its file reads as before
pub record RefusesJournal (error : WorldError) (given : Given) (run : ℕ) (old new : SiteView) : Type 0 where
  pub opens : OpensFile 0 old new
  pub why : EngineError
  pub refused : IsRefusedOpening given run why old new
  pub is : error ≡ opening_refusal why
  pub steady : IsSteady error old new
  pub reads : ReadsAsBefore error 0 old new

-- ---- the filters

-- the filter of an agent is open, and the one image of its file stands for its acts
pub record IsFilterOpen (agent : ℕ) (site : SiteView) (v : ActuatorView) : Type 0 where
  pub filter : IsFilter v agent site
  pub durable : IsDurable agent site.disk
  pub stands : IsTrue site.disk.told → HoldsActs v.acts (site.disk.reads agent)
  pub prepared : IsTrue site.disk.told → IsTrue v.prepared ↔ (9 < length (site.disk.reads agent))

-- the blocks of 4,096 bytes that the files of agents up to this one fill
abbrev pub blocks_to : ℕ → DiskView → ℕ
blocks_to zero disk = 0
blocks_to (suc n) disk = length (disk.reads (suc n)) / 4096 + blocks_to n disk

-- the files of agents 1 to n were opened one after another, and nothing else was done
pub data OpensInOrder (start : SiteView) : ℕ → SiteView → Type 0 where
  nothing : OpensInOrder start 0 start
  and_then : {n : ℕ} {old new : SiteView} → OpensInOrder start n old → OpensFile (n + 1) old new → OpensInOrder start (n + 1) new

-- The files of agents 1 to n were opened, in order, and read as before; the journal's and those of the others stay, and no call of
-- the disk failed.
pub record OpensFilters (n : ℕ) (old new : SiteView) (filters : List ActuatorView) : Type 0 where
  pub in_order : OpensInOrder old n new
  pub many : length filters ≡ n
  pub each : (k : ℕ) (v : ActuatorView) → slice_get filters k ≡ Some v → IsFilterOpen (suc k) new v
  pub goes_on : GoesOn old.disk new.disk
  pub images : (file : ℕ) → 1 ≤ file → file ≤ n → (beat : ℕ) (image : List ℕ) → IsTrue old.disk.told → old.disk.beat ≤ beat
      → beat ≤ new.disk.beat → IsLeft new.disk file beat image → IsLeft old.disk file old.disk.beat image
  pub reads : (file : ℕ) → 1 ≤ file → file ≤ n → new.disk.reads file ≡ old.disk.reads file
  pub others : (file : ℕ) → (file ≡ 0) ⊎ (n < file) → StaysAt old.disk new.disk file
  pub rest : SameRest old new
  pub steady : new.disk.faults ≡ old.disk.faults
  pub calls : IsTrue old.disk.told → new.disk.calls ≤ old.disk.calls + 3 * n + blocks_to n new.disk
  pub written : new.disk.written ≤ old.disk.written

-- one more filter is open, behind the others
pub record OpensNext (agent : ℕ) (old new : SiteView) (fs gs : List ActuatorView) : Type 0 where
  pub opens : OpensFile agent old new
  pub steady : new.disk.faults ≡ old.disk.faults
  pub reads : new.disk.reads agent ≡ old.disk.reads agent
  pub v : ActuatorView
  pub is_open : IsFilterOpen agent new v
  pub more : gs ≡ fs ++ v ∷ []

-- why a filter's file was not opened
abbrev pub IsFileCause : WorldError → ℕ → SiteView → SiteView → Type 0
IsFileCause error.Disk agent old new = Rose old.disk.faults new.disk.faults
IsFileCause (error.Damaged file place) agent old new =
    (file ≡ agent) × IsDurable agent new.disk × (IsTrue old.disk.told → IsDamaged (new.disk.reads agent) place)
IsFileCause error.Memory agent old new = ⊤
IsFileCause other agent old new = ⊥

pub record RefusesFile (error : WorldError) (agent : ℕ) (old new : SiteView) : Type 0 where
  pub opens : OpensFile agent old new
  pub why : IsFileCause error agent old new
  pub steady : IsSteady error old new
  pub reads : ReadsAsBefore error agent old new

-- the files of the agents before it were opened, and that of this one was not
pub record RefusesFilters (error : WorldError) (old new : SiteView) : Type 0 where
  pub agent : ℕ
  pub high : agent < 16
  pub middle : SiteView
  pub filters : List ActuatorView
  pub before : OpensFilters agent old middle filters
  pub refuses : RefusesFile error (agent + 1) middle new

-- ---- all

-- all files are open
pub record AreOpen (given : Given) (run : ℕ) (old new : SiteView) (v : EngineView) (filters : List ActuatorView) : Type 0 where
  pub middle : SiteView
  pub journal : IsJournalOpen given run old middle v
  pub others : OpensFilters 16 middle new filters

-- the journal is open, and a filter's file is not
pub record RefusesSecond (error : WorldError) (given : Given) (run : ℕ) (old new : SiteView) : Type 0 where
  pub middle : SiteView
  pub v : EngineView
  pub journal : IsJournalOpen given run old middle v
  pub refuses : RefusesFilters error middle new

-- the first file that could not be opened, and why
abbrev pub RefusesOpening : WorldError → Given → ℕ → SiteView → SiteView → Type 0
RefusesOpening error given run old new = RefusesJournal error given run old new ⊎ RefusesSecond error given run old new

-- ---- whose number the run has

-- the filter of an agent has an act of the run
pub record HasRunAt (filters : List ActuatorView) (run agent : ℕ) : Type 0 where
  pub v : ActuatorView
  pub there : slice_get filters (agent - 1) ≡ Some v
  pub has : Any (λ (act : Act). act.run ≡ run) v.acts

-- and it is the least
pub record IsFirstRunAt (filters : List ActuatorView) (run agent : ℕ) : Type 0 where
  pub low : 1 ≤ agent
  pub high : agent ≤ 16
  pub has : HasRunAt filters run agent
  pub least : (lower : ℕ) → 1 ≤ lower → lower < agent → HasRunAt filters run lower → ⊥
