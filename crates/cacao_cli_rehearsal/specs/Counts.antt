-- Promise: What the files of a run hold, counted.
use Rattle.std.specs.Prelude.{◌≡◌, ◌<◌, ◌≤◌, ℕ, ◌+◌, ◌*◌, ◌/◌, IsTrue, List, length}
use Rattle.cacao_site.specs.DiskCalls.{AllLeft, IsLeft}
use Rattle.cacao_site.specs.View.{DiskView, SiteView}
use Rattle.run_records.specs.declared.record.Record.{Record}
use Rattle.slpf_rules_acts.specs.Acts.{table_of}
use Rattle.slpf_actuator.specs.ActuatorView.{ActuatorView}
use Rattle.flow_engine_history.specs.HistoryView.{HoldsRecords}
use Rattle.flow_world_steps.specs.Sides.{AreFilters, IsFilter}
use Rattle.flow_world_steps.specs.Spent.{all_acts}
use Rattle.flow_world_steps.specs.Sums.{total}
use Rattle.flow_world.specs.Openings.{blocks_to}
use Rattle.cacao_cli_rehearsal.specs.declared.counting.FilterCount.{FilterCount}
use Rattle.cacao_cli_rehearsal.specs.declared.summary.Summary.{Summary}

-- a crash may leave of each file only what it might have left before, and no fault is forgotten
pub record KeepsImages (old new : DiskView) : Type 0 where
  pub told : new.told ≡ old.told
  pub faults : old.faults ≤ new.faults
  pub each : (file : ℕ) (image : List ℕ) → IsTrue old.told → IsLeft new file new.beat image → IsLeft old file old.beat image

-- each of the seventeen files was opened once at most: three device calls for each, and one for each 4,096 bytes of it
abbrev pub OpensFew : DiskView → DiskView → Type 0
OpensFew old new = new.calls ≤ old.calls + 3 * 17 + (length (new.reads 0) / 4096 + blocks_to 16 new)

-- ---- records

-- each image of file 0 stands for records
pub record HoldsRun (disk : DiskView) : Type 0 where
  pub records : List Record
  pub holds : AllLeft 0 disk (HoldsRecords records)

-- so many
abbrev pub CountsRecords : DiskView → ℕ → Type 0
CountsRecords disk count = (records : List Record) → AllLeft 0 disk (HoldsRecords records) → count ≡ length records

-- ---- acts and rules

-- the file of an agent holds the acts of its filter
pub record HoldsFilter (agent : ℕ) (site : SiteView) : Type 0 where
  pub v : ActuatorView
  pub is : IsFilter v agent site

-- so many, and the rules after them
pub record CountsActs (agent : ℕ) (site : SiteView) (count : FilterCount) : Type 0 where
  pub acts : (v : ActuatorView) → IsFilter v agent site → count.acts ≡ length v.acts
  pub rules : (v : ActuatorView) → IsFilter v agent site → count.rules ≡ length (table_of v.acts)
  pub few_acts : count.acts < 4294967296
  pub few_rules : count.rules < 65537

-- the sixteen files hold the acts of their filters
pub record HoldsFilters (site : SiteView) : Type 0 where
  pub filters : List ActuatorView
  pub are : AreFilters filters site

abbrev pub all_rules : List ActuatorView → ℕ
all_rules filters = total (λ (v : ActuatorView). length (table_of v.acts)) filters

-- so many together
pub record CountsFilters (site : SiteView) (count : FilterCount) : Type 0 where
  pub acts : (filters : List ActuatorView) → AreFilters filters site → count.acts ≡ all_acts filters
  pub rules : (filters : List ActuatorView) → AreFilters filters site → count.rules ≡ all_rules filters

-- ---- all

-- what each list of records and each list of filters that the site's files hold comes to
pub record Counts (site : SiteView) (summary : Summary) : Type 0 where
  pub records : CountsRecords site.disk summary.records
  pub acts : (filters : List ActuatorView) → AreFilters filters site → summary.acts ≡ all_acts filters
  pub rules : (filters : List ActuatorView) → AreFilters filters site → summary.rules ≡ all_rules filters
