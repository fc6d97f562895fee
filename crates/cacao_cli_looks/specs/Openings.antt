-- Promise: What opening a file of the disk does, and what it finds there.
use Rattle.std.specs.Prelude.{◌≡◌, ℕ, ◌+◌, ◌/◌, ◌≤◌, IsTrue, List, length}
use Rattle.cacao_site.specs.Counts.{Rose}
use Rattle.cacao_site.specs.DiskCalls.{IsDurable, IsLeft, OnlyFile}
use Rattle.cacao_site.specs.View.{SiteView}
use Rattle.run_records.specs.declared.act.Act.{Act}
use Rattle.run_journal.specs.Layout.{Stands}
use Rattle.flow_laws.specs.Images.{IsAgent}
use Rattle.slpf_rules.specs.declared.rules.Rule.{Rule}
use Rattle.slpf_rules_acts.specs.Acts.{table_of}
use Rattle.slpf_actuator.specs.ActLists.{IsHistory}
use Rattle.slpf_actuator.specs.ActuatorView.{HoldsActs}
use Rattle.slpf_actuator.specs.Damage.{IsDamaged}
use Rattle.cacao_cli_filters.specs.Lines.{AreShadowLines, decision_lines, rule_lines}
use Rattle.flow_engine_reports.specs.RunFiles as run
use Rattle.flow_engine_reports.specs.RunLines.{HoldsReport, Reports, lines_of}
use Rattle.cacao_cli_words.specs.Words.{Text}
use Rattle.cacao_cli_ends.specs.Ends.{End, damaged, disk_failed, done, no_memory, past}
use Rattle.cacao_cli_ends.specs.Lines.{SaysWork}
use Rattle.cacao_cli_ends.specs.Work.{Look, at_rules, at_decisions, at_shadows}
use Rattle.cacao_cli_ends.specs.declared.limit.Limit.TheVariants.{TaskCount}

-- The file was read, and nothing was written: each image that a crash may leave of it on the way was one before. At most three
-- device calls were made, and one for each 4,096 bytes.
pub record Opens (file : ℕ) (old new : SiteView) : Type 0 where
  pub only : OnlyFile file old new (IsLeft old.disk file old.disk.beat)
  pub calls : IsTrue old.disk.told → new.disk.calls ≤ old.disk.calls + 3 + length (new.disk.reads file) / 4096
  pub written : new.disk.written ≤ old.disk.written

-- the lines of a filter with these rules
abbrev pub AreLines : Look → List Rule → List Text → Type 0
AreLines at_rules rules lines = lines ≡ rule_lines rules
AreLines (at_decisions packets) rules lines = lines ≡ decision_lines packets rules
AreLines at_shadows rules lines = AreShadowLines rules lines

-- The file was opened and no call of the disk failed; it holds acts, and the lines of their table were said. A crash would leave
-- what was read.
pub record SaysFilter (agent : ℕ) (look : Look) (old new : SiteView) (last : End) : Type 0 where
  pub between : SiteView
  pub opens : Opens agent old between
  pub durable : IsDurable agent between.disk
  pub steady : between.disk.faults ≡ old.disk.faults
  pub acts : List Act
  pub history : IsHistory acts
  pub holds : IsTrue old.disk.told → HoldsActs acts (between.disk.reads agent)
  pub lines : List Text
  pub are : AreLines look (table_of acts) lines
  pub says : SaysWork lines done between new last

-- the file was opened and no call of the disk failed; it is damaged, also as a crash would leave it
pub record FindsDamage (agent : ℕ) (old new : SiteView) (last : End) : Type 0 where
  pub opens : Opens agent old new
  pub durable : IsDurable agent new.disk
  pub steady : new.disk.faults ≡ old.disk.faults
  pub of_agent : IsAgent agent
  pub place : ℕ
  pub is_damaged : IsTrue old.disk.told → IsDamaged (new.disk.reads agent) place
  pub ends : last ≡ damaged agent place

-- the disk failed while the file was opened
pub record FailsToOpen (file : ℕ) (old new : SiteView) (last : End) : Type 0 where
  pub opens : Opens file old new
  pub cause : Rose old.disk.faults new.disk.faults
  pub ends : last ≡ disk_failed

-- memory was wanted while the file was opened or for the lines; no call of the disk failed, and nothing was said
pub record WantsToOpen (file : ℕ) (old new : SiteView) (last : End) : Type 0 where
  pub opens : Opens file old new
  pub steady : new.disk.faults ≡ old.disk.faults
  pub ends : last ≡ no_memory

-- the file of the agent holds acts of a filter
abbrev pub HoldsFilter : ℕ → SiteView → Type 0
HoldsFilter agent site = (acts : List Act) × IsHistory acts × HoldsActs acts (site.disk.reads agent)

-- the file of the agent holds none
abbrev pub IsDamagedFilter : ℕ → SiteView → Type 0
IsDamagedFilter agent site = (place : ℕ) × IsDamaged (site.disk.reads agent) place

-- ---- the run of the engine's file, which is file 0

-- the file was opened and no call of the disk failed; the report of its entries was said, and a crash would leave these entries
pub record SaysRun (old new : SiteView) (last : End) : Type 0 where
  pub between : SiteView
  pub opens : Opens 0 old between
  pub durable : IsDurable 0 between.disk
  pub steady : between.disk.faults ≡ old.disk.faults
  pub entries : List (List ℕ)
  pub holds : IsTrue old.disk.told → Stands (between.disk.reads 0) entries
  pub text : Text
  pub reports : Reports entries text
  pub says : SaysWork (lines_of text) done between new last

-- the file was opened and no call of the disk failed; it holds no run, also as a crash would leave it
pub record FindsNoRun (old new : SiteView) (last : End) : Type 0 where
  pub opens : Opens 0 old new
  pub durable : IsDurable 0 new.disk
  pub steady : new.disk.faults ≡ old.disk.faults
  pub place : ℕ
  pub is_damaged : IsTrue old.disk.told → run.IsDamaged (new.disk.reads 0) place
  pub ends : last ≡ damaged 0 place

-- the file was opened and no call of the disk failed; its run would have too many tasks, also as a crash would leave it
pub record FindsTooMany (old new : SiteView) (last : End) : Type 0 where
  pub opens : Opens 0 old new
  pub durable : IsDurable 0 new.disk
  pub steady : new.disk.faults ≡ old.disk.faults
  pub is_large : IsTrue old.disk.told → run.IsTooLarge (new.disk.reads 0)
  pub ends : last ≡ past TaskCount

-- there is a report of the file; it is damaged; its run would have too many tasks
abbrev pub HoldsRun : SiteView → Type 0
HoldsRun site = (text : Text) × HoldsReport (site.disk.reads 0) text

abbrev pub IsDamagedRun : SiteView → Type 0
IsDamagedRun site = (place : ℕ) × run.IsDamaged (site.disk.reads 0) place

abbrev pub IsTooLargeRun : SiteView → Type 0
IsTooLargeRun site = run.IsTooLarge (site.disk.reads 0)
