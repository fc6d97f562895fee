-- Promise: How many device calls a call of the program makes, and how many bytes it hands to the disk.
use Rattle.std.proofs.Common.{inl, inr}
use Rattle.std.specs.Prelude.{ℕ, zero, suc, ◌+◌, ◌*◌, ◌/◌, ◌≤◌, ◌⊎◌, IsTrue, List, [], ◌∷◌, ◌++◌, length, map, Option, Some, None}
use Rattle.std.specs.Prelude.{IfSome, option_map, option_to_list}
use Rattle.cacao_site.specs.View.{DiskView, SiteView, device_calls}
use Rattle.run_records.specs.Layout.{act_layout, layout}
use Rattle.run_records.specs.declared.act.Act.{Act}
use Rattle.flow_engine_answers.specs.declared.answers.OperatorAnswer.{OperatorAnswer}
use Rattle.flow_core_rules.specs.Givens.{Given}
use Rattle.flow_world_steps.specs.Sums.{total}
use Rattle.flow_world.specs.Openings.{RefusesOpening}
use Rattle.flow_world.specs.Sessions.{HasRefused, Went}
use Rattle.flow_world.specs.WorldError.{WorldError}
use Rattle.cacao_cli_ends.specs.Asked.{Asked, canonises, checks, runs, shows, lists_rules, decides, shadows, rehearses, audits}
use Rattle.cacao_cli_ends.specs.Ends.{End}
use Rattle.cacao_cli_session_laws.specs.Holding.{ClosesSo, HoldsSession, RefusesSo}
use Rattle.cacao_cli_status_laws.specs.Leaves.{LeavesSession}
use Rattle.cacao_cli_ends.specs.Work.{Start}

-- The files of the disk that were opened, each as the bytes that it read as then; the entries that were appended to files, and
-- one whose append failed.
pub record Usage : Type 0 where
  pub opened : List (List ℕ)
  pub appended : List (List ℕ)
  pub failed : List (List ℕ)

abbrev pub blocks : List ℕ → ℕ
blocks bytes = length bytes / 4096

abbrev pub entry_bytes : List ℕ → ℕ
entry_bytes entry = length entry + 6

-- calls of the disk: five, five for each of these files, one for each 4,096 bytes of them and four for each entry that was
-- appended, at most
abbrev pub DiskCallsFew : Usage → SiteView → SiteView → Type 0
DiskCallsFew usage old new = IsTrue old.disk.told → new.disk.calls
    ≤ old.disk.calls + 5 + 5 * length usage.opened + total blocks usage.opened + 4 * length usage.appended

-- Calls of the disk and of `say`, where the lines said are told: ten, five for each of these files, one for each 4,096 bytes of
-- them, four for each entry that was appended and one for each line said, at most. Calls of the disk alone, whether lines are
-- told or not. Bytes: nine for each file, and six more than it has for each entry, at most.
pub record IsFew (usage : Usage) (old new : SiteView) : Type 0 where
  pub calls : IsTrue old.disk.told → IfSome old.link.said (λ before. IfSome new.link.said (λ after.
      device_calls new + length before
      ≤ device_calls old + length after + 10 + 5 * length usage.opened + total blocks usage.opened + 4 * length usage.appended))
  pub disk_calls : DiskCallsFew usage old new
  pub written : new.disk.written
      ≤ old.disk.written + 9 * length usage.opened + total entry_bytes usage.appended + total entry_bytes usage.failed
  pub one : length usage.failed ≤ 1

abbrev pub opens_only : List (List ℕ) → Usage
opens_only files = record { opened = files; appended = []; failed = [] }

-- ---- a session

-- the files of the agents up to this one
abbrev pub reads_to : ℕ → DiskView → List (List ℕ)
reads_to zero disk = []
reads_to (suc n) disk = disk.reads (suc n) ∷ reads_to n disk

-- The files up to one that could not be opened.
abbrev pub opening_usage : {error : WorldError} {given : Given} {run : ℕ} {old new : SiteView}
    → RefusesOpening error given run old new → Usage
opening_usage {error} {given} {run} {old} {new} (inl journal) = opens_only (new.disk.reads 0 ∷ [])
opening_usage {error} {given} {run} {old} {new} (inr second) = opens_only (
    second.middle.disk.reads 0
    ∷ new.disk.reads (second.refuses.agent + 1)
    ∷ reads_to second.refuses.agent second.refuses.middle.disk)

-- All files, with the records and the acts that were appended, and the one that may stand behind them after a fault.
abbrev pub went_usage : {given : Given} {run most : ℕ} {answers : List OperatorAnswer} {old new : SiteView}
    → Went given run most answers old new → Usage
went_usage went = record {
  opened = went.files.middle.disk.reads 0 ∷ reads_to 16 went.start.site.disk;
  appended = map layout went.sums.adds.added ++ map (λ (e : ℕ × Act). act_layout e.1) went.to.notes.acted;
  failed = option_to_list (option_map layout went.to.notes.unsure)
      ++ option_to_list (option_map (λ (e : ℕ × Act). act_layout e.1) went.to.notes.unsure_act);
}

abbrev pub refused_usage : {error : WorldError} {given : Given} {run most : ℕ} {answers : List OperatorAnswer}
    {old new : SiteView} → HasRefused error given run most answers old new → Usage
refused_usage (inl opening) = opening_usage opening
refused_usage (inr later) = went_usage later.went

abbrev pub held_usage : {given : Given} {run most : ℕ} {answers : List OperatorAnswer} {old new : SiteView} {last : End}
    → ClosesSo given run most answers old new last ⊎ RefusesSo given run most answers old new last → Usage
held_usage (inl closes) = went_usage closes.closed.went
held_usage (inr refuses) = refused_usage refuses.why

abbrev pub session_usage : {start : Start} {old new : SiteView} {last : End} → HoldsSession start old new last → Usage
session_usage session = held_usage session.holds.held

-- ---- all

-- By the command: it opens no file, or one at most, or what its session uses.
abbrev pub UsesFew : Option Asked → SiteView → SiteView → Type 0
UsesFew None old new = IsFew (opens_only []) old new
UsesFew (Some (canonises book)) old new = IsFew (opens_only []) old new
UsesFew (Some (checks books)) old new = IsFew (opens_only []) old new
UsesFew (Some (runs wanted)) old new =
    IsFew (opens_only []) old new ⊎ ((left : LeavesSession wanted old new) × IsFew (session_usage left.came.session) old new)
UsesFew (Some shows) old new = IsFew (opens_only (new.disk.reads 0 ∷ [])) old new
UsesFew (Some (lists_rules agent)) old new = IsFew (opens_only (new.disk.reads agent ∷ [])) old new
UsesFew (Some (decides agent packets)) old new = IsFew (opens_only (new.disk.reads agent ∷ [])) old new
UsesFew (Some (shadows agent)) old new = IsFew (opens_only (new.disk.reads agent ∷ [])) old new
UsesFew (Some (rehearses positions)) old new = IsFew (opens_only []) old new
UsesFew (Some (audits engine filters)) old new = IsFew (opens_only []) old new
