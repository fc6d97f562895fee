-- Promise: How many device calls a whole fleet makes, and how many bytes it hands to the disk, the opening of its files included.
use Rattle.std.proofs.Common.{inl, inr}
use Rattle.std.specs.Prelude.{ℕ, zero, suc, ◌+◌, ◌*◌, ◌/◌, ◌≤◌, IsTrue, List, [], ◌∷◌, ◌++◌, length, map}
use Rattle.std.specs.Prelude.{IfSome, option_map, option_to_list}
use Rattle.cacao_site.specs.RunViews.{file_of}
use Rattle.cacao_site.specs.View.{DiskView, SiteView, device_calls}
use Rattle.run_records.specs.Layout.{act_layout, layout}
use Rattle.run_records.specs.declared.act.Act.{Act}
use Rattle.run_records.specs.declared.record.Record.{Record}
use Rattle.flow_world_steps.specs.Sums.{total}
use Rattle.flow_fleet_steps.specs.Laws.{FleetWent}
use Rattle.flow_fleet_steps.specs.Openings.{RefusesFleetOpening, Runs}
use Rattle.flow_fleet_steps.specs.declared.close.FleetClose.{FleetClose}
use Rattle.flow_fleet_steps.specs.declared.error.FleetError.{FleetError}
use Rattle.flow_fleet_sums.specs.Sums.{FleetAdds}
use Rattle.flow_fleet.specs.Fleets.{FleetClosed, FleetRefused}

-- ---- files and entries, as bytes

abbrev pub blocks : List ℕ → ℕ
blocks bytes = length bytes / 4096

abbrev pub entry_bytes : List ℕ → ℕ
entry_bytes entry = length entry + 6

-- the journals of the runs at places below n
abbrev pub journals_to : ℕ → DiskView → List (List ℕ)
journals_to zero disk = []
journals_to (suc n) disk = disk.reads (file_of n) ∷ journals_to n disk

-- the files of the filters of agents 1 to n
abbrev pub filters_to : ℕ → DiskView → List (List ℕ)
filters_to zero disk = []
filters_to (suc n) disk = disk.reads (suc n) ∷ filters_to n disk

-- These files were opened, these entries were appended, and of these the append failed. Calls of the disk: five, and five for
-- each file, one for each 4,096 bytes of the files and four for each entry that was appended, at most; with those of `say`, where
-- the lines said are told, one more for each line. Bytes: nine for each file, and six more than it has for each entry, at most.
-- At most one append failed.
pub record UsesFew (opened appended failed : List (List ℕ)) (old new : SiteView) : Type 0 where
  pub calls : IsTrue old.disk.told → IfSome old.link.said (λ before. IfSome new.link.said (λ after.
      device_calls new + length before
      ≤ device_calls old + length after + 5 + 5 * length opened + total blocks opened + 4 * length appended))
  pub disk_calls : IsTrue old.disk.told
      → new.disk.calls ≤ old.disk.calls + 5 + 5 * length opened + total blocks opened + 4 * length appended
  pub written : new.disk.written ≤ old.disk.written + 9 * length opened + total entry_bytes appended + total entry_bytes failed
  pub one : length failed ≤ 1

-- ---- a fleet

abbrev pub records_as_bytes : List (ℕ × Record) → List (List ℕ)
records_as_bytes added = map (λ (e : ℕ × Record). layout e.1) added

abbrev pub acts_as_bytes : List (ℕ × Act) → List (List ℕ)
acts_as_bytes acted = map (λ (e : ℕ × Act). act_layout e.1) acted

-- All files were opened, each as it read at the start; the records of all runs and the acts of all filters were appended, and at
-- most one more may have been, where the disk failed or a filter refused.
pub record FleetWentFew (runs : Runs) (most : ℕ) (old new : SiteView) (went : FleetWent runs most old new) : Type 0 where
  pub adds : FleetAdds went.start went.to
  pub few : UsesFew (journals_to (length runs) old.disk ++ filters_to 16 old.disk)
      (records_as_bytes adds.added ++ acts_as_bytes went.to.notes.acted)
      (option_to_list (option_map layout (went.to.own went.to.place).unsure)
      ++ option_to_list (option_map (λ (e : ℕ × Act). act_layout e.1) went.to.notes.unsure_act))
      old new

-- The files up to the one that could not be opened: those before it as they read at the start, that one as it reads on return.
abbrev pub tried_files : {error : FleetError} {runs : Runs} {old new : SiteView}
    → RefusesFleetOpening error runs old new → List (List ℕ)
tried_files {error} {runs} {old} {new} (inl journal) =
    new.disk.reads (file_of journal.place) ∷ journals_to journal.place old.disk
tried_files {error} {runs} {old} {new} (inr filter) =
    new.disk.reads (filter.refuses.agent + 1) ∷ (journals_to (length runs) old.disk ++ filters_to filter.refuses.agent old.disk)

abbrev pub RefusedFew : {error : FleetError} {runs : Runs} {most : ℕ} {old new : SiteView}
    → FleetRefused error runs most old new → Type 0
RefusedFew {error} {runs} {most} {old} {new} (inl opening) = UsesFew (tried_files opening) [] [] old new
RefusedFew {error} {runs} {most} {old} {new} (inr later) = FleetWentFew runs most old new later.went

abbrev pub EachFleetCloseUsesFew : Type 0
EachFleetCloseUsesFew = (close : FleetClose) (runs : Runs) (most : ℕ) (old new : SiteView)
    → (closed : FleetClosed close runs most old new) → FleetWentFew runs most old new closed.went

abbrev pub EachFleetRefusalUsesFew : Type 0
EachFleetRefusalUsesFew = (error : FleetError) (runs : Runs) (most : ℕ) (old new : SiteView)
    → (refused : FleetRefused error runs most old new) → RefusedFew refused
