-- Promise: How many device calls a call makes whose words ask for a fleet, and how many bytes it hands to the disk.
use Rattle.std.proofs.Common.{inl, inr}
use Rattle.std.specs.Prelude.{◌≡◌, ◌⊎◌, ℕ, ◌++◌, [], length, Option, Some, None, option_map, option_to_list, ⊤}
use Rattle.cacao_site.specs.View.{SiteView}
use Rattle.run_records.specs.Layout.{act_layout, layout}
use Rattle.run_records.specs.declared.act.Act.{Act}
use Rattle.cacao_cli_fleets.specs.Fleets.{FleetRefused}
use Rattle.cacao_cli_fleets.specs.Costs.{acts_as_bytes, filters_to, journals_to, records_as_bytes, tried_files}
use Rattle.cacao_cli_fleets.specs.Laws.{FleetWent}
use Rattle.cacao_cli_fleets.specs.Openings.{Runs, numbers}
use Rattle.cacao_cli_fleets.specs.FleetError.{FleetError}
use Rattle.cacao_cli_fleets.specs.Sums.{FleetAdds}
use Rattle.cacao_cli_words.specs.Requests.{FleetRequest}
use Rattle.cacao_cli_ends.specs.Lines.{SaysAtMostALine}
use Rattle.cacao_cli_status_laws.specs.Usage.{IsFew, Usage, opens_only}
use Rattle.cacao_cli_fleets.specs.FleetEnds.{FleetEnd}
use Rattle.cacao_cli_fleets.specs.Fleeting.{ClosesFleet, RefusesFleet}
use Rattle.cacao_cli.specs.WithFleets.{run_numbers}

-- All files, each as it read at the start, with the records of all runs and the acts that were appended, and the one that may
-- stand behind them after a fault.
abbrev pub fleet_usage : {runs : Runs} {most : ℕ} {old new : SiteView} (went : FleetWent runs most old new)
    → FleetAdds went.start went.to → Usage
fleet_usage {runs} {most} {old} {new} went adds = record {
  opened = journals_to (length runs) old.disk ++ filters_to 16 old.disk;
  appended = records_as_bytes adds.added ++ acts_as_bytes went.to.notes.acted;
  failed = option_to_list (option_map layout (went.to.own went.to.place).unsure)
      ++ option_to_list (option_map (λ (e : ℕ × Act). act_layout e.1) went.to.notes.unsure_act);
}

-- so it is up to a site behind the fleet
abbrev pub WentUsesFew : {runs : Runs} {most : ℕ} {old between : SiteView} → FleetWent runs most old between → SiteView → Type 0
WentUsesFew {runs} {most} {old} {between} went new = (adds : FleetAdds went.start went.to) × IsFew (fleet_usage went adds) old new

-- or the files up to one that could not be opened
abbrev pub RefusedUsesFew : {error : FleetError} {runs : Runs} {most : ℕ} {old between : SiteView}
    → FleetRefused error runs most old between → SiteView → Type 0
RefusedUsesFew {error} {runs} {most} {old} {between} (inl opening) new = IsFew (opens_only (tried_files opening)) old new
RefusedUsesFew (inr later) new = WentUsesFew later.went new

abbrev pub HeldUsesFew : {runs : Runs} {most : ℕ} {old between : SiteView} {last : FleetEnd}
    → ClosesFleet runs most old between last ⊎ RefusesFleet runs most old between last → SiteView → Type 0
HeldUsesFew (inl closes) new = WentUsesFew closes.closed.went new
HeldUsesFew (inr refuses) new = RefusedUsesFew refuses.refused new

-- A fleet was held of the runs that the words ask for; behind it one line was said at most; and it all uses what the fleet uses.
pub record FleetUsed (wanted : FleetRequest) (old new : SiteView) : Type 0 where
  pub runs : Runs
  pub numbered : numbers runs ≡ run_numbers wanted
  pub between : SiteView
  pub last : FleetEnd
  pub held : ClosesFleet runs wanted.most old between last ⊎ RefusesFleet runs wanted.most old between last
  pub behind : SaysAtMostALine between new
  pub few : HeldUsesFew held new

-- it opens no file, or uses what its fleet uses
abbrev pub UsesFewAsFleet : Option FleetRequest → SiteView → SiteView → Type 0
UsesFewAsFleet None old new = ⊤
UsesFewAsFleet (Some wanted) old new = IsFew (opens_only []) old new ⊎ FleetUsed wanted old new
