-- Promise: How a call of `fleet` ends: as calls of other commands do, or with the number of a run.
use Rattle.std.specs.Prelude.{◌≡◌, ◌⊎◌, ℕ, ◌++◌, codes, decimal, None, Some}
use Rattle.cacao_site.specs.View.{SiteView}
use Rattle.flow_fleet_steps.specs.declared.close.FleetClose.{FleetClose}
use Rattle.flow_fleet_steps.specs.declared.close.FleetClose.TheVariants as close
use Rattle.flow_fleet_steps.specs.declared.error.FleetError.{FleetError}
use Rattle.flow_fleet_steps.specs.declared.error.FleetError.TheVariants as error
use Rattle.cacao_cli_words.specs.Words.{Text}
use Rattle.cacao_cli_ends.specs.Ends.{End, damaged, disk_failed, ended_ok, flooded, no_memory, other_run, past, paused, unsaid, waiting}
use Rattle.cacao_cli_ends.specs.Lines.{SaysOrFails, Tells}
use Rattle.cacao_cli_ends.specs.Told.{end_of}
use Rattle.cacao_cli_session.specs.Holding.{limit_of}
use Rattle.cacao_cli_fleets.specs.declared.fleet_end.FleetEnd.{FleetEnd as HowEnd}
use Rattle.cacao_cli_fleets.specs.declared.fleet_end.FleetEnd.TheVariants as how

pub data FleetEnd : Type 0 where
  plain : (end : End) → FleetEnd
  failed : (run : ℕ) → FleetEnd  -- all runs have ended, and this is the first that failed
  asked_of : (run issue : ℕ) → FleetEnd  -- the fleet waits for an operator alone, for this run first
  other_book_of : (run index : ℕ) → FleetEnd
  used_by : (run agent : ℕ) → FleetEnd

abbrev pub fleet_end_of : HowEnd → FleetEnd
fleet_end_of (how.Plain end) = plain (end_of end)
fleet_end_of (how.Failed run) = failed run
fleet_end_of (how.Asked run issue) = asked_of run issue
fleet_end_of (how.OtherBook run index) = other_book_of run index
fleet_end_of (how.RunUsed run agent) = used_by run agent

abbrev pub close_end : FleetClose → FleetEnd
close_end (close.Ended None) = plain ended_ok
close_end (close.Ended (Some run)) = failed run
close_end close.Paused = plain paused
close_end (close.Waiting due) = plain (waiting due)
close_end close.Flooded = plain flooded
close_end (close.Asked run issue) = asked_of run issue

abbrev pub error_end : FleetError → FleetEnd
error_end error.Disk = plain disk_failed
error_end (error.Damaged file place) = plain (damaged file place)
error_end (error.OtherRun held asked) = plain (other_run held asked)
error_end (error.OtherBook run index) = other_book_of run index
error_end (error.RunUsed run agent) = used_by run agent
error_end (error.Limit what) = plain (past (limit_of what))
error_end error.Say = plain unsaid
error_end error.Memory = plain no_memory

-- ---- the last line, and the status

-- memory was wanted for the last line
pub record WantsForLine (old new : SiteView) (answer : ℕ) : Type 0 where
  pub same : new ≡ old
  pub answers : answer ≡ 10

abbrev pub SaysEnd : Text → ℕ → SiteView → SiteView → ℕ → Type 0
SaysEnd text status old new answer = SaysOrFails (text ++ codes "\n") status old new answer ⊎ WantsForLine old new answer

abbrev pub TellsFleet : FleetEnd → SiteView → SiteView → ℕ → Type 0
TellsFleet (plain end) = Tells end
TellsFleet (failed run) = SaysEnd (codes "ended failed " ++ decimal run) 6
TellsFleet (asked_of run issue) = SaysEnd (codes "asked " ++ (decimal run ++ (codes " " ++ decimal issue))) 16
TellsFleet (other_book_of run index) = SaysEnd (codes "other playbook " ++ (decimal run ++ (codes " " ++ decimal index))) 12
TellsFleet (used_by run agent) = SaysEnd (codes "run used " ++ (decimal run ++ (codes " " ++ decimal agent))) 12
