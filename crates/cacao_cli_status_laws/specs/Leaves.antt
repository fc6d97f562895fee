-- Promise: What each command leaves as it was, and what it counts.
use Rattle.std.specs.Prelude.{◌≡◌, ◌⊎◌, ℕ, [], ◌∷◌, Option, Some, None}
use Rattle.cacao_site.specs.Counts.{Rose}
use Rattle.cacao_site.specs.View.{SiteView}
use Rattle.cacao_cli_ends.specs.Asked.{Asked, canonises, checks, shows, lists_rules, decides, shadows, rehearses, audits, runs}
use Rattle.cacao_cli_ends.specs.Ends.{End}
use Rattle.cacao_cli_ends.specs.Comes.{IsOneOf}
use Rattle.cacao_cli_session_laws.specs.Holding.{CameTo}
use Rattle.cacao_cli_ends.specs.Work.{Start}
use Rattle.cacao_cli_words.specs.Requests.{RunRequest}
use Rattle.cacao_cli_ends.specs.Stays.{SaysAtMostOnce, WritesNothing}

-- what a `run` leaves that came to its session: what the session did, and one line said at most
pub record LeavesSession (wanted : RunRequest) (old new : SiteView) : Type 0 where
  pub start : Start
  pub of_run : start.run ≡ wanted.run
  pub most : start.most ≡ wanted.most
  pub last : End
  pub came : CameTo start last old new

abbrev pub Leaves : Option Asked → SiteView → SiteView → ℕ → Type 0
Leaves None old new answer = SaysAtMostOnce old new answer
Leaves (Some (canonises book)) old new answer = SaysAtMostOnce old new answer
Leaves (Some (checks books)) old new answer = SaysAtMostOnce old new answer
Leaves (Some (runs wanted)) old new answer = SaysAtMostOnce old new answer ⊎ LeavesSession wanted old new
Leaves (Some shows) old new answer = WritesNothing 0 old new
Leaves (Some (lists_rules agent)) old new answer = WritesNothing agent old new
Leaves (Some (decides agent packets)) old new answer = WritesNothing agent old new
Leaves (Some (shadows agent)) old new answer = WritesNothing agent old new
Leaves (Some (rehearses positions)) old new answer = SaysAtMostOnce old new answer
Leaves (Some (audits engine filters)) old new answer = SaysAtMostOnce old new answer

-- a call that is refused before it opens a file of the disk says its line, and leaves all else
abbrev pub LeavesAll : SiteView → SiteView → ℕ → Type 0
LeavesAll old new answer = IsOneOf answer (1 ∷ 2 ∷ 3 ∷ 4 ∷ 5 ∷ []) → SaysAtMostOnce old new answer

-- A fault of the disk was counted, of a command that opens a file of it. (Of `rehearse` none is told: its site is its own.)
abbrev pub CountsDisk : Option Asked → SiteView → SiteView → Type 0
CountsDisk None old new = ⊥
CountsDisk (Some (canonises book)) old new = ⊥
CountsDisk (Some (checks books)) old new = ⊥
CountsDisk (Some (runs wanted)) old new = Rose old.disk.faults new.disk.faults
CountsDisk (Some shows) old new = Rose old.disk.faults new.disk.faults
CountsDisk (Some (lists_rules agent)) old new = Rose old.disk.faults new.disk.faults
CountsDisk (Some (decides agent packets)) old new = Rose old.disk.faults new.disk.faults
CountsDisk (Some (shadows agent)) old new = Rose old.disk.faults new.disk.faults
CountsDisk (Some (rehearses positions)) old new = ⊥
CountsDisk (Some (audits engine filters)) old new = ⊥
