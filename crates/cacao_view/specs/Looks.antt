-- Promise: What a call of the program does.
use Rattle.std.specs.Prelude.{◌≡◌, ℕ, ◌≤◌}
use Rattle.cacao_site.specs.DiskCalls.{EachBeat, IsLeft}
use Rattle.cacao_site.specs.SayCalls.{KeepsTime}
use Rattle.cacao_site.specs.View.{SiteView}
use Rattle.cacao_cli_ends.specs.Files.{ShelfCall}
use Rattle.cacao_view_graph.specs.RunPictures.{DrawsEntries}
use Rattle.cacao_view_log.specs.Logs.{Logs}
use Rattle.cacao_view_words.specs.Requests.{Request}
use Rattle.cacao_view.specs.Drawing.{Draws}
use Rattle.cacao_view.specs.Ends.{End}
use Rattle.cacao_view.specs.Explaining.{ExplainsBooks}
use Rattle.cacao_view.specs.Flying.{FliesBooks}
use Rattle.cacao_view.specs.Lines.{SaysWork, Tells}
use Rattle.cacao_view.specs.Logging.{LogsFile}
use Rattle.cacao_view.specs.OpeningRuns.{OpensTo}
use Rattle.cacao_view.specs.Reports.{Reports, ReportsOpened}
use Rattle.cacao_view.specs.Work.{Work, draws, draws_run, logs_disk, logs_file, says, tells_break, tells_flight, work}

-- No file was written, nothing was put or taken, and no time went by: each image that a crash may leave of a file at each beat of
-- the call is one that it could leave before.
pub record OnlyLooks (old new : SiteView) : Type 0 where
  pub images : (file : ℕ) → EachBeat file old.disk new.disk (IsLeft old.disk file old.disk.beat)
  pub written : new.disk.written ≤ old.disk.written
  pub puts : new.link.puts ≡ old.link.puts
  pub taken : new.link.taken ≡ old.link.taken
  pub empty_takes : new.link.empty_takes ≡ old.link.empty_takes
  pub pending : new.link.pending ≡ old.link.pending
  pub time : KeepsTime old.clock new.clock
  pub mishaps : new.counts.mishaps ≡ old.counts.mishaps

-- the work was done, from the one site to the other, all but the last line
abbrev pub Looks : Work → ShelfCall → SiteView → SiteView → End → Type 0
Looks (says lines end) shelf old new last = SaysWork lines end old new last
Looks (logs_disk form) shelf old new last = ReportsOpened (OpensTo (Logs form)) old new last
Looks (logs_file form name) shelf old new last = Reports (LogsFile form name shelf) old new last
Looks (draws books) shelf old new last = Reports (Draws books shelf) old new last
Looks draws_run shelf old new last = ReportsOpened (OpensTo DrawsEntries) old new last
Looks (tells_break books) shelf old new last = Reports (ExplainsBooks books shelf) old new last
Looks (tells_flight bind books) shelf old new last = Reports (FliesBooks bind books shelf) old new last

-- the work of the request was done, its last line was said, if it has one, and its status answered
pub record Ended (request : Request) (shelf : ShelfCall) (old new : SiteView) (answer : ℕ) : Type 0 where
  pub between : SiteView
  pub last : End
  pub looks : Looks (work request) shelf old between last
  pub tells : Tells last between new answer
