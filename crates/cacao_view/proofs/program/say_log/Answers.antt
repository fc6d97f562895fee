-- The records of the disk's file, or those of the file that is named.
use Rattle.std.proofs.Common.{sym, subst, Bor, Option}
use Rattle.cacao_site.specs.View.{SiteView}
use Rattle.cacao_cli_ends.specs.Files.{ShelfCall, shelf_call}
use Rattle.cacao_view_log.specs.Logs.{Logs}
use Rattle.cacao_view_log.specs.declared.form.Form.{Form}
use Rattle.cacao_view_words.specs.Asked.{maybe_text}
use Rattle.cacao_view_words.specs.Requests.{logs}
use Rattle.cacao_view_words.specs.Texts.{Text}
use Rattle.cacao_view.specs.Logging.{LogsFile}
use Rattle.cacao_view.specs.Looks.{Looks}
use Rattle.cacao_view.specs.OpeningRuns.{OpensTo}
use Rattle.cacao_view.specs.Reports.{Reports, ReportsOpened}
use Rattle.cacao_view.specs.Told.{end_of}
use Rattle.cacao_view.specs.Work.{work}
use Rattle.cacao_view.proofs.program.say_log.Goals as goal

pub returns-in-None-clause-looks : goal.returns-in-None-clause-looks
returns-in-None-clause-looks g c =
    let shelf : ShelfCall = shelf_call (g.L.Shelf.told c.args.shelf.now) (g.L.Shelf.faults c.args.shelf.now) (g.L.Shelf.faults c.args.shelf.now) (g.L.Shelf.reads c.args.shelf.now) (g.L.Shelf.reads c.args.shelf.now) in
    let old : SiteView = g.S.Disk.view c.args.site.now in
    let new : SiteView = g.S.Disk.view c.say_disk_log.new.site in
    subst (λ (e : Option (Bor Text)). Looks (work (logs c.args.json (maybe_text e))) shelf old new (end_of c.say_disk_log.result)) (sym c.in-None.is)
    (subst (λ (form : Form). ReportsOpened (OpensTo (Logs form)) old new (end_of c.say_disk_log.result)) c.form_of.ensures c.say_disk_log.ensures)

pub returns-in-Some-clause-looks : goal.returns-in-Some-clause-looks
returns-in-Some-clause-looks g c =
    let shelf : ShelfCall = shelf_call (g.L.Shelf.told c.args.shelf.now) (g.L.Shelf.faults c.args.shelf.now) (g.L.Shelf.faults c.say_file_log.new.shelf) (g.L.Shelf.reads c.args.shelf.now) (g.L.Shelf.reads c.say_file_log.new.shelf) in
    let old : SiteView = g.S.Disk.view c.args.site.now in
    let new : SiteView = g.S.Disk.view c.say_file_log.new.site in
    subst (λ (e : Option (Bor Text)). Looks (work (logs c.args.json (maybe_text e))) shelf old new (end_of c.say_file_log.result)) (sym c.in-Some.is)
    (subst (λ (form : Form). Reports (LogsFile form c.in-Some.name.now shelf) old new (end_of c.say_file_log.result)) c.form_of-in-Some.ensures c.say_file_log.ensures.looks)
