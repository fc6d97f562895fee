-- Each clause holds of a call that went as `Ended` says.
use Rattle.std.proofs.Common.{◌≡◌, ℕ, [], ap, subst, sym}
use Rattle.cacao_site.specs.View.{SiteView}
use Rattle.cacao_cli_ends.specs.Files.{ShelfCall, shelf_call}
use Rattle.cacao_view_words.specs.Asked.{request_by}
use Rattle.cacao_view_words.specs.Requests.{Request}
use Rattle.cacao_view.specs.Told.{end_of}
use Rattle.cacao_view.specs.Ends.{End}
use Rattle.cacao_view.specs.Lines.{Tells}
use Rattle.cacao_view.specs.Looks.{Ended, Looks}
use Rattle.cacao_view.specs.Work.{files_of, work}
use Rattle.cacao_view.proofs.EndedLemmas.{answers-ended, disk-ended, lacking-ended, looks-ended, said-ended, shelf-failed-ended, shelf-steady-ended, statuses-ended, unsaid-ended}
use Rattle.cacao_view.proofs.program.view.Goals as goal

came : (r asked : Request) (shelf : ShelfCall) (old mid new : SiteView) (last : End) (answer : ℕ) → r ≡ asked → Looks (work r) shelf old mid last → Tells last mid new answer → Ended asked shelf old new answer
came r asked shelf old mid new last answer is looks tells =
    subst (λ (a : Request). Ended a shelf old new answer) is (record { between = mid; last = last; looks = looks; tells = tells })

pub returns-clause-ended : goal.returns-clause-ended
returns-clause-ended g c = came (request_by c.read_words.result) _ (shelf_call (g.L.Shelf.told c.args.shelf.now) (g.L.Shelf.faults c.args.shelf.now) (g.L.Shelf.faults c.look-end.new.shelf) (g.L.Shelf.reads c.args.shelf.now) (g.L.Shelf.reads c.look-end.new.shelf))
    (g.S.Disk.view c.args.site.now) (g.S.Disk.view c.look-end.new.site) (g.S.Disk.view c.finish.new.site) (end_of c.look-end.result) c.finish.result c.read_words.ensures c.look-end.ensures.looks c.finish.ensures

pub returns-clause-looks : goal.returns-clause-looks
returns-clause-looks g c = looks-ended _ _ _ _ _ (came (request_by c.read_words.result) _ (shelf_call (g.L.Shelf.told c.args.shelf.now) (g.L.Shelf.faults c.args.shelf.now) (g.L.Shelf.faults c.look-end.new.shelf) (g.L.Shelf.reads c.args.shelf.now) (g.L.Shelf.reads c.look-end.new.shelf))
    (g.S.Disk.view c.args.site.now) (g.S.Disk.view c.look-end.new.site) (g.S.Disk.view c.finish.new.site) (end_of c.look-end.result) c.finish.result c.read_words.ensures c.look-end.ensures.looks c.finish.ensures)

pub returns-clause-statuses : goal.returns-clause-statuses
returns-clause-statuses g c = statuses-ended _ _ _ _ _ (came (request_by c.read_words.result) _ (shelf_call (g.L.Shelf.told c.args.shelf.now) (g.L.Shelf.faults c.args.shelf.now) (g.L.Shelf.faults c.look-end.new.shelf) (g.L.Shelf.reads c.args.shelf.now) (g.L.Shelf.reads c.look-end.new.shelf))
    (g.S.Disk.view c.args.site.now) (g.S.Disk.view c.look-end.new.site) (g.S.Disk.view c.finish.new.site) (end_of c.look-end.result) c.finish.result c.read_words.ensures c.look-end.ensures.looks c.finish.ensures)

pub returns-clause-not_understood : goal.returns-clause-not_understood
returns-clause-not_understood g c = lacking-ended _ _ _ _ _ (came (request_by c.read_words.result) _ (shelf_call (g.L.Shelf.told c.args.shelf.now) (g.L.Shelf.faults c.args.shelf.now) (g.L.Shelf.faults c.look-end.new.shelf) (g.L.Shelf.reads c.args.shelf.now) (g.L.Shelf.reads c.look-end.new.shelf))
    (g.S.Disk.view c.args.site.now) (g.S.Disk.view c.look-end.new.site) (g.S.Disk.view c.finish.new.site) (end_of c.look-end.result) c.finish.result c.read_words.ensures c.look-end.ensures.looks c.finish.ensures)

pub returns-clause-shelf_failed : goal.returns-clause-shelf_failed
returns-clause-shelf_failed g c = shelf-failed-ended _ _ _ _ _ (came (request_by c.read_words.result) _ (shelf_call (g.L.Shelf.told c.args.shelf.now) (g.L.Shelf.faults c.args.shelf.now) (g.L.Shelf.faults c.look-end.new.shelf) (g.L.Shelf.reads c.args.shelf.now) (g.L.Shelf.reads c.look-end.new.shelf))
    (g.S.Disk.view c.args.site.now) (g.S.Disk.view c.look-end.new.site) (g.S.Disk.view c.finish.new.site) (end_of c.look-end.result) c.finish.result c.read_words.ensures c.look-end.ensures.looks c.finish.ensures)

pub returns-clause-disk : goal.returns-clause-disk
returns-clause-disk g c = disk-ended _ _ _ _ _ (came (request_by c.read_words.result) _ (shelf_call (g.L.Shelf.told c.args.shelf.now) (g.L.Shelf.faults c.args.shelf.now) (g.L.Shelf.faults c.look-end.new.shelf) (g.L.Shelf.reads c.args.shelf.now) (g.L.Shelf.reads c.look-end.new.shelf))
    (g.S.Disk.view c.args.site.now) (g.S.Disk.view c.look-end.new.site) (g.S.Disk.view c.finish.new.site) (end_of c.look-end.result) c.finish.result c.read_words.ensures c.look-end.ensures.looks c.finish.ensures)

pub returns-clause-unsaid : goal.returns-clause-unsaid
returns-clause-unsaid g c = unsaid-ended _ _ _ _ _ (came (request_by c.read_words.result) _ (shelf_call (g.L.Shelf.told c.args.shelf.now) (g.L.Shelf.faults c.args.shelf.now) (g.L.Shelf.faults c.look-end.new.shelf) (g.L.Shelf.reads c.args.shelf.now) (g.L.Shelf.reads c.look-end.new.shelf))
    (g.S.Disk.view c.args.site.now) (g.S.Disk.view c.look-end.new.site) (g.S.Disk.view c.finish.new.site) (end_of c.look-end.result) c.finish.result c.read_words.ensures c.look-end.ensures.looks c.finish.ensures)

pub returns-clause-said : goal.returns-clause-said
returns-clause-said g c = said-ended _ _ _ _ _ (came (request_by c.read_words.result) _ (shelf_call (g.L.Shelf.told c.args.shelf.now) (g.L.Shelf.faults c.args.shelf.now) (g.L.Shelf.faults c.look-end.new.shelf) (g.L.Shelf.reads c.args.shelf.now) (g.L.Shelf.reads c.look-end.new.shelf))
    (g.S.Disk.view c.args.site.now) (g.S.Disk.view c.look-end.new.site) (g.S.Disk.view c.finish.new.site) (end_of c.look-end.result) c.finish.result c.read_words.ensures c.look-end.ensures.looks c.finish.ensures)

pub returns-clause-answers : goal.returns-clause-answers
returns-clause-answers g c = answers-ended _ _ _ _ _ (came (request_by c.read_words.result) _ (shelf_call (g.L.Shelf.told c.args.shelf.now) (g.L.Shelf.faults c.args.shelf.now) (g.L.Shelf.faults c.look-end.new.shelf) (g.L.Shelf.reads c.args.shelf.now) (g.L.Shelf.reads c.look-end.new.shelf))
    (g.S.Disk.view c.args.site.now) (g.S.Disk.view c.look-end.new.site) (g.S.Disk.view c.finish.new.site) (end_of c.look-end.result) c.finish.result c.read_words.ensures c.look-end.ensures.looks c.finish.ensures)

pub returns-clause-shelf_steady : goal.returns-clause-shelf_steady
returns-clause-shelf_steady g c = shelf-steady-ended _ _ _ _ _ (came (request_by c.read_words.result) _ (shelf_call (g.L.Shelf.told c.args.shelf.now) (g.L.Shelf.faults c.args.shelf.now) (g.L.Shelf.faults c.look-end.new.shelf) (g.L.Shelf.reads c.args.shelf.now) (g.L.Shelf.reads c.look-end.new.shelf))
    (g.S.Disk.view c.args.site.now) (g.S.Disk.view c.look-end.new.site) (g.S.Disk.view c.finish.new.site) (end_of c.look-end.result) c.finish.result c.read_words.ensures c.look-end.ensures.looks c.finish.ensures)
    (λ none. ap g.L.Shelf.faults (c.look-end.ensures.untouched (subst (λ (r : Request). files_of r ≡ []) (sym c.read_words.ensures) none)))
