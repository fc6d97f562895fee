-- The commands that read no file.
use Rattle.std.proofs.Common.{refl, sym, ap, subst, Option}
use Rattle.cacao_site.specs.View.{SiteView}
use Rattle.cacao_cli_ends.specs.Asked.{Asked}
use Rattle.cacao_cli_status_laws.specs.Commands.{asked_by}
use Rattle.cacao_cli_ends.specs.Told.{end_of}
use Rattle.cacao_cli_status_laws.specs.Ended.{Performed}
use Rattle.cacao_cli_ends.specs.Files.{ShelfCall}
use Rattle.cacao_cli_status_laws.proofs.PerformLemmas.{rehearse-perform, rules-perform, shadows-perform, show-perform}
use Rattle.cacao_cli.proofs.program.carry_out.Goals as goal

pub returns-in-Show-clause-performed : goal.returns-in-Show-clause-performed
returns-in-Show-clause-performed g c =
    let shelf : ShelfCall = record { told = g.L.Shelf.told c.args.shelf.now; before = g.L.Shelf.faults c.args.shelf.now; after = g.L.Shelf.faults c.args.shelf.now; reads_before = g.L.Shelf.reads c.args.shelf.now; reads_after = g.L.Shelf.reads c.args.shelf.now } in
    let old : SiteView = g.S.Disk.view c.args.site.now in
    let new : SiteView = g.S.Disk.view c.show.new.site in
    subst (λ (a : Option Asked). Performed a shelf old new (end_of c.show.result)) (sym (ap asked_by c.in-Show.is))
    (show-perform shelf old new (end_of c.show.result) refl refl c.show.ensures)

pub returns-in-Rules-clause-performed : goal.returns-in-Rules-clause-performed
returns-in-Rules-clause-performed g c =
    let shelf : ShelfCall = record { told = g.L.Shelf.told c.args.shelf.now; before = g.L.Shelf.faults c.args.shelf.now; after = g.L.Shelf.faults c.args.shelf.now; reads_before = g.L.Shelf.reads c.args.shelf.now; reads_after = g.L.Shelf.reads c.args.shelf.now } in
    let old : SiteView = g.S.Disk.view c.args.site.now in
    let new : SiteView = g.S.Disk.view c.say_rules.new.site in
    subst (λ (a : Option Asked). Performed a shelf old new (end_of c.say_rules.result)) (sym (ap asked_by c.in-Rules.is))
    (rules-perform c.in-Rules.agent.number shelf old new (end_of c.say_rules.result) refl refl c.say_rules.ensures)

pub returns-in-Shadow-clause-performed : goal.returns-in-Shadow-clause-performed
returns-in-Shadow-clause-performed g c =
    let shelf : ShelfCall = record { told = g.L.Shelf.told c.args.shelf.now; before = g.L.Shelf.faults c.args.shelf.now; after = g.L.Shelf.faults c.args.shelf.now; reads_before = g.L.Shelf.reads c.args.shelf.now; reads_after = g.L.Shelf.reads c.args.shelf.now } in
    let old : SiteView = g.S.Disk.view c.args.site.now in
    let new : SiteView = g.S.Disk.view c.say_shadows.new.site in
    subst (λ (a : Option Asked). Performed a shelf old new (end_of c.say_shadows.result)) (sym (ap asked_by c.in-Shadow.is))
    (shadows-perform c.in-Shadow.agent.number shelf old new (end_of c.say_shadows.result) refl refl c.say_shadows.ensures)

pub returns-in-Rehearse-clause-performed : goal.returns-in-Rehearse-clause-performed
returns-in-Rehearse-clause-performed g c =
    let shelf : ShelfCall = record { told = g.L.Shelf.told c.args.shelf.now; before = g.L.Shelf.faults c.args.shelf.now; after = g.L.Shelf.faults c.args.shelf.now; reads_before = g.L.Shelf.reads c.args.shelf.now; reads_after = g.L.Shelf.reads c.args.shelf.now } in
    let old : SiteView = g.S.Disk.view c.args.site.now in
    let new : SiteView = g.S.Disk.view c.rehearse.new._site in
    subst (λ (a : Option Asked). Performed a shelf old new (end_of c.rehearse.result)) (sym (ap asked_by c.in-Rehearse.is))
    (rehearse-perform c.in-Rehearse.positions.count shelf old new (end_of c.rehearse.result) refl refl c.rehearse.ensures)
