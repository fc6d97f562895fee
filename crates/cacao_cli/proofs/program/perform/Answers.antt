-- Words with no reading, and want of memory for them.
use Rattle.std.proofs.Common.{◌≡◌, ◌∙◌, sym, ap, refl, subst, Option, map, string_bytes}
use Rattle.std.specs.Prelude.{option_and_then, option_map}
use Rattle.cacao_cli_ends.specs.Asked.{Asked, asked, built}
use Rattle.cacao_cli_words.specs.Commands.{request_by}
use Rattle.cacao_cli_status_laws.specs.Commands.{asked_by}
use Rattle.cacao_cli_ends.specs.Told.{end_of}
use Rattle.cacao_cli_status_laws.specs.Ended.{Performed}
use Rattle.cacao_cli_ends.specs.Files.{ShelfCall}
use Rattle.cacao_cli_status_laws.proofs.PerformLemmas.{performed-none, performed-memory}
use Rattle.cacao_cli.proofs.program.perform.Goals as goal

pub returns-in-Ok-None-clause-performed : goal.returns-in-Ok-None-clause-performed
returns-in-Ok-None-clause-performed g c =
    let shelf : ShelfCall = record { told = g.L.Shelf.told c.args.shelf.now; before = g.L.Shelf.faults c.args.shelf.now; after = g.L.Shelf.faults c.args.shelf.now; reads_before = g.L.Shelf.reads c.args.shelf.now; reads_after = g.L.Shelf.reads c.args.shelf.now } in
    performed-none (asked (map string_bytes c.args.words.now)) shelf (g.S.Disk.view c.args.site.now)
    (ap (option_and_then built) (sym c.in-Ok-None.ensures ∙ ap (option_map request_by) c.in-Ok-None.field-0-is)) refl refl

pub returns-in-Err-clause-performed : goal.returns-in-Err-clause-performed
returns-in-Err-clause-performed g c =
    let shelf : ShelfCall = record { told = g.L.Shelf.told c.args.shelf.now; before = g.L.Shelf.faults c.args.shelf.now; after = g.L.Shelf.faults c.args.shelf.now; reads_before = g.L.Shelf.reads c.args.shelf.now; reads_after = g.L.Shelf.reads c.args.shelf.now } in
    performed-memory (asked (map string_bytes c.args.words.now)) shelf (g.S.Disk.view c.args.site.now) refl refl

pub returns-in-Ok-Some-clause-performed : goal.returns-in-Ok-Some-clause-performed
returns-in-Ok-Some-clause-performed g c =
    let shelf : ShelfCall = record { told = g.L.Shelf.told c.args.shelf.now; before = g.L.Shelf.faults c.args.shelf.now; after = g.L.Shelf.faults c.carry_out.new.shelf; reads_before = g.L.Shelf.reads c.args.shelf.now; reads_after = g.L.Shelf.reads c.carry_out.new.shelf } in
    let asked_is : asked_by c.in-Ok-Some.command ≡ asked (map string_bytes c.args.words.now) = ap (option_and_then built) (ap (option_map request_by) (sym c.in-Ok-Some.field-0-is) ∙ c.in-Ok-Some.ensures) in
    subst (λ (a : Option Asked). Performed a shelf (g.S.Disk.view c.args.site.now) (g.S.Disk.view c.carry_out.new.site) (end_of c.carry_out.result)) asked_is c.carry_out.ensures.performed
