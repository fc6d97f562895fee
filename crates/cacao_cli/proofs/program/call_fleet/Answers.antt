-- One call of `fleet`.
use Rattle.std.proofs.Common.{sym, subst, ℕ, ◌≤◌}
use Rattle.std.proofs.lemmas.List.{length-map}
use Rattle.cacao_cli_words.specs.Commands.{fleet_request_by}
use Rattle.cacao_cli_words.specs.RunBooks.{run_of}
use Rattle.cacao_cli_ends.specs.Files.{ShelfCall}
use Rattle.cacao_cli_fleets.specs.FleetEnds.{fleet_end_of}
use Rattle.cacao_cli_fleets.proofs.LineLemmas.{fleet-agrees}
use Rattle.cacao_cli_fleets.proofs.RunLemmas.{are-runs}
use Rattle.cacao_cli_fleets.proofs.StandLemmas.{fleet-tells-rack}
use Rattle.cacao_cli_fleets.proofs.UndamagedLemmas.{fleet-undamaged}
use Rattle.cacao_cli.proofs.FleetUse.{fleet-uses}
use Rattle.cacao_cli.proofs.program.call_fleet.Goals as goal

pub returns-clause-agreement : goal.returns-clause-agreement
returns-clause-agreement g c start =
    let shelf : ShelfCall = record { told = g.L.Shelf.told c.args.shelf.now; before = g.L.Shelf.faults c.args.shelf.now; after = g.L.Shelf.faults c.fleet-end.new.shelf; reads_before = g.L.Shelf.reads c.args.shelf.now; reads_after = g.L.Shelf.reads c.fleet-end.new.shelf } in
    fleet-agrees c.lines_law.ensures.other_lines c.shrinking_law.ensures.kept c.events_law.ensures.fleets (fleet_request_by c.args.wanted.now) shelf
    (g.R.Disk.view c.args.rack.now) (g.R.Disk.view c.fleet-end.new.rack) (g.R.Disk.view c.finish_fleet.new.site) (fleet_end_of c.fleet-end.result) c.finish_fleet.result
    (g.met.R.Disk.sound c.fleet-end.new.rack) (are-runs c.args.wanted.now.runs.items c.args.wanted.now.few c.args.wanted.now.apart)
    c.fleet-end.ensures.performed c.finish_fleet.ensures start

pub returns-clause-ended : goal.returns-clause-ended
returns-clause-ended g c = record {
  last = fleet_end_of c.fleet-end.result;
  between = g.R.Disk.view c.fleet-end.new.rack;
  goes = c.fleet-end.ensures.performed;
  tells = c.finish_fleet.ensures;
}

pub returns-clause-tells : goal.returns-clause-tells
returns-clause-tells g c =
    let shelf : ShelfCall = record { told = g.L.Shelf.told c.args.shelf.now; before = g.L.Shelf.faults c.args.shelf.now; after = g.L.Shelf.faults c.fleet-end.new.shelf; reads_before = g.L.Shelf.reads c.args.shelf.now; reads_after = g.L.Shelf.reads c.fleet-end.new.shelf } in
    fleet-tells-rack (fleet_request_by c.args.wanted.now) shelf
    (g.R.Disk.view c.args.rack.now) (g.R.Disk.view c.fleet-end.new.rack) (g.R.Disk.view c.finish_fleet.new.site) (fleet_end_of c.fleet-end.result) c.finish_fleet.result
    c.fleet-end.ensures.performed c.finish_fleet.ensures c.fleet_causes_law.ensures.refusals c.fleet_causes_law.ensures.closes

pub returns-clause-uses_few : goal.returns-clause-uses_few
returns-clause-uses_few g c =
    let shelf : ShelfCall = record { told = g.L.Shelf.told c.args.shelf.now; before = g.L.Shelf.faults c.args.shelf.now; after = g.L.Shelf.faults c.fleet-end.new.shelf; reads_before = g.L.Shelf.reads c.args.shelf.now; reads_after = g.L.Shelf.reads c.fleet-end.new.shelf } in
    fleet-uses c.fleet_costs_law.ensures.closes c.fleet_costs_law.ensures.refuses (fleet_request_by c.args.wanted.now) shelf
    (g.R.Disk.view c.args.rack.now) (g.R.Disk.view c.fleet-end.new.rack) (g.R.Disk.view c.finish_fleet.new.site) (fleet_end_of c.fleet-end.result) c.finish_fleet.result
    c.fleet-end.ensures.performed c.finish_fleet.ensures

pub returns-clause-undamaged : goal.returns-clause-undamaged
returns-clause-undamaged g c told good =
    let shelf : ShelfCall = record { told = g.L.Shelf.told c.args.shelf.now; before = g.L.Shelf.faults c.args.shelf.now; after = g.L.Shelf.faults c.fleet-end.new.shelf; reads_before = g.L.Shelf.reads c.args.shelf.now; reads_after = g.L.Shelf.reads c.fleet-end.new.shelf } in
    fleet-undamaged c.fleet_undamaged_law.ensures.undamaged (fleet_request_by c.args.wanted.now) shelf
    (g.R.Disk.view c.args.rack.now) (g.R.Disk.view c.fleet-end.new.rack) (g.R.Disk.view c.finish_fleet.new.site) (fleet_end_of c.fleet-end.result) c.finish_fleet.result
    (subst (λ (n : ℕ). 1 ≤ n) (sym (length-map c.args.wanted.now.runs.items run_of)) c.args.wanted.now.some)
    (g.met.R.Disk.sound c.args.rack.now) (g.met.R.Disk.sound c.fleet-end.new.rack) told good c.fleet-end.ensures.performed c.finish_fleet.ensures
