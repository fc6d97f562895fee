use Rattle.std.proofs.Common.{Err, ap, inl, arith}
use Rattle.flow_fleet_steps.specs.Openings.{blank_own, blank_shared}
use Rattle.flow_fleet_steps.specs.declared.error.FleetError.{FleetError}
use Rattle.flow_fleet.proofs.OpenLemmas.{files_filters, files_many, files_stand}
use Rattle.flow_fleet.proofs.SteadyLemmas.{opening_steady}
use Rattle.flow_fleet.proofs.WholeLemmas.{each_agrees, each_closed, each_events, each_refused, each_steady, new_to, refused_agrees, refused_events}
use Rattle.flow_fleet.proofs.whole.fleet.Goals as goal

pub run_opened-requires-clause-few : goal.run_opened-requires-clause-few
run_opened-requires-clause-few g c =
    let same = files_many c.args.runs (g.R.Disk.view c.args.rack.now) (g.R.Disk.view c.open_files.new.rack) c.in-Ok.engines.items c.in-Ok.filters c.law.ensures.few c.in-Ok.ensures.opens in
    let few = c.law.ensures.few in
    omega (arith, same, few)

pub run_opened-requires-clause-enough : goal.run_opened-requires-clause-enough
run_opened-requires-clause-enough g c =
    let same = files_many c.args.runs (g.R.Disk.view c.args.rack.now) (g.R.Disk.view c.open_files.new.rack) c.in-Ok.engines.items c.in-Ok.filters c.law.ensures.few c.in-Ok.ensures.opens in
    let some = c.law.ensures.some in
    omega (arith, same, some)

pub run_opened-requires-clause-stands : goal.run_opened-requires-clause-stands
run_opened-requires-clause-stands g c =
    (files_stand c.args.runs (g.R.Disk.view c.args.rack.now) (g.R.Disk.view c.open_files.new.rack) c.in-Ok.engines.items c.in-Ok.filters c.law.ensures.few c.in-Ok.ensures.opens).stands

pub run_opened-requires-clause-puts : goal.run_opened-requires-clause-puts
run_opened-requires-clause-puts g c =
    (files_stand c.args.runs (g.R.Disk.view c.args.rack.now) (g.R.Disk.view c.open_files.new.rack) c.in-Ok.engines.items c.in-Ok.filters c.law.ensures.few c.in-Ok.ensures.opens).no_puts

pub run_opened-requires-clause-filters : goal.run_opened-requires-clause-filters
run_opened-requires-clause-filters g c =
    files_filters c.args.runs (g.R.Disk.view c.args.rack.now) (g.R.Disk.view c.open_files.new.rack) c.in-Ok.engines.items c.in-Ok.filters c.law.ensures.few c.in-Ok.ensures.opens

pub returns-in-Ok-clause-closed : goal.returns-in-Ok-clause-closed
returns-in-Ok-clause-closed g c =
    each_closed c.args.runs c.args.most (g.R.Disk.view c.args.rack.now) (g.R.Disk.view c.open_files.new.rack) (g.R.Disk.view c.run_opened.new.rack) c.in-Ok.engines.items c.in-Ok.filters c.law.ensures c.in-Ok.ensures.opens
    c.run_opened.result (c.run_opened.ensures.ended blank_own (blank_shared c.args.most) 0 (new_to c.args.most))

pub returns-in-Ok-clause-refused : goal.returns-in-Ok-clause-refused
returns-in-Ok-clause-refused g c =
    each_refused c.args.runs c.args.most (g.R.Disk.view c.args.rack.now) (g.R.Disk.view c.open_files.new.rack) (g.R.Disk.view c.run_opened.new.rack) c.in-Ok.engines.items c.in-Ok.filters c.law.ensures c.in-Ok.ensures.opens
    c.run_opened.result (c.run_opened.ensures.ended blank_own (blank_shared c.args.most) 0 (new_to c.args.most))

pub returns-in-Ok-clause-steady : goal.returns-in-Ok-clause-steady
returns-in-Ok-clause-steady g c =
    each_steady c.args.runs c.args.most (g.R.Disk.view c.args.rack.now) (g.R.Disk.view c.open_files.new.rack) (g.R.Disk.view c.run_opened.new.rack) c.in-Ok.engines.items c.in-Ok.filters c.law.ensures c.in-Ok.ensures.opens
    c.run_opened.result (c.run_opened.ensures.ended blank_own (blank_shared c.args.most) 0 (new_to c.args.most))

pub returns-in-Ok-clause-events : goal.returns-in-Ok-clause-events
returns-in-Ok-clause-events g c =
    each_events c.args.runs c.args.most (g.R.Disk.view c.args.rack.now) (g.R.Disk.view c.open_files.new.rack) (g.R.Disk.view c.run_opened.new.rack) c.in-Ok.engines.items c.in-Ok.filters c.law.ensures c.in-Ok.ensures.opens
    c.run_opened.result (c.run_opened.ensures.ended blank_own (blank_shared c.args.most) 0 (new_to c.args.most)) (g.met.R.Disk.sound c.args.rack.now)

pub returns-in-Ok-clause-agreement : goal.returns-in-Ok-clause-agreement
returns-in-Ok-clause-agreement g c =
    each_agrees c.args.runs c.args.most (g.R.Disk.view c.args.rack.now) (g.R.Disk.view c.open_files.new.rack) (g.R.Disk.view c.run_opened.new.rack) c.in-Ok.engines.items c.in-Ok.filters c.law.ensures c.in-Ok.ensures.opens
    c.run_opened.result (c.run_opened.ensures.ended blank_own (blank_shared c.args.most) 0 (new_to c.args.most)) (g.met.R.Disk.sound c.args.rack.now)

pub returns-in-Err-clause-events : goal.returns-in-Err-clause-events
returns-in-Err-clause-events g c =
    refused_events c.in-Err.error c.args.runs c.args.most (g.R.Disk.view c.args.rack.now) (g.R.Disk.view c.open_files.new.rack) (g.met.R.Disk.sound c.args.rack.now) c.in-Err.ensures.refused

pub returns-in-Err-clause-agreement : goal.returns-in-Err-clause-agreement
returns-in-Err-clause-agreement g c =
    refused_agrees c.in-Err.error c.args.runs c.args.most (g.R.Disk.view c.args.rack.now) (g.R.Disk.view c.open_files.new.rack) c.law.ensures (g.met.R.Disk.sound c.args.rack.now) c.in-Err.ensures.refused

pub returns-in-Err-clause-steady : goal.returns-in-Err-clause-steady
returns-in-Err-clause-steady g c = λ other.
    opening_steady c.in-Err.error c.args.runs (g.R.Disk.view c.args.rack.now) (g.R.Disk.view c.open_files.new.rack) c.in-Err.ensures.refused (λ e. other (ap (λ (x : FleetError). Err x) e))
