use Rattle.std.proofs.Common.{length, refl}
use Rattle.std.proofs.lemmas.Option.{slice_get_read}
use Rattle.flow_core_plans.proofs.WaitLemmas.{wait_there, open_tells, failed_tells}
use Rattle.flow_core_plans.proofs.joining.wait.Goals as goal

pub returns-clause-open : goal.returns-clause-open
returns-clause-open c =
    let r = c.args.run.now in
    open_tells r c.args.stand c.args.from c.index.result.now c.requires.well c.requires.stands c.requires.joins
    (slice_get_read r.tables.waits.items (length r.tables.waits.items) c.args.stand.number c.index.result.now refl (wait_there r c.args.stand c.requires.well c.requires.stands) c.index.ensures)

pub returns-clause-failed : goal.returns-clause-failed
returns-clause-failed c =
    let r = c.args.run.now in
    failed_tells r c.args.stand c.args.from c.index.result.now c.requires.well c.requires.stands c.requires.joins
    (slice_get_read r.tables.waits.items (length r.tables.waits.items) c.args.stand.number c.index.result.now refl (wait_there r c.args.stand c.requires.well c.requires.stands) c.index.ensures)
