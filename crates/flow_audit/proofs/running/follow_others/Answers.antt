use Rattle.std.proofs.Common.{◌≡◌, List, length, Some, refl, subst, arith}
use Rattle.std.specs.Prelude.{slice_get}
use Rattle.std.proofs.lemmas.List.{length-take, take_all}
use Rattle.std.proofs.lemmas.List.Elements.{All-from_recursion}
use Rattle.std.proofs.lemmas.Option.{slice_get_read}
use Rattle.run_records.specs.Ranges.{InRange}
use Rattle.run_records.specs.declared.record.Record.{Record}
use Rattle.flow_core.specs.TakenRecords.{RefusesRecord}
use Rattle.flow_core.specs.declared.flow_errors.FlowError.{FlowError}
use Rattle.flow_audit.specs.Parts.{HasTaken}
use Rattle.flow_audit.proofs.ListLemmas.{all_get}
use Rattle.flow_audit.proofs.RunLemmas.{stops_later, passes_later, taken_next}
use Rattle.flow_audit.proofs.running.follow_others.Goals as goal

pub loop-n-preserved : goal.loop-n-preserved
loop-n-preserved c =
    let records = c.args.file.now.records.items in
    let n = c.loop-n.n in
    let r = c.index.result.now in
    let there : slice_get records n ≡ Some r = slice_get_read records (length records) n r refl (omega (arith, c.loop-n-test.true, c.len-n-end.ensures)) c.index.ensures in
    taken_next records n c.loop-n.flow c.take.new.self r (omega (arith, c.loop-n.auto.n)) there c.loop-n.invariant c.in-Ok.ensures.ok c.law.ensures.sizes.tasks

pub returns-in-Err-NotEnabled-clause-stops : goal.returns-in-Err-NotEnabled-clause-stops
returns-in-Err-NotEnabled-clause-stops c =
    let records = c.args.file.now.records.items in
    let n = c.loop-n.n in
    let r = c.index.result.now in
    let there : slice_get records n ≡ Some r = slice_get_read records (length records) n r refl (omega (arith, c.loop-n-test.true, c.len-n-end.ensures)) c.index.ensures in
    let none = subst (λ (e : FlowError). RefusesRecord c.loop-n.flow r e) c.in-Err-NotEnabled.field-0-is c.in-Err-NotEnabled.ensures.refused in
    let stops = stops_later records n c.loop-n.flow r (omega (arith, c.loop-n.auto.n)) there c.loop-n.invariant none in
    (refl, (n, stops.0, stops.1, c.gate.ensures))

pub returns-in-Err-Limit-clause-stops : goal.returns-in-Err-Limit-clause-stops
returns-in-Err-Limit-clause-stops c =
    let records = c.args.file.now.records.items in
    let n = c.loop-n.n in
    let r = c.index.result.now in
    let there : slice_get records n ≡ Some r = slice_get_read records (length records) n r refl (omega (arith, c.loop-n-test.true, c.len-n-end.ensures)) c.index.ensures in
    let limit = subst (λ (e : FlowError). RefusesRecord c.loop-n.flow r e) c.in-Err-Limit.field-0-is c.in-Err-Limit.ensures.refused in
    (n, passes_later records n c.loop-n.flow r (omega (arith, c.loop-n.auto.n)) there c.loop-n.invariant limit.1, c.gate-in-Err-Limit.ensures)

pub returns-clause-ok : goal.returns-clause-ok
returns-clause-ok c =
    let records = c.args.file.now.records.items in
    subst (λ (l : List Record). HasTaken l c.loop-n.flow) (take_all c.loop-n.n records (omega (arith, c.loop-n-test.false, c.len-n-end.ensures))) c.loop-n.invariant

pub take-requires-clause-few : goal.take-requires-clause-few
take-requires-clause-few c = omega (arith, c.loop-n.invariant.count, length-take c.loop-n.n c.args.file.now.records.items, c.requires.few)

pub take-requires-clause-in_range : goal.take-requires-clause-in_range
take-requires-clause-in_range c =
    let records = c.args.file.now.records.items in
    let n = c.loop-n.n in
    let r = c.index.result.now in
    let there : slice_get records n ≡ Some r = slice_get_read records (length records) n r refl (omega (arith, c.loop-n-test.true, c.len-n-end.ensures)) c.index.ensures in
    all_get InRange records n r there (All-from_recursion InRange records c.requires.ranges)
