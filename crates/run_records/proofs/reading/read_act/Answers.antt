use Rattle.std.proofs.Common.{◌≡◌, ◌≢◌, arith}
use Rattle.std.specs.Prelude.{IfSome, IfNone}
use Rattle.run_records.specs.declared.act.Act.{Act}
use Rattle.run_records.specs.Layout.{act_layout}
use Rattle.run_records.specs.Ranges.{ActInRange}
use Rattle.run_records.specs.Reading.{act_of}
use Rattle.run_records.proofs.ReadLemmas.{found_act, no_act, ok_then}
use Rattle.run_records.proofs.reading.read_act.Goals as goal

pub returns-clause-found : goal.returns-clause-found
returns-clause-found c =
    let bytes = c.args.bytes.now in
    ok_then (λ found. found ≡ act_of bytes) (λ found. IfSome found (λ a. ActInRange a × (bytes ≡ act_layout a))) c.act_in.result
    (λ found is. found_act bytes found (λ i. omega (arith, c.type_inv.bytes i)) is) c.act_in.ensures

pub returns-clause-none : goal.returns-clause-none
returns-clause-none c =
    let bytes = c.args.bytes.now in
    ok_then (λ found. found ≡ act_of bytes) (λ found. IfNone found ((a : Act) → ActInRange a → bytes ≢ act_layout a)) c.act_in.result
    (λ found is. no_act bytes found is) c.act_in.ensures
