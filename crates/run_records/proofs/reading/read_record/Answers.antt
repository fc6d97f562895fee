use Rattle.std.proofs.Common.{◌≡◌, ◌≢◌, arith}
use Rattle.std.specs.Prelude.{IfSome, IfNone}
use Rattle.run_records.specs.declared.record.Record.{Record}
use Rattle.run_records.specs.Layout.{layout}
use Rattle.run_records.specs.Ranges.{InRange}
use Rattle.run_records.specs.Reading.{record_of}
use Rattle.run_records.proofs.ReadLemmas.{found_record, no_record, ok_then}
use Rattle.run_records.proofs.reading.read_record.Goals as goal

pub returns-clause-found : goal.returns-clause-found
returns-clause-found c =
    let bytes = c.args.bytes.now in
    ok_then (λ found. found ≡ record_of bytes) (λ found. IfSome found (λ r. InRange r × (bytes ≡ layout r))) c.record_in.result
    (λ found is. found_record bytes found (λ i. omega (arith, c.type_inv.bytes i)) is) c.record_in.ensures

pub returns-clause-none : goal.returns-clause-none
returns-clause-none c =
    let bytes = c.args.bytes.now in
    ok_then (λ found. found ≡ record_of bytes) (λ found. IfNone found ((r : Record) → InRange r → bytes ≢ layout r)) c.record_in.result
    (λ found is. no_record bytes found is) c.record_in.ensures
