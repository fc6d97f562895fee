-- A record that was taken is one more.
use Rattle.std.proofs.Common.{◌≡◌, suc, ◌+◌, ap, arith}
use Rattle.run_records.specs.declared.record.Record.{Record}
use Rattle.flow_core.specs.Views.{View, IsReadyFor, Takes}

pub one_more : (v new : View) (r : Record) → IsReadyFor v r → Takes v r new → new.count ≡ v.count + 1
one_more v new r ready takes =
    let e : new.count ≡ suc v.count = ap (λ (w : View). w.count) (takes ready.edits ready.taken_is) in
    omega (arith, e)
