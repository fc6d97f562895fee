use Rattle.std.proofs.Common.{ap}
use Rattle.serde_json.specs.Data.{string}
use Rattle.flow_core_values.proofs.AddressLemmas.{completed_new}
use Rattle.flow_core_values.proofs.addressing.complete.Goals as goal

pub returns : goal.returns
returns c = completed_new c.args.pairs _ _ _ c.as_slice.ensures.sorted c.in_ok-name.ensures (ap string c.in_ok-text.ensures) c.in_ok-put.ensures
