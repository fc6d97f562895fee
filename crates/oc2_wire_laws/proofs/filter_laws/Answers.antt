use Rattle.oc2_wire_laws.proofs.FilterCalls.{act_is_kept, reply_is_kept, shrunk_are_kept}
use Rattle.oc2_wire_laws.proofs.Kept.{more_for_filters}
use Rattle.oc2_wire_laws.proofs.filter_laws.Goals as goal

pub returns : goal.returns
returns c = record { shrunk = shrunk_are_kept; act = act_is_kept; reply = reply_is_kept; got = more_for_filters }
