use Rattle.flow_core_laws.proofs.Orders.{others_change_the_same, both_orders}
use Rattle.flow_core_laws.proofs.Exchanged.{neighbours_may_be_exchanged}
use Rattle.flow_core_laws.proofs.RaisedFrame.{others_change_the_same_renumbered, both_orders_go_on}
use Rattle.flow_core_laws.proofs.Results.{writes_are_results}
use Rattle.flow_core_laws.proofs.BothSend.{both_may_send}
use Rattle.flow_core_laws.proofs.orders_law.Goals as goal

pub returns : goal.returns
returns c = record { frame = others_change_the_same; both_orders = both_orders; exchanged = neighbours_may_be_exchanged; renumbered = others_change_the_same_renumbered; both_go_on = both_orders_go_on; both_send = both_may_send; results = writes_are_results }
