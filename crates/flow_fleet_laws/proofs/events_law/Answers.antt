use Rattle.flow_fleet_laws.proofs.Events.{events_keep_both_forms, events_keep_each, events_keep_fleets}
use Rattle.flow_fleet_laws.proofs.Bystanders.{events_keep_bystanders}
use Rattle.flow_fleet_laws.proofs.Commands.{events_put_own}
use Rattle.flow_fleet_laws.proofs.Journals.{events_keep_own}
use Rattle.flow_fleet_laws.proofs.events_law.Goals as goal

pub returns : goal.returns
returns c = record {
  each = events_keep_each;
  fleets = events_keep_fleets;
  both_forms = events_keep_both_forms;
  bystanders = events_keep_bystanders;
  own = events_keep_own;
  numbers = events_put_own;
}
