use Rattle.flow_fleet_sessions.proofs.Beside.{sessions_keep_bystanders, sessions_keep_numbered}
use Rattle.flow_fleet_sessions.proofs.Openings.{filters_open, openings_shrink, refused_openings_shrink}
use Rattle.flow_fleet_sessions.proofs.Sessions.{sessions_are_events}
use Rattle.flow_fleet_sessions.proofs.sessions_law.Goals as goal

pub returns : goal.returns
returns c = record {
  filters = filters_open;
  openings = openings_shrink;
  refused = refused_openings_shrink;
  events = sessions_are_events;
  numbered = sessions_keep_numbered;
  bystanders = sessions_keep_bystanders;
}
