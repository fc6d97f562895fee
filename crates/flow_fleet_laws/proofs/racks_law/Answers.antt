use Rattle.flow_fleet_laws.proofs.Racks.{bare_starts_are_sessions, crashes_are_rack_restarts, fleets_begin_on_blank_racks, fleets_follow, kept_journals_stay_own, runs_begin_anew, runs_begin_on_blank_racks, runs_go_on, sessions_are_bare, starts_in_another_form, starts_under_another}
use Rattle.flow_fleet_laws.proofs.racks_law.Goals as goal

pub returns : goal.returns
returns c = record {
  crash = crashes_are_rack_restarts;
  going_on = runs_go_on;
  beginning_anew = runs_begin_anew;
  another_form = starts_in_another_form;
  another_number = starts_under_another;
  own = kept_journals_stay_own;
  sessions = sessions_are_bare;
  session_starts = bare_starts_are_sessions;
  blank = fleets_begin_on_blank_racks;
  blank_run = runs_begin_on_blank_racks;
  fleets = fleets_follow;
}
