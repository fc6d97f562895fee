use Rattle.oc2_wire_laws.proofs.Agreed.{deliveries_keep_agreement, restarts_are_starts}
use Rattle.oc2_wire_laws.proofs.Blank.{blank_ends_are_starts}
use Rattle.oc2_wire_laws.proofs.OneSite.{deliveries_leave_starts, new_runs_are_starts, starts_are_of_both}
use Rattle.oc2_wire_laws.proofs.deliveries_law.Goals as goal

pub returns : goal.returns
returns c = record {
  agreement = deliveries_keep_agreement;
  restarts = restarts_are_starts;
  blank = blank_ends_are_starts;
  one_site = starts_are_of_both;
  leave = deliveries_leave_starts;
  new_run = new_runs_are_starts;
}
