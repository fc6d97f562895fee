use Rattle.flow_laws.proofs.Again.{goes_on_after_a_crash, begins_anew}
use Rattle.flow_laws.proofs.Blank.{begins_on_blank_files}
use Rattle.flow_laws.proofs.Sites.{crashes_are_restarts, session_puts_are_past}
use Rattle.flow_laws.proofs.sessions_law.Goals as goal

pub returns : goal.returns
returns c = record {
  blank_files = begins_on_blank_files;
  after_a_crash = goes_on_after_a_crash;
  new_run = begins_anew;
  crash = crashes_are_restarts;
  session_puts = session_puts_are_past;
}
