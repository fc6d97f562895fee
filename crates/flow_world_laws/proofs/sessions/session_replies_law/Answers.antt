use Rattle.flow_world_laws.proofs.Replies.{each_close_records, each_session_records}
use Rattle.flow_world_laws.proofs.sessions.session_replies_law.Goals as goal

pub returns : goal.returns
returns c = record { closes = each_close_records; anywhere = each_session_records }
