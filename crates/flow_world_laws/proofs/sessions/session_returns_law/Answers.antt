use Rattle.flow_world_laws.proofs.Returns.{each_close_returns, each_later_refusal_returns, each_refusal_returns, each_session_adds_in_time}
use Rattle.flow_world_laws.proofs.sessions.session_returns_law.Goals as goal

pub returns : goal.returns
returns c = record {
  closes = each_close_returns;
  refuses = each_refusal_returns;
  refuses_later = each_later_refusal_returns;
  anywhere = each_session_adds_in_time;
}
