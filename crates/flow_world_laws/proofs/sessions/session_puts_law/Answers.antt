use Rattle.flow_world_laws.proofs.Puts.{each_close_puts_few, each_refusal_puts_few, each_session_puts_few}
use Rattle.flow_world_laws.proofs.sessions.session_puts_law.Goals as goal

pub returns : goal.returns
returns c = record { closes = each_close_puts_few; refuses = each_refusal_puts_few; anywhere = each_session_puts_few }
