use Rattle.oc2_msg.proofs.LawLemmas.{commands_read_back, has_command_law}
use Rattle.oc2_msg.proofs.ResponseLemmas.{responses_read_back}
use Rattle.oc2_msg.proofs.laws.reads_back.Goals as goal

pub returns : goal.returns
returns c = record { has_command = has_command_law; commands = commands_read_back; responses = responses_read_back }
