use Rattle.flow_laws.proofs.Shrink.{images_shrink}
use Rattle.flow_laws.proofs.Record.{record_is_gained}
use Rattle.flow_laws.proofs.Act.{act_is_gained}
use Rattle.flow_laws.proofs.Puts.{command_is_put, reply_is_put}
use Rattle.flow_laws.proofs.Foreign.{foreign_is_put}
use Rattle.flow_laws.proofs.Says.{line_is_said}
use Rattle.flow_laws.proofs.beat_laws.Goals as goal

pub returns : goal.returns
returns c = record {
  images_shrink = images_shrink;
  record_gained = record_is_gained;
  act_gained = act_is_gained;
  command_put = command_is_put;
  foreign_put = foreign_is_put;
  reply_put = reply_is_put;
  line_said = line_is_said;
}
