use Rattle.flow_world_laws.proofs.Acts.{each_act_came, each_offered_act_came}
use Rattle.flow_world_laws.proofs.AllCame.{each_alone_came, each_went_on}
use Rattle.flow_world_laws.proofs.Came.{each_offered_came, each_record_came, each_record_in_time}
use Rattle.flow_world_laws.proofs.Expires.{each_expiry_was_put}
use Rattle.flow_world_laws.proofs.records_law.Goals as goal

pub returns : goal.returns
returns c = record {
  came = each_record_came;
  moments = each_record_in_time;
  offered = each_offered_came;
  acts = each_act_came;
  offered_acts = each_offered_act_came;
  expires = each_expiry_was_put;
  went_on = each_went_on;
  alone = each_alone_came;
}
