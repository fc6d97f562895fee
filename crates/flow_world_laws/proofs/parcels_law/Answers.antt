use Rattle.flow_world_laws.proofs.Parcels.{each_close_handles, each_refusal_handles}
use Rattle.flow_world_laws.proofs.parcels_law.Goals as goal

pub returns : goal.returns
returns c = record { closes = each_close_handles; refuses = each_refusal_handles }
