use Rattle.flow_world_parts.proofs.Told.{IsLeastOf}
use Rattle.flow_world_parts.proofs.due.least_told.Given as goal

abbrev pub invariant-loop-told : goal.invariant-loop-told
invariant-loop-told l = IsLeastOf l.engine l.answers l.told-index l.least
