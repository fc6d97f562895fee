use Rattle.std.proofs.Common.{take}
use Rattle.flow_audit.specs.Parts.{HasTaken}
use Rattle.flow_audit.proofs.running.follow_others.Given as goal

abbrev pub invariant-loop-n : goal.invariant-loop-n
invariant-loop-n l = HasTaken (take l.n l.file.records.items) l.flow
