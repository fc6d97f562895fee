use Rattle.std.proofs.Common.{take}
use Rattle.flow_audit.specs.Breaks.{RepliesHaveActs}
use Rattle.flow_audit.specs.Files.{acts_of}
use Rattle.flow_audit.specs.Parts.{lists_of}
use Rattle.flow_audit.proofs.answering.check_replies.Given as goal

abbrev pub invariant-loop-n : goal.invariant-loop-n
invariant-loop-n l = RepliesHaveActs l.run.file.records.items (acts_of (lists_of l.filters)) (take l.n l.records)
