-- One file after the other.
use Rattle.std.proofs.Common.{arith}
use Rattle.cacao_site_memory.proofs.KeptLemmas.{there-more, there-all}
use Rattle.cacao_site_memory.proofs.kept_files.KeptFiles.new.Goals as goal

pub loop-file-preserved : goal.loop-file-preserved
loop-file-preserved c =
    there-more c.args.starts.now c.loop-file.kept c.write.new.self c.loop-file.file c.file.result.now (omega arith) c.file.ensures c.write.ensures.written c.write.ensures.others c.loop-file.invariant

pub returns : goal.returns
returns c = there-all c.args.starts.now c.loop-file.kept c.loop-file.file (omega arith) c.loop-file.invariant
