use Rattle.cacao_site_memory.proofs.KeptLemmas.{AreThereUpTo}
use Rattle.cacao_site_memory.proofs.kept_files.KeptFiles.new.Given as goal

abbrev pub invariant-loop-file : goal.invariant-loop-file
invariant-loop-file l = AreThereUpTo l.starts l.kept l.file
