use Rattle.std.proofs.Common.{◌≡◌, length}
use Rattle.cacao_site_memory.specs.Crash.{ArePicked}
use Rattle.cacao_site_memory.proofs.site.MemorySite.picked_files.Given as goal

abbrev pub invariant-loop-file : goal.invariant-loop-file
invariant-loop-file l = (length l.files ≡ l.file) × ArePicked l.self.starts l.self.log.calls l.choice l.files
