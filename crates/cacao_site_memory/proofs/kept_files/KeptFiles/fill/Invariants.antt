use Rattle.std.proofs.Common.{◌≡◌, ℕ, ◌+◌, ◌<◌, slice_index}
use Rattle.cacao_site_memory.specs.KeptFiles.{byte_of}
use Rattle.cacao_site_memory.proofs.kept_files.KeptFiles.fill.Given as goal

abbrev pub invariant-loop-k : goal.invariant-loop-k
invariant-loop-k l = (j : ℕ) → j < l.k → slice_index l.into j ≡ byte_of l.self l.file (l.at + j)
