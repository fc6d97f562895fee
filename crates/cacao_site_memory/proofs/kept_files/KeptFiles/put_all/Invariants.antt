use Rattle.std.proofs.Common.{◌≡◌, ◌≢◌, ◌⊎◌, ℕ, ◌+◌, ◌<◌, ◌≤◌, slice_index}
use Rattle.cacao_site_memory.specs.KeptFiles.{byte_of}
use Rattle.cacao_site_memory.proofs.kept_files.KeptFiles.put_all.Given as goal

abbrev pub invariant-loop-k : goal.invariant-loop-k
invariant-loop-k l = record {
  done : (j : ℕ) → j < l.k → byte_of l.self l.file (l.at + j) ≡ slice_index l.bytes j;
  rest : (place : ℕ) → (place < l.at) ⊎ (l.at + l.k ≤ place) → byte_of l.self l.file place ≡ byte_of l.fn.self l.file place;
  others : (other place : ℕ) → other ≤ 31 → other ≢ l.file → byte_of l.self other place ≡ byte_of l.fn.self other place;
  lengths : l.self.lengths ≡ l.fn.self.lengths;
  whole : l.self.whole ≡ l.fn.self.whole;
}
