-- Promise: What contracts see of a `MemoryShelf`.
use Rattle.std.specs.Prelude.{ℕ, List, Option}
use Rattle.std.specs.BTreeMap.{get_by_text}
use Rattle.cacao_site_memory.specs.declared.shelf.MemoryShelf.{MemoryShelf}

-- the bytes that each name holds
abbrev pub files_of : MemoryShelf → List ℕ → Option (List ℕ)
files_of shelf = get_by_text shelf.files

-- the number of the call that fails
abbrev pub failing_of : MemoryShelf → Option ℕ
failing_of shelf = shelf.failing

-- the calls of `read` so far
abbrev pub calls_of : MemoryShelf → ℕ
calls_of shelf = shelf.calls

abbrev pub faults_of : MemoryShelf → ℕ
faults_of shelf = shelf.faults
