-- Promise: What bytes are as JSON text.
use Rattle.std.specs.Prelude.{◌==◌, ◌&&◌, ℕ, List, Option, Some, None, option_and_then, is_none, if◌then◌else◌}
use Rattle.std.specs.Str.{is_utf8}
use Rattle.serde_json.specs.Data.{Data}
use Rattle.serde_json.specs.Read.{read}
use Rattle.cacao_json_counts.specs.Counts.{colons, members, numbers, first_broken}

-- what `serde_json` reads, if the bytes are UTF-8
abbrev pub reading : List ℕ → Option Data
reading bytes = if is_utf8 bytes then read bytes else None

-- the data, if the bytes have as many colons outside strings as they have members, so that no name was repeated, and
-- each of their numbers is whole
abbrev pub kept : List ℕ → Data → Option Data
kept bytes d = if (colons bytes == members d) && is_none (first_broken (numbers d)) then Some d else None

-- the tree of the bytes: their reading, if that is kept
abbrev pub tree : List ℕ → Option Data
tree bytes = option_and_then (kept bytes) (reading bytes)
