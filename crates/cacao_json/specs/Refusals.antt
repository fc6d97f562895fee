-- Promise: Why a text is refused.
use Rattle.std.specs.Prelude.{◌≡◌, ◌<◌, ℕ, List, Option, Some, None, Result, Ok, Err, ⊤, nat_lt, if◌then◌else◌}
use Rattle.serde_json.specs.Data.{Data}
use Rattle.cacao_json.specs.Reading.{reading}
use Rattle.cacao_json_counts.specs.Counts.{colons, members, numbers, first_broken}
use Rattle.cacao_json.specs.Tree.{data_of}
use Rattle.cacao_json.specs.declared.tree.Tree.{Tree}
use Rattle.cacao_json.specs.declared.error.JsonError.{JsonError}
use Rattle.cacao_json.specs.declared.error.JsonError.TheVariants.{NotJson, RepeatedName, NotWhole, Memory}

-- no name was repeated, and the number at i is the first that is not whole
abbrev pub HasBroken : List ℕ → Data → ℕ → Type 0
HasBroken bytes d i = (colons bytes ≡ members d) × (first_broken (numbers d) ≡ Some i)

-- The cause of each refusal. No two of the first three hold of one text, and none holds of a text that has a tree.
abbrev pub RefusesText : List ℕ → JsonError → Type 0
RefusesText bytes NotJson = reading bytes ≡ None
RefusesText bytes (RepeatedName c m) = (d : Data) × (reading bytes ≡ Some d) × (c ≡ colons bytes) × (m ≡ members d) × (m < c)
RefusesText bytes (NotWhole i) = (d : Data) × (reading bytes ≡ Some d) × HasBroken bytes d i
RefusesText bytes Memory = ⊤

-- the answer for data that was read, by the index of the first number that is not whole
abbrev pub if_whole : Data → Option ℕ → Result Data JsonError
if_whole d None = Ok d
if_whole d (Some i) = Err (NotWhole i)

abbrev pub if_read : ℕ → Option Data → Result Data JsonError
if_read c None = Err NotJson
if_read c (Some d) = if nat_lt (members d) c then Err (RepeatedName c (members d)) else if_whole d (first_broken (numbers d))

-- the one answer for the bytes, where there is memory enough
abbrev pub answer : List ℕ → Result Data JsonError
answer bytes = if_read (colons bytes) (reading bytes)

-- the result is this answer, or memory ran out
abbrev pub IsAnswerOrMemory : Result Tree JsonError → Result Data JsonError → Type 0
IsAnswerOrMemory (Ok t) a = a ≡ Ok (data_of t)
IsAnswerOrMemory (Err NotJson) a = a ≡ Err NotJson
IsAnswerOrMemory (Err (RepeatedName c m)) a = a ≡ Err (RepeatedName c m)
IsAnswerOrMemory (Err (NotWhole i)) a = a ≡ Err (NotWhole i)
IsAnswerOrMemory (Err Memory) a = ⊤
