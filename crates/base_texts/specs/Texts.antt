-- Promise: The bytes that a text stands for.
use Rattle.std.specs.Prelude.{List, ℕ, string_bytes}
use Rattle.base_texts.specs.declared.texts.Held.{Held}
use Rattle.base_texts.specs.declared.texts.Held.TheVariants as held

-- those in the text itself, or those in its memory
abbrev pub held_bytes : Held → List ℕ
held_bytes (held.Short s) = s.bytes
held_bytes (held.Long s) = string_bytes s
