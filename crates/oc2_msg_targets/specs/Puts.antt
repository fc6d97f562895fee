-- Scaffold: Members that are put, if they are there.
use Rattle.std.specs.Prelude.{ℕ, List, Option, Some, None}
use Rattle.serde_json.specs.Data.{Data, Members, put}

abbrev pub put_part : List ℕ → Option Data → Members → Members
put_part name None ms = ms
put_part name (Some d) ms = put name d ms
