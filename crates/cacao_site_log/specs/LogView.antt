-- Promise: What contracts see of a `CallLog`.
use Rattle.std.specs.Prelude.{ℕ, List}
use Rattle.cacao_site_log.specs.Replay.{Call}

pub record LogView : Type 0 where
  pub calls : List Call
  pub lines : List (ℕ × List ℕ)  -- the lines said, each with its beat
  pub used : ℕ  -- the bytes of all writes and lines
  pub room : ℕ  -- the bytes that there is room for
  pub most : ℕ  -- the calls that there is room for
  pub most_lines : ℕ  -- the lines that there is room for
