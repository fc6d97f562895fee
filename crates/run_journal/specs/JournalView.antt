-- Promise: What contracts see of a journal.
use Rattle.std.specs.Prelude.{ℕ, List, Bool}

pub record JournalView : Type 0 where
  pub file : ℕ
  pub items : List (List ℕ)
  pub broken : Bool  -- whether a call on the disk failed
  pub prepared : Bool  -- whether the header stands
  pub spare : ℕ  -- an item with fewer bytes can be appended
