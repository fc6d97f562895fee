-- Promise: The least set that holds its first members and is closed under a relation.
use Rattle.std.specs.Prelude.{ℕ}

pub data Closure (IsFirst : ℕ → Type 0) (Leads : ℕ → ℕ → Type 0) : ℕ → Type 0 where
  first : {place : ℕ} → IsFirst place → Closure IsFirst Leads place
  onward : {from to : ℕ} → Closure IsFirst Leads from → Leads from to → Closure IsFirst Leads to
