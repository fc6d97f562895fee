-- Promise: What contracts see of a link to another process, and what its calls do.
use Rattle.std.specs.Prelude.{◌≡◌, ℕ, List, [], ◌++◌, Option, Some, None, IfSome}
use Rattle.cacao_site.specs.LinkCalls.{GainsAll}

-- a link carries bytes both ways, in order; each list is told or not by itself
pub record LinkView : Type 0 where
  pub sent : Option (List ℕ)  -- the bytes that went out
  pub received : Option (List ℕ)  -- the bytes that came in and were received
  pub to_come : Option (List ℕ)  -- the bytes that are still to come
  pub faults : ℕ  -- the calls that failed; always told

-- no byte was sent or received
pub record KeepsBytes (old new : LinkView) : Type 0 where
  pub sent : new.sent ≡ old.sent
  pub received : new.received ≡ old.received
  pub to_come : new.to_come ≡ old.to_come

-- these bytes went out
pub record Sends (bytes : List ℕ) (old new : LinkView) : Type 0 where
  pub sent : GainsAll old.sent bytes new.sent
  pub received : new.received ≡ old.received
  pub to_come : new.to_come ≡ old.to_come

-- these bytes were the front of those to come, where they are told
abbrev pub Comes : Option (List ℕ) → List ℕ → Option (List ℕ) → Type 0
Comes (Some old) bytes (Some new) = old ≡ bytes ++ new
Comes None bytes None = Unit {0}
Comes _ bytes _ = ⊥

-- these bytes were received; none, where some were asked for, is the end
pub record Receives (bytes : List ℕ) (Asked : Type 0) (old new : LinkView) : Type 0 where
  pub sent : new.sent ≡ old.sent
  pub received : GainsAll old.received bytes new.received
  pub to_come : Comes old.to_come bytes new.to_come
  pub at_end : bytes ≡ [] → Asked → IfSome new.to_come (λ more. more ≡ [])
