-- Promise: What `OpenPuts` keep: the moments of the next puts, beside the map.
use Rattle.std.specs.Prelude.{◌≡◌, ℕ, ◌≤◌, Some, nat_eq, option_and_then}
use Rattle.std.specs.List.{IsDistinct}
use Rattle.std.specs.Map.{keys_of}
use Rattle.run_records.specs.Ranges.{last_moment}
use Rattle.base_dues.specs.Pairs.{at}
use Rattle.flow_engine.specs.declared.open_puts.OpenPuts.TheInside.{Inside}
use Rattle.flow_engine.specs.declared.puts.Puts.{Puts}
use Rattle.flow_engine.specs.OpenIssues.{OpenIssues, most_puts, puts_of, resend_of}

-- each issue was put at least once, and counted at most nine times
pub record IsCounted (puts : Puts) : Type 0 where
  pub some : 1 ≤ puts.count
  pub few : puts.count ≤ most_puts
  pub in_time : puts.last ≤ last_moment

pub record AreCounted (issues : OpenIssues) : Type 0 where
  pub each : (issue : ℕ) (puts : Puts) → puts_of issues issue ≡ Some puts → IsCounted puts
  pub once : IsDistinct nat_eq (keys_of issues)

pub record IsKept (o : Inside) : Type 0 where
  pub counted : AreCounted o.map.entries
  pub resends : (issue : ℕ) → at o.resends.pairs issue ≡ option_and_then resend_of (puts_of o.map.entries issue)
