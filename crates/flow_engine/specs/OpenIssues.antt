-- Promise: Issues that were put and wait: when each was put last, and how often.
use Rattle.std.specs.Prelude.{◌≡◌, ◌≢◌, ◌⊎◌, ℕ, ◌+◌, ◌<◌, ◌≤◌, nat_lt, min, true, List, All, AllPairs, Option, Some, None, nat_eq, slice_get, if◌then◌else◌}
use Rattle.std.specs.Map.{lookup}
use Rattle.std.specs.Option.{option_map_or}
use Rattle.indexmap.specs.IndexMap.{insert_entry, swap_remove_entry}
use Rattle.run_records.specs.declared.record.Record.{Record}
use Rattle.run_records.specs.Ranges.{last_moment}
use Rattle.flow_core_rules.specs.Changes.{is_waiting}
use Rattle.flow_core_rules.specs.Laws.{ended_by}
use Rattle.flow_core_rules.specs.State.{Shown}
use Rattle.flow_core_rules.specs.declared.issues.Issue.{Issue}
use Rattle.flow_engine.specs.declared.puts.Puts.{Puts}

-- Issues by number, each with its puts. Their order is that of the map that keeps them, and says nothing.
abbrev pub OpenIssues : Type 0
OpenIssues = List (ℕ × Puts)

-- the puts of an issue, where it is there
abbrev pub puts_of : OpenIssues → ℕ → Option Puts
puts_of issues issue = lookup (nat_eq issue) issues

-- how often an issue was put: not at all where it is not there
abbrev pub count_of : OpenIssues → ℕ → ℕ
count_of issues issue = option_map_or (λ puts. puts.count) (puts_of issues issue) 0

-- the most puts of an issue that are counted: the first one, and eight resends
abbrev pub most_puts : ℕ
most_puts = 9

-- the milliseconds between two puts of an issue
abbrev pub resend_after : ℕ
resend_after = 5_000

-- the issue was put at this moment
abbrev pub with_put : OpenIssues → ℕ → ℕ → OpenIssues
with_put issues issue moment =
    insert_entry nat_eq issues issue (record { last = moment; count = min most_puts (count_of issues issue + 1) })

-- an issue that a record ends is no longer there
abbrev pub without_ended : OpenIssues → Record → OpenIssues
without_ended issues r = option_map_or (λ issue. swap_remove_entry (nat_eq issue) issues) (ended_by r) issues

-- the moment of the next put of an issue, where it was put and has one left
abbrev pub resend_of : Puts → Option ℕ
resend_of puts = if nat_lt puts.count most_puts then Some (puts.last + resend_after) else None

-- The issue is one of a filter, and it waits. It was put at least once, and counted at most nine times.
pub record IsPut (seen : Shown) (put : ℕ × Puts) : Type 0 where
  pub issue : Issue
  pub there : slice_get seen.lists.issues put.0 ≡ Some issue
  pub waits : is_waiting issue.phase ≡ true
  pub of_filter : issue.agent ≢ 0
  pub some : 1 ≤ (put.1).count
  pub few : (put.1).count ≤ most_puts
  pub in_time : (put.1).last ≤ last_moment

-- issues that were put wait, and each is there once
pub record ArePut (seen : Shown) (issues : OpenIssues) : Type 0 where
  pub each : All (IsPut seen) issues
  pub once : AllPairs (λ a b. a.0 ≢ b.0) issues

-- one moment and issue come before another: the lesser moment, and with one moment the lesser issue
abbrev pub IsNoLater : ℕ × ℕ → ℕ × ℕ → Type 0
IsNoLater a b = (a.0 < b.0) ⊎ ((a.0 ≡ b.0) × (a.1 ≤ b.1))

-- The next resend: an issue that is there and has one left at this moment, and none is to be put before it. Without one no issue
-- has one left.
abbrev pub IsNextPut : OpenIssues → Option (ℕ × ℕ) → Type 0
IsNextPut issues None = (issue : ℕ) (puts : Puts) → puts_of issues issue ≡ Some puts → resend_of puts ≡ None
IsNextPut issues (Some next) =
    ((puts : Puts) × (puts_of issues next.1 ≡ Some puts) × (resend_of puts ≡ Some next.0))
    × ((issue moment : ℕ) (puts : Puts) → puts_of issues issue ≡ Some puts → resend_of puts ≡ Some moment
    → IsNoLater next (moment, issue))
