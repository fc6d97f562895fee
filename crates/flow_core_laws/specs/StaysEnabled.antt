-- Promise: What may come next stays so after a record of another task.
use Rattle.std.specs.Prelude.{◌≢◌, ℕ, ◌≤◌, List, length}
use Rattle.run_records.specs.declared.record.Record.{Record}
use Rattle.run_records.specs.declared.record.Record.TheVariants as entry
use Rattle.run_records.specs.Ranges.{last_moment}
use Rattle.flow_core_rules.specs.State.{State, shown}
use Rattle.flow_core_rules.specs.Changes.{moment_of}
use Rattle.flow_core_rules.specs.Runs.{Next, IsEnabled, IsEnded}
use Rattle.flow_core_laws.specs.OwnTask.{task_of}

-- The record may come next at this moment: a Send with the same filter and an Ask, each with the number of issues and the bytes
-- of then; an Upgrade while the run goes on; any other with all that it had.
abbrev pub MayCome : State → ℕ → Record → Type 0
MayCome s now (entry.Begin run moment books bind) = ⊥
MayCome s now (entry.Walk task moment) = IsEnabled s (entry.Walk task now)
MayCome s now (entry.Send task issue agent moment bytes) =
    (filled : List ℕ) × IsEnabled s (entry.Send task (length s.issues) agent now filled)
MayCome s now (entry.Reply issue moment status rule text) = IsEnabled s (entry.Reply issue now status rule text)
MayCome s now (entry.Expire issue moment) = IsEnabled s (entry.Expire issue now)
MayCome s now (entry.Upgrade version moment) = ¬ IsEnded s → IsEnabled s (entry.Upgrade version now)
MayCome s now (entry.Ask task issue moment bytes) =
    (filled : List ℕ) × IsEnabled s (entry.Ask task (length s.issues) now filled)
MayCome s now (entry.Told issue moment status text) = IsEnabled s (entry.Told issue now status text)

-- Two records may each come next, of different tasks, or the one an Upgrade and the other none. Then after the one the other may
-- still come, at each moment from those of both to the limit.
abbrev pub RecordsStayEnabled : Type 0
RecordsStayEnabled =
    (s new : State) (one other : Record) (now : ℕ) → Next s one new → IsEnabled s other
    → task_of (shown s) one ≢ task_of (shown s) other
    → moment_of one ≤ now → moment_of other ≤ now → now ≤ last_moment → MayCome new now other
