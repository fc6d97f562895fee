-- Promise: What a run that goes on waits for.
use Rattle.std.specs.Prelude.{◌≡◌, ◌⊎◌, ℕ, ◌≤◌, true, None, IsSome}
use Rattle.run_records.specs.Ranges.{last_moment}
use Rattle.flow_core_rules.specs.State.{Shown}
use Rattle.flow_core_rules.specs.Changes.{is_in_time, outcome}
use Rattle.flow_core_rules.specs.Moves.{enabled_move, due, asks}
use Rattle.flow_core_rules.specs.Sane.{IsSane}
use Rattle.flow_core_rules.specs.Laws.{HasNoRecord}

-- While a run goes on, and at a moment from that of its last record to the limit no task walks, sends or asks, nor asks once the
-- run is upgraded then, a delay or a deadline is waited for, or an operator is.
abbrev pub AlwaysWaits : Shown → Type 0
AlwaysWaits s =
    (now : ℕ) → s.moment ≤ now → now ≤ last_moment → outcome s.lists ≡ None → HasNoRecord s now
    → IsSome (due s) ⊎ IsSome (asks s)

-- so it is in a sane state
abbrev pub SaneAlwaysWaits : Type 0
SaneAlwaysWaits = (s : Shown) → IsSane s → AlwaysWaits s

-- where there is none of those records at a moment at which a record may come next, there is no move
abbrev pub NoRecordIsNoMove : Type 0
NoRecordIsNoMove = (s : Shown) (now : ℕ) → is_in_time s now ≡ true → HasNoRecord s now → enabled_move s now ≡ None
