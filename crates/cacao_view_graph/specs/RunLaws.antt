-- Promise: What holds of what is noted of a run.
use Rattle.std.specs.Prelude.{◌≡◌, ℕ, List, length}
use Rattle.run_records.specs.declared.record.Record.{Record}
use Rattle.flow_core_rules.specs.Givens.{Given}
use Rattle.flow_core_rules.specs.State.{Shown}
use Rattle.flow_engine_history.specs.Histories.{IsShownAfter}
use Rattle.cacao_view_graph.specs.declared.spot.Spot.{Spot}
use Rattle.cacao_view_graph.specs.Courses.{IsCourse}

-- of each issue that a run shows there is a step from which it was sent, so that it is noted there
abbrev pub IssuesHaveSteps : Type 0
IssuesHaveSteps =
    (given : Given) (run : ℕ) (records : List Record) (walked sent : List Spot) (seen : Shown)
    → IsCourse given run records walked sent → IsShownAfter given run records seen → length sent ≡ length seen.lists.issues
