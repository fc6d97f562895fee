use Rattle.std.proofs.Common.{ℕ, ◌<◌, ◌≤◌}
use Rattle.flow_world_parts.specs.Openings.{HasRunAt}
use Rattle.flow_world_parts.proofs.filters.Filters.first_with_run.Given as goal

abbrev pub invariant-loop-agent : goal.invariant-loop-agent
invariant-loop-agent l = (lower : ℕ) → 1 ≤ lower → lower < l.agent → HasRunAt l.fn.self l.fn.run lower → ⊥
