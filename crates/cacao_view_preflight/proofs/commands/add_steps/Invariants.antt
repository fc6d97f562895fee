use Rattle.std.proofs.Common.{◌≡◌, ◌++◌, drop}
use Rattle.std.specs.List.{flat_map}
use Rattle.cacao_view_preflight.specs.Warnings.{of_commands}
use Rattle.cacao_view_preflight.proofs.commands.add_steps.Given as goal

abbrev pub invariant-loop-step : goal.invariant-loop-step
invariant-loop-step l =
    l.lines ++ flat_map (of_commands l.outer l.n) (drop l.step-index l.steps) ≡ l.fn.lines ++ flat_map (of_commands l.outer l.n) l.steps
