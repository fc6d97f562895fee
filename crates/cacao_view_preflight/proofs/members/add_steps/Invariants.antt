use Rattle.std.proofs.Common.{◌≡◌, ◌++◌, drop, map}
use Rattle.std.specs.List.{flat_map}
use Rattle.cacao_json.specs.Tree.{pair_data}
use Rattle.cacao_view_preflight.specs.Warnings.{of_step_members}
use Rattle.cacao_view_preflight.proofs.members.add_steps.Given as goal

abbrev pub invariant-loop-step : goal.invariant-loop-step
invariant-loop-step l =
    l.lines ++ flat_map (of_step_members l.n) (map pair_data (drop l.step-index l.steps)) ≡ l.fn.lines ++ flat_map (of_step_members l.n) (map pair_data l.steps)
