use Rattle.std.proofs.Common.{◌≡◌, ◌++◌, drop}
use Rattle.std.specs.List.{flat_map}
use Rattle.cacao_view_graph.specs.Labels.{target_text}
use Rattle.cacao_view_graph.proofs.labels.add_targets.Given as goal

-- what is written, and what is left to write
abbrev pub invariant-loop-target : goal.invariant-loop-target
invariant-loop-target l = l.out.items ++ flat_map target_text (drop l.target-index l.targets) ≡ l.fn.out.items ++ flat_map target_text l.targets
