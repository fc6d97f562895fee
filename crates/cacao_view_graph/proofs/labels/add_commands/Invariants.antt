use Rattle.std.proofs.Common.{◌≡◌, ◌++◌, drop}
use Rattle.std.specs.List.{flat_map}
use Rattle.cacao_view_graph.specs.Labels.{command_text}
use Rattle.cacao_view_graph.proofs.labels.add_commands.Given as goal

-- what is written, and what is left to write
abbrev pub invariant-loop-command : goal.invariant-loop-command
invariant-loop-command l = l.out.items ++ flat_map command_text (drop l.command-index l.commands) ≡ l.fn.out.items ++ flat_map command_text l.commands
