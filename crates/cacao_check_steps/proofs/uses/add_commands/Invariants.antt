use Rattle.std.proofs.Common.{◌≡◌, ◌++◌, drop}
use Rattle.std.specs.List.{flat_map}
use Rattle.cacao_check_steps.specs.Uses.{sent_names}
use Rattle.cacao_check_steps.proofs.uses.add_commands.Given as goal

abbrev pub invariant-loop-at : goal.invariant-loop-at
invariant-loop-at l = l.all.items ++ flat_map sent_names (drop l.at l.commands) ≡ l.initial.all.items ++ flat_map sent_names l.commands
