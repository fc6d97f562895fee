-- Scaffold: The texts of commands for operators.
use Rattle.std.specs.Prelude.{ℕ, List, Option, None, option_and_then, slice_get, if◌then◌else◌}
use Rattle.cacao_book.specs.declared.commands.StepCommand.{StepCommand}
use Rattle.cacao_check_steps.specs.Uses.{commands_of}
use Rattle.flow_core_rules.specs.Givens.{Given, step_at}
use Rattle.flow_core_rules.specs.Places.{is_manual}

-- the text for an operator; a command for a filter has none
abbrev pub question_of : StepCommand → Option (List ℕ)
question_of command = if is_manual command then command.content else None

-- the text of one of a step's commands
abbrev pub question_text : Given → ℕ → ℕ → ℕ → Option (List ℕ)
question_text given book step command =
    option_and_then (λ s. option_and_then question_of (slice_get (commands_of s.kind) command)) (step_at given book step)
