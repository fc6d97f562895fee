use Rattle.std.proofs.Common.{◌≡◌, ◌++◌, drop, map}
use Rattle.flow_core_texts.specs.Questions.{question_of}
use Rattle.flow_core_texts.proofs.wordings.read_questions.Given as goal

abbrev pub invariant-loop-command : goal.invariant-loop-command
invariant-loop-command l = l.questions.items ++ map question_of (drop l.command-index l.commands) ≡ map question_of l.commands
