use Rattle.std.proofs.Common.{◌≡◌, ◌∙◌, sym, ap, Option, Result, Ok, Err}
use Rattle.oc2_msg.specs.Commands.{answer_of}
use Rattle.oc2_msg.specs.Messages.{IsAnswerOrMemory}
use Rattle.oc2_msg.specs.declared.commands.Command.{Command}
use Rattle.oc2_msg.specs.declared.refusals.CommandError.{CommandError}
use Rattle.oc2_msg.specs.declared.refusals.CommandError.TheVariants.{Refused, Memory}
use Rattle.oc2_msg.specs.declared.refusals.Refusal.{Refusal}
use Rattle.cacao_view_preflight.specs.Refused.{IsRefusedIn}
use Rattle.cacao_view_preflight.specs.Settled.{error_of}
use Rattle.cacao_view_preflight.proofs.refusals.answered.Goals as goal

told : (read : Result Command CommandError) (answer : Result Command Refusal) (found : Option Refusal) → IsAnswerOrMemory read answer → IsRefusedIn read found → found ≡ error_of answer
told (Ok command) answer found e is = is ∙ sym (ap error_of e)
told (Err (Refused refusal)) answer found e is = is ∙ sym (ap error_of e)
told (Err Memory) answer found e is = absurd is

pub returns : goal.returns
returns c = told c.read_command-read.result (answer_of c.args.bytes.now) c.in_ok-refusal.refusal c.read_command-read.ensures.answer c.in_ok-refusal.ensures
