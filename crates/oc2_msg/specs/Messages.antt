-- Promise: Commands, as the code has them before it looks into their parts.
use Rattle.std.specs.Prelude.{◌≡◌, true, ⊤, Some, option_map, Result, Ok, Err, codes}
use Rattle.serde_json.specs.Data.{Data}
use Rattle.serde_json.specs.Find.{get}
use Rattle.cacao_json.specs.Tree.{data_of}
use Rattle.oc2_msg.specs.declared.messages.Message.{Message}
use Rattle.oc2_msg.specs.declared.commands.Command.{Command}
use Rattle.oc2_msg.specs.declared.refusals.Refusal.{Refusal}
use Rattle.oc2_msg.specs.declared.refusals.CommandError.{CommandError}
use Rattle.oc2_msg.specs.declared.refusals.CommandError.TheVariants.{Refused, Memory}
use Rattle.oc2_msg.specs.Commands.{is_command, action_text, target_part}

-- the tree is a command with these parts
pub record IsMessageOf (d : Data) (m : Message) : Type 0 where
  pub command : is_command d ≡ true
  pub action : action_text d ≡ Some m.action.now
  pub target : target_part d ≡ Some (m.target.now, data_of m.value.now)
  pub args : get (codes "args") d ≡ option_map (λ part. data_of part.now) m.args

-- the result is this answer, or memory ran out
abbrev pub IsAnswerOrMemory : Result Command CommandError → Result Command Refusal → Type 0
IsAnswerOrMemory (Ok command) answer = answer ≡ Ok command
IsAnswerOrMemory (Err (Refused refused)) answer = answer ≡ Err refused
IsAnswerOrMemory (Err Memory) answer = ⊤
