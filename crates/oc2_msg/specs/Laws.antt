-- Promise: What is written reads back.
use Rattle.std.specs.Prelude.{◌≡◌, Some, None, Ok, IsSome}
use Rattle.serde_json.specs.Data.{Data}
use Rattle.oc2_msg.specs.declared.commands.Command.{Command}
use Rattle.oc2_msg.specs.declared.responses.Response.{Response}
use Rattle.oc2_msg.specs.Reasons.{reason_text}
use Rattle.oc2_msg.specs.Commands.{rows, first_row, command_of, answer_of}
use Rattle.oc2_msg.specs.Ranges.{InRange, ResponseInRange}
use Rattle.oc2_msg.specs.Least.{command_text}
use Rattle.oc2_msg.specs.Responses.{response_text, answer}

-- where no row of the table of refusals holds, there is a command
abbrev pub HasCommand : Type 0
HasCommand = (d : Data) → first_row (rows d) ≡ None → IsSome (command_of d)

-- the text of a command has that command
abbrev pub CommandsReadBack : Type 0
CommandsReadBack = (c : Command) → InRange c → answer_of (command_text c) ≡ Ok c

-- the text of a response answers its status, its rule number and its text
abbrev pub ResponsesReadBack : Type 0
ResponsesReadBack = (r : Response) → ResponseInRange r
    → answer (response_text r) ≡ Some (record { status = r.status; rule = r.rule; text = reason_text r.text })
