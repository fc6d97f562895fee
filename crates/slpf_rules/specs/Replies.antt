-- Promise: What a filter answers, and which rules it then has.
use Rattle.std.specs.Prelude.{ℕ, ◌+◌, ◌-◌, Bool, nat_le, List, [], length, fold, Option, Some, None, Result, Ok, Err, bytes_eq, codes, if◌then◌else◌}
use Rattle.oc2_msg.specs.declared.commands.Command.{Command}
use Rattle.oc2_msg.specs.declared.commands.Command.TheVariants as command
use Rattle.oc2_msg.specs.declared.reasons.Reason.{Reason}
use Rattle.oc2_msg.specs.declared.reasons.Reason.TheVariants as reason
use Rattle.oc2_msg.specs.declared.refusals.Refusal.{Refusal}
use Rattle.oc2_msg.specs.declared.responses.Response.{Response}
use Rattle.oc2_msg.specs.Commands.{answer_of}
use Rattle.slpf_rules.specs.declared.rules.Rule.{Rule}
use Rattle.slpf_rules.specs.Rules.{is_held, greatest, place, without}

-- a response without features
abbrev pub said : ℕ → ℕ → Reason → Response
said status rule text = record { status = status; rule = rule; text = text; features = [] }

-- ---- a rule is added

-- 65,536 rules are held
abbrev pub is_full : List Rule → Bool
is_full rules = nat_le 65_536 (length rules)

-- the number of a rule that is added, or why none is
abbrev pub number_for : Option ℕ → List Rule → Result ℕ Reason
number_for (Some insert) rules =
    if is_held insert rules then Err reason.RuleNumberHeld
    else (if is_full rules then Err reason.TableFull else Ok insert)
number_for None rules =
    if is_full rules then Err reason.TableFull
    else (if nat_le 4_294_967_295 (greatest rules) then Err reason.NoNumberLeft else Ok (greatest rules + 1))

-- the start that is stated, or the stop less the duration where both are, or the moment
abbrev pub start_of : Option ℕ → Option ℕ → Option ℕ → ℕ → ℕ
start_of (Some start) stop duration moment = start
start_of None (Some stop) (Some duration) moment = stop - duration
start_of None (Some stop) None moment = moment
start_of None None duration moment = moment

-- the stop that is stated, or the duration after the start, or none
abbrev pub stop_of : Option ℕ → Option ℕ → ℕ → Option ℕ
stop_of (Some stop) duration start = Some stop
stop_of None (Some duration) start = Some (start + duration)
stop_of None None start = None

-- a rule under a number
abbrev pub numbered : Rule → ℕ → Rule
numbered rule number = record rule { number = number }

abbrev pub adds : List Rule → Rule → Result ℕ Reason → Response × List Rule
adds rules rule (Ok number) = (said 200 number reason.Empty, place (numbered rule number) rules)
adds rules rule (Err text) = (said 500 0 text, rules)

-- a rule is added under its number, if it gets one
abbrev pub puts : List Rule → Option ℕ → Rule → Response × List Rule
puts rules insert rule = adds rules rule (number_for insert rules)

-- ---- commands

-- the response to a command at a moment, and the rules after it
abbrev pub answer_command : List Rule → Command → ℕ → Response × List Rule
answer_command rules (command.Rule deny flow direction drops insert start stop duration) moment =
    let begin = start_of start stop duration moment in
    puts rules insert (record {
      number = 0;
      deny = deny;
      direction = direction;
      flow = flow;
      drop = drops;
      start = begin;
      stop = stop_of stop duration begin;
    })
answer_command rules (command.Delete number) moment =
    if is_held number rules then (said 200 0 reason.Empty, without number rules)
    else (said 404 0 reason.RuleNotHeld, rules)
answer_command rules (command.Update name) moment =
    if bytes_eq name (codes "empty.rules") then (said 200 0 reason.Empty, [])
    else (said 500 0 reason.UnknownFile, rules)
answer_command rules (command.Query features) moment =
    (record { status = 200; rule = 0; text = reason.Empty; features = features }, rules)

-- the response to a command that is refused
abbrev pub refused : Refusal → Response
refused refusal = said refusal.status 0 refusal.text

abbrev pub reply_to : List Rule → ℕ → Result Command Refusal → Response × List Rule
reply_to rules moment (Ok asked) = answer_command rules asked moment
reply_to rules moment (Err refusal) = (refused refusal, rules)

-- the response to the bytes of a command at a moment, and the rules after it
abbrev pub reply : List Rule → List ℕ → ℕ → Response × List Rule
reply rules bytes moment = reply_to rules moment (answer_of bytes)

-- the rules after acts, each the bytes of a command and its moment, in order from the empty list
abbrev pub table : List (List ℕ × ℕ) → List Rule
table acts = fold (λ rules act. (reply rules act.0 act.1).1) [] acts
