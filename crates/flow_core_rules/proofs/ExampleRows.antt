-- Further worked rows: places and filters, the kinds of whole references, the case of a switch, equal names of results. The lines and the values were
-- written by hand.
use Rattle.std.proofs.Common.{◌≡◌, ℕ, List, [], ◌∷◌, Some, None, refl}
use Rattle.std.specs.Prelude.{codes}
use Rattle.std.specs.Fmt.{digits}
use Rattle.std.specs.Str.{is_utf8, chars}
use Rattle.json.specs.Json.{value as json_value}
use Rattle.json.specs.Lex.{punctuate, lex}
use Rattle.json.specs.Text.{content as json_content}
use lib.Utf8.{encode}
use Rattle.base_decimals.specs.Numbers.{number}
use Rattle.cacao_text.specs.Canon.{escaped}
use Rattle.run_records.specs.declared.record.Record.{Record}
use Rattle.run_records.specs.declared.record.Record.TheVariants as entry
use Rattle.cacao_vars.specs.declared.kinds.Kind.TheVariants as kind
use Rattle.cacao_book.specs.declared.steps.Step.{Step}
use Rattle.cacao_book.specs.declared.commands.StepCommand.{StepCommand}
use Rattle.cacao_book.specs.declared.step_kinds.StepKind.TheVariants as does
use Rattle.flow_core_rules.specs.Givens.{Given}
use Rattle.flow_core_rules.proofs.ExampleRuns.{lines_of, value_of, step, end_step, var_of, only, issue_of}

command_of : List ℕ → StepCommand
command_of content = record { kind = codes "openc2-http"; content = Some content }

-- an action with these commands, and with these names for its results, and the end
acting : List StepCommand → List (List ℕ) → List (List ℕ) → List Step
acting commands targets out_args =
    step (codes "action--12") (Some (codes "end--13")) (does.Action commands (codes "net-address--20") targets [] out_args)
    ∷ end_step (codes "end--13")
    ∷ step (codes "start--10") (Some (codes "action--12")) does.Start ∷ []

-- ---- three commands, one of them for an operator, to two targets, one of which has a filter

first_deny : List ℕ
first_deny = codes "{\"action\":\"deny\",\"target\":{\"ipv4_net\":\"10.0.0.0/24\"}}"

look : StepCommand
look = record { kind = codes "manual"; content = Some (codes "Look") }

placing : Given
placing =
    record (only [] (acting (command_of first_deny ∷ look ∷ command_of first_deny ∷ []) (codes "net-address--21" ∷ codes "net-address--22" ∷ []) []))
    { agents = (codes "net-address--21", 3) ∷ [] }

placing_answers : List Record
placing_answers = entry.Reply 0 0 200 1 [] ∷ entry.Reply 1 0 200 1 [] ∷ entry.Told 2 0 200 [] ∷ entry.Reply 3 0 200 1 [] ∷ entry.Reply 4 0 200 1 [] ∷ []

placing_run : lines_of placing 8 placing_answers ≡ Some
    (codes "0 0 begin 8\n" ∷ codes "1 0 walk 0 start--10\n" ∷ codes "2 0 walk 0 action--12\n" ∷ codes "3 0 send 0 3\n" ∷ codes "4 0 reply 0 200\n" ∷ codes "5 0 send 1 1\n"
    ∷ codes "6 0 reply 1 200\n" ∷ codes "7 0 upgrade 2\n" ∷ codes "8 0 ask 2 \"Look\"\n" ∷ codes "9 0 told 2 200\n" ∷ codes "10 0 send 3 3\n" ∷ codes "11 0 reply 3 200\n"
    ∷ codes "12 0 send 4 1\n" ∷ codes "13 0 reply 4 200\n" ∷ codes "14 0 walk 0 end--13\n" ∷ [])
unfolding placing placing_answers acting command_of first_deny look digits number is_utf8 chars encode json_value punctuate lex json_content escaped
placing_run = refl

-- ---- `args` that is no object stays

plain_args : Given
plain_args = only [] (acting (command_of (codes "{\"action\":\"deny\",\"args\":\"none\",\"target\":{\"ipv4_net\":\"10.0.0.0/24\"}}") ∷ []) [] [])

plain_args_bytes : issue_of plain_args 8 [] 0 ≡ Some (codes "{\"action\":\"deny\",\"args\":\"none\",\"command_id\":\"8.0\",\"target\":{\"ipv4_net\":\"10.0.0.0/24\"}}")
unfolding plain_args acting command_of digits number is_utf8 chars encode json_value punctuate lex json_content escaped
plain_args_bytes = refl

-- ---- one whole reference: of kind `string` a string, of `integer` and `long` a number up to 2 ^ 53 - 1, and a string past it

whole : Given
whole =
    only
    (var_of kind.String (codes "__a__") (Some (codes "5")) ∷ var_of kind.Integer (codes "__b__") (Some (codes "5"))
    ∷ var_of kind.Long (codes "__c__") (Some (codes "9007199254740991")) ∷ var_of kind.Long (codes "__d__") (Some (codes "9007199254740992")) ∷ [])
    (acting (command_of (codes "{\"action\":\"deny\",\"target\":[\"__a__:value\",\"__b__:value\",\"__c__:value\",\"__d__:value\"]}") ∷ []) [] [])

whole_bytes : issue_of whole 8 [] 0
    ≡ Some (codes "{\"action\":\"deny\",\"args\":{\"response_requested\":\"complete\"},\"command_id\":\"8.0\",\"target\":[\"5\",5,9007199254740991,\"9007199254740992\"]}")
unfolding whole acting command_of digits number is_utf8 chars encode json_value punctuate lex json_content escaped
whole_bytes = refl

-- ---- a switch over a name without a value takes the case `default`

unset_switch : Given
unset_switch =
    only (var_of kind.Integer (codes "__n__") None ∷ [])
    (end_step (codes "end--13") ∷ end_step (codes "end--14")
    ∷ step (codes "start--10") (Some (codes "switch-condition--12")) does.Start
    ∷ step (codes "switch-condition--12") (Some (codes "end--13"))
    (does.Switch (codes "__n__:value") ((record { value = codes "1"; step = codes "end--13" }) ∷ (record { value = codes "default"; step = codes "end--14" }) ∷ []))
    ∷ [])

unset_switch_run : lines_of unset_switch 8 [] ≡ Some
    (codes "0 0 begin 8\n" ∷ codes "1 0 walk 0 start--10\n" ∷ codes "2 0 walk 0 switch-condition--12\n" ∷ codes "3 0 walk 1 end--14\n" ∷ codes "4 0 walk 0 switch-condition--12\n"
    ∷ codes "5 0 walk 0 end--13\n" ∷ [])
unfolding unset_switch digits number
unset_switch_run = refl

-- ---- of two results for one name the later one stands

equal_names : Given
equal_names = only (var_of kind.Integer (codes "__n__") None ∷ []) (acting (command_of first_deny ∷ []) [] (codes "__n__" ∷ codes "__n__" ∷ []))

later_result : value_of equal_names 8 (entry.Reply 0 0 200 7 [] ∷ []) 0 (codes "__n__") ≡ Some (codes "7")
unfolding equal_names acting command_of first_deny digits number is_utf8 chars encode json_value punctuate lex json_content escaped
later_result = refl

-- without a rule's number there is one result
only_result : value_of equal_names 8 (entry.Reply 0 0 200 0 [] ∷ []) 0 (codes "__n__") ≡ Some (codes "200")
unfolding equal_names acting command_of first_deny digits number is_utf8 chars encode json_value punctuate lex json_content escaped
only_result = refl
