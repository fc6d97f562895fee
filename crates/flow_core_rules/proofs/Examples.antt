-- Worked runs, computed on the definitions. The lines and the values were written by hand.
use Rattle.std.proofs.Common.{◌≡◌, ℕ, true, false, List, [], ◌∷◌, Some, None, refl}
use Rattle.std.specs.Prelude.{codes, option_and_then}
use Rattle.std.specs.Fmt.{digits}
use Rattle.std.specs.Str.{is_utf8, chars}
use Rattle.json.specs.Json.{value as json_value}
use Rattle.json.specs.Lex.{punctuate, lex}
use Rattle.json.specs.Text.{content as json_content}
use lib.Utf8.{encode}
use Rattle.base_decimals.specs.Numbers.{number}
use Rattle.cacao_text.specs.Canon.{escaped}
use Rattle.run_records.specs.declared.record.Record.{Record}
use Rattle.run_records.specs.declared.record.Record.TheVariants as entry
use Rattle.cacao_vars.specs.declared.kinds.Kind.TheVariants as kind
use Rattle.cacao_book.specs.declared.steps.Step.{Step}
use Rattle.cacao_book.specs.declared.commands.StepCommand.{StepCommand}
use Rattle.cacao_book.specs.declared.step_kinds.StepKind.TheVariants as does
use Rattle.flow_core_rules.specs.Givens.{Given}
use Rattle.flow_core_rules.specs.Runs.{begun}
use Rattle.flow_core_rules.proofs.ExampleRuns.{move_of, lines_of, outcome_of, value_of, step, end_step, var_of, book_of, given_by, only, issue_of}

-- ---- two branches side by side: the step goes on once both have ended

two_branches : Given
two_branches =
    only [] (end_step (codes "end--13") ∷ end_step (codes "end--14")
    ∷ step (codes "parallel--12") (Some (codes "end--13")) (does.Parallel (codes "end--13" ∷ codes "end--14" ∷ []))
    ∷ step (codes "start--10") (Some (codes "parallel--12")) does.Start ∷ [])

two_branches_run : lines_of two_branches 8 [] ≡ Some
    (codes "0 0 begin 8\n" ∷ codes "1 0 walk 0 start--10\n" ∷ codes "2 0 walk 0 parallel--12\n" ∷ codes "3 0 walk 1 end--13\n" ∷ codes "4 0 walk 2 end--14\n"
    ∷ codes "5 0 walk 0 parallel--12\n" ∷ codes "6 0 walk 0 end--13\n" ∷ [])
unfolding two_branches digits
two_branches_run = refl

two_branches_end : outcome_of two_branches 8 [] ≡ Some true
unfolding two_branches digits
two_branches_end = refl

-- ---- a while-condition and a switch that take no branch succeed at once

no_branch : Given
no_branch =
    only (var_of kind.Integer (codes "__severity__") (Some (codes "8")) ∷ [])
    (end_step (codes "end--13")
    ∷ step (codes "start--10") (Some (codes "while-condition--11")) does.Start
    ∷ step (codes "switch-condition--12") (Some (codes "end--13")) (does.Switch (codes "__severity__:value") ((record { value = codes "1"; step = codes "end--13" }) ∷ []))
    ∷ step (codes "while-condition--11") (Some (codes "switch-condition--12")) (does.While (codes "__severity__:value < 3") (codes "end--13"))
    ∷ [])

no_branch_run : lines_of no_branch 8 [] ≡ Some
    (codes "0 0 begin 8\n" ∷ codes "1 0 walk 0 start--10\n" ∷ codes "2 0 walk 0 while-condition--11\n" ∷ codes "3 0 walk 0 switch-condition--12\n" ∷ codes "4 0 walk 0 end--13\n" ∷ [])
unfolding no_branch digits number
no_branch_run = refl

-- ---- a delay counts from the moment at which the task came before its step

delayed : Given
delayed = only [] (end_step (codes "end--13") ∷ record (step (codes "start--10") (Some (codes "end--13")) does.Start) { delay = 10 } ∷ [])

no_move_before : option_and_then (move_of 9) (begun delayed 8 0) ≡ None
unfolding delayed
no_move_before = refl

delayed_run : lines_of delayed 8 (entry.Walk 0 9 ∷ entry.Walk 0 10 ∷ []) ≡ Some (codes "0 0 begin 8\n" ∷ codes "1 10 walk 0 start--10\n" ∷ codes "2 10 walk 0 end--13\n" ∷ [])
unfolding delayed digits
delayed_run = refl

-- ---- a while-condition over an action that takes its rule's number as the count; the action declares the name of the status itself

deny : StepCommand
deny = record { kind = codes "openc2-http"; content = Some (codes "{\"action\":\"deny\",\"target\":{\"ipv4_net\":\"10.0.__n__:value.0/24\"}}") }

denying : List ℕ → List (List ℕ) → Step
denying key out_args = step key (Some (codes "end--13")) (does.Action (deny ∷ []) (codes "net-address--20") [] [] out_args)

counting : Given
counting =
    only (var_of kind.Integer (codes "__n__") (Some (codes "0")) ∷ var_of kind.String (codes "__status__") (Some (codes "none")) ∷ [])
    ((record (denying (codes "action--12") (codes "__status__" ∷ codes "__n__" ∷ [])) { variables = var_of kind.String (codes "__status__") None ∷ [] })
    ∷ end_step (codes "end--13")
    ∷ step (codes "start--10") (Some (codes "while-condition--11")) does.Start
    ∷ step (codes "while-condition--11") (Some (codes "end--13")) (does.While (codes "__n__:value < 2") (codes "action--12"))
    ∷ [])

counting_answers : List Record
counting_answers = entry.Reply 0 0 200 1 [] ∷ entry.Reply 1 0 200 2 [] ∷ []

counting_run : lines_of counting 8 counting_answers ≡ Some
    (codes "0 0 begin 8\n" ∷ codes "1 0 walk 0 start--10\n" ∷ codes "2 0 walk 0 while-condition--11\n" ∷ codes "3 0 walk 1 action--12\n" ∷ codes "4 0 send 0 1\n" ∷ codes "5 0 reply 0 200\n"
    ∷ codes "6 0 walk 1 end--13\n" ∷ codes "7 0 walk 0 while-condition--11\n" ∷ codes "8 0 walk 2 action--12\n" ∷ codes "9 0 send 1 1\n" ∷ codes "10 0 reply 1 200\n"
    ∷ codes "11 0 walk 2 end--13\n" ∷ codes "12 0 walk 0 while-condition--11\n" ∷ codes "13 0 walk 0 end--13\n" ∷ [])
unfolding counting counting_answers denying deny digits number is_utf8 chars encode json_value punctuate lex json_content escaped
counting_run = refl

counting_count : value_of counting 8 counting_answers 0 (codes "__n__") ≡ Some (codes "2")
unfolding counting counting_answers denying deny digits number is_utf8 chars encode json_value punctuate lex json_content escaped
counting_count = refl

counting_outer : value_of counting 8 counting_answers 0 (codes "__status__") ≡ Some (codes "none")
unfolding counting counting_answers denying deny digits number is_utf8 chars encode json_value punctuate lex json_content escaped
counting_outer = refl

-- ---- two actions side by side: the later answer's write stands

two_actions : Given
two_actions =
    only (var_of kind.Integer (codes "__rule__") None ∷ var_of kind.Integer (codes "__status__") None ∷ [])
    (denying (codes "action--12") (codes "__status__" ∷ codes "__rule__" ∷ [])
    ∷ end_step (codes "end--13")
    ∷ denying (codes "action--14") (codes "__status__" ∷ codes "__rule__" ∷ [])
    ∷ step (codes "parallel--15") (Some (codes "end--13")) (does.Parallel (codes "action--12" ∷ codes "action--14" ∷ []))
    ∷ step (codes "start--10") (Some (codes "parallel--15")) does.Start
    ∷ [])

both_sent : lines_of two_actions 8 [] ≡ Some
    (codes "0 0 begin 8\n" ∷ codes "1 0 walk 0 start--10\n" ∷ codes "2 0 walk 0 parallel--15\n" ∷ codes "3 0 walk 1 action--12\n" ∷ codes "4 0 send 0 1\n" ∷ codes "5 0 walk 2 action--14\n"
    ∷ codes "6 0 send 1 1\n" ∷ [])
unfolding two_actions denying deny digits number is_utf8 chars encode json_value punctuate lex json_content escaped
both_sent = refl

second_last : value_of two_actions 8 (entry.Reply 0 0 200 1 [] ∷ entry.Reply 1 0 200 2 [] ∷ []) 0 (codes "__rule__") ≡ Some (codes "2")
unfolding two_actions denying deny digits number is_utf8 chars encode json_value punctuate lex json_content escaped
second_last = refl

first_last : value_of two_actions 8 (entry.Reply 1 0 200 2 [] ∷ entry.Reply 0 0 200 1 [] ∷ []) 0 (codes "__rule__") ≡ Some (codes "1")
unfolding two_actions denying deny digits number is_utf8 chars encode json_value punctuate lex json_content escaped
first_last = refl

first_last_end : outcome_of two_actions 8 (entry.Reply 1 0 200 2 [] ∷ entry.Reply 0 0 200 1 [] ∷ []) ≡ Some true
unfolding two_actions denying deny digits number is_utf8 chars encode json_value punctuate lex json_content escaped
first_last_end = refl

-- ---- an issue expires at its timeout and not before; a reply to it is then no record; the failure leads on, after a delay

expiring : Given
expiring =
    only []
    ((record (denying (codes "action--12") []) { timeout = 3000; completion = None; success = Some (codes "end--13"); failure = Some (codes "action--14") })
    ∷ (record (denying (codes "action--14") []) { delay = 10 })
    ∷ end_step (codes "end--13")
    ∷ step (codes "start--10") (Some (codes "action--12")) does.Start
    ∷ [])

expiring_run : lines_of expiring 8 (entry.Expire 0 2999 ∷ entry.Expire 0 3000 ∷ entry.Walk 0 3010 ∷ entry.Reply 0 3010 200 1 [] ∷ entry.Reply 1 3010 200 2 [] ∷ []) ≡ Some
    (codes "0 0 begin 8\n" ∷ codes "1 0 walk 0 start--10\n" ∷ codes "2 0 walk 0 action--12\n" ∷ codes "3 0 send 0 1\n" ∷ codes "4 3000 expire 0\n" ∷ codes "5 3010 walk 0 action--14\n"
    ∷ codes "6 3010 send 1 1\n" ∷ codes "7 3010 reply 1 200\n" ∷ codes "8 3010 walk 0 end--13\n" ∷ [])
unfolding expiring denying deny digits number is_utf8 chars encode json_value punctuate lex json_content escaped
expiring_run = refl

-- ---- a failed root goes to its playbook's exception, and once only

excepting : Given
excepting =
    given_by ((record (book_of (codes "playbook--1") []
    ((record (denying (codes "action--12") []) { completion = None; success = Some (codes "end--13") })
    ∷ end_step (codes "end--13")
    ∷ step (codes "start--10") (Some (codes "action--12")) does.Start
    ∷ [])) { exception = Some (codes "action--12") }) ∷ [])

excepting_run : lines_of excepting 8 (entry.Reply 0 0 500 0 [] ∷ entry.Reply 1 0 404 0 [] ∷ []) ≡ Some
    (codes "0 0 begin 8\n" ∷ codes "1 0 walk 0 start--10\n" ∷ codes "2 0 walk 0 action--12\n" ∷ codes "3 0 send 0 1\n" ∷ codes "4 0 reply 0 500\n" ∷ codes "5 0 walk 0 action--12\n"
    ∷ codes "6 0 send 1 1\n" ∷ codes "7 0 reply 1 404\n" ∷ [])
unfolding excepting denying deny digits number is_utf8 chars encode json_value punctuate lex json_content escaped
excepting_run = refl

excepting_end : outcome_of excepting 8 (entry.Reply 0 0 500 0 [] ∷ entry.Reply 1 0 404 0 [] ∷ []) ≡ Some false
unfolding excepting denying deny digits number is_utf8 chars encode json_value punctuate lex json_content escaped
excepting_end = refl

-- ---- a called playbook: what is handed in, what it hands back, and its own exception

block : StepCommand
block = record { kind = codes "openc2-http"; content = Some (codes "{\"action\":\"deny\",\"target\":{\"ipv4_net\":\"__host__:value\"}}") }

blocking : Step
blocking = step (codes "action--12") (Some (codes "end--13")) (does.Action (block ∷ []) (codes "net-address--20") [] [] (codes "__status__" ∷ codes "__rule__" ∷ []))

calling : Given
calling =
    given_by
    (book_of (codes "playbook--1") (var_of kind.Ipv4Addr (codes "__host__") (Some (codes "203.0.113.9")) ∷ var_of kind.Integer (codes "__rule__") None ∷ [])
    (end_step (codes "end--13")
    ∷ step (codes "playbook-action--30") (Some (codes "end--13")) (does.PlaybookAction (codes "playbook--5") None (codes "__host__" ∷ []) (codes "__rule__" ∷ []))
    ∷ step (codes "start--10") (Some (codes "playbook-action--30")) does.Start ∷ [])
    ∷ book_of (codes "playbook--5")
    (var_of kind.Ipv4Addr (codes "__host__") (Some (codes "198.51.100.7")) ∷ var_of kind.Integer (codes "__rule__") None ∷ var_of kind.Integer (codes "__severity__") (Some (codes "8")) ∷ var_of kind.Integer (codes "__status__") None ∷ [])
    (blocking ∷ end_step (codes "end--13")
    ∷ step (codes "if-condition--11") (Some (codes "end--13")) (does.If (codes "__severity__:value >= 7") (codes "action--12") (Some (codes "end--13")))
    ∷ step (codes "start--10") (Some (codes "if-condition--11")) does.Start ∷ [])
    ∷ [])

calling_run : lines_of calling 8 (entry.Reply 0 0 200 1 [] ∷ []) ≡ Some
    (codes "0 0 begin 8\n" ∷ codes "1 0 walk 0 start--10\n" ∷ codes "2 0 walk 0 playbook-action--30\n" ∷ codes "3 0 walk 1 start--10\n" ∷ codes "4 0 walk 1 if-condition--11\n" ∷ codes "5 0 walk 2 action--12\n"
    ∷ codes "6 0 send 0 1\n" ∷ codes "7 0 reply 0 200\n" ∷ codes "8 0 walk 2 end--13\n" ∷ codes "9 0 walk 1 if-condition--11\n" ∷ codes "10 0 walk 1 end--13\n" ∷ codes "11 0 walk 0 playbook-action--30\n"
    ∷ codes "12 0 walk 0 end--13\n" ∷ [])
unfolding calling blocking block digits number is_utf8 chars encode json_value punctuate lex json_content escaped
calling_run = refl

calling_rule : value_of calling 8 (entry.Reply 0 0 200 1 [] ∷ []) 0 (codes "__rule__") ≡ Some (codes "1")
unfolding calling blocking block digits number is_utf8 chars encode json_value punctuate lex json_content escaped
calling_rule = refl

calling_bytes : issue_of calling 8 [] 0 ≡ Some (codes "{\"action\":\"deny\",\"args\":{\"response_requested\":\"complete\"},\"command_id\":\"8.0\",\"target\":{\"ipv4_net\":\"203.0.113.9\"}}")
unfolding calling blocking block digits number is_utf8 chars encode json_value punctuate lex json_content escaped
calling_bytes = refl

-- ---- a manual command: first the Upgrade, then the question, which has no deadline; a Told ends it, with no rule number

unplug : StepCommand
unplug = record { kind = codes "manual"; content = Some (codes "Unplug __host__:value") }

manual : Given
manual =
    only (var_of kind.Ipv4Addr (codes "__host__") (Some (codes "198.51.100.7")) ∷ var_of kind.Integer (codes "__rule__") None ∷ var_of kind.Integer (codes "__status__") None ∷ [])
    (step (codes "action--12") (Some (codes "end--13")) (does.Action (unplug ∷ []) (codes "net-address--20") [] [] (codes "__status__" ∷ codes "__rule__" ∷ []))
    ∷ end_step (codes "end--13")
    ∷ step (codes "start--10") (Some (codes "action--12")) does.Start ∷ [])

manual_answers : List Record
manual_answers = entry.Reply 0 0 200 1 [] ∷ entry.Expire 0 60000 ∷ entry.Upgrade 2 0 ∷ entry.Told 0 0 102 [] ∷ entry.Told 0 0 200 (codes "done") ∷ []

manual_run : lines_of manual 7 manual_answers ≡ Some
    (codes "0 0 begin 7\n" ∷ codes "1 0 walk 0 start--10\n" ∷ codes "2 0 walk 0 action--12\n" ∷ codes "3 0 upgrade 2\n" ∷ codes "4 0 ask 0 \"Unplug 198.51.100.7\"\n" ∷ codes "5 0 told 0 200\n"
    ∷ codes "6 0 walk 0 end--13\n" ∷ [])
unfolding manual manual_answers unplug digits number is_utf8 chars encode escaped
manual_run = refl

manual_status : value_of manual 7 manual_answers 0 (codes "__status__") ≡ Some (codes "200")
unfolding manual manual_answers unplug digits number is_utf8 chars encode escaped
manual_status = refl

manual_rule : value_of manual 7 manual_answers 0 (codes "__rule__") ≡ None
unfolding manual manual_answers unplug digits number is_utf8 chars encode escaped
manual_rule = refl

-- ---- the root of a called playbook goes to that playbook's exception, and not to that of the one that calls

failing_call : Given
failing_call =
    given_by
    ((record (book_of (codes "playbook--1") []
    (end_step (codes "end--13")
    ∷ step (codes "playbook-action--30") (Some (codes "end--13")) (does.PlaybookAction (codes "playbook--5") None [] [])
    ∷ step (codes "start--10") (Some (codes "playbook-action--30")) does.Start ∷ [])) { exception = Some (codes "start--10") })
    ∷ (record (book_of (codes "playbook--5") []
    ((record (denying (codes "action--12") []) { completion = None; success = Some (codes "end--13") })
    ∷ end_step (codes "end--13") ∷ end_step (codes "end--14")
    ∷ step (codes "start--10") (Some (codes "action--12")) does.Start ∷ [])) { exception = Some (codes "end--14") })
    ∷ [])

failing_call_run : lines_of failing_call 8 (entry.Reply 0 0 500 0 [] ∷ []) ≡ Some
    (codes "0 0 begin 8\n" ∷ codes "1 0 walk 0 start--10\n" ∷ codes "2 0 walk 0 playbook-action--30\n" ∷ codes "3 0 walk 1 start--10\n" ∷ codes "4 0 walk 1 action--12\n" ∷ codes "5 0 send 0 1\n"
    ∷ codes "6 0 reply 0 500\n" ∷ codes "7 0 walk 1 end--14\n" ∷ codes "8 0 walk 0 playbook-action--30\n" ∷ codes "9 0 walk 0 end--13\n" ∷ [])
unfolding failing_call denying deny digits number is_utf8 chars encode json_value punctuate lex json_content escaped
failing_call_run = refl

-- ---- a query: an empty list stays, and `args` is made

query : StepCommand
query = record { kind = codes "openc2-http"; content = Some (codes "{\"action\":\"query\",\"target\":{\"features\":[]}}") }

querying : Given
querying =
    only []
    (step (codes "action--12") (Some (codes "end--13")) (does.Action (query ∷ []) (codes "net-address--20") [] [] [])
    ∷ end_step (codes "end--13")
    ∷ step (codes "start--10") (Some (codes "action--12")) does.Start ∷ [])

querying_bytes : issue_of querying 9 [] 0 ≡ Some (codes "{\"action\":\"query\",\"args\":{\"response_requested\":\"complete\"},\"command_id\":\"9.0\",\"target\":{\"features\":[]}}")
unfolding querying query digits number is_utf8 chars encode json_value punctuate lex json_content escaped
querying_bytes = refl
