-- Two tasks side by side, computed on the definitions: what the one does leaves the other where it stood, and what it may do next. The records were
-- written by hand.
use Rattle.std.proofs.Common.{◌≡◌, ℕ, true, false, Bool, List, [], ◌∷◌, Option, Some, None, is_some, refl, ◌++◌}
use Rattle.std.specs.Prelude.{codes, option_and_then, option_map, slice_get}
use Rattle.std.specs.Fmt.{digits}
use Rattle.std.specs.Str.{is_utf8, chars}
use Rattle.json.specs.Json.{value as json_value}
use Rattle.json.specs.Lex.{punctuate, lex}
use Rattle.json.specs.Text.{content as json_content}
use lib.Utf8.{encode}
use Rattle.base_decimals.specs.Numbers.{number}
use Rattle.cacao_text.specs.Canon.{escaped}
use Rattle.run_records.specs.declared.record.Record.{Record}
use Rattle.run_records.specs.declared.record.Record.TheVariants as entry
use Rattle.cacao_vars.specs.declared.kinds.Kind.TheVariants as kind
use Rattle.cacao_book.specs.declared.commands.StepCommand.{StepCommand}
use Rattle.cacao_book.specs.declared.steps.Step.{Step}
use Rattle.cacao_book.specs.declared.step_kinds.StepKind.TheVariants as does
use Rattle.flow_core_rules.specs.declared.moves.Move.TheVariants as move
use Rattle.flow_core_rules.specs.declared.tasks.Task.{Task}
use Rattle.flow_core_rules.specs.Givens.{Given}
use Rattle.flow_core_rules.specs.State.{State, shown}
use Rattle.flow_core_rules.specs.Changes.{change}
use Rattle.flow_core_rules.specs.Runs.{begun}
use Rattle.flow_core_rules.specs.Moves.{record_of}
use Rattle.flow_core_rules.proofs.ExampleRuns.{next, step, end_step, var_of, only}

-- ---- states that records lead to

abbrev after_all : List Record → State → Option State
after_all [] s = Some s
after_all (r ∷ records) s = option_and_then (after_all records) (next s r)

-- the state of run 8 after its Begin at moment 0 and these records
abbrev reached : Given → List Record → Option State
reached given records = option_and_then (after_all records) (begun given 8 0)

abbrev then_take : Record → Option State → Option State
then_take r s = option_and_then (λ (x : State). next x r) s

abbrev may_come : Record → Option State → Option Bool
may_come r s = option_map (λ (x : State). is_some (change (shown x) r)) s

abbrev task_at : ℕ → Option State → Option Task
task_at t s = option_and_then (λ (x : State). slice_get x.tasks t) s

-- the Send that a task makes at moment 0
abbrev sends : ℕ → Option State → Option Record
sends t s = option_and_then (λ (x : State). record_of (shown x) 0 (move.Send t)) s

abbrev then_send : ℕ → Option State → Option State
then_send t s = option_and_then (λ (x : State). option_and_then (next x) (record_of (shown x) 0 (move.Send t))) s

-- ---- two actions side by side, each of which sends the text of a name; the first one's status goes to that name

deny : StepCommand
deny = record { kind = codes "openc2-http"; content = Some (codes "{\"action\":\"deny\",\"target\":{\"ipv4_net\":\"__a__:value\"}}") }

denying : List ℕ → List (List ℕ) → Step
denying key out_args = record (step key None (does.Action (deny ∷ []) (codes "net-address--20") [] [] out_args)) { success = Some (codes "end--13") }

two : Given
two =
    only (var_of kind.String (codes "__a__") (Some (codes "10.0.0.0/24")) ∷ [])
    (denying (codes "action--12") (codes "__a__" ∷ [])
    ∷ end_step (codes "end--13")
    ∷ denying (codes "action--14") []
    ∷ step (codes "parallel--15") (Some (codes "end--13")) (does.Parallel (codes "action--12" ∷ codes "action--14" ∷ []))
    ∷ step (codes "start--10") (Some (codes "parallel--15")) does.Start ∷ [])

-- both are to send
both : Option State
both = reached two (entry.Walk 0 0 ∷ entry.Walk 0 0 ∷ entry.Walk 1 0 ∷ entry.Walk 2 0 ∷ [])

bytes : List ℕ → List ℕ → List ℕ
bytes id net = codes "{\"action\":\"deny\",\"args\":{\"response_requested\":\"complete\"},\"command_id\":\"" ++ (id ++ (codes "\",\"target\":{\"ipv4_net\":\"" ++ (net ++ codes "\"}}")))

-- the other's Send has the next number once the one has sent
sends_first : sends 2 both ≡ Some (entry.Send 2 0 1 0 (bytes (codes "8.0") (codes "10.0.0.0/24")))
unfolding both two denying deny bytes digits number is_utf8 chars encode json_value punctuate lex json_content escaped
sends_first = refl

sends_second : sends 2 (then_send 1 both) ≡ Some (entry.Send 2 1 1 0 (bytes (codes "8.1") (codes "10.0.0.0/24")))
unfolding both two denying deny bytes digits number is_utf8 chars encode json_value punctuate lex json_content escaped
sends_second = refl

-- and the text that the one has written by then
sends_what_was_written : sends 2 (then_take (entry.Reply 0 0 200 1 []) (then_send 1 both)) ≡ Some (entry.Send 2 1 1 0 (bytes (codes "8.1") (codes "200")))
unfolding both two denying deny bytes digits number is_utf8 chars encode json_value punctuate lex json_content escaped
sends_what_was_written = refl

-- ---- a branch that fails leaves the other

one_fails : task_at 2 (then_take (entry.Reply 0 0 400 0 []) (then_send 1 both)) ≡ task_at 2 both
unfolding both two denying deny digits number is_utf8 chars encode json_value punctuate lex json_content escaped
one_fails = refl

one_failed : may_come (entry.Walk 1 0) (then_take (entry.Reply 0 0 400 0 []) (then_send 1 both)) ≡ Some false
unfolding both two denying deny digits number is_utf8 chars encode json_value punctuate lex json_content escaped
one_failed = refl

-- ---- an issue that waits can be answered after the other task's too

both_sent : Option State
both_sent = then_send 2 (then_send 1 both)

answered_second : may_come (entry.Reply 1 5 200 1 []) (then_take (entry.Reply 0 5 200 1 []) both_sent) ≡ Some true
unfolding both_sent both two denying deny digits number is_utf8 chars encode json_value punctuate lex json_content escaped
answered_second = refl

answered_twice : may_come (entry.Reply 0 5 200 1 []) (then_take (entry.Reply 0 5 200 1 []) both_sent) ≡ Some false
unfolding both_sent both two denying deny digits number is_utf8 chars encode json_value punctuate lex json_content escaped
answered_twice = refl

-- ---- an Upgrade no more comes once the first task has ended

straight : Given
straight = only [] (end_step (codes "end--13") ∷ step (codes "start--10") (Some (codes "end--13")) does.Start ∷ [])

at_end : Option State
at_end = reached straight (entry.Walk 0 0 ∷ [])

upgrade_before : may_come (entry.Upgrade 2 0) at_end ≡ Some true
unfolding at_end straight
upgrade_before = refl

upgrade_after : may_come (entry.Upgrade 2 0) (then_take (entry.Walk 0 0) at_end) ≡ Some false
unfolding at_end straight
upgrade_after = refl
