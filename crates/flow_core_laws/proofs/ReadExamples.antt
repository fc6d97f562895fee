-- What records read and write, computed on the definitions: two branches beside each other. The records were written by hand.
use Rattle.std.proofs.Common.{◌≡◌, ℕ, List, [], ◌∷◌, Option, Some, None, refl}
use Rattle.std.specs.Prelude.{codes, option_and_then, option_map}
use Rattle.std.specs.Fmt.{digits}
use Rattle.std.specs.Str.{is_utf8, chars}
use Rattle.json.specs.Json.{value as json_value}
use Rattle.json.specs.Lex.{punctuate, lex}
use Rattle.json.specs.Text.{content as json_content}
use lib.Utf8.{encode}
use Rattle.base_decimals.specs.Numbers.{number}
use Rattle.cacao_text.specs.Canon.{escaped}
use Rattle.run_records.specs.declared.record.Record.{Record}
use Rattle.run_records.specs.declared.record.Record.TheVariants as entry
use Rattle.cacao_vars.specs.declared.declarations.Var.{Var}
use Rattle.cacao_vars.specs.declared.kinds.Kind.TheVariants as kind
use Rattle.cacao_book.specs.declared.commands.StepCommand.{StepCommand}
use Rattle.cacao_book.specs.declared.steps.Step.{Step}
use Rattle.cacao_book.specs.declared.step_kinds.StepKind.TheVariants as does
use Rattle.flow_core_rules.specs.declared.moves.Move.TheVariants as move
use Rattle.flow_core_rules.specs.Givens.{Given}
use Rattle.flow_core_rules.specs.State.{State, shown, value}
use Rattle.flow_core_rules.specs.Edits.{Edit}
use Rattle.flow_core_rules.specs.Edits.Edit.{moves}
use Rattle.flow_core_rules.specs.Changes.{change}
use Rattle.flow_core_rules.specs.Runs.{begun}
use Rattle.flow_core_rules.specs.Moves.{record_of}
use Rattle.flow_core_rules.proofs.ExampleRuns.{next, step, end_step, var_of, only}
use Rattle.flow_core_laws.specs.Reads.{reads, writes_of}

abbrev after_all : List Record → State → Option State
after_all [] s = Some s
after_all (r ∷ records) s = option_and_then (after_all records) (next s r)

-- the state of run 8 after its Begin at moment 0 and these records
abbrev reached : Given → List Record → Option State
reached given records = option_and_then (after_all records) (begun given 8 0)

abbrev then_send : ℕ → Option State → Option State
then_send t s = option_and_then (λ (x : State). option_and_then (next x) (record_of (shown x) 0 (move.Send t))) s

abbrev read_by : Record → Option State → Option (List (ℕ × List ℕ))
read_by r s = option_map (λ (x : State). reads (shown x) r) s

abbrev written_by : Record → Option State → Option (List (ℕ × List ℕ))
written_by r s = option_map (λ (x : State). writes_of (shown x) r) s

-- ---- two actions and an if-condition side by side; each action sends the text of `__a__`, and its status goes there

deny : StepCommand
deny = record { kind = codes "openc2-http"; content = Some (codes "{\"action\":\"deny\",\"target\":{\"ipv4_net\":\"__a__:value\"}}") }

denying : List ℕ → List Var → Step
denying key vars = record (step key None (does.Action (deny ∷ []) (codes "net-address--20") [] [] (codes "__a__" ∷ []))) { success = Some (codes "end--13"); variables = vars }

three : List Var → Given
three vars =
    only (var_of kind.String (codes "__a__") (Some (codes "10.0.0.0/24")) ∷ [])
    (denying (codes "action--12") []
    ∷ end_step (codes "end--13")
    ∷ denying (codes "action--14") vars
    ∷ step (codes "if--16") (Some (codes "end--13")) (does.If (codes "__a__:value = '200'") (codes "end--13") None)
    ∷ step (codes "parallel--15") (Some (codes "end--13")) (does.Parallel (codes "action--12" ∷ codes "action--14" ∷ codes "if--16" ∷ []))
    ∷ step (codes "start--10") (Some (codes "parallel--15")) does.Start ∷ [])

-- both actions are to send
both : List Var → Option State
both vars = reached (three vars) (entry.Walk 0 0 ∷ entry.Walk 0 0 ∷ entry.Walk 1 0 ∷ entry.Walk 2 0 ∷ [])

-- the one's answer writes what the other's content refers to
writes_name : written_by (entry.Reply 0 0 200 1 []) (then_send 1 (both [])) ≡ Some ((0, codes "__a__") ∷ [])
unfolding both three denying deny digits number is_utf8 chars encode json_value punctuate lex json_content escaped
writes_name = refl

reads_name : read_by (entry.Send 2 1 1 0 []) (then_send 1 (both [])) ≡ Some ((0, codes "__a__") ∷ [])
unfolding both three denying deny digits number is_utf8 chars encode json_value punctuate lex json_content escaped
reads_name = refl

-- and what the condition compares
reads_condition : read_by (entry.Walk 3 0) (then_send 1 (both [])) ≡ Some ((0, codes "__a__") ∷ [])
unfolding both three denying deny digits number is_utf8 chars encode json_value punctuate lex json_content escaped
reads_condition = refl

-- a branch that declares the name itself reads its own
reads_own : read_by (entry.Send 2 1 1 0 []) (then_send 1 (both (var_of kind.String (codes "__a__") None ∷ []))) ≡ Some ((3, codes "__a__") ∷ [])
unfolding both three denying deny digits number is_utf8 chars encode json_value punctuate lex json_content escaped
reads_own = refl

-- an answer reads nothing
reads_nothing : read_by (entry.Reply 0 0 200 1 []) (then_send 1 (both [])) ≡ Some []
unfolding both three denying deny digits number is_utf8 chars encode json_value punctuate lex json_content escaped
reads_nothing = refl

-- ---- two answers that write to the same name: the later one stands, so the order shows

both_sent : Option State
both_sent = then_send 2 (then_send 1 (both []))

abbrev then_take : Record → Option State → Option State
then_take r s = option_and_then (λ (x : State). next x r) s

abbrev text_of_name : Option State → Option (Option (List ℕ))
text_of_name s = option_map (λ (x : State). value x 0 (codes "__a__")) s

one_first : text_of_name (then_take (entry.Reply 1 0 400 0 []) (then_take (entry.Reply 0 0 200 1 []) both_sent)) ≡ Some (Some (codes "400"))
unfolding both_sent both three denying deny digits number is_utf8 chars encode json_value punctuate lex json_content escaped
one_first = refl

other_first : text_of_name (then_take (entry.Reply 0 0 200 1 []) (then_take (entry.Reply 1 0 400 0 []) both_sent)) ≡ Some (Some (codes "200"))
unfolding both_sent both three denying deny digits number is_utf8 chars encode json_value punctuate lex json_content escaped
other_first = refl

both_write : written_by (entry.Reply 1 0 400 0 []) both_sent ≡ Some ((0, codes "__a__") ∷ [])
unfolding both_sent both three denying deny digits number is_utf8 chars encode json_value punctuate lex json_content escaped
both_write = refl

-- ---- a scope that is opened behind another one has the next number

abbrev entered_scope : List Edit → Option ℕ
entered_scope [] = None
entered_scope (moves n task ∷ edits) = task.step_scope
entered_scope (other ∷ edits) = entered_scope edits

abbrev enters : Record → Option State → Option (Option ℕ)
enters r s = option_map (λ (x : State). option_and_then entered_scope (change (shown x) r)) s

alone : enters (entry.Walk 2 0) (reached (three []) (entry.Walk 0 0 ∷ entry.Walk 0 0 ∷ [])) ≡ Some (Some 2)
unfolding three denying deny
alone = refl

behind_other : enters (entry.Walk 2 0) (reached (three []) (entry.Walk 0 0 ∷ entry.Walk 0 0 ∷ entry.Walk 1 0 ∷ [])) ≡ Some (Some 3)
unfolding three denying deny
behind_other = refl
