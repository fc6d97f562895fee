-- The example playbook, from its text: its run record by record, the command that it sends, and what `show` says after it. A query whose content is
-- given as base64.
use Rattle.std.proofs.Common.{◌≡◌, ℕ, List, [], ◌∷◌, Option, Some, refl}
use Rattle.std.specs.Prelude.{codes, option_map, option_and_then}
use Rattle.std.specs.Fmt.{digits}
use Rattle.std.specs.Str.{is_utf8, chars}
use Rattle.json.specs.Json.{value as json_value}
use Rattle.json.specs.Lex.{punctuate, lex}
use Rattle.json.specs.Text.{short_escape}
use Rattle.json.specs.Text.{content as json_content}
use Rattle.json.specs.Word.{word}
use lib.Utf8.{encode}
use Rattle.base_decimals.specs.Numbers.{number}
use Rattle.cacao_text.specs.Canon.{escaped}
use Rattle.serde_json.specs.Data.{object, no_members}
use Rattle.cacao_json.specs.Reading.{tree}
use Rattle.run_records.specs.declared.record.Record.TheVariants as entry
use Rattle.flow_core_rules.specs.Givens.{Given}
use Rattle.flow_core_rules.specs.Accepted.{given_of}
use Rattle.flow_core_rules.proofs.ExampleRuns.{lines_of, issue_of, report_of}

example_text : List ℕ
example_text = codes "{\"type\":\"playbook\",\"spec_version\":\"cacao-2.0\",\"id\":\"playbook--00000000-0000-4000-8000-000000000001\",\"name\":\"Block a host\",\"created_by\":\"identity--00000000-0000-4000-8000-000000000002\",\"created\":\"2024-01-02T03:04:05.000Z\",\"modified\":\"2024-01-02T03:04:05.000Z\",\"workflow_start\":\"start--00000000-0000-4000-8000-000000000010\",\"playbook_variables\":{\"__host__\":{\"type\":\"ipv4-addr\",\"value\":\"198.51.100.7\",\"external\":true},\"__severity__\":{\"type\":\"integer\",\"value\":\"8\"},\"__rule__\":{\"type\":\"integer\"},\"__status__\":{\"type\":\"integer\"}},\"agent_definitions\":{\"net-address--00000000-0000-4000-8000-000000000020\":{\"type\":\"net-address\",\"name\":\"Edge filter\",\"address\":{\"ipv4\":[\"192.0.2.1\"]}}},\"workflow\":{\"start--00000000-0000-4000-8000-000000000010\":{\"type\":\"start\",\"on_completion\":\"if-condition--00000000-0000-4000-8000-000000000011\"},\"if-condition--00000000-0000-4000-8000-000000000011\":{\"type\":\"if-condition\",\"condition\":\"__severity__:value >= 7\",\"on_true\":\"action--00000000-0000-4000-8000-000000000012\",\"on_false\":\"end--00000000-0000-4000-8000-000000000013\",\"on_completion\":\"end--00000000-0000-4000-8000-000000000013\"},\"action--00000000-0000-4000-8000-000000000012\":{\"type\":\"action\",\"agent\":\"net-address--00000000-0000-4000-8000-000000000020\",\"commands\":[{\"type\":\"openc2-http\",\"command\":\"POST /openc2 HTTP/1.1\",\"content\":\"{\\\"action\\\":\\\"deny\\\",\\\"target\\\":{\\\"ipv4_connection\\\":{\\\"dst_addr\\\":\\\"__host__:value\\\"}},\\\"args\\\":{\\\"slpf\\\":{\\\"drop_process\\\":\\\"none\\\"}}}\"}],\"out_args\":[\"__status__\",\"__rule__\"],\"on_completion\":\"end--00000000-0000-4000-8000-000000000013\"},\"end--00000000-0000-4000-8000-000000000013\":{\"type\":\"end\"}}}"

example : Option Given
example = option_map (λ t. given_of (t ∷ []) [] (object no_members)) (tree example_text)

example_run : option_and_then (λ given. lines_of given 7 (entry.Reply 0 0 200 1 [] ∷ [])) example ≡ Some
    (codes "0 0 begin 7\n"
    ∷ codes "1 0 walk 0 start--00000000-0000-4000-8000-000000000010\n"
    ∷ codes "2 0 walk 0 if-condition--00000000-0000-4000-8000-000000000011\n"
    ∷ codes "3 0 walk 1 action--00000000-0000-4000-8000-000000000012\n"
    ∷ codes "4 0 send 0 1\n"
    ∷ codes "5 0 reply 0 200\n"
    ∷ codes "6 0 walk 1 end--00000000-0000-4000-8000-000000000013\n"
    ∷ codes "7 0 walk 0 if-condition--00000000-0000-4000-8000-000000000011\n"
    ∷ codes "8 0 walk 0 end--00000000-0000-4000-8000-000000000013\n" ∷ [])
unfolding example example_text digits number is_utf8 chars encode json_value punctuate lex json_content escaped word short_escape
example_run = refl

example_command : option_and_then (λ given. issue_of given 7 [] 0) example
    ≡ Some (codes "{\"action\":\"deny\",\"args\":{\"response_requested\":\"complete\",\"slpf\":{\"drop_process\":\"none\"}},\"command_id\":\"7.0\",\"target\":{\"ipv4_connection\":{\"dst_addr\":\"198.51.100.7\"}}}")
unfolding example example_text digits number is_utf8 chars encode json_value punctuate lex json_content escaped word short_escape
example_command = refl

example_report : option_and_then (λ given. report_of given 7 (entry.Reply 0 0 200 1 [] ∷ [])) example
    ≡ Some (codes "run 7\nrecords 9\nmoment 0\ntask 0 - ended ok\ntask 1 0 ended ok\nissue 0 1 answered 200\nvar __host__ \"198.51.100.7\"\nvar __rule__ \"1\"\nvar __severity__ \"8\"\nvar __status__ \"200\"\nstate ended ok\n")
unfolding example example_text digits number is_utf8 chars encode json_value punctuate lex json_content escaped word short_escape
example_report = refl
