-- Promise: Responses: what is written, and what is read.
use Rattle.std.specs.Prelude.{◌≡◌, ⊤, Result, Ok, Err, ℕ, List, [], ◌∷◌, length, ◌==◌, nat_le, Option, Some, None, option_map, option_and_then, unwrap_or, codes, if◌then◌else◌}
use Rattle.serde_json.specs.Data.{Data, string, array}
use Rattle.serde_json.specs.Find.{get, as_str}
use Rattle.cacao_json.specs.Reading.{tree}
use Rattle.cacao_text.specs.Canon.{canon}
use Rattle.oc2_msg_targets.specs.declared.features.Feature.{Feature}
use Rattle.oc2_msg_targets.specs.declared.features.Feature.TheVariants as feature
use Rattle.oc2_msg.specs.declared.reasons.Reason.{Reason}
use Rattle.oc2_msg.specs.declared.responses.Response.{Response}
use Rattle.oc2_msg.specs.declared.answers.Answer.{Answer}
use Rattle.oc2_msg.specs.declared.answers.ResponseError.{ResponseError}
use Rattle.oc2_msg.specs.declared.answers.ResponseError.TheVariants.{Malformed, Memory}
use Rattle.oc2_msg_targets.specs.Parts.{◌>>=◌, provided, optional, is_object, is_absent_or, whole, object_of, whole_data, texts, part_of, one_member, one_text}
use Rattle.oc2_msg.specs.Ranges.{is_status}
use Rattle.oc2_msg.specs.Reasons.{reason_text}
use Rattle.oc2_msg_targets.specs.Features.{has}

-- ---- the values of features

abbrev pub flow_kinds : Data
flow_kinds = array (texts (
    codes "ipv4_connection" ∷ codes "ipv4_net" ∷ codes "ipv6_connection" ∷ codes "ipv6_net" ∷ []))

-- the targets that each action takes
abbrev pub pairs_value : Data
pairs_value = object_of (
    (codes "allow", Some flow_kinds) ∷ (codes "delete", Some (one_text (codes "slpf:rule_number")))
    ∷ (codes "deny", Some flow_kinds) ∷ (codes "query", Some (one_text (codes "features")))
    ∷ (codes "update", Some (one_text (codes "file"))) ∷ [])

abbrev pub feature_value : Feature → Data
feature_value feature.Versions = one_text (codes "1.0")
feature_value feature.Profiles = one_text (codes "slpf")
feature_value feature.RateLimit = whole_data 60_000
feature_value feature.Pairs = pairs_value

-- the value of a feature that is asked for
abbrev pub value_part : List Feature → Feature → Option Data
value_part features f = if has features f then Some (feature_value f) else None

-- ---- what is written

abbrev pub rule_part : ℕ → Option Data
rule_part rule = if rule == 0 then None else Some (one_member (codes "rule_number") (whole_data rule))

abbrev pub results_part : ℕ → List Feature → Option Data
results_part rule features = part_of (
    (codes "pairs", value_part features feature.Pairs) ∷ (codes "profiles", value_part features feature.Profiles)
    ∷ (codes "rate_limit", value_part features feature.RateLimit) ∷ (codes "slpf", rule_part rule)
    ∷ (codes "versions", value_part features feature.Versions) ∷ [])

abbrev pub text_part : List ℕ → Option Data
text_part [] = None
text_part (c ∷ text) = Some (string (c ∷ text))

abbrev pub response_object : Option Data → ℕ → Reason → Data
response_object results status text = object_of (
    (codes "results", results) ∷ (codes "status", Some (whole_data status))
    ∷ (codes "status_text", text_part (reason_text text)) ∷ [])

abbrev pub response_data : Response → Data
response_data r = response_object (results_part r.rule r.features) r.status r.text

-- the text of a response
abbrev pub response_text : Response → List ℕ
response_text r = canon (response_data r)

-- ---- what is read

abbrev pub known_status : ℕ → Option ℕ
known_status n = if is_status n then Some n else None

abbrev pub status_in : Data → Option ℕ
status_in d = do
  part ← get (codes "status") d
  n ← whole 0 65_535 part
  known_status n

-- a text of at most 4,096 bytes
abbrev pub short : List ℕ → Option (List ℕ)
short text = if nat_le (length text) 4_096 then Some text else None

abbrev pub short_text : Data → Option (List ℕ)
short_text d = option_and_then short (as_str d)

-- the text, empty where it is absent
abbrev pub status_text_in : Data → Option (List ℕ)
status_text_in d = option_map (λ text. unwrap_or text []) (optional short_text (get (codes "status_text") d))

-- the number of the rule that was added
abbrev pub rule_number_in : Data → Option ℕ
rule_number_in d = do
  results ← get (codes "results") d
  slpf ← get (codes "slpf") results
  number ← get (codes "rule_number") slpf
  whole 1 4_294_967_295 number

-- (0 stands for none)
abbrev pub rule_in : Data → ℕ
rule_in d = unwrap_or (rule_number_in d) 0

abbrev pub answer_values : Data → Option Answer
answer_values d = do
  status ← status_in d
  text ← status_text_in d
  Some (record { status = status; rule = rule_in d; text = text })

abbrev pub answer_in : Data → Option Answer
answer_in d = provided (is_absent_or is_object (get (codes "results") d)) (answer_values d)

-- what the bytes of a response answer, None where they are no response
abbrev pub answer : List ℕ → Option Answer
answer bytes = option_and_then answer_in (tree bytes)

-- the result is this answer, or memory ran out
abbrev pub IsReadOrMemory : Result Answer ResponseError → Option Answer → Type 0
IsReadOrMemory (Ok read) found = found ≡ Some read
IsReadOrMemory (Err Malformed) found = found ≡ None
IsReadOrMemory (Err Memory) found = ⊤
