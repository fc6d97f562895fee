-- Responses read back.
use Rattle.std.proofs.Common.{◌≡◌, ◌≢◌, ◌≤◌, ◌<◌, ◌^◌, ◌==◌, ℕ, Bool, true, false, List, [], ◌∷◌, codes, Option, Some, None, option_map, refl, sym, ap, ◌∙◌, arith, lit≤, eq-eqb}
use Rattle.std.proofs.lemmas.Bool.{eqb-true}
use Rattle.std.proofs.lemmas.Bool.Decides.{nat_tests}
use Rattle.std.specs.Prelude.{option_and_then, unwrap_or, if◌then◌else◌}
use Rattle.serde_json.specs.Data.{Data, object, member, no_members, Members, depth}
use Rattle.serde_json.specs.Find.{get}
use Rattle.cacao_json.specs.Profile.{IsFormed, IsTree}
use Rattle.cacao_text.proofs.LawLemmas.{tree-canon}
use Rattle.oc2_msg_targets.specs.declared.features.Feature.{Feature}
use Rattle.oc2_msg_targets.specs.declared.features.Feature.TheVariants as feature
use Rattle.oc2_msg.specs.declared.reasons.Reason.{Reason}
use Rattle.oc2_msg.specs.declared.reasons.Reason.TheVariants as reason
use Rattle.oc2_msg.specs.declared.responses.Response.{Response}
use Rattle.oc2_msg_targets.specs.Parts.{optional, whole, whole_data, present, is_object, is_absent_or, one_member, unless_empty, one_text}
use Rattle.oc2_msg.specs.Reasons.{reason_text}
use Rattle.oc2_msg_targets.specs.Features.{has}
use Rattle.oc2_msg_targets.specs.Ranges.{Each}
use Rattle.oc2_msg.specs.Ranges.{is_status, ResponseInRange}
use Rattle.oc2_msg.specs.Responses.{flow_kinds, feature_value, value_part, rule_part, results_part, text_part, response_data, status_in, short_text, status_text_in, rule_in, answer_in}
use Rattle.oc2_msg.specs.Laws.{ResponsesReadBack}
use Rattle.oc2_msg_targets.proofs.PresentLemmas.{Part, get_member-present, ArePartsOf, AreFormedMembers-present, members_depth-present, Each-unless_empty, is_object-unless_empty, IsFormed-object_of, depth-object_of}
use Rattle.oc2_msg_targets.proofs.ValueLemmas.{whole-whole_data, IsFormed-whole_data, IsUtf8-word, is_ascii_text, items_depth-texts}

-- ---- what is written

abbrev results_list : Response → List Part
results_list r =
    (codes "pairs", value_part r.features feature.Pairs) ∷ (codes "profiles", value_part r.features feature.Profiles)
    ∷ (codes "rate_limit", value_part r.features feature.RateLimit) ∷ (codes "slpf", rule_part r.rule)
    ∷ (codes "versions", value_part r.features feature.Versions) ∷ []

abbrev response_list : Response → List Part
response_list r =
    (codes "results", (results_part r.rule r.features)) ∷ (codes "status", Some (whole_data r.status))
    ∷ (codes "status_text", text_part (reason_text r.text)) ∷ []

abbrev IsPart : ℕ → Option Data → Type 0
IsPart n o = Each IsFormed o × Each (λ e. depth e ≤ n) o

one_text_fits : (text : List ℕ) → is_ascii_text text ≡ true → IsFormed (one_text text) × (depth (one_text text) ≤ 1)
one_text_fits text e = ((IsUtf8-word text e, tt), omega (arith, items_depth-texts (text ∷ [])))

flow_kinds_fit : IsFormed flow_kinds × (depth flow_kinds ≤ 1)
flow_kinds_fit = (
  (
    IsUtf8-word (codes "ipv4_connection") refl,
    (
      IsUtf8-word (codes "ipv4_net") refl,
      (IsUtf8-word (codes "ipv6_connection") refl, (IsUtf8-word (codes "ipv6_net") refl, tt)),
    ),
  ),
  omega arith,
)

abbrev pairs_list : List Part
pairs_list =
    (codes "allow", Some flow_kinds) ∷ (codes "delete", Some (one_text (codes "slpf:rule_number")))
    ∷ (codes "deny", Some flow_kinds) ∷ (codes "query", Some (one_text (codes "features")))
    ∷ (codes "update", Some (one_text (codes "file"))) ∷ []

pairs_fit : ArePartsOf 1 pairs_list
pairs_fit =
    let delete = one_text_fits (codes "slpf:rule_number") refl in
    let query = one_text_fits (codes "features") refl in
    let update = one_text_fits (codes "file") refl in (
      IsUtf8-word (codes "allow") refl,
      flow_kinds_fit.0,
      flow_kinds_fit.1,
      (refl, (refl, (refl, (refl, tt)))),
      (
        IsUtf8-word (codes "delete") refl,
        delete.0,
        delete.1,
        (refl, (refl, (refl, tt))),
        (
          IsUtf8-word (codes "deny") refl,
          flow_kinds_fit.0,
          flow_kinds_fit.1,
          (refl, (refl, tt)),
          (
            IsUtf8-word (codes "query") refl,
            query.0,
            query.1,
            (refl, tt),
            (IsUtf8-word (codes "update") refl, update.0, update.1, tt, tt),
          ),
        ),
      ),
    )

feature_value_fits : (f : Feature) → IsFormed (feature_value f) × (depth (feature_value f) ≤ 2)
feature_value_fits feature.Versions = let h = one_text_fits (codes "1.0") refl in (h.0, omega (arith, h.1))
feature_value_fits feature.Profiles = let h = one_text_fits (codes "slpf") refl in (h.0, omega (arith, h.1))
feature_value_fits feature.RateLimit = (IsFormed-whole_data 60000 (lit≤ tt), omega arith)
feature_value_fits feature.Pairs = (IsFormed-object_of 1 pairs_list pairs_fit, depth-object_of 1 pairs_list pairs_fit)

part_if : (b : Bool) (d : Data) (n : ℕ) → IsFormed d → depth d ≤ n → IsPart n (if b then Some d else None)
part_if true d n f h = (f, h)
part_if false d n f h = (tt, tt)

value_fits : (features : List Feature) (f : Feature) → IsPart 2 (value_part features f)
value_fits features f = part_if (has features f) (feature_value f) 2 (feature_value_fits f).0 (feature_value_fits f).1

part_unless : (b : Bool) (d : Data) (n : ℕ) → IsFormed d → depth d ≤ n → IsPart n (if b then None else Some d)
part_unless true d n f h = (tt, tt)
part_unless false d n f h = (f, h)

rule_fits : (rule : ℕ) → rule < 2 ^ 32 → IsPart 2 (rule_part rule)
rule_fits rule small = part_unless (rule == 0) (one_member (codes "rule_number") (whole_data rule)) 2 (IsUtf8-word (codes "rule_number") refl, IsFormed-whole_data rule (omega arith), tt, tt) (omega arith)

results_fit : (r : Response) → r.rule < 2 ^ 32 → IsPart 3 ((results_part r.rule r.features))
results_fit r small =
    let a = value_fits r.features feature.Pairs in
    let b = value_fits r.features feature.Profiles in
    let c = value_fits r.features feature.RateLimit in
    let d = rule_fits r.rule small in
    let e = value_fits r.features feature.Versions in
    let h : ArePartsOf 2 (results_list r) = (
      IsUtf8-word (codes "pairs") refl,
      a.0,
      a.1,
      (refl, (refl, (refl, (refl, tt)))),
      (
        IsUtf8-word (codes "profiles") refl,
        b.0,
        b.1,
        (refl, (refl, (refl, tt))),
        (
          IsUtf8-word (codes "rate_limit") refl,
          c.0,
          c.1,
          (refl, (refl, tt)),
          (
            IsUtf8-word (codes "slpf") refl,
            d.0,
            d.1,
            (refl, tt),
            (IsUtf8-word (codes "versions") refl, e.0, e.1, tt, tt),
          ),
        ),
      ),
    ) in
    Each-unless_empty 2 (present (results_list r)) (AreFormedMembers-present 2 (results_list r) h) (members_depth-present 2 (results_list r) h)

text_fits : (text : Reason) → IsPart 3 (text_part (reason_text text))
text_fits reason.Empty = (tt, tt)
text_fits reason.MalformedCommand = (IsUtf8-word (codes "malformed command") refl, omega arith)
text_fits reason.UnsupportedAction = (IsUtf8-word (codes "unsupported action") refl, omega arith)
text_fits reason.UnsupportedPair = (IsUtf8-word (codes "unsupported pair") refl, omega arith)
text_fits reason.MalformedTarget = (IsUtf8-word (codes "malformed target") refl, omega arith)
text_fits reason.MalformedArgs = (IsUtf8-word (codes "malformed args") refl, omega arith)
text_fits reason.UnsupportedArgs = (IsUtf8-word (codes "unsupported args") refl, omega arith)
text_fits reason.RuleNumberHeld = (IsUtf8-word (codes "rule number held") refl, omega arith)
text_fits reason.TableFull = (IsUtf8-word (codes "table full") refl, omega arith)
text_fits reason.NoNumberLeft = (IsUtf8-word (codes "no number left") refl, omega arith)
text_fits reason.RuleNotHeld = (IsUtf8-word (codes "rule not held") refl, omega arith)
text_fits reason.UnknownFile = (IsUtf8-word (codes "unknown file") refl, omega arith)

status_small : (n : ℕ) → is_status n ≡ true → n ≤ 503
status_small n e = grind (arith, nat_tests)

is_tree-response : (r : Response) → ResponseInRange r → IsTree (response_data r)
is_tree-response r h =
    let results = results_fit r h.rule_fits in
    let text = text_fits r.text in
    let small = status_small r.status h.status_known in
    let parts : ArePartsOf 3 (response_list r) = (
      IsUtf8-word (codes "results") refl,
      results.0,
      results.1,
      (refl, (refl, tt)),
      (
        IsUtf8-word (codes "status") refl,
        IsFormed-whole_data r.status (omega (arith, small)),
        omega arith,
        (refl, tt),
        (IsUtf8-word (codes "status_text") refl, text.0, text.1, tt, tt),
      ),
    ) in
    record {
      shallow = omega (arith, depth-object_of 3 (response_list r) parts);
      formed = IsFormed-object_of 3 (response_list r) parts;
    }

-- ---- what is read

status_back : (d : Data) (n : ℕ) → get (codes "status") d ≡ Some (whole_data n) → is_status n ≡ true → status_in d ≡ Some n
status_back d n at known = let small : n ≤ 65535 = omega (arith, status_small n known) in rw (at, whole-whole_data 0 65535 n (omega arith) small, known) refl

text_back : (d : Data) (text : Reason) → get (codes "status_text") d ≡ text_part (reason_text text) → status_text_in d ≡ Some (reason_text text)
text_back d text at = ap (λ o. option_map (λ t. unwrap_or t []) (optional short_text o)) at ∙ read text
  where
    read : (text : Reason) → option_map (λ t. unwrap_or t []) (optional short_text (text_part (reason_text text))) ≡ Some (reason_text text)
    read reason.Empty = refl
    read reason.MalformedCommand = refl
    read reason.UnsupportedAction = refl
    read reason.UnsupportedPair = refl
    read reason.MalformedTarget = refl
    read reason.MalformedArgs = refl
    read reason.UnsupportedArgs = refl
    read reason.RuleNumberHeld = refl
    read reason.TableFull = refl
    read reason.NoNumberLeft = refl
    read reason.RuleNotHeld = refl
    read reason.UnknownFile = refl

-- the rule number of results
abbrev number_in : Option Data → Option ℕ
number_in results = option_and_then (λ o. option_and_then (λ slpf. option_and_then (whole 1 4294967295) (get (codes "rule_number") slpf)) (get (codes "slpf") o)) results

number_unless_empty : (ms : Members) → number_in (unless_empty ms) ≡ number_in (Some (object ms))
number_unless_empty no_members = refl
number_unless_empty (member k d ms) = refl

number_of_rule : (rule : ℕ) (b : Bool) → (rule == 0) ≡ b → rule < 2 ^ 32 → unwrap_or (option_and_then (λ slpf. option_and_then (whole 1 4294967295) (get (codes "rule_number") slpf)) (if b then None else Some (one_member (codes "rule_number") (whole_data rule)))) 0 ≡ rule
number_of_rule rule true e small = sym (eqb-true rule 0 e)
number_of_rule rule false e small =
    let some : rule ≢ 0 = λ h. absurd (let again = sym e ∙ eq-eqb rule 0 h in cc) in
    rw (whole-whole_data 1 4294967295 rule (omega arith) (omega arith)) refl

rule_back : (d : Data) (r : Response) → get (codes "results") d ≡ results_part r.rule r.features → r.rule < 2 ^ 32 → rule_in d ≡ r.rule
rule_back d r at small =
    ap (λ o. unwrap_or (number_in o) 0) at
    ∙ ap (λ o. unwrap_or o 0) (number_unless_empty (present (results_list r)))
    ∙ ap (λ o. unwrap_or (option_and_then (λ slpf. option_and_then (whole 1 4294967295) (get (codes "rule_number") slpf)) o) 0) (get_member-present (codes "slpf") (results_list r))
    ∙ number_of_rule r.rule (r.rule == 0) refl small

answer_found : (d : Data) (status rule : ℕ) (text : List ℕ) → is_absent_or is_object (get (codes "results") d) ≡ true → status_in d ≡ Some status → status_text_in d ≡ Some text → rule_in d ≡ rule → answer_in d ≡ Some (record { status = status; rule = rule; text = text })
answer_found d status rule text ok s t n = rw (ok, s, t, n) refl

answer_in-response : (r : Response) → ResponseInRange r → answer_in (response_data r) ≡ Some (record { status = r.status; rule = r.rule; text = reason_text r.text })
answer_in-response r h =
    let d = response_data r in
    let results = get_member-present (codes "results") (response_list r) in
    let text = get_member-present (codes "status_text") (response_list r) in
    let status = get_member-present (codes "status") (response_list r) in
    answer_found d r.status r.rule (reason_text r.text)
    (ap (is_absent_or is_object) results ∙ is_object-unless_empty (present (results_list r)))
    (status_back d r.status status h.status_known) (text_back d r.text text) (rule_back d r results h.rule_fits)

pub responses_read_back : ResponsesReadBack
responses_read_back r h = ap (option_and_then answer_in) (tree-canon (response_data r) (is_tree-response r h)) ∙ answer_in-response r h
