-- How long a response is, as it is written.
use Rattle.std.proofs.Common.{◌≡◌, ℕ, ◌+◌, ◌*◌, ◌<◌, ◌≤◌, ◌^◌, Bool, true, false, cond, ◌==◌, nat_lt, List, [], ◌∷◌, length, map, Option, Some, None, codes, refl, ap, arith, length-append}
use Rattle.std.specs.Prelude.{flat_map}
use Rattle.std.proofs.lemmas.Fmt.{length-decimal-le}
use Rattle.serde_json.specs.Data.{Data, array, object, Members, no_members, member}
use Rattle.cacao_text.specs.Canon.{canon, escaped, string_text, after_commas, joined, member_text, in_order, item_texts, named_texts}
use Rattle.cacao_text.proofs.Sorting.{total, total-in_order}
use Rattle.oc2_msg_targets.specs.declared.features.Feature.{Feature}
use Rattle.oc2_msg_targets.specs.declared.features.Feature.TheVariants as feature
use Rattle.oc2_msg.specs.declared.reasons.Reason.{Reason}
use Rattle.oc2_msg.specs.declared.reasons.Reason.TheVariants as reason
use Rattle.oc2_msg.specs.declared.responses.Response.{Response}
use Rattle.oc2_msg_targets.specs.Features.{has}
use Rattle.oc2_msg_targets.specs.Parts.{present, object_of, whole_data, texts, unless_empty, one_member, one_text}
use Rattle.oc2_msg.specs.Reasons.{reason_text}
use Rattle.oc2_msg.specs.Responses.{flow_kinds, feature_value, value_part, rule_part, results_part, text_part, response_text}

-- ---- strings

if_length : (b : Bool) (xs ys : List ℕ) (n : ℕ) → length xs ≤ n → length ys ≤ n → length (cond b xs ys) ≤ n
if_length true xs ys n h w = h
if_length false xs ys n h w = w

length-escaped : (b : ℕ) → length (escaped b) ≤ 6
unfolding escaped
length-escaped b =
    if_length (b == 34) _ _ 6 (omega arith) (if_length (b == 92) _ _ 6 (omega arith) (if_length (b == 8) _ _ 6 (omega arith)
    (if_length (b == 9) _ _ 6 (omega arith) (if_length (b == 10) _ _ 6 (omega arith) (if_length (b == 12) _ _ 6 (omega arith)
    (if_length (b == 13) _ _ 6 (omega arith) (if_length (nat_lt b 32) _ _ 6 (omega arith) (omega arith))))))))

length-flat_map : (s : List ℕ) → length (flat_map escaped s) ≤ 6 * length s
length-flat_map [] = omega arith
length-flat_map (b ∷ s) = omega (arith, length-append (escaped b) (flat_map escaped s), length-escaped b, length-flat_map s)

length-string : (s : List ℕ) → length (string_text s) ≤ 6 * length s + 2
length-string s = omega (arith, length-append (flat_map escaped s) (34 ∷ []), length-flat_map s)

-- ---- lists and objects

length-after_commas : (ts : List (List ℕ)) → length (after_commas ts) ≡ total (λ t. length t + 1) ts
length-after_commas [] = refl
length-after_commas (t ∷ ts) = omega (arith, length-append t (after_commas ts), length-after_commas ts)

length-joined : (ts : List (List ℕ)) → length (joined ts) ≤ total (λ t. length t + 1) ts
length-joined [] = omega arith
length-joined (t ∷ ts) = omega (arith, length-append t (after_commas ts), length-after_commas ts)

-- what texts take in a list
abbrev texts_bound : List (List ℕ) → ℕ
texts_bound [] = 0
texts_bound (t ∷ ts) = 6 * length t + 3 + texts_bound ts

total-texts : (ts : List (List ℕ)) → total (λ t. length t + 1) (item_texts (texts ts)) ≤ texts_bound ts
total-texts [] = omega arith
total-texts (t ∷ ts) = omega (arith, length-string t, total-texts ts)

length-array : (ts : List (List ℕ)) → length (canon (array (texts ts))) ≤ texts_bound ts + 2
length-array ts =
    omega (arith, length-append (joined (item_texts (texts ts))) (93 ∷ []), length-joined (item_texts (texts ts)), total-texts ts)

abbrev Part : Type 0
Part = List ℕ × Option Data

-- what a part takes in an object, where a value takes at most so much
abbrev part_length : Part → ℕ
part_length (name, None) = 0
part_length (name, Some d) = length (string_text name) + length (canon d) + 2

total-map : (ms : List (List ℕ × List ℕ)) → total (λ t. length t + 1) (map member_text ms) ≡ total (λ m. length (member_text m) + 1) ms
total-map [] = refl
total-map (m ∷ ms) = ap (λ n. length (member_text m) + 1 + n) (total-map ms)

total-present : (parts : List Part) → total (λ m. length (member_text m) + 1) (named_texts (present parts)) ≡ total part_length parts
total-present [] = refl
total-present ((name, None) ∷ parts) = omega (arith, total-present parts)
total-present ((name, Some d) ∷ parts) = omega (arith, length-append (string_text name) (58 ∷ canon d), total-present parts)

length-object : (parts : List Part) → length (canon (object_of parts)) ≤ total part_length parts + 2
length-object parts =
    let ms = named_texts (present parts) in
    let sorted = in_order (λ (m : List ℕ × List ℕ). m.0) ms in
    omega (
      arith,
      length-append (joined (map member_text sorted)) (125 ∷ []),
      length-joined (map member_text sorted),
      total-map sorted,
      total-in_order (λ (m : List ℕ × List ℕ). length (member_text m) + 1) (λ (m : List ℕ × List ℕ). m.0) ms,
      total-present parts,
    )

-- ---- the parts of a response

-- the value, if there is one, takes at most so much
abbrev Fits : ℕ → Option Data → Type 0
Fits n None = Unit {0}
Fits n (Some d) = length (canon d) ≤ n

-- a part of a name of at most 16 bytes and a value of at most so much
small : (name : List ℕ) (o : Option Data) (n : ℕ) → length name ≤ 16 → Fits n o → part_length (name, o) ≤ n + 100
small name None n h w = omega arith
small name (Some d) n h w = omega (arith, length-string name, w)

kinds_fit : length (canon flow_kinds) ≤ 400
kinds_fit = omega (arith, length-array (codes "ipv4_connection" ∷ codes "ipv4_net" ∷ codes "ipv6_connection" ∷ codes "ipv6_net" ∷ []))

one_text_fits : (text : List ℕ) → length text ≤ 16 → length (canon (one_text text)) ≤ 400
one_text_fits text h = omega (arith, length-array (text ∷ []))

pairs_fit : length (canon (feature_value feature.Pairs)) ≤ 3000
pairs_fit =
    omega (
      arith,
      length-object (
          (codes "allow", Some flow_kinds) ∷ (codes "delete", Some (one_text (codes "slpf:rule_number")))
          ∷ (codes "deny", Some flow_kinds) ∷ (codes "query", Some (one_text (codes "features")))
          ∷ (codes "update", Some (one_text (codes "file"))) ∷ []),
      small (codes "allow") (Some flow_kinds) 400 (omega arith) kinds_fit,
      small (codes "delete") (Some (one_text (codes "slpf:rule_number"))) 400 (omega arith) (one_text_fits (codes "slpf:rule_number") (omega arith)),
      small (codes "deny") (Some flow_kinds) 400 (omega arith) kinds_fit,
      small (codes "query") (Some (one_text (codes "features"))) 400 (omega arith) (one_text_fits (codes "features") (omega arith)),
      small (codes "update") (Some (one_text (codes "file"))) 400 (omega arith) (one_text_fits (codes "file") (omega arith)),
    )

number_fits : (n : ℕ) → n < 2 ^ 32 → length (canon (whole_data n)) ≤ 10
number_fits n h = length-decimal-le 10 n (omega arith) (omega arith) (omega arith)

feature_fits : (f : Feature) → length (canon (feature_value f)) ≤ 3000
feature_fits feature.Versions = omega (arith, one_text_fits (codes "1.0") (omega arith))
feature_fits feature.Profiles = omega (arith, one_text_fits (codes "slpf") (omega arith))
feature_fits feature.Pairs = pairs_fit
feature_fits feature.RateLimit = omega (arith, number_fits 60_000 (omega arith))

value_if : (b : Bool) (f : Feature) → Fits 3000 (cond b (Some (feature_value f)) None)
value_if true f = feature_fits f
value_if false f = tt

rule_if : (b : Bool) (n : ℕ) → n < 2 ^ 32 → Fits 3000 (cond b None (Some (one_member (codes "rule_number") (whole_data n))))
rule_if true n h = tt
rule_if false n h =
    omega (
      arith,
      length-object ((codes "rule_number", Some (whole_data n)) ∷ []),
      small (codes "rule_number") (Some (whole_data n)) 10 (omega arith) (number_fits n h),
    )

unless_fits : (ms : Members) (n : ℕ) → length (canon (object ms)) ≤ n → Fits n (unless_empty ms)
unless_fits no_members n h = tt
unless_fits (member name d ms) n h = h

results_fit : (r : Response) → r.rule < 2 ^ 32 → Fits 20_000 (results_part r.rule r.features)
results_fit r h =
    let pairs = value_part r.features feature.Pairs in
    let profiles = value_part r.features feature.Profiles in
    let rate = value_part r.features feature.RateLimit in
    let versions = value_part r.features feature.Versions in
    let parts =
    (codes "pairs", pairs) ∷ (codes "profiles", profiles) ∷ (codes "rate_limit", rate) ∷ (codes "slpf", rule_part r.rule)
    ∷ (codes "versions", versions) ∷ [] in
    unless_fits (present parts) 20_000
    (omega (
      arith,
      length-object parts,
      small (codes "pairs") pairs 3000 (omega arith) (value_if (has r.features feature.Pairs) feature.Pairs),
      small (codes "profiles") profiles 3000 (omega arith) (value_if (has r.features feature.Profiles) feature.Profiles),
      small (codes "rate_limit") rate 3000 (omega arith) (value_if (has r.features feature.RateLimit) feature.RateLimit),
      small (codes "slpf") (rule_part r.rule) 3000 (omega arith) (rule_if (r.rule == 0) r.rule h),
      small (codes "versions") versions 3000 (omega arith) (value_if (has r.features feature.Versions) feature.Versions),
    ))

text_fits : (text : List ℕ) → length text ≤ 32 → Fits 200 (text_part text)
text_fits [] h = tt
text_fits (c ∷ text) h = omega (arith, length-string (c ∷ text))

reason_fits : (r : Reason) → length (reason_text r) ≤ 32
reason_fits reason.Empty = omega arith
reason_fits reason.MalformedCommand = omega arith
reason_fits reason.UnsupportedAction = omega arith
reason_fits reason.UnsupportedPair = omega arith
reason_fits reason.MalformedTarget = omega arith
reason_fits reason.MalformedArgs = omega arith
reason_fits reason.UnsupportedArgs = omega arith
reason_fits reason.RuleNumberHeld = omega arith
reason_fits reason.TableFull = omega arith
reason_fits reason.NoNumberLeft = omega arith
reason_fits reason.RuleNotHeld = omega arith
reason_fits reason.UnknownFile = omega arith

pub response_is_short : (r : Response) → r.status < 2 ^ 32 → r.rule < 2 ^ 32 → length (response_text r) ≤ 1_048_576
response_is_short r status rule =
    omega (
      arith,
      length-object (
          (codes "results", results_part r.rule r.features) ∷ (codes "status", Some (whole_data r.status))
          ∷ (codes "status_text", text_part (reason_text r.text)) ∷ []),
      small (codes "results") (results_part r.rule r.features) 20_000 (omega arith) (results_fit r rule),
      small (codes "status") (Some (whole_data r.status)) 10 (omega arith) (number_fits r.status status),
      small (codes "status_text") (text_part (reason_text r.text)) 200 (omega arith) (text_fits (reason_text r.text) (reason_fits r.text)),
    )
