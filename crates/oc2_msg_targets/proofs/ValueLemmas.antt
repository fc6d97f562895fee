-- Values that are written and read.
use Rattle.std.proofs.Common.{◌≡◌, ◌≤◌, ◌<◌, ◌^◌, ℕ, zero, suc, Bool, true, false, List, [], ◌∷◌, ◌++◌, map, codes, Option, Some, None, option_map, refl, ap, arith, decimal, lit≤}
use Rattle.std.specs.Prelude.{nat_lt, ◌&&◌}
use Rattle.std.specs.Str.{IsUtf8, IsAscii}
use Rattle.std.specs.Char.{digit_value}
use Rattle.std.specs.Str.Parse.{AllDigits}
use Rattle.std.specs.List.{list_all}
use borrow.Author.Tests.{ltb-true}
use Rattle.std.proofs.lemmas.Str.{IsUtf8-from_ascii, IsAscii-append}
use Rattle.std.proofs.lemmas.Bool.Decides.{nat_tests}
use Rattle.std.proofs.lemmas.Fmt.{IsAscii-decimal, digits_is_IsNumeral}
use Rattle.serde_json.specs.Data.{string, depth, items_depth}
use Rattle.cacao_json.specs.Profile.{IsFormed, AreFormed}
use Rattle.oc2_nets.specs.declared.packets.Protocol.{Protocol}
use Rattle.oc2_nets.specs.declared.packets.Protocol.TheVariants as protocol
use Rattle.oc2_nets.specs.declared.ipv4_nets.Net4.{Net4}
use Rattle.oc2_nets.specs.declared.ipv6_nets.Net6.{Net6}
use Rattle.oc2_nets.specs.Nets.{net4_text, net6_text, groups_text, groups_of, hex}
use Rattle.oc2_nets.proofs.RoundTrips.{net4_back, net6_back}
use Rattle.oc2_msg_targets.specs.declared.features.Feature.{Feature}
use Rattle.oc2_msg_targets.specs.declared.features.Feature.TheVariants as feature
use Rattle.oc2_msg_targets.specs.Parts.{whole, optional, whole_data, texts}
use Rattle.oc2_msg_targets.specs.Words.{feature_word}
use Rattle.oc2_msg_targets.specs.Features.{feature_in, features_in}
use Rattle.oc2_msg_targets.specs.Targets.{net4_in, net6_in, protocol_in}
use Rattle.oc2_msg_targets.specs.Ranges.{Each, IsNet4, IsNet6}
use Rattle.oc2_msg_targets.specs.Least.{net4_data, net6_data, protocol_data}

-- ---- numbers

pub whole-whole_data : (least most n : ℕ) → least ≤ n → n ≤ most → whole least most (whole_data n) ≡ Some n
whole-whole_data least most n low high = grind (arith)

pub optional_whole-back : (least most : ℕ) (o : Option ℕ) → Each (λ n. (least ≤ n) × (n ≤ most)) o → optional (whole least most) (option_map whole_data o) ≡ Some o
optional_whole-back least most None h = refl
optional_whole-back least most (Some n) h = ap (option_map Some) (whole-whole_data least most n h.0 h.1)

pub IsFormed-whole_data : (n : ℕ) → n ≤ 9007199254740991 → IsFormed (whole_data n)
IsFormed-whole_data n h = grind (arith)

pub Each-whole_data : (most : ℕ) (o : Option ℕ) → Each (λ n. n ≤ most) o → most ≤ 9007199254740991 → Each IsFormed (option_map whole_data o) × Each (λ d. depth d ≤ 0) (option_map whole_data o)
Each-whole_data most None h small = (tt, tt)
Each-whole_data most (Some n) h small = (IsFormed-whole_data n (omega (arith, h)), omega arith)

-- ---- words

both : (a b : Bool) → a && b ≡ true → (a ≡ true) × (b ≡ true)
both true true e = (refl, refl)
both true false e = absurd (cc)
both false b e = absurd (cc)

abbrev pub is_ascii_text : List ℕ → Bool
is_ascii_text text = list_all (λ c. nat_lt c 128) text

IsAscii-text : (text : List ℕ) → is_ascii_text text ≡ true → IsAscii text
IsAscii-text [] e i = omega arith
IsAscii-text (c ∷ text) e zero = ltb-true c 128 (both _ _ e).0
IsAscii-text (c ∷ text) e (suc i) = IsAscii-text text (both _ _ e).1 i

pub IsUtf8-word : (text : List ℕ) → is_ascii_text text ≡ true → IsUtf8 text
IsUtf8-word text e = IsUtf8-from_ascii text (IsAscii-text text e)

pub optional_protocol-back : (o : Option Protocol) → optional protocol_in (option_map protocol_data o) ≡ Some o
optional_protocol-back None = refl
optional_protocol-back (Some protocol.Icmp) = refl
optional_protocol-back (Some protocol.Tcp) = refl
optional_protocol-back (Some protocol.Udp) = refl
optional_protocol-back (Some protocol.Sctp) = refl

pub Each-protocol_data : (o : Option Protocol) → Each IsFormed (option_map protocol_data o) × Each (λ e. depth e ≤ 0) (option_map protocol_data o)
Each-protocol_data None = (tt, tt)
Each-protocol_data (Some protocol.Icmp) = (IsUtf8-word (codes "icmp") refl, omega arith)
Each-protocol_data (Some protocol.Tcp) = (IsUtf8-word (codes "tcp") refl, omega arith)
Each-protocol_data (Some protocol.Udp) = (IsUtf8-word (codes "udp") refl, omega arith)
Each-protocol_data (Some protocol.Sctp) = (IsUtf8-word (codes "sctp") refl, omega arith)

-- ---- nets

pub optional_net4-back : (o : Option Net4) → Each IsNet4 o → optional net4_in (option_map net4_data o) ≡ Some o
optional_net4-back None h = refl
optional_net4-back (Some net) h = ap (option_map Some) (net4_back net h)

pub optional_net6-back : (o : Option Net6) → Each IsNet6 o → optional net6_in (option_map net6_data o) ≡ Some o
optional_net6-back None h = refl
optional_net6-back (Some net) h = ap (option_map Some) (net6_back net h)

IsAscii-one : (c : ℕ) → c < 128 → IsAscii (c ∷ [])
IsAscii-one c small zero = small
IsAscii-one c small (suc i) = omega arith

IsAscii-cons : (c : ℕ) (text : List ℕ) → c < 128 → IsAscii text → IsAscii (c ∷ text)
IsAscii-cons c text small h zero = small
IsAscii-cons c text small h (suc i) = h i

digit_small : (c : ℕ) → digit_value c < 16 → c < 128
digit_small c h = grind (arith, nat_tests)

IsAscii-hexadecimal : (text : List ℕ) → AllDigits 16 text → IsAscii text
IsAscii-hexadecimal [] all i = omega arith
IsAscii-hexadecimal (c ∷ text) all zero = digit_small c all.0
IsAscii-hexadecimal (c ∷ text) all (suc i) = IsAscii-hexadecimal text all.1 i

IsAscii-hex : (n : ℕ) → n < 65536 → IsAscii (hex n)
IsAscii-hex n small =
    let bound : 65536 ≤ 16 ^ 64 = lit≤ tt in
    IsAscii-hexadecimal (hex n) (digits_is_IsNumeral 16 false (lit≤ tt) (lit≤ tt) n (omega arith)).0.1

abbrev AllSmall : List ℕ → Type 0
AllSmall [] = Unit {0}
AllSmall (n ∷ ns) = (n < 65536) × AllSmall ns

IsAscii-groups : (gs : List ℕ) → AllSmall gs → IsAscii (groups_text gs)
IsAscii-groups [] h i = omega arith
IsAscii-groups (g ∷ []) h i = IsAscii-hex g h.0 i
IsAscii-groups (g ∷ k ∷ gs) h i = IsAscii-append (hex g) (58 ∷ groups_text (k ∷ gs)) (IsAscii-hex g h.0) (IsAscii-cons 58 (groups_text (k ∷ gs)) (omega arith) (IsAscii-groups (k ∷ gs) h.1)) i

IsAscii-width : (text : List ℕ) (width : ℕ) → IsAscii text → width < 2 ^ 64 → IsAscii (text ++ codes "/" ++ decimal width)
IsAscii-width text width h small = IsAscii-append _ (decimal width) (IsAscii-append text (codes "/") h (IsAscii-one 47 (omega arith))) (IsAscii-decimal width small)

pub IsUtf8-net4_text : (net : Net4) → IsNet4 net → IsUtf8 (net4_text net)
IsUtf8-net4_text net small =
    let n = net.bits in
    let width : net.width ≤ 32 = net.in_range in
    let dot : IsAscii (codes ".") = IsAscii-one 46 (omega arith) in
    IsUtf8-from_ascii (net4_text net) (IsAscii-width _ net.width
    (IsAscii-append _ _ (IsAscii-append _ _ (IsAscii-append _ _ (IsAscii-append _ _ (IsAscii-append _ _ (IsAscii-append _ _ (IsAscii-decimal _ (omega arith)) dot) (IsAscii-decimal _ (omega arith))) dot) (IsAscii-decimal _ (omega arith))) dot) (IsAscii-decimal _ (omega arith)))
    (omega arith))

pub IsUtf8-net6_text : (net : Net6) → IsNet6 net → IsUtf8 (net6_text net)
IsUtf8-net6_text net small =
    let width : net.width ≤ 128 = net.in_range in
    IsUtf8-from_ascii (net6_text net) (IsAscii-width (groups_text (groups_of net.bits)) net.width
    (IsAscii-groups (groups_of net.bits) (omega arith, (omega arith, (omega arith, (omega arith, (omega arith, (omega arith, (omega arith, (omega arith, tt)))))))))
    (omega arith))

pub Each-net4_data : (o : Option Net4) → Each IsNet4 o → Each IsFormed (option_map net4_data o) × Each (λ e. depth e ≤ 0) (option_map net4_data o)
Each-net4_data None h = (tt, tt)
Each-net4_data (Some net) h = (IsUtf8-net4_text net h, omega arith)

pub Each-net6_data : (o : Option Net6) → Each IsNet6 o → Each IsFormed (option_map net6_data o) × Each (λ e. depth e ≤ 0) (option_map net6_data o)
Each-net6_data None h = (tt, tt)
Each-net6_data (Some net) h = (IsUtf8-net6_text net h, omega arith)

-- ---- features

feature_in-back : (f : Feature) → feature_in (string (feature_word f)) ≡ Some f
feature_in-back feature.Versions = refl
feature_in-back feature.Profiles = refl
feature_in-back feature.Pairs = refl
feature_in-back feature.RateLimit = refl

pub features_in-back : (fs : List Feature) → features_in (texts (map feature_word fs)) ≡ Some fs
features_in-back [] = refl
features_in-back (f ∷ fs) = rw (feature_in-back f, features_in-back fs) refl

IsUtf8-feature_word : (f : Feature) → IsUtf8 (feature_word f)
IsUtf8-feature_word feature.Versions = IsUtf8-word (codes "versions") refl
IsUtf8-feature_word feature.Profiles = IsUtf8-word (codes "profiles") refl
IsUtf8-feature_word feature.Pairs = IsUtf8-word (codes "pairs") refl
IsUtf8-feature_word feature.RateLimit = IsUtf8-word (codes "rate_limit") refl

pub AreFormed-features : (fs : List Feature) → AreFormed (texts (map feature_word fs))
AreFormed-features [] = tt
AreFormed-features (f ∷ fs) = (IsUtf8-feature_word f, AreFormed-features fs)

pub items_depth-texts : (words : List (List ℕ)) → items_depth (texts words) ≤ 0
items_depth-texts [] = omega arith
items_depth-texts (w ∷ ws) = omega (arith, items_depth-texts ws)
