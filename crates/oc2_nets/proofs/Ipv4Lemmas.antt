-- The text of an IPv4 address, as std's grammar has it and as this crate's has.
use Rattle.std.proofs.Common.{◌≡◌, ◌<◌, ◌≤◌, ◌^◌, ℕ, List, [], ◌∷◌, ◌++◌, Option, Some, None, decimal, option_map, refl, sym, ap, ◌∙◌, arith, append_assoc}
use Rattle.std.proofs.lemmas.Option.{none-some, same_Some, option_and_then_some}
use Rattle.std.proofs.lemmas.Fmt.{digits_decimal}
use Rattle.std.proofs.lemmas.Str.Parse.{not_in_digits}
use Rattle.std.specs.List.{join_with_byte}
use Rattle.std.specs.Int.{w32, from_be_bytes}
use Rattle.std.specs.Int.Digits.{number_from_digits}
use Rattle.std.specs.Net.Text.{dotted_text}
use Rattle.std.specs.Net.Grammar.{IsDotted}
use Rattle.oc2_nets.specs.Texts.{parts}
use Rattle.base_decimals.specs.Numbers.{number}
use Rattle.oc2_nets.specs.Ipv4.{octets, address4}
use Rattle.base_decimals.proofs.Decimals.{own, number_some, number_sound}
use Rattle.oc2_nets.proofs.TextParts.{Lacks, parts_one, parts_more, joined_parts}

pub decimal_lacks : (c n : ℕ) → n < 2 ^ 64 → (48 ≤ c → 57 < c) → Lacks c (decimal n)
decimal_lacks c n small apart = not_in_digits own (decimal n) c (digits_decimal own n small) (λ r. absurd (omega (arith, apart r.0, r.1)))

no_dots : (n : ℕ) → n < 256 → Lacks 46 (decimal n)
no_dots n fits = decimal_lacks 46 n (omega arith) (λ h. absurd (omega arith))

pub regrouped : (a b c d : ℕ) → dotted_text a b c d ≡ decimal a ++ 46 ∷ (decimal b ++ 46 ∷ (decimal c ++ 46 ∷ decimal d))
regrouped a b c d = simp append_assoc

pub dotted_parts : (a b c d : ℕ) → a < 256 → b < 256 → c < 256 → d < 256 → parts 46 (dotted_text a b c d) ≡ decimal a ∷ decimal b ∷ decimal c ∷ decimal d ∷ []
dotted_parts a b c d fa fb fc fd =
    ap (parts 46) (regrouped a b c d)
    ∙ parts_more 46 (decimal a) _ (no_dots a fa)
    ∙ ap (λ ps. decimal a ∷ ps) (parts_more 46 (decimal b) _ (no_dots b fb)
    ∙ ap (λ ps. decimal b ∷ ps) (parts_more 46 (decimal c) _ (no_dots c fc)
    ∙ ap (λ ps. decimal c ∷ ps) (parts_one 46 (decimal d) (no_dots d fd))))

octet_is : (n : ℕ) → n < 256 → number 255 (decimal n) ≡ Some n
octet_is n fits = number_some 255 n (decimal n) (omega arith) (omega arith) refl

pub octets_complete : (text os : List ℕ) → IsDotted text os → octets (parts 46 text) ≡ Some os
octets_complete text os h =
    ap (λ t. octets (parts 46 t)) h.spelled
    ∙ ap octets (dotted_parts h.a h.b h.c h.d h.fit.0 h.fit.1 h.fit.2 h.fit.3)
    ∙ rw (octet_is h.a h.fit.0, octet_is h.b h.fit.1, octet_is h.c h.fit.2, octet_is h.d h.fit.3) (ap Some (sym h.value))

four_sound : (ps : List (List ℕ)) (os : List ℕ) → octets ps ≡ Some os → IsDotted (join_with_byte 46 ps) os
four_sound [] os e = absurd (none-some os e)
four_sound (a ∷ []) os e = absurd (none-some os e)
four_sound (a ∷ b ∷ []) os e = absurd (none-some os e)
four_sound (a ∷ b ∷ c ∷ []) os e = absurd (none-some os e)
four_sound (a ∷ b ∷ c ∷ d ∷ []) os e =
    option_and_then_some _ (number 255 a) os e λ i is_a e₁.
    option_and_then_some _ (number 255 b) os e₁ λ j is_b e₂.
    option_and_then_some _ (number 255 c) os e₂ λ k is_c e₃.
    option_and_then_some _ (number 255 d) os e₃ λ l is_d e₄.
    let sa = number_sound 255 i a is_a in
    let sb = number_sound 255 j b is_b in
    let sc = number_sound 255 k c is_c in
    let sd = number_sound 255 l d is_d in
    record {
      a = i;
      b = j;
      c = k;
      d = l;
      fit = (omega (arith, sa.1), omega (arith, sb.1), omega (arith, sc.1), omega (arith, sd.1));
      value = sym (same_Some _ _ e₄);
      spelled = rw (sa.0, sb.0, sc.0, sd.0) (sym (regrouped i j k l));
    }
four_sound (a ∷ b ∷ c ∷ d ∷ x ∷ ps) os e = absurd (none-some os e)

pub octets_sound : (text os : List ℕ) → octets (parts 46 text) ≡ Some os → IsDotted text os
octets_sound text os e = rw (joined_parts 46 text) at (four_sound (parts 46 text) os e)

pub bytes4 : (a b c d : ℕ) → from_be_bytes w32 (a ∷ b ∷ c ∷ d ∷ []) ≡ number_from_digits 256 (a ∷ b ∷ c ∷ d ∷ [])
bytes4 a b c d = omega arith

-- what `parse` and `to_bits` give
pub address4_some : (text os : List ℕ) → IsDotted text os → address4 text ≡ Some (number_from_digits 256 os)
unfolding address4
address4_some text os h = rw (octets_complete text os h) refl

pub address4_none : (text : List ℕ) → ((os : List ℕ) → ¬ (IsDotted text os)) → address4 text ≡ None
unfolding address4
address4_none text none = go (octets (parts 46 text)) refl
  where
    go : (o : Option (List ℕ)) → octets (parts 46 text) ≡ o → option_map (number_from_digits 256) (octets (parts 46 text)) ≡ None
    go None e = rw e refl
    go (Some os) e = absurd (none os (octets_sound text os e))
