-- The bits of an address, from the bytes that std keeps of it.
use Rattle.std.proofs.Common.{◌≡◌, ◌-◌, ℕ, List, [], ◌∷◌, ◌++◌, length, get_or, replicate, Option, Some, None, option_map, ◌≢◌, refl, sym, ap, ◌∙◌, arith, inl, inr, length-append}
use Rattle.std.specs.Int.{w32, w128, from_be_bytes}
use Rattle.std.specs.Int.Digits.{number_from_digits}
use Rattle.std.specs.Net.Addr.{octets_of}
use Rattle.std.specs.Net.Grammar.{IsDotted, IsColonHex}
use Rattle.std.proofs.NetLemmas.Arrays.{eight_items}
use Rattle.oc2_nets.specs.Ipv4.{address4}
use Rattle.std.proofs.lemmas.List.{length-replicate}
use Rattle.oc2_nets.specs.Ipv6.{segments, address6}
use Rattle.oc2_nets.proofs.TextParts.{Lacks}
use Rattle.oc2_nets.proofs.Ipv6Forms.{segments_complete}
use Rattle.oc2_nets.proofs.Ipv4Lemmas.{bytes4, address4_some}

pub dotted_bits : (text os : List ℕ) → IsDotted text os → Some (from_be_bytes w32 os) ≡ address4 text
dotted_bits text os h =
    ap Some (ap (from_be_bytes w32) h.value ∙ bytes4 h.a h.b h.c h.d ∙ sym (ap (number_from_digits 256) h.value)) ∙ sym (address4_some text os h)

bytes16 : (a b c d e f g h : ℕ) → from_be_bytes w128 (octets_of (a ∷ b ∷ c ∷ d ∷ e ∷ f ∷ g ∷ h ∷ [])) ≡ number_from_digits 65536 (a ∷ b ∷ c ∷ d ∷ e ∷ f ∷ g ∷ h ∷ [])
bytes16 a b c d e f g h = omega arith

colon_hex_length : (text gs : List ℕ) → IsColonHex text gs → length gs ≡ 8
colon_hex_length text gs (inl h) = h.1
colon_hex_length text gs (inr h) =
    let zeros : List ℕ = replicate (8 - length h.head - length h.tail) 0 in
    omega (arith, ap length h.value, length-append (h.head ++ zeros) h.tail, length-append h.head zeros, length-replicate {A = ℕ} (8 - length h.head - length h.tail) 0, h.room)

pub address6_some : (text gs : List ℕ) → IsColonHex text gs → Lacks 46 text → address6 text ≡ Some (number_from_digits 65536 gs)
unfolding address6
address6_some text gs h plain = rw (segments_complete text gs h plain) refl

pub colon_hex_bits : (text gs : List ℕ) → IsColonHex text gs → Lacks 46 text → Some (from_be_bytes w128 (octets_of gs)) ≡ address6 text
colon_hex_bits text gs h plain =
    let eight = eight_items gs (colon_hex_length text gs h) in
    ap Some (ap (λ x. from_be_bytes w128 (octets_of x)) eight ∙ bytes16 (get_or gs 0 0) (get_or gs 1 0) (get_or gs 2 0) (get_or gs 3 0) (get_or gs 4 0) (get_or gs 5 0) (get_or gs 6 0) (get_or gs 7 0) ∙ sym (ap (number_from_digits 65536) eight))
    ∙ sym (address6_some text gs h plain)

pub address6_none : (text : List ℕ) → ((gs : List ℕ) → segments text ≢ Some gs) → address6 text ≡ None
unfolding address6
address6_none text none = go (segments text) refl
  where
    go : (o : Option (List ℕ)) → segments text ≡ o → option_map (number_from_digits 65536) (segments text) ≡ None
    go None e = rw e refl
    go (Some gs) e = absurd (none gs e)
