-- The text of a net, and what reading gives of it.
use Rattle.std.proofs.Common.{◌≡◌, ◌<◌, ◌/◌, ◌%◌, ◌^◌, ℕ, List, [], ◌∷◌, ◌++◌, decimal, refl, sym, ap, ◌∙◌, arith, append_assoc, codes}
use Rattle.std.specs.Int.{w32, to_be_bytes}
use Rattle.std.specs.Net.Text.{dotted_text, ipv4_text}
use Rattle.oc2_nets.specs.Nets.{groups_of, groups_text, quarters}

octets_shown : (n : ℕ) → n < 2 ^ 32 → ipv4_text (to_be_bytes w32 n) ≡ dotted_text (n / 2 ^ 24) (n / 2 ^ 16 % 2 ^ 8) (n / 2 ^ 8 % 2 ^ 8) (n % 2 ^ 8)
octets_shown n small =
    let first : n / 2 ^ 24 % 256 ≡ n / 2 ^ 24 = omega arith in
    ap (λ a. dotted_text a (n / 2 ^ 16 % 2 ^ 8) (n / 2 ^ 8 % 2 ^ 8) (n % 2 ^ 8)) first

pub net4_shown : (n width : ℕ) (octets : List ℕ) → n < 2 ^ 32 → octets ≡ to_be_bytes w32 n → ipv4_text octets ++ 47 ∷ decimal width ≡ dotted_text (n / 2 ^ 24) (n / 2 ^ 16 % 2 ^ 8) (n / 2 ^ 8 % 2 ^ 8) (n % 2 ^ 8) ++ codes "/" ++ decimal width
net4_shown n width octets small is =
    ap (λ o. ipv4_text o ++ 47 ∷ decimal width) is ∙ ap (λ t. t ++ 47 ∷ decimal width) (octets_shown n small) ∙ sym (append_assoc _ (47 ∷ []) (decimal width))

same_eight : (a b c d e f g h a' b' c' d' e' f' g' h' : ℕ) → a ≡ a' → b ≡ b' → c ≡ c' → d ≡ d' → e ≡ e' → f ≡ f' → g ≡ g' → h ≡ h' → a ∷ b ∷ c ∷ d ∷ e ∷ f ∷ g ∷ h ∷ [] ≡ a' ∷ b' ∷ c' ∷ d' ∷ e' ∷ f' ∷ g' ∷ h' ∷ []
same_eight a b c d e f g h a' b' c' d' e' f' g' h' p q r s t u v w = rw (p, q, r, s, t, u, v, w) refl

groups_shown : (n : ℕ) → n < 2 ^ 128 → quarters (n / 2 ^ 64) ++ quarters (n % 2 ^ 64) ≡ groups_of n
groups_shown n small = same_eight _ _ _ _ _ _ _ _ _ _ _ _ _ _ _ _ (omega arith) (omega arith) (omega arith) refl (omega arith) (omega arith) (omega arith) (omega arith)

halves_joined : (h l : ℕ) → groups_text (quarters h) ++ 58 ∷ groups_text (quarters l) ≡ groups_text (quarters h ++ quarters l)
halves_joined h l = simp append_assoc

pub groups_joined : (n : ℕ) → n < 2 ^ 128 → groups_text (quarters (n / 2 ^ 64)) ++ 58 ∷ groups_text (quarters (n % 2 ^ 64)) ≡ groups_text (groups_of n)
groups_joined n small = halves_joined (n / 2 ^ 64) (n % 2 ^ 64) ∙ ap groups_text (groups_shown n small)

pub net6_shown : (n width : ℕ) (high low : List ℕ) → n < 2 ^ 128 → high ≡ groups_text (quarters (n / 2 ^ 64)) → low ≡ groups_text (quarters (n % 2 ^ 64)) → high ++ 58 ∷ (low ++ 47 ∷ decimal width) ≡ groups_text (groups_of n) ++ codes "/" ++ decimal width
net6_shown n width high low small h l =
    sym (append_assoc high (58 ∷ low) (47 ∷ decimal width))
    ∙ ap (λ t. t ++ 47 ∷ decimal width) (rw (h, l) (groups_joined n small))
    ∙ sym (append_assoc (groups_text (groups_of n)) (47 ∷ []) (decimal width))
