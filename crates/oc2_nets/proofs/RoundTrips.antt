-- Reading gives back what was printed.
use Rattle.std.proofs.Common.{◌≡◌, ◌≢◌, ◌<◌, ◌≤◌, ◌+◌, ◌/◌, ◌%◌, ◌^◌, ℕ, zero, suc, true, false, List, [], ◌∷◌, ◌++◌, Some, decimal, length, refl, sym, ap, ◌∙◌, arith, append_assoc, codes, inl, lit≤, lit<, append-nil, eqb, eq-eqb, Bool}
use Rattle.std.specs.List.{AllByRecursion}
use Rattle.std.proofs.lemmas.Bool.{cond_both}
use Rattle.std.proofs.lemmas.Nat.{div_below}
use Rattle.std.proofs.Math.Nat.{pow-suc}
use Rattle.std.specs.Fmt.{digits, digits_onto, digit_glyph}
use Rattle.std.specs.Int.Digits.{number_from_digits}
use Rattle.std.specs.Net.Text.{dotted_text}
use Rattle.std.specs.Net.Grammar.{IsGroup, IsGroupsAfter, IsGroups}
use Rattle.std.proofs.lemmas.Fmt.{digits_is_IsNumeral}
use Rattle.oc2_nets.specs.declared.ipv4_nets.Net4.{Net4}
use Rattle.oc2_nets.specs.declared.ipv6_nets.Net6.{Net6}
use Rattle.oc2_nets.specs.Texts.{parts}
use Rattle.oc2_nets.specs.Ipv4.{address4}
use Rattle.oc2_nets.specs.Ipv6.{address6}
use Rattle.oc2_nets.specs.Nets.{split_width, net4_of, net6_of, net4_text, net6_text, hex, groups_of, groups_text}
use Rattle.base_decimals.proofs.Decimals.{number_some}
use Rattle.oc2_nets.proofs.TextParts.{Lacks, Lacks-append, parts_one, parts_more}
use Rattle.oc2_nets.proofs.Ipv4Lemmas.{decimal_lacks, address4_some}
use Rattle.oc2_nets.proofs.Ipv6Groups.{groups_lack, groups_plain, colon}
use Rattle.oc2_nets.proofs.AddressBits.{address6_some}
use Rattle.oc2_nets.proofs.SameNets.{net4_again, net6_again}

-- a text, a slash and a width
with_slash : (most width : ℕ) (text : List ℕ) → most < 2 ^ 64 → width ≤ most → Lacks 47 text → split_width most (parts 47 (text ++ codes "/" ++ decimal width)) ≡ Some (text, width)
with_slash most width text small fits lacks =
    ap (λ t. split_width most (parts 47 t)) (append_assoc text (47 ∷ []) (decimal width))
    ∙ ap (split_width most) (parts_more 47 text (decimal width) lacks ∙ ap (λ ps. text ∷ ps) (parts_one 47 (decimal width) (decimal_lacks 47 width (omega arith) (λ h. absurd (omega arith)))))
    ∙ rw (number_some most width (decimal width) fits small refl) refl

no_slash : (n : ℕ) → n < 256 → Lacks 47 (decimal n)
no_slash n fits = decimal_lacks 47 n (omega arith) (λ h. absurd (omega arith))

one_lacks : (c d : ℕ) → d ≢ c → Lacks c (d ∷ [])
one_lacks c d other zero h = other
one_lacks c d other (suc i) h = absurd (omega arith)

dotted_lacks : (a b c d : ℕ) → a < 256 → b < 256 → c < 256 → d < 256 → Lacks 47 (dotted_text a b c d)
dotted_lacks a b c d fa fb fc fd =
    let dot : Lacks 47 (46 ∷ []) = one_lacks 47 46 (omega arith) in
    let first = Lacks-append 47 _ _ (Lacks-append 47 _ _ (no_slash a fa) dot) (no_slash b fb) in
    let second = Lacks-append 47 _ _ (Lacks-append 47 _ _ first dot) (no_slash c fc) in
    Lacks-append 47 _ _ (Lacks-append 47 _ _ second dot) (no_slash d fd)

dotted_address : (n : ℕ) → n < 2 ^ 32 → address4 (dotted_text (n / 2 ^ 24) (n / 2 ^ 16 % 2 ^ 8) (n / 2 ^ 8 % 2 ^ 8) (n % 2 ^ 8)) ≡ Some n
dotted_address n small =
    let a = n / 2 ^ 24 in
    let b = n / 2 ^ 16 % 2 ^ 8 in
    let c = n / 2 ^ 8 % 2 ^ 8 in
    let d = n % 2 ^ 8 in
    address4_some _ (a ∷ b ∷ c ∷ d ∷ []) (record { a = a; b = b; c = c; d = d; fit = (omega arith, omega arith, omega arith, omega arith); value = refl; spelled = refl })
    ∙ ap Some (omega arith)

pub net4_back : (net : Net4) → net.bits < 2 ^ 32 → net4_of (net4_text net) ≡ Some net
unfolding net4_of
net4_back net small =
    let n = net.bits in
    let lacks = dotted_lacks (n / 2 ^ 24) (n / 2 ^ 16 % 2 ^ 8) (n / 2 ^ 8 % 2 ^ 8) (n % 2 ^ 8) (omega arith) (omega arith) (omega arith) (omega arith) in
    let cut = with_slash 32 net.width (dotted_text (n / 2 ^ 24) (n / 2 ^ 16 % 2 ^ 8) (n / 2 ^ 8 % 2 ^ 8) (n % 2 ^ 8)) (lit< tt) net.in_range lacks in
    rw (cut, dotted_address n small)
    (ap Some (net4_again net))

-- ---- IPv6

-- a number below 16 ^ (j + 1) has at most j + 1 hexadecimal digits
onto_short : (k j n : ℕ) (acc : List ℕ) → n < 16 ^ suc j → length (digits_onto k 16 false n acc) ≤ suc j + length acc
onto_short zero j n acc small = omega arith
onto_short (suc k) zero n acc small =
    let small16 : n < 16 = small in
    rw (eq-eqb (n / 16) 0 (omega arith)) (omega arith)
onto_short (suc k) (suc j) n acc small =
    cond_both (eqb (n / 16) 0) _ _ (λ (t : List ℕ). length t ≤ suc (suc j) + length acc)
    (λ _. omega arith)
    (λ _. let later = onto_short k j (n / 16) (digit_glyph false (n % 16) ∷ acc) (div_below n 16 (16 ^ suc j) (omega arith) (rw pow-suc at small)) in omega (arith, later))

hex_short : (n : ℕ) → n < 65536 → length (hex n) ≤ 4
unfolding digits
hex_short n small = omega (arith, onto_short 64 3 n [] small)

hex_group : (n : ℕ) → n < 65536 → IsGroup (hex n) n
hex_group n small =
    let bound : 65536 ≤ 16 ^ 64 = lit≤ tt in
    (digits_is_IsNumeral 16 false (lit≤ tt) (lit≤ tt) n (omega arith), hex_short n small)

AllBelow : List ℕ → Type 0
AllBelow gs = AllByRecursion (λ g. g < 65536) gs

printed : (ipv4 : Bool) (gs : List ℕ) (g : ℕ) (lead : List ℕ) → AllBelow (g ∷ gs) → IsGroupsAfter ipv4 lead (lead ++ groups_text (g ∷ gs)) (g ∷ gs)
unfolding AllBelow
printed ipv4 [] g lead fit = inl (hex g, [], sym (append-nil (lead ++ hex g)), hex_group g fit.0, refl)
printed ipv4 (r ∷ gs) g lead fit =
    inl (hex g, 58 ∷ groups_text (r ∷ gs), sym (append_assoc lead (hex g) _), hex_group g fit.0, printed ipv4 gs r (58 ∷ []) fit.1)

all_printed : (ipv4 : Bool) (gs : List ℕ) → AllBelow gs → IsGroups ipv4 (groups_text gs) gs
all_printed ipv4 [] fit = refl
all_printed ipv4 (g ∷ gs) fit = printed ipv4 gs g [] fit

groups_fit : (n : ℕ) → AllBelow (groups_of n)
unfolding AllBelow
groups_fit n = (omega arith, (omega arith, (omega arith, (omega arith, (omega arith, (omega arith, (omega arith, (omega arith, tt))))))))

bits_again : (n : ℕ) → n < 2 ^ 128 → number_from_digits 65536 (groups_of n) ≡ n
bits_again n small = omega arith

slash_apart : Lacks 47 colon
slash_apart = one_lacks 47 58 (omega arith)

printed_address : (n : ℕ) → n < 2 ^ 128 → address6 (groups_text (groups_of n)) ≡ Some n
printed_address n small =
    let text = groups_text (groups_of n) in
    let plain : Lacks 46 text = groups_plain [] text (groups_of n) (λ i h. absurd (omega arith)) (all_printed false (groups_of n) (groups_fit n)) in
    address6_some text (groups_of n) (inl (all_printed true (groups_of n) (groups_fit n), refl)) plain ∙ ap Some (bits_again n small)

pub net6_back : (net : Net6) → net.bits < 2 ^ 128 → net6_of (net6_text net) ≡ Some net
unfolding net6_of
net6_back net small =
    let text = groups_text (groups_of net.bits) in
    let spelled : IsGroups false text (groups_of net.bits) = all_printed false (groups_of net.bits) (groups_fit net.bits) in
    let lacks : Lacks 47 text = groups_lack 47 (lit≤ tt) slash_apart [] text (groups_of net.bits) (λ i h. absurd (omega arith)) spelled in
    let cut = with_slash 128 net.width text (lit< tt) net.in_range lacks in
    rw (cut, printed_address net.bits small)
    (ap Some (net6_again net))
