-- Addresses with the bits past a width cleared.
use Rattle.std.proofs.Common.{◌≡◌, ℕ, ◌+◌, ◌-◌, ◌*◌, ◌/◌, ◌^◌, ◌<◌, ◌≤◌, false, ◌==◌, nat_le, ◌&&◌, refl, sym, ap, subst, ◌∙◌, inl, inr, arith}
use Rattle.std.proofs.lemmas.Nat.{pow_pos, pow-add, pow_below, shl-shr, shr-shr, shr_split, shr_below, mul-add-lt, div-mul-add}
use Rattle.std.proofs.lemmas.Bool.{leb-false, eqb-true, ne_eqb, and_cases, cases_Bool}
use Rattle.oc2_nets.specs.Bits.{cleared, IsCleared}

clear_twice : (x k j : ℕ) → x / 2 ^ k * 2 ^ k / 2 ^ (k + j) ≡ x / 2 ^ (k + j)
clear_twice x k j = sym (shr-shr (x / 2 ^ k * 2 ^ k) k j) ∙ ap (λ n. n / 2 ^ j) (shl-shr (x / 2 ^ k) k) ∙ shr-shr x k j

-- what is cleared past a width has the same bits up to a smaller one
cleared_less : (length x v w : ℕ) → w ≤ v → v ≤ length → cleared length (cleared length x v) w ≡ cleared length x w
cleared_less length x v w less fits =
    let host : (length - v) + (v - w) ≡ length - w = omega arith in
    subst (λ h. x / 2 ^ (length - v) * 2 ^ (length - v) / 2 ^ h * 2 ^ h ≡ x / 2 ^ h * 2 ^ h) host
    (ap (λ n. n * 2 ^ ((length - v) + (v - w))) (clear_twice x (length - v) (v - w)))

-- an address of the inner net lies in the outer one
pub lies_wider : (length x bits v outer w : ℕ) → w ≤ v → v ≤ length → cleared length x v ≡ bits → cleared length bits w ≡ outer → cleared length x w ≡ outer
lies_wider length x bits v outer w less fits inside within =
    sym (cleared_less length x v w less fits) ∙ ap (λ b. cleared length b w) inside ∙ within

pub cleared_same : (length bits v : ℕ) → IsCleared length bits v → cleared length bits v ≡ bits
cleared_same length bits v h = omega (arith, shr_split bits (length - v), h)

-- an address of the inner net that does not lie in the outer one
pub record Outside (length bits v outer w : ℕ) : Type 0 where
  pub address : ℕ
  pub fits : address < 2 ^ length
  pub inside : cleared length address v ≡ bits
  pub outside : (cleared length address w == outer) ≡ false

whole : (y k : ℕ) → y * 2 ^ k / 2 ^ k * 2 ^ k ≡ y * 2 ^ k
whole y k = ap (λ n. n * 2 ^ k) (shl-shr y k)

-- the multiples of a power of two and of half of it
halves : (q j k : ℕ) → q * 2 ^ ((j + 1) + k) + 2 ^ (j + k) ≡ (q * 2 ^ (j + 1) + 2 ^ j) * 2 ^ k
halves q j k = omega (arith, ap (λ n. q * n) (pow-add 2 (j + 1) k), pow-add 2 j k)

multiple : (q j k : ℕ) → q * 2 ^ ((j + 1) + k) ≡ q * 2 ^ (j + 1) * 2 ^ k
multiple q j k = omega (arith, ap (λ n. q * n) (pow-add 2 (j + 1) k))

-- half of the net further, at any width past that of the net
half_further : (v j k q : ℕ) → q * 2 ^ ((j + 1) + k) < 2 ^ (v + ((j + 1) + k))
    → (q * 2 ^ ((j + 1) + k) + 2 ^ (j + k) < 2 ^ (v + ((j + 1) + k))) × ((q * 2 ^ ((j + 1) + k) + 2 ^ (j + k)) / 2 ^ ((j + 1) + k) ≡ q)
half_further v j k q h =
    let less : 2 ^ (j + k) < 2 ^ ((j + 1) + k) = pow_below (j + k) ((j + 1) + k) (omega arith) in
    let top : q < 2 ^ v = subst (λ n. n < 2 ^ v) (shl-shr q ((j + 1) + k)) (shr_below (q * 2 ^ ((j + 1) + k)) v ((j + 1) + k) h) in
    (omega (arith, mul-add-lt q (2 ^ ((j + 1) + k)) (2 ^ (j + k)) (2 ^ v) top less, pow-add 2 v ((j + 1) + k)), div-mul-add q (2 ^ ((j + 1) + k)) (2 ^ (j + k)) less)

-- the second half of a net is outside a narrower net that has the first address
second_half : (length bits v outer w q j k : ℕ) → v + ((j + 1) + k) ≡ length → length - v ≡ (j + 1) + k → length - w ≡ k → q * 2 ^ ((j + 1) + k) ≡ bits → bits < 2 ^ length → cleared length bits w ≡ outer
    → Outside length bits v outer w
second_half length bits v outer w q j k all host_v host_w is fits same =
    let x = q * 2 ^ ((j + 1) + k) + 2 ^ (j + k) in
    let top : q * 2 ^ ((j + 1) + k) < 2 ^ (v + ((j + 1) + k)) = subst (λ n. q * 2 ^ ((j + 1) + k) < 2 ^ n) (sym all) (subst (λ n. n < 2 ^ length) (sym is) fits) in
    let far = half_further v j k q top in
    let kept : x / 2 ^ k * 2 ^ k ≡ x = subst (λ n. n / 2 ^ k * 2 ^ k ≡ n) (sym (halves q j k)) (whole (q * 2 ^ (j + 1) + 2 ^ j) k) in
    let first : bits / 2 ^ k * 2 ^ k ≡ bits = subst (λ n. n / 2 ^ k * 2 ^ k ≡ n) (sym (multiple q j k) ∙ is) (whole (q * 2 ^ (j + 1)) k) in
    let outer_is : bits ≡ outer = sym first ∙ subst (λ n. bits / 2 ^ n * 2 ^ n ≡ outer) host_w same in
    record {
      address = x;
      fits = subst (λ n. x < 2 ^ n) all far.0;
      inside = subst (λ n. x / 2 ^ n * 2 ^ n ≡ bits) (sym host_v) (ap (λ n. n * 2 ^ ((j + 1) + k)) far.1 ∙ is);
      outside = subst (λ n. (x / 2 ^ n * 2 ^ n == outer) ≡ false) (sym host_w)
          (ne_eqb (x / 2 ^ k * 2 ^ k) outer (λ e. absurd (omega (arith, e, kept, outer_is, is, pow_pos (j + k)))));
    }

-- the first address of a net, where the outer net has it not
first_out : (length bits v outer w : ℕ) → IsCleared length bits v → bits < 2 ^ length → (cleared length bits w == outer) ≡ false → Outside length bits v outer w
first_out length bits v outer w h fits out = record { address = bits; fits = fits; inside = cleared_same length bits v h; outside = out }

narrower : (length bits v outer w : ℕ) → v < w → w ≤ length → IsCleared length bits v → bits < 2 ^ length → cleared length bits w ≡ outer → Outside length bits v outer w
narrower length bits v outer w less most h fits same =
    let host : length - v ≡ ((w - v - 1) + 1) + (length - w) = omega arith in
    second_half length bits v outer w (bits / 2 ^ (length - v)) (w - v - 1) (length - w) (omega arith) host refl
    (subst (λ n. bits / 2 ^ (length - v) * 2 ^ n ≡ bits) host (cleared_same length bits v h)) fits same

-- where a net is not within another, an address shows it
pub outside : (length bits v outer w : ℕ) → v ≤ length → w ≤ length → IsCleared length bits v → bits < 2 ^ length → (nat_le w v && (cleared length bits w == outer)) ≡ false → Outside length bits v outer w
outside length bits v outer w fits_v fits_w h fits not_within =
    elim (and_cases (nat_le w v) (cleared length bits w == outer) not_within) [
      | inl wide ↦
          elim (cases_Bool (cleared length bits w == outer)) [
            | inl same ↦ narrower length bits v outer w (leb-false w v wide) fits_w h fits (eqb-true (cleared length bits w) outer same)
            | inr out ↦ first_out length bits v outer w h fits out
          ]
      | inr out ↦ first_out length bits v outer w h fits out
    ]
