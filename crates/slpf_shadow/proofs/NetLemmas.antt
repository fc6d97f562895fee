-- Nets within nets.
use Rattle.std.proofs.Common.{◌≡◌, ℕ, ◌*◌, ◌/◌, ◌^◌, ◌<◌, true, false, nat_le, refl, ap, ◌∙◌, arith}
use Rattle.std.proofs.lemmas.Bool.{leb-true, eqb-true, eq-eqb, and_parts, false≢true}
use Rattle.std.proofs.lemmas.Nat.{div_below}
use Rattle.oc2_nets.specs.declared.packets.Address.{Address}
use Rattle.oc2_nets.specs.declared.packets.Address.TheVariants as address
use Rattle.oc2_nets.specs.Families.{is_v4}
use Rattle.slpf_rules.specs.declared.any_nets.AnyNet.{AnyNet}
use Rattle.slpf_rules.specs.declared.any_nets.AnyNet.TheVariants.{V4, V6}
use Rattle.slpf_rules.specs.Deciding.{lies_in}
use Rattle.slpf_shadow.specs.Packets.{IsAddress}
use Rattle.slpf_shadow.specs.Nets.{first_address, whole_family, net_within}
use Rattle.slpf_shadow.proofs.Clearing.{lies_wider, cleared_same, outside}

-- each address of a net lies in the nets that it is within
pub net_within-sound : (inner outer : AnyNet) (a : Address) → net_within inner outer ≡ true → lies_in a inner ≡ true → lies_in a outer ≡ true
net_within-sound (V4 inner) (V4 outer) (address.V4 x) within lies =
    let parts = and_parts _ _ within in
    eq-eqb _ _ (lies_wider 32 x inner.bits inner.width outer.bits outer.width (leb-true _ _ parts.0) inner.in_range (eqb-true _ _ lies) (eqb-true _ _ parts.1))
net_within-sound (V4 inner) (V4 outer) (address.V6 x) within lies = cc
net_within-sound (V4 inner) (V6 outer) a within lies = absurd (false≢true (and_parts (nat_le outer.width inner.width) false within).1)
net_within-sound (V6 inner) (V4 outer) a within lies = absurd (false≢true (and_parts (nat_le outer.width inner.width) false within).1)
net_within-sound (V6 inner) (V6 outer) (address.V4 x) within lies = cc
net_within-sound (V6 inner) (V6 outer) (address.V6 x) within lies =
    let parts = and_parts _ _ within in
    eq-eqb _ _ (lies_wider 128 x inner.bits inner.width outer.bits outer.width (leb-true _ _ parts.0) inner.in_range (eqb-true _ _ lies) (eqb-true _ _ parts.1))

pub first_lies : (net : AnyNet) → lies_in (first_address net) net ≡ true
first_lies (V4 net) = eq-eqb _ _ (cleared_same 32 net.bits net.width net.host_bits)
first_lies (V6 net) = eq-eqb _ _ (cleared_same 128 net.bits net.width net.host_bits)

-- an address of the inner net that does not lie in the outer one
pub record Leaves (inner outer : AnyNet) : Type 0 where
  pub address : Address
  pub fits : IsAddress address
  pub inside : lies_in address inner ≡ true
  pub outside : lies_in address outer ≡ false

-- where a net is not within another, an address shows it
pub net_within-complete : (inner outer : AnyNet) → IsAddress (first_address inner) → net_within inner outer ≡ false → Leaves inner outer
net_within-complete (V4 inner) (V4 outer) fits h =
    let out = outside 32 inner.bits inner.width outer.bits outer.width inner.in_range outer.in_range inner.host_bits fits h in
    record { address = address.V4 out.address; fits = out.fits; inside = eq-eqb _ _ out.inside; outside = out.outside }
net_within-complete (V6 inner) (V6 outer) fits h =
    let out = outside 128 inner.bits inner.width outer.bits outer.width inner.in_range outer.in_range inner.host_bits fits h in
    record { address = address.V6 out.address; fits = out.fits; inside = eq-eqb _ _ out.inside; outside = out.outside }
net_within-complete (V4 inner) (V6 outer) fits h = record { address = first_address (V4 inner); fits = fits; inside = first_lies (V4 inner); outside = refl }
net_within-complete (V6 inner) (V4 outer) fits h = record { address = first_address (V6 inner); fits = fits; inside = first_lies (V6 inner); outside = refl }

-- an address has the family of the net in which it lies
pub family_of : (a : Address) (net : AnyNet) → lies_in a net ≡ true → is_v4 a ≡ is_v4 (first_address net)
family_of (address.V4 x) (V4 net) h = refl
family_of (address.V4 x) (V6 net) h = cc
family_of (address.V6 x) (V4 net) h = cc
family_of (address.V6 x) (V6 net) h = refl

pub below_all : (x n : ℕ) → x < n → x / n * n ≡ 0
below_all x n h =
    let none : x / n ≡ 0 = omega (arith, div_below x n 1 (omega arith) (omega arith)) in
    ap (λ q. q * n) none ∙ (let zero : 0 * n ≡ 0 = omega arith in zero)

-- each address of the family lies in the net of all of them
pub whole_lies : (a : Address) (net : AnyNet) → IsAddress a → is_v4 a ≡ is_v4 (first_address net) → lies_in a (whole_family net) ≡ true
whole_lies (address.V4 x) (V4 net) fits h = eq-eqb _ _ (below_all x (2 ^ 32) fits)
whole_lies (address.V4 x) (V6 net) fits h = cc
whole_lies (address.V6 x) (V4 net) fits h = cc
whole_lies (address.V6 x) (V6 net) fits h = eq-eqb _ _ (below_all x (2 ^ 128) fits)
