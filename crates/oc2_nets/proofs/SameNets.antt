-- Nets with the same bits and width are one, and so are a net and that of its bits and width.
use Rattle.std.proofs.Common.{◌≡◌, ◌≤◌, ◌-◌, ◌%◌, ◌^◌, ℕ, min, subst, arith}
use Rattle.std.specs.Coded.{le_prop, Coded-set, coded_ℕ}
use Rattle.std.proofs.lemmas.Nat.{shr_split}
use Rattle.oc2_nets.specs.declared.ipv4_nets.Net4.{Net4}
use Rattle.oc2_nets.specs.declared.ipv6_nets.Net6.{Net6}
use Rattle.oc2_nets.specs.Bits.{cleared, IsCleared}
use Rattle.oc2_nets.specs.Nets.{net4, net6}

pub same_net4 : (m n : Net4) → m.bits ≡ n.bits → m.width ≡ n.width → m ≡ n
same_net4 m n b w =
    let Q : ℕ → ℕ → Type 0 = λ x y. (r : y ≤ 32) → (h : IsCleared 32 x y) → m ≡ record { bits = x; width = y; in_range = r; host_bits = h } in
    let start : Q m.bits m.width = λ r h i. record { bits = m.bits; width = m.width; in_range = le_prop m.in_range r i; host_bits = Coded-set coded_ℕ (m.bits % 2 ^ (32 - m.width)) 0 m.host_bits h i } in
    subst (λ x. Q x n.width) b (subst (λ y. Q m.bits y) w start) n.in_range n.host_bits

pub same_net6 : (m n : Net6) → m.bits ≡ n.bits → m.width ≡ n.width → m ≡ n
same_net6 m n b w =
    let Q : ℕ → ℕ → Type 0 = λ x y. (r : y ≤ 128) → (h : IsCleared 128 x y) → m ≡ record { bits = x; width = y; in_range = r; host_bits = h } in
    let start : Q m.bits m.width = λ r h i. record { bits = m.bits; width = m.width; in_range = le_prop m.in_range r i; host_bits = Coded-set coded_ℕ (m.bits % 2 ^ (128 - m.width)) 0 m.host_bits h i } in
    subst (λ x. Q x n.width) b (subst (λ y. Q m.bits y) w start) n.in_range n.host_bits

still_cleared : (most bits width : ℕ) → width ≤ most → IsCleared most bits width → cleared most bits (min width most) ≡ bits
still_cleared most bits width fits h =
    let same : min width most ≡ width = omega arith in
    rw same (omega (arith, shr_split bits (most - width), h))

pub net4_again : (net : Net4) → net4 net.bits net.width ≡ net
net4_again net = same_net4 (net4 net.bits net.width) net (still_cleared 32 net.bits net.width net.in_range net.host_bits) (omega (arith, net.in_range))

pub net6_again : (net : Net6) → net6 net.bits net.width ≡ net
net6_again net = same_net6 (net6 net.bits net.width) net (still_cleared 128 net.bits net.width net.in_range net.host_bits) (omega (arith, net.in_range))
