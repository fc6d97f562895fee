-- Nets of each width round an address.
use Rattle.std.proofs.Common.{◌≡◌, ℕ, ◌+◌, ◌≤◌, min, Bool, true, false, ◌==◌, nat_lt, ◌||◌, ◌&&◌, Option, Some, None, is_none, nat_cmp, refl, sym, ap, subst, ◌∙◌, arith}
use Rattle.std.specs.Ordering.{is_eq, ordering_then}
use Rattle.std.proofs.lemmas.Bool.Decides.{nat_tests}
use Rattle.std.proofs.lemmas.Cmp.{ranked, by_ranked}
use Rattle.oc2_nets.specs.declared.flows.Flow.{Flow}
use Rattle.oc2_nets.specs.declared.flows.Flow.TheVariants as flow
use Rattle.oc2_nets.specs.declared.packets.Address.{Address}
use Rattle.oc2_nets.specs.declared.packets.Address.TheVariants as address
use Rattle.oc2_nets.specs.declared.packets.Packet.{Packet}
use Rattle.oc2_nets.specs.Bits.{cleared}
use Rattle.oc2_nets.specs.Nets.{net4, net6, lies4, lies6}
use Rattle.oc2_nets.specs.Flows.{covers}
use Rattle.slpf_rules.specs.declared.any_nets.AnyNet.{AnyNet}
use Rattle.slpf_rules.specs.declared.any_nets.AnyNet.TheVariants.{V4, V6}
use Rattle.slpf_rules.specs.declared.rules.Rule.{Rule}
use Rattle.slpf_rules.specs.AnyNets.{bits, width}
use Rattle.slpf_rules.specs.Filed.{source_net, destination_net, is_net, is_unfiled}
use Rattle.slpf_rules.specs.Verdicts.{decides}
use Rattle.slpf_rules.specs.Deciding.{lies_in, holds, holds_below}
use Rattle.slpf_rules.proofs.NumberTests.{lt_is, not_lt_is, eq_is, differs, apart_from}
use Rattle.slpf_rules.proofs.Rising.{split}

pub holds_below-zero : (a : Address) (o : Option AnyNet) → holds_below 0 a o ≡ false
holds_below-zero a None = refl
holds_below-zero a (Some net) = ap (λ b. b && lies_in a net) (not_lt_is (width net) 0 (omega arith))

-- ---- one width more

and_false : (a b : Bool) → b ≡ false → (a && b) ≡ false
and_false true b h = h
and_false false b h = refl

or_false : (a b : Bool) → b ≡ false → a ≡ (a || b)
or_false true b h = refl
or_false false b h = sym h

is_eq_same : (w v : ℕ) → is_eq (nat_cmp w v) ≡ (w == v)
is_eq_same w v = grind (arith, nat_tests)

and_true : (a b : Bool) → b ≡ true → a ≡ (a && b)
and_true true b h = sym h
and_true false b h = refl

at_width : (c : ℕ → ℕ) (b n : ℕ) → (nat_lt n (n + 1) && (c n == b)) ≡ ((nat_lt n n && (c n == b)) || ((c n == b) && (n == n)))
at_width c b n =
    ap (λ t. t && (c n == b)) (lt_is n (n + 1) (omega arith))
    ∙ and_true (c n == b) (n == n) (eq_is n n refl)
    ∙ sym (ap (λ t. (t && (c n == b)) || ((c n == b) && (n == n))) (not_lt_is n n (omega arith)))

same_or_above : (c : ℕ → ℕ) (b w n : ℕ) → n ≤ w → (nat_lt w (n + 1) && (c w == b)) ≡ ((nat_lt w n && (c w == b)) || ((c n == b) && (n == w)))
same_or_above c b w n ge =
    split n w
    (λ lt.
    ap (λ t. t && (c w == b)) (not_lt_is w (n + 1) (omega arith))
    ∙ sym (and_false (c n == b) (n == w) (apart_from n w lt))
    ∙ sym (ap (λ t. (t && (c w == b)) || ((c n == b) && (n == w))) (not_lt_is w n ge)))
    (λ le.
    let same : n ≡ w = omega arith in
    subst (λ k. (nat_lt k (n + 1) && (c k == b)) ≡ ((nat_lt k n && (c k == b)) || ((c n == b) && (n == k)))) same (at_width c b n))

pub equal_parts : (b nb w nw : ℕ) → is_eq (ordering_then (nat_cmp b nb) (nat_cmp w nw)) ≡ ((b == nb) && (w == nw))
equal_parts b nb w nw =
    by_ranked _ _ _ (nat_cmp b nb) (ranked b nb (nat_cmp b nb) refl)
    (λ is lt. ap (λ o. is_eq (ordering_then o (nat_cmp w nw))) is ∙ sym (ap (λ t. t && (w == nw)) (apart_from b nb lt)))
    (λ is eq. ap (λ o. is_eq (ordering_then o (nat_cmp w nw))) is ∙ is_eq_same w nw ∙ sym (ap (λ t. t && (w == nw)) (eq_is b nb eq)))
    (λ is gt. ap (λ o. is_eq (ordering_then o (nat_cmp w nw))) is ∙ sym (ap (λ t. t && (w == nw)) (differs b nb gt)))

-- the nets of a width below the next: those of a width below this one, and those of this one
one_more : (c : ℕ → ℕ) (b w n : ℕ) → (nat_lt w (n + 1) && (c w == b)) ≡ ((nat_lt w n && (c w == b)) || ((c n == b) && (n == w)))
one_more c b w n =
    split w n
    (λ lt.
    ap (λ t. t && (c w == b)) (lt_is w (n + 1) (omega arith))
    ∙ or_false (c w == b) ((c n == b) && (n == w)) (and_false (c n == b) (n == w) (differs n w lt))
    ∙ sym (ap (λ t. (t && (c w == b)) || ((c n == b) && (n == w))) (lt_is w n lt)))
    (λ ge. same_or_above c b w n ge)

pub holds_below-more4 : (n bits : ℕ) (o : Option AnyNet) → n ≤ 32 → holds_below (n + 1) (address.V4 bits) o ≡ (holds_below n (address.V4 bits) o || is_net (V4 (net4 bits n)) o)
holds_below-more4 n bits None h = refl
holds_below-more4 n bits (Some (V6 net)) h = and_false (nat_lt net.width (n + 1)) false refl ∙ sym (ap (λ b. b || false) (and_false (nat_lt net.width n) false refl))
holds_below-more4 n bits (Some (V4 net)) h =
    let c = cleared 32 bits in
    let width : min n 32 ≡ n = omega arith in
    one_more c net.bits net.width n
    ∙ ap (λ b. (nat_lt net.width n && (c net.width == net.bits)) || b)
    (sym (equal_parts (c n) net.bits n net.width) ∙ ap (λ w. is_eq (ordering_then (nat_cmp (c w) net.bits) (nat_cmp w net.width))) (sym width))

pub holds_below-more6 : (n bits : ℕ) (o : Option AnyNet) → n ≤ 128 → holds_below (n + 1) (address.V6 bits) o ≡ (holds_below n (address.V6 bits) o || is_net (V6 (net6 bits n)) o)
holds_below-more6 n bits None h = refl
holds_below-more6 n bits (Some (V4 net)) h = and_false (nat_lt net.width (n + 1)) false refl ∙ sym (ap (λ b. b || false) (and_false (nat_lt net.width n) false refl))
holds_below-more6 n bits (Some (V6 net)) h =
    let c = cleared 128 bits in
    let width : min n 128 ≡ n = omega arith in
    one_more c net.bits net.width n
    ∙ ap (λ b. (nat_lt net.width n && (c net.width == net.bits)) || b)
    (sym (equal_parts (c n) net.bits n net.width) ∙ ap (λ w. is_eq (ordering_then (nat_cmp (c w) net.bits) (nat_cmp w net.width))) (sym width))

-- ---- every width

pub holds_below-all4 : (bits : ℕ) (o : Option AnyNet) → holds_below 33 (address.V4 bits) o ≡ holds (address.V4 bits) o
holds_below-all4 bits None = refl
holds_below-all4 bits (Some (V4 net)) = ap (λ b. b && lies4 net (address.V4 bits)) (lt_is net.width 33 (omega (arith, net.in_range)))
holds_below-all4 bits (Some (V6 net)) = and_false (nat_lt net.width 33) false refl

pub holds_below-all6 : (bits : ℕ) (o : Option AnyNet) → holds_below 129 (address.V6 bits) o ≡ holds (address.V6 bits) o
holds_below-all6 bits None = refl
holds_below-all6 bits (Some (V6 net)) = ap (λ b. b && lies6 net (address.V6 bits)) (lt_is net.width 129 (omega (arith, net.in_range)))
holds_below-all6 bits (Some (V4 net)) = and_false (nat_lt net.width 129) false refl

-- ---- a rule that covers a packet is found

-- whether it stands in neither map, or under a net that holds the packet's source or destination
abbrev pub is_found : Packet → Rule → Bool
is_found packet rule =
    is_unfiled rule || (holds packet.from (source_net rule.flow) || holds packet.to (destination_net rule.flow))

and_left : (a b : Bool) → (a && b) ≡ true → a ≡ true
and_left true b h = refl
and_left false b h = cc

and_right : (a b : Bool) → (a && b) ≡ true → b ≡ true
and_right true b h = h
and_right false b h = cc

or_more : (a b : Bool) → a ≡ true → (a || b) ≡ true
or_more true b h = refl
or_more false b h = cc

found_flow : (packet : Packet) (f : Flow) → covers f packet ≡ true → ((is_none (source_net f) && is_none (destination_net f)) || (holds packet.from (source_net f) || holds packet.to (destination_net f))) ≡ true
found_flow packet (flow.Net4 net) h = h
found_flow packet (flow.Net6 net) h = h
found_flow packet (flow.Conn4 protocol None src_port None dst_port) h = refl
found_flow packet (flow.Conn4 protocol None src_port (Some dst) dst_port) h = and_right _ _ (and_left _ _ h)
found_flow packet (flow.Conn4 protocol (Some src) src_port dst dst_port) h =
    or_more (lies4 src packet.from) false (and_right _ _ (and_left _ _ (and_left _ _ (and_left _ _ h))))
found_flow packet (flow.Conn6 protocol None src_port None dst_port) h = refl
found_flow packet (flow.Conn6 protocol None src_port (Some dst) dst_port) h = and_right _ _ (and_left _ _ h)
found_flow packet (flow.Conn6 protocol (Some src) src_port dst dst_port) h =
    or_more (lies6 src packet.from) false (and_right _ _ (and_left _ _ (and_left _ _ (and_left _ _ h))))

and_implied : (a b : Bool) → (b ≡ true → a ≡ true) → (a && b) ≡ b
and_implied true b h = refl
and_implied false true h = h refl
and_implied false false h = refl

-- so the rules that are found are all that decide
pub found_decides : (packet : Packet) (moment : ℕ) (rule : Rule) → (is_found packet rule && decides packet moment rule) ≡ decides packet moment rule
found_decides packet moment rule = and_implied (is_found packet rule) (decides packet moment rule) (λ h. found_flow packet rule.flow (and_right _ _ h))
