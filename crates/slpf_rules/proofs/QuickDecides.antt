-- What a rule says that stands alone under a net which holds an address.
use Rattle.std.proofs.Common.{◌≡◌, ℕ, ◌+◌, ◌≤◌, Bool, true, false, cond, ◌&&◌, ◌||◌, nat_le, nat_lt, List, [], ◌∷◌, filter, find, Option, Some, None, is_none, unwrap_or, refl, sym, ap, ap₂, subst, ◌∙◌, arith}
use Rattle.std.specs.Option.{option_map_or}
use Rattle.oc2_nets.specs.declared.flows.Flow.{Flow}
use Rattle.oc2_nets.specs.declared.flows.Flow.TheVariants as flow
use Rattle.oc2_msg.specs.declared.directions.Direction.{Direction}
use Rattle.oc2_nets.specs.declared.ipv4_nets.Net4.{Net4}
use Rattle.oc2_nets.specs.declared.ipv6_nets.Net6.{Net6}
use Rattle.oc2_nets.specs.declared.packets.Address.{Address}
use Rattle.oc2_nets.specs.declared.packets.Packet.{Packet}
use Rattle.oc2_nets.specs.Flows.{covers}
use Rattle.oc2_nets.specs.Nets.{lies4, lies6}
use Rattle.slpf_rules.specs.declared.any_nets.AnyNet.{AnyNet}
use Rattle.slpf_rules.specs.declared.any_nets.AnyNet.TheVariants.{V4, V6}
use Rattle.slpf_rules.specs.declared.rules.Rule.{Rule}
use Rattle.slpf_rules.specs.declared.slots.Slot.{Slot}
use Rattle.slpf_rules.specs.declared.slots6.Slot6.{Slot6}
use Rattle.slpf_rules.specs.declared.verdicts.Verdict.{Verdict}
use Rattle.slpf_rules.specs.AnyNets.{width}
use Rattle.slpf_rules.specs.Filed.{source_net, destination_net, is_net}
use Rattle.slpf_rules.specs.Filing.{IsIndexOf}
use Rattle.slpf_rules.specs.IndexEntries.{at}
use Rattle.slpf_rules.specs.Order.{IsRising}
use Rattle.slpf_rules.specs.Rules.{numbers, rule_at}
use Rattle.slpf_rules.specs.Verdicts.{has_direction, is_before_stop, decides, verdict_of}
use Rattle.slpf_rules.specs.Deciding.{holds, holds_below, lies_in, number_decides}
use Rattle.slpf_rules.specs.Slots.{is_of, said_if, said_by}
use Rattle.slpf_rules.specs.Quick.{is_of_net, is_lasting, IsAlone}
use Rattle.slpf_rules.specs.Slots6.{is_of6, said_by6}
use Rattle.slpf_rules.specs.Quick6.{IsAlone6}
use Rattle.slpf_rules.specs.Picking.{picked, NetsCover}
use Rattle.slpf_rules.proofs.Indexed.{files, unwrap_listed}
use Rattle.slpf_rules.proofs.QuickLemmas.{and_parts, le_from, le_is}
use Rattle.slpf_rules.proofs.Smallest.{EachRule, each_filter, found_each}

-- ---- nets cover

or_right : (a b : Bool) → b ≡ true → (a || b) ≡ true
or_right true b h = refl
or_right false b h = h

or_left : (a b : Bool) → a ≡ true → (a || b) ≡ true
or_left true b h = refl
or_left false b h = cc

pub sources_cover : (packet : Packet) → NetsCover source_net packet.from packet
sources_cover packet (flow.Net4 net) h k = or_left (lies4 net packet.from) (lies4 net packet.to) k
sources_cover packet (flow.Net6 net) h k = or_left (lies6 net packet.from) (lies6 net packet.to) k
sources_cover packet (flow.Conn4 protocol src src_port dst dst_port) h k = cc
sources_cover packet (flow.Conn6 protocol src src_port dst dst_port) h k = cc

pub destinations_cover : (packet : Packet) → NetsCover destination_net packet.to packet
destinations_cover packet (flow.Net4 net) h k = or_right (lies4 net packet.from) (lies4 net packet.to) k
destinations_cover packet (flow.Net6 net) h k = or_right (lies6 net packet.from) (lies6 net packet.to) k
destinations_cover packet (flow.Conn4 protocol src src_port dst dst_port) h k = cc
destinations_cover packet (flow.Conn6 protocol src src_port dst dst_port) h k = cc

holds_from_below : (n : ℕ) (a : Address) (o : Option AnyNet) → holds_below n a o ≡ true → holds a o ≡ true
holds_from_below n a None h = cc
holds_from_below n a (Some net) h = (and_parts (nat_lt (width net) n) (lies_in a net) h).1

-- the net of a width round an address holds it
pub holds_net : (n : ℕ) (a : Address) (net : AnyNet) (o : Option AnyNet) → holds_below (n + 1) a o ≡ (holds_below n a o || is_net net o) → is_net net o ≡ true → holds a o ≡ true
holds_net n a net o more h = holds_from_below (n + 1) a o (more ∙ or_right (holds_below n a o) (is_net net o) h)

-- ---- a rule that is alone

passes_if : (f : Rule → Bool) (b : Bool) (q : Rule) (rest : List Rule) → (b ≡ true → f q ≡ true) → EachRule (λ r. f r ≡ true) rest → EachRule (λ r. f r ≡ true) (cond b (q ∷ rest) rest)
passes_if f true q rest h w = (h refl, w)
passes_if f false q rest h w = w

passes_filter : (f : Rule → Bool) (rules : List Rule) → EachRule (λ r. f r ≡ true) (filter f rules)
passes_filter f [] = tt
passes_filter f (r ∷ rules) = passes_if f (f r) r (filter f rules) (λ h. h) (passes_filter f rules)

in_force_endless : (start since moment : ℕ) (stop : Option ℕ) → nat_le start since ≡ true → since ≤ moment → is_none stop ≡ true → (nat_le start moment && is_before_stop moment stop) ≡ true
in_force_endless start since moment None h le k = ap (λ b. b && true) (le_is start moment (omega (arith, le_from start since h, le)))
in_force_endless start since moment (Some s) h le k = cc

and_end : (b : Bool) → (b && true) ≡ b
and_end true = refl
and_end false = refl

-- a lasting rule decides where it has the direction
decides_by_direction : (packet : Packet) (since moment : ℕ) (rule : Rule) → is_lasting since rule ≡ true → since ≤ moment → (is_of_net rule.flow ≡ true → covers rule.flow packet ≡ true)
    → decides packet moment rule ≡ has_direction rule.direction packet.outward
decides_by_direction packet since moment rule lasting le covered =
    let outer = and_parts (is_of_net rule.flow && nat_le rule.start since) (is_none rule.stop) lasting in
    let inner = and_parts (is_of_net rule.flow) (nat_le rule.start since) outer.0 in
    ap₂ (λ x y. x && has_direction rule.direction packet.outward && y) (in_force_endless rule.start since moment rule.stop inner.1 le outer.1) (covered inner.0)
    ∙ and_end (has_direction rule.direction packet.outward)

picked_if : (rules : List Rule) (n : ℕ) (v : Verdict) (b : Bool) → verdict_of (rule_at n rules) ≡ v → cond b (Some v) None ≡ picked rules (cond b (Some n) None)
picked_if rules n v true h = ap Some (sym h)
picked_if rules n v false h = refl

-- a rule that is alone under a net tells what is found there
said_under : (net_of : Flow → Option AnyNet) (rules : List Rule) (entries : List (AnyNet × List ℕ)) (packet : Packet) (since moment : ℕ) (net : AnyNet) (r : Rule) (d : Bool) (n : ℕ) (direction : Option Direction)
    → filter (files net_of net) rules ≡ r ∷ [] → d ≡ r.deny → n ≡ r.number → direction ≡ Some r.direction → is_lasting since r ≡ true
    → since ≤ moment → IsIndexOf net_of rules entries → IsRising rules
    → ((f : Flow) → is_of_net f ≡ true → is_net net (net_of f) ≡ true → covers f packet ≡ true)
    → said_if (record { deny = d; rule = n }) packet.outward direction ≡ picked rules (find (number_decides rules packet moment) (unwrap_or (at entries net) []))
said_under net_of rules entries packet since moment net r d n direction all deny_is number_is direction_is lasting le indexed rising covered =
    let out = packet.outward in
    let f = files net_of net in
    let e = number_decides rules packet moment in
    let each = subst (EachRule (λ q. rule_at q.number rules ≡ Some q)) all (each_filter (λ q. rule_at q.number rules ≡ Some q) f rules (found_each rules rising)) in
    let found : rule_at r.number rules ≡ Some r = each.0 in
    let passing = subst (EachRule (λ q. f q ≡ true)) all (passes_filter f rules) in
    let passes : f r ≡ true = passing.0 in
    let decided = decides_by_direction packet since moment r lasting le (λ h. covered r.flow h passes) in
    let decides_is : e r.number ≡ has_direction r.direction out = ap (λ o. option_map_or (decides packet moment) o false) found ∙ decided in
    let listed_is = ap (λ o. unwrap_or o []) (indexed net) ∙ unwrap_listed (numbers (filter f rules)) ∙ ap numbers all in
    ap₂ (λ x y. said_if (record { deny = x; rule = y }) out direction) deny_is number_is
    ∙ ap (said_if (record { deny = r.deny; rule = r.number }) out) direction_is
    ∙ picked_if rules r.number (record { deny = r.deny; rule = r.number }) (has_direction r.direction out) (ap verdict_of found)
    ∙ ap (λ b. picked rules (cond b (Some r.number) None)) (sym decides_is)
    ∙ ap (λ ns. picked rules (find e ns)) (sym listed_is)

-- what stands alone under a net tells what is found there
pub alone_said : (net_of : Flow → Option AnyNet) (rules : List Rule) (entries : List (AnyNet × List ℕ)) (packet : Packet) (since moment : ℕ) (net : Net4) (slot : Slot)
    → IsAlone net_of rules since slot → is_of net slot ≡ true → since ≤ moment → IsIndexOf net_of rules entries → IsRising rules
    → ((f : Flow) → is_of_net f ≡ true → is_net (V4 net) (net_of f) ≡ true → covers f packet ≡ true)
    → said_by slot packet.outward ≡ picked rules (find (number_decides rules packet moment) (unwrap_or (at entries (V4 net)) []))
alone_said net_of rules entries packet since moment net slot a is le indexed rising covered =
    said_under net_of rules entries packet since moment (V4 net) a.rule slot.deny slot.number slot.direction (a.alone net is) a.deny a.number a.direction a.lasting le indexed rising covered

pub alone_said6 : (net_of : Flow → Option AnyNet) (rules : List Rule) (entries : List (AnyNet × List ℕ)) (packet : Packet) (since moment : ℕ) (net : Net6) (slot : Slot6)
    → IsAlone6 net_of rules since slot → is_of6 net slot ≡ true → since ≤ moment → IsIndexOf net_of rules entries → IsRising rules
    → ((f : Flow) → is_of_net f ≡ true → is_net (V6 net) (net_of f) ≡ true → covers f packet ≡ true)
    → said_by6 slot packet.outward ≡ picked rules (find (number_decides rules packet moment) (unwrap_or (at entries (V6 net)) []))
alone_said6 net_of rules entries packet since moment net slot a is le indexed rising covered =
    said_under net_of rules entries packet since moment (V6 net) a.rule slot.deny slot.number slot.direction (a.alone net is) a.deny a.number a.direction a.lasting le indexed rising covered
