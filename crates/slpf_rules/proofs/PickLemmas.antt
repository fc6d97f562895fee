-- What is said by the rule of a number that was found.
use Rattle.std.proofs.Common.{◌≡◌, ℕ, ◌+◌, min, Bool, cond, ◌&&◌, ◌||◌, List, [], filter, find, Option, Some, None, unwrap_or, option_map, refl, sym, ap, ap₂, subst, ◌∙◌, arith}
use Rattle.oc2_nets.specs.declared.flows.Flow.{Flow}
use Rattle.oc2_nets.specs.declared.packets.Address.{Address}
use Rattle.oc2_nets.specs.declared.packets.Packet.{Packet}
use Rattle.slpf_rules.specs.declared.any_nets.AnyNet.{AnyNet}
use Rattle.slpf_rules.specs.declared.rules.Rule.{Rule}
use Rattle.slpf_rules.specs.declared.verdicts.Verdict.{Verdict}
use Rattle.slpf_rules.specs.Filed.{source_net, destination_net, is_net, unfiled}
use Rattle.slpf_rules.specs.Filing.{IsIndexOf}
use Rattle.slpf_rules.specs.IndexEntries.{at}
use Rattle.slpf_rules.specs.Order.{IsRising}
use Rattle.slpf_rules.specs.Rules.{numbers, rule_at}
use Rattle.slpf_rules.specs.Verdicts.{decides, least, verdict_of, verdict}
use Rattle.slpf_rules.specs.Deciding.{sooner, smallest, number_decides, holds_below, decides_in, decides_below}
use Rattle.slpf_rules.specs.Picking.{earlier, picked, said_or_allowed}
use Rattle.slpf_rules.proofs.NumberTests.{lt_is, not_lt_is}
use Rattle.slpf_rules.proofs.Rising.{split}
use Rattle.slpf_rules.proofs.Indexed.{files, unwrap_listed}
use Rattle.slpf_rules.proofs.Smallest.{smallest-least, first_decides, found_at, found_number_of, OfRule}
use Rattle.slpf_rules.proofs.Deciders.{decides_below-more, least_of_three}

-- the rule of a number, where there is one, has it
abbrev pub IsHeld : List Rule → Option ℕ → Type 0
IsHeld rules None = Unit {0}
IsHeld rules (Some number) = (verdict_of (rule_at number rules)).rule ≡ number

held_rule : (rules : List Rule) (o : Option Rule) → OfRule (λ r. rule_at r.number rules ≡ Some r) o → IsHeld rules (option_map (λ q. q.number) o)
held_rule rules None h = tt
held_rule rules (Some r) h = ap (λ o. (verdict_of o).rule) h

pub smallest_held : (d : Rule → Bool) (rules : List Rule) → IsRising rules → IsHeld rules (smallest d rules)
smallest_held d rules rising =
    subst (IsHeld rules) (sym (smallest-least d rules)) (held_rule rules (least (filter d rules)) (found_number_of d rules rising))

held_sooner : (rules : List Rule) (a b : Option ℕ) → IsHeld rules a → IsHeld rules b → IsHeld rules (sooner a b)
held_sooner rules None b h k = k
held_sooner rules (Some n) None h k = h
held_sooner rules (Some n) (Some m) h k =
    split n m
    (λ lt. let is : n ≡ min n m = omega arith in subst (λ i. IsHeld rules (Some i)) is h)
    (λ le. let is : m ≡ min n m = omega arith in subst (λ i. IsHeld rules (Some i)) is k)

-- the earlier of two verdicts is that of the lesser number
pub earlier-picked : (rules : List Rule) (a b : Option ℕ) → IsHeld rules a → IsHeld rules b → earlier (picked rules a) (picked rules b) ≡ picked rules (sooner a b)
earlier-picked rules None b h k = refl
earlier-picked rules (Some n) None h k = refl
earlier-picked rules (Some n) (Some m) h k =
    let v = verdict_of (rule_at n rules) in
    let w = verdict_of (rule_at m rules) in
    let choose = λ (b : Bool). cond b (Some w) (Some v) in
    split m n
    (λ lt. let is : m ≡ min n m = omega arith in
    ap choose (lt_is w.rule v.rule (omega (arith, h, k))) ∙ ap (λ i. Some (verdict_of (rule_at i rules))) is)
    (λ le. let is : n ≡ min n m = omega arith in
    ap choose (not_lt_is w.rule v.rule (omega (arith, h, k))) ∙ ap (λ i. Some (verdict_of (rule_at i rules))) is)

pub earlier-none : (a : Option Verdict) → earlier a None ≡ a
earlier-none None = refl
earlier-none (Some a) = refl

-- what is found under a net
listed_is : (net_of : Flow → Option AnyNet) (rules : List Rule) (entries : List (AnyNet × List ℕ)) (net : AnyNet) → IsIndexOf net_of rules entries
    → unwrap_or (at entries net) [] ≡ numbers (filter (files net_of net) rules)
listed_is net_of rules entries net h = ap (λ o. unwrap_or o []) (h net) ∙ unwrap_listed (numbers (filter (files net_of net) rules))

pub found_held : (f : Rule → Bool) (rules : List Rule) (packet : Packet) (moment : ℕ) → IsRising rules → IsHeld rules (find (number_decides rules packet moment) (numbers (filter f rules)))
found_held f rules packet moment rising =
    subst (IsHeld rules) (sym (first_decides f rules packet moment rising)) (smallest_held (λ r. f r && decides packet moment r) rules rising)

-- one width more
pub picked-more : (net_of : Flow → Option AnyNet) (rules : List Rule) (entries : List (AnyNet × List ℕ)) (packet : Packet) (moment : ℕ) (a : Address) (n : ℕ) (net : AnyNet) (best found : Option Verdict)
    → ((o : Option AnyNet) → holds_below (n + 1) a o ≡ (holds_below n a o || is_net net o)) → IsIndexOf net_of rules entries → IsRising rules
    → best ≡ picked rules (smallest (decides_below net_of n a packet moment) rules)
    → found ≡ picked rules (find (number_decides rules packet moment) (unwrap_or (at entries net) []))
    → earlier best found ≡ picked rules (smallest (decides_below net_of (n + 1) a packet moment) rules)
picked-more net_of rules entries packet moment a n net best found more h rising is is2 =
    let below = smallest (decides_below net_of n a packet moment) rules in
    let under = find (number_decides rules packet moment) (unwrap_or (at entries net) []) in
    let held = subst (λ ns. IsHeld rules (find (number_decides rules packet moment) ns)) (sym (listed_is net_of rules entries net h))
    (found_held (files net_of net) rules packet moment rising) in
    ap₂ earlier is is2
    ∙ earlier-picked rules below under (smallest_held (decides_below net_of n a packet moment) rules rising) held
    ∙ ap (picked rules) (decides_below-more net_of rules entries packet moment a n net below more h rising refl)

said_found : (rules : List Rule) (o : Option ℕ) → said_or_allowed (picked rules o) ≡ verdict_of (found_at rules o)
said_found rules None = refl
said_found rules (Some n) = refl

-- the three that are looked up tell the verdict
pub verdict_of_three : (rules : List Rule) (packet : Packet) (moment : ℕ) (u s d : Option Verdict) → IsRising rules
    → u ≡ picked rules (find (number_decides rules packet moment) (unfiled rules))
    → s ≡ picked rules (smallest (decides_in source_net packet.from packet moment) rules)
    → d ≡ picked rules (smallest (decides_in destination_net packet.to packet moment) rules)
    → said_or_allowed (earlier u (earlier s d)) ≡ verdict rules packet moment
verdict_of_three rules packet moment u s d rising is is2 is3 =
    let first = find (number_decides rules packet moment) (unfiled rules) in
    let source = smallest (decides_in source_net packet.from packet moment) rules in
    let destination = smallest (decides_in destination_net packet.to packet moment) rules in
    let held_source = smallest_held (decides_in source_net packet.from packet moment) rules rising in
    let held_destination = smallest_held (decides_in destination_net packet.to packet moment) rules rising in
    ap said_or_allowed
    (ap₂ earlier is (ap₂ earlier is2 is3 ∙ earlier-picked rules source destination held_source held_destination)
    ∙ earlier-picked rules first (sooner source destination) (found_held _ rules packet moment rising)
    (held_sooner rules source destination held_source held_destination))
    ∙ said_found rules (sooner first (sooner source destination))
    ∙ ap verdict_of (least_of_three rules packet moment rising)
