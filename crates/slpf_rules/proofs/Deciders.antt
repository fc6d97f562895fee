-- The least number that decides, width by width.
use Rattle.std.proofs.Common.{◌≡◌, ℕ, ◌+◌, Bool, true, false, ◌||◌, ◌&&◌, List, [], filter, find, Option, None, unwrap_or, refl, sym, ap, ◌∙◌}
use Rattle.oc2_nets.specs.declared.flows.Flow.{Flow}
use Rattle.oc2_nets.specs.declared.packets.Address.{Address}
use Rattle.oc2_nets.specs.declared.packets.Packet.{Packet}
use Rattle.slpf_rules.specs.declared.any_nets.AnyNet.{AnyNet}
use Rattle.slpf_rules.specs.declared.rules.Rule.{Rule}
use Rattle.slpf_rules.specs.Order.{IsRising}
use Rattle.slpf_rules.specs.Rules.{numbers}
use Rattle.slpf_rules.specs.Filed.{source_net, destination_net, is_net, is_unfiled, unfiled}
use Rattle.slpf_rules.specs.Filing.{IsIndexOf}
use Rattle.slpf_rules.specs.IndexEntries.{at}
use Rattle.slpf_rules.specs.Verdicts.{decides, least}
use Rattle.slpf_rules.specs.Deciding.{sooner, smallest, number_decides, holds, holds_below, decides_in, decides_below}
use Rattle.slpf_rules.proofs.Indexed.{files, unwrap_listed}
use Rattle.slpf_rules.proofs.NetWidths.{holds_below-zero, found_decides}
use Rattle.slpf_rules.proofs.Smallest.{smallest-or, smallest-same, smallest-none, first_decides, found_at, least_is_found}

distribute : (a b d : Bool) → ((a && d) || (b && d)) ≡ ((a || b) && d)
distribute true true true = refl
distribute true true false = refl
distribute true false true = refl
distribute true false false = refl
distribute false true d = refl
distribute false false d = refl

-- one width more
pub decides_below-more : (net_of : Flow → Option AnyNet) (rules : List Rule) (entries : List (AnyNet × List ℕ)) (packet : Packet) (moment : ℕ) (a : Address) (n : ℕ) (net : AnyNet) (best : Option ℕ)
    → ((o : Option AnyNet) → holds_below (n + 1) a o ≡ (holds_below n a o || is_net net o)) → IsIndexOf net_of rules entries → IsRising rules
    → best ≡ smallest (decides_below net_of n a packet moment) rules
    → sooner best (find (number_decides rules packet moment) (unwrap_or (at entries net) [])) ≡ smallest (decides_below net_of (n + 1) a packet moment) rules
decides_below-more net_of rules entries packet moment a n net best more h rising is =
    let e = number_decides rules packet moment in
    let f = files net_of net in
    let d = decides packet moment in
    let listed_is = ap (λ o. unwrap_or o []) (h net) ∙ unwrap_listed (numbers (filter f rules)) in
    ap (λ ns. sooner best (find e ns)) listed_is
    ∙ ap (sooner best) (first_decides f rules packet moment rising)
    ∙ ap (λ b. sooner b (smallest (λ r. f r && d r) rules)) is
    ∙ sym (smallest-or (decides_below net_of n a packet moment) (λ r. f r && d r) rules)
    ∙ smallest-same (λ r. decides_below net_of n a packet moment r || (f r && d r)) (decides_below net_of (n + 1) a packet moment) rules
    (λ r. distribute (holds_below n a (net_of r.flow)) (f r) (d r) ∙ ap (λ b. b && d r) (sym (more (net_of r.flow))))

pub decides_below-zero : (net_of : Flow → Option AnyNet) (rules : List Rule) (packet : Packet) (moment : ℕ) (a : Address) → None ≡ smallest (decides_below net_of 0 a packet moment) rules
decides_below-zero net_of rules packet moment a =
    sym (smallest-none (decides_below net_of 0 a packet moment) rules (λ r. ap (λ b. b && decides packet moment r) (holds_below-zero a (net_of r.flow))))

pub decides_below-all : (net_of : Flow → Option AnyNet) (rules : List Rule) (packet : Packet) (moment : ℕ) (a : Address) (n : ℕ) → ((o : Option AnyNet) → holds_below n a o ≡ holds a o)
    → smallest (decides_below net_of n a packet moment) rules ≡ smallest (decides_in net_of a packet moment) rules
decides_below-all net_of rules packet moment a n all =
    smallest-same (decides_below net_of n a packet moment) (decides_in net_of a packet moment) rules (λ r. ap (λ b. b && decides packet moment r) (all (net_of r.flow)))

-- the three that are looked up are all that decide
pub least_of_three : (rules : List Rule) (packet : Packet) (moment : ℕ) → IsRising rules
    → found_at rules (sooner (find (number_decides rules packet moment) (unfiled rules)) (sooner (smallest (decides_in source_net packet.from packet moment) rules) (smallest (decides_in destination_net packet.to packet moment) rules)))
    ≡ least (filter (decides packet moment) rules)
least_of_three rules packet moment rising =
    let d = decides packet moment in
    let s = decides_in source_net packet.from packet moment in
    let t = decides_in destination_net packet.to packet moment in
    let u = λ (r : Rule). is_unfiled r && d r in
    ap (found_at rules)
    (ap (λ o. sooner o (sooner (smallest s rules) (smallest t rules))) (first_decides is_unfiled rules packet moment rising)
    ∙ ap (sooner (smallest u rules)) (sym (smallest-or s t rules))
    ∙ sym (smallest-or u (λ r. s r || t r) rules)
    ∙ smallest-same (λ r. u r || (s r || t r)) d rules (λ r.
    ap (λ b. u r || b) (distribute (holds packet.from (source_net r.flow)) (holds packet.to (destination_net r.flow)) (d r))
    ∙ distribute (is_unfiled r) (holds packet.from (source_net r.flow) || holds packet.to (destination_net r.flow)) (d r)
    ∙ found_decides packet moment r))
    ∙ least_is_found d rules rising
