-- The least number of a rule that shadows, as it is looked up.
use Rattle.std.proofs.Common.{◌≡◌, ℕ, ◌+◌, ◌≤◌, Bool, true, false, cond, ◌||◌, ◌&&◌, List, [], ◌∷◌, filter, find, Option, Some, None, is_none, unwrap_or, option_map, refl, sym, ap, ◌∙◌, inl, inr, arith}
use Rattle.std.specs.Option.{option_map_or}
use Rattle.std.proofs.lemmas.Bool.{and_parts, and_from, or_cases, or_left, or_right, leb-true, lt-ltb}
use Rattle.oc2_nets.specs.declared.flows.Flow.{Flow}
use Rattle.oc2_nets.specs.declared.flows.Flow.TheVariants as flow
use Rattle.oc2_nets.specs.declared.packets.Address.{Address}
use Rattle.oc2_nets.specs.declared.packets.Address.TheVariants as address
use Rattle.slpf_rules.specs.declared.any_nets.AnyNet.{AnyNet}
use Rattle.slpf_rules.specs.declared.any_nets.AnyNet.TheVariants.{V4, V6}
use Rattle.slpf_rules.specs.declared.rules.Rule.{Rule}
use Rattle.slpf_rules.specs.AnyNets.{width}
use Rattle.slpf_rules.specs.Order.{IsRising}
use Rattle.slpf_rules.specs.Rules.{numbers, rule_at}
use Rattle.slpf_rules.specs.Filed.{source_net, destination_net, is_net, is_unfiled, unfiled}
use Rattle.slpf_rules.specs.Filing.{IsIndexOf}
use Rattle.slpf_rules.specs.IndexEntries.{at}
use Rattle.slpf_rules.specs.Deciding.{sooner, smallest, holds_below}
use Rattle.slpf_rules.proofs.Indexed.{files, unwrap_listed}
use Rattle.slpf_rules.proofs.NetWidths.{holds_below-zero, holds_below-more4, holds_below-more6}
use Rattle.slpf_rules.proofs.Smallest.{sooner-none, sooner-left, smallest-or, smallest-same, smallest-none, EachRule, find-numbers, found_each}
use Rattle.slpf_shadow.specs.declared.connections.Connection.{Connection}
use Rattle.slpf_shadow.specs.declared.shapes.Shape.{Shape}
use Rattle.slpf_shadow.specs.declared.shapes.Shape.TheVariants.{Net, Parts}
use Rattle.slpf_shadow.specs.Nets.{length_of, first_address, net_at, net_within}
use Rattle.slpf_shadow.specs.Connections.{from_net, to_net}
use Rattle.slpf_shadow.specs.Shapes.{shape, has_no_packet, shape_within, source_of, destination_of}
use Rattle.slpf_shadow.specs.Tests.{never_decides, shadows}
use Rattle.slpf_shadow.specs.Searches.{number_shadows, shadows_below, shadows_round, least_shadow}
use Rattle.slpf_shadow.proofs.Coverage.{within}

-- ---- the first number of a list

shadows_each : (all : List Rule) (later : Rule) (rules : List Rule) → EachRule (λ r. rule_at r.number all ≡ Some r) rules → EachRule (λ r. number_shadows all later r.number ≡ shadows r later) rules
shadows_each all later [] h = tt
shadows_each all later (r ∷ rules) h = (ap (λ o. option_map_or (λ e. shadows e later) o false) h.0, shadows_each all later rules h.1)

pub first_shadows : (f : Rule → Bool) (rules : List Rule) (later : Rule) → IsRising rules
    → find (number_shadows rules later) (numbers (filter f rules)) ≡ smallest (λ r. f r && shadows r later) rules
first_shadows f rules later h = find-numbers (number_shadows rules later) f (λ r. shadows r later) rules h (shadows_each rules later rules (found_each rules h))

-- ---- one width more

distribute : (a b d : Bool) → ((a && d) || (b && d)) ≡ ((a || b) && d)
distribute true true true = refl
distribute true true false = refl
distribute true false true = refl
distribute true false false = refl
distribute false true d = refl
distribute false false d = refl

sooner_assoc : (a b d : Option ℕ) → sooner (sooner a b) d ≡ sooner a (sooner b d)
sooner_assoc None b d = refl
sooner_assoc (Some n) b d = sym (sooner-left n b d)

one_more : (a : Address) (n : ℕ) (o : Option AnyNet) → n ≤ length_of a → holds_below (n + 1) a o ≡ (holds_below n a o || is_net (net_at a n) o)
one_more (address.V4 bits) n o h = holds_below-more4 n bits o h
one_more (address.V6 bits) n o h = holds_below-more6 n bits o h

pub shadows_below-zero : (net_of : Flow → Option AnyNet) (rules : List Rule) (later : Rule) (a : Address) (best : Option ℕ) → best ≡ sooner best (smallest (shadows_below net_of 0 a later) rules)
shadows_below-zero net_of rules later a best =
    sym (sooner-none best)
    ∙ ap (sooner best) (sym (smallest-none (shadows_below net_of 0 a later) rules (λ r. ap (λ b. b && shadows r later) (holds_below-zero a (net_of r.flow)))))

pub shadows_below-more : (net_of : Flow → Option AnyNet) (rules : List Rule) (entries : List (AnyNet × List ℕ)) (later : Rule) (a : Address) (n : ℕ) (best so_far : Option ℕ)
    → n ≤ length_of a → IsIndexOf net_of rules entries → IsRising rules
    → so_far ≡ sooner best (smallest (shadows_below net_of n a later) rules)
    → sooner so_far (find (number_shadows rules later) (unwrap_or (at entries (net_at a n)) [])) ≡ sooner best (smallest (shadows_below net_of (n + 1) a later) rules)
shadows_below-more net_of rules entries later a n best so_far fits h rising is =
    let net = net_at a n in
    let e = number_shadows rules later in
    let f = files net_of net in
    let below = shadows_below net_of n a later in
    let here = λ (r : Rule). f r && shadows r later in
    let listed_is = ap (λ o. unwrap_or o []) (h net) ∙ unwrap_listed (numbers (filter f rules)) in
    ap (λ ns. sooner so_far (find e ns)) listed_is
    ∙ ap (sooner so_far) (first_shadows f rules later rising)
    ∙ ap (λ b. sooner b (smallest here rules)) is
    ∙ sooner_assoc best (smallest below rules) (smallest here rules)
    ∙ ap (sooner best) (sym (smallest-or below here rules)
    ∙ smallest-same (λ r. below r || here r) (shadows_below net_of (n + 1) a later) rules
    (λ r. distribute (holds_below n a (net_of r.flow)) (f r) (shadows r later) ∙ ap (λ b. b && shadows r later) (sym (one_more a n (net_of r.flow) fits))))

-- ---- the rules that are looked up are all that shadow

-- whether a net, if there is one, has each address of this one
abbrev pub round : AnyNet → Option AnyNet → Bool
round net o = holds_below (width net + 1) (first_address net) o

round_within : (net outer : AnyNet) → net_within net outer ≡ true → round net (Some outer) ≡ true
round_within net outer h =
    let parts = and_parts _ _ h in
    let less : width outer ≤ width net = leb-true (width outer) (width net) parts.0 in
    and_from _ _ (lt-ltb (width outer) (width net + 1) (omega arith)) parts.1

not_first : (a b : Bool) → a ≡ false → (a || b) ≡ true → b ≡ true
not_first true b h w = cc
not_first false b h w = w

source_within : (s : Shape) (d : Connection) → has_no_packet s ≡ false → shape_within s (Parts d) ≡ true → net_within (source_of s) d.source ≡ true
source_within (Net net) d full h = (within (from_net net) d (and_parts _ _ h).0).source
source_within (Parts c) d full h = (within c d (not_first _ _ full h)).source

destination_within : (s : Shape) (d : Connection) → has_no_packet s ≡ false → shape_within s (Parts d) ≡ true → net_within (destination_of s) d.destination ≡ true
destination_within (Net net) d full h = (within (to_net net) d (and_parts _ _ h).1).destination
destination_within (Parts c) d full h = (within c d (not_first _ _ full h)).destination

either_round : (s : Shape) (net : AnyNet) → has_no_packet s ≡ false → shape_within s (Net net) ≡ true → (round (source_of s) (Some net) || round (destination_of s) (Some net)) ≡ true
either_round (Net inner) net full h = or_left _ _ (round_within inner net h)
either_round (Parts c) net full h =
    elim (or_cases _ _ (not_first _ _ full h)) [
      | inl source ↦ or_left _ _ (round_within c.source net source)
      | inr destination ↦ or_right _ _ (round_within c.destination net destination)
    ]

-- whether a flow is filed under no net, or under one round a shape
abbrev pub is_found : Shape → Flow → Bool
is_found s f = (is_none (source_net f) && is_none (destination_net f)) || round (source_of s) (source_net f) || round (destination_of s) (destination_net f)

found : (s : Shape) (f : Flow) → has_no_packet s ≡ false → shape_within s (shape f) ≡ true → is_found s f ≡ true
found s (flow.Net4 net) full h = either_round s (V4 net) full h
found s (flow.Net6 net) full h = either_round s (V6 net) full h
found s (flow.Conn4 protocol None src_port None dst_port) full h = refl
found s (flow.Conn4 protocol None src_port (Some dst) dst_port) full h = round_within (destination_of s) (V4 dst) (destination_within s _ full h)
found s (flow.Conn4 protocol (Some src) src_port dst dst_port) full h = or_left _ false (round_within (source_of s) (V4 src) (source_within s _ full h))
found s (flow.Conn6 protocol None src_port None dst_port) full h = refl
found s (flow.Conn6 protocol None src_port (Some dst) dst_port) full h = round_within (destination_of s) (V6 dst) (destination_within s _ full h)
found s (flow.Conn6 protocol (Some src) src_port dst dst_port) full h = or_left _ false (round_within (source_of s) (V6 src) (source_within s _ full h))

or_neither : (a b : Bool) → (a || b) ≡ false → (a ≡ false) × (b ≡ false)
or_neither true b h = cc
or_neither false b h = (refl, h)

implied : (a b : Bool) → (b ≡ true → a ≡ true) → (a && b) ≡ b
implied true b h = refl
implied false true h = h refl
implied false false h = refl

found_shadows : (later earlier : Rule) → never_decides later ≡ false → shadows earlier later ≡ true → is_found (shape later.flow) earlier.flow ≡ true
found_shadows later earlier sometimes h =
    let rule = not_first _ _ sometimes (and_parts _ _ h).1 in
    found (shape later.flow) earlier.flow (or_neither _ _ sometimes).1 (and_parts _ _ rule).1

-- the three look-ups together
pub least_of_three : (rules : List Rule) (later : Rule) → IsRising rules → never_decides later ≡ false
    → sooner (sooner (find (number_shadows rules later) (unfiled rules)) (smallest (shadows_round source_net (source_of (shape later.flow)) later) rules)) (smallest (shadows_round destination_net (destination_of (shape later.flow)) later) rules)
    ≡ least_shadow rules later
least_of_three rules later rising sometimes =
    let s = shape later.flow in
    let p = shadows_round source_net (source_of s) later in
    let q = shadows_round destination_net (destination_of s) later in
    let u = λ (r : Rule). is_unfiled r && shadows r later in
    ap (λ o. sooner (sooner o (smallest p rules)) (smallest q rules)) (first_shadows is_unfiled rules later rising)
    ∙ ap (λ o. sooner o (smallest q rules)) (sym (smallest-or u p rules))
    ∙ sym (smallest-or (λ r. u r || p r) q rules)
    ∙ smallest-same (λ r. (u r || p r) || q r) (λ r. shadows r later) rules (λ r.
    ap (λ b. b || q r) (distribute (is_unfiled r) (round (source_of s) (source_net r.flow)) (shadows r later))
    ∙ distribute (is_unfiled r || round (source_of s) (source_net r.flow)) (round (destination_of s) (destination_net r.flow)) (shadows r later)
    ∙ implied (is_found s r.flow) (shadows r later) (found_shadows later r sometimes))

-- ---- the first of all rules

find_if : (p : Rule → Bool) (r : Rule) (rules : List Rule) (b : Bool) → option_map (λ q. q.number) (find p rules) ≡ find (λ n. true) (numbers (filter p rules))
    → option_map (λ q. q.number) (cond b (Some r) (find p rules)) ≡ find (λ n. true) (numbers (cond b (r ∷ filter p rules) (filter p rules)))
find_if p r rules true h = refl
find_if p r rules false h = h

find_number : (p : Rule → Bool) (rules : List Rule) → option_map (λ q. q.number) (find p rules) ≡ find (λ n. true) (numbers (filter p rules))
find_number p [] = refl
find_number p (r ∷ rules) = find_if p r rules (p r) (find_number p rules)

each_true : (rules : List Rule) → EachRule (λ r. true ≡ true) rules
each_true [] = tt
each_true (r ∷ rules) = (refl, each_true rules)

and_true : (a : Bool) → (a && true) ≡ a
and_true true = refl
and_true false = refl

pub first_is_least : (rules : List Rule) (later : Rule) → IsRising rules → option_map (λ q. q.number) (find (λ r. shadows r later) rules) ≡ least_shadow rules later
first_is_least rules later rising =
    let p = λ (r : Rule). shadows r later in
    find_number p rules
    ∙ find-numbers (λ n. true) p (λ r. true) rules rising (each_true rules)
    ∙ smallest-same (λ r. p r && true) p rules (λ r. and_true (p r))
