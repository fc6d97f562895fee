-- Which widths are looked up, after an edit, and what is passed over.
use Rattle.std.proofs.Common.{◌≡◌, ℕ, zero, suc, ◌+◌, ◌/◌, ◌<◌, ◌≤◌, Bool, true, false, cond, get_or, List, [], ◌∷◌, Option, Some, None, find, unwrap_or, nat_cmp, refl, sym, ap, subst, ◌∙◌, arith}
use Rattle.std.specs.List.{slice_set}
use Rattle.std.specs.BTreeMap.{is_at}
use Rattle.std.specs.BTreeSet.{insert_key}
use Rattle.std.specs.Set.{remove_key}
use Rattle.oc2_nets.specs.declared.flows.Flow.{Flow}
use Rattle.oc2_nets.specs.declared.packets.Address.TheVariants as kind
use Rattle.oc2_nets.specs.declared.packets.Packet.{Packet}
use Rattle.oc2_nets.specs.Nets.{net6}
use Rattle.slpf_rules.specs.declared.any_nets.AnyNet.{AnyNet}
use Rattle.slpf_rules.specs.declared.any_nets.AnyNet.TheVariants.{V4, V6}
use Rattle.slpf_rules.specs.declared.blocks.Blocks.{Blocks}
use Rattle.slpf_rules.specs.declared.rules.Rule.{Rule}
use Rattle.slpf_rules.specs.declared.verdicts.Verdict.{Verdict}
use Rattle.slpf_rules.specs.AnyNets.{net_cmp}
use Rattle.slpf_rules.specs.Blocks.{is_used, AreUsed}
use Rattle.slpf_rules.specs.Deciding.{smallest, number_decides, decides_below}
use Rattle.slpf_rules.specs.Filed.{listed}
use Rattle.slpf_rules.specs.Filing.{IsIndexOf}
use Rattle.slpf_rules.specs.IndexEntries.{at, Puts, Takes}
use Rattle.slpf_rules.specs.Order.{IsRising}
use Rattle.slpf_rules.specs.Picking.{picked}
use Rattle.slpf_rules.proofs.Counting.{SameParts-from_equal}
use Rattle.slpf_rules.proofs.NetWidths.{holds_below-more6}
use Rattle.slpf_rules.proofs.PickLemmas.{picked-more, earlier-none}

-- ---- edits

pub set_kept : (xs : List Bool) (j k : ℕ) → get_or (slice_set xs j true) k false ≡ false → get_or xs k false ≡ false
set_kept [] j k h = h
set_kept (x ∷ xs) zero zero h = cc
set_kept (x ∷ xs) zero (suc k) h = h
set_kept (x ∷ xs) (suc j) zero h = h
set_kept (x ∷ xs) (suc j) (suc k) h = set_kept xs j k h

used_same : (blocks : Blocks) (a b : AnyNet) → is_at (net_cmp a) b ≡ true → is_used blocks a ≡ true → is_used blocks b ≡ false → true ≡ false
used_same blocks (V4 a) (V4 b) same h w = cc
used_same blocks (V4 a) (V6 b) same h w = let f = (SameParts-from_equal (V4 a) (V6 b) same).same_family in absurd (omega (arith, f))
used_same blocks (V6 a) (V4 b) same h w = cc
used_same blocks (V6 a) (V6 b) same h w =
    let e = (SameParts-from_equal (V6 a) (V6 b) same).same_width in
    sym h ∙ ap (λ n. get_or blocks.used (n / 16) false) e ∙ w

none_put : (b : Bool) (w o : Option (List ℕ)) → (b ≡ true → true ≡ false) → o ≡ None → cond b w o ≡ None
none_put true w o h is = let e = h refl in cc
none_put false w o h is = is

-- a number was put under a net whose width is noted
pub AreUsed-put : (old new : Blocks) (entries more : List (AnyNet × List ℕ)) (net : AnyNet) (number : ℕ) → AreUsed old entries → Puts entries more net number
    → is_used new net ≡ true → ((other : AnyNet) → is_used new other ≡ false → is_used old other ≡ false) → AreUsed new more
AreUsed-put old new entries more net number h puts noted kept = λ other unused.
    puts other
    ∙ none_put (is_at (net_cmp net) other) (Some (insert_key nat_cmp (unwrap_or (at entries net) []) number)) (at entries other)
    (λ same. used_same new net other same noted unused) (h other (kept other unused))

none_taken : (b : Bool) (o p : Option (List ℕ)) (number : ℕ) → (b ≡ true → o ≡ None) → p ≡ None → cond b (listed (remove_key (is_at (nat_cmp number)) (unwrap_or o []))) p ≡ None
none_taken true o p number h is = ap (λ q. listed (remove_key (is_at (nat_cmp number)) (unwrap_or q []))) (h refl)
none_taken false o p number h is = is

unused_same : (blocks : Blocks) (a b : AnyNet) → is_at (net_cmp a) b ≡ true → is_used blocks b ≡ false → is_used blocks a ≡ false
unused_same blocks (V4 a) (V4 b) same h = h
unused_same blocks (V4 a) (V6 b) same h = let f = (SameParts-from_equal (V4 a) (V6 b) same).same_family in absurd (omega (arith, f))
unused_same blocks (V6 a) (V4 b) same h = cc
unused_same blocks (V6 a) (V6 b) same h =
    ap (λ n. get_or blocks.used (n / 16) false) (SameParts-from_equal (V6 a) (V6 b) same).same_width ∙ h

-- a number was taken from under a net
pub AreUsed-take : (blocks : Blocks) (entries less : List (AnyNet × List ℕ)) (net : AnyNet) (number : ℕ) → AreUsed blocks entries → Takes entries less net number → AreUsed blocks less
AreUsed-take blocks entries less net number h takes = λ other unused.
    takes other
    ∙ none_taken (is_at (net_cmp net) other) (at entries net) (at entries other) number
    (λ same. h net (unused_same blocks net other same unused)) (h other unused)

-- ---- widths that are passed over

skip_one : (net_of : Flow → Option AnyNet) (rules : List Rule) (entries : List (AnyNet × List ℕ)) (packet : Packet) (moment address n : ℕ) (best : Option Verdict) → n ≤ 128
    → at entries (V6 (net6 address n)) ≡ None → IsIndexOf net_of rules entries → IsRising rules
    → best ≡ picked rules (smallest (decides_below net_of n (kind.V6 address) packet moment) rules)
    → best ≡ picked rules (smallest (decides_below net_of (n + 1) (kind.V6 address) packet moment) rules)
skip_one net_of rules entries packet moment address n best le none h rising is =
    sym (earlier-none best)
    ∙ picked-more net_of rules entries packet moment (kind.V6 address) n (V6 (net6 address n)) best _
    (λ o. holds_below-more6 n address o le) h rising is
    (ap (λ o. picked rules (find (number_decides rules packet moment) (unwrap_or o []))) (sym none))

-- widths in a row under which nothing is filed
pub picked-skip : (net_of : Flow → Option AnyNet) (rules : List Rule) (entries : List (AnyNet × List ℕ)) (packet : Packet) (moment address : ℕ) (best : Option Verdict) (k low high : ℕ)
    → low + k ≡ high → high ≤ 129 → ((n : ℕ) → low ≤ n → n < high → at entries (V6 (net6 address n)) ≡ None) → IsIndexOf net_of rules entries → IsRising rules
    → best ≡ picked rules (smallest (decides_below net_of low (kind.V6 address) packet moment) rules)
    → best ≡ picked rules (smallest (decides_below net_of high (kind.V6 address) packet moment) rules)
picked-skip net_of rules entries packet moment address best zero low high sum le none h rising is =
    let same : low ≡ high = omega arith in
    subst (λ n. best ≡ picked rules (smallest (decides_below net_of n (kind.V6 address) packet moment) rules)) same is
picked-skip net_of rules entries packet moment address best (suc k) low high sum le none h rising is =
    let next : low + 1 + k ≡ high = omega arith in
    let here : low < high = omega arith in
    let fits : low ≤ 128 = omega arith in
    picked-skip net_of rules entries packet moment address best k (low + 1) high next le (λ n ge lt. let more : low ≤ n = omega arith in none n more lt) h rising
    (skip_one net_of rules entries packet moment address low best fits (none low (omega arith) here) h rising is)
