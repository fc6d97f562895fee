-- What is read first of an IPv6 net, after an edit.
use Rattle.std.proofs.Common.{◌≡◌, ℕ, ◌+◌, ◌<◌, ◌≤◌, true, false, ◌==◌, ◌&&◌, nat_le, nat_lt, List, [], filter, Option, Some, None, is_none, ◌⊎◌, inl, inr, refl, sym, ap, ap₂, subst, ◌∙◌}
use Rattle.std.specs.Prelude.{slice_get}
use Rattle.std.specs.List.{slice_set}
use Rattle.std.specs.Ordering.{eq_by_cmp}
use Rattle.oc2_nets.specs.declared.flows.Flow.{Flow}
use Rattle.oc2_nets.specs.declared.ipv6_nets.Net6.{Net6}
use Rattle.slpf_rules.specs.declared.any_nets.AnyNet.{AnyNet}
use Rattle.slpf_rules.specs.declared.any_nets.AnyNet.TheVariants.{V6, V4}
use Rattle.slpf_rules.specs.declared.rules.Rule.{Rule}
use Rattle.slpf_rules.specs.declared.slots6.Slot6.{Slot6}
use Rattle.slpf_rules.specs.AnyNets.{net_cmp}
use Rattle.slpf_rules.specs.Filed.{is_net}
use Rattle.slpf_rules.specs.Order.{IsRising}
use Rattle.slpf_rules.specs.Rules.{rule_at, place, without}
use Rattle.slpf_rules.specs.Slots6.{is_free6, is_of6, slot_of6, free_slot6}
use Rattle.slpf_rules.specs.Quick.{is_of_net, is_lasting}
use Rattle.slpf_rules.specs.Quick6.{home6, is_near6, Keeps6, Adds6, Stands6, IsAlone6}
use Rattle.slpf_rules.proofs.QuickLemmas.{and_parts, le_from, lt_from, lt_is, le_is, same_from, set_cases, at_set, gone_by, lasting_later, apart_parts, equal_self}
use Rattle.slpf_rules.proofs.Indexed.{files, is_net_same, filter-without_other}
use Rattle.slpf_rules.proofs.NetWidths.{equal_parts}
use Rattle.slpf_rules.proofs.Rising.{filter-place, filter-place_other, filter_same}

-- ---- places

no_free : (s : Slot6) → s ≡ free_slot6 → is_free6 s ≡ false → ⊥
no_free s same taken = let e : true ≡ false = subst (λ x. is_free6 x ≡ false) same taken in cc

pub Keeps6-same : (xs : List Slot6) → Keeps6 xs xs
Keeps6-same xs at slot there taken = there

pub Keeps6-then : (xs ys zs : List Slot6) → Keeps6 xs ys → Keeps6 ys zs → Keeps6 xs zs
Keeps6-then xs ys zs h k at slot there taken = h at slot (k at slot there taken) taken

pub Adds6-same : (xs : List Slot6) (slot : Slot6) → Adds6 xs xs slot
Adds6-same xs slot at other there = inl there

pub Adds6-then : (xs ys zs : List Slot6) (slot : Slot6) → Adds6 xs ys slot → Adds6 ys zs slot → Adds6 xs zs slot
Adds6-then xs ys zs slot h k at other there = elim (k at other there) [ inl before ↦ h at other before | inr same ↦ inr same ]

-- a place that is freed
pub Keeps6-freed : (xs ys : List Slot6) (j : ℕ) → ys ≡ slice_set xs j free_slot6 → Keeps6 xs ys
Keeps6-freed xs ys j is at slot there taken =
    elim (set_cases xs j at free_slot6 slot (ap (λ l. slice_get l at) (sym is) ∙ there)) [ inl old ↦ old | inr same ↦ absurd (no_free slot same taken) ]

pub freed_at : (xs ys : List Slot6) (j : ℕ) (slot : Slot6) → ys ≡ slice_set xs j free_slot6 → slice_get ys j ≡ Some slot → is_free6 slot ≡ false → ⊥
freed_at xs ys j slot is there taken = no_free slot (at_set xs j free_slot6 slot (ap (λ l. slice_get l j) (sym is) ∙ there)) taken

-- a place that is taken
pub Adds6-taken : (xs ys : List Slot6) (j : ℕ) (slot : Slot6) → ys ≡ slice_set xs j slot → Adds6 xs ys slot
Adds6-taken xs ys j slot is at other there = set_cases xs j at slot other (ap (λ l. slice_get l at) (sym is) ∙ there)

-- ---- homes

same_home : (shift : ℕ) (net : Net6) (slot : Slot6) → is_of6 net slot ≡ true → home6 shift slot.bits slot.width ≡ home6 shift net.bits net.width
same_home shift net slot is =
    let same = and_parts (slot.bits == net.bits) (slot.width == net.width) is in
    ap₂ (home6 shift) (same_from slot.bits net.bits same.0) (same_from slot.width net.width same.1)

pub near_is : (shift place : ℕ) (net : Net6) (slot : Slot6) → is_of6 net slot ≡ true → home6 shift net.bits net.width ≤ place → place < home6 shift net.bits net.width + 8 → is_near6 shift place slot ≡ true
near_is shift place net slot is low high =
    let h = home6 shift net.bits net.width in
    ap (λ k. nat_le k place && nat_lt place (k + 8)) (same_home shift net slot is)
    ∙ ap₂ (λ x y. x && y) (le_is h place low) (lt_is place (h + 8) high)

-- what is kept near the home of a net, where each place of it was freed
pub Stands6-kept : (xs ys : List Slot6) (shift : ℕ) (slot : Slot6) → Keeps6 xs ys → Stands6 ys shift slot → Stands6 xs shift slot
Stands6-kept xs ys shift slot h s = record { place = s.place; there = h s.place slot s.there s.taken; near = s.near; taken = s.taken }

pub Stands6-gone : (ys : List Slot6) (shift : ℕ) (net : Net6) (slot : Slot6)
    → ((at : ℕ) (other : Slot6) → home6 shift net.bits net.width ≤ at → at < home6 shift net.bits net.width + 8 → slice_get ys at ≡ Some other → is_free6 other ≡ false → is_of6 net other ≡ false)
    → Stands6 ys shift slot → is_of6 net slot ≡ false
Stands6-gone ys shift net slot freed s =
    let own = home6 shift slot.bits slot.width in
    let near = and_parts (nat_le own s.place) (nat_lt s.place (own + 8)) s.near in
    gone_by (is_of6 net slot)
    (λ is.
    let same = same_home shift net slot is in
    freed s.place slot (subst (λ h. h ≤ s.place) same (le_from own s.place near.0)) (subst (λ h. s.place < h + 8) same (lt_from s.place (own + 8) near.1)) s.there s.taken)

pub Stands6-added : (xs ys : List Slot6) (shift : ℕ) (slot other : Slot6) → Adds6 xs ys slot → Stands6 ys shift other → Stands6 xs shift other ⊎ (other ≡ slot)
Stands6-added xs ys shift slot other h s =
    elim (h s.place other s.there) [
      | inl before ↦ inl (record { place = s.place; there = before; near = s.near; taken = s.taken })
      | inr same ↦ inr same
    ]

-- ---- rules that stand alone

pub IsAlone6-later : (net_of : Flow → Option AnyNet) (rules : List Rule) (since later : ℕ) (slot : Slot6) → since ≤ later → IsAlone6 net_of rules since slot → IsAlone6 net_of rules later slot
IsAlone6-later net_of rules since later slot h a = record {
  rule = a.rule;
  alone = a.alone;
  number = a.number;
  deny = a.deny;
  direction = a.direction;
  lasting = lasting_later (is_of_net a.rule.flow) (is_none a.rule.stop) a.rule.start since later h a.lasting;
}

alone_still : (net_of : Flow → Option AnyNet) (rules more : List Rule) (since : ℕ) (slot : Slot6) → IsAlone6 net_of rules since slot
    → ((net : Net6) → is_of6 net slot ≡ true → filter (files net_of (V6 net)) more ≡ filter (files net_of (V6 net)) rules) → IsAlone6 net_of more since slot
alone_still net_of rules more since slot a same = record {
  rule = a.rule;
  alone = λ net h. same net h ∙ a.alone net h;
  number = a.number;
  deny = a.deny;
  direction = a.direction;
  lasting = a.lasting;
}

-- a place that is not of one net, and is of another
apart_nets : (a b : Net6) (slot : Slot6) → is_of6 a slot ≡ false → is_of6 b slot ≡ true → is_net (V6 b) (Some (V6 a)) ≡ false
apart_nets a b slot h k = equal_parts b.bits a.bits b.width a.width ∙ apart_parts slot.bits slot.width a.bits a.width b.bits b.width h k

-- whether a net is not the one that a place tells of
abbrev pub IsOther6 : AnyNet → Slot6 → Type 0
IsOther6 (V6 net) slot = is_of6 net slot ≡ false
IsOther6 (V4 net) slot = Unit {0}

other_net : (net : AnyNet) (b : Net6) (slot : Slot6) → IsOther6 net slot → is_of6 b slot ≡ true → is_net (V6 b) (Some net) ≡ false
other_net (V6 a) b slot h k = apart_nets a b slot h k
other_net (V4 a) b slot h k = refl

-- a rule is placed under another net
pub IsAlone6-place : (net_of : Flow → Option AnyNet) (rule : Rule) (rules : List Rule) (net : AnyNet) (since : ℕ) (slot : Slot6) → net_of rule.flow ≡ Some net → IsOther6 net slot
    → IsAlone6 net_of rules since slot → IsAlone6 net_of (place rule rules) since slot
IsAlone6-place net_of rule rules net since slot is other a =
    alone_still net_of rules (place rule rules) since slot a
    (λ b h. filter-place_other (files net_of (V6 b)) rule rules (ap (is_net (V6 b)) is ∙ other_net net b slot other h))

pub IsAlone6-place_none : (net_of : Flow → Option AnyNet) (rule : Rule) (rules : List Rule) (since : ℕ) (slot : Slot6) → net_of rule.flow ≡ None
    → IsAlone6 net_of rules since slot → IsAlone6 net_of (place rule rules) since slot
IsAlone6-place_none net_of rule rules since slot is a =
    alone_still net_of rules (place rule rules) since slot a (λ b h. filter-place_other (files net_of (V6 b)) rule rules (ap (is_net (V6 b)) is))

-- a rule is taken from under another net
pub IsAlone6-without : (net_of : Flow → Option AnyNet) (rule : Rule) (rules : List Rule) (net : AnyNet) (since : ℕ) (slot : Slot6) → net_of rule.flow ≡ Some net → IsOther6 net slot
    → IsRising rules → rule_at rule.number rules ≡ Some rule → IsAlone6 net_of rules since slot → IsAlone6 net_of (without rule.number rules) since slot
IsAlone6-without net_of rule rules net since slot is other rising held a =
    alone_still net_of rules (without rule.number rules) since slot a
    (λ b h. filter-without_other (files net_of (V6 b)) rule.number rule rules rising held (ap (is_net (V6 b)) is ∙ other_net net b slot other h))

pub IsAlone6-without_none : (net_of : Flow → Option AnyNet) (rule : Rule) (rules : List Rule) (since : ℕ) (slot : Slot6) → net_of rule.flow ≡ None
    → IsRising rules → rule_at rule.number rules ≡ Some rule → IsAlone6 net_of rules since slot → IsAlone6 net_of (without rule.number rules) since slot
IsAlone6-without_none net_of rule rules since slot is rising held a =
    alone_still net_of rules (without rule.number rules) since slot a
    (λ b h. filter-without_other (files net_of (V6 b)) rule.number rule rules rising held (ap (is_net (V6 b)) is))

equal_nets : (a b : Net6) → ((a.bits == b.bits) && (a.width == b.width)) ≡ true → eq_by_cmp net_cmp (V6 b) (V6 a) ≡ true
equal_nets a b h =
    let both = and_parts (a.bits == b.bits) (a.width == b.width) h in
    equal_parts b.bits a.bits b.width a.width
    ∙ ap₂ (λ x y. (x == a.bits) && (y == a.width)) (sym (same_from a.bits b.bits both.0)) (sym (same_from a.width b.width both.1))
    ∙ equal_self a.bits a.width

-- a rule that is alone under its net
pub IsAlone6-put : (net_of : Flow → Option AnyNet) (rule : Rule) (rules : List Rule) (net : Net6) (since : ℕ) → net_of rule.flow ≡ Some (V6 net) → IsRising rules
    → filter (files net_of (V6 net)) rules ≡ [] → is_lasting since rule ≡ true → IsAlone6 net_of (place rule rules) since (slot_of6 net rule)
IsAlone6-put net_of rule rules net since is rising none lasting = record {
  rule = rule;
  alone = λ b h.
      let same = equal_nets net b h in
      filter-place (files net_of (V6 b)) rule rules rising (ap (is_net (V6 b)) is ∙ same)
      ∙ ap (place rule) (filter_same (files net_of (V6 b)) (files net_of (V6 net)) rules (λ r. is_net_same (V6 b) (V6 net) (net_of r.flow) same) ∙ none);
  number = refl;
  deny = refl;
  direction = refl;
  lasting = lasting;
}
