-- What is read first of a net, after an edit.
use Rattle.std.proofs.Common.{◌≡◌, ℕ, zero, suc, ◌+◌, ◌<◌, ◌≤◌, Bool, true, false, ◌==◌, ◌&&◌, nat_le, nat_lt, List, [], ◌∷◌, filter, Option, Some, None, is_none, ◌⊎◌, inl, inr, refl, sym, ap, ap₂, subst, ◌∙◌, arith}
use Rattle.std.specs.Prelude.{slice_get}
use Rattle.std.specs.List.{slice_set}
use Rattle.std.specs.Ordering.{eq_by_cmp}
use Rattle.std.proofs.lemmas.Bool.Decides.{nat_tests}
use Rattle.oc2_nets.specs.declared.flows.Flow.{Flow}
use Rattle.oc2_nets.specs.declared.ipv4_nets.Net4.{Net4}
use Rattle.slpf_rules.specs.declared.any_nets.AnyNet.{AnyNet}
use Rattle.slpf_rules.specs.declared.any_nets.AnyNet.TheVariants.{V4, V6}
use Rattle.slpf_rules.specs.declared.rules.Rule.{Rule}
use Rattle.slpf_rules.specs.declared.slots.Slot.{Slot}
use Rattle.slpf_rules.specs.AnyNets.{net_cmp}
use Rattle.slpf_rules.specs.Filed.{is_net}
use Rattle.slpf_rules.specs.Order.{IsRising}
use Rattle.slpf_rules.specs.Rules.{rule_at, place, without}
use Rattle.slpf_rules.specs.Slots.{is_free, is_of, slot_of, free_slot}
use Rattle.slpf_rules.specs.Quick.{home, is_near, is_of_net, is_lasting, Keeps, Adds, Stands, IsAlone}
use Rattle.slpf_rules.proofs.Indexed.{files, is_net_same, filter-without_other}
use Rattle.slpf_rules.proofs.NetWidths.{equal_parts}
use Rattle.slpf_rules.proofs.Rising.{filter-place, filter-place_other, filter_same}

pub and_parts : (a b : Bool) → (a && b) ≡ true → (a ≡ true) × (b ≡ true)
and_parts true b h = (refl, h)
and_parts false b h = cc

pub le_from : (n k : ℕ) → nat_le n k ≡ true → n ≤ k
le_from n k h = grind (arith, nat_tests, h)

pub lt_from : (n k : ℕ) → nat_lt n k ≡ true → n < k
lt_from n k h = grind (arith, nat_tests, h)

pub lt_is : (n k : ℕ) → n < k → nat_lt n k ≡ true
lt_is n k h = grind (arith, nat_tests, h)

pub le_is : (n k : ℕ) → n ≤ k → nat_le n k ≡ true
le_is n k h = grind (arith, nat_tests, h)

pub same_from : (n k : ℕ) → (n == k) ≡ true → n ≡ k
same_from n k h = grind (arith, nat_tests, h)

-- ---- places

pub set_cases : {A : Type 0} (xs : List A) (j p : ℕ) (y s : A) → slice_get (slice_set xs j y) p ≡ Some s → (slice_get xs p ≡ Some s) ⊎ (s ≡ y)
set_cases [] j p y s h = cc
set_cases (x ∷ xs) zero zero y s h = inr (let e : y ≡ s = cc in sym e)
set_cases (x ∷ xs) zero (suc p) y s h = inl h
set_cases (x ∷ xs) (suc j) zero y s h = inl h
set_cases (x ∷ xs) (suc j) (suc p) y s h = set_cases xs j p y s h

pub at_set : {A : Type 0} (xs : List A) (j : ℕ) (y s : A) → slice_get (slice_set xs j y) j ≡ Some s → s ≡ y
at_set [] j y s h = cc
at_set (x ∷ xs) zero y s h = let e : y ≡ s = cc in sym e
at_set (x ∷ xs) (suc j) y s h = at_set xs j y s h

no_free : (s : Slot) → s ≡ free_slot → is_free s ≡ false → ⊥
no_free s same taken = let e : true ≡ false = subst (λ x. is_free x ≡ false) same taken in cc

pub gone_by : (b : Bool) → (b ≡ true → b ≡ false) → b ≡ false
gone_by true h = h refl
gone_by false h = refl

pub Keeps-same : (xs : List Slot) → Keeps xs xs
Keeps-same xs at slot there taken = there

pub Keeps-then : (xs ys zs : List Slot) → Keeps xs ys → Keeps ys zs → Keeps xs zs
Keeps-then xs ys zs h k at slot there taken = h at slot (k at slot there taken) taken

pub Adds-same : (xs : List Slot) (slot : Slot) → Adds xs xs slot
Adds-same xs slot at other there = inl there

pub Adds-then : (xs ys zs : List Slot) (slot : Slot) → Adds xs ys slot → Adds ys zs slot → Adds xs zs slot
Adds-then xs ys zs slot h k at other there = elim (k at other there) [ inl before ↦ h at other before | inr same ↦ inr same ]

-- a place that is freed
pub Keeps-freed : (xs ys : List Slot) (j : ℕ) → ys ≡ slice_set xs j free_slot → Keeps xs ys
Keeps-freed xs ys j is at slot there taken =
    elim (set_cases xs j at free_slot slot (ap (λ l. slice_get l at) (sym is) ∙ there)) [ inl old ↦ old | inr same ↦ absurd (no_free slot same taken) ]

pub freed_at : (xs ys : List Slot) (j : ℕ) (slot : Slot) → ys ≡ slice_set xs j free_slot → slice_get ys j ≡ Some slot → is_free slot ≡ false → ⊥
freed_at xs ys j slot is there taken = no_free slot (at_set xs j free_slot slot (ap (λ l. slice_get l j) (sym is) ∙ there)) taken

-- a place that is taken
pub Adds-taken : (xs ys : List Slot) (j : ℕ) (slot : Slot) → ys ≡ slice_set xs j slot → Adds xs ys slot
Adds-taken xs ys j slot is at other there = set_cases xs j at slot other (ap (λ l. slice_get l at) (sym is) ∙ there)

-- ---- homes

same_home : (shift : ℕ) (net : Net4) (slot : Slot) → is_of net slot ≡ true → home shift slot.bits slot.width ≡ home shift net.bits net.width
same_home shift net slot is =
    let same = and_parts (slot.bits == net.bits) (slot.width == net.width) is in
    ap₂ (home shift) (same_from slot.bits net.bits same.0) (same_from slot.width net.width same.1)

pub near_is : (shift place : ℕ) (net : Net4) (slot : Slot) → is_of net slot ≡ true → home shift net.bits net.width ≤ place → place < home shift net.bits net.width + 8 → is_near shift place slot ≡ true
near_is shift place net slot is low high =
    let h = home shift net.bits net.width in
    ap (λ k. nat_le k place && nat_lt place (k + 8)) (same_home shift net slot is)
    ∙ ap₂ (λ x y. x && y) (le_is h place low) (lt_is place (h + 8) high)

-- what is kept near the home of a net, where each place of it was freed
pub Stands-kept : (xs ys : List Slot) (shift : ℕ) (slot : Slot) → Keeps xs ys → Stands ys shift slot → Stands xs shift slot
Stands-kept xs ys shift slot h s = record { place = s.place; there = h s.place slot s.there s.taken; near = s.near; taken = s.taken }

pub Stands-gone : (ys : List Slot) (shift : ℕ) (net : Net4) (slot : Slot)
    → ((at : ℕ) (other : Slot) → home shift net.bits net.width ≤ at → at < home shift net.bits net.width + 8 → slice_get ys at ≡ Some other → is_free other ≡ false → is_of net other ≡ false)
    → Stands ys shift slot → is_of net slot ≡ false
Stands-gone ys shift net slot freed s =
    let own = home shift slot.bits slot.width in
    let near = and_parts (nat_le own s.place) (nat_lt s.place (own + 8)) s.near in
    gone_by (is_of net slot)
    (λ is.
    let same = same_home shift net slot is in
    freed s.place slot (subst (λ h. h ≤ s.place) same (le_from own s.place near.0)) (subst (λ h. s.place < h + 8) same (lt_from s.place (own + 8) near.1)) s.there s.taken)

pub Stands-added : (xs ys : List Slot) (shift : ℕ) (slot other : Slot) → Adds xs ys slot → Stands ys shift other → Stands xs shift other ⊎ (other ≡ slot)
Stands-added xs ys shift slot other h s =
    elim (h s.place other s.there) [
      | inl before ↦ inl (record { place = s.place; there = before; near = s.near; taken = s.taken })
      | inr same ↦ inr same
    ]

-- ---- rules that stand alone

pub lasting_later : (a c : Bool) (n s t : ℕ) → s ≤ t → (a && nat_le n s && c) ≡ true → (a && nat_le n t && c) ≡ true
lasting_later a c n s t h e =
    let outer = and_parts (a && nat_le n s) c e in
    let inner = and_parts a (nat_le n s) outer.0 in
    let later = le_is n t (omega (arith, le_from n s inner.1)) in
    ap₂ (λ x y. x && nat_le n t && y) inner.0 outer.1 ∙ ap (λ x. x && true) later

pub lasting_from : (moment later : ℕ) (rule : Rule) → is_lasting moment rule ≡ true → rule.start ≤ later → is_lasting later rule ≡ true
lasting_from moment later rule e h =
    let outer = and_parts (is_of_net rule.flow && nat_le rule.start moment) (is_none rule.stop) e in
    let inner = and_parts (is_of_net rule.flow) (nat_le rule.start moment) outer.0 in
    ap₂ (λ x y. x && nat_le rule.start later && y) inner.0 outer.1 ∙ ap (λ x. x && true) (le_is rule.start later h)

pub IsAlone-later : (net_of : Flow → Option AnyNet) (rules : List Rule) (since later : ℕ) (slot : Slot) → since ≤ later → IsAlone net_of rules since slot → IsAlone net_of rules later slot
IsAlone-later net_of rules since later slot h a = record {
  rule = a.rule;
  alone = a.alone;
  number = a.number;
  deny = a.deny;
  direction = a.direction;
  lasting = lasting_later (is_of_net a.rule.flow) (is_none a.rule.stop) a.rule.start since later h a.lasting;
}

alone_still : (net_of : Flow → Option AnyNet) (rules more : List Rule) (since : ℕ) (slot : Slot) → IsAlone net_of rules since slot
    → ((net : Net4) → is_of net slot ≡ true → filter (files net_of (V4 net)) more ≡ filter (files net_of (V4 net)) rules) → IsAlone net_of more since slot
alone_still net_of rules more since slot a same = record {
  rule = a.rule;
  alone = λ net h. same net h ∙ a.alone net h;
  number = a.number;
  deny = a.deny;
  direction = a.direction;
  lasting = a.lasting;
}

pub apart_parts : (s w a aw b bw : ℕ) → ((s == a) && (w == aw)) ≡ false → ((s == b) && (w == bw)) ≡ true → ((b == a) && (bw == aw)) ≡ false
apart_parts s w a aw b bw h k =
    let both = and_parts (s == b) (w == bw) k in
    ap₂ (λ x y. (x == a) && (y == aw)) (sym (same_from s b both.0)) (sym (same_from w bw both.1)) ∙ h

-- a place that is not of one net, and is of another
apart_nets : (a b : Net4) (slot : Slot) → is_of a slot ≡ false → is_of b slot ≡ true → is_net (V4 b) (Some (V4 a)) ≡ false
apart_nets a b slot h k = equal_parts b.bits a.bits b.width a.width ∙ apart_parts slot.bits slot.width a.bits a.width b.bits b.width h k

-- whether a net is not the one that a place tells of
abbrev pub IsOther : AnyNet → Slot → Type 0
IsOther (V4 net) slot = is_of net slot ≡ false
IsOther (V6 net) slot = Unit {0}

other_net : (net : AnyNet) (b : Net4) (slot : Slot) → IsOther net slot → is_of b slot ≡ true → is_net (V4 b) (Some net) ≡ false
other_net (V4 a) b slot h k = apart_nets a b slot h k
other_net (V6 a) b slot h k = refl

-- a rule is placed under another net
pub IsAlone-place : (net_of : Flow → Option AnyNet) (rule : Rule) (rules : List Rule) (net : AnyNet) (since : ℕ) (slot : Slot) → net_of rule.flow ≡ Some net → IsOther net slot
    → IsAlone net_of rules since slot → IsAlone net_of (place rule rules) since slot
IsAlone-place net_of rule rules net since slot is other a =
    alone_still net_of rules (place rule rules) since slot a
    (λ b h. filter-place_other (files net_of (V4 b)) rule rules (ap (is_net (V4 b)) is ∙ other_net net b slot other h))

pub IsAlone-place_none : (net_of : Flow → Option AnyNet) (rule : Rule) (rules : List Rule) (since : ℕ) (slot : Slot) → net_of rule.flow ≡ None
    → IsAlone net_of rules since slot → IsAlone net_of (place rule rules) since slot
IsAlone-place_none net_of rule rules since slot is a =
    alone_still net_of rules (place rule rules) since slot a (λ b h. filter-place_other (files net_of (V4 b)) rule rules (ap (is_net (V4 b)) is))

-- a rule is taken from under another net
pub IsAlone-without : (net_of : Flow → Option AnyNet) (rule : Rule) (rules : List Rule) (net : AnyNet) (since : ℕ) (slot : Slot) → net_of rule.flow ≡ Some net → IsOther net slot
    → IsRising rules → rule_at rule.number rules ≡ Some rule → IsAlone net_of rules since slot → IsAlone net_of (without rule.number rules) since slot
IsAlone-without net_of rule rules net since slot is other rising held a =
    alone_still net_of rules (without rule.number rules) since slot a
    (λ b h. filter-without_other (files net_of (V4 b)) rule.number rule rules rising held (ap (is_net (V4 b)) is ∙ other_net net b slot other h))

pub IsAlone-without_none : (net_of : Flow → Option AnyNet) (rule : Rule) (rules : List Rule) (since : ℕ) (slot : Slot) → net_of rule.flow ≡ None
    → IsRising rules → rule_at rule.number rules ≡ Some rule → IsAlone net_of rules since slot → IsAlone net_of (without rule.number rules) since slot
IsAlone-without_none net_of rule rules since slot is rising held a =
    alone_still net_of rules (without rule.number rules) since slot a
    (λ b h. filter-without_other (files net_of (V4 b)) rule.number rule rules rising held (ap (is_net (V4 b)) is))

pub equal_self : (n k : ℕ) → ((n == n) && (k == k)) ≡ true
equal_self n k = grind (arith, nat_tests)

equal_nets : (a b : Net4) → ((a.bits == b.bits) && (a.width == b.width)) ≡ true → eq_by_cmp net_cmp (V4 b) (V4 a) ≡ true
equal_nets a b h =
    let both = and_parts (a.bits == b.bits) (a.width == b.width) h in
    equal_parts b.bits a.bits b.width a.width
    ∙ ap₂ (λ x y. (x == a.bits) && (y == a.width)) (sym (same_from a.bits b.bits both.0)) (sym (same_from a.width b.width both.1))
    ∙ equal_self a.bits a.width

-- a rule that is alone under its net
pub IsAlone-put : (net_of : Flow → Option AnyNet) (rule : Rule) (rules : List Rule) (net : Net4) (since : ℕ) → net_of rule.flow ≡ Some (V4 net) → IsRising rules
    → filter (files net_of (V4 net)) rules ≡ [] → is_lasting since rule ≡ true → IsAlone net_of (place rule rules) since (slot_of net rule)
IsAlone-put net_of rule rules net since is rising none lasting = record {
  rule = rule;
  alone = λ b h.
      let same = equal_nets net b h in
      filter-place (files net_of (V4 b)) rule rules rising (ap (is_net (V4 b)) is ∙ same)
      ∙ ap (place rule) (filter_same (files net_of (V4 b)) (files net_of (V4 net)) rules (λ r. is_net_same (V4 b) (V4 net) (net_of r.flow) same) ∙ none);
  number = refl;
  deny = refl;
  direction = refl;
  lasting = lasting;
}
