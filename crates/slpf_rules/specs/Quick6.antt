-- Promise: A table of rules that stand alone under an IPv6 net.
use Rattle.std.specs.Prelude.{◌≡◌, ◌⊎◌, ℕ, ◌+◌, ◌/◌, ◌%◌, ◌^◌, Bool, true, false, ◌&&◌, nat_le, nat_lt, List, [], ◌∷◌, filter, slice_get, Option, Some}
use Rattle.oc2_nets.specs.declared.flows.Flow.{Flow}
use Rattle.oc2_nets.specs.declared.ipv6_nets.Net6.{Net6}
use Rattle.slpf_rules.specs.declared.any_nets.AnyNet.{AnyNet}
use Rattle.slpf_rules.specs.declared.any_nets.AnyNet.TheVariants.{V6}
use Rattle.slpf_rules.specs.declared.quick6.Quick6.{Quick6}
use Rattle.slpf_rules.specs.declared.rules.Rule.{Rule}
use Rattle.slpf_rules.specs.declared.slots6.Slot6.{Slot6}
use Rattle.slpf_rules.specs.Filed.{is_net}
use Rattle.slpf_rules.specs.Quick.{home, is_lasting}
use Rattle.slpf_rules.specs.Slots6.{is_free6, is_of6}

-- each half modulo the greatest prime of 32 bits, added up
abbrev pub folded : ℕ → ℕ
folded bits = (bits / 2 ^ 64 % 4_294_967_291 + bits % 2 ^ 64 % 4_294_967_291) % 4_294_967_296

-- the first place at which a net may stand
abbrev pub home6 : ℕ → ℕ → ℕ → ℕ
home6 shift bits width = home shift (folded bits) width

-- whether a place is one at which its net may stand
abbrev pub is_near6 : ℕ → ℕ → Slot6 → Bool
is_near6 shift at slot = nat_le (home6 shift slot.bits slot.width) at && nat_lt at (home6 shift slot.bits slot.width + 8)

-- each place that is taken was taken so before
abbrev pub Keeps6 : List Slot6 → List Slot6 → Type 0
Keeps6 old new = (at : ℕ) (slot : Slot6) → slice_get new at ≡ Some slot → is_free6 slot ≡ false → slice_get old at ≡ Some slot

-- each place is as before, or has this
abbrev pub Adds6 : List Slot6 → List Slot6 → Slot6 → Type 0
Adds6 old new slot = (at : ℕ) (other : Slot6) → slice_get new at ≡ Some other → (slice_get old at ≡ Some other) ⊎ (other ≡ slot)

-- this stands near the home of its net
pub record Stands6 (slots : List Slot6) (shift : ℕ) (slot : Slot6) : Type 0 where
  pub place : ℕ
  pub there : slice_get slots place ≡ Some slot
  pub near : is_near6 shift place slot ≡ true
  pub taken : is_free6 slot ≡ false

-- a rule is alone under the net of a place that tells of it
pub record IsAlone6 (net_of : Flow → Option AnyNet) (rules : List Rule) (since : ℕ) (slot : Slot6) : Type 0 where
  pub rule : Rule
  pub alone : (net : Net6) → is_of6 net slot ≡ true → filter (λ other. is_net (V6 net) (net_of other.flow)) rules ≡ rule ∷ []
  pub number : slot.number ≡ rule.number
  pub deny : slot.deny ≡ rule.deny
  pub direction : slot.direction ≡ Some rule.direction
  pub lasting : is_lasting since rule ≡ true

-- this is read where its net is looked up
abbrev pub Reads6 : Quick6 → Slot6 → Type 0
Reads6 quick slot = Stands6 quick.slots.items quick.shift slot

-- so it is of each place that is read
abbrev pub AreAlone6 : (Flow → Option AnyNet) → List Rule → Quick6 → Type 0
AreAlone6 net_of rules quick = (slot : Slot6) → Reads6 quick slot → IsAlone6 net_of rules quick.since slot
