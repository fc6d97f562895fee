-- Promise: A table of rules that stand alone under an IPv4 net.
use Rattle.std.specs.Prelude.{◌≡◌, ◌⊎◌, ℕ, ◌+◌, ◌*◌, ◌/◌, ◌%◌, ◌^◌, min, Bool, true, false, ◌&&◌, nat_le, nat_lt, List, [], ◌∷◌, filter, slice_get, Option, Some, is_none}
use Rattle.oc2_nets.specs.declared.flows.Flow.{Flow}
use Rattle.oc2_nets.specs.declared.flows.Flow.TheVariants as flow
use Rattle.oc2_nets.specs.declared.ipv4_nets.Net4.{Net4}
use Rattle.slpf_rules.specs.declared.any_nets.AnyNet.{AnyNet}
use Rattle.slpf_rules.specs.declared.any_nets.AnyNet.TheVariants.{V4}
use Rattle.slpf_rules.specs.declared.quick.Quick.{Quick}
use Rattle.slpf_rules.specs.declared.rules.Rule.{Rule}
use Rattle.slpf_rules.specs.declared.slots.Slot.{Slot}
use Rattle.slpf_rules.specs.Filed.{is_net}
use Rattle.slpf_rules.specs.Slots.{is_free, is_of}

-- the first place at which a net may stand
abbrev pub home : ℕ → ℕ → ℕ → ℕ
home shift bits width = (bits + width) * 1_327_217_885 % 4_294_967_296 / 2 ^ (min shift 32)

-- whether a place is one at which its net may stand
abbrev pub is_near : ℕ → ℕ → Slot → Bool
is_near shift at slot = nat_le (home shift slot.bits slot.width) at && nat_lt at (home shift slot.bits slot.width + 8)

-- whether a flow is a net
abbrev pub is_of_net : Flow → Bool
is_of_net (flow.Net4 net) = true
is_of_net (flow.Net6 net) = true
is_of_net (flow.Conn4 protocol src src_port dst dst_port) = false
is_of_net (flow.Conn6 protocol src src_port dst dst_port) = false

-- whether a rule is of a net, is in force from a moment on, and has no end
abbrev pub is_lasting : ℕ → Rule → Bool
is_lasting moment rule = is_of_net rule.flow && nat_le rule.start moment && is_none rule.stop

-- each place that is taken was taken so before
abbrev pub Keeps : List Slot → List Slot → Type 0
Keeps old new = (at : ℕ) (slot : Slot) → slice_get new at ≡ Some slot → is_free slot ≡ false → slice_get old at ≡ Some slot

-- each place is as before, or has this
abbrev pub Adds : List Slot → List Slot → Slot → Type 0
Adds old new slot = (at : ℕ) (other : Slot) → slice_get new at ≡ Some other → (slice_get old at ≡ Some other) ⊎ (other ≡ slot)

-- this stands near the home of its net
pub record Stands (slots : List Slot) (shift : ℕ) (slot : Slot) : Type 0 where
  pub place : ℕ
  pub there : slice_get slots place ≡ Some slot
  pub near : is_near shift place slot ≡ true
  pub taken : is_free slot ≡ false

-- a rule is alone under the net of a place that tells of it
pub record IsAlone (net_of : Flow → Option AnyNet) (rules : List Rule) (since : ℕ) (slot : Slot) : Type 0 where
  pub rule : Rule
  pub alone : (net : Net4) → is_of net slot ≡ true → filter (λ other. is_net (V4 net) (net_of other.flow)) rules ≡ rule ∷ []
  pub number : slot.number ≡ rule.number
  pub deny : slot.deny ≡ rule.deny
  pub direction : slot.direction ≡ Some rule.direction
  pub lasting : is_lasting since rule ≡ true

-- this is read where its net is looked up
abbrev pub Reads : Quick → Slot → Type 0
Reads quick slot = Stands quick.slots.items quick.shift slot

-- so it is of each place that is read
abbrev pub AreAlone : (Flow → Option AnyNet) → List Rule → Quick → Type 0
AreAlone net_of rules quick = (slot : Slot) → Reads quick slot → IsAlone net_of rules quick.since slot
