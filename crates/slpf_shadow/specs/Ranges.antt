-- Scaffold: Numbers that fit their types.
use Rattle.std.specs.Prelude.{◌≡◌, ℕ, ◌<◌, ◌≤◌, ◌^◌, Option, Some, None}
use Rattle.oc2_nets.specs.Families.{is_v4}
use Rattle.slpf_rules.specs.declared.rules.Rule.{Rule}
use Rattle.slpf_shadow.specs.declared.connections.Connection.{Connection}
use Rattle.slpf_shadow.specs.declared.shapes.Shape.{Shape}
use Rattle.slpf_shadow.specs.declared.shapes.Shape.TheVariants.{Net, Parts}
use Rattle.slpf_shadow.specs.Packets.{IsAddress}
use Rattle.slpf_shadow.specs.Nets.{first_address}
use Rattle.slpf_shadow.specs.Shapes.{shape}

abbrev pub IsPort : Option ℕ → Type 0
IsPort None = Unit {0}
IsPort (Some port) = port ≤ 65_535

abbrev pub IsMoment : Option ℕ → Type 0
IsMoment None = Unit {0}
IsMoment (Some moment) = moment < 2 ^ 64

-- the numbers of a connection fit, and its nets are of one family
pub record AreParts (c : Connection) : Type 0 where
  pub source : IsAddress (first_address c.source)
  pub source_port : IsPort c.source_port
  pub destination : IsAddress (first_address c.destination)
  pub destination_port : IsPort c.destination_port
  pub one_family : is_v4 (first_address c.source) ≡ is_v4 (first_address c.destination)

abbrev pub IsInRange : Shape → Type 0
IsInRange (Net net) = IsAddress (first_address net)
IsInRange (Parts c) = AreParts c

-- the numbers of a rule fit
pub record IsRule (rule : Rule) : Type 0 where
  pub flow : IsInRange (shape rule.flow)
  pub start : rule.start < 2 ^ 64
  pub stop : IsMoment rule.stop
