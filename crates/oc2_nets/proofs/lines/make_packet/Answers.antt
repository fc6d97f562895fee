use Rattle.std.proofs.Common.{◌≡◌, ℕ, Bool, true, false, Some, refl, sym}
use Rattle.std.specs.Coded.{Coded-set, coded_bool}
use Rattle.std.proofs.lemmas.Bool.{true≢false}
use Rattle.oc2_nets.specs.declared.packets.Protocol.{Protocol}
use Rattle.oc2_nets.specs.declared.packets.Address.{Address}
use Rattle.oc2_nets.specs.declared.packets.Address.TheVariants.{V4, V6}
use Rattle.oc2_nets.specs.declared.packets.Packet.{Packet}
use Rattle.oc2_nets.specs.Families.{is_v4}
use Rattle.oc2_nets.specs.Packets.{packet}
use Rattle.oc2_nets.proofs.lines.make_packet.Goals as goal

made : Bool → Protocol → ℕ → ℕ → (from to : Address) → is_v4 from ≡ is_v4 to → Packet
made outward protocol from_port to_port from to same =
    record { outward = outward; protocol = protocol; from = from; from_port = from_port; to = to; to_port = to_port; same_family = same }

some_packet : (outward : Bool) (protocol : Protocol) (from_port to_port : ℕ) (from to : Address) (same : is_v4 from ≡ is_v4 to) → Some (made outward protocol from_port to_port from to same) ≡ packet outward protocol from_port to_port from to
unfolding made
some_packet o p f t (V4 a) (V4 b) same = λ i. Some (made o p f t (V4 a) (V4 b) (Coded-set coded_bool true true same refl i))
some_packet o p f t (V6 a) (V6 b) same = λ i. Some (made o p f t (V6 a) (V6 b) (Coded-set coded_bool false false same refl i))
some_packet o p f t (V4 a) (V6 b) same = absurd (true≢false same)
some_packet o p f t (V6 a) (V4 b) same = absurd (true≢false (sym same))

pub returns : goal.returns
unfolding made
returns c = some_packet c.args.outward c.args.protocol c.args.from_port c.args.to_port c.args.from c.args.to _
