-- Promise: Which rules a rule shadows.
use Rattle.std.specs.Prelude.{ℕ, ◌<◌, ◌^◌, IsTrue}
use Rattle.oc2_nets.specs.declared.packets.Packet.{Packet}
use Rattle.slpf_rules.specs.declared.rules.Rule.{Rule}
use Rattle.slpf_rules.specs.Verdicts.{decides}
use Rattle.slpf_shadow.specs.Packets.{IsPacket}

-- The earlier rule has the smaller number. For each packet and each moment, in milliseconds: where the later rule is in
-- force, has the packet's direction and covers it, so does the earlier rule. A rule for which there is no such packet
-- and moment is shadowed by each rule before it.
pub record Shadows (earlier later : Rule) : Type 0 where
  pub before : earlier.number < later.number
  pub always : (packet : Packet) (moment : ℕ) → IsPacket packet → moment < 2 ^ 64
      → IsTrue (decides packet moment later) → IsTrue (decides packet moment earlier)
