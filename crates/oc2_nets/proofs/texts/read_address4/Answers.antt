use Rattle.std.proofs.Common.{sym, ap, ◌∙◌, Some}
use Rattle.std.specs.declared.net.ipv4_addr.Ipv4Addr.{Ipv4Addr}
use Rattle.std.specs.Net.Addr.{ipv4_octets, ipv4_bits}
use Rattle.oc2_nets.proofs.Ipv4Lemmas.{address4_none}
use Rattle.oc2_nets.proofs.AddressBits.{dotted_bits}
use Rattle.oc2_nets.proofs.texts.read_address4.Goals as goal

pub returns-in-Ok : goal.returns-in-Ok
unfolding ipv4_bits
returns-in-Ok c = ap Some c.to_bits.ensures ∙ dotted_bits c.args.text.now (ipv4_octets c.in-Ok.address) c.in-Ok.ensures.value

pub returns-in-Err : goal.returns-in-Err
returns-in-Err c = sym (address4_none c.args.text.now λ os h. let address : Ipv4Addr = record { octets = os } in c.in-Err.ensures.value address h)
