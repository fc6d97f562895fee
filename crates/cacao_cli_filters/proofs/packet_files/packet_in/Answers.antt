-- A line is read where it is UTF-8.
use Rattle.std.proofs.Common.{◌∙◌, ap}
use Rattle.oc2_nets.specs.Packets.{packet_of}
use Rattle.cacao_cli_filters.proofs.PacketLemmas.{read-some, read-none}
use Rattle.cacao_cli_filters.proofs.packet_files.packet_in.Goals as goal

pub returns-in-Ok : goal.returns-in-Ok
returns-in-Ok c = c.read_packet.ensures ∙ ap packet_of c.in-Ok.ensures.cases.0 ∙ read-some c.args.line.now c.in-Ok.ensures.cases.1

pub returns-in-Err : goal.returns-in-Err
returns-in-Err c = read-none c.args.line.now c.in-Err.ensures.cases.0
