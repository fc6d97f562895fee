use Rattle.std.proofs.Common.{◌+◌, ◌≤◌, length}
use Rattle.cacao_cli_filters.proofs.PacketLemmas.{IsSoFar}
use Rattle.cacao_cli_filters.proofs.packet_files.read_packets.Given as goal

abbrev pub invariant-loop-line : goal.invariant-loop-line
invariant-loop-line l = record {
  so : IsSoFar l.bytes l.packets.items l.number l.rest;
  few : l.number + length l.rest ≤ 1_048_577;
}

abbrev pub decreases-loop-line : goal.decreases-loop-line
decreases-loop-line l = length l.rest
