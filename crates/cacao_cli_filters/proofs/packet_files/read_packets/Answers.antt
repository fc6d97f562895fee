-- The lines so far have packets.
use Rattle.std.proofs.Common.{◌≡◌, ◌∙◌, sym, ap, subst, arith, ℕ, ◌+◌, List, Err}
use Rattle.oc2_nets.specs.declared.packets.Packet.{Packet}
use Rattle.cacao_cli_filters.proofs.PacketLemmas.{IsSoFar, so_far-none, so_far-more, so_far-bad}
use Rattle.cacao_cli_filters.proofs.packet_files.read_packets.Goals as goal

pub loop-line-init : goal.loop-line-init
loop-line-init c = record {
  so = subst (λ (l : List (ℕ × Packet)). IsSoFar c.args.bytes.now l 1 c.args.bytes.now) (sym c.new-packets.ensures.items) (so_far-none c.args.bytes.now);
  few = omega (arith, c.requires);
}

pub returns-in_default-packet_in-clause-line : goal.returns-in_default-packet_in-clause-line
returns-in_default-packet_in-clause-line c = λ number is.
    let same : c.loop-line.number ≡ number = cc in
    so_far-bad c.args.bytes.now c.loop-line.packets.items c.loop-line.number c.loop-line.rest.now c.in-Some.line.now c.in-Some.behind.now c.loop-line.invariant.so c.in-Some.ensures.parts c.in_default-packet_in.ensures ∙ ap Err same

pub loop-line-preserved : goal.loop-line-preserved
loop-line-preserved c = record {
  so = subst (λ (l : List (ℕ × Packet)). IsSoFar c.args.bytes.now l (c.loop-line.number + 1) c.in-Some.behind.now) (sym c.in-Ok.ensures.items)
      (so_far-more c.args.bytes.now c.loop-line.packets.items c.loop-line.number c.loop-line.rest.now c.in-Some.line.now c.in-Some.behind.now c.in-Some-packet_in.packet c.loop-line.invariant.so c.in-Some.ensures.parts c.in-Some-packet_in.ensures);
  few = omega (arith, c.loop-line.invariant.few, c.in-Some.ensures.shorter);
}
