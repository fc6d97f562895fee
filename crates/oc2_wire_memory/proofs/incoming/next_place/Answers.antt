use Rattle.std.proofs.Common.{◌≡◌, ◌<◌, ◌∙◌, [], length, ap, arith, sym}
use Rattle.std.proofs.lemmas.List.{get_or_default}
use Rattle.oc2_wire_memory.specs.Pieces.{piece_at}
use Rattle.oc2_wire_memory.proofs.PieceLemmas.{count_next}
use Rattle.oc2_wire_memory.proofs.incoming.next_place.Goals as goal

pub loop-at-preserved : goal.loop-at-preserved
loop-at-preserved c =
    let lt : c.loop-at.at < length c.args.pieces.now = omega (arith, c.loop-at-test.true) in
    let same : piece_at c.args.pieces.now c.loop-at.at ≡ c.index-pieces-at.result = get_or_default c.args.pieces.now c.loop-at.at [] c.index-pieces-at.result lt ∙ sym c.index-pieces-at.is in
    let all : c.loop-at.from ≡ length (piece_at c.args.pieces.now c.loop-at.at) = omega (arith, ap length same, c.len.ensures, c.if-from-len.true, c.loop-at.invariant.place) in
    record {
      number = omega (arith, lt);
      place = omega arith;
      count = count_next c.args.pieces.now c.loop-at.at c.loop-at.from lt all ∙ c.loop-at.invariant.count;
    }
