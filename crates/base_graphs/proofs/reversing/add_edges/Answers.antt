use Rattle.std.proofs.Common.{◌<◌, length, take, get_or, arith}
use Rattle.std.proofs.lemmas.List.{take_more}
use Rattle.base_graphs.proofs.BackLemmas.{AddsEdges-one, AddsEdges-more}
use Rattle.base_graphs.proofs.reversing.add_edges.Goals as goal

pub loop-place-preserved : goal.loop-place-preserved
loop-place-preserved c =
    let i = c.loop-place.place-index in
    let x = get_or c.args.places.now i 0 in
    let lt : x < length c.loop-place.back.items = omega (arith, c.requires i 0 c.loop-place-test.true, c.loop-place.invariant.len) in
    rw (take_more c.args.places.now i 0 c.loop-place-test.true)
    (AddsEdges-more c.args.from x (take i c.args.places.now) c.args.back.now.items c.loop-place.back.items c.add_at.new.back.items c.loop-place.invariant
    (rw c.in_ok-add_at.ensures (AddsEdges-one c.args.from x c.loop-place.back.items lt)))
