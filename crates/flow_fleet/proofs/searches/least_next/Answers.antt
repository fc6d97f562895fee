use Rattle.std.proofs.Common.{length, refl, arith}
use Rattle.std.proofs.lemmas.Option.{slice_get_read}
use Rattle.flow_fleet.proofs.Scans.{least_more}
use Rattle.flow_fleet.proofs.SearchLemmas.{least_end}
use Rattle.flow_fleet.proofs.searches.least_next.Goals as goal

pub loop-place-preserved : goal.loop-place-preserved
loop-place-preserved c =
    let engines = c.args.engines.now in
    let there = slice_get_read engines (length engines) c.loop-place.place c.index-engines-place.result refl c.loop-place-test.true c.index-engines-place.is in
    least_more engines c.loop-place.place c.index-engines-place.result there c.loop-place.least c.next_of.result c.lesser-least.result c.lesser-least.ensures c.loop-place.invariant c.next_of.ensures

pub returns : goal.returns
returns c = least_end c.args.engines.now c.loop-place.place c.loop-place.least (omega (arith, c.loop-place-test.false)) c.loop-place.invariant
