use Rattle.std.proofs.Common.{length, refl, arith}
use Rattle.std.proofs.lemmas.Option.{slice_get_read}
use Rattle.flow_fleet.specs.Searches.{IsUnusedBy}
use Rattle.flow_fleet.proofs.Scans.{all_have, next_has}
use Rattle.flow_fleet.proofs.searches.first_used.Goals as goal

pub loop-place-preserved : goal.loop-place-preserved
loop-place-preserved c =
    let engines = c.args.engines.now in
    let there = slice_get_read engines (length engines) c.loop-place.place c.index-engines-place.result refl c.loop-place-test.true c.index-engines-place.is in
    next_has engines (λ k. IsUnusedBy c.args.filters.now) c.loop-place.place c.index-engines-place.result there c.loop-place.invariant c.in_default.ensures

pub returns : goal.returns
returns c = all_have c.args.engines.now (λ k. IsUnusedBy c.args.filters.now) c.loop-place.place (omega (arith, c.loop-place-test.false)) c.loop-place.invariant
