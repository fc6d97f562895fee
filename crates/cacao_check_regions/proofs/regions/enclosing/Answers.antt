use Rattle.std.proofs.Common.{◌≡◌, length, ap, arith}
use Rattle.cacao_check_regions.specs.Regions.{Encloses}
use Rattle.cacao_check_regions.proofs.ChartLemmas.{MarksBelow-all, encloses_within}
use Rattle.cacao_check_regions.proofs.regions.enclosing.Goals as goal

pub returns : goal.returns
returns c =
    let same : length c.as_slice-count.result.now ≡ length c.args.book.now.steps = ap length c.as_slice-count.ensures.steps in
    MarksBelow-all (λ place. Encloses c.args.book.now place place) c.loop-place.place c.loop-place.marks (λ p e. let lt = encloses_within c.args.book.now p e in omega (arith, same)) c.loop-place.invariant.1
