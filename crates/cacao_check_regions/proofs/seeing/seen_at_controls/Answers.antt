use Rattle.std.proofs.Common.{◌≡◌, ◌<◌, List, Some, slice_get, length, refl, ap, subst, arith}
use Rattle.std.proofs.lemmas.Option.{slice_get_read}
use Rattle.cacao_book.specs.declared.steps.Step.{Step}
use Rattle.cacao_check_regions.proofs.ChartLemmas.{heads_read}
use Rattle.cacao_check_regions.proofs.SightLists.{SeesBelow-more, SeesBelow-all}
use Rattle.cacao_check_regions.proofs.seeing.seen_at_controls.Goals as goal

pub loop-control-preserved : goal.loop-control-preserved
loop-control-preserved c =
    let i = c.loop-control.control in
    let same : length c.as_slice-step-items.result.now ≡ length c.args.book.now.steps = ap length c.as_slice-step-items.ensures.steps in
    let lt : i < length c.args.book.now.steps = omega (arith, same, c.loop-control-test.true) in
    let here : slice_get c.args.book.now.steps i ≡ Some c.step-item.result = subst (λ (v : List Step). slice_get v i ≡ Some c.step-item.result) c.as_slice-step-items.ensures.steps (slice_get_read c.as_slice-step-items.result.now (length c.as_slice-step-items.result.now) i c.step-item.result refl c.loop-control-test.true c.step-item.is) in (
      SeesBelow-more c.args.book.now c.args.name.now c.args.marks.now i c.step-item.result c.as_slice-heads.result.now c.loop-control.items.items c.add_control.new.items.items here
          (heads_read c.args.book.now c.args.chart.now c.requires i c.index.result.now c.as_slice-heads.result.now lt c.index.ensures c.as_slice-heads.ensures)
          c.loop-control.invariant.0 c.in_ok-add_control.ensures.items,
      c.in_ok-add_control.ensures.once c.loop-control.invariant.1,
    )

pub returns-clause-items : goal.returns-clause-items
returns-clause-items c =
    let same : length c.as_slice-step-items.result.now ≡ length c.args.book.now.steps = ap length c.as_slice-step-items.ensures.steps in
    SeesBelow-all c.args.book.now c.args.name.now c.args.marks.now c.loop-control.control c.loop-control.items.items (omega (arith, same, c.loop-control-test.false)) c.loop-control.invariant.0
