use Rattle.std.proofs.Common.{[], ◌∷◌, refl}
use Rattle.cacao_check_regions.proofs.TableLemmas.{same_search}
use Rattle.cacao_check_regions.proofs.SightLists.{around_iff}
use Rattle.cacao_check_regions.proofs.seeing.places_around.Goals as goal

pub returns : goal.returns
returns c =
    around_iff c.args.book.now c.args.chart.now c.requires.chart c.args.name.now c.args.place c.in_ok-hiding.hiding c.in_ok-marks.marks c.in_ok-hiding.ensures
    (same_search (c.args.place ∷ []) (c.args.place ∷ []) c.deref.result.now c.args.chart.now.back_next.items c.deref-2.result.now c.args.chart.now.back_heads.items c.new-none.result [] c.in_ok-hiding.hiding c.in_ok-hiding.hiding c.in_ok-marks.marks refl c.deref.ensures.value c.deref-2.ensures.value c.new-none.ensures refl c.in_ok-marks.ensures.exact)
