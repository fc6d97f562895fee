use Rattle.std.proofs.Common.{◌≡◌, ◌<◌, length, Some, refl, sym, ap, ◌∙◌, arith, List}
use Rattle.std.specs.Prelude.{slice_get}
use Rattle.std.proofs.lemmas.Option.{slice_get_read}
use Rattle.cacao_book.specs.declared.steps.Step.{Step}
use Rattle.flow_core_texts.proofs.wordings.read_book.Goals as goal

pub read_parts-requires : goal.read_parts-requires
read_parts-requires c =
    let below : c.loop-place.place < length c.as_slice-steps.result.now = omega arith in
    let at : slice_get (c.args.book.now).steps c.loop-place.place ≡ Some c.index-steps-place.result =
    sym (ap (λ (steps : List Step). slice_get steps c.loop-place.place) c.as_slice-steps.ensures.steps)
    ∙ slice_get_read c.as_slice-steps.result.now (length c.as_slice-steps.result.now) c.loop-place.place c.index-steps-place.result refl below c.index-steps-place.is in
    (c.parts-parts.ensures c.args.book.now c.index-steps-place.result c.requires.book at).contents
