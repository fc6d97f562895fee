use Rattle.base_graphs.proofs.MarkLemmas.{Marks-one}
use Rattle.std.proofs.Common.{◌≡◌, false, sym, ◌∙◌}
use Rattle.std.specs.Prelude.{slice_index_or}
use Rattle.base_graphs.proofs.searching.mark_place.Goals as goal

pub returns : goal.returns
returns c =
    let free : slice_index_or c.args.blocked.now c.args.place false ≡ false = sym c.has.ensures ∙ c.if-has.false in
    let new : slice_index_or c.args.marks.now c.args.place false ≡ false = sym c.has-2.ensures ∙ c.if-has-2.false in
    rw (c.in_ok-push.ensures.items, c.mark.ensures) (Marks-one c.args.place c.args.blocked.now c.args.marks.now c.args.work.now.items c.requires free new)
