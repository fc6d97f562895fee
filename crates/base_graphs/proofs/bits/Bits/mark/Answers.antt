use Rattle.std.proofs.Common.{◌≡◌, ◌<◌, length, set, true, sym, ◌∙◌, ap, arith}
use Rattle.base_graphs.proofs.WordLemmas.{marks_more, length-marks_of}
use Rattle.base_graphs.proofs.bits.Bits.mark.Goals as goal

pub index_mut-requires : goal.index_mut-requires
index_mut-requires c =
    let n : length c.args.self.now ≡ c.self.inside.count = ap length (sym c.self.view_is) ∙ length-marks_of c.self.inside.count c.self.inside.words.items in omega arith

pub returns : goal.returns
returns c =
    let n : length c.args.self.now ≡ c.self.inside.count = ap length (sym c.self.view_is) ∙ length-marks_of c.self.inside.count c.self.inside.words.items in
    let inside : c.args.place < c.self.inside.count = omega arith in
    marks_more c.self.inside.count c.args.place c.index_mut.result.now c.self.inside.words.items inside c.self.invariant c.index_mut.ensures.value ∙ ap (λ v. set v c.args.place true) c.self.view_is
