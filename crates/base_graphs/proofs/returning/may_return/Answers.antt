use Rattle.std.proofs.Common.{sym, ◌∙◌}
use Rattle.base_graphs.proofs.RankLemmas.{marked_of_all, marked_of_stays}
use Rattle.base_graphs.proofs.returning.may_return.Goals as goal

pub returns-then-not-never_fall : goal.returns-then-not-never_fall
returns-then-not-never_fall c = marked_of_all c.args.count c.args.free.now c.args.guarded.now c.in_ok-all.all c.in_ok-all.ensures c.requires.free_within c.requires.guarded_within

pub returns : goal.returns
returns c =
    marked_of_stays c.args.count c.args.free.now c.args.guarded.now c.deref.result.now c.deref-2.result.now c.in_ok-marks.marks (c.deref-2.ensures.value ∙ sym c.deref.ensures.value)
    (c.never_fall.ensures.one c.if-not-never_fall.false) (c.never_fall.ensures.other c.if-not-never_fall.false) c.requires.free_within c.requires.guarded_within c.in_ok-marks.ensures
