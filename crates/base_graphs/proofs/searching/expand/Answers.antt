use Rattle.std.proofs.Common.{sym, ◌∙◌}
use Rattle.base_graphs.proofs.MarkLemmas.{Marks-leads, Marks-shut}
use Rattle.base_graphs.proofs.searching.expand.Goals as goal

pub returns-then-has : goal.returns-then-has
returns-then-has c =
    Marks-shut c.args.free.now c.args.guarded.now c.args.shut.now c.args.blocked.now c.args.place _ _ _ _ (sym c.has.ensures ∙ c.if-has.true) (rw c.requires.none at c.in_ok-mark_from.ensures)

pub returns : goal.returns
returns c =
    Marks-leads c.args.free.now c.args.guarded.now c.args.shut.now c.args.blocked.now c.args.place _ _ _ _ _ _ (sym c.has.ensures ∙ c.if-has.false) (rw c.requires.none at c.in_ok-mark_from.ensures) c.in_ok-mark_from-2.ensures
