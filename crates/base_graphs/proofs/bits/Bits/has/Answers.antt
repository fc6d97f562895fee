use Rattle.std.proofs.Common.{◌≡◌, false, get_or, sym, ◌∙◌, ap, rules}
use Rattle.base_graphs.proofs.WordLemmas.{mark_read, marks_past}
use Rattle.base_graphs.proofs.bits.Bits.has.Goals as goal

pub returns-then-at-self : goal.returns-then-at-self
returns-then-at-self c = mark_read c.self.inside.count c.args.place c.index.result.now c.self.inside.words.items c.args.self.now (sym c.self.view_is) c.if-at-self.true c.self.invariant c.index.ensures

pub returns-else-at-self : goal.returns-else-at-self
returns-else-at-self c =
    let none : get_or c.args.self.now c.args.place false ≡ false = ap (λ v. get_or v c.args.place false) (sym c.self.view_is) ∙ marks_past c.self.inside.count c.self.inside.words.items c.args.place c.if-at-self.false in
    search (rules, none)
