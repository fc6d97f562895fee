use Rattle.std.proofs.Common.{ℕ, ◌<◌, ◌≤◌, List, Option, None, length, get_or, ap, sym, ◌∙◌, arith}
use Rattle.base_dues.proofs.MomentLemmas.{get-past, get-some, get-none}
use Rattle.base_dues.proofs.moments.Moments.get.Goals as goal

pub returns-then-number-len : goal.returns-then-number-len
returns-then-number-len c =
    let past : length c.self.inside.there.items ≤ c.args.number = omega (arith, c.if-number-len.true, c.len.ensures, c.self.inside.there.ok.0) in
    sym (get-past c.self.inside.there.items c.self.inside.times.items c.args.number past) ∙ ap (λ (l : List (Option ℕ)). get_or l c.args.number None) c.self.view_is

pub returns-then-index : goal.returns-then-index
returns-then-index c =
    let lt : c.args.number < length c.self.inside.there.items = omega (arith, c.if-number-len.false, c.len.ensures, c.self.inside.there.ok.0) in
    sym (get-some c.self.inside.there.items c.self.inside.times.items c.args.number c.index.result.now c.index-then-index.result.now
    c.self.invariant lt c.index.ensures c.if-index.true c.index-then-index.ensures)
    ∙ ap (λ (l : List (Option ℕ)). get_or l c.args.number None) c.self.view_is

pub returns-else-index : goal.returns-else-index
returns-else-index c =
    let lt : c.args.number < length c.self.inside.there.items = omega (arith, c.if-number-len.false, c.len.ensures, c.self.inside.there.ok.0) in
    sym (get-none c.self.inside.there.items c.self.inside.times.items c.args.number c.index.result.now c.self.invariant lt c.index.ensures c.if-index.false)
    ∙ ap (λ (l : List (Option ℕ)). get_or l c.args.number None) c.self.view_is
