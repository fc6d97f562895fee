use Rattle.std.proofs.Common.{◌≡◌, ℕ, ◌≤◌, None, cond, length, subst, arith}
use Rattle.std.specs.Prelude.{◌==◌}
use Rattle.base_dues.specs.Pairs.{Queue, at, without, listed}
use Rattle.base_dues.proofs.ListedLemmas.{removed, absent_each, at_past, IsQueue-listed}
use Rattle.base_dues.proofs.dues.Dues.remove.Goals as goal

pub returns-then-number-len-clause-pairs : goal.returns-then-number-len-clause-pairs
returns-then-number-len-clause-pairs c =
    let ms = c.self.inside.moments in
    let n = c.args.number in
    let past : length ms ≤ n = omega (arith, c.len.ensures) in
    subst (λ (q : Queue). q.pairs ≡ without q.pairs n) c.self.view_is
    (removed (listed ms) (listed ms) n (IsQueue-listed ms) (IsQueue-listed ms) (λ k. absent_each (listed ms) n k (at_past ms n past)))

pub returns-then-number-len-clause-each : goal.returns-then-number-len-clause-each
returns-then-number-len-clause-each c =
    let ms = c.self.inside.moments in
    let n = c.args.number in
    let past : length ms ≤ n = omega (arith, c.len.ensures) in
    subst (λ (q : Queue). (k : ℕ) → at q.pairs k ≡ cond (k == n) None (at q.pairs k)) c.self.view_is (λ k. absent_each (listed ms) n k (at_past ms n past))

pub returns-clause-pairs : goal.returns-clause-pairs
returns-clause-pairs c = removed c.args.self.now.pairs c.give.new.self.pairs c.args.number c.give.ensures.was c.give.ensures.queue c.give.ensures.each
