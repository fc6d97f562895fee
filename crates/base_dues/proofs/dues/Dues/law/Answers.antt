use Rattle.std.proofs.Common.{◌≡◌, ℕ, ◌≤◌, None, subst}
use Rattle.base_dues.specs.Pairs.{Queue, at, IsQueue}
use Rattle.base_dues.proofs.ListedLemmas.{IsQueue-listed, at_past}
use Rattle.base_dues.proofs.dues.Dues.law.Goals as goal

pub returns-clause-queue : goal.returns-clause-queue
returns-clause-queue c = subst (λ (q : Queue). IsQueue q.pairs) c.self.view_is (IsQueue-listed c.self.inside.moments)

pub returns-clause-within : goal.returns-clause-within
returns-clause-within c =
    subst (λ (q : Queue). (n : ℕ) → q.room ≤ n → at q.pairs n ≡ None) c.self.view_is (λ n le. at_past c.self.inside.moments n le)
