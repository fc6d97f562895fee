use Rattle.std.proofs.Common.{ℕ, sym, ap, ◌∙◌, length}
use Rattle.std.specs.Prelude.{◌==◌}
use Rattle.base_dues.specs.Pairs.{Queue}
use Rattle.base_dues.proofs.ListedLemmas.{length-listed}
use Rattle.base_dues.proofs.dues.Dues.is_empty.Goals as goal

pub returns : goal.returns
returns c = ap (λ (n : ℕ). n == 0) (c.self.invariant.counted ∙ sym (length-listed c.self.inside.moments) ∙ ap (λ (q : Queue). length q.pairs) c.self.view_is)
