use Rattle.std.proofs.Common.{sym, ap, ◌∙◌, length}
use Rattle.base_dues.specs.Pairs.{Queue}
use Rattle.base_dues.proofs.ListedLemmas.{length-listed}
use Rattle.base_dues.proofs.dues.Dues.len.Goals as goal

pub returns : goal.returns
returns c = c.self.invariant.counted ∙ sym (length-listed c.self.inside.moments) ∙ ap (λ (q : Queue). length q.pairs) c.self.view_is
