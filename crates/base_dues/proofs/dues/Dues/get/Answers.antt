use Rattle.std.proofs.Common.{sym, ap, ◌∙◌}
use Rattle.base_dues.specs.Pairs.{Queue, at}
use Rattle.base_dues.proofs.ListedLemmas.{at-listed}
use Rattle.base_dues.proofs.dues.Dues.get.Goals as goal

pub returns : goal.returns
returns c = c.get.ensures ∙ sym (at-listed c.self.inside.moments c.args.number) ∙ ap (λ (q : Queue). at q.pairs c.args.number) c.self.view_is
