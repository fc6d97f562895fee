use Rattle.std.proofs.Common.{◌∙◌}
use Rattle.cacao_view_preflight.proofs.ChangeLemmas.{has_open-trees}
use Rattle.cacao_view_preflight.proofs.opens.has_open.Goals as goal

pub returns : goal.returns
returns c = c.is_any_open.ensures ∙ has_open-trees c.args.items.now
