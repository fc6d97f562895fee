use Rattle.std.proofs.Common.{◌∙◌, ap}
use Rattle.serde_json.specs.Data.{Data}
use Rattle.cacao_view_preflight.specs.Settled.{settled}
use Rattle.cacao_view_preflight.proofs.settled.settle_number.Goals as goal

pub returns : goal.returns
returns c =
    c.in_ok-settle.ensures ∙ ap (λ (d : Data). settled c.args.name.now d c.args.pairs.now) c.whole_tree.ensures
