use Rattle.std.proofs.Common.{◌∙◌, sym}
use Rattle.cacao_view_faults.proofs.StandLemmas.{begun}
use Rattle.cacao_view_faults.proofs.begun.is_begun_before.Goals as goal

pub returns : goal.returns
returns c = λ t. begun c.args.bytes.now c.args.at (sym c.in_ok-yes.ensures ∙ t)
