use Rattle.std.proofs.Common.{string_bytes}
use Rattle.std.proofs.lemmas.Result.{IfOk-weaker}
use Rattle.cacao_view_faults.specs.Stands.{LeadsOn}
use Rattle.cacao_view_faults.proofs.StandLemmas.{leads_base}
use Rattle.cacao_view_faults.proofs.standing.path_of.Goals as goal

pub returns-in_default : goal.returns-in_default
returns-in_default c =
    IfOk-weaker c.from_str.result _ (λ path. LeadsOn c.args.bytes.now c.args.base.now (string_bytes path))
    (λ path is. leads_base c.args.bytes.now c.args.base.now (string_bytes path) is) c.from_str.ensures.ok
