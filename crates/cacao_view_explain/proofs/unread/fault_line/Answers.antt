use Rattle.std.proofs.lemmas.Result.{IfOk-weaker}
use Rattle.cacao_json.specs.declared.error.JsonError.TheVariants.{NotJson}
use Rattle.cacao_cli_looks.specs.Command.{text_of}
use Rattle.cacao_view_explain.specs.Reasons.{TellsReason}
use Rattle.cacao_view_explain.proofs.UnreadLemmas.{tells_fault_at}
use Rattle.cacao_view_explain.proofs.unread.fault_line.Goals as goal

pub returns : goal.returns
returns c =
    IfOk-weaker c.one_place.result _ (TellsReason (text_of c.args.text.now) NotJson)
    (λ lines are. tells_fault_at (text_of c.args.text.now) c.args.told.fault.at c.args.told.fault.what.now lines c.requires are) c.one_place.ensures
