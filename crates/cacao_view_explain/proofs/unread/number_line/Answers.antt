use Rattle.std.proofs.lemmas.Result.{IfOk-weaker}
use Rattle.cacao_json.specs.declared.error.JsonError.TheVariants.{NotWhole}
use Rattle.cacao_cli_looks.specs.Command.{text_of}
use Rattle.cacao_view_explain.specs.Reasons.{TellsReason}
use Rattle.cacao_view_explain.proofs.UnreadLemmas.{tells_number}
use Rattle.cacao_view_explain.proofs.unread.number_line.Goals as goal

pub returns : goal.returns
returns c =
    IfOk-weaker c.one_place.result _ (TellsReason (text_of c.args.text.now) (NotWhole c.args.number))
    (λ lines are. tells_number (text_of c.args.text.now) c.args.at c.args.number c.args.what.now lines c.requires.broken are) c.one_place.ensures
