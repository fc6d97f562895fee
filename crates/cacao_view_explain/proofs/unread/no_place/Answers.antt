use Rattle.std.proofs.lemmas.Result.{IfOk-weaker}
use Rattle.cacao_json.specs.declared.error.JsonError.TheVariants.{NotJson, NotWhole, RepeatedName}
use Rattle.cacao_cli_looks.specs.Command.{text_of}
use Rattle.cacao_view_explain.specs.Reasons.{TellsReason}
use Rattle.cacao_view_explain.proofs.UnreadLemmas.{untold_not_json, untold_number, untold_twice}
use Rattle.cacao_view_explain.proofs.unread.no_place.Goals as goal

pub returns-clause-not_json : goal.returns-clause-not_json
returns-clause-not_json c =
    IfOk-weaker c.one_text.result _ (TellsReason (text_of c.args.text.now) NotJson)
    (λ lines are. untold_not_json (text_of c.args.text.now) c.args.what.now lines c.requires are) c.one_text.ensures

pub returns-clause-repeated : goal.returns-clause-repeated
returns-clause-repeated c = λ colons members.
    IfOk-weaker c.one_text.result _ (TellsReason (text_of c.args.text.now) (RepeatedName colons members))
    (λ lines are. untold_twice (text_of c.args.text.now) colons members c.args.what.now lines c.requires are) c.one_text.ensures

pub returns-clause-number : goal.returns-clause-number
returns-clause-number c = λ index.
    IfOk-weaker c.one_text.result _ (TellsReason (text_of c.args.text.now) (NotWhole index))
    (λ lines are. untold_number (text_of c.args.text.now) index c.args.what.now lines c.requires are) c.one_text.ensures
