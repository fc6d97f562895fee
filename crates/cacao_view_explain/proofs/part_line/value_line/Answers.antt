use Rattle.std.proofs.lemmas.Result.{IfOk-weaker}
use Rattle.cacao_cli_looks.specs.Command.{text_of}
use Rattle.cacao_view_explain.specs.Lines.{TellsPart}
use Rattle.cacao_view_explain.proofs.BreakLemmas.{tells_value}
use Rattle.cacao_view_explain.proofs.part_line.value_line.Goals as goal

pub returns : goal.returns
returns c =
    IfOk-weaker c.told_line.result _ (λ line. TellsPart (text_of c.args.text.now) c.args.path.now c.args.what.now line.items)
    (λ line is. tells_value (text_of c.args.text.now) c.args.path.now c.args.from c.args.end c.args.what.now line.items c.requires.stands is) c.told_line.ensures
