use Rattle.std.proofs.lemmas.Result.{IfOk-weaker}
use Rattle.cacao_cli_looks.specs.Command.{text_of}
use Rattle.cacao_view_explain.specs.Lines.{TellsPart}
use Rattle.cacao_view_explain.proofs.BreakLemmas.{tells_text}
use Rattle.cacao_view_explain.proofs.part_line.bare_line.Goals as goal

pub returns : goal.returns
returns c =
    IfOk-weaker c.text_line.result _ (λ line. TellsPart (text_of c.args.text.now) c.args.path.now c.args.what.now line.items)
    (λ line is. tells_text (text_of c.args.text.now) c.args.path.now c.args.what.now line.items is) c.text_line.ensures
