use Rattle.std.proofs.Common.{arith}
use Rattle.std.proofs.lemmas.Result.{IfOk-weaker}
use Rattle.cacao_cli_looks.specs.Command.{text_of}
use Rattle.cacao_view_explain.specs.Lines.{TellsPart}
use Rattle.cacao_view_explain.proofs.BreakLemmas.{tells_name}
use Rattle.cacao_view_explain.proofs.part_line.named_line.Goals as goal

pub told_line-requires : goal.told_line-requires
told_line-requires c = omega (arith, c.requires.before, c.requires.there.before)

pub returns : goal.returns
returns c =
    IfOk-weaker c.told_line.result _ (λ line. TellsPart (text_of c.args.text.now) c.args.path.now c.args.what.now line.items)
    (λ line is. tells_name (text_of c.args.text.now) c.args.path.now c.args.from c.args.end c.args.at c.args.name.now c.args.what.now line.items c.requires.stands c.requires.begins c.requires.there is)
    c.told_line.ensures
