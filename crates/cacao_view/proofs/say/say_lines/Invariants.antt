use Rattle.std.proofs.Common.{take}
use Rattle.cacao_view_words.specs.Texts.{lines_in}
use Rattle.cacao_view.specs.Lines.{SaysAll}
use Rattle.cacao_view.proofs.say.say_lines.Given as goal

abbrev pub invariant-loop-line : goal.invariant-loop-line
invariant-loop-line g l = SaysAll (lines_in (take l.line-index l.lines)) (g.S.Disk.view l.fn.site) (g.S.Disk.view l.site)
