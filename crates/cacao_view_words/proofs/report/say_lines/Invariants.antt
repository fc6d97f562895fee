use Rattle.std.proofs.Common.{take}
use Rattle.cacao_cli_ends.specs.Lines.{SaysAll}
use Rattle.cacao_view_words.proofs.report.say_lines.Given as goal

abbrev pub invariant-loop-line : goal.invariant-loop-line
invariant-loop-line g l = SaysAll (take l.line-index l.lines) (g.S.Disk.view l.fn.site) (g.S.Disk.view l.site)
