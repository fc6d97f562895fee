use Rattle.std.proofs.Common.{◌≡◌, ◌++◌, List, length}
use Rattle.cacao_cli_words.specs.Words.{Text}
use Rattle.flow_engine_reports.specs.RunLines.{lines_of}
use Rattle.cacao_cli_ends.specs.Lines.{SaysAll}
use Rattle.cacao_cli_looks.proofs.say_text.say_each.Given as goal

abbrev pub invariant-loop-line : goal.invariant-loop-line
invariant-loop-line g l = (front : List Text) × (lines_of l.text ≡ front ++ lines_of l.rest) × SaysAll front (g.S.Disk.view l.fn.site) (g.S.Disk.view l.site)

abbrev pub decreases-loop-line : goal.decreases-loop-line
decreases-loop-line g l = length l.rest
