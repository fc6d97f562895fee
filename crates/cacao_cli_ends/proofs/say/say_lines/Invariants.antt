use Rattle.std.proofs.Common.{map, take, string_bytes}
use Rattle.cacao_cli_ends.specs.Lines.{SaysAll}
use Rattle.cacao_cli_ends.proofs.say.say_lines.Given as goal

abbrev pub invariant-loop-line : goal.invariant-loop-line
invariant-loop-line g l = SaysAll (map string_bytes (take l.line-index l.lines)) (g.S.Disk.view l.fn.site) (g.S.Disk.view l.site)
