use Rattle.std.proofs.Common.{◌≡◌, ◌++◌, drop, map}
use Rattle.cacao_view_explain.proofs.break_lines.add_lines.Given as goal

abbrev pub invariant-loop-line : goal.invariant-loop-line
invariant-loop-line l =
    l.lines ++ map (λ line. line.now) (drop l.line-index l.told) ≡ l.initial.lines ++ map (λ line. line.now) l.told
