use Rattle.std.proofs.Common.{◌≡◌, take}
use Rattle.cacao_view_explain.specs.Plain.{shown}
use Rattle.cacao_view_explain.proofs.lines.shown.Given as goal

abbrev pub invariant-loop-n : goal.invariant-loop-n
invariant-loop-n l = l.made.items ≡ shown (take l.n l.words)
