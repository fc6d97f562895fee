-- The first line feed is found.
use Rattle.std.proofs.Common.{◌≡◌, ◌∙◌, ◌+◌, ◌-◌, length-drop, sym, ap, List, ◌∷◌, take, drop, length, take_all, arith, ℕ}
use Rattle.flow_engine_reports.specs.RunLines.{lines_of}
use Rattle.flow_engine_reports.proofs.LineLemmas.{next-none, next-some}
use Rattle.flow_engine_reports.proofs.lines.next_line.Goals as goal

pub returns-in-Some-clause-lines : goal.returns-in-Some-clause-lines
returns-in-Some-clause-lines c =
    let text : List ℕ = c.args.text.now in
    let i : ℕ = c.in-Some.place in
    let behind : List ℕ = drop (i + 1) text in
    let whole : behind ≡ take (length text - (i + 1)) behind = sym (take_all (length text - (i + 1)) behind (omega (arith, length-drop {A = ℕ} (i + 1) text))) in
    next-some text i c.in-Some.ensures ∙ ap (λ (l : List ℕ). take (i + 1) text ∷ lines_of l) whole

pub returns-in-None-clause-lines : goal.returns-in-None-clause-lines
returns-in-None-clause-lines c = next-none c.args.text.now c.in-None.ensures
