-- The lines so far were said.
use Rattle.std.proofs.Common.{subst, take_all, Bor, List, []}
use Rattle.cacao_view_words.specs.Texts.{Text, lines_in}
use Rattle.cacao_view.specs.Lines.{SaysAll}
use Rattle.cacao_view.proofs.SayLemmas.{failed-next, said-next}
use Rattle.cacao_view.proofs.say.say_lines.Goals as goal

pub returns-in-Err : goal.returns-in-Err
returns-in-Err g c = failed-next c.args.lines.now c.loop-line.line-index (record { ref_ptr = (0, 0); now = [] }) _ (g.S.Disk.view c.loop-line.site) _ c.loop-line-test.true c.loop-line.invariant
    (record { only = c.in-Err.ensures.only; said = c.in-Err.ensures.said_before; count = c.in-Err.ensures.cause })

pub loop-line-preserved : goal.loop-line-preserved
loop-line-preserved g c = said-next c.args.lines.now c.loop-line.line-index _ c.as_bytes.result.now _ (g.S.Disk.view c.loop-line.site) _ c.loop-line-test.true c.as_bytes.ensures.value c.loop-line.invariant
    (record { only = c.in-Ok.ensures.only; said = c.in-Ok.ensures.said; count = c.in-Ok.ensures.unsaid })

pub returns : goal.returns
returns g c = subst (λ (l : List (Bor Text)). SaysAll (lines_in l) (g.S.Disk.view c.args.site.now) (g.S.Disk.view c.loop-line.site))
    (take_all c.loop-line.line-index c.args.lines.now c.loop-line-test.false) c.loop-line.invariant
