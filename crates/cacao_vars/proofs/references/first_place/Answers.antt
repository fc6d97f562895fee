-- A place more, or all places.
use Rattle.std.proofs.Common.{arith, below_more}
use Rattle.cacao_vars.specs.References.{HasReferenceAt}
use Rattle.cacao_vars.proofs.ReferenceLemmas.{none_here, none_anywhere}
use Rattle.cacao_vars.proofs.references.first_place.Goals as goal

pub loop-place-preserved : goal.loop-place-preserved
loop-place-preserved c =
    below_more (λ place. ¬ (HasReferenceAt c.args.text.now place)) _ c.loop-place.invariant (none_here c.args.text.now c.loop-place.place (omega (arith, c.loop-place-test.true)) c.in-None.ensures)

pub returns-clause-cases : goal.returns-clause-cases
returns-clause-cases c = none_anywhere c.args.text.now c.loop-place.place c.loop-place-test.false c.loop-place.invariant
