use Rattle.std.proofs.Common.{sym, ◌∙◌}
use Rattle.flow_core_setup.proofs.HintLemmas.{on_true, stands}
use Rattle.flow_core_setup.proofs.setup.stands_at.Goals as goal

pub returns-in-Some-clause-place : goal.returns-in-Some-clause-place
returns-in-Some-clause-place c =
    on_true _ _ (λ t. stands c.args.steps.now c.args.key.now c.args.place c.in-Some.step.now c.requires c.in-Some.ensures.lookup.3.0 c.in-Some.ensures.lookup.1 (sym c.has_key.ensures ∙ t))

pub returns-in-Some-clause-within : goal.returns-in-Some-clause-within
returns-in-Some-clause-within c = on_true _ _ (λ t. c.in-Some.ensures.lookup.3.0)
