-- One step more was looked at.
use Rattle.std.proofs.Common.{List, [], sym, subst, map, take}
use Rattle.std.specs.List.{flat_map}
use Rattle.cacao_book.specs.declared.steps.Step.{Step}
use Rattle.cacao_view_preflight.specs.NameSets.{HasJust}
use Rattle.cacao_view_preflight.specs.Names.{Text}
use Rattle.cacao_view_preflight.proofs.SetLemmas.{made_all, made_more}
use Rattle.cacao_view_preflight.proofs.constants.names_of.Goals as goal

pub loop-step-init : goal.loop-step-init
loop-step-init c = c.new-names.ensures

pub loop-step-preserved : goal.loop-step-preserved
loop-step-preserved c =
    let make : Step → List Text = λ step. map (λ var. var.name) step.variables in
    subst (HasJust c.add_step.new.names) (sym (made_more make c.args.steps.now c.loop-step.step-index c.step-item.result c.loop-step-test.true c.step-item.is []))
    (c.in_ok-add_step.ensures (flat_map make (take c.loop-step.step-index c.args.steps.now)) c.loop-step.invariant)

pub returns : goal.returns
returns c =
    let make : Step → List Text = λ step. map (λ var. var.name) step.variables in
    subst (HasJust c.loop-step.names) (made_all make c.args.steps.now c.loop-step.step-index [] c.loop-step-test.false) c.loop-step.invariant
