-- One step more was looked at.
use Rattle.std.proofs.Common.{◌++◌, List, sym, subst, take, append-nil}
use Rattle.std.specs.List.{flat_map}
use Rattle.cacao_book.specs.declared.steps.Step.{Step}
use Rattle.cacao_view_preflight.specs.NameSets.{HasJust}
use Rattle.cacao_view_preflight.specs.Warnings.{Text, handed}
use Rattle.cacao_view_preflight.proofs.SetLemmas.{made_all, made_more}
use Rattle.cacao_view_preflight.proofs.variables.add_handed_by.Goals as goal

pub loop-step-init : goal.loop-step-init
loop-step-init c = λ all just. subst (HasJust c.args.names.now) (sym (append-nil all)) just

pub loop-step-preserved : goal.loop-step-preserved
loop-step-preserved c = λ all just.
    let make : Step → List Text = λ step. handed c.args.id.now step.kind in
    subst (HasJust c.add_handed.new.names) (sym (made_more make c.args.steps.now c.loop-step.step-index c.step-item.result c.loop-step-test.true c.step-item.is all))
    (c.in_ok-add_handed.ensures (all ++ flat_map make (take c.loop-step.step-index c.args.steps.now)) (c.loop-step.invariant all just))

pub returns : goal.returns
returns c = λ all just.
    let make : Step → List Text = λ step. handed c.args.id.now step.kind in
    subst (HasJust c.loop-step.names) (made_all make c.args.steps.now c.loop-step.step-index all c.loop-step-test.false) (c.loop-step.invariant all just)
