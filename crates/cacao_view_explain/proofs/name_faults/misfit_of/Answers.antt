use Rattle.std.proofs.Common.{◌≡◌, ◌∙◌, sym, true, rules}
use Rattle.std.proofs.lemmas.Bool.{false≢true}
use Rattle.cacao_check_steps.specs.Uses.{is_action}
use Rattle.cacao_view_explain.specs.Naming.{constant, kind}
use Rattle.cacao_view_explain.proofs.name_faults.misfit_of.Goals as goal

pub returns-then-is_constant-clause-misfit : goal.returns-then-is_constant-clause-misfit
returns-then-is_constant-clause-misfit c = constant (c.in_ok-is_constant.ensures.sees.0 c.if-is_constant.true)

pub returns-then-is_unfit-clause-misfit : goal.returns-then-is_unfit-clause-misfit
returns-then-is_unfit-clause-misfit c =
    let action : is_action c.args.step.now.kind ≡ true = search rules in
    kind action (λ found. false≢true (sym c.if-is_constant.false ∙ c.in_ok-is_constant.ensures.sees.1 found)) (c.in_ok-is_unfit.ensures.sees.0 c.if-is_unfit.true)
