use Rattle.std.proofs.Common.{◌∙◌, sym, subst, ℕ, List}
use Rattle.std.specs.List.{All}
use Rattle.std.specs.Prelude.{IsTrue, IfSome, IsSomeAnd}
use Rattle.std.proofs.lemmas.Bool.{false≢true}
use Rattle.cacao_json.specs.Tree.{data_of}
use Rattle.cacao_vars.specs.Declarations.{declared}
use Rattle.cacao_check.specs.Fits.{FitsKind}
use Rattle.flow_core_setup.proofs.SetupReasons.{least_third}
use Rattle.flow_core_setup.proofs.bindings.read_bound.Goals as goal

pub returns-then-not-fit_variables-clause-broken : goal.returns-then-not-fit_variables-clause-broken
returns-then-not-fit_variables-clause-broken c =
    least_third c.args.vars.now (data_of c.args.tree.now) (c.in_ok-is_well_formed.ensures.0 c.if-not-branch.false)
    (subst (All (λ (entry : List ℕ × List ℕ). IsSomeAnd (declared c.args.vars.now entry.0) (λ var. IsTrue var.external))) (c.as_slice.ensures.value ∙ c.in_ok-variables.ensures) (c.are_external.ensures.0 c.if-not-are_external.false))
    (λ all. false≢true (sym c.if-not-fit_variables.true
    ∙ c.fit_variables.ensures.1 (subst (All (λ (entry : List ℕ × List ℕ). IfSome (declared c.args.vars.now entry.0) (λ var. FitsKind var.kind entry.1))) (sym (c.as_slice-2.ensures.value ∙ c.in_ok-variables.ensures)) all)))
