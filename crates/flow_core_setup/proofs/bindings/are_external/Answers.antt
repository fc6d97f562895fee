use Rattle.std.specs.Prelude.{List, ℕ, IsSomeAnd, IsTrue}
use Rattle.cacao_vars.specs.Declarations.{declared}
use Rattle.std.proofs.Common.{refl, sym, ◌∙◌, arith}
use Rattle.std.proofs.lemmas.Bool.{false≢true}
use Rattle.flow_core_setup.proofs.SetupLists.{one_more, one_all, one_at}
use Rattle.flow_core_setup.proofs.bindings.are_external.Goals as goal

pub returns-then-not-is_external : goal.returns-then-not-is_external
returns-then-not-is_external c = (
  λ e. absurd (false≢true e),
  λ all. absurd (false≢true (sym c.if-not-is_external.true ∙ c.is_external.ensures.1 (one_at (λ (entry : List ℕ × List ℕ). IsSomeAnd (declared c.args.vars.now entry.0) (λ var. IsTrue var.external)) c.args.variables.now c.loop-bound.bound-index c.bound-item.result c.loop-bound-test.true c.bound-item.is all))),
)

pub loop-bound-preserved : goal.loop-bound-preserved
loop-bound-preserved c = one_more (λ (entry : List ℕ × List ℕ). IsSomeAnd (declared c.args.vars.now entry.0) (λ var. IsTrue var.external)) c.args.variables.now c.loop-bound.bound-index c.bound-item.result c.loop-bound-test.true c.bound-item.is c.loop-bound.invariant (c.is_external.ensures.0 c.if-not-is_external.false)

pub returns : goal.returns
returns c = (λ _. one_all (λ (entry : List ℕ × List ℕ). IsSomeAnd (declared c.args.vars.now entry.0) (λ var. IsTrue var.external)) c.args.variables.now c.loop-bound.bound-index (omega arith) c.loop-bound.invariant, λ _. refl)
