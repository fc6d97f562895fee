use Rattle.std.proofs.Common.{◌≡◌, ◌∙◌, ◌++◌, sym, subst, Bor, false, ℕ, List}
use Rattle.std.specs.Prelude.{All}
use Rattle.std.proofs.lemmas.List.{take_all}
use Rattle.std.proofs.lemmas.List.Elements.{All-map, All-more}
use Rattle.cacao_view_faults.specs.Closing.{is_begun}
use Rattle.cacao_view_faults.proofs.StandLemmas.{begun_with}
use Rattle.cacao_view_faults.proofs.begun.is_begun_with_any.Goals as goal

pub returns-then-branch-clause-begun : goal.returns-then-branch-clause-begun
returns-then-branch-clause-begun c = λ t. begun_with c.args.bytes.now _ (sym c.in_ok-is_begun_with.ensures ∙ c.if-branch.true)

pub loop-n-preserved : goal.loop-n-preserved
loop-n-preserved c =
    All-more (λ (rest : Bor (List ℕ)). is_begun (c.args.bytes.now ++ rest.now) ≡ false) c.args.rests.now c.loop-n.n _ c.loop-n-test.true c.loop-n.invariant
    (sym c.in_ok-is_begun_with.ensures ∙ c.if-branch.false)

pub returns-clause-dead : goal.returns-clause-dead
returns-clause-dead c = λ e.
    All-map (λ (rest : List ℕ). is_begun (c.args.bytes.now ++ rest) ≡ false) (λ (rest : Bor (List ℕ)). rest.now) c.args.rests.now
    (subst (All (λ (rest : Bor (List ℕ)). is_begun (c.args.bytes.now ++ rest.now) ≡ false)) (take_all c.loop-n.n c.args.rests.now c.loop-n-test.false) c.loop-n.invariant)
