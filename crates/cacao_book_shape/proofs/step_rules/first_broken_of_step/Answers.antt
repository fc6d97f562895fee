use Rattle.std.proofs.Common.{sym, ◌∙◌}
use Rattle.std.proofs.lemmas.Bool.{false≢true}
use Rattle.cacao_json.specs.Tree.{data_of}
use Rattle.cacao_book_shape.proofs.ShapeLemmas.{first_k5, first_k6, first_k7, first_k8, first_k9, first_k10, first_k11, first_k12, keeps_step}
use Rattle.cacao_book_shape.proofs.step_rules.first_broken_of_step.Goals as goal

pub returns-then-not-keeps_k5 : goal.returns-then-not-keeps_k5
returns-then-not-keeps_k5 c = first_k5 (data_of c.args.step.now) (λ h. false≢true (sym c.if-not-keeps_k5.true ∙ c.keeps_k5.ensures.1 h))

pub returns-then-not-keeps_k6 : goal.returns-then-not-keeps_k6
returns-then-not-keeps_k6 c = first_k6 (data_of c.args.step.now) (c.keeps_k5.ensures.0 c.if-not-keeps_k5.false) (λ h. false≢true (sym c.if-not-keeps_k6.true ∙ c.keeps_k6.ensures.1 h))

pub returns-then-not-keeps_k7 : goal.returns-then-not-keeps_k7
returns-then-not-keeps_k7 c = first_k7 (data_of c.args.step.now) (c.keeps_k5.ensures.0 c.if-not-keeps_k5.false) (c.keeps_k6.ensures.0 c.if-not-keeps_k6.false) (λ h. false≢true (sym c.if-not-keeps_k7.true ∙ c.keeps_k7.ensures.1 h))

pub returns-then-not-keeps_k8 : goal.returns-then-not-keeps_k8
returns-then-not-keeps_k8 c = first_k8 (data_of c.args.step.now) (c.keeps_k5.ensures.0 c.if-not-keeps_k5.false) (c.keeps_k6.ensures.0 c.if-not-keeps_k6.false) (c.keeps_k7.ensures.0 c.if-not-keeps_k7.false) (λ h. false≢true (sym c.if-not-keeps_k8.true ∙ c.keeps_k8.ensures.1 h))

pub returns-then-not-keeps_k9 : goal.returns-then-not-keeps_k9
returns-then-not-keeps_k9 c = first_k9 (data_of c.args.step.now) (c.keeps_k5.ensures.0 c.if-not-keeps_k5.false) (c.keeps_k6.ensures.0 c.if-not-keeps_k6.false) (c.keeps_k7.ensures.0 c.if-not-keeps_k7.false) (c.keeps_k8.ensures.0 c.if-not-keeps_k8.false) (λ h. false≢true (sym c.if-not-keeps_k9.true ∙ c.keeps_k9.ensures.1 h))

pub returns-then-not-branch : goal.returns-then-not-branch
returns-then-not-branch c = first_k10 (data_of c.args.step.now) (c.keeps_k5.ensures.0 c.if-not-keeps_k5.false) (c.keeps_k6.ensures.0 c.if-not-keeps_k6.false) (c.keeps_k7.ensures.0 c.if-not-keeps_k7.false) (c.keeps_k8.ensures.0 c.if-not-keeps_k8.false) (c.keeps_k9.ensures.0 c.if-not-keeps_k9.false) (λ h. false≢true (sym c.if-not-branch.true ∙ c.in_ok-keeps_k10.ensures.1 h))

pub returns-then-not-branch-2 : goal.returns-then-not-branch-2
returns-then-not-branch-2 c = first_k11 (data_of c.args.step.now) (c.keeps_k5.ensures.0 c.if-not-keeps_k5.false) (c.keeps_k6.ensures.0 c.if-not-keeps_k6.false) (c.keeps_k7.ensures.0 c.if-not-keeps_k7.false) (c.keeps_k8.ensures.0 c.if-not-keeps_k8.false) (c.keeps_k9.ensures.0 c.if-not-keeps_k9.false) (c.in_ok-keeps_k10.ensures.0 c.if-not-branch.false) (λ h. false≢true (sym c.if-not-branch-2.true ∙ c.in_ok-keeps_k11.ensures.1 h))

pub returns-then-not-keeps_k12 : goal.returns-then-not-keeps_k12
returns-then-not-keeps_k12 c = first_k12 (data_of c.args.step.now) (c.keeps_k5.ensures.0 c.if-not-keeps_k5.false) (c.keeps_k6.ensures.0 c.if-not-keeps_k6.false) (c.keeps_k7.ensures.0 c.if-not-keeps_k7.false) (c.keeps_k8.ensures.0 c.if-not-keeps_k8.false) (c.keeps_k9.ensures.0 c.if-not-keeps_k9.false) (c.in_ok-keeps_k10.ensures.0 c.if-not-branch.false) (c.in_ok-keeps_k11.ensures.0 c.if-not-branch-2.false) (λ h. false≢true (sym c.if-not-keeps_k12.true ∙ c.keeps_k12.ensures.1 h))

pub returns : goal.returns
returns c =
    keeps_step (data_of c.args.step.now) (c.keeps_k5.ensures.0 c.if-not-keeps_k5.false) (c.keeps_k6.ensures.0 c.if-not-keeps_k6.false) (c.keeps_k7.ensures.0 c.if-not-keeps_k7.false)
    (c.keeps_k8.ensures.0 c.if-not-keeps_k8.false) (c.keeps_k9.ensures.0 c.if-not-keeps_k9.false) (c.in_ok-keeps_k10.ensures.0 c.if-not-branch.false) (c.in_ok-keeps_k11.ensures.0 c.if-not-branch-2.false)
    (c.keeps_k12.ensures.0 c.if-not-keeps_k12.false)
