use Rattle.std.proofs.Common.{sym, ◌∙◌}
use Rattle.std.proofs.lemmas.Bool.{false≢true}
use Rattle.cacao_json.specs.Tree.{data_of}
use Rattle.cacao_book_shape.proofs.ShapeLemmas.{first_k1, first_k2, first_k3, first_k4}
use Rattle.cacao_book_shape.proofs.book_rules.first_broken_of_book.Goals as goal

pub returns-then-not-keeps_k1 : goal.returns-then-not-keeps_k1
returns-then-not-keeps_k1 c = first_k1 (data_of c.args.book.now) (λ h. false≢true (sym c.if-not-keeps_k1.true ∙ c.keeps_k1.ensures.1 h))

pub returns-then-not-branch : goal.returns-then-not-branch
returns-then-not-branch c = first_k2 (data_of c.args.book.now) (c.keeps_k1.ensures.0 c.if-not-keeps_k1.false) (λ h. false≢true (sym c.if-not-branch.true ∙ c.in_ok-keeps_k2.ensures.1 h))

pub returns-then-not-branch-2 : goal.returns-then-not-branch-2
returns-then-not-branch-2 c = first_k3 (data_of c.args.book.now) (c.keeps_k1.ensures.0 c.if-not-keeps_k1.false) (c.in_ok-keeps_k2.ensures.0 c.if-not-branch.false) (λ h. false≢true (sym c.if-not-branch-2.true ∙ c.in_ok-keeps_k3.ensures.1 h))

pub returns-then-not-branch-3 : goal.returns-then-not-branch-3
returns-then-not-branch-3 c = first_k4 (data_of c.args.book.now) (c.keeps_k1.ensures.0 c.if-not-keeps_k1.false) (c.in_ok-keeps_k2.ensures.0 c.if-not-branch.false) (c.in_ok-keeps_k3.ensures.0 c.if-not-branch-2.false) (λ h. false≢true (sym c.if-not-branch-3.true ∙ c.in_ok-keeps_k4.ensures.1 h))
