use Rattle.cacao_check.proofs.RuleLemmas.{k22_iff}
use Rattle.cacao_check.proofs.sight_rules.keeps_k22.Goals as goal

pub returns-clause-keeps : goal.returns-clause-keeps
returns-clause-keeps c =
    let k = k22_iff c.args.book.now c.args.place c.args.step.now c.in_ok-names.names.items c.in_ok-names.ensures in
    let n = rw c.deref.ensures.value at c.in_ok-none.ensures.keeps in
    (λ e. k.0 (n.0 e), λ h. n.1 (k.1 h))
