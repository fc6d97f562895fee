use Rattle.std.proofs.Common.{subst, sym}
use Rattle.flow_engine.specs.OpenIssues.{IsNextPut}
use Rattle.flow_engine.proofs.NextLemmas.{first_is}
use Rattle.flow_engine.proofs.open_puts.OpenPuts.next.Goals as goal

pub returns : goal.returns
returns c =
    let kept = c.self.inside in
    let is = first_is kept.map.entries kept.resends.pairs c.law.ensures.queue c.self.invariant.resends in
    subst (λ issues. IsNextPut issues c.first.result) c.self.view_is
    (subst (λ o. IsNextPut kept.map.entries o) (sym c.first.ensures) is)
