use Rattle.std.proofs.Common.{◌==◌, ℕ, cond, Option, List, ap, ◌∙◌}
use Rattle.base_dues.specs.Pairs.{at}
use Rattle.flow_core_tables.specs.declared.tables.Wait.{Wait}
use Rattle.flow_core_tables.specs.Waits.{one_less}
use Rattle.flow_core_tables.proofs.TableLemmas.{changed_is_set, told_ready}
use Rattle.flow_core_tables.proofs.tables_parts.tell.Goals as goal

pub returns-clause-waits : goal.returns-clause-waits
returns-clause-waits c =
    let within = rw c.in-Some.is at c.requires.within in
    let ws : List Wait = c.args.waits.now.items in
    rw (c.in-Some.is, c.one_less-wait.ensures) (changed_is_set (one_less c.args.failed) ws c.in-Some.parent c.index.result.now within c.index.ensures)

pub returns-clause-ready : goal.returns-clause-ready
returns-clause-ready c = λ n wait e.
    let within = rw c.in-Some.is at c.requires.within in
    let ws : List Wait = c.args.waits.now.items in
    let p : ℕ = c.in-Some.parent in
    let old : Option ℕ = at c.args.ready.now.pairs n in
    rw c.in-Some.is
    (c.enter.ensures.each n ∙ ap (λ (o : Option ℕ). cond (n == p) o old) c.ready_after.ensures ∙ told_ready ws p c.one_less-wait.result old n wait within e)
