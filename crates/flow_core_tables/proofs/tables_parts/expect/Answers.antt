use Rattle.flow_core_tables.specs.Waits.{one_more}
use Rattle.flow_core_tables.proofs.TableLemmas.{changed_is_set}
use Rattle.flow_core_tables.proofs.tables_parts.expect.Goals as goal

pub returns-clause-waits : goal.returns-clause-waits
returns-clause-waits c =
    let within = rw c.in-Some.is at c.requires.within in
    rw c.in-Some.is (changed_is_set one_more c.args.waits.now.items c.in-Some.parent c.index_mut.result.now within c.index_mut.ensures.value)
