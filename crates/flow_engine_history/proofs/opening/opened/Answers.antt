use Rattle.flow_engine_history.specs.declared.history.History.TheInside.{Inside}
use Rattle.flow_engine_history.proofs.OpenedLemmas.{entries_back, kept}
use Rattle.flow_engine_history.proofs.opening.opened.Goals as goal

pub invariant_of-result : goal.invariant_of-result
invariant_of-result c =
    let inside : Inside = record { alloc = c.args.alloc; journal = c.args.journal; flow = c.args.flow; stands = c.args.stands } in
    kept inside c.requires.file c.requires.replayed

pub returns-clause-entries : goal.returns-clause-entries
returns-clause-entries c =
    let inside : Inside = record { alloc = c.args.alloc; journal = c.args.journal; flow = c.args.flow; stands = c.args.stands } in
    entries_back inside c.requires.replayed
