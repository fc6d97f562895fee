use Rattle.std.proofs.Common.{ap, sym, subst}
use Rattle.flow_engine_history.specs.Appending.{RefusesEntry}
use Rattle.flow_engine_history.specs.declared.error.EngineError.{EngineError}
use Rattle.flow_engine_history.proofs.AppendLemmas.{refuses_entry}
use Rattle.flow_engine_history.proofs.appending.keep.Goals as goal

pub returns-in-Err-clause-refused : goal.returns-in-Err-clause-refused
returns-in-Err-clause-refused g c =
    let says = c.in-Err.ensures in
    let old = g.D.Disk.view c.args.disk.now in
    let new = g.D.Disk.view c.append_durably.new.disk in
    let j = c.args.journal.now in
    let k = c.append_durably.new.self in
    subst (λ (e : EngineError). RefusesEntry j k c.args.made.entry e old new) (sym c.from.ensures)
    (refuses_entry c.in-Err.error j k c.args.made.entry old new says.disk says.breaks says.full (λ needed e. let stays = says.full_stays needed e in (ap g.D.Disk.view stays.0, stays.1)) says.full_only says.no_other)
