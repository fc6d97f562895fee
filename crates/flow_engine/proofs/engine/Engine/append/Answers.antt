use Rattle.std.proofs.Common.{ap, subst, sym}
use Rattle.flow_engine_history.specs.HistoryCalls.{Is}
use Rattle.flow_engine.specs.EngineCalls.{IsStanding}
use Rattle.flow_engine.specs.EngineView.{EngineView}
use Rattle.flow_engine.specs.OpenIssues.{ArePut}
use Rattle.flow_engine.proofs.CallLemmas.{appends_made, last_added, last_stays, puts_appended}
use Rattle.flow_engine.proofs.engine.Engine.append.Goals as goal

pub invariant_of-self : goal.invariant_of-self
invariant_of-self g c =
    let inside = c.self.inside in
    let old = g.D.Disk.view c.args.disk.now in
    let new = g.D.Disk.view c.append.new.disk in
    record {
      put = subst (ArePut c.append.new.self.seen) (sym c.end.ensures)
          (puts_appended c.records_keep_issues.ensures inside.history c.append.new.self c.args.next inside.puts old new
          (subst IsStanding (ap (λ (v : EngineView). v.history) (sym c.self.view_is)) c.stand.ensures) c.in-Ok.ensures.ok c.self.invariant.put);
      last = last_added inside.history c.append.new.self c.args.next old new c.in-Ok.ensures.ok;
    }

pub invariant_of-self-in-Err-1 : goal.invariant_of-self-in-Err-1
invariant_of-self-in-Err-1 g c =
    let inside = c.self.inside in
    let kept = last_stays (Is c.args.next) inside.history c.append.new.self inside.puts inside.last c.in-Err.error (g.D.Disk.view c.args.disk.now) (g.D.Disk.view c.append.new.disk)
    c.in-Err.ensures.refused (c.self.invariant.put, c.self.invariant.last) in
    record { put = kept.0; last = kept.1 }

pub returns-in-Ok-clause-ok : goal.returns-in-Ok-clause-ok
returns-in-Ok-clause-ok g c =
    let inside = c.self.inside in
    appends_made c.args.self.now inside.history c.append.new.self inside.puts c.end.new.self c.args.next (g.D.Disk.view c.args.disk.now) (g.D.Disk.view c.append.new.disk)
    c.self.view_is c.in-Ok.ensures.ok c.end.ensures
