use Rattle.std.proofs.Common.{◌≡◌, Some, refl, subst, sym}
use Rattle.flow_core_rules.specs.Moves.{enabled_move}
use Rattle.flow_engine_history.specs.HistoryCalls.{IsOfMove, MayMove}
use Rattle.flow_engine_history.specs.HistoryView.{flow_of}
use Rattle.flow_engine_history.proofs.KindLemmas.{refuses_as}
use Rattle.flow_engine.specs.EngineCalls.{IsMove, Refused}
use Rattle.flow_engine.specs.EngineView.{EngineView}
use Rattle.flow_engine.proofs.CallLemmas.{appends_made, done_as, is_move, last_added, last_stays, puts_kept}
use Rattle.flow_engine.proofs.engine.Engine.append_move.Goals as goal

pub append_move-requires-clause-moves : goal.append_move-requires-clause-moves
append_move-requires-clause-moves g c = subst (λ (v : EngineView). MayMove (flow_of v.history) c.args.found c.args.moment) (sym c.self.view_is) c.may_move.ensures

pub invariant_of-self : goal.invariant_of-self
invariant_of-self g c =
    let inside = c.self.inside in
    let old = g.D.Disk.view c.args.disk.now in
    let new = g.D.Disk.view c.append_move.new.disk in
    record {
      put = puts_kept c.records_keep_issues.ensures c.args.self.now inside.history c.append_move.new.self inside.puts c.end.new.self c.in-Ok.made old new
          c.self.view_is c.stand.ensures c.in-Ok.ensures.ok c.self.invariant.put c.end.ensures;
      last = last_added inside.history c.append_move.new.self c.in-Ok.made old new c.in-Ok.ensures.ok;
    }

pub invariant_of-self-in-Err : goal.invariant_of-self-in-Err
invariant_of-self-in-Err g c =
    let inside = c.self.inside in
    let kept = last_stays (IsOfMove c.self.inside.history c.args.found c.args.moment) inside.history c.append_move.new.self inside.puts inside.last c.in-Err.error (g.D.Disk.view c.args.disk.now) (g.D.Disk.view c.append_move.new.disk)
    c.in-Err.ensures.refused (c.self.invariant.put, c.self.invariant.last) in
    record { put = kept.0; last = kept.1 }

pub returns-in-Ok-clause-ok : goal.returns-in-Ok-clause-ok
returns-in-Ok-clause-ok g c =
    let inside = c.self.inside in
    let now = c.args.self.now in
    let next = c.in-Ok.made in
    let old = g.D.Disk.view c.args.disk.now in
    let new = g.D.Disk.view c.append_move.new.disk in
    let after : EngineView = record { history = c.append_move.new.self; puts = c.end.new.self } in
    let made = subst (λ (v : EngineView). IsOfMove v.history c.args.found c.args.moment next) c.self.view_is c.in-Ok.ensures.made in
    done_as (IsMove now.history c.args.moment) next (is_move now.history c.args.moment c.args.found c.requires.enabled next made) old new now after
    (appends_made now inside.history c.append_move.new.self inside.puts c.end.new.self next old new c.self.view_is c.in-Ok.ensures.ok c.end.ensures)

pub returns-in-Err-clause-refused : goal.returns-in-Err-clause-refused
returns-in-Err-clause-refused g c =
    let inside = c.self.inside in
    let old = g.D.Disk.view c.args.disk.now in
    let new = g.D.Disk.view c.append_move.new.disk in
    let after : EngineView = record { history = c.append_move.new.self; puts = inside.puts } in
    let enabled = subst (λ (v : EngineView). enabled_move v.history.seen c.args.moment ≡ Some c.args.found) (sym c.self.view_is) c.requires.enabled in
    subst (λ (v : EngineView). Refused v after (IsMove v.history c.args.moment) c.in-Err.error old new) c.self.view_is (
      refuses_as (IsOfMove inside.history c.args.found c.args.moment) (IsMove inside.history c.args.moment) (is_move inside.history c.args.moment c.args.found enabled)
          inside.history c.append_move.new.self c.in-Err.error old new c.in-Err.ensures.refused,
      refl,
    )
