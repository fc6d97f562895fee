use Rattle.std.proofs.Common.{◌≡◌, false, sym, subst, ap, ap₂, ◌∙◌, arith}
use Rattle.cacao_site.specs.declared.parcel.Parcel.{Parcel}
use Rattle.cacao_site.specs.SiteCalls.{Puts as PutsParcel}
use Rattle.flow_engine_history.specs.HistoryView.{HistoryView, IsReady}
use Rattle.flow_engine_history.specs.Histories.{IsHistory}
use Rattle.flow_engine_history.proofs.HistoryLemmas.{get_within}
use Rattle.flow_engine.specs.EngineCalls.{IsWaiting}
use Rattle.flow_engine.specs.EngineView.{EngineView}
use Rattle.flow_engine.specs.OpenIssues.{OpenIssues, with_put}
use Rattle.flow_engine.proofs.SendLemmas.{is_open, puts_more, ready_after_put}
use Rattle.flow_engine.proofs.engine.Engine.send.Goals as goal

pub put-requires-clause-number : goal.put-requires-clause-number
put-requires-clause-number g c =
    let w = c.requires.waiting in
    let within = get_within c.args.self.now.history.seen.lists.issues c.args.issue w.0 (w.1).there in
    omega (arith, within, c.stand.ensures.sizes.issues, c.stand.ensures.few)

pub invariant_of-self-2 : goal.invariant_of-self-2
invariant_of-self-2 g c =
    let w = c.requires.waiting in
    let history = ap (λ (v : EngineView). v.history) c.self.view_is in
    record {
      put = puts_more c.self.inside.history.seen c.self.inside.puts c.put.new.self c.args.issue w.0 c.self.invariant.put c.in_ok-put.ensures.counted
          (subst (λ (h : HistoryView). IsWaiting h.seen c.args.issue w.0) (sym history) w.1) c.in_ok-put.ensures.others;
      last = c.self.invariant.last;
    }

pub returns-clause-ready : goal.returns-clause-ready
returns-clause-ready g c =
    let history = ap (λ (v : EngineView). v.history) c.self.view_is in
    ready_after_put c.self.inside.history c.in_ok-parcel.parcel (g.S.Disk.view c.args.site.now) (g.S.Disk.view c.put-2.new.self)
    (subst (λ (h : HistoryView). IsReady h (g.S.Disk.view c.args.site.now)) (sym history) c.requires.ready) c.put-2.ensures

engine_with : (h k : HistoryView) (a b : OpenIssues) → h ≡ k → a ≡ b → ◌≡◌ {A = EngineView} (record { history = h; puts = a }) (record { history = k; puts = b })
engine_with h k a b p q = ap₂ (λ (x : HistoryView) (y : OpenIssues). let v : EngineView = record { history = x; puts = y } in v) p q

pub returns-clause-ok : goal.returns-clause-ok
returns-clause-ok g c =
    let w = c.requires.waiting in
    let v = c.args.self.now in
    let history = ap (λ (x : EngineView). x.history) c.self.view_is in
    let sound : IsHistory v.history = subst IsHistory history c.law.ensures in
    let command = c.in_ok-parcel.ensures w.0 (w.1).there in
    let puts = c.in_ok-put.ensures.ok ∙ ap (λ (x : EngineView). with_put x.puts c.args.issue c.args.moment) c.self.view_is in
    record {
      whole = sym (ap (λ (h : HistoryView). h.broken) history) ∙ sym c.is_broken.ensures ∙ c.if-is_broken.false;
      it = w.0;
      is_open = is_open c.issues_have_records.ensures.records c.accepted_is_runnable.ensures v.history c.args.issue w.0 sound w.1;
      put = subst (λ (p : Parcel). PutsParcel p (g.S.Disk.view c.args.site.now) (g.S.Disk.view c.put-2.new.self)) command c.put-2.ensures;
      view = engine_with c.self.inside.history v.history c.put.new.self (with_put v.puts c.args.issue c.args.moment) history puts;
    }
