use Rattle.std.proofs.Common.{◌≢◌, ◌∙◌, ◌-◌, [], Ok, refl, sym, ap, subst, arith}
use Rattle.flow_world_steps.specs.Worlds.{rests}
use Rattle.flow_world_parts.specs.Leads.{EngineTried, Goes, MayAppend}
use Rattle.flow_world_parts.specs.declared.turns.Session.{Session}
use Rattle.flow_world_parts.proofs.SessionSteps.{engine_goes, may_append, then_ended}
use Rattle.flow_world_parts.proofs.Standing.{filters_after}
use Rattle.flow_world_parts.proofs.turns.Session.run.Goals as goal

pub put_all-requires-clause-works : goal.put_all-requires-clause-works
put_all-requires-clause-works g c =
    let s = c.args.self.now in
    let so = g.S.Disk.view c.args.site.now in
    let sn = g.S.Disk.view c.begin.new.site in
    let t : Session = record s { engine = c.begin.new.engine; left = s.left - 1 } in
    let goes : Goes [] so s rests sn t rests = engine_goes [] MayAppend 1 so sn s t rests rests (may_append [] s c.requires.some)
    (subst (λ r. EngineTried r MayAppend (s.engine.history.records ≢ []) 1 so s.engine rests sn c.begin.new.engine) (c.in-Ok-true.is ∙ ap Ok c.in-Ok-true.field-0-test) c.begin.ensures.tried) refl (omega (arith, c.requires.some)) refl in
    record {
      engine = c.in-Ok-true.ensures.work;
      filters = filters_after [] so sn s t rests rests c.requires.whole c.requires.filters goes tt;
      now = c.requires.now ∙ sym c.in-Ok-true.ensures.now;
    }

pub returns-in-Ok-true : goal.returns-in-Ok-true
returns-in-Ok-true g c =
    let s = c.args.self.now in
    let so = g.S.Disk.view c.args.site.now in
    let mid = g.S.Disk.view c.begin.new.site in
    let t : Session = record s { engine = c.begin.new.engine; left = s.left - 1 } in
    let answers = c.args.answers.now in
    record {
      ended = then_ended c.put_all.result answers so mid (g.S.Disk.view c.put_all.new.site) s t rests rests
          (engine_goes answers MayAppend 1 so mid s t rests rests (may_append answers s c.requires.some)
          (subst (λ r. EngineTried r MayAppend (s.engine.history.records ≢ []) 1 so s.engine rests mid c.begin.new.engine) (c.in-Ok-true.is ∙ ap Ok c.in-Ok-true.field-0-test) c.begin.ensures.tried) refl (omega (arith, c.requires.some)) refl)
          c.put_all.ensures.ended;
    }
