use Rattle.std.proofs.Common.{◌∙◌, [], refl, sym, arith}
use Rattle.flow_world_steps.specs.Worlds.{rests}
use Rattle.flow_world_parts.specs.Leads.{AnyNotes}
use Rattle.flow_world_parts.specs.declared.turns.Session.{Session}
use Rattle.flow_world_parts.proofs.SessionSteps.{any_notes, engine_goes, then_ended}
use Rattle.flow_world_parts.proofs.Standing.{rests_fresh, works_after}
use Rattle.flow_world_parts.proofs.turns.Session.put_all.Goals as goal

pub run_on-requires : goal.run_on-requires
run_on-requires g c =
    let s = c.args.self.now in
    let so = g.S.Disk.view c.args.site.now in
    let sn = g.S.Disk.view c.put_waiting.new.site in
    let t : Session = record s { engine = c.put_waiting.new.engine } in
    record {
      between = record {
        works = works_after [] so sn s t rests rests c.requires.works (engine_goes [] AnyNotes 0 so sn s t rests rests (any_notes [] s) c.in-Ok.ensures.did refl (omega arith) refl) tt rests_fresh
            (c.requires.works.now ∙ sym c.in-Ok.ensures.now);
        put = c.in-Ok.ensures.put;
        calm = omega (arith, c.requires.none);
      };
    }

pub returns-in-Ok : goal.returns-in-Ok
returns-in-Ok g c =
    let s = c.args.self.now in
    let so = g.S.Disk.view c.args.site.now in
    let mid = g.S.Disk.view c.put_waiting.new.site in
    let t : Session = record s { engine = c.put_waiting.new.engine } in
    let answers = c.args.answers.now in
    record {
      ended = then_ended c.run_on.result answers so mid (g.S.Disk.view c.run_on.new.site) s t rests rests
          (engine_goes answers AnyNotes 0 so mid s t rests rests (any_notes answers s) c.in-Ok.ensures.did refl (omega arith) refl) c.run_on.ensures.ended;
    }
