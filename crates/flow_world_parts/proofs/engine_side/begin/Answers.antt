use Rattle.std.proofs.Common.{ℕ, subst, sym, refl}
use Rattle.run_records.specs.declared.record.Record.{Record}
use Rattle.flow_world_steps.specs.EngineCalls.{Appends, IsBeginning, Refused}
use Rattle.flow_world_steps.specs.Worlds.{rests}
use Rattle.flow_world_parts.specs.Leads.{EngineRefuses, MayAppend}
use Rattle.flow_world_parts.specs.declared.error.WorldError.{WorldError}
use Rattle.flow_world_parts.proofs.EngineSide.{append_said, append_unsaid, begin_step, engine_is, no_records}
use Rattle.flow_world_parts.proofs.EngineSteps.{not_appended}
use Rattle.flow_world_parts.proofs.engine_side.begin.Goals as goal

pub returns-in-Ok-say_last-clause-tried : goal.returns-in-Ok-say_last-clause-tried
returns-in-Ok-say_last-clause-tried g c =
    let so = g.S.Disk.view c.args.site.now in
    let mid = g.S.Disk.view c.start-done.new.site in
    append_said MayAppend (λ notes given. given) (IsBeginning c.args.engine.now.history so.clock.now) so c.args.engine.now rests
    (begin_step so c.args.engine.now (g.met.S.Disk.sound c.args.site.now) c.requires.whole (no_records c.args.engine.now.history.records c.count.result c.count.ensures c.if-count-ne0.false))
    mid (g.S.Disk.view c.say_last.new.site) c.start-done.new.self (subst (λ (n : ℕ). Appends c.args.engine.now c.start-done.new.self (IsBeginning c.args.engine.now.history n) so mid) c.requires.now c.in-Ok.ensures.ok)
    (engine_is c.start-done.new.self mid c.start-done.ensures.ready c.law.ensures.history c.law.ensures.put) c.in-Ok-say_last.ensures.did

pub returns-in-Err-say_last-clause-tried : goal.returns-in-Err-say_last-clause-tried
returns-in-Err-say_last-clause-tried g c =
    let so = g.S.Disk.view c.args.site.now in
    let mid = g.S.Disk.view c.start-done.new.site in
    append_unsaid MayAppend (λ notes given. given) (IsBeginning c.args.engine.now.history so.clock.now) so c.args.engine.now rests
    (begin_step so c.args.engine.now (g.met.S.Disk.sound c.args.site.now) c.requires.whole (no_records c.args.engine.now.history.records c.count.result c.count.ensures c.if-count-ne0.false))
    mid (g.S.Disk.view c.say_last.new.site) c.start-done.new.self (subst (λ (n : ℕ). Appends c.args.engine.now c.start-done.new.self (IsBeginning c.args.engine.now.history n) so mid) c.requires.now c.in-Ok.ensures.ok)
    (engine_is c.start-done.new.self mid c.start-done.ensures.ready c.law.ensures.history c.law.ensures.put) c.in-Err-say_last.error c.in-Err-say_last.ensures.did

pub returns-in-Err-clause-tried : goal.returns-in-Err-clause-tried
returns-in-Err-clause-tried g c =
    let so = g.S.Disk.view c.args.site.now in
    let sn = g.S.Disk.view c.start-done.new.site in
    let v = c.args.engine.now in
    let w = c.start-done.new.self in
    let IsNext : Record → Type 0 = IsBeginning v.history so.clock.now in
    subst (λ (e : WorldError). EngineRefuses MayAppend e so v rests sn) (sym c.of_append.ensures)
    (not_appended MayAppend (λ notes given. given) IsNext so v rests
    (begin_step so v (g.met.S.Disk.sound c.args.site.now) c.requires.whole (no_records v.history.records c.count.result c.count.ensures c.if-count-ne0.false))
    sn w c.in-Err.error tt refl c.requires.whole.whole (engine_is w sn c.start-done.ensures.ready c.law.ensures.history c.law.ensures.put)
    (subst (λ (n : ℕ). Refused v w (IsBeginning v.history n) c.in-Err.error so sn) c.requires.now c.in-Err.ensures.refused))
