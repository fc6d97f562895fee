use Rattle.std.proofs.Common.{◌∙◌, refl, sym, arith}
use Rattle.flow_world_steps.specs.Worlds.{looked, rests}
use Rattle.flow_world_parts.specs.Leads.{MayAnswer}
use Rattle.flow_world_parts.proofs.SessionSteps.{engine_goes, engine_refuses, may_answer}
use Rattle.flow_world_parts.proofs.turns.Session.send_again.Goals as goal

pub returns-in-Ok-clause-turned : goal.returns-in-Ok-clause-turned
returns-in-Ok-clause-turned g c = λ answers on_time.
    let s = c.args.self.now in
    engine_goes answers (MayAnswer answers) 0 (g.S.Disk.view c.args.site.now) (g.S.Disk.view c.resend.new.site) s (record s { engine = c.resend.new.engine }) looked rests (may_answer answers s c.requires.some)
    (c.in-Ok.ensures.did answers on_time) refl (omega (arith)) refl

pub returns-in-Ok-clause-between : goal.returns-in-Ok-clause-between
returns-in-Ok-clause-between g c = λ ok. record {
  works = record {
    engine = c.in-Ok.ensures.work;
    filters = c.in-Ok.ensures.filters c.args.self.now.filters c.requires.between.works.filters;
    now = c.requires.between.works.now ∙ sym c.in-Ok.ensures.now;
  };
  put = c.in-Ok.ensures.put c.requires.between.put;
  calm = c.requires.between.calm;
}

pub returns-in-Err-clause-turned : goal.returns-in-Err-clause-turned
returns-in-Err-clause-turned g c = λ answers on_time.
    let s = c.args.self.now in
    engine_refuses answers (MayAnswer answers) c.in-Err.error (g.S.Disk.view c.args.site.now) (g.S.Disk.view c.resend.new.site) s looked (may_answer answers s c.requires.some) (c.in-Err.ensures.did answers on_time)
