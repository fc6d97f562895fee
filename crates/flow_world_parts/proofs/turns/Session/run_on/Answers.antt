use Rattle.std.proofs.Common.{◌∙◌, sym, ap, subst, arith}
use Rattle.std.specs.Prelude.{Ok}
use Rattle.flow_core_rules.specs.Changes.{outcome}
use Rattle.flow_world_steps.specs.Worlds.{rests}
use Rattle.flow_world_parts.specs.Leads.{Turned}
use Rattle.flow_world_parts.specs.declared.close.Close.TheVariants as close
use Rattle.flow_world_parts.proofs.SessionSteps.{stays_so, then_closes, then_goes, then_refuses}
use Rattle.flow_world_parts.proofs.TurnSteps.{used_few}
use Rattle.flow_world_parts.proofs.WaitSteps.{has_ended, has_paused}
use Rattle.flow_world_parts.proofs.turns.Session.run_on.Goals as goal

pub loop-well-init : goal.loop-well-init
loop-well-init g c = record { goes = stays_so c.args.answers.now (g.S.Disk.view c.args.site.now) c.args.self.now rests; between = c.requires.between }

pub returns-in-Some : goal.returns-in-Some
returns-in-Some g c = record {
  ended = then_closes c.args.answers.now (close.Ended c.in-Some.well) (g.S.Disk.view c.args.site.now) (g.S.Disk.view c.loop-well.site) (g.S.Disk.view c.loop-well.site) c.args.self.now c.loop-well.self rests rests
      c.loop-well.invariant.goes
      (has_ended c.args.answers.now (g.S.Disk.view c.loop-well.site) c.loop-well.self c.in-Some.well c.loop-well.invariant.between (sym (ap (λ s. outcome s.lists) c.flow.ensures.seen) ∙ sym c.outcome.ensures ∙ c.in-Some.is));
}

pub returns-then-self-eq0 : goal.returns-then-self-eq0
returns-then-self-eq0 g c = record {
  ended = then_closes c.args.answers.now close.Paused (g.S.Disk.view c.args.site.now) (g.S.Disk.view c.loop-well.site) (g.S.Disk.view c.loop-well.site) c.args.self.now c.loop-well.self rests rests c.loop-well.invariant.goes
      (has_paused c.args.answers.now (g.S.Disk.view c.loop-well.site) c.loop-well.self c.loop-well.invariant.between (sym (ap (λ s. outcome s.lists) c.flow.ensures.seen) ∙ sym c.outcome.ensures ∙ c.in_default.is) c.if-self-eq0.true);
}

pub loop-well-smaller : goal.loop-well-smaller
loop-well-smaller g c =
    let more = c.in-Ok-None.ensures.more (ap Ok c.in-Ok-None.field-0-is) in
    let few = used_few c.take_turn.new.self (g.S.Disk.view c.take_turn.new.site) (c.in-Ok-None.ensures.between (ap Ok c.in-Ok-None.field-0-is)) in
    omega (arith, more, few)

pub loop-well-preserved : goal.loop-well-preserved
loop-well-preserved g c = record {
  goes = then_goes c.args.answers.now (g.S.Disk.view c.args.site.now) (g.S.Disk.view c.loop-well.site) (g.S.Disk.view c.take_turn.new.site) c.args.self.now c.loop-well.self c.take_turn.new.self rests rests rests
      c.loop-well.invariant.goes
      (subst (λ o. Turned (Ok o) c.args.answers.now (g.S.Disk.view c.loop-well.site) c.loop-well.self rests (g.S.Disk.view c.take_turn.new.site) c.take_turn.new.self) c.in-Ok-None.field-0-is c.in-Ok-None.ensures.turned);
  between = c.in-Ok-None.ensures.between (ap Ok c.in-Ok-None.field-0-is);
}

pub returns-in-Ok-Some : goal.returns-in-Ok-Some
returns-in-Ok-Some g c = record {
  ended = then_closes c.args.answers.now c.in-Ok-Some.close (g.S.Disk.view c.args.site.now) (g.S.Disk.view c.loop-well.site) (g.S.Disk.view c.take_turn.new.site) c.args.self.now c.loop-well.self rests rests
      c.loop-well.invariant.goes
      (subst (λ o. Turned (Ok o) c.args.answers.now (g.S.Disk.view c.loop-well.site) c.loop-well.self rests (g.S.Disk.view c.take_turn.new.site) c.take_turn.new.self) c.in-Ok-Some.field-0-is c.in-Ok-Some.ensures.turned);
}

pub returns-in-Err : goal.returns-in-Err
returns-in-Err g c = record {
  ended = then_refuses c.args.answers.now c.in-Err.error (g.S.Disk.view c.args.site.now) (g.S.Disk.view c.loop-well.site) (g.S.Disk.view c.take_turn.new.site) c.args.self.now c.loop-well.self rests rests
      c.loop-well.invariant.goes c.in-Err.ensures.turned;
}
