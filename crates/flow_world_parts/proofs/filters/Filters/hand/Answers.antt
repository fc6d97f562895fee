use Rattle.std.proofs.Common.{sym, subst}
use Rattle.std.specs.Prelude.{Err}
use Rattle.flow_world_parts.specs.Acting.{OneAnswers}
use Rattle.flow_world_parts.specs.Leads.{FilterDid}
use Rattle.flow_world_parts.proofs.HandSteps.{did, did_refuse}
use Rattle.flow_world_parts.proofs.filters.Filters.hand.Goals as goal

pub returns-in-Ok-clause-did : goal.returns-in-Ok-clause-did
returns-in-Ok-clause-did g c = λ beat.
    did c.args.parcel.now c.args.now (g.S.Disk.view c.args.site.now) (g.S.Disk.view c.act.new.site) c.args.self.now c.act.new.self (g.met.S.Disk.sound c.args.site.now) c.requires.filters
    c.requires.now c.requires.addressed c.requires.command c.requires.begun (g.met.S.Disk.sound c.act.new.site) beat c.in-Ok.acted
    (subst (λ r. OneAnswers r c.args.parcel.now c.args.now (g.S.Disk.view c.args.site.now) (g.S.Disk.view c.act.new.site) c.args.self.now c.act.new.self) c.in-Ok.is c.act.ensures.answers)

pub returns-in-Err-clause-did : goal.returns-in-Err-clause-did
returns-in-Err-clause-did g c = λ beat.
    subst (λ e. FilterDid (Err e) beat c.args.parcel.now (g.S.Disk.view c.args.site.now) c.args.self.now (g.S.Disk.view c.act.new.site) c.act.new.self) (sym c.of_act.ensures)
    (did_refuse c.args.parcel.now c.args.now (g.S.Disk.view c.args.site.now) (g.S.Disk.view c.act.new.site) c.args.self.now c.act.new.self (g.met.S.Disk.sound c.args.site.now) c.requires.filters
    c.requires.now c.requires.addressed c.requires.command c.requires.begun (g.met.S.Disk.sound c.act.new.site) beat c.in-Err.error
    (subst (λ r. OneAnswers r c.args.parcel.now c.args.now (g.S.Disk.view c.args.site.now) (g.S.Disk.view c.act.new.site) c.args.self.now c.act.new.self) c.in-Err.is c.act.ensures.answers))
