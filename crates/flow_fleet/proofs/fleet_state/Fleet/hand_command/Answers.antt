use Rattle.std.proofs.Common.{◌+◌, Ok, refl, ◌∙◌, ap, subst, arith}
use Rattle.flow_world_parts.specs.Acting.{OneAnswers}
use Rattle.flow_fleet.proofs.ParcelLemmas.{between_command, command_acted, command_refused, command_repeated, filters_ready, within_time}
use Rattle.flow_fleet.proofs.fleet_state.Fleet.hand_command.Goals as goal

pub act-requires : goal.act-requires
act-requires g c =
    let s = c.args.self.now in
    let so = g.R.Disk.view c.args.rack.now in
    let works = c.requires.between.works in
    record {
      filters = filters_ready s.filters so works.filters;
      here = omega (arith, works.filters.all, c.requires.addressed.high);
      in_time = within_time so s works;
      addressed = c.requires.addressed;
      command = c.requires.command;
    }

pub overflow_add-self : goal.overflow_add-self
overflow_add-self g c = let calm = c.requires.between.calm in omega (arith, calm)

pub returns-in-Ok-true-clause-did : goal.returns-in-Ok-true-clause-did
returns-in-Ok-true-clause-did g c = λ beat.
    let s = c.args.self.now in
    let so = g.R.Disk.view c.args.rack.now in
    let sn = g.R.Disk.view c.act.new.site in
    let p = c.args.parcel.now in
    command_acted so sn s c.act.new.self p (g.met.R.Disk.sound c.args.rack.now) (g.met.R.Disk.sound c.act.new.site) c.requires.between c.requires.addressed c.requires.command beat
    (subst (λ r. OneAnswers r p s.now so sn s.filters c.act.new.self) (c.in-Ok-true.is ∙ ap Ok c.in-Ok-true.field-0-test) c.act.ensures.answers)

pub returns-in-Ok-true-clause-works : goal.returns-in-Ok-true-clause-works
returns-in-Ok-true-clause-works g c =
    let s = c.args.self.now in
    let so = g.R.Disk.view c.args.rack.now in
    let sn = g.R.Disk.view c.act.new.site in
    let p = c.args.parcel.now in
    between_command so sn s c.act.new.self p (g.met.R.Disk.sound c.args.rack.now) (g.met.R.Disk.sound c.act.new.site) c.requires.between c.requires.addressed c.requires.command c.in-Ok-true.field-0
    (subst (λ r. OneAnswers r p s.now so sn s.filters c.act.new.self) c.in-Ok-true.is c.act.ensures.answers) c.in-Ok-true.ensures.filters

pub returns-in-Ok-false-clause-did : goal.returns-in-Ok-false-clause-did
returns-in-Ok-false-clause-did g c = λ beat.
    let s = c.args.self.now in
    let so = g.R.Disk.view c.args.rack.now in
    let sn = g.R.Disk.view c.act.new.site in
    let p = c.args.parcel.now in
    command_repeated so sn s c.act.new.self p (g.met.R.Disk.sound c.args.rack.now) (g.met.R.Disk.sound c.act.new.site) c.requires.between c.requires.addressed c.requires.command beat
    (subst (λ r. OneAnswers r p s.now so sn s.filters c.act.new.self) (c.in-Ok-false.is ∙ ap Ok c.in-Ok-false.field-0-test) c.act.ensures.answers)

pub returns-in-Ok-false-clause-works : goal.returns-in-Ok-false-clause-works
returns-in-Ok-false-clause-works g c =
    let s = c.args.self.now in
    let so = g.R.Disk.view c.args.rack.now in
    let sn = g.R.Disk.view c.act.new.site in
    let p = c.args.parcel.now in
    between_command so sn s c.act.new.self p (g.met.R.Disk.sound c.args.rack.now) (g.met.R.Disk.sound c.act.new.site) c.requires.between c.requires.addressed c.requires.command c.in-Ok-false.field-0
    (subst (λ r. OneAnswers r p s.now so sn s.filters c.act.new.self) c.in-Ok-false.is c.act.ensures.answers) c.in-Ok-false.ensures.filters

pub returns-in-Err-clause-did : goal.returns-in-Err-clause-did
returns-in-Err-clause-did g c = λ beat.
    let s = c.args.self.now in
    let so = g.R.Disk.view c.args.rack.now in
    let sn = g.R.Disk.view c.act.new.site in
    let p = c.args.parcel.now in
    command_refused so sn s c.act.new.self p (g.met.R.Disk.sound c.args.rack.now) (g.met.R.Disk.sound c.act.new.site) c.requires.between c.requires.addressed c.requires.command beat
    c.in-Err.error c.of_filter.result c.of_filter.ensures c.in-Err.ensures.answers
