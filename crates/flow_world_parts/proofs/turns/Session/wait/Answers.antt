use Rattle.std.proofs.Common.{sym, subst}
use Rattle.flow_world_steps.specs.Worlds.{looked}
use Rattle.flow_world_parts.specs.Clock.{FallsShort, IsReached}
use Rattle.flow_world_parts.specs.Leads.{Refuses}
use Rattle.flow_world_parts.specs.declared.error.WorldError.{WorldError}
use Rattle.flow_world_parts.proofs.WaitSteps.{match_none, match_some, next_is_late, passes_limit, reached_works, waited, waits_on}
use Rattle.flow_world_parts.proofs.turns.Session.wait.Goals as goal

pub returns-then-moment-gt-LAST_MOMENT-clause-turned : goal.returns-then-moment-gt-LAST_MOMENT-clause-turned
returns-then-moment-gt-LAST_MOMENT-clause-turned g c = λ answers comes.
    next_is_late answers (g.S.Disk.view c.args.site.now) c.args.self.now c.args.moment (g.met.S.Disk.sound c.args.site.now) c.requires.some comes c.if-moment-gt-LAST_MOMENT.true

pub returns-in-Ok-Some-clause-turned : goal.returns-in-Ok-Some-clause-turned
returns-in-Ok-Some-clause-turned g c = λ answers comes.
    let so = g.S.Disk.view c.args.site.now in
    let sn = g.S.Disk.view c.reach.new.site in
    waited answers so c.args.self.now c.args.moment (g.met.S.Disk.sound c.args.site.now) c.requires.some comes c.in-Ok-Some.now sn c.if-moment-gt-LAST_MOMENT.false
    (match_some c.in-Ok-Some.field-0 c.in-Ok-Some.now (FallsShort c.args.moment so sn) (λ now. IsReached c.args.moment now so sn) c.in-Ok-Some.field-0-is c.in-Ok-Some.ensures.reached)

pub returns-in-Ok-Some-clause-between : goal.returns-in-Ok-Some-clause-between
returns-in-Ok-Some-clause-between g c = λ ok.
    let so = g.S.Disk.view c.args.site.now in
    let sn = g.S.Disk.view c.reach.new.site in
    let is = match_some c.in-Ok-Some.field-0 c.in-Ok-Some.now (FallsShort c.args.moment so sn) (λ now. IsReached c.args.moment now so sn) c.in-Ok-Some.field-0-is c.in-Ok-Some.ensures.reached in
    record { works = reached_works c.args.self.now so sn c.args.moment c.in-Ok-Some.now c.requires.between.works is; put = c.requires.between.put; calm = c.requires.between.calm }

pub returns-in-Ok-None-clause-turned : goal.returns-in-Ok-None-clause-turned
returns-in-Ok-None-clause-turned g c = λ answers comes.
    let so = g.S.Disk.view c.args.site.now in
    let sn = g.S.Disk.view c.reach.new.site in
    waits_on answers so c.args.self.now c.args.moment (g.met.S.Disk.sound c.args.site.now) c.requires.some comes sn c.if-moment-gt-LAST_MOMENT.false
    (match_none c.in-Ok-None.field-0 (FallsShort c.args.moment so sn) (λ now. IsReached c.args.moment now so sn) c.in-Ok-None.field-0-is c.in-Ok-None.ensures.reached)

pub returns-in-Err-clause-turned : goal.returns-in-Err-clause-turned
returns-in-Err-clause-turned g c = λ answers comes.
    let so = g.S.Disk.view c.args.site.now in
    let sn = g.S.Disk.view c.reach.new.site in
    subst (λ (e : WorldError). Refuses e answers so c.args.self.now looked sn) (sym c.in-Err.ensures.late.0)
    (passes_limit answers so c.args.self.now c.args.moment (g.met.S.Disk.sound c.args.site.now) c.requires.some comes sn c.if-moment-gt-LAST_MOMENT.false c.in-Err.ensures.late.1)
