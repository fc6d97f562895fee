use Rattle.std.proofs.Common.{arith}
use Rattle.cacao_site.specs.SiteCalls.{TakesNone, TakesSome}
use Rattle.cacao_site.specs.declared.parcel.Parcel.{Parcel}
use Rattle.flow_world_steps.specs.Worlds.{holds, looked, rests}
use Rattle.flow_world_parts.proofs.SessionSteps.{then_turned, took, took_none, took_nothing}
use Rattle.flow_world_parts.proofs.Standing.{working_stays}
use Rattle.flow_world_parts.proofs.TurnSteps.{more_used, went_on}
use Rattle.flow_world_parts.proofs.WaitSteps.{match_none, match_some}
use Rattle.flow_world_parts.proofs.turns.Session.take_turn.Goals as goal

pub deliver-requires-clause-works : goal.deliver-requires-clause-works
deliver-requires-clause-works g c =
    let only = c.in-Ok-Some.ensures.only in
    working_stays c.args.self.now (g.S.Disk.view c.args.site.now) (g.S.Disk.view c.take.new.self) only.disk.disk only.time.now c.requires.between.works

pub go_on-requires-clause-between : goal.go_on-requires-clause-between
go_on-requires-clause-between g c =
    let only = c.in-Ok-None.ensures.only in
    record {
      works = working_stays c.args.self.now (g.S.Disk.view c.args.site.now) (g.S.Disk.view c.take.new.self) only.disk.disk only.time.now c.requires.between.works;
      put = c.requires.between.put;
      calm = c.requires.between.calm;
    }

pub returns-in-Ok-Some-clause-turned : goal.returns-in-Ok-Some-clause-turned
returns-in-Ok-Some-clause-turned g c =
    let so = g.S.Disk.view c.args.site.now in
    let mid = g.S.Disk.view c.take.new.self in
    let s = c.args.self.now in
    let some = match_some c.in-Ok-Some.field-0 c.in-Ok-Some.parcel (TakesNone so mid) (λ (p : Parcel). TakesSome p so mid) c.in-Ok-Some.field-0-is c.in-Ok-Some.ensures.taken in
    then_turned c.deliver.result c.args.answers.now so mid (g.S.Disk.view c.deliver.new.site) s s c.deliver.new.self rests (holds mid.disk.beat c.in-Ok-Some.parcel)
    (took c.args.answers.now so mid s (g.met.S.Disk.sound c.args.site.now) c.requires.between c.requires.some c.requires.goes_on c.in-Ok-Some.ensures.only c.in-Ok-Some.parcel some)
    (c.deliver.ensures.turned c.args.answers.now mid.disk.beat)

pub returns-in-Ok-Some-clause-more : goal.returns-in-Ok-Some-clause-more
returns-in-Ok-Some-clause-more g c = λ goes.
    let so = g.S.Disk.view c.args.site.now in
    let mid = g.S.Disk.view c.take.new.self in
    let sn = g.S.Disk.view c.deliver.new.site in
    let s = c.args.self.now in
    let t = c.deliver.new.self in
    let p = holds mid.disk.beat c.in-Ok-Some.parcel in
    let more = more_used c.accepted_is_runnable.ensures c.args.answers.now mid sn s t p (working_stays s (g.S.Disk.view c.args.site.now) mid c.in-Ok-Some.ensures.only.disk.disk c.in-Ok-Some.ensures.only.time.now c.requires.between.works) c.requires.between.put (omega arith)
    (went_on c.deliver.result c.args.answers.now s t mid sn p goes (c.deliver.ensures.turned c.args.answers.now mid.disk.beat)) in
    omega (arith, more, c.in-Ok-Some.ensures.only.time.now)

pub returns-in-Ok-None-clause-turned : goal.returns-in-Ok-None-clause-turned
returns-in-Ok-None-clause-turned g c =
    let so = g.S.Disk.view c.args.site.now in
    let mid = g.S.Disk.view c.take.new.self in
    let s = c.args.self.now in
    let none = match_none c.in-Ok-None.field-0 (TakesNone so mid) (λ (p : Parcel). TakesSome p so mid) c.in-Ok-None.field-0-is c.in-Ok-None.ensures.taken in
    then_turned c.go_on.result c.args.answers.now so mid (g.S.Disk.view c.go_on.new.site) s s c.go_on.new.self rests looked
    (took_none c.args.answers.now so mid s (g.met.S.Disk.sound c.args.site.now) c.requires.between c.requires.some c.requires.goes_on c.in-Ok-None.ensures.only none) c.go_on.ensures.turned

pub returns-in-Ok-None-clause-more : goal.returns-in-Ok-None-clause-more
returns-in-Ok-None-clause-more g c = λ goes.
    let mid = g.S.Disk.view c.take.new.self in
    let sn = g.S.Disk.view c.go_on.new.site in
    let s = c.args.self.now in
    let t = c.go_on.new.self in
    let more = more_used c.accepted_is_runnable.ensures c.args.answers.now mid sn s t looked (working_stays s (g.S.Disk.view c.args.site.now) mid c.in-Ok-None.ensures.only.disk.disk c.in-Ok-None.ensures.only.time.now c.requires.between.works) c.requires.between.put (omega arith)
    (went_on c.go_on.result c.args.answers.now s t mid sn looked goes c.go_on.ensures.turned) in
    omega (arith, more, c.in-Ok-None.ensures.only.time.now)

pub returns-in-Err-clause-turned : goal.returns-in-Err-clause-turned
returns-in-Err-clause-turned g c =
    took_nothing c.args.answers.now (g.S.Disk.view c.args.site.now) (g.S.Disk.view c.take.new.self) c.args.self.now (g.met.S.Disk.sound c.args.site.now) c.requires.between c.requires.some c.requires.goes_on
    c.in-Err.ensures.only c.in-Err.ensures.memory
