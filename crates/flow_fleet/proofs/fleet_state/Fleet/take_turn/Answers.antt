use Rattle.std.proofs.Common.{arith}
use Rattle.cacao_site.specs.SiteCalls.{TakesNone, TakesSome}
use Rattle.cacao_site.specs.declared.parcel.Parcel.{Parcel}
use Rattle.flow_world_steps.specs.Worlds.{holds, looked, rests}
use Rattle.flow_fleet.proofs.FleetLemmas.{then_turned}
use Rattle.flow_fleet.proofs.LoopLemmas.{match_none, match_some, went_on}
use Rattle.flow_fleet.proofs.TurnLemmas.{between_taken, more_used, took_none, took_nothing, took_some}
use Rattle.flow_fleet.proofs.fleet_state.Fleet.take_turn.Goals as goal

pub deliver-requires-clause-between : goal.deliver-requires-clause-between
deliver-requires-clause-between g c =
    between_taken (g.R.Disk.view c.args.rack.now) (g.R.Disk.view c.take.new.self) c.args.self.now (g.met.R.Disk.sound c.args.rack.now) c.requires.between c.requires.goes c.requires.some c.in-Ok-Some.ensures.only

pub go_on-requires-clause-between : goal.go_on-requires-clause-between
go_on-requires-clause-between g c =
    between_taken (g.R.Disk.view c.args.rack.now) (g.R.Disk.view c.take.new.self) c.args.self.now (g.met.R.Disk.sound c.args.rack.now) c.requires.between c.requires.goes c.requires.some c.in-Ok-None.ensures.only

pub returns-in-Ok-Some-clause-turned : goal.returns-in-Ok-Some-clause-turned
returns-in-Ok-Some-clause-turned g c =
    let so = g.R.Disk.view c.args.rack.now in
    let mid = g.R.Disk.view c.take.new.self in
    let s = c.args.self.now in
    let some = match_some c.in-Ok-Some.field-0 c.in-Ok-Some.parcel (TakesNone so mid) (λ (p : Parcel). TakesSome p so mid) c.in-Ok-Some.field-0-is c.in-Ok-Some.ensures.taken in
    then_turned c.deliver.result so mid (g.R.Disk.view c.deliver.new.rack) s s c.deliver.new.self rests (holds mid.disk.beat c.in-Ok-Some.parcel)
    (took_some so mid s (g.met.R.Disk.sound c.args.rack.now) c.requires.between c.requires.goes c.requires.some c.in-Ok-Some.ensures.only c.in-Ok-Some.parcel some)
    (c.deliver.ensures.turned mid.disk.beat)

pub returns-in-Ok-Some-clause-more : goal.returns-in-Ok-Some-clause-more
returns-in-Ok-Some-clause-more g c = λ goes.
    let so = g.R.Disk.view c.args.rack.now in
    let mid = g.R.Disk.view c.take.new.self in
    let sn = g.R.Disk.view c.deliver.new.rack in
    let s = c.args.self.now in
    let t = c.deliver.new.self in
    let p = holds mid.disk.beat c.in-Ok-Some.parcel in
    let works = (between_taken so mid s (g.met.R.Disk.sound c.args.rack.now) c.requires.between c.requires.goes c.requires.some c.in-Ok-Some.ensures.only).works in
    let more = more_used c.accepted_is_runnable.ensures mid sn s t p works (omega arith) (went_on c.deliver.result mid sn s t p goes (c.deliver.ensures.turned mid.disk.beat)) in
    omega (arith, more, c.in-Ok-Some.ensures.only.time.now)

pub returns-in-Ok-None-clause-turned : goal.returns-in-Ok-None-clause-turned
returns-in-Ok-None-clause-turned g c =
    let so = g.R.Disk.view c.args.rack.now in
    let mid = g.R.Disk.view c.take.new.self in
    let s = c.args.self.now in
    let none = match_none c.in-Ok-None.field-0 (TakesNone so mid) (λ (p : Parcel). TakesSome p so mid) c.in-Ok-None.field-0-is c.in-Ok-None.ensures.taken in
    then_turned c.go_on.result so mid (g.R.Disk.view c.go_on.new.rack) s s c.go_on.new.self rests looked
    (took_none so mid s (g.met.R.Disk.sound c.args.rack.now) c.requires.between c.requires.goes c.requires.some c.in-Ok-None.ensures.only none) c.go_on.ensures.turned

pub returns-in-Ok-None-clause-more : goal.returns-in-Ok-None-clause-more
returns-in-Ok-None-clause-more g c = λ goes.
    let so = g.R.Disk.view c.args.rack.now in
    let mid = g.R.Disk.view c.take.new.self in
    let sn = g.R.Disk.view c.go_on.new.rack in
    let s = c.args.self.now in
    let t = c.go_on.new.self in
    let works = (between_taken so mid s (g.met.R.Disk.sound c.args.rack.now) c.requires.between c.requires.goes c.requires.some c.in-Ok-None.ensures.only).works in
    let more = more_used c.accepted_is_runnable.ensures mid sn s t looked works (omega arith) (went_on c.go_on.result mid sn s t looked goes c.go_on.ensures.turned) in
    omega (arith, more, c.in-Ok-None.ensures.only.time.now)

pub returns-in-Err-clause-turned : goal.returns-in-Err-clause-turned
returns-in-Err-clause-turned g c =
    took_nothing (g.R.Disk.view c.args.rack.now) (g.R.Disk.view c.take.new.self) c.args.self.now (g.met.R.Disk.sound c.args.rack.now) c.requires.between c.requires.goes c.requires.some
    c.in-Err.ensures.only c.in-Err.ensures.memory
