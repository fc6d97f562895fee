use Rattle.std.proofs.Common.{ℕ, ◌∙◌, subst, sym, refl, ap}
use Rattle.std.specs.Prelude.{Ok, Err, ⊤}
use Rattle.flow_engine.specs.EngineCalls.{Appends, IsReply, Refused}
use Rattle.flow_world_steps.specs.Worlds.{holds}
use Rattle.flow_world_steps.proofs.AllPuts.{put_after_reply}
use Rattle.flow_world_parts.proofs.EngineSide.{engine_is}
use Rattle.flow_fleet_laws.specs.Views.{seen_from}
use Rattle.flow_fleet_steps.specs.declared.error.FleetError.{FleetError}
use Rattle.flow_fleet.specs.Leads.{MayAppend, RunRefuses, same_turn}
use Rattle.flow_fleet.proofs.Places.{rest_only, rest_then}
use Rattle.flow_fleet.proofs.RunCalls.{appended_then, try_reply}
use Rattle.flow_fleet.proofs.RunSteps.{not_appended}
use Rattle.flow_fleet.proofs.RunWork.{replied_work}
use Rattle.flow_fleet.proofs.run_side.take_reply.Goals as goal

pub returns-in-Ok-clause-tried : goal.returns-in-Ok-clause-tried
returns-in-Ok-clause-tried g c = λ beat.
    let so = g.R.Disk.view c.args.rack.now in
    let place = c.args.place in
    let v = c.args.engine.now in
    let mid = g.R.Disk.view c.reply_at-done.new.rack in
    let w = c.reply_at-done.new.engine in
    let p = c.args.parcel.now in
    let is : Appends v w (IsReply v.history p so.clock.now) (seen_from place so) (seen_from place mid) =
    subst (λ (n : ℕ). Appends v w (IsReply v.history p n) (seen_from place so) (seen_from place mid)) c.requires.now
    (c.reply_at-done.ensures.replied (c.in-Ok-true.is ∙ ap Ok c.in-Ok-true.field-0-test)) in
    appended_then (MayAppend place) place (λ x given. given.0) (λ x given. given.1) (IsReply v.history p so.clock.now) same_turn so v (holds beat p)
    (try_reply place so v (g.met.R.Disk.sound c.args.rack.now) beat p c.requires.work c.requires.addressed c.requires.back) mid w is (engine_is w (seen_from place mid) c.reply_at-done.ensures.ready c.law.ensures.history c.law.ensures.put) {T = ⊤} (Ok tt) (g.R.Disk.view c.say_last.new.rack) w c.in-Ok.ensures.did

pub returns-in-Ok-clause-put : goal.returns-in-Ok-clause-put
returns-in-Ok-clause-put g c =
    let so = g.R.Disk.view c.args.rack.now in
    let place = c.args.place in
    let v = c.args.engine.now in
    let mid = g.R.Disk.view c.reply_at-done.new.rack in
    let w = c.reply_at-done.new.engine in
    let p = c.args.parcel.now in
    let is : Appends v w (IsReply v.history p so.clock.now) (seen_from place so) (seen_from place mid) =
    subst (λ (n : ℕ). Appends v w (IsReply v.history p n) (seen_from place so) (seen_from place mid)) c.requires.now
    (c.reply_at-done.ensures.replied (c.in-Ok-true.is ∙ ap Ok c.in-Ok-true.field-0-test)) in
    put_after_reply v w p so.clock.now (seen_from place so) (seen_from place mid) c.requires.work.up.has_file.engine.history c.law.ensures.put is c.requires.put

pub returns-in-Ok-clause-rest : goal.returns-in-Ok-clause-rest
returns-in-Ok-clause-rest g c =
    let so = g.R.Disk.view c.args.rack.now in
    let place = c.args.place in
    let v = c.args.engine.now in
    let mid = g.R.Disk.view c.reply_at-done.new.rack in
    let w = c.reply_at-done.new.engine in
    let p = c.args.parcel.now in
    let is : Appends v w (IsReply v.history p so.clock.now) (seen_from place so) (seen_from place mid) =
    subst (λ (n : ℕ). Appends v w (IsReply v.history p n) (seen_from place so) (seen_from place mid)) c.requires.now
    (c.reply_at-done.ensures.replied (c.in-Ok-true.is ∙ ap Ok c.in-Ok-true.field-0-test)) in
    rest_then place so mid (g.R.Disk.view c.say_last.new.rack) (rest_only place _ so mid is.adds.offers.file) c.in-Ok.ensures.rest

pub returns-in-Err-say_last-clause-tried : goal.returns-in-Err-say_last-clause-tried
returns-in-Err-say_last-clause-tried g c = λ beat.
    let so = g.R.Disk.view c.args.rack.now in
    let place = c.args.place in
    let v = c.args.engine.now in
    let mid = g.R.Disk.view c.reply_at-done.new.rack in
    let w = c.reply_at-done.new.engine in
    let p = c.args.parcel.now in
    let is : Appends v w (IsReply v.history p so.clock.now) (seen_from place so) (seen_from place mid) =
    subst (λ (n : ℕ). Appends v w (IsReply v.history p n) (seen_from place so) (seen_from place mid)) c.requires.now
    (c.reply_at-done.ensures.replied (c.in-Ok-true.is ∙ ap Ok c.in-Ok-true.field-0-test)) in
    appended_then (MayAppend place) place (λ x given. given.0) (λ x given. given.1) (IsReply v.history p so.clock.now) same_turn so v (holds beat p)
    (try_reply place so v (g.met.R.Disk.sound c.args.rack.now) beat p c.requires.work c.requires.addressed c.requires.back) mid w is (engine_is w (seen_from place mid) c.reply_at-done.ensures.ready c.law.ensures.history c.law.ensures.put) {T = ⊤} (Err c.in-Err-say_last.error) (g.R.Disk.view c.say_last.new.rack) w c.in-Err-say_last.ensures.did

pub returns-in-Err-clause-tried : goal.returns-in-Err-clause-tried
returns-in-Err-clause-tried g c = λ beat.
    let so = g.R.Disk.view c.args.rack.now in
    let place = c.args.place in
    let v = c.args.engine.now in
    let mid = g.R.Disk.view c.reply_at-done.new.rack in
    let w = c.reply_at-done.new.engine in
    let p = c.args.parcel.now in
    subst (λ (e : FleetError). RunRefuses (MayAppend place) e place so v (holds beat p) mid) (sym c.of_engine.ensures)
    (not_appended (MayAppend place) (λ x given. given.1) (IsReply v.history p so.clock.now) same_turn place so v (holds beat p)
    (try_reply place so v (g.met.R.Disk.sound c.args.rack.now) beat p c.requires.work c.requires.addressed c.requires.back) mid w c.in-Err.error tt refl c.requires.work.up.has_file.whole (engine_is w (seen_from place mid) c.reply_at-done.ensures.ready c.law.ensures.history c.law.ensures.put)
    (subst (λ (n : ℕ). Refused v w (IsReply v.history p n) c.in-Err.error (seen_from place so) (seen_from place mid)) c.requires.now c.in-Err.ensures.refused))

pub say_last-requires : goal.say_last-requires
say_last-requires g c = record {
  work = replied_work c.args.place c.args.now c.args.parcel.now (g.R.Disk.view c.args.rack.now) (g.R.Disk.view c.reply_at-done.new.rack) c.args.engine.now c.reply_at-done.new.engine c.requires.now
      (c.reply_at-done.ensures.replied (c.in-Ok-true.is ∙ ap Ok c.in-Ok-true.field-0-test)) c.requires.work
      (engine_is c.reply_at-done.new.engine (seen_from c.args.place (g.R.Disk.view c.reply_at-done.new.rack)) c.reply_at-done.ensures.ready c.law.ensures.history c.law.ensures.put);
}
