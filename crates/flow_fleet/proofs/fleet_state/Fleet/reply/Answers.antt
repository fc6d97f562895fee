use Rattle.std.proofs.Common.{◌-◌, Ok, refl, ◌∙◌, ap, subst, arith}
use Rattle.oc2_msg.specs.declared.answers.Answer.{Answer}
use Rattle.flow_engine.specs.EngineCalls.{IsReplyTo}
use Rattle.flow_world_steps.specs.Worlds.{holds, rests}
use Rattle.flow_fleet.specs.Leads.{MayAppend, RunTried, same_turn}
use Rattle.flow_fleet.proofs.FleetLemmas.{between_after, run_goes, run_refuses}
use Rattle.flow_fleet.proofs.Places.{low_place}
use Rattle.flow_fleet.proofs.RecordLemmas.{at_work, each_below, its_run, may_append, not_taken, set_same}
use Rattle.flow_fleet_steps.specs.Turns.{IsSettled}
use Rattle.flow_fleet.proofs.fleet_state.Fleet.reply.Goals as goal

pub take_reply-requires : goal.take_reply-requires
take_reply-requires g c =
    let s = c.args.self.now in
    let so = g.R.Disk.view c.args.rack.now in
    let place = c.args.place in
    let v = c.index_mut.result.now in
    let there = its_run s.engines.items place v c.requires.here c.index_mut.ensures.value in
    record {
      place = low_place s.engines.items place v c.requires.between.works.few there;
      work = at_work so s place v there c.requires.between;
      now = c.requires.between.works.now;
      addressed = c.requires.addressed;
      back = c.requires.back;
      put = (c.requires.between.settled place v there).put;
    }

pub returns-in-Ok-true-clause-tried : goal.returns-in-Ok-true-clause-tried
returns-in-Ok-true-clause-tried g c = λ beat.
    let s = c.args.self.now in
    let so = g.R.Disk.view c.args.rack.now in
    let sn = g.R.Disk.view c.take_reply.new.rack in
    let place = c.args.place in
    let p = c.args.parcel.now in
    let v = c.index_mut.result.now in
    let there = its_run s.engines.items place v c.requires.here c.index_mut.ensures.value in
    let settled = each_below s.engines.items place (IsSettled so) c.requires.between.settled in
    run_goes (MayAppend place) place so sn s v (holds beat p) there (may_append so s place c.requires.between.works settled c.requires.some (holds beat p)) 1 same_turn c.take_reply.new.engine rests _
    (subst (λ r. RunTried r (MayAppend place) ((read : Answer) → IsReplyTo v.history p read → ⊥) 1 place so v (holds beat p) sn c.take_reply.new.engine) (c.in-Ok-true.is ∙ ap Ok c.in-Ok-true.field-0-test) (c.take_reply.ensures.tried beat))
    refl refl (omega (arith, c.requires.some)) (λ own notes k counts. counts.turn) refl

pub returns-in-Ok-true-clause-between : goal.returns-in-Ok-true-clause-between
returns-in-Ok-true-clause-between g c =
    let s = c.args.self.now in
    let so = g.R.Disk.view c.args.rack.now in
    let sn = g.R.Disk.view c.take_reply.new.rack in
    let place = c.args.place in
    let v = c.index_mut.result.now in
    let there = its_run s.engines.items place v c.requires.here c.index_mut.ensures.value in
    between_after place so sn s _ v c.take_reply.new.engine there c.in-Ok-true.ensures.rest c.in-Ok-true.ensures.work refl refl refl c.requires.between.works.turn c.requires.between c.in-Ok-true.ensures.put refl

pub returns-in-Ok-false-clause-tried : goal.returns-in-Ok-false-clause-tried
returns-in-Ok-false-clause-tried g c = λ beat.
    let s = c.args.self.now in
    let so = g.R.Disk.view c.args.rack.now in
    let sn = g.R.Disk.view c.take_reply.new.rack in
    let place = c.args.place in
    let p = c.args.parcel.now in
    let v = c.index_mut.result.now in
    let there = its_run s.engines.items place v c.requires.here c.index_mut.ensures.value in
    let none = subst (λ r. RunTried r (MayAppend place) ((read : Answer) → IsReplyTo v.history p read → ⊥) 1 place so v (holds beat p) sn c.take_reply.new.engine) (c.in-Ok-false.is ∙ ap Ok c.in-Ok-false.field-0-test) (c.take_reply.ensures.tried beat) in (
      not_taken s.engines.items place v p there none.0,
      record { engines = set_same s.engines.items place v c.take_reply.new.engine there none.1; filters = refl; now = refl; left = refl; turn = refl; ignored = refl },
      none.2,
    )

pub returns-in-Ok-false-clause-between : goal.returns-in-Ok-false-clause-between
returns-in-Ok-false-clause-between g c =
    let s = c.args.self.now in
    let so = g.R.Disk.view c.args.rack.now in
    let sn = g.R.Disk.view c.take_reply.new.rack in
    let place = c.args.place in
    let v = c.index_mut.result.now in
    let there = its_run s.engines.items place v c.requires.here c.index_mut.ensures.value in
    between_after place so sn s _ v c.take_reply.new.engine there c.in-Ok-false.ensures.rest c.in-Ok-false.ensures.work refl refl refl c.requires.between.works.turn c.requires.between c.in-Ok-false.ensures.put refl

pub returns-in-Err-clause-tried : goal.returns-in-Err-clause-tried
returns-in-Err-clause-tried g c = λ beat.
    let s = c.args.self.now in
    let so = g.R.Disk.view c.args.rack.now in
    let sn = g.R.Disk.view c.take_reply.new.rack in
    let place = c.args.place in
    let p = c.args.parcel.now in
    let v = c.index_mut.result.now in
    let there = its_run s.engines.items place v c.requires.here c.index_mut.ensures.value in
    let settled = each_below s.engines.items place (IsSettled so) c.requires.between.settled in
    run_refuses (MayAppend place) place so sn s v (holds beat p) there (may_append so s place c.requires.between.works settled c.requires.some (holds beat p)) c.in-Err.error (c.in-Err.ensures.tried beat)
