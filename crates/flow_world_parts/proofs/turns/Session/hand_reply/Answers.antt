use Rattle.std.proofs.Common.{◌∙◌, ◌+◌, ◌-◌, Ok, [], refl, sym, ap, subst, arith}
use Rattle.oc2_msg.specs.declared.answers.Answer.{Answer}
use Rattle.flow_world_steps.specs.EngineCalls.{IsReplyTo}
use Rattle.flow_world_steps.specs.Worlds.{holds, rests}
use Rattle.flow_world_parts.specs.Leads.{EngineTried, MayAppend}
use Rattle.flow_world_parts.proofs.SessionSteps.{engine_goes, may_append, reply_none}
use Rattle.flow_world_parts.proofs.Standing.{rests_fresh, works_after}
use Rattle.flow_world_parts.proofs.turns.Session.hand_reply.Goals as goal

pub returns-in-Ok-true-clause-did : goal.returns-in-Ok-true-clause-did
returns-in-Ok-true-clause-did g c = λ answers beat.
    let s = c.args.self.now in
    let so = g.S.Disk.view c.args.site.now in
    let sn = g.S.Disk.view c.take_reply.new.site in
    let p = c.args.parcel.now in
    engine_goes answers MayAppend 1 so sn s (record s { engine = c.take_reply.new.engine; left = s.left - 1 }) (holds beat p) rests (may_append answers s c.requires.some)
    (subst (λ r. EngineTried r MayAppend ((read : Answer) → IsReplyTo s.engine.history p read → ⊥) 1 so s.engine (holds beat p) sn c.take_reply.new.engine) (c.in-Ok-true.is ∙ ap Ok c.in-Ok-true.field-0-test) (c.take_reply.ensures.tried beat))
    refl (omega (arith, c.requires.some)) refl

pub returns-in-Ok-true-clause-works : goal.returns-in-Ok-true-clause-works
returns-in-Ok-true-clause-works g c =
    let s = c.args.self.now in
    let so = g.S.Disk.view c.args.site.now in
    let sn = g.S.Disk.view c.take_reply.new.site in
    works_after [] so sn s (record s { engine = c.take_reply.new.engine; left = s.left - 1 }) (holds 0 c.args.parcel.now) rests c.requires.works (returns-in-Ok-true-clause-did g c [] 0) tt rests_fresh
    (c.requires.works.now ∙ sym c.in-Ok-true.ensures.now)

pub returns-in-Ok-false-clause-did : goal.returns-in-Ok-false-clause-did
returns-in-Ok-false-clause-did g c = λ answers beat.
    let s = c.args.self.now in
    let so = g.S.Disk.view c.args.site.now in
    let sn = g.S.Disk.view c.take_reply.new.site in
    let p = c.args.parcel.now in
    let none = subst (λ r. EngineTried r MayAppend ((read : Answer) → IsReplyTo s.engine.history p read → ⊥) 1 so s.engine (holds beat p) sn c.take_reply.new.engine) (c.in-Ok-false.is ∙ ap Ok c.in-Ok-false.field-0-test) (c.take_reply.ensures.tried beat) in
    reply_none answers so sn s c.take_reply.new.engine beat p c.requires.calm c.requires.addressed c.requires.back none.0 none.1 none.2

pub returns-in-Ok-false-clause-works : goal.returns-in-Ok-false-clause-works
returns-in-Ok-false-clause-works g c =
    let s = c.args.self.now in
    let so = g.S.Disk.view c.args.site.now in
    let sn = g.S.Disk.view c.take_reply.new.site in
    works_after [] so sn s (record s { engine = c.take_reply.new.engine; ignored = s.ignored + 1 }) (holds 0 c.args.parcel.now) rests c.requires.works (returns-in-Ok-false-clause-did g c [] 0) tt rests_fresh
    (c.requires.works.now ∙ sym c.in-Ok-false.ensures.now)
