use Rattle.std.proofs.Common.{ℕ, ◌∙◌, Ok, subst, sym, refl, ap}
use Rattle.flow_world_steps.specs.EngineCalls.{Appends, IsReply, Refused}
use Rattle.flow_world_steps.specs.Worlds.{holds}
use Rattle.flow_world_steps.proofs.AllPuts.{put_after_reply}
use Rattle.flow_world_parts.specs.Leads.{EngineRefuses, MayAppend}
use Rattle.flow_world_parts.specs.declared.error.WorldError.{WorldError}
use Rattle.flow_world_parts.proofs.EngineSide.{append_said, append_unsaid, engine_is, reply_step}
use Rattle.flow_world_parts.proofs.EngineSteps.{not_appended}
use Rattle.flow_world_parts.proofs.engine_side.take_reply.Goals as goal

pub returns-in-Ok-clause-tried : goal.returns-in-Ok-clause-tried
returns-in-Ok-clause-tried g c = λ beat.
    let so = g.S.Disk.view c.args.site.now in
    let mid = g.S.Disk.view c.reply-done.new.site in
    let v = c.args.engine.now in
    let w = c.reply-done.new.self in
    let p = c.args.parcel.now in
    let is = c.reply-done.ensures.replied (c.in-Ok-true.is ∙ ap Ok c.in-Ok-true.field-0-test) in
    append_said MayAppend (λ notes given. given) (IsReply v.history p so.clock.now) so v (holds beat p)
    (reply_step so v beat p (g.met.S.Disk.sound c.args.site.now) c.requires.work.up c.requires.addressed c.requires.back)
    mid (g.S.Disk.view c.say_last.new.site) w (subst (λ (n : ℕ). Appends v w (IsReply v.history p n) so mid) c.requires.now is)
    (engine_is w mid c.reply-done.ensures.ready c.law.ensures.history c.law.ensures.put) c.in-Ok.ensures.did

pub returns-in-Ok-clause-put : goal.returns-in-Ok-clause-put
returns-in-Ok-clause-put g c = λ all.
    let so = g.S.Disk.view c.args.site.now in
    let mid = g.S.Disk.view c.reply-done.new.site in
    let v = c.args.engine.now in
    let w = c.reply-done.new.self in
    let p = c.args.parcel.now in
    let is = c.reply-done.ensures.replied (c.in-Ok-true.is ∙ ap Ok c.in-Ok-true.field-0-test) in
    put_after_reply v w p c.args.now so mid c.requires.work.up.has_file.engine.history c.law.ensures.put is all

pub returns-in-Err-say_last-clause-tried : goal.returns-in-Err-say_last-clause-tried
returns-in-Err-say_last-clause-tried g c = λ beat.
    let so = g.S.Disk.view c.args.site.now in
    let mid = g.S.Disk.view c.reply-done.new.site in
    let v = c.args.engine.now in
    let w = c.reply-done.new.self in
    let p = c.args.parcel.now in
    let is = c.reply-done.ensures.replied (c.in-Ok-true.is ∙ ap Ok c.in-Ok-true.field-0-test) in
    append_unsaid MayAppend (λ notes given. given) (IsReply v.history p so.clock.now) so v (holds beat p)
    (reply_step so v beat p (g.met.S.Disk.sound c.args.site.now) c.requires.work.up c.requires.addressed c.requires.back)
    mid (g.S.Disk.view c.say_last.new.site) w (subst (λ (n : ℕ). Appends v w (IsReply v.history p n) so mid) c.requires.now is)
    (engine_is w mid c.reply-done.ensures.ready c.law.ensures.history c.law.ensures.put) c.in-Err-say_last.error c.in-Err-say_last.ensures.did

pub returns-in-Err-clause-tried : goal.returns-in-Err-clause-tried
returns-in-Err-clause-tried g c = λ beat.
    let so = g.S.Disk.view c.args.site.now in
    let sn = g.S.Disk.view c.reply-done.new.site in
    let v = c.args.engine.now in
    let w = c.reply-done.new.self in
    let p = c.args.parcel.now in
    subst (λ (e : WorldError). EngineRefuses MayAppend e so v (holds beat p) sn) (sym c.of_append.ensures)
    (not_appended MayAppend (λ notes given. given) (IsReply v.history p so.clock.now) so v (holds beat p)
    (reply_step so v beat p (g.met.S.Disk.sound c.args.site.now) c.requires.work.up c.requires.addressed c.requires.back)
    sn w c.in-Err.error tt refl c.requires.work.up.has_file.whole (engine_is w sn c.reply-done.ensures.ready c.law.ensures.history c.law.ensures.put)
    (subst (λ (n : ℕ). Refused v w (IsReply v.history p n) c.in-Err.error so sn) c.requires.now c.in-Err.ensures.refused))
