use Rattle.std.proofs.Common.{ℕ, ◌≡◌, true, refl, sym, subst}
use Rattle.flow_core_rules.specs.Changes.{is_in_time}
use Rattle.flow_world_parts.specs.declared.due.Due.TheVariants as kind
use Rattle.flow_world_parts.proofs.DueSteps.{due_here, least_now, moves_now, overdue_now, resent_now}
use Rattle.flow_world_parts.proofs.WaitSteps.{asking}
use Rattle.flow_world_parts.proofs.turns.Session.go_on.Goals as goal

pub first_due-requires-clause-begun : goal.first_due-requires-clause-begun
first_due-requires-clause-begun g c = c.requires.between.works.engine.up.begun

pub first_due-requires-clause-in_time : goal.first_due-requires-clause-in_time
first_due-requires-clause-in_time g c =
    subst (λ (n : ℕ). is_in_time c.args.self.now.engine.history.seen n ≡ true) (sym c.requires.between.works.now) c.requires.between.works.engine.in_time

pub make_move-requires-clause-moves : goal.make_move-requires-clause-moves
make_move-requires-clause-moves g c =
    let s = c.args.self.now in
    let so = g.S.Disk.view c.args.site.now in
    let due = (c.in-Move.ensures so (g.met.S.Disk.sound c.args.site.now) c.requires.between.works.engine c.requires.between.works.now (kind.Move)).0 refl in
    moves_now c.args.answers.now so s.engine s.now c.requires.between.works.now due

pub returns-in-Move-clause-turned : goal.returns-in-Move-clause-turned
returns-in-Move-clause-turned g c =
    c.make_move.ensures.turned c.args.answers.now

pub upgrade-requires-clause-earlier : goal.upgrade-requires-clause-earlier
upgrade-requires-clause-earlier g c =
    let s = c.args.self.now in
    let so = g.S.Disk.view c.args.site.now in
    let due = (c.in-Upgrade.ensures so (g.met.S.Disk.sound c.args.site.now) c.requires.between.works.engine c.requires.between.works.now (kind.Upgrade)).0 refl in
    (due_here c.args.answers.now so s.engine kind.Upgrade due).earlier

pub returns-in-Upgrade-clause-turned : goal.returns-in-Upgrade-clause-turned
returns-in-Upgrade-clause-turned g c =
    let s = c.args.self.now in
    let so = g.S.Disk.view c.args.site.now in
    let due = (c.in-Upgrade.ensures so (g.met.S.Disk.sound c.args.site.now) c.requires.between.works.engine c.requires.between.works.now (kind.Upgrade)).0 refl in
    c.upgrade.ensures.turned c.args.answers.now due

pub tell-requires-clause-idle : goal.tell-requires-clause-idle
tell-requires-clause-idle g c =
    let s = c.args.self.now in
    let so = g.S.Disk.view c.args.site.now in
    let due = (c.in-Tell.ensures so (g.met.S.Disk.sound c.args.site.now) c.requires.between.works.engine c.requires.between.works.now (kind.Tell c.in-Tell.issue)).0 refl in
    λ filters notes given. (due filters notes given).to_be_told.idle

pub tell-requires-clause-least : goal.tell-requires-clause-least
tell-requires-clause-least g c =
    let s = c.args.self.now in
    let so = g.S.Disk.view c.args.site.now in
    let due = (c.in-Tell.ensures so (g.met.S.Disk.sound c.args.site.now) c.requires.between.works.engine c.requires.between.works.now (kind.Tell c.in-Tell.issue)).0 refl in
    least_now c.args.answers.now so s.engine c.in-Tell.issue due

pub tell-requires-clause-upgraded : goal.tell-requires-clause-upgraded
tell-requires-clause-upgraded g c =
    let s = c.args.self.now in
    let so = g.S.Disk.view c.args.site.now in
    let due = (c.in-Tell.ensures so (g.met.S.Disk.sound c.args.site.now) c.requires.between.works.engine c.requires.between.works.now (kind.Tell c.in-Tell.issue)).0 refl in
    (due_here c.args.answers.now so s.engine (kind.Tell c.in-Tell.issue) due).upgraded

pub expire-requires-clause-overdue : goal.expire-requires-clause-overdue
expire-requires-clause-overdue g c =
    let s = c.args.self.now in
    let so = g.S.Disk.view c.args.site.now in
    let due = (c.in-Expire.ensures so (g.met.S.Disk.sound c.args.site.now) c.requires.between.works.engine c.requires.between.works.now (kind.Expire c.in-Expire.issue)).0 refl in
    overdue_now c.args.answers.now so s.engine s.now c.requires.between.works.now c.in-Expire.issue due

pub returns-in-Expire-clause-turned : goal.returns-in-Expire-clause-turned
returns-in-Expire-clause-turned g c =
    let s = c.args.self.now in
    let so = g.S.Disk.view c.args.site.now in
    let due = (c.in-Expire.ensures so (g.met.S.Disk.sound c.args.site.now) c.requires.between.works.engine c.requires.between.works.now (kind.Expire c.in-Expire.issue)).0 refl in
    c.expire.ensures.turned c.args.answers.now (λ filters notes given. (due filters notes given).untold)

pub send_again-requires-clause-next : goal.send_again-requires-clause-next
send_again-requires-clause-next g c =
    let s = c.args.self.now in
    let so = g.S.Disk.view c.args.site.now in
    let due = (c.in-Resend.ensures so (g.met.S.Disk.sound c.args.site.now) c.requires.between.works.engine c.requires.between.works.now (kind.Resend c.in-Resend.issue)).0 refl in
    resent_now c.args.answers.now so s.engine s.now c.requires.between.works.now c.in-Resend.issue due

pub returns-in-Resend-clause-turned : goal.returns-in-Resend-clause-turned
returns-in-Resend-clause-turned g c =
    let s = c.args.self.now in
    let so = g.S.Disk.view c.args.site.now in
    let due = (c.in-Resend.ensures so (g.met.S.Disk.sound c.args.site.now) c.requires.between.works.engine c.requires.between.works.now (kind.Resend c.in-Resend.issue)).0 refl in
    c.send_again.ensures.turned c.args.answers.now (λ filters notes given. (due filters notes given).on_time)

pub returns-in-Wait-clause-turned : goal.returns-in-Wait-clause-turned
returns-in-Wait-clause-turned g c =
    let s = c.args.self.now in
    let so = g.S.Disk.view c.args.site.now in
    let due = (c.in-Wait.ensures so (g.met.S.Disk.sound c.args.site.now) c.requires.between.works.engine c.requires.between.works.now (kind.Wait c.in-Wait.moment)).0 refl in
    c.wait.ensures.turned c.args.answers.now due

pub returns-in-Ask-clause-turned : goal.returns-in-Ask-clause-turned
returns-in-Ask-clause-turned g c =
    let s = c.args.self.now in
    let so = g.S.Disk.view c.args.site.now in
    let due = (c.in-Ask.ensures so (g.met.S.Disk.sound c.args.site.now) c.requires.between.works.engine c.requires.between.works.now (kind.Ask c.in-Ask.issue)).0 refl in
    asking c.args.answers.now so s c.in-Ask.issue c.requires.some due
