use Rattle.std.proofs.Common.{◌∙◌, ◌+◌, Ok, [], refl, sym, ap, subst, arith}
use Rattle.flow_world_steps.specs.Worlds.{holds, rests}
use Rattle.flow_world_parts.specs.Leads.{FilterDid}
use Rattle.flow_world_parts.proofs.FilterSteps.{has_begun}
use Rattle.flow_world_parts.proofs.SessionSteps.{filters_go}
use Rattle.flow_world_parts.proofs.Standing.{rests_fresh, works_after}
use Rattle.flow_world_parts.proofs.turns.Session.hand_command.Goals as goal

pub hand-requires-clause-begun : goal.hand-requires-clause-begun
hand-requires-clause-begun g c = has_begun c.args.self.now.engine (g.S.Disk.view c.args.site.now) c.requires.works.engine.up

pub returns-in-Ok-true-clause-did : goal.returns-in-Ok-true-clause-did
returns-in-Ok-true-clause-did g c = λ answers beat.
    let s = c.args.self.now in
    let so = g.S.Disk.view c.args.site.now in
    let sn = g.S.Disk.view c.hand.new.site in
    let p = c.args.parcel.now in
    filters_go answers 0 beat p so sn s (record s { filters = c.hand.new.self }) c.requires.calm
    (subst (λ r. FilterDid r beat p so s.filters sn c.hand.new.self) (c.in-Ok-true.is ∙ ap Ok c.in-Ok-true.field-0-test) (c.hand.ensures.did beat)) refl refl (omega arith)

pub returns-in-Ok-true-clause-works : goal.returns-in-Ok-true-clause-works
returns-in-Ok-true-clause-works g c =
    let s = c.args.self.now in
    let so = g.S.Disk.view c.args.site.now in
    let sn = g.S.Disk.view c.hand.new.site in
    works_after [] so sn s (record s { filters = c.hand.new.self }) (holds 0 c.args.parcel.now) rests c.requires.works (returns-in-Ok-true-clause-did g c [] 0) tt rests_fresh
    (c.requires.works.now ∙ sym c.hand.ensures.now)

pub returns-in-Ok-false-clause-did : goal.returns-in-Ok-false-clause-did
returns-in-Ok-false-clause-did g c = λ answers beat.
    let s = c.args.self.now in
    let so = g.S.Disk.view c.args.site.now in
    let sn = g.S.Disk.view c.hand.new.site in
    let p = c.args.parcel.now in
    filters_go answers 1 beat p so sn s (record s { filters = c.hand.new.self; ignored = s.ignored + 1 }) c.requires.calm
    (subst (λ r. FilterDid r beat p so s.filters sn c.hand.new.self) (c.in-Ok-false.is ∙ ap Ok c.in-Ok-false.field-0-test) (c.hand.ensures.did beat)) refl refl refl

pub returns-in-Ok-false-clause-works : goal.returns-in-Ok-false-clause-works
returns-in-Ok-false-clause-works g c =
    let s = c.args.self.now in
    let so = g.S.Disk.view c.args.site.now in
    let sn = g.S.Disk.view c.hand.new.site in
    works_after [] so sn s (record s { filters = c.hand.new.self; ignored = s.ignored + 1 }) (holds 0 c.args.parcel.now) rests c.requires.works (returns-in-Ok-false-clause-did g c [] 0) tt rests_fresh
    (c.requires.works.now ∙ sym c.hand.ensures.now)
