use Rattle.std.proofs.Common.{sym, subst}
use Rattle.flow_world_steps.specs.Worlds.{holds, rests}
use Rattle.flow_world_parts.specs.Leads.{Goes}
use Rattle.flow_world_parts.specs.declared.turns.Session.{Session}
use Rattle.flow_world_parts.proofs.SessionSteps.{dropped, lacking}
use Rattle.flow_world_parts.proofs.turns.Session.hand_on.Goals as goal

pub returns-then-not-is_addressed-clause-did : goal.returns-then-not-is_addressed-clause-did
returns-then-not-is_addressed-clause-did g c = λ answers beat.
    let so = g.S.Disk.view c.args.site.now in
    let s = c.args.self.now in
    subst (λ (t : Session). Goes answers so s (holds beat c.args.parcel.now) so t rests) (sym c.drop_parcel.ensures.is)
    (dropped answers so s beat c.args.parcel.now c.requires.calm (c.is_addressed.ensures.no c.if-not-is_addressed.true))

pub returns-then-not-has-clause-did : goal.returns-then-not-has-clause-did
returns-then-not-has-clause-did g c = λ answers beat.
    let so = g.S.Disk.view c.args.site.now in
    let s = c.args.self.now in
    subst (λ (t : Session). Goes answers so s (holds beat c.args.parcel.now) so t rests) (sym c.drop_parcel-then-not-has.ensures.is)
    (lacking answers so s beat c.args.parcel.now c.requires.calm c.has.result (c.is_addressed.ensures.yes c.if-not-is_addressed.false) c.if-parcel.false c.has.ensures c.if-not-has.true)
