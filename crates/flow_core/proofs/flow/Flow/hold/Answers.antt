use Rattle.std.proofs.Common.{◌<◌, refl, ap, sym, subst, ◌∙◌}
use Rattle.flow_core_plans.specs.RunFacts.{shown_of}
use Rattle.flow_core_plans.specs.Planned.{edits_of}
use Rattle.flow_core.specs.Views.{View, passed}
use Rattle.flow_core.proofs.HeldLemmas.{reserved_kept, reserved_held, is_held}
use Rattle.flow_core.proofs.flow.Flow.hold.Goals as goal

pub invariant_of-self : goal.invariant_of-self
invariant_of-self c =
    reserved_kept c.self.inside _ c.self.invariant refl refl refl refl refl c.reserve.ensures.lists (c.reserve.ensures.tables c.self.inside.run.setup c.self.invariant.tables) c.reserve.ensures.room

pub invariant_of-self-in-None : goal.invariant_of-self-in-None
invariant_of-self-in-None c =
    let few = subst (λ (v : View). v.count < 100_000_000) (sym c.self.view_is) c.requires.few in
    reserved_held c.self.inside _ c.args.plan c.self.invariant refl refl refl refl refl c.reserve.ensures.lists (c.reserve.ensures.tables c.self.inside.run.setup c.self.invariant.tables)
    (is_held c.args.plan c.self.inside.count c.len-count.result c.self.inside.run c.reserve.new.self c.reserve.ensures.lists c.in_ok-reserve-in-None.ensures.ok (c.len-count.ensures ∙ c.args.plan.edits.ok.0) c.requires.declared (c.in-None.ensures (shown_of c.self.inside.run) (sym c.self.inside.run.tables.tasks.ok.0 ∙ sym c.len.ensures) ∙ ap (λ ps. passed (shown_of c.self.inside.run) (edits_of ps)) c.as_slice.ensures.value) c.if-count-gt-MOST_EDITS.false few)
