use Rattle.std.proofs.Common.{◌+◌, arith, refl, sym, ◌∙◌}
use Rattle.flow_core.specs.declared.flow.Flow.TheInside.{Inside}
use Rattle.flow_core_plans.specs.RunTypes.{Run}
use Rattle.flow_core.proofs.HeldLemmas.{held_taken, held_moment, held_fits, applied_shown, applied_sound}
use Rattle.flow_core.proofs.flow.Flow.apply.Goals as goal

pub edit_all-requires-clause-fits : goal.edit_all-requires-clause-fits
edit_all-requires-clause-fits c =
    let is = sym (sym c.in-Some.is ∙ c.take.ensures.value) in
    held_fits c.self.inside c.args.item.now c.in-Some.plan c.self.invariant c.setup_law.ensures.runnable (held_taken c.self.inside c.args.self.now c.args.item.now c.in-Some.plan c.self.view_is is c.requires)

pub invariant_of-self : goal.invariant_of-self
invariant_of-self c =
    let is = sym (sym c.in-Some.is ∙ c.take.ensures.value) in
    let run : Run = record { setup = c.self.inside.run.setup; number = c.self.inside.run.number; moment = c.in-Some.plan.moment; tables = c.edit_all.new.self } in
    let new : Inside = record { alloc = c.self.inside.alloc; run = run; count = c.self.inside.count + 1; plan = c.take.new.self; spare = c.edit_all.result } in
    applied_sound c.self.inside c.args.item.now c.in-Some.plan new c.self.invariant c.setup_law.ensures.runnable is (held_taken c.self.inside c.args.self.now c.args.item.now c.in-Some.plan c.self.view_is is c.requires)
    (held_moment c.self.inside c.args.self.now c.args.item.now c.in-Some.plan c.self.view_is is c.requires) (omega arith) c.take.ensures.after
    (applied_shown c.self.inside run c.in-Some.plan refl refl refl c.edit_all.ensures.lists) c.edit_all.ensures.tables
