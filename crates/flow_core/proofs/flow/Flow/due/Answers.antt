use Rattle.std.proofs.Common.{◌≡◌, ◌==◌, ℕ, not, true, false, ap, subst, ◌∙◌}
use Rattle.std.specs.Prelude.{option_map, slice_get}
use Rattle.base_dues.specs.Least.{sooner}
use Rattle.flow_core_rules.specs.Moves.{due}
use Rattle.flow_core_rules.specs.Sane.{IsNotStuck}
use Rattle.flow_core_rules.specs.Waiting.{AlwaysWaits}
use Rattle.flow_core_rules.proofs.WaitingLemmas.{always_waits}
use Rattle.flow_core_plans.specs.RunFacts.{shown_of}
use Rattle.flow_core.specs.Views.{View, has_begun}
use Rattle.flow_core.proofs.TableReads.{due_table}
use Rattle.flow_core.proofs.FlowLemmas.{sane_now}
use Rattle.flow_core.proofs.HeldLemmas.{begun_not_stuck}
use Rattle.flow_core.proofs.flow.Flow.due.Goals as goal

pub returns-clause-due : goal.returns-clause-due
returns-clause-due c =
    let t = c.self.inside.run.tables in
    c.sooner.ensures
    ∙ ap (λ o. sooner o c.least_moment-2.result) c.least_moment.ensures.moment
    ∙ ap (sooner (option_map (λ d. d.0) (slice_get t.delays.pairs 0))) c.least_moment-2.ensures.moment
    ∙ due_table (shown_of c.self.inside.run) t c.least_moment.ensures.queue c.least_moment-2.ensures.queue c.self.invariant.tables
    ∙ ap (λ (v : View). due v.seen) c.self.view_is

pub returns-clause-never_stuck : goal.returns-clause-never_stuck
returns-clause-never_stuck c =
    subst (λ (v : View). has_begun v ≡ true → IsNotStuck v.seen) c.self.view_is (begun_not_stuck c.self.inside c.self.invariant c.setup_law.ensures.runnable)

not_none : (n : ℕ) → not (n == 0) ≡ true → n ≡ 0 → ⊥
not_none n h e = clash (subst (λ k. not (k == 0) ≡ true) e h)
  where
    clash : false ≡ true → ⊥
    clash g = cc

pub returns-clause-always_waits : goal.returns-clause-always_waits
returns-clause-always_waits c =
    let f = c.self.inside in
    subst (λ (v : View). has_begun v ≡ true → AlwaysWaits v.seen) c.self.view_is
    (λ begun. always_waits (shown_of f.run) (sane_now f.count (shown_of f.run) (not_none f.count begun) c.setup_law.ensures.runnable c.self.invariant.reached))
