-- What is known of a task that stands at a step.
use Rattle.std.proofs.Common.{◌≡◌, ℕ, ◌<◌, length, Option, Some, None, refl, sym, ap, subst, ◌∙◌}
use Rattle.std.specs.Prelude.{IfSome, slice_get, option_map, option_and_then}
use Rattle.cacao_book.specs.declared.steps.Step.{Step}
use Rattle.flow_core_rules.specs.declared.tasks.Task.{Task}
use Rattle.flow_core_rules.specs.Givens.{step_at}
use Rattle.flow_core_rules.specs.State.{Shown}
use Rattle.flow_core_rules.specs.Tasks.{Here, here_at}
use Rattle.flow_core_rules.specs.Sane.{IsSane}
use Rattle.flow_core_values.specs.declared.run.Run.{Run}
use Rattle.flow_core_values.specs.declared.run.Stand.{Stand}
use Rattle.flow_core_values.specs.RunFacts.{shown_of, here_of}
use Rattle.flow_core_values.specs.Stands.{StandsThere}

some_is : {A : Type 0} (x y : A) → Some x ≡ Some y → x ≡ y
some_is x y e = cc

abbrev found_at : Shown → ℕ → ℕ → Task → Step → Here
found_at s now t task step = record { seen = s; now = now; number = t; task = task; step = step }

pub stands_there : (r : Run) (now t : ℕ) (o : Option Stand) → IsSane (shown_of r) → option_map (here_of (shown_of r)) o ≡ here_at (shown_of r) now t → IfSome o (StandsThere r)
stands_there r now t None sane e = tt
stands_there r now t (Some stand) sane e = by (slice_get r.tables.tasks.items t) refl e
  where
    at : (task : Task) → slice_get r.tables.tasks.items t ≡ Some task → (o : Option Step) → step_at r.setup task.book task.step ≡ o
        → Some (here_of (shown_of r) stand) ≡ option_map (λ (step : Step). found_at (shown_of r) now t task step) o → StandsThere r stand
    at task is None f e = absurd (cc)
    at task is (Some step) f e =
        let same : here_of (shown_of r) stand ≡ found_at (shown_of r) now t task step = some_is (here_of (shown_of r) stand) (found_at (shown_of r) now t task step) e in
        let same_task : stand.task ≡ task = ap (λ (h : Here). h.task) same in
        let same_step : stand.step.now ≡ step = ap (λ (h : Here). h.step) same in
        record {
          step_is = ap (λ (one : Task). step_at r.setup one.book one.step) same_task ∙ f ∙ ap (λ (one : Step). Some one) (sym same_step);
          scope_is = subst (λ (one : Task). IfSome one.step_scope (λ n. n < length r.tables.opened.scopes)) (sym same_task) (sane.tasks t task is).step_scope;
        }

    by : (o : Option Task) → slice_get r.tables.tasks.items t ≡ o
        → Some (here_of (shown_of r) stand) ≡ option_and_then (λ (task : Task). option_map (λ (step : Step). found_at (shown_of r) now t task step) (step_at r.setup task.book task.step)) o → StandsThere r stand
    by None f e = absurd (cc)
    by (Some task) f e = at task f (step_at r.setup task.book task.step) refl e
