-- Where the tasks of a run stand, and in which scopes.
use Rattle.std.proofs.Common.{◌≡◌, ℕ, ◌<◌, length, Option, Some, None, refl, sym, ◌∙◌, ap, subst}
use Rattle.std.specs.Prelude.{IfSome, slice_get, option_and_then, option_map, unwrap_or}
use Rattle.cacao_book.specs.declared.steps.Step.{Step}
use Rattle.flow_core_rules.specs.declared.tasks.Task.{Task}
use Rattle.flow_core_rules.specs.Givens.{step_at}
use Rattle.flow_core_rules.specs.Tasks.{Here, here_at}
use Rattle.flow_core_values.specs.declared.run.Run.{Run}
use Rattle.flow_core_values.specs.declared.run.Stand.{Stand}
use Rattle.flow_core_values.specs.RunFacts.{IsWell, shown_of, here_of}
use Rattle.flow_core_values.specs.Stands.{Stands}

from_step : (r : Run) (now t : ℕ) (stand : Stand) (task : Task) → slice_get r.tables.tasks.items t ≡ Some task → (o : Option Step) → step_at r.setup task.book task.step ≡ o
    → Some (here_of (shown_of r) stand) ≡ option_map (λ (step : Step). record { seen = shown_of r; now = now; number = t; task = task; step = step }) o → Stands r stand
from_step r now t stand task e None f g = absurd (no g)
  where
    no : Some (here_of (shown_of r) stand) ≡ None → ⊥
    no k = cc
from_step r now t stand task e (Some step) f g =
    let h : Here = here_of (shown_of r) stand in
    let number : stand.number ≡ t = ap (λ (o : Option Here). (unwrap_or o h).number) g in
    let same : stand.task ≡ task = ap (λ (o : Option Here). (unwrap_or o h).task) g in
    let step_same : stand.step.now ≡ step = ap (λ (o : Option Here). (unwrap_or o h).step) g in
    record {
      task_is = ap (slice_get r.tables.tasks.items) number ∙ e ∙ sym (ap Some same);
      step_is = ap (λ (x : Task). step_at r.setup x.book x.step) same ∙ f ∙ sym (ap Some step_same);
    }

from_task : (r : Run) (now t : ℕ) (stand : Stand) (o : Option Task) → slice_get r.tables.tasks.items t ≡ o
    → Some (here_of (shown_of r) stand) ≡ option_and_then (λ (task : Task). option_map (λ (step : Step). record { seen = shown_of r; now = now; number = t; task = task; step = step }) (step_at r.setup task.book task.step)) o
    → Stands r stand
from_task r now t stand None e g = absurd (no g)
  where
    no : Some (here_of (shown_of r) stand) ≡ None → ⊥
    no k = cc
from_task r now t stand (Some task) e g = from_step r now t stand task e (step_at r.setup task.book task.step) refl g

pub stands_here : (r : Run) (now t : ℕ) (stand : Stand) → Some (here_of (shown_of r) stand) ≡ here_at (shown_of r) now t → Stands r stand
stands_here r now t stand e = from_task r now t stand (slice_get r.tables.tasks.items t) refl e

-- the scopes of a task are open
pub scope_there : (r : Run) (stand : Stand) → IsWell r → Stands r stand → stand.task.scope < length r.tables.opened.scopes
scope_there r stand well st = (well.sane.tasks stand.number stand.task st.task_is).scope

pub step_scope_there : (r : Run) (stand : Stand) (scope : ℕ) → IsWell r → Stands r stand → stand.task.step_scope ≡ Some scope → scope < length r.tables.opened.scopes
step_scope_there r stand scope well st is =
    subst (λ (o : Option ℕ). IfSome o (λ n. n < length r.tables.opened.scopes)) is (well.sane.tasks stand.number stand.task st.task_is).step_scope

pub root_scope_there : (r : Run) (t : ℕ) (task : Task) → IsWell r → Some task ≡ slice_get r.tables.tasks.items t → task.scope < length r.tables.opened.scopes
root_scope_there r t task well is = (well.sane.tasks t task (sym is)).scope
