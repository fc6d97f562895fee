-- Scaffold: What a step does once the tasks that it waits for have ended well.
use Rattle.std.specs.Prelude.{ℕ, true, List, [], ◌∷◌, ◌++◌, Option, slice_get, if◌then◌else◌}
use Rattle.std.specs.List.{flat_map}
use Rattle.std.specs.Option.{option_map_or}
use Rattle.cacao_cond.specs.Trees.{AnyTree}
use Rattle.flow_core_rules.specs.State.{Lists}
use Rattle.flow_core_rules.specs.Edits.{Edit, makes}
use Rattle.flow_core_rules.specs.Tasks.{Here, child}
use Rattle.flow_core_rules.specs.Changes.{done, valued, written}
use Rattle.flow_core_values.specs.Truths.{holds_in}

-- names get, seen from a scope, what they have where the task with this number goes
abbrev pub wanted : Lists → ℕ → ℕ → List (List ℕ) → List Edit
wanted s from scope names =
    flat_map (written s scope) (option_map_or (λ root. valued s root.scope names) (slice_get s.tasks from) [])

-- a playbook-action gets its `out_args`, and succeeds
abbrev pub returning : Here → ℕ → ℕ → List (List ℕ) → List Edit
returning h from scope names = wanted h.seen.lists from scope names ++ done h true

-- a while-condition makes a further task where its condition holds, else it succeeds
abbrev pub turning : Here → ℕ → Option AnyTree → List ℕ → List Edit
turning h scope condition on_true =
    if holds_in h.seen.lists scope condition then makes (child h h.task.book scope on_true) ∷ [] else done h true
