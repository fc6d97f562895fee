-- Scaffold: A step that is entered.
use Rattle.std.specs.Prelude.{ℕ, true, List, [], ◌∷◌, length, map, Option, option_map}
use Rattle.flow_core_rules.specs.declared.phases.Phase.TheVariants as phase
use Rattle.flow_core_rules.specs.Givens.{book_with}
use Rattle.flow_core_rules.specs.Tasks.{Here, in_phase, child}
use Rattle.flow_core_rules.specs.Edits.{Edit, makes, moves}
use Rattle.flow_core_rules.specs.Changes.{opening, inside, branched, called}

-- the task with the scope of its step, which is open but for the lists
abbrev pub within : Here → Here
within h = record h { task = (inside h).task }

-- a control step opens its scope and takes these branches
abbrev pub taking : Here → List (List ℕ) → List Edit
taking h keys = opening h ∷ branched (inside h) (length h.seen.lists.scopes) keys

-- tasks before the steps with these keys, in a scope
abbrev pub branches : Here → ℕ → List (List ℕ) → List Edit
branches h scope keys = map (λ key. makes (child h h.task.book scope key)) keys

-- an action opens its scope and comes to its first place
abbrev pub acting : Here → List Edit
acting h = opening h ∷ moves h.number (in_phase (inside h).task (phase.Sending 0)) ∷ []

-- an end ends the task well
abbrev pub ending : Here → List Edit
ending h = moves h.number (in_phase h.task (phase.Ended true)) ∷ []

-- a playbook-action opens its scope and calls the playbook with this identifier, if it is given
abbrev pub calling : Here → List ℕ → List (List ℕ) → Option (List Edit)
calling h playbook in_args =
    option_map (λ theirs. opening h
    ∷ called (inside h) (length h.seen.lists.scopes) in_args theirs) (book_with h.seen.given playbook)
