-- Promise: What a record changes, as single edits. All else stays.
use Rattle.std.specs.Prelude.{ℕ, zero, suc, true, List, [], ◌∷◌, ◌++◌, Option, Some, map, if◌then◌else◌}
use Rattle.std.specs.List.{slice_set}
use Rattle.std.specs.Str.{bytes_eq}
use Rattle.cacao_vars.specs.declared.declarations.Var.{Var}
use Rattle.flow_core_rules.specs.declared.tasks.Task.{Task}
use Rattle.flow_core_rules.specs.declared.issues.Issue.{Issue}
use Rattle.flow_core_rules.specs.declared.issues.IssuePhase.{IssuePhase}
use Rattle.flow_core_rules.specs.State.{State, Lists, Texts}

pub data Edit : Type 0 where
  -- a scope is opened inside another one, or with none around it
  opens : Option ℕ → List Var → Edit
  -- a text is written to a name in this very scope
  writes : ℕ → List ℕ → List ℕ → Edit
  -- a task is made
  makes : Task → Edit
  -- the task with this number stands so from now on
  moves : ℕ → Task → Edit
  -- a command is sent, or an operator is asked
  issues : Issue → Edit
  -- the issue with this number waits no more
  closes : ℕ → IssuePhase → Edit
  -- the run goes on with operators
  upgrades : Edit

-- the element at a place is changed, where there is one
abbrev pub changed_at : {A : Type 0} → ℕ → (A → A) → List A → List A
changed_at n f [] = []
changed_at zero f (x ∷ xs) = f x ∷ xs
changed_at (suc n) f (x ∷ xs) = x ∷ changed_at n f xs

abbrev pub closed : IssuePhase → Issue → Issue
closed phase issue = record issue { phase = phase }

-- one edit of the state
abbrev pub edited : Edit → State → State
edited (opens parent vars) s = record s { scopes = s.scopes ++ (record { parent = parent; vars = vars }) ∷ [] }
edited (writes scope name text) s =
    record s { writes = s.writes ++ (record { scope = scope; name = name; worth = text }) ∷ [] }
edited (makes task) s = record s { tasks = s.tasks ++ task ∷ [] }
edited (moves n task) s = record s { tasks = slice_set s.tasks n task }
edited (issues issue) s = record s { issues = s.issues ++ issue ∷ [] }
edited (closes n phase) s = record s { issues = changed_at n (closed phase) s.issues }
edited upgrades s = record s { is_upgraded = true }

-- several, the first one first
abbrev pub all_edited : List Edit → State → State
all_edited [] s = s
all_edited (e ∷ es) s = all_edited es (edited e s)

-- the texts of a new scope are the declared ones
abbrev pub declared_texts : List Var → Texts
declared_texts vars = map (λ var. (var.name, var.worth)) vars

-- a text takes the place of the present one
abbrev pub with_text : List ℕ → List ℕ → Texts → Texts
with_text name text texts = map (λ entry. (entry.0, if bytes_eq name entry.0 then Some text else entry.1)) texts

-- one edit of what is shown
abbrev pub shown_edited : Edit → Lists → Lists
shown_edited (opens parent vars) s =
    record s { scopes = s.scopes ++ (record { parent = parent; vars = vars }) ∷ []; texts = s.texts ++ declared_texts vars ∷ [] }
shown_edited (writes scope name text) s = record s { texts = changed_at scope (with_text name text) s.texts }
shown_edited (makes task) s = record s { tasks = s.tasks ++ task ∷ [] }
shown_edited (moves n task) s = record s { tasks = slice_set s.tasks n task }
shown_edited (issues issue) s = record s { issues = s.issues ++ issue ∷ [] }
shown_edited (closes n phase) s = record s { issues = changed_at n (closed phase) s.issues }
shown_edited upgrades s = record s { is_upgraded = true }

abbrev pub all_shown_edited : List Edit → Lists → Lists
all_shown_edited [] s = s
all_shown_edited (e ∷ es) s = all_shown_edited es (shown_edited e s)
