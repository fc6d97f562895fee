-- Promise: The state of a run, and what a flow shows of it.
use Rattle.std.specs.Prelude.{ℕ, suc, Bool, List, [], ◌∷◌, Option, Some, map, find, slice_get, option_and_then}
use Rattle.std.specs.Str.{bytes_eq}
use Rattle.cacao_vars.specs.declared.declarations.Var.{Var}
use Rattle.cacao_vars.specs.declared.scoping.Scope.{Scope}
use Rattle.cacao_vars.specs.declared.scoping.Write.{Write}
use Rattle.cacao_vars.specs.Scopes.{last_write, written_or_declared, home}
use Rattle.cacao_vars.specs.Scopes.{value as value_in}
use Rattle.flow_core_rules.specs.declared.tasks.Task.{Task}
use Rattle.flow_core_rules.specs.declared.issues.Issue.{Issue}
use Rattle.flow_core_rules.specs.Givens.{Given}

-- Four lists from which nothing is ever taken out: tasks, scopes, writes, issues. Beside them stand the moment of the last
-- record, whether the run goes on with operators, and, fixed by its Begin, the number of the run and what it was given.
pub record State : Type 0 where
  pub moment : ℕ
  pub run : ℕ
  pub given : Given
  pub is_upgraded : Bool
  pub tasks : List Task
  pub scopes : List Scope
  pub writes : List Write
  pub issues : List Issue

-- The value of a name in a scope. Its home is the first scope that declares it, from the given one along the parents. The value
-- is the text of the last write to it there, else the declared one, else none; a name without a home has none.
abbrev pub value : State → ℕ → List ℕ → Option (List ℕ)
value s scope name = value_in s.scopes s.writes scope name

-- the names that a scope declares, each with its text
abbrev pub Texts : Type 0
Texts = List (List ℕ × Option (List ℕ))

-- The lists as a flow shows them: in place of the writes, for each scope the names that it declares with their present texts.
pub record Lists : Type 0 where
  pub is_upgraded : Bool
  pub tasks : List Task
  pub scopes : List Scope
  pub texts : List Texts
  pub issues : List Issue

-- What a flow shows of a state. All that comes next rests on this alone.
pub record Shown : Type 0 where
  pub moment : ℕ
  pub run : ℕ
  pub given : Given
  pub lists : Lists

-- the text of the last write to a declared name in this scope, else the declared one
abbrev pub text_now : List Write → ℕ → Var → Option (List ℕ)
text_now writes scope var = written_or_declared (last_write writes scope var.name) (Some var)

abbrev pub texts_now : List Write → ℕ → List Var → Texts
texts_now writes scope vars = map (λ var. (var.name, text_now writes scope var)) vars

-- the same of each scope, the first of which has this number
abbrev pub texts_from : ℕ → List Scope → List Write → List Texts
texts_from n [] writes = []
texts_from n (scope ∷ scopes) writes = texts_now writes n scope.vars ∷ texts_from (suc n) scopes writes

abbrev pub shown : State → Shown
shown s = record {
  moment = s.moment;
  run = s.run;
  given = s.given;
  lists = record {
    is_upgraded = s.is_upgraded;
    tasks = s.tasks;
    scopes = s.scopes;
    texts = texts_from 0 s.scopes s.writes;
    issues = s.issues;
  };
}

-- the text of a name in a scope that declares it
abbrev pub text_in : Texts → List ℕ → Option (List ℕ)
text_in texts name = option_and_then (λ entry. entry.1) (find (λ entry. bytes_eq entry.0 name) texts)

-- the value of a name, as it is shown: its text in its home
abbrev pub value_shown : Lists → ℕ → List ℕ → Option (List ℕ)
value_shown s scope name =
    option_and_then (λ at. option_and_then (λ texts. text_in texts name) (slice_get s.texts at)) (home s.scopes scope name)
