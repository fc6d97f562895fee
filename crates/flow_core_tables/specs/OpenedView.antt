-- Scaffold: What contracts see of the scopes of a run.
use Rattle.std.specs.Prelude.{ℕ, List}
use Rattle.cacao_vars.specs.declared.scoping.Scope.{Scope}
use Rattle.flow_core_rules.specs.State.{Texts}

pub record OpenedView : Type 0 where
  pub scopes : List Scope
  pub texts : List Texts  -- of each scope
  pub room : ℕ  -- so many scopes in all take no memory
