use Rattle.std.proofs.Common.{◌≡◌, ◌<◌, length}
use Rattle.cacao_vars.specs.Scopes.{home}
use Rattle.flow_core_tables.proofs.opened.Opened.find.Given as goal

-- the scopes so far do not declare the name
abbrev pub invariant-outward : goal.invariant-outward
invariant-outward l = record {
  exists : l.at < length l.self.scopes;
  same : home l.self.scopes l.at l.name ≡ home l.self.scopes l.scope l.name;
}

abbrev pub decreases-outward : goal.decreases-outward
decreases-outward l = l.at
