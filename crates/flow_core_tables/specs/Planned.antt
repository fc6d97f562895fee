-- Scaffold: Edits that were made ready, with all that they put into the tables.
use Rattle.std.specs.Prelude.{◌≡◌, List, ⊤, map}
use Rattle.std.specs.List.{AllByRecursion}
use Rattle.flow_core_tables.specs.declared.planned.Planned.{Planned}
use Rattle.flow_core_tables.specs.declared.planned.Planned.TheVariants as planned
use Rattle.flow_core_rules.specs.Edits.{Edit, opens, writes, makes, moves, issues, closes, upgrades, declared_texts}

-- what a planned edit is
abbrev pub edit_of : Planned → Edit
edit_of (planned.Opens scope texts) = opens scope.parent scope.vars
edit_of (planned.Writes scope name worth) = writes scope name worth
edit_of (planned.Makes task) = makes task
edit_of (planned.Moves task new) = moves task new
edit_of (planned.Issues issue) = issues issue
edit_of (planned.Closes issue phase) = closes issue phase
edit_of planned.Upgrades = upgrades

abbrev pub edits_of : List Planned → List Edit
edits_of plan = map edit_of plan

-- the texts of a new scope are the declared ones
abbrev pub IsDeclared : Planned → Type 0
IsDeclared (planned.Opens scope texts) = texts ≡ declared_texts scope.vars
IsDeclared other = ⊤

abbrev pub AreDeclared : List Planned → Type 0
AreDeclared plan = AllByRecursion IsDeclared plan
