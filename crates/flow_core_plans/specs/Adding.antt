-- Scaffold: Edits that were added to a plan, and whole plans.
use Rattle.std.specs.Prelude.{◌≡◌, List, ◌++◌}
use Rattle.flow_core_values.specs.TableTypes.{Planned}
use Rattle.flow_core_rules.specs.Edits.{Edit}
use Rattle.flow_core_values.specs.Planned.{edits_of, AreDeclared}

-- nothing but these edits was added, and new scopes have their declared texts
pub record Adds (old new : List Planned) (edits : List Edit) : Type 0 where
  pub edits_are : edits_of new ≡ edits_of old ++ edits
  pub declared : AreDeclared old → AreDeclared new

-- these are the edits of the plan
pub record IsPlan (plan : List Planned) (edits : List Edit) : Type 0 where
  pub edits_are : edits_of plan ≡ edits
  pub declared : AreDeclared plan
