-- Promise: The constants of which a step of a playbook has the text before any run, and what is sure of a command in which these texts stand.
use Rattle.std.specs.Prelude.{◌==◌, Bool, false, not, ◌&&◌, List, [], length, map, filter, Option, Some, None, option_and_then, unwrap_or, if◌then◌else◌}
use Rattle.std.specs.List.{flat_map}
use Rattle.std.specs.Option.{option_map_or}
use Rattle.serde_json.specs.Data.{Data, null, boolean, number, string, array, object, Items, no_items, item, Members, no_members, member}
use Rattle.cacao_json.specs.Reading.{tree}
use Rattle.cacao_vars.specs.declared.declarations.Var.{Var}
use Rattle.cacao_vars.specs.Declarations.{declared}
use Rattle.cacao_vars.specs.References.{Found, first_reference}
use Rattle.cacao_book.specs.declared.books.Book.{Book}
use Rattle.cacao_book.specs.declared.commands.StepCommand.{StepCommand}
use Rattle.cacao_check_steps.specs.Uses.{is_manual}
use Rattle.flow_core_rules.specs.Values.{has_numbers}
use Rattle.cacao_view_preflight.specs.Names.{Text, is_named}
use Rattle.cacao_view_preflight.specs.Settled.{has_reference, refused_always}
use Rattle.cacao_view_preflight.specs.declared.sure.Sure.{Sure}

-- ---- constants

-- a text that has no reference
abbrev pub is_plain : Option Text → Bool
is_plain None = false
is_plain (Some text) = not (has_reference text)

-- Nothing writes this variable: no result may be written to a constant (K23), and bindings and calls give texts to external ones alone. One
-- whose kind has numbers is not among them, since it may become a number.
abbrev pub is_fixed : Var → Bool
is_fixed var = var.constant && (not var.external && (not (has_numbers var.kind) && is_plain var.worth))

-- the names that the steps of a playbook declare
abbrev pub inner_names : Book → List Text
inner_names book = flat_map (λ step. map (λ var. var.name) step.variables) book.steps

-- such variables of a playbook that none of its steps declares, so that no nearer declaration hides them
abbrev pub outer_constants : Book → List Var
outer_constants book = filter (λ var. is_fixed var && not (is_named (inner_names book) var.name)) book.variables

-- a step's own declaration is the nearest
abbrev pub nearest_fixed : Option Var → Option Var → Option Var
nearest_fixed None outer = outer
nearest_fixed (Some own) outer = if is_fixed own then Some own else None

-- the constant of this name that a step with these variables sees
abbrev pub constant_in : List Var → List Var → Text → Option Var
constant_in own outer name = nearest_fixed (declared own name) (declared outer name)

-- ---- a command in which their texts stand

-- the name, where nothing stands around a reference
abbrev pub only_name : Found → Option Text
only_name found = if (length found.before == 0) && (length found.rest == 0) then Some found.name else None

abbrev pub whole_name : Text → Option Text
whole_name text = option_and_then only_name (first_reference text)

-- a text that is a reference to a constant and nothing else becomes the text of that
abbrev pub known_text : (Text → Option Var) → Text → Text
known_text known text = option_map_or (λ var. unwrap_or var.worth []) (option_and_then known (whole_name text)) text

-- so does each string value, and no name of a member
abbrev mutual
  pub with_constants : (Text → Option Var) → Data → Data
  with_constants known null = null
  with_constants known (boolean b) = boolean b
  with_constants known (number n) = number n
  with_constants known (string text) = string (known_text known text)
  with_constants known (array ds) = array (constant_items known ds)
  with_constants known (object ms) = object (constant_members known ms)

  pub constant_items : (Text → Option Var) → Items → Items
  constant_items known no_items = no_items
  constant_items known (item d ds) = item (with_constants known d) (constant_items known ds)

  pub constant_members : (Text → Option Var) → Members → Members
  constant_members known no_members = no_members
  constant_members known (member k d ms) = member k (with_constants known d) (constant_members known ms)

abbrev pub sure_with : (Text → Option Var) → Data → Option Sure
sure_with known d = refused_always (with_constants known d)

-- what is sure of a command of a step; one for an operator goes to no filter
abbrev pub sure_of : (Text → Option Var) → StepCommand → Option Sure
sure_of known command = if is_manual command then None else option_and_then (sure_with known) (option_and_then tree command.content)
