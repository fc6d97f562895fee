-- Promise: The bytes of a command and of a question, filled with the values of variables.
use Rattle.std.specs.Prelude.{ℕ, ◌==◌, ◌&&◌, List, ◌∷◌, ◌++◌, length, Option, Some, None, option_map, option_and_then, codes, if◌then◌else◌}
use Rattle.std.specs.Fmt.{decimal}
use Rattle.std.specs.Option.{option_map_or}
use Rattle.std.specs.Str.{bytes_eq}
use Rattle.std.specs.List.{flat_map}
use Rattle.serde_json.specs.Data.{Data, null, boolean, number, string, array, object, Items, no_items, item, Members, no_members, member}
use Rattle.serde_json.specs.Find.{of_integer}
use Rattle.cacao_json.specs.Reading.{tree}
use Rattle.cacao_text.specs.Canon.{canon}
use Rattle.cacao_vars.specs.References.{references, begins_with_reference, name_run, behind_run}
use Rattle.flow_core_rules.specs.State.{Lists}
use Rattle.flow_core_rules.specs.Values.{text_at, number_of}

-- A text in which each reference is replaced by the text of its name. This is what an operator is asked.
abbrev pub replaced : Lists → ℕ → List ℕ → List ℕ
replaced s scope text =
    flat_map (λ found. found.before ++ text_at s scope found.name) (references text).0 ++ (references text).1

-- the name, where the text is one whole reference: `:value` has six characters
abbrev pub whole_reference : List ℕ → Option (List ℕ)
whole_reference text = if begins_with_reference text && (length (behind_run text) == 6) then Some (name_run text) else None

-- A string value: the number of its name, where it is one whole reference to a name of kind `integer` or `long` whose text is a
-- whole number of JSON; else its text with references replaced.
abbrev pub filled_string : Lists → ℕ → List ℕ → Data
filled_string s scope text =
    option_map_or (λ z. number (of_integer z)) (option_and_then (number_of s scope) (whole_reference text))
    (string (replaced s scope text))

-- each string value is filled, and no name of a member
abbrev mutual
  pub filled : Lists → ℕ → Data → Data
  filled s scope null = null
  filled s scope (boolean b) = boolean b
  filled s scope (number n) = number n
  filled s scope (string text) = filled_string s scope text
  filled s scope (array ds) = array (filled_items s scope ds)
  filled s scope (object ms) = object (filled_members s scope ms)

  pub filled_items : Lists → ℕ → Items → Items
  filled_items s scope no_items = no_items
  filled_items s scope (item d ds) = item (filled s scope d) (filled_items s scope ds)

  pub filled_members : Lists → ℕ → Members → Members
  filled_members s scope no_members = no_members
  filled_members s scope (member k d ms) = member k (filled s scope d) (filled_members s scope ms)

-- the member with this name is changed, or added where there is none
abbrev pub with_member : List ℕ → (Data → Data) → Data → Members → Members
with_member name change new no_members = member name new no_members
with_member name change new (member k d ms) =
    if bytes_eq k name then member k (change d) ms else member k d (with_member name change new ms)

abbrev pub set_member : List ℕ → Data → Members → Members
set_member name new ms = with_member name (λ _. new) new ms

-- `args` asks for a complete response; one that is no object stays
abbrev pub completed : Data → Data
completed (object ms) = object (set_member (codes "response_requested") (string (codes "complete")) ms)
completed other = other

-- `command_id` is the number of the run, a point and the number of the issue
abbrev pub command_id : ℕ → ℕ → Data
command_id run issue = string (decimal run ++ 46 ∷ decimal issue)

-- the command's identifier is set, and then `args`, which is an empty object where it is absent
abbrev pub addressed : ℕ → ℕ → Data → Data
addressed run issue (object ms) =
    object (with_member (codes "args") completed (completed (object no_members))
    (set_member (codes "command_id") (command_id run issue) ms))
addressed run issue other = other

-- the bytes of a command by the text of its content, in a scope, for an issue of a run; none where the text has no tree
abbrev pub fill : List ℕ → Lists → ℕ → ℕ → ℕ → Option (List ℕ)
fill content s scope run issue = option_map (λ d. canon (addressed run issue (filled s scope d))) (tree content)
