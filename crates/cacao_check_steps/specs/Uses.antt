-- Promise: What a step has, by its kind, and the names that it uses.
use Rattle.std.specs.Prelude.{◌≡◌, ℕ, Bool, true, false, List, [], ◌∷◌, ◌++◌, map, codes, Contains, Option, Some, None, is_some, option_and_then, if◌then◌else◌}
use Rattle.std.specs.Str.{bytes_eq}
use Rattle.std.specs.List.{flat_map}
use Rattle.std.specs.Option.{option_map_or}
use Rattle.serde_json.specs.Find.{as_object}
use Rattle.serde_json.specs.Data.{Data, null, boolean, number, string, array, object, Items, no_items, item, Members, no_members, member}
use Rattle.cacao_json.specs.Reading.{tree}
use Rattle.cacao_vars.specs.Names.{IsName}
use Rattle.cacao_vars.specs.References.{reference_text, references}
use Rattle.cacao_cond.specs.Trees.{AnyTree}
use Rattle.cacao_cond.specs.Grammar.{Spells}
use Rattle.cacao_cond.specs.Names.{named}
use Rattle.cacao_book.specs.declared.steps.Step.{Step}
use Rattle.cacao_book.specs.declared.step_kinds.StepKind.{StepKind}
use Rattle.cacao_book.specs.declared.step_kinds.StepKind.TheVariants.{Action, PlaybookAction, If, While, Switch}
use Rattle.cacao_book.specs.declared.commands.StepCommand.{StepCommand}

-- ---- the parts of a step

abbrev pub commands_of : StepKind → List StepCommand
commands_of (Action commands agent targets in_args out_args) = commands
commands_of _ = []

abbrev pub addressees_of : StepKind → List (List ℕ)
addressees_of (Action commands agent targets in_args out_args) = agent ∷ targets
addressees_of _ = []

abbrev pub in_args_of : StepKind → List (List ℕ)
in_args_of (Action commands agent targets in_args out_args) = in_args
in_args_of (PlaybookAction playbook version in_args out_args) = in_args
in_args_of _ = []

abbrev pub out_args_of : StepKind → List (List ℕ)
out_args_of (Action commands agent targets in_args out_args) = out_args
out_args_of (PlaybookAction playbook version in_args out_args) = out_args
out_args_of _ = []

abbrev pub condition_of : StepKind → Option (List ℕ)
condition_of (If condition on_true on_false) = Some condition
condition_of (While condition on_true) = Some condition
condition_of _ = None

abbrev pub subject_of : StepKind → Option (List ℕ)
subject_of (Switch subject cases) = Some subject
subject_of _ = None

abbrev pub call_of : StepKind → Option (List ℕ)
call_of (PlaybookAction playbook version in_args out_args) = Some playbook
call_of _ = None

-- the version that a playbook-action asks of the called book
abbrev pub version_of : StepKind → Option (List ℕ)
version_of (PlaybookAction playbook version in_args out_args) = version
version_of _ = None

abbrev pub is_action : StepKind → Bool
is_action (Action commands agent targets in_args out_args) = true
is_action _ = false

-- ---- texts with references

-- the names of the references of a text, from left to right
abbrev pub referred : List ℕ → List (List ℕ)
referred text = map (λ found. found.name) (references text).0

abbrev mutual
  -- the string values of a tree, not its names
  pub strings : Data → List (List ℕ)
  strings null = []
  strings (boolean b) = []
  strings (number n) = []
  strings (string s) = s ∷ []
  strings (array ds) = strings_of_items ds
  strings (object ms) = strings_of_members ms

  pub strings_of_items : Items → List (List ℕ)
  strings_of_items no_items = []
  strings_of_items (item d ds) = strings d ++ strings_of_items ds

  pub strings_of_members : Members → List (List ℕ)
  strings_of_members no_members = []
  strings_of_members (member k d ms) = strings d ++ strings_of_members ms

-- the names of the references in the string values of a tree
abbrev pub referred_in : Data → List (List ℕ)
referred_in d = flat_map referred (strings d)

-- a command for an operator
abbrev pub is_manual : StepCommand → Bool
is_manual command = bytes_eq command.kind (codes "manual")

-- the tree of a command's content; the text for an operator has none
abbrev pub content_tree : StepCommand → Option Data
content_tree command = if is_manual command then None else option_and_then tree command.content

-- the same of an object alone
abbrev pub referred_in_object : Data → List (List ℕ)
referred_in_object d = if is_some (as_object d) then referred_in d else []

-- the names of the references in what a command sends: in the text for an operator, or in the strings of a content that is an object
abbrev pub sent_names : StepCommand → List (List ℕ)
sent_names command =
    if is_manual command then option_map_or referred command.content []
    else option_map_or referred_in_object (option_and_then tree command.content) []

-- the step uses the name: in its condition, as its switch, as an argument, for a result, or in a command
pub data Uses (step : Step) (name : List ℕ) : Type 0 where
  in_condition : (text : List ℕ) (cond : AnyTree) → condition_of step.kind ≡ Some text → Spells cond text
      → Contains (named cond) name → Uses step name
  in_subject : IsName name → subject_of step.kind ≡ Some (reference_text name) → Uses step name
  as_argument : Contains (in_args_of step.kind) name → Uses step name
  as_result : Contains (out_args_of step.kind) name → Uses step name
  in_command : (command : StepCommand) → Contains (commands_of step.kind) command → Contains (sent_names command) name
      → Uses step name
