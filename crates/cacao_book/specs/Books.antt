-- Promise: The typed playbook of a tree's data. It is total, with defaults where the shape fails; `read_book` gives it only where
-- no rule of shape is broken.
use Rattle.std.specs.Prelude.{ℕ, ◌==◌, List, ◌++◌, map, codes, Option, Some, None, option_and_then, if◌then◌else◌}
use Rattle.std.specs.Option.{option_map_or}
use Rattle.std.specs.List.{before_first}
use Rattle.base64.specs.Engines.{standard}
use Rattle.base64.specs.GeneralPurpose.{decoded_of}
use Rattle.serde_json.specs.Data.{Data}
use Rattle.cacao_vars.specs.Kinds.{kind_of}
use Rattle.cacao_vars.specs.declared.declarations.Var.{Var}
use Rattle.cacao_book.specs.declared.books.Book.{Book}
use Rattle.cacao_book.specs.declared.steps.Step.{Step}
use Rattle.cacao_book.specs.declared.step_kinds.StepKind.{StepKind}
use Rattle.cacao_book.specs.declared.step_kinds.StepKind.TheVariants.{Start, End, Action, PlaybookAction, Parallel, If, While, Switch}
use Rattle.cacao_book.specs.declared.commands.StepCommand.{StepCommand}
use Rattle.cacao_book.specs.declared.cases.Case.{Case}
use Rattle.cacao_book_shape.specs.Members.{maybe_text, some_text, items_at, text_of, texts_at, number_at, flag_at, members_at}
use Rattle.cacao_book_shape.specs.Shape.{is_of_type, workflow}

-- ---- arguments

-- The name that an argument means: what stands before the colon of a reference, and a name as it is. Names hold no colon.
abbrev pub argument : List ℕ → List ℕ
argument text = before_first (λ c. c == 58) text

abbrev pub arguments_at : List ℕ → Data → List (List ℕ)
arguments_at name d = map (λ item. argument (text_of item)) (items_at name d)

-- ---- variables

abbrev pub var_of : List ℕ × Data → Var
var_of m = record {
  name = m.0;
  kind = kind_of (some_text (codes "type") m.1);
  worth = maybe_text (codes "value") m.1;
  constant = flag_at (codes "constant") m.1;
  external = flag_at (codes "external") m.1;
}

abbrev pub vars_at : List ℕ → Data → List Var
vars_at name d = map var_of (members_at name d)

-- ---- commands

-- what an OpenC2 command sends: its text, or what its base64 decodes to
abbrev pub sent_of : Data → Option (List ℕ)
sent_of c =
    option_map_or Some (maybe_text (codes "content") c)
    (option_and_then (decoded_of standard) (maybe_text (codes "content_b64") c))

-- The content of a command: of an OpenC2 command what it sends, of a manual one what the operator is told, of another
-- one none.
abbrev pub content_of : Data → Option (List ℕ)
content_of c =
    if is_of_type (codes "openc2-http") c then sent_of c
    else if is_of_type (codes "manual") c then maybe_text (codes "command") c
    else None

abbrev pub command_of : Data → StepCommand
command_of c = record { kind = some_text (codes "type") c; content = content_of c }

abbrev pub commands_at : List ℕ → Data → List StepCommand
commands_at name d = map command_of (items_at name d)

-- ---- steps

abbrev pub case_of : List ℕ × Data → Case
case_of m = record { value = m.0; step = text_of m.1 }

abbrev pub action_of : Data → StepKind
action_of s =
    Action (commands_at (codes "commands") s) (some_text (codes "agent") s) (texts_at (codes "targets") s)
    (arguments_at (codes "in_args") s) (arguments_at (codes "out_args") s)

abbrev pub playbook_action_of : Data → StepKind
playbook_action_of s =
    PlaybookAction (some_text (codes "playbook_id") s) (maybe_text (codes "playbook_version") s)
    (arguments_at (codes "in_args") s) (arguments_at (codes "out_args") s)

abbrev pub if_of : Data → StepKind
if_of s = If (some_text (codes "condition") s) (some_text (codes "on_true") s) (maybe_text (codes "on_false") s)

abbrev pub while_of : Data → StepKind
while_of s = While (some_text (codes "condition") s) (some_text (codes "on_true") s)

abbrev pub switch_of : Data → StepKind
switch_of s = Switch (some_text (codes "switch") s) (map case_of (members_at (codes "cases") s))

abbrev pub kind_at : Data → StepKind
kind_at s =
    if is_of_type (codes "start") s then Start
    else if is_of_type (codes "end") s then End
    else if is_of_type (codes "action") s then action_of s
    else if is_of_type (codes "playbook-action") s then playbook_action_of s
    else if is_of_type (codes "parallel") s then Parallel (texts_at (codes "next_steps") s)
    else if is_of_type (codes "if-condition") s then if_of s
    else if is_of_type (codes "while-condition") s then while_of s
    else switch_of s

-- a step: without a delay it has none, without a timeout it has a minute
abbrev pub step_of : List ℕ × Data → Step
step_of m = record {
  key = m.0;
  delay = number_at (codes "delay") 0 m.1;
  timeout = number_at (codes "timeout") 60000 m.1;
  variables = vars_at (codes "step_variables") m.1;
  completion = maybe_text (codes "on_completion") m.1;
  success = maybe_text (codes "on_success") m.1;
  failure = maybe_text (codes "on_failure") m.1;
  kind = kind_at m.1;
}

-- ---- the book

-- the names of the object under a name, in order
abbrev pub names_at : List ℕ → Data → List (List ℕ)
names_at name d = map (λ m. m.0) (members_at name d)

-- the names of agents, and behind them those of targets
abbrev pub agents_of : Data → List (List ℕ)
agents_of t = names_at (codes "agent_definitions") t ++ names_at (codes "target_definitions") t

abbrev pub book : Data → Book
book t = record {
  id = some_text (codes "id") t;
  modified = some_text (codes "modified") t;
  start = some_text (codes "workflow_start") t;
  exception = maybe_text (codes "workflow_exception") t;
  variables = vars_at (codes "playbook_variables") t;
  agents = agents_of t;
  steps = map step_of (workflow t);
}
