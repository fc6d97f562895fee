-- Promise: The words of a step in a picture, and its shape.
use Rattle.std.specs.Prelude.{ℕ, List, [], ◌∷◌, ◌++◌, codes, flat_map, option_and_then, unwrap_or, if◌then◌else◌}
use Rattle.std.specs.Option.{option_map_or}
use Rattle.serde_json.specs.Data.{Data}
use Rattle.serde_json.specs.Find.{get}
use Rattle.cacao_json.specs.Reading.{tree}
use Rattle.cacao_text.specs.Canon.{canon}
use Rattle.cacao_book.specs.declared.commands.StepCommand.{StepCommand}
use Rattle.cacao_book.specs.declared.step_kinds.StepKind.{StepKind}
use Rattle.cacao_book.specs.declared.step_kinds.StepKind.TheVariants.{Start, End, Action, PlaybookAction, Parallel, If, While, Switch}
use Rattle.cacao_book_shape.specs.Members.{maybe_text, some_text}
use Rattle.cacao_check_steps.specs.Uses.{is_manual}

-- the name of a step or of a playbook; where it has none, its key
abbrev pub title : List ℕ × Data → List ℕ
title m = unwrap_or (maybe_text (codes "name") m.1) m.0

-- ---- commands

-- canonical text behind a space
abbrev pub spaced : Data → List ℕ
spaced d = 32 ∷ canon d

-- what is told to an operator
abbrev pub told_text : List ℕ → List ℕ
told_text text = codes ": " ++ text

-- the action of what is sent to a filter, and its target as it is sent
abbrev pub sent_text : Data → List ℕ
sent_text d = codes ": " ++ (some_text (codes "action") d ++ option_map_or spaced (get (codes "target") d) [])

abbrev pub content_text : StepCommand → List ℕ
content_text command =
    if is_manual command then option_map_or told_text command.content []
    else option_map_or sent_text (option_and_then tree command.content) []

-- its type and what it says, on a line of its own
abbrev pub command_text : StepCommand → List ℕ
command_text command = 10 ∷ (command.kind ++ content_text command)

-- ---- steps

-- one more target, on a line of its own
abbrev pub target_text : List ℕ → List ℕ
target_text target = codes "\ntarget " ++ target

abbrev pub version_text : List ℕ → List ℕ
version_text version = codes " of " ++ version

-- the type of a step and, on lines of their own, what it has
abbrev pub kind_text : StepKind → List ℕ
kind_text Start = codes "start"
kind_text End = codes "end"
kind_text (Action commands agent targets in_args out_args) =
    codes "action" ++ (flat_map command_text commands ++ (codes "\nagent " ++ (agent ++ flat_map target_text targets)))
kind_text (PlaybookAction playbook version in_args out_args) =
    codes "playbook-action\n" ++ (playbook ++ option_map_or version_text version [])
kind_text (Parallel next) = codes "parallel"
kind_text (If condition on_true on_false) = codes "if-condition\n" ++ condition
kind_text (While condition on_true) = codes "while-condition\n" ++ condition
kind_text (Switch subject cases) = codes "switch-condition\n" ++ subject

-- the words of a step with this title
abbrev pub label_text : List ℕ → StepKind → List ℕ
label_text title kind = title ++ 10 ∷ kind_text kind

abbrev pub shape : StepKind → List ℕ
shape Start = codes "ellipse"
shape End = codes "doubleoctagon"
shape (Action commands agent targets in_args out_args) = codes "box"
shape (PlaybookAction playbook version in_args out_args) = codes "folder"
shape (Parallel next) = codes "trapezium"
shape (If condition on_true on_false) = codes "diamond"
shape (While condition on_true) = codes "hexagon"
shape (Switch subject cases) = codes "invhouse"
