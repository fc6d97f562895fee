-- Scaffold: Places of an action as they are found by their numbers.
use Rattle.std.specs.Prelude.{◌≡◌, ℕ, List, option_and_then, slice_get}
use Rattle.std.specs.Option.{option_copied}
use Rattle.cacao_json.specs.Reading.{tree}
use Rattle.cacao_book.specs.declared.commands.StepCommand.{StepCommand}
use Rattle.flow_core_rules.specs.Places.{to_filter, to_operator}
use Rattle.flow_core_rules.specs.Places.{Place as RulePlace}
use Rattle.cacao_check_steps.specs.Uses.{content_tree}
use Rattle.flow_core_values.specs.declared.places.Place.{Place}
use Rattle.flow_core_values.specs.declared.places.Place.TheVariants as place
use Rattle.flow_core_texts.specs.Questions.{question_of}

-- the place that it is by the rules
abbrev pub place_view : Place → RulePlace
place_view (place.Filter command content to) = to_filter (option_copied content) to.now
place_view (place.Operator command content) = to_operator (option_copied content)

-- the place is one of this command, whose number is this
abbrev pub IsPlaceOf : StepCommand → ℕ → Place → Type 0
IsPlaceOf one number (place.Filter command content to) =
    (command ≡ number) × (option_and_then tree (option_copied content) ≡ content_tree one)
IsPlaceOf one number (place.Operator command content) = (command ≡ number) × (option_copied content ≡ question_of one)

-- what the place sends or asks is what the command with its number sends or asks
abbrev pub IsOfCommand : List StepCommand → Place → Type 0
IsOfCommand commands (place.Filter command content to) =
    option_and_then tree (option_copied content) ≡ option_and_then content_tree (slice_get commands command)
IsOfCommand commands (place.Operator command content) =
    option_copied content ≡ option_and_then question_of (slice_get commands command)
