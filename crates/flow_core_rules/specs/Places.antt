-- Promise: The places of an action: what it sends and asks, one after another.
use Rattle.std.specs.Prelude.{ℕ, List, [], ◌∷◌, map, find, Bool, Option, codes, if◌then◌else◌}
use Rattle.std.specs.Option.{option_map_or}
use Rattle.std.specs.Str.{bytes_eq}
use Rattle.std.specs.List.{flat_map}
use Rattle.cacao_book.specs.declared.commands.StepCommand.{StepCommand}
use Rattle.cacao_book.specs.declared.step_kinds.StepKind.{StepKind}
use Rattle.cacao_book.specs.declared.step_kinds.StepKind.TheVariants as does

-- One place: a content for the filter that is bound to an agent or a target, or a text for an operator. Commands of accepted
-- playbooks have one.
pub data Place : Type 0 where
  to_filter : Option (List ℕ) → List ℕ → Place
  to_operator : Option (List ℕ) → Place

abbrev pub is_manual : StepCommand → Bool
is_manual command = bytes_eq command.kind (codes "manual")

-- a command goes to each target, or to the agent where there are none
abbrev pub addressees : List ℕ → List (List ℕ) → List (List ℕ)
addressees agent [] = agent ∷ []
addressees agent (target ∷ targets) = target ∷ targets

-- a manual command has one place, for an operator
abbrev pub places_of : List (List ℕ) → StepCommand → List Place
places_of all command =
    if is_manual command then to_operator command.content ∷ [] else map (λ one. to_filter command.content one) all

-- each command in order, and within it each addressee in order
abbrev pub places : StepKind → List Place
places (does.Action commands agent targets in_args out_args) = flat_map (places_of (addressees agent targets)) commands
places other = []

-- the filter that is bound to an agent or a target, 1 where none is
abbrev pub filter_of : List (List ℕ × ℕ) → List ℕ → ℕ
filter_of agents to = option_map_or (λ found. found.1) (find (λ entry. bytes_eq entry.0 to) agents) 1
