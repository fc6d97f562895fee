-- Scaffold: How many bytes the parts of a command have.
use Rattle.std.specs.Prelude.{ℕ, ◌+◌, ◌||◌, nat_le, Bool, false, List, length, flat_map, codes, Option, if◌then◌else◌}
use Rattle.std.specs.Fmt.{decimal}
use Rattle.std.specs.Option.{option_map_or}
use Rattle.std.specs.Str.{bytes_eq}
use Rattle.serde_json.specs.Data.{Data, Items, no_items, item, Members, no_members, member}
use Rattle.cacao_text.specs.Canon.{escaped, canon}
use Rattle.flow_core_rules.specs.declared.issues.Issue.{Issue}
use Rattle.flow_core_rules.specs.declared.moves.Move.{Move}
use Rattle.flow_core_rules.specs.declared.moves.Move.TheVariants as move
use Rattle.flow_core_rules.specs.State.{Shown}
use Rattle.flow_core_rules.specs.Changes.{Issuing, next_command, next_question}
use Rattle.flow_core_values.specs.declared.sizing.Setting.{Setting}
use Rattle.flow_core_values.specs.declared.sizing.Setting.TheVariants as setting

-- a text inside a string, without quotation marks, or as it is
abbrev pub text_bytes : Bool → List ℕ → ℕ
text_bytes quoted text = if quoted then length (flat_map escaped text) else length text

-- whether the rules set the member with this name, so that it is counted apart
abbrev pub is_set : Setting → List ℕ → Bool
is_set setting.Nothing name = false
is_set setting.Command name = bytes_eq name (codes "command_id") || bytes_eq name (codes "args")
is_set setting.Args name = bytes_eq name (codes "response_requested")

-- an item, with the comma or the bracket behind it
abbrev pub items_bytes : Items → ℕ
items_bytes no_items = 0
items_bytes (item d ds) = 1 + length (canon d) + items_bytes ds

-- a member that isn't set, with the comma or the bracket behind it: its name in quotation marks, a colon and its value
abbrev pub member_bytes : Setting → List ℕ → Data → ℕ
member_bytes set name d = if is_set set name then 0 else 4 + length (flat_map escaped name) + length (canon d)

abbrev pub members_bytes : Setting → Members → ℕ
members_bytes set no_members = 0
members_bytes set (member name d ms) = member_bytes set name d + members_bytes set ms

-- `"command_id":"R.N",`
abbrev pub id_bytes : ℕ → ℕ → ℕ
id_bytes run issue = 17 + length (flat_map escaped (decimal run)) + length (flat_map escaped (decimal issue))

-- ---- what is issued next

-- it has so many bytes or more
abbrev pub reaches : ℕ → Option Issue → Bool
reaches bytes o = option_map_or (λ issue. nat_le bytes (length issue.bytes)) o false

abbrev pub next_reaches : ℕ → Option Issuing → Bool
next_reaches bytes o = option_map_or (λ made. nat_le bytes (length (made.0).bytes)) o false

-- the command of a move, or what it asks an operator, is longer than 1,048,576 bytes
abbrev pub is_long_move : Shown → ℕ → Move → Bool
is_long_move s now (move.Walk t) = false
is_long_move s now move.Upgrade = false
is_long_move s now (move.Send t) = next_reaches 1_048_577 (next_command s now t)
is_long_move s now (move.Ask t) = next_reaches 1_048_577 (next_question s now t)
