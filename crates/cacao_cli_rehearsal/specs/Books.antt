-- Promise: The playbook of a rehearsal. Its positions have numbers from 1 on; one in three denies a net, the next allows two addresses in
-- parallel, and the one behind it deletes a rule.
use Rattle.std.specs.Prelude.{ℕ, zero, suc, ◌+◌, ◌-◌, ◌*◌, ◌/◌, ◌%◌, ◌==◌, false, if◌then◌else◌}
use Rattle.std.specs.Prelude.{List, [], ◌∷◌, ◌++◌, length, map, fold, replicate, codes, decimal}
use Rattle.std.specs.Fmt.{digits}
use Rattle.serde_json.specs.Data.{Data, string, array, object, Members, no_members, put}
use Rattle.cacao_json.specs.Tree.{items_of}
use Rattle.cacao_text.specs.Canon.{canon}

-- ---- parts of trees

-- these members and those before, each put in its place
abbrev pub put_all : List (List ℕ × Data) → Members → Members
put_all ms before = fold (λ others m. put m.0 m.1 others) before ms

abbrev pub placed : List (List ℕ × Data) → Members
placed ms = put_all ms no_members

abbrev pub object_of : List (List ℕ × Data) → Data
object_of ms = object (placed ms)

abbrev pub texts : List (List ℕ) → Data
texts ts = array (items_of (map (λ t. string t) ts))

-- ---- names

-- a number in lower-case hexadecimal digits, twelve of them where it has no more
abbrev pub twelve_digits : ℕ → List ℕ
twelve_digits number = replicate (12 - length (digits 16 false number)) 48 ++ digits 16 false number

-- an identifier of this object type
abbrev pub identifier : List ℕ → ℕ → List ℕ
identifier kind number = kind ++ (codes "--00000000-0000-4000-8000-" ++ twelve_digits number)

abbrev pub action : ℕ → List ℕ
action number = identifier (codes "action") number

abbrev pub start_step : List ℕ
start_step = identifier (codes "start") 1

abbrev pub end_step : List ℕ
end_step = identifier (codes "end") 2

abbrev pub agent : List ℕ
agent = identifier (codes "net-address") 3

abbrev pub stamp : List ℕ
stamp = codes "2024-01-01T00:00:00Z"

-- the step with which a position begins
abbrev pub head : ℕ → List ℕ
head position = identifier (if position % 3 == 2 then codes "parallel" else codes "action") (16 * position)

-- what follows a position, where the last one is this; the start stands in place of position 0
abbrev pub after : ℕ → ℕ → List ℕ
after last position = if position == last then end_step else head (position + 1)

-- ---- commands

-- an OpenC2 command on a target
abbrev pub command : List ℕ → List ℕ → List ℕ → List ℕ
command verb target value =
    codes "{\"action\":\"" ++ verb ++ codes "\",\"target\":{\"" ++ target ++ codes "\":\"" ++ value ++ codes "\"}}"

-- the net 10.X.Y of a position, with X and Y its quotient and its rest by 256
abbrev pub net : ℕ → List ℕ → List ℕ
net position rest = codes "10." ++ decimal (position / 256) ++ codes "." ++ decimal (position % 256) ++ rest

abbrev pub denies : ℕ → List ℕ
denies position = command (codes "deny") (codes "ipv4_net") (net position (codes ".0/24"))

-- the first or the second address
abbrev pub allows : ℕ → ℕ → List ℕ
allows position branch = command (codes "allow") (codes "ipv4_net") (net position (codes "." ++ decimal branch ++ codes "/32"))

abbrev pub deletes : List ℕ
deletes = command (codes "delete") (codes "slpf:rule_number") (codes "__rule__:value")

-- ---- steps

-- a command that sends this content to a filter
abbrev pub http_command : List ℕ → Data
http_command content = object_of ((codes "type", string (codes "openc2-http")) ∷ (codes "content", string content) ∷ [])

-- what an action has that sends one command and goes on to a step
abbrev pub sends : List ℕ → List ℕ → List (List ℕ × Data)
sends content next =
    (codes "type", string (codes "action"))
    ∷ (codes "agent", string agent)
    ∷ (codes "commands", array (items_of (http_command content ∷ [])))
    ∷ (codes "on_completion", string next)
    ∷ []

abbrev pub deny_step : ℕ → List ℕ → Data
deny_step position next =
    object_of (sends (denies position) next ++ (codes "out_args", texts (codes "__status__" ∷ codes "__rule__" ∷ [])) ∷ [])

abbrev pub branch : ℕ → ℕ → List ℕ × Data
branch position number = (action (16 * position + number), object_of (sends (allows position number) end_step))

abbrev pub parallel_step : ℕ → List ℕ → Data
parallel_step position next = object_of (
    (codes "type", string (codes "parallel"))
    ∷ (codes "next_steps", texts (action (16 * position + 1) ∷ action (16 * position + 2) ∷ []))
    ∷ (codes "on_completion", string next)
    ∷ [])

abbrev pub delete_step : List ℕ → Data
delete_step next = object_of (sends deletes next)

-- the steps of a position, of which the first goes on to the next position
abbrev pub steps_at : ℕ → List ℕ → List (List ℕ × Data)
steps_at position next =
    if position % 3 == 1 then (head position, deny_step position next) ∷ []
    else (if position % 3 == 2 then (head position, parallel_step position next) ∷ branch position 1 ∷ branch position 2 ∷ []
    else (head position, delete_step next) ∷ [])

-- those of the positions up to this one
abbrev pub steps_to : ℕ → ℕ → List (List ℕ × Data)
steps_to last zero = []
steps_to last (suc before) = steps_to last before ++ steps_at (before + 1) (after last (before + 1))

-- ---- the playbook

abbrev pub ends : List (List ℕ × Data)
ends = (end_step, object_of ((codes "type", string (codes "end")) ∷ [])) ∷ []

abbrev pub starts : ℕ → List (List ℕ × Data)
starts last =
    (start_step, object_of ((codes "type", string (codes "start")) ∷ (codes "on_completion", string (after last 0)) ∷ [])) ∷ []

abbrev pub workflow : ℕ → Data
workflow last = object_of (starts last ++ ends ++ steps_to last last)

-- a variable without a value
abbrev pub integer : Data
integer = object_of ((codes "type", string (codes "integer")) ∷ [])

-- which playbook this is
abbrev pub names : List (List ℕ × Data)
names =
    (codes "type", string (codes "playbook"))
    ∷ (codes "spec_version", string (codes "cacao-2.0"))
    ∷ (codes "id", string (identifier (codes "playbook") 5))
    ∷ (codes "name", string (codes "rehearsal"))
    ∷ (codes "created_by", string (identifier (codes "identity") 4))
    ∷ (codes "created", string stamp)
    ∷ (codes "modified", string stamp)
    ∷ []

-- and what it has
abbrev pub parts : ℕ → List (List ℕ × Data)
parts positions =
    (codes "agent_definitions", object_of ((agent, object_of []) ∷ []))
    ∷ (codes "playbook_variables", object_of ((codes "__status__", integer) ∷ (codes "__rule__", integer) ∷ []))
    ∷ (codes "workflow_start", string start_step)
    ∷ (codes "workflow", workflow positions)
    ∷ []

-- the playbook with so many positions
abbrev pub rehearsal : ℕ → Data
rehearsal positions = object_of (names ++ parts positions)

-- its canonical text
abbrev pub rehearsal_text : ℕ → List ℕ
rehearsal_text positions = canon (rehearsal positions)
