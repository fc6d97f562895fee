-- Promise: The object of JSON that tells of a record, its members in the order of their names.
use Rattle.std.specs.Prelude.{ℕ, List, [], ◌∷◌, ◌++◌, codes, decimal, map, nat_le, Option, Some, None, slice_get, if◌then◌else◌}
use Rattle.std.specs.Str.{is_utf8}
use Rattle.serde_json.specs.Data.{Data, string, array, object}
use Rattle.cacao_json.specs.Tree.{items_of, members_of}
use Rattle.cacao_text.specs.Canon.{canon}
use Rattle.oc2_msg_targets.specs.Parts.{whole_data}
use Rattle.run_records.specs.declared.record.Record.{Record}
use Rattle.run_records.specs.declared.record.Record.TheVariants as entry
use Rattle.flow_core_rules.specs.Lines.{key_of}
use Rattle.flow_core_rules.specs.State.{Shown}
use Rattle.cacao_view_log.specs.declared.sender.Sender.{Sender}

-- the greatest number that each reader of JSON keeps whole (RFC 7493, section 2.2)
abbrev pub most_whole : ℕ
most_whole = 9_007_199_254_740_991

-- a number, or the text of its digits where it is greater than that
abbrev pub number_data : ℕ → Data
number_data n = if nat_le n most_whole then whole_data n else string (decimal n)

-- bytes as the list of their numbers
abbrev pub bytes_data : List ℕ → Data
bytes_data bytes = array (items_of (map whole_data bytes))

-- a text, or the list of its bytes where they are no UTF-8
abbrev pub text_data : List ℕ → Data
text_data bytes = if is_utf8 bytes then string bytes else bytes_data bytes

abbrev pub texts_data : List (List ℕ) → Data
texts_data texts = array (items_of (map text_data texts))

-- ---- the objects

-- what each object has: the kind of the record, its moment, its number and that of the run
abbrev pub head : List ℕ → ℕ → ℕ → ℕ → List (List ℕ × Data)
head kind run n moment =
    (codes "kind", string kind) ∷ (codes "moment", number_data moment) ∷ (codes "number", whole_data n)
    ∷ (codes "run", number_data run) ∷ []

-- the key of the step at which a task stands, and its number
abbrev pub task_members : Shown → ℕ → List (List ℕ × Data)
task_members before task = (codes "step", string (key_of before task)) ∷ (codes "task", whole_data task) ∷ []

-- the same of who sent or asked, if that is known, and the filter
abbrev pub sender_members : Shown → Option Sender → List (List ℕ × Data)
sender_members before None = []
sender_members before (Some sender) = task_members before sender.task

abbrev pub agent_members : Option Sender → List (List ℕ × Data)
agent_members None = []
agent_members (Some sender) = (codes "agent", whole_data sender.agent) ∷ []

-- the members for what an issue came to, by who sent or asked
abbrev pub reply_members : ℕ → Shown → ℕ → Option Sender → ℕ → ℕ → ℕ → ℕ → List ℕ → List (List ℕ × Data)
reply_members run before n sender issue moment status rule text =
    agent_members sender
    ++ (codes "issue", whole_data issue) ∷ (codes "kind", string (codes "reply")) ∷ (codes "moment", number_data moment)
    ∷ (codes "number", whole_data n) ∷ (codes "rule", whole_data rule) ∷ (codes "run", number_data run)
    ∷ (codes "status", whole_data status) ∷ (sender_members before sender ++ (codes "text", text_data text) ∷ [])

abbrev pub expire_members : ℕ → Shown → ℕ → Option Sender → ℕ → ℕ → List (List ℕ × Data)
expire_members run before n sender issue moment =
    agent_members sender ++ (codes "issue", whole_data issue) ∷ (head (codes "expire") run n moment ++ sender_members before sender)

abbrev pub told_members : ℕ → Shown → ℕ → Option Sender → ℕ → ℕ → ℕ → List ℕ → List (List ℕ × Data)
told_members run before n sender issue moment status answer =
    (codes "answer", text_data answer) ∷ (codes "issue", whole_data issue)
    ∷ (head (codes "told") run n moment ++ (codes "status", whole_data status) ∷ sender_members before sender)

-- The members for the record with this number in the run of this number, by what was shown before it and who had sent and asked. A Begin
-- tells the number of the run itself. Each record of a task has the key of the step at which that stands before it.
abbrev pub members : ℕ → Shown → List Sender → ℕ → Record → List (List ℕ × Data)
members run before sent n (entry.Begin held moment books bind) =
    (codes "bind", text_data bind) ∷ (codes "books", texts_data books) ∷ head (codes "begin") held n moment
members run before sent n (entry.Walk task moment) = head (codes "walk") run n moment ++ task_members before task
members run before sent n (entry.Send task issue agent moment command) =
    (codes "agent", whole_data agent) ∷ (codes "command", text_data command) ∷ (codes "issue", whole_data issue)
    ∷ (head (codes "send") run n moment ++ task_members before task)
members run before sent n (entry.Reply issue moment status rule text) =
    reply_members run before n (slice_get sent issue) issue moment status rule text
members run before sent n (entry.Expire issue moment) = expire_members run before n (slice_get sent issue) issue moment
members run before sent n (entry.Upgrade version moment) =
    head (codes "upgrade") run n moment ++ (codes "version", whole_data version) ∷ []
members run before sent n (entry.Ask task issue moment question) =
    (codes "issue", whole_data issue) ∷ (codes "kind", string (codes "ask")) ∷ (codes "moment", number_data moment)
    ∷ (codes "number", whole_data n) ∷ (codes "question", text_data question) ∷ (codes "run", number_data run)
    ∷ task_members before task
members run before sent n (entry.Told issue moment status answer) =
    told_members run before n (slice_get sent issue) issue moment status answer

abbrev pub record_object : ℕ → Shown → List Sender → ℕ → Record → Data
record_object run before sent n r = object (members_of (members run before sent n r))

-- its canonical text, on a line of its own
abbrev pub object_line : ℕ → Shown → List Sender → ℕ → Record → List ℕ
object_line run before sent n r = canon (record_object run before sent n r) ++ 10 ∷ []
