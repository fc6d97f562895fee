-- Promise: The bytes of each record and of an act. Numbers are big-endian.
use Rattle.std.specs.Prelude.{ℕ, List, [], ◌∷◌, ◌++◌, length}
use Rattle.std.specs.List.{flat_map}
use Rattle.std.specs.Int.{w16, w32, w64, to_be_bytes}
use Rattle.run_records.specs.declared.record.Record.{Record}
use Rattle.run_records.specs.declared.record.Record.TheVariants.{Begin, Walk, Send, Reply, Expire, Upgrade, Ask, Told}
use Rattle.run_records.specs.declared.act.Act.{Act}

-- numbers in that many bytes
abbrev pub two_bytes : ℕ → List ℕ
two_bytes n = to_be_bytes w16 n

abbrev pub four_bytes : ℕ → List ℕ
four_bytes n = to_be_bytes w32 n

abbrev pub eight_bytes : ℕ → List ℕ
eight_bytes n = to_be_bytes w64 n

-- a text behind its length
abbrev pub string : List ℕ → List ℕ
string bytes = four_bytes (length bytes) ++ bytes

-- texts behind their number, which takes one byte
abbrev pub strings : List (List ℕ) → List ℕ
strings texts = length texts ∷ flat_map string texts

-- A record is its tag and its fields, and nothing more.
unfoldable pub layout : Record → List ℕ
layout (Begin run moment books bind) =
    1 ∷ (eight_bytes run ++ eight_bytes moment ++ strings books ++ string bind)
layout (Walk task moment) = 2 ∷ (four_bytes task ++ eight_bytes moment)
layout (Send task issue agent moment bytes) =
    3 ∷ (four_bytes task ++ four_bytes issue ++ agent ∷ [] ++ eight_bytes moment ++ string bytes)
layout (Reply issue moment status rule text) =
    4 ∷ (four_bytes issue ++ eight_bytes moment ++ two_bytes status ++ four_bytes rule ++ string text)
layout (Expire issue moment) = 5 ∷ (four_bytes issue ++ eight_bytes moment)
layout (Upgrade version moment) = 6 ∷ (version ∷ eight_bytes moment)
layout (Ask task issue moment bytes) =
    7 ∷ (four_bytes task ++ four_bytes issue ++ eight_bytes moment ++ string bytes)
layout (Told issue moment status text) =
    8 ∷ (four_bytes issue ++ eight_bytes moment ++ two_bytes status ++ string text)

-- an act has the tag 16
unfoldable pub act_layout : Act → List ℕ
act_layout a =
    16 ∷ (eight_bytes a.run ++ four_bytes a.issue ++ eight_bytes a.moment ++ string a.command ++ string a.reply)
