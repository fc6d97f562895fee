-- Promise: The packets of a file: lines, each with its line feed. An empty file has none.
use Rattle.std.specs.Prelude.{ℕ, ◌+◌, List, [], ◌∷◌, ◌++◌, Option, Some, None, Result, Ok, Err, if◌then◌else◌}
use Rattle.std.specs.Str.{is_utf8}
use Rattle.oc2_nets.specs.declared.packets.Packet.{Packet}
use Rattle.oc2_nets.specs.Packets.{packet_of}
use Rattle.oc2_nets.specs.Texts.{parts}

-- the moment and the packet of a line without its line feed, which is UTF-8
abbrev pub packet_in : List ℕ → Option (ℕ × Packet)
packet_in line = if is_utf8 line then packet_of line else None

-- packets before others, unless a line among the others has none
abbrev pub onto : List (ℕ × Packet) → Result (List (ℕ × Packet)) ℕ → Result (List (ℕ × Packet)) ℕ
onto before (Ok packets) = Ok (before ++ packets)
onto before (Err number) = Err number

-- a packet before those of the lines behind it, or the number of its line
abbrev pub one_onto : ℕ → Option (ℕ × Packet) → Result (List (ℕ × Packet)) ℕ → Result (List (ℕ × Packet)) ℕ
one_onto number None behind = Err number
one_onto number (Some packet) behind = onto (packet ∷ []) behind

-- what stands behind the last line feed is to be empty
abbrev pub at_last : ℕ → List ℕ → Result (List (ℕ × Packet)) ℕ
at_last number [] = Ok []
at_last number (c ∷ cs) = Err number

-- the packets of what stands between line feeds, where the first has this number; or the number of the first that has none
abbrev pub packets_from : ℕ → List (List ℕ) → Result (List (ℕ × Packet)) ℕ
packets_from number [] = Ok []
packets_from number (line ∷ []) = at_last number line
packets_from number (line ∷ next ∷ lines) = one_onto number (packet_in line) (packets_from (number + 1) (next ∷ lines))

abbrev pub line_feed : ℕ
line_feed = 10

-- the packets of a file in order; or the number, from 1, of the first line that is none
unfoldable pub packets_of : List ℕ → Result (List (ℕ × Packet)) ℕ
packets_of text = packets_from 1 (parts line_feed text)
