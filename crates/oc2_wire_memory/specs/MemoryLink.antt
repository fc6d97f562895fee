-- Promise: What contracts see of a `MemoryLink`.
use Rattle.std.specs.Prelude.{◌≡◌, ℕ, ◌+◌, Bool, ◌||◌, List, Some, length, take, drop, nat_lt}
use Rattle.std.specs.List.{concat}
use Rattle.cacao_site.specs.Counts.{next_count}
use Rattle.oc2_wire_link.specs.Links.{LinkView}
use Rattle.oc2_wire_memory.specs.Failing.{is_listed}
use Rattle.oc2_wire_memory.specs.Pieces.{count_before}
use Rattle.oc2_wire_memory.specs.declared.link.MemoryLink.{MemoryLink}

-- the bytes that come in, piece by piece
abbrev pub pieces_of : MemoryLink → List (List ℕ)
pieces_of link = link.incoming.pieces.items

-- how many bytes were received
abbrev pub count_of : MemoryLink → ℕ
count_of link = count_before link.incoming.pieces.items link.incoming.number link.incoming.place

abbrev pub sent_of : MemoryLink → List ℕ
sent_of link = link.sent.items

-- the bytes that there is room for among those sent
abbrev pub room_of : MemoryLink → ℕ
room_of link = link.room

abbrev pub failing_of : MemoryLink → List ℕ
failing_of link = link.failing

-- the calls so far, of both kinds
abbrev pub calls_of : MemoryLink → ℕ
calls_of link = link.calls

abbrev pub link_view : MemoryLink → LinkView
link_view link = record {
  sent = Some (sent_of link);
  received = Some (take (count_of link) (concat (pieces_of link)));
  to_come = Some (drop (count_of link) (concat (pieces_of link)));
  faults = link.faults;
}

-- whether the next call fails, where it is to send so many bytes, or none
abbrev pub fails_to_send : MemoryLink → ℕ → Bool
fails_to_send link size = is_listed (failing_of link) (calls_of link) || nat_lt (room_of link) (length (sent_of link) + size)

abbrev pub fails_to_receive : MemoryLink → Bool
fails_to_receive link = is_listed (failing_of link) (calls_of link)

-- what no call changes, and the count of calls
pub record CallsOnce (old new : MemoryLink) : Type 0 where
  pub pieces : pieces_of new ≡ pieces_of old
  pub room : room_of new ≡ room_of old
  pub failing : failing_of new ≡ failing_of old
  pub calls : calls_of new ≡ next_count (calls_of old)
