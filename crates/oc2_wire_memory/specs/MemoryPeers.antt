-- Promise: What contracts see of `MemoryPeers`.
use Rattle.std.specs.Prelude.{◌≡◌, ℕ, Bool, ◌||◌, List, [], ◌∷◌, Option, Some, None, option_map, length, nat_eq}
use Rattle.cacao_site.specs.Counts.{next_count}
use Rattle.oc2_wire_link.specs.Links.{LinkView}
use Rattle.oc2_wire_link.specs.Peering.{PeersView}
use Rattle.oc2_wire_memory.specs.Failing.{is_listed}
use Rattle.oc2_wire_memory.specs.MemoryLink.{link_view}
use Rattle.oc2_wire_memory.specs.declared.link.MemoryLink.{MemoryLink}
use Rattle.oc2_wire_memory.specs.declared.peers.MemoryPeers.{MemoryPeers}

-- the links that are left, in the order in which they are handed out
abbrev pub links_of : MemoryPeers → List MemoryLink
links_of peers = peers.links.items

abbrev pub failing_of : MemoryPeers → List ℕ
failing_of peers = peers.failing

-- the calls so far, of all kinds
abbrev pub calls_of : MemoryPeers → ℕ
calls_of peers = peers.calls

-- the link that was closed last
abbrev pub back_of : MemoryPeers → Option MemoryLink
back_of peers = peers.back

abbrev pub first_of : List MemoryLink → Option LinkView
first_of [] = None
first_of (link ∷ links) = Some (link_view link)

abbrev pub peers_view : MemoryPeers → PeersView
peers_view peers = record {
  calls = Some (record { starts = peers.starts; binds = peers.binds; accepts = peers.accepts; closes = peers.closes });
  faults = peers.faults;
  port = Some 1;
  next = first_of (links_of peers);
  back = option_map link_view (back_of peers);
}

abbrev pub fails_by_plan : MemoryPeers → Bool
fails_by_plan peers = is_listed (failing_of peers) (calls_of peers)

-- the same of a call that hands out a link
abbrev pub fails_to_link : MemoryPeers → Bool
fails_to_link peers = fails_by_plan peers || nat_eq (length (links_of peers)) 0

-- what no call changes, and the count of calls
pub record CallsOnce (old new : MemoryPeers) : Type 0 where
  pub failing : failing_of new ≡ failing_of old
  pub calls : calls_of new ≡ next_count (calls_of old)
