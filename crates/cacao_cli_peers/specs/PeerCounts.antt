-- Promise: What a call does with the peers, and how they come before other ends.
use Rattle.std.specs.Prelude.{◌≡◌, ◌≤◌, ◌+◌, ℕ, Bool, true, false, Option, IfSome, if◌then◌else◌}
use Rattle.cacao_site.specs.Counts.{count_after, next_count}
use Rattle.oc2_wire_link.specs.Links.{LinkView}
use Rattle.oc2_wire_link.specs.Peering.{Counts, IsAsTold, PeerCalls, PeersView, closed}
use Rattle.cacao_cli_ends.specs.Ends.{End, damaged, other_book, other_run, past, peers_failed, run_used}

-- this call of the peers was made once, and failed, or not
abbrev pub Calls : (PeerCalls → PeerCalls) → Bool → PeersView → PeersView → Type 0
Calls once fails old new =
    Counts once old.calls new.calls × (new.faults ≡ (if fails then next_count old.faults else old.faults))

-- the link was closed as it is here, whose faults are now faults of the peers
abbrev pub Closes : LinkView → Bool → PeersView → PeersView → Type 0
Closes link fails old new =
    Counts closed old.calls new.calls
    × (new.faults ≡ (if fails then next_count (count_after old.faults link.faults) else count_after old.faults link.faults))
    × IsAsTold new.back link

-- each call was made so often at most
pub record AtMost (starts binds accepts closes : ℕ) (old new : PeerCalls) : Type 0 where
  pub started : new.starts ≤ old.starts + starts
  pub bound : new.binds ≤ old.binds + binds
  pub accepted : new.accepts ≤ old.accepts + accepts
  pub closed : new.closes ≤ old.closes + closes

-- so it is where calls are told
abbrev pub CallsAtMost : ℕ → ℕ → ℕ → ℕ → Option PeerCalls → Option PeerCalls → Type 0
CallsAtMost starts binds accepts closes old new = IfSome old (λ before. IfSome new (λ after. AtMost starts binds accepts closes before after))

-- an end that is told before a failure of the peers
abbrev pub comes_before_peers : End → Bool
comes_before_peers (past limit) = true
comes_before_peers (other_run held asked) = true
comes_before_peers (other_book index) = true
comes_before_peers (run_used agent) = true
comes_before_peers (damaged file place) = true
comes_before_peers other = false

-- the end of a call whose link could not be closed, or could
abbrev pub behind_close : Bool → End → End
behind_close false end = end
behind_close true end = if comes_before_peers end then end else peers_failed
