-- Promise: What contracts see of the peers of a program.
use Rattle.std.specs.Prelude.{◌≡◌, ℕ, Option, Some, None, IfSome}
use Rattle.cacao_site.specs.Counts.{next_count}
use Rattle.oc2_wire_link.specs.Links.{LinkView}

-- how often each call was made, also where it failed
pub record PeerCalls : Type 0 where
  pub starts : ℕ
  pub binds : ℕ
  pub accepts : ℕ
  pub closes : ℕ

pub record PeersView : Type 0 where
  pub calls : Option PeerCalls  -- told or not
  pub faults : ℕ  -- the calls that failed, and the faults of the links closed; always told
  pub port : Option ℕ  -- the port at which it listens, told or not
  pub next : Option LinkView  -- the link that the next start or accept gives, where it gives one; told or not
  pub back : Option LinkView  -- the link that was closed last, as it was then; told or not

-- where something is told, it is this
abbrev pub IsAsTold : {A : Type 0} → Option A → A → Type 0
IsAsTold told value = IfSome told (λ is. is ≡ value)

abbrev pub no_calls : PeerCalls
no_calls = record { starts = 0; binds = 0; accepts = 0; closes = 0 }

abbrev pub started : PeerCalls → PeerCalls
started calls = record calls { starts = next_count calls.starts }

abbrev pub bound : PeerCalls → PeerCalls
bound calls = record calls { binds = next_count calls.binds }

abbrev pub accepted : PeerCalls → PeerCalls
accepted calls = record calls { accepts = next_count calls.accepts }

abbrev pub closed : PeerCalls → PeerCalls
closed calls = record calls { closes = next_count calls.closes }

-- this call was made once more, and no other, where calls are told
abbrev pub Counts : (PeerCalls → PeerCalls) → Option PeerCalls → Option PeerCalls → Type 0
Counts once (Some old) (Some new) = new ≡ once old
Counts once None None = Unit {0}
Counts once _ _ = ⊥
