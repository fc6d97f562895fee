-- Scaffold: What the calls of a site over a link do to it.
use Rattle.std.specs.Prelude.{◌≡◌, ◌≢◌, ◌⊎◌, Option}
use Rattle.cacao_site.specs.Counts.{next_count}
use Rattle.cacao_site.specs.LinkCalls.{Gains}
use Rattle.cacao_site.specs.declared.parcel.Parcel.{Parcel}
use Rattle.oc2_wire_lines.specs.Lines.{IsCarried, line_of}
use Rattle.oc2_wire_site.specs.LineLinks.{FailsToSend, SendsAll, TakesBy}
use Rattle.oc2_wire_site.specs.Wires.{WireView, is_owed}
use Rattle.oc2_wire_site.specs.declared.link_state.LinkState.TheVariants as state

-- what goes over the link stays
pub record KeepsWire (old new : WireView) : Type 0 where
  pub lines : new.lines ≡ old.lines
  pub asking : new.asking ≡ old.asking
  pub mark : new.mark ≡ old.mark

-- the parcel is lost and counted; nothing goes over the link
pub record IsLost (old new : WireView) : Type 0 where
  pub lines : new.lines ≡ old.lines
  pub counted : new.site.counts.mishaps ≡ next_count old.site.counts.mishaps

abbrev pub GainsPut : Parcel → WireView → WireView → Type 0
GainsPut parcel old new = Gains old.site.link.puts (new.site.disk.beat, parcel) new.site.link.puts

-- the line of the parcel went out whole
pub record GoesOut (parcel : Parcel) (old new : WireView) : Type 0 where
  pub was : old.lines.state ≡ state.Whole
  pub sends : SendsAll (line_of parcel) old.lines new.lines
  pub puts : GainsPut parcel old new
  pub counted : new.site.counts.mishaps ≡ old.site.counts.mishaps

-- a call of the link failed at it
pub record FailsToGoOut (parcel : Parcel) (old new : WireView) : Type 0 where
  pub fails : FailsToSend (line_of parcel) old.lines new.lines
  pub puts : GainsPut parcel old new
  pub counted : new.site.counts.mishaps ≡ next_count old.site.counts.mishaps

-- memory was wanted: nothing was sent, and the puts stay
pub record IsUnkept (old new : WireView) : Type 0 where
  pub lines : new.lines ≡ record old.lines { state = state.NoMemory }
  pub puts : new.site.link.puts ≡ old.site.link.puts
  pub counted : new.site.counts.mishaps ≡ next_count old.site.counts.mishaps

-- Where a line can carry the parcel and the link is whole behind the call, the line went out. Else the parcel is lost and counted; what
-- breaks the link is a call of it that fails, or want of memory. A parcel that no line can carry breaks nothing.
pub record PutsLine (parcel : Parcel) (old new : WireView) : Type 0 where
  pub asking : new.asking ≡ old.asking
  pub mark : new.mark ≡ old.mark
  pub whole : IsCarried parcel → new.lines.state ≡ state.Whole → GoesOut parcel old new
  pub breaks : old.lines.state ≡ state.Whole → new.lines.state ≢ state.Whole → FailsToGoOut parcel old new ⊎ IsUnkept old new
  pub broken : old.lines.state ≢ state.Whole → IsLost old new
  pub uncarried : (IsCarried parcel → ⊥) → IsLost old new × (new.site.link.puts ≡ old.site.link.puts)

-- the end that asks reads one line where it is owed one, and the end that answers reads on up to a command
pub record TakesLine (taken : Option Parcel) (old new : WireView) : Type 0 where
  pub asking : new.asking ≡ old.asking
  pub mark : new.mark ≡ old.mark
  pub takes : TakesBy old.asking (is_owed old) taken old.lines new.lines
