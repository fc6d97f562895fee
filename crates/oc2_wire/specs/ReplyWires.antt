-- Promise: A wire that is lent to a filter, as a site. It is known again by its label behind calls that know of no wire.
use Rattle.std.proofs.Common.{◌≡◌, ℕ, ◌≤◌, Bool, true, false, List, ◌∷◌}
use Rattle.cacao_site.specs.Counts.{Rose}
use Rattle.cacao_site.specs.Sound.{IsSound}
use Rattle.cacao_site.specs.View.{SiteView}
use Rattle.oc2_wire_site.specs.ReadLines.{count_told}
use Rattle.oc2_wire_site.specs.Wires.{WireView}
use Rattle.oc2_wire_site.specs.declared.link_state.LinkState.TheVariants as state
use Rattle.oc2_wire.specs.Answering.{found_by}

-- the same site under another label, with another count of mishaps
abbrev pub retell : List ℕ → ℕ → SiteView → SiteView
retell label mishaps site = record site { disk = record site.disk { label = label }; counts = record site.counts { mishaps = mishaps } }

abbrev pub bit : Bool → ℕ
bit true = 1
bit false = 0

-- which end it is, how many lines it passed over, and what reading found
abbrev pub marks : WireView → List ℕ
marks wire = bit wire.asking ∷ wire.lines.passed ∷ found_by wire.lines.state ∷ wire.site.disk.label

-- Under the name of its loan, and with how much had been put and lost when it was lent. Its count of mishaps is how many parcels were
-- put since: so it is known of each call whether it put one.
abbrev pub lent_wire : ℕ → WireView → ℕ → WireView → SiteView
lent_wire name lent put wire = retell (name ∷ count_told lent.site.link.puts ∷ lent.site.counts.mishaps ∷ marks wire) put wire.site

-- A wire that was whole when it was lent, after so many parcels were put: with none it is whole still. Each joined the puts, or was lost.
pub record KeepsLink (lent wire : WireView) (put : ℕ) : Type 0 where
  pub puts : count_told lent.site.link.puts ≤ count_told wire.site.link.puts
  pub later : lent.site.counts.mishaps ≤ wire.site.counts.mishaps
  pub whole : put ≡ 0 → wire.lines.state ≡ state.Whole
  pub none : put ≡ 0 → wire.site.counts.mishaps ≡ lent.site.counts.mishaps
  pub lost : 1 ≤ put → count_told wire.site.link.puts ≡ count_told lent.site.link.puts → Rose lent.site.counts.mishaps wire.site.counts.mishaps

pub sound-retell : (label : List ℕ) (mishaps : ℕ) (site : SiteView) → IsSound site → IsSound (retell label mishaps site)
sound-retell label mishaps site sound = record { reads = sound.reads; images = sound.images; puts = sound.puts; taken = sound.taken; said = sound.said; pending = sound.pending; was_put = sound.was_put }
