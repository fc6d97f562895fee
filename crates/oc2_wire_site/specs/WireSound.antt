-- Promise: A site over a link is sound where the site beneath is, and its entries stand in the order of their beats.
use Rattle.std.proofs.Common.{ℕ, Bool, List}
use Rattle.cacao_site.specs.Sound.{IsSound}
use Rattle.cacao_site.specs.View.{SiteView}
use Rattle.cacao_site.specs.declared.parcel.Parcel.{Parcel}
use Rattle.oc2_wire_site.specs.Entries.{AreInTime}
use Rattle.oc2_wire_site.specs.Marks.{WireMark, marked_site}
use Rattle.oc2_wire_site.specs.Wires.{wire_view}

pub wire-sound : (asking : Bool) (mark : WireMark) (site : SiteView) (puts taken : List (ℕ × Parcel)) (empty : List ℕ) (mishaps : ℕ) → IsSound site → AreInTime site.disk.beat puts → AreInTime site.disk.beat taken
    → IsSound (wire_view (marked_site asking mark site) puts taken empty mishaps)
wire-sound asking mark site puts taken empty mishaps sound puts_in taken_in = record {
  reads = sound.reads;
  images = sound.images;
  puts = puts_in;
  taken = taken_in;
  said = sound.said;
  pending = tt;
  was_put = tt;
}
