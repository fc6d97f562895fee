-- Promise: A site over a link, as contracts see it.
use Rattle.std.specs.Prelude.{ℕ, ◌+◌, Bool, false, List, [], length, nat_lt, Option, Some, None}
use Rattle.cacao_site.specs.View.{SiteView}
use Rattle.cacao_site.specs.declared.parcel.Parcel.{Parcel}
use Rattle.oc2_wire_link.specs.Links.{LinkView}
use Rattle.oc2_wire_site.specs.LineLinks.{LinesView, lines_view}
use Rattle.oc2_wire_site.specs.Marks.{WireMark, marked_site}
use Rattle.oc2_wire_site.specs.declared.link_state.LinkState.TheVariants as state

-- the site that it is, its link, and which end it is: the one that puts commands and takes replies, or the other; and its mark
pub record WireView : Type 0 where
  pub site : SiteView
  pub lines : LinesView
  pub asking : Bool
  pub mark : WireMark

-- the disk, the lines said and the clock are those of the site beneath, whose disk is marked; puts, takes and mishaps are its own; pending parcels are not told
abbrev pub wire_view : SiteView → List (ℕ × Parcel) → List (ℕ × Parcel) → List ℕ → ℕ → SiteView
wire_view site puts taken empty mishaps = record {
  disk = site.disk;
  link = record { puts = Some puts; taken = Some taken; empty_takes = Some empty; pending = None; said = site.link.said };
  clock = site.clock;
  counts = record { says = site.counts.says; unsaid = site.counts.unsaid; mishaps = mishaps };
}

-- nothing was put, taken or read
abbrev pub new_mark : LinkView → WireMark
new_mark link = record { lines = lines_view link [] 0 state.Whole; taken = 0; puts = 0 }

abbrev pub new_wire : SiteView → LinkView → Bool → WireView
new_wire site link asking = record {
  site = wire_view (marked_site asking (new_mark link) site) [] [] [] 0;
  lines = lines_view link [] 0 state.Whole;
  asking = asking;
  mark = new_mark link;
}

-- whether fewer lines were read than parcels were put: each line that was read was passed over, or its parcel was taken
abbrev pub fewer_read : ℕ → Option (List (ℕ × Parcel)) → Option (List (ℕ × Parcel)) → Bool
fewer_read passed (Some taken) (Some puts) = nat_lt (passed + length taken) (length puts)
fewer_read passed taken puts = false

abbrev pub is_owed : WireView → Bool
is_owed wire = fewer_read wire.lines.passed wire.site.link.taken wire.site.link.puts
