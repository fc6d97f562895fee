-- Promise: What contracts see of a `WireSite`.
use Rattle.cacao_site.specs.View.{DiskView, SiteView}
use Rattle.oc2_wire_link.specs.Links.{LinkView}
use Rattle.oc2_wire_site.specs.Entries.{empty_by, puts_by, taken_by}
use Rattle.oc2_wire_site.specs.LinesOf.{lines_of, mark_of}
use Rattle.oc2_wire_site.specs.Marks.{marked_disk, marked_site}
use Rattle.oc2_wire_site.specs.Wires.{WireView, wire_view}
use Rattle.oc2_wire_site.specs.declared.wire_site.WireSite.{WireSite}

-- the site beneath
abbrev pub site_of : {S K : Type 0} {s l : _} → WireSite S K s l → S
site_of wire = wire.site

abbrev pub link_of : {S K : Type 0} {s l : _} → WireSite S K s l → K
link_of wire = wire.lines.link

-- by what contracts see of the site beneath and of the link
abbrev pub wire_of : {S K : Type 0} {s l : _} → (S → SiteView) → (K → LinkView) → WireSite S K s l → WireView
wire_of site_view link_view wire = record {
  site = wire_view (marked_site wire.asking (mark_of link_view wire.mark) (site_view wire.site)) (puts_by site_view wire.puts.items) (taken_by site_view wire.taken.items) (empty_by site_view wire.empty.items) wire.mishaps;
  lines = lines_of link_view wire.lines;
  asking = wire.asking;
  mark = mark_of link_view wire.mark;
}

-- its disk, which is that of the site beneath, marked
abbrev pub disk_of : {S K : Type 0} {s l : _} → (S → SiteView) → (K → LinkView) → WireSite S K s l → DiskView
disk_of site_view link_view wire = marked_disk wire.asking (mark_of link_view wire.mark) (site_view wire.site).disk
