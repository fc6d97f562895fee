-- Promise: The view of a site in memory.
use Rattle.std.specs.Prelude.{ℕ, List, [], Some}
use Rattle.cacao_site_memory.specs.Parcels.{parcels_at, all_marked_at}
use Rattle.cacao_site_log.specs.Replay.{Call, disk_view}
use Rattle.cacao_site.specs.View.{ClockView, CountsView, LinkView, SiteView}
use Rattle.cacao_site_memory.specs.declared.link.Link.{Link}

-- the parcels, and the lines said
abbrev pub link_view : Link → List (ℕ × List ℕ) → LinkView
link_view link lines = record {
  puts = Some link.puts.items;
  taken = Some (all_marked_at link.puts.items link.taken.items);
  empty_takes = Some link.empty_takes.items;
  pending = Some (parcels_at link.puts.items link.pending.items);
  said = Some lines;
}

-- no parcel and no line
abbrev pub no_link : LinkView
no_link = record { puts = Some []; taken = Some []; empty_takes = Some []; pending = Some []; said = Some [] }

-- contents, device calls, first beat, number of device calls, calls of the disk, bytes written, faults; the link; the clock; the counts
abbrev pub memory_view : List (List ℕ) → List Call → ℕ → ℕ → ℕ → ℕ → ℕ → LinkView → ClockView → CountsView → SiteView
memory_view starts log start made calls written faults link clock counts = record {
  disk = disk_view starts log start made calls written faults;
  link = link;
  clock = clock;
  counts = counts;
}
