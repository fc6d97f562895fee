-- Promise: What the run at a place sees of a rack.
use Rattle.std.specs.Prelude.{ℕ, ◌+◌, ◌==◌, ◌∷◌, if◌then◌else◌}
use Rattle.cacao_site.specs.View.{DiskView, SiteView}

-- the file of the rack that holds the journal of the run at this place
abbrev pub file_of : ℕ → ℕ
file_of place = if place == 0 then 0 else 16 + place

-- which file of the rack a file of the view is: its file 0 is the journal at this place, and that journal's own number is the
-- rack's file 0; all others are the same
abbrev pub rack_file : ℕ → ℕ → ℕ
rack_file place file = if file == 0 then file_of place else if file == file_of place then 0 else file

abbrev pub disk_seen : ℕ → ℕ → DiskView → DiskView
disk_seen place name disk = record {
  told = disk.told;
  reads = λ file. disk.reads (rack_file place file);
  left = λ file beat image. disk.left (rack_file place file) beat image;
  beat = disk.beat;
  calls = disk.calls;
  written = disk.written;
  faults = disk.faults;
  label = place ∷ name ∷ disk.label;
}

-- a rack as the run at this place sees it, lent under this name
abbrev pub seen_from : ℕ → ℕ → SiteView → SiteView
seen_from place name site = record { disk = disk_seen place name site.disk; link = site.link; clock = site.clock; counts = site.counts }
