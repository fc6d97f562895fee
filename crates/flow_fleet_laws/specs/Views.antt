-- Promise: Each run's view of a rack of files.
use Rattle.std.specs.Prelude.{◌≡◌, ◌≢◌, ℕ, ◌≤◌}
use Rattle.cacao_site.specs.RunViews.{file_of, rack_file}
use Rattle.cacao_site.specs.View.{DiskView, SiteView}
use Rattle.flow_laws.specs.Images.{IsAgent}

-- The rack with the file of its number in place of each file of the view, as a loan of it shows, but for the loan's label.
abbrev pub disk_seen : ℕ → DiskView → DiskView
disk_seen place disk = record disk {
  reads = λ file. disk.reads (rack_file place file);
  left = λ file beat image. disk.left (rack_file place file) beat image;
}

-- a rack as the run at this place sees it
abbrev pub seen_from : ℕ → SiteView → SiteView
seen_from place site = record site { disk = disk_seen place site.disk }

-- ---- laws

-- each file of the rack is one file of the view
abbrev pub ViewsAreWhole : Type 0
ViewsAreWhole = (place file : ℕ) → rack_file place (rack_file place file) ≡ file

-- each run sees the same filters
abbrev pub ViewsShareFilters : Type 0
ViewsShareFilters = (place agent : ℕ) → IsAgent agent → rack_file place agent ≡ agent

-- and none sees the journal of another among the files of its session
abbrev pub ViewsHideOthers : Type 0
ViewsHideOthers = (place other file : ℕ) → place ≤ 15 → other ≤ 15 → other ≢ place → file ≤ 16 → rack_file place file ≢ file_of other

-- the run at place 0 sees the rack as it is
abbrev pub ViewsFromTheFirst : Type 0
ViewsFromTheFirst = (site : SiteView) → seen_from 0 site ≡ site
