-- Promise: A wire is known again behind any calls on it: the label of its disk holds its mark, and no call changes a label.
use Rattle.std.specs.Prelude.{ℕ, Bool, List, ◌∷◌, ◌++◌, length, Option, Some, None, if◌then◌else◌}
use Rattle.cacao_site.specs.View.{DiskView, SiteView}
use Rattle.oc2_wire_site.specs.LineLinks.{LinesView}

-- what a wire was at a moment: when it was made, or was marked last
pub record WireMark : Type 0 where
  pub lines : LinesView
  pub taken : ℕ  -- how many parcels had been taken
  pub puts : ℕ  -- how many had been put

-- a list that is told or not, in front of others
abbrev pub coded : Option (List ℕ) → List ℕ → List ℕ
coded (Some bytes) behind = 1 ∷ length bytes ∷ (bytes ++ behind)
coded None behind = 0 ∷ behind

-- the label of a wire's disk, by that of the disk beneath
abbrev pub mark_label : Bool → WireMark → List ℕ → List ℕ
mark_label asking mark label = (if asking then 1 else 0) ∷ mark.lines.passed ∷ mark.taken ∷ mark.puts
    ∷ coded mark.lines.link.received (coded mark.lines.link.to_come (coded mark.lines.link.sent (coded (Some mark.lines.unread) label)))

abbrev pub marked_disk : Bool → WireMark → DiskView → DiskView
marked_disk asking mark disk = record disk { label = mark_label asking mark disk.label }

abbrev pub marked_site : Bool → WireMark → SiteView → SiteView
marked_site asking mark site = record site { disk = marked_disk asking mark site.disk }
