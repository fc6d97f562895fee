-- Promise: What contracts see of a `SiteCounts`.
use Rattle.cacao_site.specs.View.{CountsView}
use Rattle.cacao_site.specs.declared.site_counts.SiteCounts.{SiteCounts}

abbrev pub counts_view : SiteCounts → CountsView
counts_view counts = record { says = counts.says; unsaid = counts.unsaid; mishaps = counts.mishaps }

-- nothing counted yet
abbrev pub no_counts : CountsView
no_counts = record { says = 0; unsaid = 0; mishaps = 0 }
