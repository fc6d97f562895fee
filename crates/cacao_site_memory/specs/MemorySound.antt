-- Promise: What holds of each site in memory.
use Rattle.std.proofs.Common.{arith}
use Rattle.cacao_site.specs.Clock.{clock_view}
use Rattle.cacao_site.specs.SiteCounts.{counts_view}
use Rattle.cacao_site_memory.specs.MemorySite.{view_of}
use Rattle.cacao_site.specs.Sound.{IsSound}
use Rattle.cacao_site_memory.specs.SoundLemmas.{memory-sound}
use Rattle.cacao_site_memory.specs.declared.site.MemorySite.{MemorySite}

pub site-sound : (site : MemorySite) → IsSound (view_of site)
site-sound site =
    memory-sound site.starts site.log.calls site.first_beat site.calls site.disk_calls site.written site.faults site.link site.log.lines
    (clock_view site.clock) (counts_view site.counts)
    (omega (arith, site.logged, site.beats)) site.said_in_time site.puts_in_time site.taken_in_time site.named
