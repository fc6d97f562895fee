-- Scaffold: What contracts see of the site of a rehearsal.
use Rattle.cacao_site_memory.specs.declared.site.MemorySite.{MemorySite}
use Rattle.cacao_cli_rehearsal.specs.declared.site.RehearsalSite.{RehearsalSite}

-- the site in memory that it is
abbrev pub inside : RehearsalSite → MemorySite
inside own = own.site
