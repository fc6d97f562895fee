-- Scaffold: What a session uses up, so that it ends.
use Rattle.std.specs.Prelude.{ℕ, ◌+◌, ◌*◌, length}
use Rattle.cacao_site.specs.View.{SiteView}
use Rattle.flow_world_steps.specs.Spent.{all_acts, all_counts}
use Rattle.flow_world_parts.specs.declared.turns.Session.{Session}

-- records, puts of open issues, acts, parcels that changed nothing, and the present moment: each turn adds to this
abbrev pub used : SiteView → Session → ℕ
used site s = 10 * length s.engine.history.records + all_counts s.engine.puts + all_acts s.filters + s.ignored + site.clock.now
