-- Scaffold: What a fleet uses up, so that it ends.
use Rattle.std.specs.Prelude.{ℕ, ◌+◌, ◌*◌}
use Rattle.cacao_site.specs.View.{SiteView}
use Rattle.flow_world_steps.specs.Spent.{all_acts, most_spent}
use Rattle.flow_world_steps.specs.Sums.{total}
use Rattle.flow_fleet_steps.specs.Spent.{spent_by}
use Rattle.flow_fleet.specs.declared.fleet_state.Fleet.{Fleet}

-- records and puts of all runs, acts, parcels that changed nothing, and the present moment: each turn adds to this
abbrev pub used : SiteView → Fleet → ℕ
used site s = total spent_by s.engines.items + all_acts s.filters + s.ignored + site.clock.now

-- and it is bounded
abbrev pub most_used : ℕ
most_used = 20 * most_spent
