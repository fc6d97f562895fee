-- Scaffold: When a device call of a site in memory fails.
use Rattle.std.specs.Prelude.{ℕ, ◌+◌, Bool, ◌||◌, nat_le, nat_lt}
use Rattle.std.specs.Bool.{nat_eq}
use Rattle.std.specs.List.{list_any}
use Rattle.cacao_site_memory.specs.declared.plan.SitePlan.{SitePlan}

-- whether the device call after `calls` others fails, where `used` bytes of the room are used and it brings `size` more
abbrev pub fails_by : SitePlan → ℕ → ℕ → ℕ → Bool
fails_by plan calls used size =
    nat_le plan.calls calls || (nat_lt plan.room (used + size) || list_any (λ n. nat_eq n calls) plan.failing)
