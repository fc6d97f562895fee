-- Scaffold: What becomes of a question to the clock.
use Rattle.std.specs.Prelude.{ℕ, ◌<◌, ◌≤◌}
use Rattle.cacao_site.specs.SiteCalls.{Reaches}
use Rattle.cacao_site.specs.View.{SiteView}
use Rattle.run_records.specs.Ranges.{last_moment}

-- the present moment is this one, which is the one that was asked for, or later
pub record IsReached (moment now : ℕ) (old new : SiteView) : Type 0 where
  pub reaches : Reaches moment now old new
  pub in_time : now ≤ last_moment
  pub far : moment ≤ now

-- the present moment is before the one that was asked for
pub record FallsShort (moment : ℕ) (old new : SiteView) : Type 0 where
  pub now : ℕ
  pub reaches : Reaches moment now old new
  pub in_time : now ≤ last_moment
  pub short : now < moment

-- the present moment is past the last one
pub record IsTooLate (moment : ℕ) (old new : SiteView) : Type 0 where
  pub now : ℕ
  pub reaches : Reaches moment now old new
  pub late : last_moment < now
