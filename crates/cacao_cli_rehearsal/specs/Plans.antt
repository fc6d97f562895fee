-- Promise: The plan of the site of a rehearsal, and what holds of such a site until it is used up.
use Rattle.std.specs.Prelude.{◌≡◌, ℕ, ◌<◌, ◌≤◌, Bool, false, [], length, IsSomeAnd}
use Rattle.cacao_site.specs.View.{SiteView}
use Rattle.cacao_site_memory.specs.MemorySite.{plan_of, view_of}
use Rattle.cacao_site_memory.specs.declared.site.MemorySite.{MemorySite}
use Rattle.cacao_site_memory.specs.declared.plan.SitePlan.{SitePlan}

-- much room, no device call that fails, no mishap, and a clock that goes on by itself
abbrev pub site_plan : SitePlan
site_plan = record { room = 67108864; calls = 131072; start = 0; stop_clock = 9000000000000000; failing = []; weather = [] }

-- so many takes use the site up
abbrev pub most_takes : ℕ
most_takes = 1000000

-- The site is not used up: no call of its disk failed, each line was said, no parcel met with a mishap, and fewer parcels were
-- taken than may be. Its clock reached each moment that it was asked for, up to the last one.
pub record GoesByPlan (site : MemorySite) : Type 0 where
  pub plan_is : plan_of site ≡ site_plan
  pub steady : (view_of site).disk.faults ≡ 0
  pub heard : (view_of site).counts.unsaid ≡ 0
  pub fair : (view_of site).counts.mishaps ≡ 0
  pub few : IsSomeAnd (view_of site).link.taken (λ taken. length taken < most_takes)
  pub in_time : (view_of site).clock.furthest ≤ site_plan.stop_clock → (view_of site).clock.shorts ≡ 0
  pub reached : (view_of site).clock.asked ≤ site_plan.stop_clock → (view_of site).clock.asked ≤ (view_of site).clock.now

-- The same of a site with this plan, by whether a call of it has failed, and by its takes, counted up to the most.
pub record GoesOn (plan : SitePlan) (has_failed : Bool) (takes : ℕ) (site : SiteView) : Type 0 where
  pub plan_is : plan ≡ site_plan
  pub steady : has_failed ≡ false → site.disk.faults ≡ 0
  pub heard : has_failed ≡ false → site.counts.unsaid ≡ 0
  pub counted : takes ≤ most_takes
  pub few : takes < most_takes → IsSomeAnd site.link.taken (λ taken. length taken ≤ takes)
  pub in_time : site.clock.furthest ≤ site_plan.stop_clock → site.clock.shorts ≡ 0
  pub reached : site.clock.asked ≤ site_plan.stop_clock → site.clock.asked ≤ site.clock.now
