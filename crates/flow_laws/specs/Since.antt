-- Promise: Agreement at each beat of a session so far.
use Rattle.std.specs.Prelude.{ℕ, ◌≤◌, IsTrue}
use Rattle.cacao_site.specs.View.{SiteView}
use Rattle.flow_laws.specs.Images.{puts_of}
use Rattle.flow_laws.specs.Good.{IsGood}
use Rattle.flow_laws.specs.Held.{Speech, IsHeldAs}
use Rattle.flow_laws.specs.Fresh.{IsFresh}

-- at one beat of a session: `start` is the site when it began, so what the session put are the puts past those that this has
pub record Agreed (speech : Speech) (start site : SiteView) (beat : ℕ) : Type 0 where
  pub good : IsGood site beat
  pub held : IsHeldAs speech site (puts_of start) beat
  pub fresh : (run : ℕ) → IsTrue (speech.is_own run) → IsFresh start run start.disk.beat → IsFresh site run beat

-- at each beat from the start on, where the disk is told
pub record AgreedSince (speech : Speech) (start site : SiteView) : Type 0 where
  pub told : IsTrue site.disk.told
  pub later : start.disk.beat ≤ site.disk.beat
  pub each : (beat : ℕ) → start.disk.beat ≤ beat → beat ≤ site.disk.beat → Agreed speech start site beat
