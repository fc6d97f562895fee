-- Promise: Where a call may begin, so that all agrees at each of its beats.
use Rattle.std.specs.Prelude.{IsTrue, Option, Some, None}
use Rattle.cacao_site.specs.View.{SiteView}
use Rattle.flow_laws.specs.Held.{plain}
use Rattle.flow_laws.specs.Sessions.{IsStart as IsStartAs}
use Rattle.flow_world.specs.Sessions.{IsStart}
use Rattle.cacao_cli_ends.specs.Asked.{Asked, canonises, checks, runs, shows, lists_rules, decides, shadows, rehearses, audits}

-- the site tells its files, and all that a crash may leave now is good and held
pub record Agrees (site : SiteView) : Type 0 where
  pub told : IsTrue site.disk.told
  pub start : IsStartAs plain site

-- for `run` its number is fresh besides
abbrev pub MayBegin : Option Asked → SiteView → Type 0
MayBegin None site = Agrees site
MayBegin (Some (canonises book)) site = Agrees site
MayBegin (Some (checks books)) site = Agrees site
MayBegin (Some (runs wanted)) site = IsStart site wanted.run
MayBegin (Some shows) site = Agrees site
MayBegin (Some (lists_rules agent)) site = Agrees site
MayBegin (Some (decides agent packets)) site = Agrees site
MayBegin (Some (shadows agent)) site = Agrees site
MayBegin (Some (rehearses positions)) site = Agrees site
MayBegin (Some (audits engine filters)) site = Agrees site
