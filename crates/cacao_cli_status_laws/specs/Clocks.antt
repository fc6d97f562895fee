-- Promise: How the clock stands where a command waits, and where it does not.
use Rattle.std.specs.Prelude.{◌<◌, ◌≤◌, Option, Some, None, ⊤}
use Rattle.cacao_site.specs.View.{SiteView}
use Rattle.cacao_cli_ends.specs.Asked.{Asked, canonises, checks, runs, shows, lists_rules, decides, shadows, rehearses, audits}

-- The clock stands before the moment that it was asked for last. No other command waits: the clock of a rehearsal reaches each
-- moment.
abbrev pub StandsShort : Option Asked → SiteView → Type 0
StandsShort None new = ⊥
StandsShort (Some (canonises book)) new = ⊥
StandsShort (Some (checks books)) new = ⊥
StandsShort (Some (runs wanted)) new = new.clock.now < new.clock.asked
StandsShort (Some shows) new = ⊥
StandsShort (Some (lists_rules agent)) new = ⊥
StandsShort (Some (decides agent packets)) new = ⊥
StandsShort (Some (shadows agent)) new = ⊥
StandsShort (Some (rehearses positions)) new = ⊥
StandsShort (Some (audits engine filters)) new = ⊥

-- The clock came to the moment that it was asked for last. (No other command asks this clock.)
abbrev pub StandsReached : Option Asked → SiteView → Type 0
StandsReached None new = ⊤
StandsReached (Some (canonises book)) new = ⊤
StandsReached (Some (checks books)) new = ⊤
StandsReached (Some (runs wanted)) new = new.clock.asked ≤ new.clock.now
StandsReached (Some shows) new = ⊤
StandsReached (Some (lists_rules agent)) new = ⊤
StandsReached (Some (decides agent packets)) new = ⊤
StandsReached (Some (shadows agent)) new = ⊤
StandsReached (Some (rehearses positions)) new = ⊤
StandsReached (Some (audits engine filters)) new = ⊤
