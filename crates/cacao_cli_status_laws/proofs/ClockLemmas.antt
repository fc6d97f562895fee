-- Where a call says that its run ended, paused, took too many parcels or asks, the clock came to what it was asked for.
use Rattle.std.proofs.Common.{refl, subst, ℕ, ◌≤◌, Option, Some, None}
use Rattle.cacao_site.specs.View.{SiteView}
use Rattle.cacao_cli_ends.specs.Asked.{Asked, canonises, checks, runs, shows, lists_rules, decides, shadows, rehearses, audits}
use Rattle.cacao_cli_status_laws.specs.Ended.{Ended}
use Rattle.cacao_cli_ends.specs.Comes.{IsOneOf, reached_statuses}
use Rattle.cacao_cli_ends.specs.Files.{ShelfCall}
use Rattle.cacao_cli_status_laws.specs.Clocks.{StandsReached}
use Rattle.cacao_cli_status_laws.proofs.ShortLemmas.{ended-settled, unsettled}
use Rattle.cacao_cli_status_laws.proofs.StandRuns.{came-reached}
use Rattle.cacao_cli_ends.proofs.StatusLists.{apart-lists}

pub reached-ended : (asked : Option Asked) (shelf : ShelfCall) (old new : SiteView) (answer : ℕ) → Ended asked shelf old new answer → IsOneOf answer reached_statuses → StandsReached asked new
reached-ended None shelf old new answer h one = tt
reached-ended (Some (canonises book)) shelf old new answer h one = tt
reached-ended (Some (checks books)) shelf old new answer h one = tt
reached-ended (Some (runs wanted)) shelf old new answer h one = ended-settled wanted old new answer (new.clock.asked ≤ new.clock.now)
    (λ other. apart-lists answer reached_statuses unsettled refl one other)
    (λ start t. came-reached start t.last old new t.came (subst (λ (k : ℕ). IsOneOf k reached_statuses) t.is one)) shelf h
reached-ended (Some shows) shelf old new answer h one = tt
reached-ended (Some (lists_rules agent)) shelf old new answer h one = tt
reached-ended (Some (decides agent packets)) shelf old new answer h one = tt
reached-ended (Some (shadows agent)) shelf old new answer h one = tt
reached-ended (Some (rehearses positions)) shelf old new answer h one = tt
reached-ended (Some (audits engine filters)) shelf old new answer h one = tt
