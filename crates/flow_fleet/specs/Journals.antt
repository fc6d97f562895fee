-- Scaffold: What becomes of the journal of the run at the next place while a fleet's files are opened.
use Rattle.std.specs.Prelude.{◌≡◌, ◌++◌, ◌∷◌, ℕ, List, []}
use Rattle.cacao_site.specs.View.{SiteView}
use Rattle.flow_core_rules.specs.Givens.{Given}
use Rattle.flow_engine.specs.EngineView.{EngineView}
use Rattle.flow_world_parts.specs.Openings.{IsJournalOpen, RefusesJournal}
use Rattle.flow_world_parts.specs.declared.error.WorldError.{WorldError}
use Rattle.flow_fleet_laws.specs.Views.{seen_from}
use Rattle.flow_fleet_steps.specs.Errors.{fleet_refusal}
use Rattle.flow_fleet_steps.specs.declared.error.FleetError.{FleetError}

-- it is open, as its run sees the rack, behind the others
pub record OpensNextJournal (place run : ℕ) (given : Given) (old new : SiteView) (before after : List EngineView) : Type 0 where
  pub v : EngineView
  pub opens : IsJournalOpen given run (seen_from place old) (seen_from place new) v
  pub more : after ≡ before ++ v ∷ []

-- or it could not be opened
pub record RefusesNextJournal (error : FleetError) (place run : ℕ) (given : Given) (old new : SiteView) : Type 0 where
  pub why : WorldError
  pub refuses : RefusesJournal why given run (seen_from place old) (seen_from place new)
  pub is : error ≡ fleet_refusal place run why
