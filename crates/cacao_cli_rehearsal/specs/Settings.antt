-- Promise: What a session of a rehearsal is given.
use Rattle.std.specs.Prelude.{◌≡◌, ℕ, List, [], ◌∷◌, ⊤}
use Rattle.cacao_site.specs.Clock.{clock_at}
use Rattle.cacao_site.specs.SiteCounts.{no_counts}
use Rattle.cacao_site_memory.specs.MemorySite.{plan_of, view_of}
use Rattle.cacao_site_memory.specs.MemoryView.{memory_view, no_link}
use Rattle.cacao_site_memory.specs.declared.site.MemorySite.{MemorySite}
use Rattle.cacao_check.specs.Fits.{FitsKind}
use Rattle.flow_core_rules.specs.Accepted.{Accepted}
use Rattle.flow_core_rules.specs.Givens.{Given}
use Rattle.flow_core.specs.SetupReading.{BreaksRule}
use Rattle.flow_core.specs.Setups.{AreAccepted}
use Rattle.cacao_cli_rehearsal.specs.Plans.{site_plan}
use Rattle.cacao_cli_rehearsal.specs.declared.error.RehearsalError.{RehearsalError}
use Rattle.cacao_cli_rehearsal.specs.declared.error.RehearsalError.TheVariants as error

-- ---- the site

-- blank files, no parcel, no line
pub record IsNewSite (site : MemorySite) : Type 0 where
  pub plan : plan_of site ≡ site_plan
  pub blank : view_of site ≡ memory_view [] [] 0 0 0 0 0 no_link (clock_at 0) no_counts

-- ---- the text

-- the text of the playbook alone is accepted, and this is what it gives a run
abbrev pub IsAccepted : List ℕ → Given → Type 0
IsAccepted text given = Accepted AreAccepted FitsKind (text ∷ []) [] given

-- why the text gives no run
abbrev pub RefusesText : List ℕ → RehearsalError → Type 0
RefusesText text (error.Broken told) = BreaksRule (text ∷ []) [] told
RefusesText text error.Memory = ⊤
RefusesText text other = ⊥
