-- Scaffold: What a rehearsal on a new site may come to.
use Rattle.std.specs.Prelude.{⊤}
use Rattle.cacao_site_memory.specs.declared.site.MemorySite.{MemorySite}
use Rattle.flow_world.specs.Close.{Close}
use Rattle.flow_world.specs.Close.TheVariants as close
use Rattle.flow_world.specs.WorldError.{WorldError}
use Rattle.flow_world.specs.WorldError.TheVariants as refusal
use Rattle.cacao_cli_rehearsal.specs.Plans.{GoesByPlan}
use Rattle.cacao_cli_rehearsal.specs.declared.error.RehearsalError.{RehearsalError}
use Rattle.cacao_cli_rehearsal.specs.declared.error.RehearsalError.TheVariants as error

-- A refusal that a session on a new site may come to: nothing of it fails, and its files are blank, so that none is damaged, of
-- another run, or of a filter that acted for this one.
abbrev pub MayRefuse : WorldError → Type 0
MayRefuse (refusal.Limit what) = ⊤
MayRefuse refusal.Memory = ⊤
MayRefuse other = ⊥

-- A close that it may come to: its files have no room for as many records as it may append, its clock reaches each moment, the
-- playbook has no command for operators, and fewer parcels are taken than would close it.
abbrev pub MayClose : Close → Type 0
MayClose (close.Ended well) = ⊤
MayClose other = ⊥

abbrev pub MayComeOfNew : RehearsalError → Type 0
MayComeOfNew (error.Closed how) = MayClose how
MayComeOfNew (error.Refused why) = MayRefuse why
MayComeOfNew other = ⊤

-- where a session was held, its site went by its plan
abbrev pub EndsByPlan : MemorySite → RehearsalError → Type 0
EndsByPlan site (error.Closed how) = GoesByPlan site
EndsByPlan site (error.Refused why) = GoesByPlan site
EndsByPlan site other = ⊤
