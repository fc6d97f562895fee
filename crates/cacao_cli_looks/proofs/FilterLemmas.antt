-- A filter that could not be opened.
use Rattle.std.proofs.Common.{◌≡◌, inl, inr, refl, ℕ}
use Rattle.std.specs.Prelude.{IsTrue}
use Rattle.cacao_site.specs.Counts.{Rose}
use Rattle.cacao_site.specs.DiskCalls.{IsDurable}
use Rattle.cacao_site.specs.View.{SiteView}
use Rattle.flow_laws.specs.Images.{IsAgent}
use Rattle.slpf_actuator.specs.Damage.{IsDamaged}
use Rattle.slpf_actuator.specs.declared.error.ActError.{ActError}
use Rattle.slpf_actuator.specs.declared.error.ActError.TheVariants.{Disk, Damaged, Full, Broken, Memory}
use Rattle.cacao_cli_looks.specs.Command.{open_end}
use Rattle.cacao_cli_looks.specs.Looking.{Looks}
use Rattle.cacao_cli_looks.specs.Openings.{Opens}
use Rattle.cacao_cli_ends.specs.Work.{Look, opens_filter}

pub not-opened : (agent : ℕ) (look : Look) (old new : SiteView) (error : ActError) → IsAgent agent → Opens agent old new
    → ((place : ℕ) → error ≡ Damaged place → IsTrue old.disk.told → IsDamaged (new.disk.reads agent) place)
    → ((place : ℕ) → error ≡ Damaged place → IsDurable agent new.disk)
    → (error ≡ Disk → Rose old.disk.faults new.disk.faults)
    → ((error ≡ Disk → ⊥) → new.disk.faults ≡ old.disk.faults)
    → (error ≡ Broken → ⊥) → ((needed : ℕ) → error ≡ Full needed → ⊥)
    → Looks (opens_filter agent look) old new (open_end agent error)
not-opened agent look old new Disk of_agent opens damaged durable failed steady broken full = inr (inr (inl (record { opens = opens; cause = failed refl; ends = refl })))
not-opened agent look old new (Damaged place) of_agent opens damaged durable failed steady broken full = inr (inl (record { opens = opens; durable = durable place refl; steady = steady (λ e. cc); of_agent = of_agent; place = place; is_damaged = damaged place refl; ends = refl }))
not-opened agent look old new (Full needed) of_agent opens damaged durable failed steady broken full = absurd (full needed refl)
not-opened agent look old new Broken of_agent opens damaged durable failed steady broken full = absurd (broken refl)
not-opened agent look old new Memory of_agent opens damaged durable failed steady broken full = inr (inr (inr (record { opens = opens; steady = steady (λ e. cc); ends = refl })))
