-- What a filter's refusal leaves of the notes.
use Rattle.std.proofs.Common.{◌≡◌, inl, inr, ℕ, sym, subst, ap}
use Rattle.std.specs.Prelude.{Option}
use Rattle.cacao_site.specs.declared.parcel.Parcel.{Parcel}
use Rattle.run_records.specs.declared.act.Act.{Act}
use Rattle.slpf_actuator.specs.ActuatorView.{ActuatorView}
use Rattle.slpf_actuator.specs.declared.error.ActError.{ActError}
use Rattle.slpf_actuator.specs.declared.error.ActError.TheVariants as act_error
use Rattle.flow_world_steps.specs.Steps.{DoesNothing, MayHaveActed, Unsures}
use Rattle.flow_world_steps.specs.Worlds.{Notes, World}

-- at most the unsure act is another
abbrev OnlyUnsure : Notes → Notes → Type 0
OnlyUnsure old new = new ≡ record old { unsure_act = new.unsure_act }

nothing_done : (old new : World) → DoesNothing old new → OnlyUnsure old.notes new.notes
nothing_done old new is =
    subst (λ (o : Option (ℕ × Act)). new.notes ≡ record old.notes { unsure_act = o }) (sym (ap (λ (n : Notes). n.unsure_act) is.notes)) is.notes

may_stand : (parcel : Parcel) (v : ActuatorView) (old new : World) → MayHaveActed parcel v old new → OnlyUnsure old.notes new.notes
may_stand parcel v old new is =
    subst (λ (o : Option (ℕ × Act)). new.notes ≡ record old.notes { unsure_act = o }) (sym (ap (λ (n : Notes). n.unsure_act) is.notes)) is.notes

pub fails_notes : (error : ActError) (parcel : Parcel) (v : ActuatorView) (old new : World) → Unsures error parcel v old new → new.notes ≡ record old.notes { unsure_act = new.notes.unsure_act }
fails_notes act_error.Disk parcel v old new is = may_stand parcel v old new is
fails_notes act_error.Memory parcel v old new is = elim is [ inl none ↦ nothing_done old new none | inr may ↦ may_stand parcel v old new may ]
fails_notes (act_error.Damaged place) parcel v old new is = nothing_done old new is
fails_notes (act_error.Full length) parcel v old new is = nothing_done old new is
fails_notes act_error.Broken parcel v old new is = nothing_done old new is
