-- A session beside no filter: nothing acts.
use Rattle.std.proofs.Common.{◌≡◌, [], ◌∙◌}
use Rattle.flow_world_steps.specs.Worlds.{World}

-- none stands later, and no act was appended or is unsure that was not
pub record ActsNot (old new : World) : Type 0 where
  pub filters : new.filters ≡ []
  pub acted : new.notes.acted ≡ old.notes.acted
  pub unsure : new.notes.unsure_act ≡ old.notes.unsure_act

same : (old new : World) → old.filters ≡ [] → new.filters ≡ old.filters → new.notes.acted ≡ old.notes.acted → new.notes.unsure_act ≡ old.notes.unsure_act → ActsNot old new
same old new none filters acted unsure = record { filters = filters ∙ none; acted = acted; unsure = unsure }
