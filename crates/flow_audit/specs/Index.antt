-- Scaffold: Where the act of a run and an issue stands.
use Rattle.std.specs.Prelude.{◌≡◌, ℕ, List, Option, Some, None, All, slice_get}
use Rattle.run_records.specs.declared.act.Act.{Act}
use Rattle.slpf_rules_acts.specs.Index.{Places, place_in}

-- none of the acts has this run and issue, or the one at that place has
abbrev pub Tells : List Act → ℕ → ℕ → Option ℕ → Type 0
Tells acts run issue None = All (λ (act : Act). act.run ≡ run → act.issue ≡ issue → ⊥) acts
Tells acts run issue (Some k) = (act : Act) × (slice_get acts k ≡ Some act) × (act.run ≡ run) × (act.issue ≡ issue)

-- the places are those of the acts
abbrev pub ArePlacesOf : List Act → Places → Type 0
ArePlacesOf acts places = (run issue : ℕ) → Tells acts run issue (place_in places run issue)
