-- Promise: Where a file holds no acts of a filter.
use Rattle.std.specs.Prelude.{◌≡◌, ◌⊎◌, ℕ, List, ◌∷◌, ◌++◌, length, Some}
use Rattle.run_journal.specs.Layout.{IsDamagedAt, Stands, front}
use Rattle.run_records.specs.declared.act.Act.{Act}
use Rattle.run_records.specs.Reading.{act_of}
use Rattle.slpf_actuator_acts.specs.ActLists.{IsHistory, MayFollow, entries_of}

-- the entry is no act, or an act whose run and issue one of these has, or one whose reply is not the table's
abbrev pub IsBad : List Act → List ℕ → Type 0
IsBad acts entry = (act : Act) → act_of entry ≡ Some act → MayFollow acts act → ⊥

-- the first entry that can't follow the acts before it, and the place of its gate
pub record BreaksIn (items : List (List ℕ)) (place : ℕ) : Type 0 where
  pub acts : List Act
  pub entry : List ℕ
  pub rest : List (List ℕ)
  pub is : items ≡ entries_of acts ++ entry ∷ rest
  pub history : IsHistory acts
  pub bad : IsBad acts entry
  pub at : place ≡ length (front (entries_of acts))

-- an image that stands for no list, or for one with an entry that can't follow
abbrev pub IsDamaged : List ℕ → ℕ → Type 0
IsDamaged image place = IsDamagedAt image place ⊎ ((items : List (List ℕ)) × Stands image items × BreaksIn items place)
