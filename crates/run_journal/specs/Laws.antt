-- Promise: What the layout of a journal settles.
use Rattle.std.specs.Prelude.{◌≡◌, ◌⊎◌, ◌<◌, ℕ, List, All}
use Rattle.run_journal.specs.Layout.{Stands, HasLayout, IsDamagedAt}

-- an image stands for at most one list
abbrev pub OneList : Type 0
OneList = (image : List ℕ) (xs ys : List (List ℕ)) → Stands image xs → Stands image ys → xs ≡ ys

-- an image of the layout stands for its list
abbrev pub LayoutStands : Type 0
LayoutStands = (image : List ℕ) (items : List (List ℕ)) → HasLayout items image → Stands image items

-- a damaged image stands for no list
abbrev pub NoListWhereDamaged : Type 0
NoListWhereDamaged = (image : List ℕ) (place : ℕ) (items : List (List ℕ)) → IsDamagedAt image place → Stands image items → ⊥

-- it is damaged at one place
abbrev pub OnePlace : Type 0
OnePlace = (image : List ℕ) (p q : ℕ) → IsDamagedAt image p → IsDamagedAt image q → p ≡ q

-- each image, a list of bytes, stands for a list or is damaged at a place
abbrev pub StandsOrDamaged : Type 0
StandsOrDamaged =
    (image : List ℕ) → All (λ b. b < 256) image
    → ((items : List (List ℕ)) × Stands image items) ⊎ ((place : ℕ) × IsDamagedAt image place)
