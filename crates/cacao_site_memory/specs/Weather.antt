-- Promise: What becomes of a parcel put.
use Rattle.std.specs.Prelude.{ℕ, ◌+◌, ◌*◌, Bool, true, false, List, [], ◌∷◌, slice_index_or}
use Rattle.cacao_site_memory.specs.declared.plan.Weather.{Weather}
use Rattle.cacao_site_memory.specs.declared.plan.Weather.TheVariants.{Deliver, Lose, Twice, Hold}

-- the weather of the put of this number; past the list's end each parcel is delivered
abbrev pub weather_at : List Weather → ℕ → Weather
weather_at weather n = slice_index_or weather n Deliver

-- how many copies are pending at once
abbrev pub arrivals : Weather → ℕ
arrivals Deliver = 1
arrivals Lose = 0
arrivals Twice = 2
arrivals (Hold until) = 0

-- how many copies there are, pending at once or held back
abbrev pub copies : Weather → ℕ
copies Deliver = 1
copies Lose = 0
copies Twice = 2
copies (Hold until) = 1

-- how many copies are held back
abbrev pub holds : Weather → ℕ
holds Deliver = 0
holds Lose = 0
holds Twice = 0
holds (Hold until) = 1

-- what is held back, with the moment up to which it is
abbrev pub marks : {T : Type 0} → Weather → T → List (ℕ × T)
marks Deliver entry = []
marks Lose entry = []
marks Twice entry = []
marks (Hold until) entry = (until, entry) ∷ []

-- all but a delivery
abbrev pub is_mishap : Weather → Bool
is_mishap Deliver = false
is_mishap Lose = true
is_mishap Twice = true
is_mishap (Hold until) = true

-- the room that a put uses: the parcel's bytes and 64 more for each copy
abbrev pub room_of : Weather → ℕ → ℕ
room_of weather size = copies weather * (size + 64)
