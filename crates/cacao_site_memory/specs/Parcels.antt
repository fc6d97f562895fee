-- Promise: The parcels of a link in memory, which are named by their places among the puts.
use Rattle.std.specs.Prelude.{ℕ, ◌<◌, ◌≤◌, Bool, false, nat_le, nat_lt, List, All, [], length, map, slice_index_or}
use Rattle.cacao_site.specs.declared.parcel.Parcel.{Parcel}

abbrev pub no_put : ℕ × Parcel
no_put = (0, record { agent = 0; back = false; run = 0; issue = 0; bytes = [] })

-- the parcel put at this place
abbrev pub parcel_at : List (ℕ × Parcel) → ℕ → Parcel
parcel_at puts place = (slice_index_or puts place no_put).1

abbrev pub parcels_at : List (ℕ × Parcel) → List ℕ → List Parcel
parcels_at puts places = map (parcel_at puts) places

-- a beat or a moment, with the parcel put at this place
abbrev pub marked_at : List (ℕ × Parcel) → ℕ × ℕ → ℕ × Parcel
marked_at puts mark = (mark.0, parcel_at puts mark.1)

abbrev pub all_marked_at : List (ℕ × Parcel) → List (ℕ × ℕ) → List (ℕ × Parcel)
all_marked_at puts marks = map (marked_at puts) marks

-- held up to a moment that has come
abbrev pub is_due : {T : Type 0} → ℕ → ℕ × T → Bool
is_due now mark = nat_le mark.0 now

-- held up to a later moment
abbrev pub is_later : {T : Type 0} → ℕ → ℕ × T → Bool
is_later now mark = nat_lt now mark.0

-- taken no earlier than it was put
abbrev pub IsAfterPut : List (ℕ × Parcel) → ℕ × ℕ → Type 0
IsAfterPut puts mark = (mark.1 < length puts) × ((slice_index_or puts mark.1 no_put).0 ≤ mark.0)

-- each parcel is named by its place among the puts, and none was taken before it was put
pub record AreNamed (puts : List (ℕ × Parcel)) (pending : List ℕ) (held taken : List (ℕ × ℕ)) : Type 0 where
  pub pending_put : All (λ place. place < length puts) pending
  pub held_put : All (λ mark. mark.1 < length puts) held
  pub taken_put : All (IsAfterPut puts) taken
