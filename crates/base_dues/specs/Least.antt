-- Scaffold: Moments kept by number, and the least moment of each block of 32.
use Rattle.std.specs.Prelude.{◌≡◌, ℕ, ◌<◌, ◌≤◌, ◌+◌, ◌*◌, min, true, false, List, length, slice_index_or, count_by, Option, Some, None, is_some}
use Rattle.base_dues.specs.Pairs.{is_by}

-- the lesser of two moments, where there are any
abbrev pub sooner : Option ℕ → Option ℕ → Option ℕ
sooner None other = other
sooner (Some one) None = Some one
sooner (Some one) (Some other) = Some (min one other)

-- the least moment of the numbers from one on and below another: it is at most a moment exactly where one of theirs is
pub record IsLeast (moments : List (Option ℕ)) (from to : ℕ) (least : Option ℕ) : Type 0 where
  pub bound : (moment k : ℕ) → from ≤ k → k < to → is_by moment (slice_index_or moments k None) ≡ true
      → is_by moment least ≡ true
  pub reached : (moment : ℕ) → is_by moment least ≡ true
      → ((k : ℕ) → from ≤ k → k < to → is_by moment (slice_index_or moments k None) ≡ false) → ⊥

-- the least moments of the blocks, and the blocks hold all numbers
pub record AreLeast (moments least : List (Option ℕ)) : Type 0 where
  pub covers : length moments ≤ 32 * length least
  pub blocks : (b : ℕ) → b < length least → IsLeast moments (32 * b) (32 * b + 32) (slice_index_or least b None)

-- the least moments of blocks, of blocks of these, and of blocks of those; how many numbers have a moment; and that numbers are of 32 bits
pub record IsKept (moments low middle high : List (Option ℕ)) (count : ℕ) : Type 0 where
  pub low_of : AreLeast moments low
  pub middle_of : AreLeast low middle
  pub high_of : AreLeast middle high
  pub counted : count ≡ count_by is_some moments
  pub small : length moments < 4294967296
  pub few_low : length low ≤ 4294967296
  pub few_middle : length middle ≤ 4294967296
  pub few_high : length high ≤ 4294967296

-- the first number from one on and below another whose moment is at most this one
abbrev pub IsFirstWithin : List (Option ℕ) → ℕ → ℕ → ℕ → Option ℕ → Type 0
IsFirstWithin moments from to moment None =
    (k : ℕ) → from ≤ k → k < to → is_by moment (slice_index_or moments k None) ≡ false
IsFirstWithin moments from to moment (Some n) =
    (from ≤ n) × (n < to) × (is_by moment (slice_index_or moments n None) ≡ true)
    × ((k : ℕ) → from ≤ k → k < n → is_by moment (slice_index_or moments k None) ≡ false)
