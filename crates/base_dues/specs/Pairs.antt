-- Promise: Pairs of a moment and a number, in rising order.
use Rattle.std.specs.Prelude.{◌≡◌, ℕ, suc, ◌<◌, ◌==◌, ◌||◌, ◌&&◌, not, nat_lt, nat_le, min, Bool, true, false, List, [], ◌∷◌, filter, Option, Some, None, ⊤, if◌then◌else◌}
use Rattle.std.specs.List.{AllByRecursion}
use Rattle.std.specs.Option.{option_map_or}

abbrev pub Due : Type 0
Due = ℕ × ℕ

-- by moment, and by number where the moments are the same
abbrev pub comes_first : Due → Due → Bool
comes_first a b = nat_lt a.0 b.0 || ((a.0 == b.0) && nat_lt a.1 b.1)

-- each pair comes before all later ones
abbrev pub Rises : List Due → Type 0
Rises [] = ⊤
Rises (d ∷ ds) = AllByRecursion (λ e. comes_first d e ≡ true) ds × Rises ds

-- the moment of a number
abbrev pub at : List Due → ℕ → Option ℕ
at [] n = None
at (d ∷ ds) n = if n == d.1 then Some d.0 else at ds n

-- each number stands in one pair at most
abbrev pub EachOnce : List Due → Type 0
EachOnce [] = ⊤
EachOnce (d ∷ ds) = (at ds d.1 ≡ None) × EachOnce ds

-- pairs in rising order, each number at most once
pub record IsQueue (pairs : List Due) : Type 0 where
  pub rises : Rises pairs
  pub once : EachOnce pairs

-- one more pair in its place
abbrev pub with_due : List Due → Due → List Due
with_due [] new = new ∷ []
with_due (d ∷ ds) new = if comes_first d new then d ∷ with_due ds new else new ∷ d ∷ ds

-- the pairs of other numbers
abbrev pub without : List Due → ℕ → List Due
without pairs n = filter (λ d. not (n == d.1)) pairs

-- the pairs in rising order
abbrev pub rising : List Due → List Due
rising [] = []
rising (d ∷ ds) = with_due (rising ds) d

-- the pairs of the elements that have a moment; the first element has this number
abbrev pub pairs_from : {A : Type 0} → (ℕ → A → Option ℕ) → ℕ → List A → List Due
pairs_from f n [] = []
pairs_from f n (x ∷ xs) = option_map_or (λ moment. (moment, n) ∷ pairs_from f (suc n) xs) (f n x) (pairs_from f (suc n) xs)

-- the pairs of numbers that have moments, kept by number
unfoldable pub listed : List (Option ℕ) → List Due
listed moments = rising (pairs_from (λ _ moment. moment) 0 moments)

-- there is a moment, and it is at most this one
abbrev pub is_by : ℕ → Option ℕ → Bool
is_by moment None = false
is_by moment (Some m) = nat_le m moment

-- the least number whose moment is at most this one
abbrev pub least_by : List Due → ℕ → Option ℕ
least_by [] moment = None
least_by (d ∷ ds) moment =
    if nat_le d.0 moment then Some (option_map_or (min d.1) (least_by ds moment) d.1) else least_by ds moment

-- the same by numbers: the moment of this number is at most this one, and that of no lower number is; without a number none is
abbrev pub IsFirstBy : ℕ → (ℕ → Option ℕ) → Option ℕ → Type 0
IsFirstBy moment moment_of None = (n : ℕ) → is_by moment (moment_of n) ≡ false
IsFirstBy moment moment_of (Some n) =
    (is_by moment (moment_of n) ≡ true) × ((k : ℕ) → k < n → is_by moment (moment_of k) ≡ false)

-- the pairs, and the room: numbers below it can be put in without memory
pub record Queue : Type 0 where
  pub pairs : List Due
  pub room : ℕ
