-- Scaffold: Laws over rising lists of pairs.
use Rattle.std.specs.Prelude.{◌≡◌, ℕ, List}
use Rattle.base_dues.specs.Pairs.{Due, at, IsQueue, EachOnce, rising}

-- two rising lists with the same moment for each number are one
abbrev pub DuesAreOne : Type 0
DuesAreOne = (ps qs : List Due) → IsQueue ps → IsQueue qs → ((n : ℕ) → at ps n ≡ at qs n) → ps ≡ qs

-- pairs in rising order are rising, and each number keeps its moment
abbrev pub RisingKeepsMoments : Type 0
RisingKeepsMoments = (ps : List Due) → EachOnce ps → IsQueue (rising ps) × ((n : ℕ) → at (rising ps) n ≡ at ps n)
