-- Scaffold: Ranks of places, and edges that never lead to a lower one.
use Rattle.std.specs.Prelude.{ℕ, ◌≡◌, ◌≤◌, nat_lt, nat_le, Bool, false, List, slice_index_or, Contains}
use Rattle.std.specs.List.{list_all}
use Rattle.base_graphs.specs.Tables.{row}

abbrev pub rank_of : List ℕ → ℕ → ℕ
rank_of ranks place = slice_index_or ranks place 0

-- each of the places has at least this rank, or a higher one
abbrev pub stand_from : List ℕ → ℕ → List ℕ → Bool
stand_from ranks rank places = list_all (λ place. nat_le rank (rank_of ranks place)) places

abbrev pub stand_above : List ℕ → ℕ → List ℕ → Bool
stand_above ranks rank places = list_all (λ place. nat_lt rank (rank_of ranks place)) places

-- no edge leads to a lower rank
abbrev pub NeverFalls : List ℕ → List (List ℕ) → Type 0
NeverFalls ranks table = (from to : ℕ) → Contains (row table from) to → rank_of ranks from ≤ rank_of ranks to

-- some edge in the row of the place leads to no higher rank
abbrev pub Stays : List ℕ → List (List ℕ) → ℕ → Type 0
Stays ranks table place = stand_above ranks (rank_of ranks place) (row table place) ≡ false
