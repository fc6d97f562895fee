-- Rows of tables.
use Rattle.std.proofs.Common.{◌≡◌, inl, inr, ℕ, ◌<◌, List, [], length, get_or, Contains, subst, ◌∙◌}
use Rattle.std.specs.Prelude.{All}
use Rattle.std.proofs.lemmas.Bool.{cases_lt}
use Rattle.std.proofs.lemmas.List.{get_or_default, get_or_past}
use Rattle.std.proofs.lemmas.List.Elements.{All-contains, All-get_or}
use Rattle.base_graphs.specs.Tables.{IsWithin, row}
use Rattle.base_graphs.proofs.MarkLemmas.{Contains-nil}

-- the row that was read is that of the place
pub row_is : (rows : List (List ℕ)) (x : ℕ) (r s : List ℕ) → x < length rows → r ≡ get_or rows x r → s ≡ r → s ≡ row rows x
row_is rows x r s lt at e = e ∙ at ∙ get_or_default rows x r [] lt

-- what stands in a row of a table stands within it
pub row_within : (n : ℕ) (rows : List (List ℕ)) (from to : ℕ) → IsWithin n rows → Contains (row rows from) to → to < n
row_within n rows from to all c = elim (cases_lt from (length rows)) [
  | inl lt ↦ All-contains (λ p. p < n) (row rows from) to (All-get_or (λ r. All (λ p. p < n) r) rows from [] lt all) c
  | inr ge ↦ absurd (Contains-nil to (subst (λ v. Contains v to) (get_or_past rows from [] ge) c))
]
