-- Promise: Declarations of variables.
use Rattle.std.specs.Prelude.{◌≡◌, ℕ, List, [], ◌∷◌, Option, is_some, find, Bool, if◌then◌else◌}
use Rattle.std.specs.List.{AllByRecursion}
use Rattle.std.specs.Bool.{⊤}
use Rattle.std.specs.Str.{bytes_eq}
use Rattle.std.specs.Cmp.Lexicographic.{slice_cmp}
use Rattle.std.specs.Ordering.{nat_cmp, is_lt}
use Rattle.std.specs.declared.cmp.Ordering.TheVariants.{Less}
use Rattle.cacao_vars.specs.declared.declarations.Var.{Var}

-- one name comes before another, byte by byte
abbrev pub IsBefore : List ℕ → List ℕ → Type 0
IsBefore a b = slice_cmp nat_cmp a b ≡ Less

-- each name comes before all later ones
abbrev pub IsInNameOrder : List Var → Type 0
IsInNameOrder [] = ⊤
IsInNameOrder (var ∷ vars) = AllByRecursion (λ later. IsBefore var.name later.name) vars × IsInNameOrder vars

-- the declaration of a name
abbrev pub declared : List Var → List ℕ → Option Var
declared vars name = find (λ var. bytes_eq var.name name) vars

-- one name comes after another
abbrev pub is_after : List ℕ → List ℕ → Bool
is_after later earlier = is_lt (slice_cmp nat_cmp earlier later)

-- one more declaration, before the first whose name comes after its name
abbrev pub placed : List Var → Var → List Var
placed [] new = new ∷ []
placed (var ∷ vars) new = if is_after var.name new.name then new ∷ var ∷ vars else var ∷ placed vars new

-- one more declaration in its place; none where its name is declared
abbrev pub inserted : List Var → Var → List Var
inserted vars new = if is_some (declared vars new.name) then vars else placed vars new
