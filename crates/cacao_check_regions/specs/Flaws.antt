-- Promise: What may be wrong with what a step sees of a name.
use Rattle.std.specs.Prelude.{◌≡◌, ℕ, nat_lt, ◌||◌, Bool, true, false, not, List, Option, Some, None, IsSome}
use Rattle.std.specs.Str.{bytes_eq}
use Rattle.cacao_vars.specs.declared.declarations.Var.{Var}
use Rattle.cacao_vars.specs.declared.kinds.Kind.{Kind}
use Rattle.cacao_vars.specs.declared.kinds.Kind.TheVariants as kind
use Rattle.cacao_book.specs.declared.books.Book.{Book}
use Rattle.cacao_check_regions.specs.declared.flaws.Flaw.{Flaw}
use Rattle.cacao_check_regions.specs.declared.flaws.Flaw.TheVariants as flaw
use Rattle.cacao_check_steps.specs.Links.{declares}
use Rattle.cacao_check_regions.specs.Regions.{Sees}

abbrev pub same_kind : Kind → Kind → Bool
same_kind kind.String kind.String = true
same_kind kind.Bool kind.Bool = true
same_kind kind.Integer kind.Integer = true
same_kind kind.Long kind.Long = true
same_kind kind.Ipv4Addr kind.Ipv4Addr = true
same_kind kind.Ipv6Addr kind.Ipv6Addr = true
same_kind kind.MacAddr kind.MacAddr = true
same_kind kind.Uri kind.Uri = true
same_kind kind.Uuid kind.Uuid = true
same_kind kind.Hexstring kind.Hexstring = true
same_kind (kind.Other a) (kind.Other b) = bytes_eq a b
same_kind _ _ = false

-- A variable of the kind takes the result at this place among those of an action: the first two may be numbers or texts, and the third is a
-- text; kinds outside the profile take any.
abbrev pub may_take : ℕ → Kind → Bool
may_take k kind.String = true
may_take k kind.Integer = nat_lt k 2
may_take k kind.Long = nat_lt k 2
may_take k (kind.Other name) = true
may_take k _ = false

-- a declaration, or that there is none, has the flaw
abbrev pub is_flawed : Flaw → Option Var → Bool
is_flawed flaw.Missing None = true
is_flawed flaw.Missing (Some var) = false
is_flawed flaw.Constant None = false
is_flawed flaw.Constant (Some var) = var.constant
is_flawed (flaw.Unfit k) None = false
is_flawed (flaw.Unfit k) (Some var) = var.constant || not (may_take k var.kind)
is_flawed (flaw.Unlike kind) None = false
is_flawed (flaw.Unlike kind) (Some var) = not (same_kind var.kind kind)

-- what is asked of a variable to which the result at this place among those of a step is written
abbrev pub result_flaw : Bool → ℕ → Flaw
result_flaw true at = flaw.Unfit at
result_flaw false at = flaw.Constant

-- the step at the place declares the name, with the flaw
abbrev pub HasOwnFlaw : Book → List ℕ → Flaw → ℕ → Type 0
HasOwnFlaw book name flaw place = IsSome (declares book name place) × (is_flawed flaw (declares book name place) ≡ true)

-- what a step sees of the name may have the flaw
abbrev pub SeesFlaw : Book → List ℕ → Flaw → ℕ → Type 0
SeesFlaw book name flaw place = (seen : Option Var) × Sees book name place seen × (is_flawed flaw seen ≡ true)
