-- Promise: Values where a step stands: as conditions compare them, as texts, as numbers of JSON.
use Rattle.std.specs.Prelude.{ℕ, ℤ, Bool, true, false, List, [], Option, None, unwrap_or, option_and_then, if◌then◌else◌}
use Rattle.std.specs.Option.{option_map_or}
use Rattle.base_decimals.specs.Numbers.{integer}
use Rattle.cacao_vars.specs.declared.declarations.Var.{Var}
use Rattle.cacao_vars.specs.declared.kinds.Kind.{Kind}
use Rattle.cacao_vars.specs.declared.kinds.Kind.TheVariants as kind
use Rattle.cacao_vars.specs.Scopes.{home_declaration}
use Rattle.cacao_cond.specs.Worths.{Worth, unset}
use Rattle.cacao_cond.specs.Worths.{value_of as worth_by}
use Rattle.flow_core_rules.specs.State.{Lists, value_shown}

-- the value of a name by the kind that its home declares, as conditions compare it
abbrev pub worth_at : Lists → ℕ → List ℕ → Worth
worth_at s scope name =
    option_map_or (λ var. worth_by var.kind (value_shown s scope name)) (home_declaration s.scopes scope name) unset

-- the text of a name, the empty text where it has none
abbrev pub text_at : Lists → ℕ → List ℕ → List ℕ
text_at s scope name = unwrap_or (value_shown s scope name) []

abbrev pub has_numbers : Kind → Bool
has_numbers kind.Integer = true
has_numbers kind.Long = true
has_numbers other = false

-- a whole number of JSON: at most 2 ^ 53 - 1 on either side
abbrev pub whole_number : List ℕ → Option ℤ
whole_number text = integer 9_007_199_254_740_991 9_007_199_254_740_991 text

-- the whole number that a name of kind `integer` or `long` has
abbrev pub number_of : Lists → ℕ → List ℕ → Option ℤ
number_of s scope name =
    option_and_then
    (λ (var : Var). if has_numbers var.kind then option_and_then whole_number (value_shown s scope name) else None)
    (home_declaration s.scopes scope name)
