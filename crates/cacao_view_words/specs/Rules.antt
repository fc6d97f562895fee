-- Promise: The rules that are explained, and what is said of each.
use Rattle.std.specs.Prelude.{ℕ, ◌+◌, nat_le, ◌==◌, Bool, false, ◌&&◌, ◌||◌, List, [], ◌∷◌, Option, Some, None, map, option_map, option_and_then, if◌then◌else◌}
use Rattle.std.specs.List.{list_all}
use Rattle.base_decimals.specs.Numbers.{number}
use Rattle.cacao_view_words.specs.Texts.{Text}
use Rattle.cacao_view_words.specs.declared.rule_texts.TheConstants.{K1, K2, K3, K4, K5, K6, K7, K8, K9, K10, K11, K12, K13}
use Rattle.cacao_view_words.specs.declared.rule_texts.TheConstants.{K14, K15, K16, K17, K18, K19, K20, K21, K22, K23, K24, K25, B1, B2, B3}
use Rattle.cacao_view_words.specs.declared.rule.Rule.{Rule}
use Rattle.cacao_view_words.specs.declared.rule.Rule.TheVariants as how

-- a rule of playbooks or of bindings, by its number
pub data NamedRule : Type 0 where
  book_rule : (number : ℕ) → NamedRule
  bind_rule : (number : ℕ) → NamedRule

abbrev pub rule_of : Rule → NamedRule
rule_of (how.Book number) = book_rule number
rule_of (how.Bind number) = bind_rule number

-- a number from 1 on, in decimal without a leading zero
abbrev pub at_least_one : ℕ → Option ℕ
at_least_one n = if nat_le 1 n then Some n else None

abbrev pub numbered : ℕ → Text → Option ℕ
numbered most digits = option_and_then at_least_one (number most digits)

-- `K` and a number from 1 to 25, or `B` and one from 1 to 3
abbrev pub rule_in : Text → Option NamedRule
rule_in [] = None
rule_in (letter ∷ digits) =
    if letter == 75 then option_map book_rule (numbered 25 digits)
    else (if letter == 66 then option_map bind_rule (numbered 3 digits) else None)

abbrev pub is_rule_letter : ℕ → Bool
is_rule_letter letter = (letter == 75 || letter == 107) || (letter == 66 || letter == 98)

abbrev pub is_digit : ℕ → Bool
is_digit c = nat_le 48 c && nat_le c 57

-- digits, at least one
abbrev pub are_digits : Text → Bool
are_digits [] = false
are_digits (c ∷ cs) = list_all is_digit (c ∷ cs)

-- a letter of the names of rules, small or not, and digits
abbrev pub is_like_rule : Text → Bool
is_like_rule [] = false
is_like_rule (letter ∷ digits) = is_rule_letter letter && are_digits digits

-- the lines at this number, from this one on
abbrev pub lines_at : ℕ → ℕ → List (List Text) → List Text
lines_at number first [] = []
lines_at number first (lines ∷ more) = if number == first then lines else lines_at number (first + 1) more

-- what is said of the rules of playbooks, in their order, and of those of bindings
abbrev pub book_lines : ℕ → List Text
book_lines n = lines_at n 1 (
    map (λ line. line.now) K1.now ∷ map (λ line. line.now) K2.now ∷ map (λ line. line.now) K3.now ∷
    map (λ line. line.now) K4.now ∷ map (λ line. line.now) K5.now ∷ map (λ line. line.now) K6.now ∷
    map (λ line. line.now) K7.now ∷ map (λ line. line.now) K8.now ∷ map (λ line. line.now) K9.now ∷
    map (λ line. line.now) K10.now ∷ map (λ line. line.now) K11.now ∷ map (λ line. line.now) K12.now ∷
    map (λ line. line.now) K13.now ∷ map (λ line. line.now) K14.now ∷ map (λ line. line.now) K15.now ∷
    map (λ line. line.now) K16.now ∷ map (λ line. line.now) K17.now ∷ map (λ line. line.now) K18.now ∷
    map (λ line. line.now) K19.now ∷ map (λ line. line.now) K20.now ∷ map (λ line. line.now) K21.now ∷
    map (λ line. line.now) K22.now ∷ map (λ line. line.now) K23.now ∷ map (λ line. line.now) K24.now ∷
    map (λ line. line.now) K25.now ∷ [])

abbrev pub bind_lines : ℕ → List Text
bind_lines n = lines_at n 1 (map (λ line. line.now) B1.now ∷ map (λ line. line.now) B2.now ∷ map (λ line. line.now) B3.now ∷ [])

abbrev pub rule_lines : NamedRule → List Text
rule_lines (book_rule n) = book_lines n
rule_lines (bind_rule n) = bind_lines n
