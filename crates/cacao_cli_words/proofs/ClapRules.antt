-- The rules of the command, looked up.
use Rattle.std.proofs.Common.{◌≡◌, ◌∙◌, ◌&&◌, ◌||◌, Bool, true, false, not, refl, ap, List, [], ◌∷◌, ◌++◌, map, Option, Some, None, if◌then◌else◌}
use Rattle.std.specs.Prelude.{fold}
use Rattle.std.specs.List.{list_any}
use Rattle.std.specs.Str.{bytes_eq}
use Rattle.std.proofs.lemmas.Slice.Eq.{bytes_eq-Decides}
use Rattle.clap.specs.Walk.{Rule, Row, arg_by_id, arg_by_index, arg_by_long, with_default, has_row}
use Rattle.clap.specs.Simple.{built, filled_from}
use Rattle.clap.specs.Takes.{is_given}
use Rattle.clap.specs.Faults.{check_fault, defaults_fault}
use Rattle.cacao_cli_words.specs.Words.{Text, is_known}
use Rattle.cacao_cli_words.specs.ClapCommand.{app, names_id, names_rule, option_rule, raw_names, raw_option, rules, shape}

pub filled_is : (os : List Text) → filled_from 1 (map raw_option os ++ raw_names ∷ []) ≡ rules os
filled_is [] = refl
filled_is (x ∷ os) = ap (λ rest. option_rule x ∷ rest) (filled_is os)

-- what building makes of the command
pub built_is : (os : List Text) → built (app os) ≡ record { top = shape os; subs = [] }
built_is os = rw (filled_is os) refl

pub same : (x y : Text) → bytes_eq x y ≡ true → x ≡ y
same x y e = (bytes_eq-Decides x y).0 e

pub bytes_eq-refl : (x : Text) → bytes_eq x x ≡ true
bytes_eq-refl x = (bytes_eq-Decides x x).1 refl

rule_if : (b : Bool) (x y : Text) (rest : Option Rule) → (b ≡ true → y ≡ x) → (if b then Some (option_rule y) else rest) ≡ (if b then Some (option_rule x) else rest)
rule_if true x y rest h = ap (λ z. Some (option_rule z)) (h refl)
rule_if false x y rest h = refl

if_or : (a b : Bool) (r s : Option Rule) → (if a then r else (if b then r else s)) ≡ (if a || b then r else s)
if_or true b r s = refl
if_or false b r s = refl

or_false : (a : Bool) → (a || false) ≡ a
or_false true = refl
or_false false = refl

pub by_long : (os : List Text) (x : Text) → arg_by_long (rules os) x ≡ (if is_known os x then Some (option_rule x) else None)
by_long [] x = refl
by_long (y ∷ os) x = rw (or_false (bytes_eq y x), by_long os x) (rule_if (bytes_eq y x) x y (if is_known os x then Some (option_rule x) else None) (same y x) ∙ if_or (bytes_eq y x) (is_known os x) (Some (option_rule x)) None)

pub by_id : (os : List Text) (x : Text) → arg_by_id (rules os) x ≡ (if is_known os x then Some (option_rule x) else (if bytes_eq names_id x then Some names_rule else None))
by_id [] x = refl
by_id (y ∷ os) x = rw (by_id os x) (rule_if (bytes_eq y x) x y (if is_known os x then Some (option_rule x) else (if bytes_eq names_id x then Some names_rule else None)) (same y x) ∙ if_or (bytes_eq y x) (is_known os x) (Some (option_rule x)) (if bytes_eq names_id x then Some names_rule else None))

pub by_index : (os : List Text) → arg_by_index (rules os) 1 ≡ Some names_rule
by_index [] = refl
by_index (y ∷ os) = by_index os

if_same : (b : Bool) (rows : List Row) → (if b then rows else rows) ≡ rows
if_same true rows = refl
if_same false rows = refl

or_true : (b : Bool) → (b || true) ≡ true
or_true true = refl
or_true false = refl

pub no_defaults : (os : List Text) (rows : List Row) → defaults_fault rows (rules os) ≡ []
unfolding defaults_fault
no_defaults [] rows = rw (or_true (has_row names_id rows)) refl
no_defaults (x ∷ os) rows = rw (or_true (has_row x rows), if_same (has_row x rows) rows) (no_defaults os rows)

pub finishes : (os : List Text) (rows : List Row) → fold with_default rows (rules os) ≡ rows
finishes [] rows = if_same (has_row names_id rows) rows
finishes (x ∷ os) rows = ap (λ r. fold with_default r (rules os)) (if_same (has_row x rows) rows) ∙ finishes os rows

none_required : (os : List Text) (rows : List Row) → list_any (λ (a : Rule). a.required && not (is_given a.id rows)) (rules os) ≡ false
none_required [] rows = refl
none_required (x ∷ os) rows = none_required os rows

pub none_wanted : (os : List Text) (rows : List Row) → check_fault (shape os) rows false ≡ []
none_wanted os rows = rw (none_required os rows) refl
