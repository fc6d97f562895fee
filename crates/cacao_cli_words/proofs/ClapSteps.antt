-- One word of the walk, against one word of the reading.
use Rattle.std.proofs.Common.{◌≡◌, ◌≢◌, ◌∙◌, ◌==◌, ◌&&◌, ℕ, Bool, true, false, refl, sym, List, [], ◌∷◌, length, Option, Some, None, if◌then◌else◌}
use Rattle.std.specs.Prelude.{option_and_then}
use Rattle.std.specs.Str.{bytes_eq}
use Rattle.std.proofs.lemmas.Bool.{true≢false}
use Rattle.clap.specs.Lexer.{long_of, long_of_rest, short_of, name_and_value, strip_byte}
use Rattle.clap.specs.Walk.{Row, Held, Walk, Waiting, idle, option, positional, has_row, without, with_values, walked, settled_rows, reading_by, values_or_missing, subcommand_met, is_pending}
use Rattle.clap.specs.declared.parser.matches.ValueSource.TheVariants.{CommandLine}
use Rattle.clap.specs.Kinds.{or_else, Kinds, range_kinds}
use Rattle.clap.specs.declared.error.kind.ErrorKind.{ErrorKind}
use Rattle.clap.specs.declared.error.kind.ErrorKind.TheVariants as kind
use Rattle.clap.specs.Faults.{turn_fault, settle_fault, use_fault, set_fault, repeat_fault, values_fault}
use Rattle.cacao_cli_words.specs.Words.{Text, begins_hyphen, dashes, is_known, option_in}
use Rattle.cacao_cli_words.specs.Hyphens.{word_passes}
use Rattle.cacao_cli_words.specs.ClapCommand.{names_id, names_rule, option_rule, rules, shape}
use Rattle.cacao_cli_words.proofs.ClapRules.{bytes_eq-refl, by_long, by_id, by_index}
use Rattle.cacao_cli_words.proofs.ClapRowLemmas.{IsApart}

-- a walk before the end of the words
abbrev pub mk : List Row → Option (Text × List Text) → ℕ → Waiting → Bool → Walk
mk rows p k wt t = record { held = record { rows = rows; pending = p; skip = k }; waiting = wt; position = 1; is_trailing = t; stopped = None }

abbrev pub held : List Row → Option (Text × List Text) → ℕ → Held
held rows p k = record { rows = rows; pending = p; skip = k }

abbrev pub resting : Bool → Waiting
resting true = idle
resting false = positional

-- what a word looks like, where own code lets it pass
pub data Kind (w : Text) : Type 0 where
  is_dashes : bytes_eq w dashes ≡ true → Kind w
  is_long : (p : Text × Option Text) → long_of w ≡ Some p → bytes_eq w dashes ≡ false → begins_hyphen w ≡ true → Kind w
  is_plain : begins_hyphen w ≡ false → long_of w ≡ None → short_of w ≡ None → bytes_eq w dashes ≡ false → Kind w

plain_from : (x : ℕ) (xs : List ℕ) → (x == 45) ≡ false → Kind (x ∷ xs)
plain_from x xs e = is_plain e (rw e refl) (rw e refl) (rw e refl)

long_from : (x y z : ℕ) (zs : List ℕ) → (x == 45) ≡ true → (y == 45) ≡ true → Kind (x ∷ y ∷ z ∷ zs)
long_from x y z zs e f = is_long (name_and_value (z ∷ zs)) (rw (e, f) refl) (rw (e, f) refl) e

dashes_from : (x y : ℕ) → (x == 45) ≡ true → (y == 45) ≡ true → Kind (x ∷ y ∷ [])
dashes_from x y e f = is_dashes (rw (e, f) refl)

pub classify : (w : Text) → word_passes false w ≡ true → Kind w
classify [] e = is_plain refl refl refl refl
classify (x ∷ []) e = go (x == 45) refl
  where
    go : (b : Bool) → b ≡ (x == 45) → Kind (x ∷ [])
    go true h = absurd (true≢false (sym e ∙ rw (sym h) refl))
    go false h = plain_from x [] (sym h)
classify (x ∷ y ∷ ys) e = go (x == 45) refl
  where
    rest : (zs : List ℕ) → (x == 45) ≡ true → (y == 45) ≡ true → Kind (x ∷ y ∷ zs)
    rest [] h f = dashes_from x y h f
    rest (z ∷ zs) h f = long_from x y z zs h f

    second : (b : Bool) → b ≡ (y == 45) → (x == 45) ≡ true → Kind (x ∷ y ∷ ys)
    second true f h = rest ys h (sym f)
    second false f h = absurd (true≢false (sym e ∙ rw (h, sym f) refl))

    go : (b : Bool) → b ≡ (x == 45) → Kind (x ∷ y ∷ ys)
    go true h = second (y == 45) refl (sym h)
    go false h = plain_from x (y ∷ ys) (sym h)

-- an option, as clap reads it
pub option-long : (word : Text) → option_in word ≡ long_of word
option-long [] = refl
option-long (a ∷ []) = go (a == 45)
  where
    go : (p : Bool) → None ≡ option_and_then long_of_rest (option_and_then (strip_byte 45) (if p then Some [] else None))
    go true = refl
    go false = refl
option-long (a ∷ b ∷ []) = go (a == 45) (b == 45)
  where
    second : (q : Bool) → None ≡ option_and_then long_of_rest (if q then Some [] else None)
    second true = refl
    second false = refl

    go : (p q : Bool) → None ≡ option_and_then long_of_rest (option_and_then (strip_byte 45) (if p then Some (b ∷ []) else None))
    go true q = second (b == 45)
    go false q = refl
option-long (a ∷ b ∷ c ∷ cs) = go (a == 45)
  where
    second : (q : Bool) → (if q then Some (name_and_value (c ∷ cs)) else None) ≡ option_and_then long_of_rest (if q then Some (c ∷ cs) else None)
    second true = refl
    second false = refl

    go : (p : Bool) → (if p && (b == 45) then Some (name_and_value (c ∷ cs)) else None) ≡ option_and_then long_of_rest (option_and_then (strip_byte 45) (if p then Some (b ∷ c ∷ cs) else None))
    go true = second (b == 45)
    go false = refl

-- ---- kinds

pub no_kinds : (k : ErrorKind) (ks : Kinds) → k ∷ ks ≢ []
no_kinds k ks e = cc

pub or_left : (a b : Kinds) → a ≢ [] → or_else a b ≢ []
or_left [] b h e = absurd (h refl)
or_left (k ∷ ks) b h e = h e

pub or_right : (a b : Kinds) → b ≢ [] → or_else a b ≢ []
or_right [] b h e = h e
or_right (k ∷ ks) b h e = no_kinds k ks e

-- ---- one use

pub option_fits : (x v : Text) (rows : List Row) → has_row x rows ≡ false → use_fault false (option_rule x) (v ∷ []) rows ≡ []
option_fits x v rows e = rw e refl

pub option_repeats : (x : Text) (vs : List Text) (rows : List Row) → has_row x rows ≡ true → use_fault false (option_rule x) vs rows ≢ []
option_repeats x vs rows e = or_right (range_kinds 1 1 (length vs)) (set_fault false (option_rule x) (values_or_missing (option_rule x) vs) rows)
    (or_left (repeat_fault false x rows) (values_fault (option_rule x) (values_or_missing (option_rule x) vs))
    (let is : repeat_fault false x rows ≡ kind.ArgumentConflict ∷ [] = rw e refl in λ h. no_kinds kind.ArgumentConflict [] (sym is ∙ h)))

pub option_wants : (x : Text) (rows : List Row) → use_fault false (option_rule x) [] rows ≢ []
option_wants x rows = no_kinds kind.InvalidValue []

-- ---- what is pending

pub option_settles : (os : List Text) (x : Text) (vs : List Text) (rows : List Row) (k : ℕ) → is_known os x ≡ true → settle_fault (rules os) false (held rows (Some (x, vs)) k) ≡ use_fault false (option_rule x) vs rows
option_settles os x vs rows k known = rw (by_id os x, known) refl

pub name_settles : (os : List Text) (v : Text) (rows : List Row) (k : ℕ) → IsApart os → settle_fault (rules os) false (held rows (Some (names_id, v ∷ [])) k) ≡ []
name_settles os v rows k apart = rw (by_id os names_id, apart) refl

pub option_rows : (os : List Text) (x v : Text) (rows : List Row) → is_known os x ≡ true → settled_rows (rules os) (Some (x, v ∷ [])) rows ≡ with_values x (reading_by (option_rule x)) CommandLine (v ∷ []) (without x rows)
option_rows os x v rows known = rw (by_id os x, known) refl

pub name_rows : (os : List Text) (v : Text) (rows : List Row) → IsApart os → settled_rows (rules os) (Some (names_id, v ∷ [])) rows ≡ with_values names_id (reading_by names_rule) CommandLine (v ∷ []) rows
name_rows os v rows apart = rw (by_id os names_id, apart) refl

-- ---- one word

no_sub : (wt : Waiting) (w : Text) → subcommand_met [] wt w ≡ None
no_sub idle w = refl
no_sub (option x) w = refl
no_sub positional w = refl

and_false : (b : Bool) → (b && false) ≡ false
and_false true = refl
and_false false = refl

module _ (os : List Text) (rows : List Row) (p : Option (Text × List Text)) (k : ℕ) (wt : Waiting) (w : Text) where
  pub dashes_fault : bytes_eq w dashes ≡ true → turn_fault (shape os) [] (mk rows p k wt false) w ≡ []
  dashes_fault e = rw (no_sub wt w, e) refl

  pub dashes_walk : bytes_eq w dashes ≡ true → walked (rules os) [] (mk rows p k wt false) w ≡ mk rows p k wt true
  unfolding walked
  dashes_walk e = rw (no_sub wt w, e) refl

  pub unknown_fault : (x : Text) (v : Option Text) → bytes_eq w dashes ≡ false → long_of w ≡ Some (x, v) → is_known os x ≡ false → turn_fault (shape os) [] (mk rows p k wt false) w ≡ kind.UnknownArgument ∷ []
  unknown_fault x v d l unknown = rw (no_sub wt w, d, l, by_long os x, unknown) refl

  pub waits_fault : (x : Text) → bytes_eq w dashes ≡ false → long_of w ≡ Some (x, None) → is_known os x ≡ true → turn_fault (shape os) [] (mk rows p k wt false) w ≡ or_else (settle_fault (rules os) false (held rows p k)) []
  waits_fault x d l known = rw (no_sub wt w, d, l, by_long os x, known) refl

  pub waits_walk : (x : Text) → bytes_eq w dashes ≡ false → long_of w ≡ Some (x, None) → is_known os x ≡ true → walked (rules os) [] (mk rows p k wt false) w ≡ mk (settled_rows (rules os) p rows) (Some (x, [])) k (option x) false
  unfolding walked
  waits_walk x d l known = rw (no_sub wt w, d, l, by_long os x, known) refl

  pub takes_fault : (x v : Text) → bytes_eq w dashes ≡ false → long_of w ≡ Some (x, Some v) → is_known os x ≡ true → turn_fault (shape os) [] (mk rows p k wt false) w
      ≡ or_else (or_else (settle_fault (rules os) false (held rows p k)) (use_fault false (option_rule x) (v ∷ []) (settled_rows (rules os) p rows))) []
  takes_fault x v d l known = rw (no_sub wt w, d, l, by_long os x, known) refl

  pub takes_walk : (x v : Text) → bytes_eq w dashes ≡ false → long_of w ≡ Some (x, Some v) → is_known os x ≡ true → walked (rules os) [] (mk rows p k wt false) w
      ≡ mk (with_values x (reading_by (option_rule x)) CommandLine (v ∷ []) (without x (settled_rows (rules os) p rows))) None k idle false
  unfolding walked
  takes_walk x v d l known = rw (no_sub wt w, d, l, by_long os x, known) refl

  pub ended_fault : turn_fault (shape os) [] (mk rows p k wt true) w ≡ settle_fault (rules os) false (held rows p k)
  ended_fault = rw (by_index os, and_false (is_pending names_rule p)) refl

  pub ended_walk : walked (rules os) [] (mk rows p k wt true) w ≡ mk (settled_rows (rules os) p rows) (Some (names_id, w ∷ [])) k positional true
  unfolding walked
  ended_walk = rw (by_index os, and_false (is_pending names_rule p)) refl

module _ (os : List Text) (rows : List Row) (p : Option (Text × List Text)) (k : ℕ) (w : Text) where
  pub plain_fault : (b : Bool) → bytes_eq w dashes ≡ false → long_of w ≡ None → short_of w ≡ None → turn_fault (shape os) [] (mk rows p k (resting b) false) w ≡ settle_fault (rules os) false (held rows p k)
  plain_fault true d l s = rw (d, l, s, by_index os, and_false (is_pending names_rule p)) refl
  plain_fault false d l s = rw (d, l, s, by_index os, and_false (is_pending names_rule p)) refl

  pub plain_walk : (b : Bool) → bytes_eq w dashes ≡ false → long_of w ≡ None → short_of w ≡ None → walked (rules os) [] (mk rows p k (resting b) false) w ≡ mk (settled_rows (rules os) p rows) (Some (names_id, w ∷ [])) k positional false
  unfolding walked
  plain_walk true d l s = rw (d, l, s, by_index os, and_false (is_pending names_rule p)) refl
  plain_walk false d l s = rw (d, l, s, by_index os, and_false (is_pending names_rule p)) refl

module _ (os : List Text) (rows : List Row) (x : Text) (k : ℕ) (w : Text) where
  pub value_fault : bytes_eq w dashes ≡ false → long_of w ≡ None → short_of w ≡ None → turn_fault (shape os) [] (mk rows (Some (x, [])) k (option x) false) w ≡ []
  value_fault d l s = rw (d, l, s) refl

  pub value_walk : is_known os x ≡ true → bytes_eq w dashes ≡ false → long_of w ≡ None → short_of w ≡ None → walked (rules os) [] (mk rows (Some (x, [])) k (option x) false) w ≡ mk rows (Some (x, w ∷ [])) k idle false
  unfolding walked
  value_walk known d l s = rw (d, l, s, by_id os x, known, bytes_eq-refl x) refl
