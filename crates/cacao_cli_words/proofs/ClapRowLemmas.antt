-- The rows of the matches, after a use of an option or a name.
use Rattle.std.proofs.Common.{◌≡◌, ◌∙◌, ◌||◌, Bool, true, false, refl, sym, ap, subst, List, [], ◌∷◌, ◌++◌, Option, Some, None, if◌then◌else◌, is_some, unwrap_or}
use Rattle.std.specs.Prelude.{find, option_map}
use Rattle.std.specs.Str.{bytes_eq}
use Rattle.std.proofs.lemmas.Bool.{true≢false}
use Rattle.clap.specs.Walk.{Row, has_row, with_values, without, more_values}
use Rattle.clap.specs.declared.builder.value_parser.Reading.{Reading as How}
use Rattle.clap.specs.declared.parser.matches.ValueSource.{ValueSource}
use Rattle.cacao_cli_words.specs.Words.{Text, Reading, is_known, value_in, has_value, with_name, with_option}
use Rattle.cacao_cli_words.specs.ClapCommand.{names_id}
pub use Rattle.cacao_cli_words.specs.ClapRows.{found, some_list, one_value, Shows, IsApart}
use Rattle.cacao_cli_words.proofs.ClapRules.{same, bytes_eq-refl}

-- `all_of`, row by row
found-cons : (x : Text) (r : Row) (rows : List Row) → found x (r ∷ rows) ≡ (if bytes_eq r.id x then Some r.values else found x rows)
found-cons x r rows = go (bytes_eq r.id x)
  where
    go : (b : Bool) → option_map (λ (q : Row). q.values) (if b then Some r else find (λ (q : Row). bytes_eq q.id x) rows) ≡ (if b then Some r.values else found x rows)
    go true = refl
    go false = refl

pub has_row-found : (x : Text) (rows : List Row) → has_row x rows ≡ is_some (found x rows)
has_row-found x [] = refl
has_row-found x (r ∷ rows) = ap (λ b. bytes_eq r.id x || b) (has_row-found x rows) ∙ go (bytes_eq r.id x) ∙ ap is_some (sym (found-cons x r rows))
  where
    go : (b : Bool) → (b || is_some (found x rows)) ≡ is_some (if b then Some r.values else found x rows)
    go true = refl
    go false = refl

-- where there is no row, none is taken out
pub without-none : (x : Text) (rows : List Row) → has_row x rows ≡ false → without x rows ≡ rows
without-none x [] e = refl
without-none x (r ∷ rows) e = go (bytes_eq r.id x) e (without-none x rows)
  where
    go : (b : Bool) → (b || has_row x rows) ≡ false → (has_row x rows ≡ false → without x rows ≡ rows) → (if b then [] ++ rows else r ∷ without x rows) ≡ r ∷ rows
    go true h next = absurd (true≢false h)
    go false h next = ap (λ rest. r ∷ rest) (next h)

module _ (x : Text) (how : How) (s : ValueSource) (vs : List Text) where
  pub found-here : (rows : List Row) → found x (with_values x how s vs rows) ≡ Some (unwrap_or (found x rows) [] ++ vs)
  found-here [] = rw (bytes_eq-refl x) refl
  found-here (r ∷ rows) = go (bytes_eq r.id x) refl (found-here rows) ∙ ap (λ o. Some (unwrap_or o [] ++ vs)) (sym (found-cons x r rows))
    where
      go : (b : Bool) → b ≡ bytes_eq r.id x → found x (with_values x how s vs rows) ≡ Some (unwrap_or (found x rows) [] ++ vs) → found x (if b then more_values s vs r ++ rows else r ∷ with_values x how s vs rows) ≡ Some (unwrap_or (if b then Some r.values else found x rows) [] ++ vs)
      go true e next = rw (sym e) refl
      go false e next = found-cons x r (with_values x how s vs rows) ∙ rw (sym e) next

  pub found-other : (y : Text) (rows : List Row) → bytes_eq x y ≡ false → found y (with_values x how s vs rows) ≡ found y rows
  found-other y [] e = rw e refl
  found-other y (r ∷ rows) e = go (bytes_eq r.id x) refl (found-other y rows e)
    where
      go : (b : Bool) → b ≡ bytes_eq r.id x → found y (with_values x how s vs rows) ≡ found y rows → found y (if b then more_values s vs r ++ rows else r ∷ with_values x how s vs rows) ≡ found y (r ∷ rows)
      go true h next = let is : r.id ≡ x = same r.id x (sym h) in let no : bytes_eq r.id y ≡ false = rw is e in rw no refl
      go false h next = found-cons y r (with_values x how s vs rows) ∙ rw next (sym (found-cons y r rows))

some_list-unwrap : (ws : List Text) → unwrap_or (some_list ws) [] ≡ ws
some_list-unwrap [] = refl
some_list-unwrap (w ∷ ws) = refl

some_list-more : (ws : List Text) (w : Text) → Some (ws ++ w ∷ []) ≡ some_list (ws ++ w ∷ [])
some_list-more [] w = refl
some_list-more (v ∷ ws) w = refl

has_value-is : (x : Text) (options : List (Text × Text)) → has_value x options ≡ is_some (value_in x options)
has_value-is x [] = refl
has_value-is x (p ∷ options) = ap (λ b. bytes_eq p.0 x || b) (has_value-is x options) ∙ go (bytes_eq p.0 x)
  where
    go : (b : Bool) → (b || is_some (value_in x options)) ≡ is_some (if b then Some p.1 else value_in x options)
    go true = refl
    go false = refl

some_one : (o : Option Text) → is_some (one_value o) ≡ is_some o
some_one None = refl
some_one (Some v) = refl

none_of : (o : Option (List Text)) → is_some o ≡ false → o ≡ None
none_of None e = refl
none_of (Some v) e = absurd (true≢false e)

-- an option has a row where it has a value
pub row_read : (os : List Text) (rows : List Row) (r : Reading) (x : Text) → Shows os rows r → is_known os x ≡ true → has_row x rows ≡ has_value x r.options
row_read os rows r x shows known = has_row-found x rows ∙ ap is_some (shows.options x known) ∙ some_one (value_in x r.options) ∙ sym (has_value-is x r.options)

pub shows_name : (os : List Text) (rows : List Row) (r : Reading) (w : Text) (how : How) (s : ValueSource) → IsApart os → Shows os rows r → Shows os (with_values names_id how s (w ∷ []) rows) (with_name w r)
shows_name os rows r w how s apart shows = record {
  options = λ x known. found-other names_id how s (w ∷ []) x rows (differs x known) ∙ shows.options x known;
  names = found-here names_id how s (w ∷ []) rows ∙ ap (λ o. Some (unwrap_or o [] ++ w ∷ [])) shows.names ∙ ap (λ ws. Some (ws ++ w ∷ [])) (some_list-unwrap r.names) ∙ some_list-more r.names w;
}
  where
    differs : (x : Text) → is_known os x ≡ true → bytes_eq names_id x ≡ false
    differs x known = go (bytes_eq names_id x) refl
      where
        go : (b : Bool) → b ≡ bytes_eq names_id x → b ≡ false
        go true e = let is : names_id ≡ x = same names_id x (sym e) in absurd (true≢false (sym known ∙ ap (is_known os) (sym is) ∙ apart))
        go false e = refl

pub shows_option : (os : List Text) (rows : List Row) (r : Reading) (x v : Text) (how : How) (s : ValueSource) → IsApart os → is_known os x ≡ true → has_row x rows ≡ false → Shows os rows r → Shows os (with_values x how s (v ∷ []) (without x rows)) (with_option x v r)
shows_option os rows r x v how s apart known fresh shows = subst (λ rest. Shows os (with_values x how s (v ∷ []) rest) (with_option x v r)) (sym (without-none x rows fresh)) (record {
  options = λ y also. go y also (bytes_eq x y) refl;
  names = found-other x how s (v ∷ []) names_id rows differs ∙ shows.names;
})
  where
    differs : bytes_eq x names_id ≡ false
    differs = at (bytes_eq x names_id) refl
      where
        at : (b : Bool) → b ≡ bytes_eq x names_id → b ≡ false
        at true e = absurd (true≢false (sym known ∙ ap (is_known os) (same x names_id (sym e)) ∙ apart))
        at false e = refl

    empty : found x rows ≡ None
    empty = none_of (found x rows) (sym (has_row-found x rows) ∙ fresh)

    go : (y : Text) → is_known os y ≡ true → (b : Bool) → b ≡ bytes_eq x y → found y (with_values x how s (v ∷ []) rows) ≡ one_value (if b then Some v else value_in y r.options)
    go y also true e = let is : x ≡ y = same x y (sym e) in
        ap (λ z. found z (with_values x how s (v ∷ []) rows)) (sym is) ∙ found-here x how s (v ∷ []) rows ∙ ap (λ o. Some (unwrap_or o [] ++ v ∷ [])) empty
    go y also false e = found-other x how s (v ∷ []) y rows (sym e) ∙ shows.options y also
