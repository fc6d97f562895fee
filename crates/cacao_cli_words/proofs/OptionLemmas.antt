-- The values of a reading: each option is one that the command knows, and is given once.
use Rattle.std.proofs.Common.{◌≡◌, ◌∙◌, refl, sym, ap, ap₂, subst, Bool, true, false, List, [], ◌∷◌, map, Option, Some, None, Bor}
use Rattle.std.specs.Prelude.{not, ◌&&◌, ◌||◌, if◌then◌else◌, option_map, option_and_then, unwrap_or}
use Rattle.std.specs.List.{list_all}
use Rattle.std.specs.Str.{bytes_eq}
use Rattle.std.proofs.lemmas.Bool.{true≢false}
use Rattle.clap.specs.Walk.{Row}
use Rattle.cacao_cli_words.specs.ClapCommand.{names_id}
use Rattle.cacao_cli_words.specs.ClapRows.{IsReadAs, Shows, found, some_list, one_value}
use Rattle.cacao_cli_words.specs.Commands.{maybe_text}
use Rattle.cacao_cli_words.specs.Found.{parts_of, first_of, maybe_fits, if_all_fit}
use Rattle.cacao_cli_words.specs.Words.{Text, Reading, State, Place, before_dashes, behind_dashes, behind_option, at, nothing_read, begins_hyphen, dashes, is_known, has_value, value_in, with_name, with_option, option_in, after_name, after_option, after_word, next, read_from, fits, if_fits, read}
use Rattle.cacao_cli_words.proofs.ClapRules.{same, bytes_eq-refl}

-- ---- what is given is known, and given once

abbrev pub AreGiven : List Text → List (Text × Text) → Type 0
AreGiven os [] = Unit {0}
AreGiven os (p ∷ ps) = (is_known os p.0 ≡ true) × (has_value p.0 ps ≡ false) × AreGiven os ps

abbrev IsOpen : List Text → Reading → Place → Type 0
IsOpen os r before_dashes = Unit {0}
IsOpen os r behind_dashes = Unit {0}
IsOpen os r (behind_option x) = (is_known os x ≡ true) × (has_value x r.options ≡ false)

abbrev Holds : List Text → Option State → Type 0
Holds os None = Unit {0}
Holds os (Some s) = AreGiven os s.reading.options × IsOpen os s.reading s.place

name-holds : (os : List Text) (r : Reading) (place : Place) (word : Text) → AreGiven os r.options → IsOpen os r place → IsOpen os (with_name word r) place → Holds os (after_name place r word)
name-holds os r place word given open_ still = go (begins_hyphen word)
  where
    go : (b : Bool) → Holds os (if b then None else Some (at (with_name word r) place))
    go true = tt
    go false = (given, still)

both : (a b : Bool) → (a && not b) ≡ true → (a ≡ true) × (b ≡ false)
both true false e = (refl, refl)
both true true e = absurd (true≢false (sym e))
both false b e = absurd (true≢false (sym e))

next-holds : (os : List Text) (r : Reading) (place : Place) (word : Text) → AreGiven os r.options → IsOpen os r place → Holds os (next os r place word)
next-holds os r (behind_option x) word given open_ = go (begins_hyphen word)
  where
    go : (b : Bool) → Holds os (if b then None else Some (at (with_option x word r) before_dashes))
    go true = tt
    go false = ((open_.0, open_.1, given), tt)
next-holds os r behind_dashes word given open_ = name-holds os r behind_dashes word given tt tt
next-holds os r before_dashes word given open_ = go (bytes_eq word dashes) (option_in word)
  where
    taken : (b : Bool) (x : Text) (v : Option Text) → (b ≡ true → (is_known os x ≡ true) × (has_value x r.options ≡ false)) → Holds os (if b then Some (after_option r x v) else None)
    taken false x v h = tt
    taken true x None h = (given, h refl)
    taken true x (Some v) h = (((h refl).0, (h refl).1, given), tt)

    go : (b : Bool) (o : Option (Text × Option Text)) → Holds os (if b then Some (at r behind_dashes) else after_word os r word o)
    go true o = (given, tt)
    go false None = name-holds os r before_dashes word given tt tt
    go false (Some o) = taken (is_known os o.0 && not (has_value o.0 r.options)) o.0 o.1 (both (is_known os o.0) (has_value o.0 r.options))

given-read : (os : List Text) (words : List Text) (r : Reading) (place : Place) (last : Reading) → AreGiven os r.options → IsOpen os r place → read_from os r place words ≡ Some last → AreGiven os last.options
unfolding read_from
given-read os [] r before_dashes last given open_ e = let is : last ≡ r = cc in subst (λ (x : Reading). AreGiven os x.options) (sym is) given
given-read os [] r behind_dashes last given open_ e = let is : last ≡ r = cc in subst (λ (x : Reading). AreGiven os x.options) (sym is) given
given-read os [] r (behind_option x) last given open_ e = absurd (cc)
given-read os (word ∷ words) r place last given open_ e = go (next os r place word) (next-holds os r place word given open_) e (λ s g o f. given-read os words s.reading s.place last g o f)
  where
    go : (o : Option State) → Holds os o → option_and_then (λ s. read_from os s.reading s.place words) o ≡ Some last
        → ((s : State) → AreGiven os s.reading.options → IsOpen os s.reading s.place → read_from os s.reading s.place words ≡ Some last → AreGiven os last.options) → AreGiven os last.options
    go None h f rest = absurd (cc)
    go (Some s) h f rest = rest s h.0 h.1 f

-- ---- all values fit where those of the known options do

value-fits : (x : Text) (ps : List (Text × Text)) → list_all (λ p. fits p.1) ps ≡ true → maybe_fits (value_in x ps) ≡ true
value-fits x [] all = refl
value-fits x (p ∷ ps) all = go (bytes_eq p.0 x) (fits p.1) refl all (value-fits x ps)
  where
    go : (b f : Bool) → f ≡ fits p.1 → (f && list_all (λ q. fits q.1) ps) ≡ true → (list_all (λ q. fits q.1) ps ≡ true → maybe_fits (value_in x ps) ≡ true) → maybe_fits (if b then Some p.1 else value_in x ps) ≡ true
    go true true is e rest = sym is
    go false true is e rest = rest e
    go b false is e rest = absurd (true≢false (sym e))

values-fit : (os : List Text) (ps : List (Text × Text)) → list_all (λ p. fits p.1) ps ≡ true → list_all maybe_fits (map (λ x. value_in x ps) os) ≡ true
values-fit [] ps all = refl
values-fit (x ∷ os) ps all = ap₂ (λ a b. a && b) (value-fits x ps all) (values-fit os ps all)

has-value : (x v : Text) (ps : List (Text × Text)) → value_in x ps ≡ Some v → has_value x ps ≡ true
has-value x v [] e = absurd (cc)
has-value x v (p ∷ ps) e = go (bytes_eq p.0 x) e (has-value x v ps)
  where
    go : (b : Bool) → (if b then Some p.1 else value_in x ps) ≡ Some v → (value_in x ps ≡ Some v → has_value x ps ≡ true) → (b || has_value x ps) ≡ true
    go true e rest = refl
    go false e rest = rest e

record IsBadValue (os : List Text) (ps : List (Text × Text)) : Type 0 where
  pub option : Text
  pub value : Text
  pub known : is_known os option ≡ true
  pub is : value_in option ps ≡ Some value
  pub bad : fits value ≡ false

bad-value : (os : List Text) (ps : List (Text × Text)) → AreGiven os ps → list_all (λ p. fits p.1) ps ≡ false → IsBadValue os ps
bad-value os [] given e = absurd (true≢false e)
bad-value os (p ∷ ps) given e = go (fits p.1) refl e (bad-value os ps given.2)
  where
    later : IsBadValue os ps → IsBadValue os (p ∷ ps)
    later b = record { option = b.option; value = b.value; known = b.known; is = at (bytes_eq p.0 b.option) refl; bad = b.bad }
      where
        at : (d : Bool) → d ≡ bytes_eq p.0 b.option → (if d then Some p.1 else value_in b.option ps) ≡ Some b.value
        at false is = b.is
        at true is = absurd (true≢false (sym (has-value b.option b.value ps b.is) ∙ ap (λ x. has_value x ps) (sym (same p.0 b.option (sym is))) ∙ given.1))

    go : (f : Bool) → f ≡ fits p.1 → (f && list_all (λ q. fits q.1) ps) ≡ false → (list_all (λ q. fits q.1) ps ≡ false → IsBadValue os ps) → IsBadValue os (p ∷ ps)
    go false is e rest = record { option = p.0; value = p.1; known = given.0; is = ap (λ (d : Bool). if d then Some p.1 else value_in p.0 ps) (bytes_eq-refl p.0); bad = sym is }
    go true is e rest = later (rest e)

not-all : (os : List Text) (x v : Text) (ps : List (Text × Text)) → is_known os x ≡ true → value_in x ps ≡ Some v → fits v ≡ false → list_all maybe_fits (map (λ y. value_in y ps) os) ≡ false
not-all [] x v ps known is bad = absurd (true≢false (sym known))
not-all (o ∷ os) x v ps known is bad = go (bytes_eq o x) refl known (λ k. not-all os x v ps k is bad)
  where
    and_false : (b : Bool) → (b && false) ≡ false
    and_false true = refl
    and_false false = refl

    go : (d : Bool) → d ≡ bytes_eq o x → (d || is_known os x) ≡ true → (is_known os x ≡ true → list_all maybe_fits (map (λ y. value_in y ps) os) ≡ false) → (maybe_fits (value_in o ps) && list_all maybe_fits (map (λ y. value_in y ps) os)) ≡ false
    go true e k rest = ap (λ (f : Bool). f && list_all maybe_fits (map (λ y. value_in y ps) os)) (ap (λ y. maybe_fits (value_in y ps)) (same o x (sym e)) ∙ ap maybe_fits is ∙ bad)
    go false e k rest = ap (λ (b : Bool). maybe_fits (value_in o ps) && b) (rest k) ∙ and_false (maybe_fits (value_in o ps))

pub fits-same : (os : List Text) (ps : List (Text × Text)) → AreGiven os ps → list_all maybe_fits (map (λ x. value_in x ps) os) ≡ list_all (λ p. fits p.1) ps
fits-same os ps given = go (list_all (λ p. fits p.1) ps) refl
  where
    go : (b : Bool) → b ≡ list_all (λ p. fits p.1) ps → list_all maybe_fits (map (λ x. value_in x ps) os) ≡ list_all (λ p. fits p.1) ps
    go true e = values-fit os ps (sym e) ∙ e
    go false e = let b = bad-value os ps given (sym e) in not-all os b.option b.value ps b.known b.is b.bad ∙ e

-- ---- what clap gives

pub first-one : (o : Option Text) → first_of (one_value o) ≡ o
first-one None = refl
first-one (Some v) = refl

or_true : (b : Bool) → (b || true) ≡ true
or_true true = refl
or_true false = refl

found-all : (os xs : List Text) (rows : List Row) (r : Reading) → ((x : Text) → is_known xs x ≡ true → is_known os x ≡ true) → Shows os rows r → map (λ x. first_of (found x rows)) xs ≡ map (λ x. value_in x r.options) xs
found-all os [] rows r within shows = refl
found-all os (x ∷ xs) rows r within shows = ap₂ (λ v vs. v ∷ vs)
    (ap first_of (shows.options x (within x (ap (λ (b : Bool). b || is_known xs x) (bytes_eq-refl x)))) ∙ first-one (value_in x r.options))
    (found-all os xs rows r (λ y k. within y (ap (λ (b : Bool). bytes_eq x y || b) k ∙ or_true (bytes_eq x y))) shows)

names-all : (names : List Text) → unwrap_or (some_list names) [] ≡ names
names-all [] = refl
names-all (name ∷ names) = refl

pub parts-read : (os words : List Text) (rows : List Row) (values : List (Option Text)) (names : List Text) → IsReadAs os words rows → values ≡ map (λ x. first_of (found x rows)) os → names ≡ unwrap_or (found names_id rows) []
    → if_all_fit values names ≡ option_map (parts_of os) (read os words)
parts-read os words rows values names h values_are names_are =
    ap₂ if_all_fit values_is names_is ∙ at (list_all fits r.names) ∙ ap (λ (o : Option Reading). option_map (parts_of os) (option_and_then if_fits o)) (sym h.1)
  where
    r : Reading
    r = h.0

    values_is : values ≡ map (λ x. value_in x r.options) os
    values_is = values_are ∙ found-all os os rows r (λ x k. k) h.2

    names_is : names ≡ r.names
    names_is = names_are ∙ ap (λ o. unwrap_or o []) h.2.names ∙ names-all r.names

    given : AreGiven os r.options
    given = given-read os words nothing_read before_dashes r tt tt h.1

    at : (f : Bool) → (if f && list_all maybe_fits (map (λ x. value_in x r.options) os) then Some (parts_of os r) else None) ≡ option_map (parts_of os) (if f && list_all (λ p. fits p.1) r.options then Some r else None)
    at false = refl
    at true = ap (λ (b : Bool). if b then Some (parts_of os r) else None) (fits-same os r.options given) ∙ go (list_all (λ p. fits p.1) r.options)
      where
        go : (b : Bool) → (if b then Some (parts_of os r) else None) ≡ option_map (parts_of os) (if b then Some r else None)
        go true = refl
        go false = refl

pub all-names : (names : List (Bor Text)) → list_all (λ (name : Bor Text). fits name.now) names ≡ list_all fits (map (λ (name : Bor Text). name.now) names)
all-names [] = refl
all-names (name ∷ names) = ap (λ b. fits name.now && b) (all-names names)

pub all-values : (values : List (Option (Bor Text))) → list_all (λ (value : Option (Bor Text)). maybe_fits (maybe_text value)) values ≡ list_all maybe_fits (map maybe_text values)
all-values [] = refl
all-values (value ∷ values) = ap (λ b. maybe_fits (maybe_text value) && b) (all-values values)
