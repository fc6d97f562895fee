-- What clap answers at the words, against the reading of them.
use Rattle.std.proofs.Common.{◌≡◌, ◌≢◌, ◌∙◌, ◌==◌, ◌&&◌, ◌||◌, ◌+◌, ◌-◌, ◌<◌, ◌≤◌, take, get_or, sub-one, add-one, suc, ℕ, Bool, true, false, not, refl, sym, ap, subst, arith, List, [], ◌∷◌, ◌++◌, map, length, Option, Some, None, if◌then◌else◌, is_some}
use Rattle.std.specs.Prelude.{option_and_then, fold, drop, count_by}
use Rattle.std.specs.List.{list_any, list_all}
use Rattle.std.specs.Str.{bytes_eq}
use Rattle.std.proofs.lemmas.Bool.{true≢false}
use Rattle.std.proofs.lemmas.List.{take_more, map-append, drop_all}
use Rattle.std.proofs.Math.Seq.{take-length, drop-cons}
use Rattle.clap.specs.Walk.{Rule, Row, Walk, walked, settled, nothing_held, walk_from, with_default, is_early_multiple}
use Rattle.clap.specs.Kinds.{or_else, Kinds, IsAmong}
use Rattle.clap.specs.declared.error.kind.ErrorKind.{ErrorKind}
use Rattle.clap.specs.Faults.{settle_fault, fault_of, built_fault, is_simple_and_free}
use Rattle.clap.specs.Simple.{App, matches_of, is_simple, with_rule}
use Rattle.clap.proofs.FaultLemmas.{leaf_fault}
use Rattle.cacao_cli_words.specs.Words.{Text, Reading, State, Place, before_dashes, behind_dashes, behind_option, at, nothing_read, begins_hyphen, dashes, is_known, has_value, with_name, with_option, option_in, after_name, after_value, after_option, after_word, next, read_from}
use Rattle.cacao_cli_words.specs.Hyphens.{begins_two, word_passes, passes}
use Rattle.cacao_cli_words.specs.ClapCommand.{app, options_of, raw_names, raw_option, rules, shape}
use Rattle.cacao_cli_words.proofs.ClapRules.{built_is, filled_is, same, finishes, no_defaults, none_wanted}
use Rattle.cacao_cli_words.specs.ClapRows.{Shows, IsApart, IsReadAs}
use Rattle.cacao_cli_words.proofs.ClapSteps.{no_kinds, Kind, is_dashes, is_long, is_plain, classify, option-long}
use Rattle.cacao_cli_words.proofs.ClapWalk.{Agrees, agrees, run, end_rows, is_behind}

or_nil : (a : Kinds) → or_else a [] ≡ a
or_nil [] = refl
or_nil (k ∷ ks) = refl

pub fault_is : (os : List Text) (word : Text) (words : List Text) → fault_of (app os) (word ∷ words) ≡ run os (walk_from nothing_held) words
fault_is os word words =
    ap (λ (a : App). built_fault a nothing_held words) (built_is os) ∙ leaf_fault (record { top = shape os; subs = [] }) nothing_held words refl
    ∙ rw (no_defaults os, none_wanted os, or_nil (settle_fault (rules os) false (fold (walked (rules os) []) (walk_from nothing_held) words).held)) refl

pub matches_are : (os : List Text) (word : Text) (words : List Text) → matches_of (app os) (word ∷ words) ≡ end_rows os (walk_from nothing_held) words
matches_are os word words = ap (λ rs. fold with_default (settled rs (fold (walked rs []) (walk_from nothing_held) words).held).rows rs) (filled_is os) ∙ finishes os (end_rows os (walk_from nothing_held) words)

pub one_index : (os : List Text) → count_by (λ (a : Rule). is_some a.index) (rules os) ≡ 1
one_index [] = refl
one_index (x ∷ os) = one_index os

raw_simple : (os : List Text) → list_all (λ (a : Rule). a.is_simple) (map raw_option os ++ raw_names ∷ []) ≡ true
raw_simple [] = refl
raw_simple (x ∷ os) = raw_simple os

all_simple : (os : List Text) → list_all (λ (a : Rule). a.is_simple) (rules os) ≡ true
all_simple [] = refl
all_simple (x ∷ os) = all_simple os

all_free : (os : List Text) → list_all (λ (a : Rule). a.is_free) (rules os) ≡ true
all_free [] = refl
all_free (x ∷ os) = all_free os

none_early : (os : List Text) → list_any (is_early_multiple 1) (rules os) ≡ false
none_early [] = refl
none_early (x ∷ os) = none_early os

pub is_simple_app : (os : List Text) → is_simple (app os) ≡ true
is_simple_app os = rw (filled_is os, raw_simple os, all_simple os, one_index os, none_early os) refl

pub is_simple_free : (os : List Text) → is_simple_and_free (app os) ≡ true
is_simple_free os = rw (is_simple_app os, filled_is os, all_free os) refl

empty_shows : (os : List Text) → Shows os [] nothing_read
empty_shows os = record { options = λ x known. refl; names = refl }

-- the words are read exactly where clap takes them, and as clap reads them
pub read_is : (os : List Text) → IsApart os → (word : Text) (words : List Text) → passes false words ≡ true → Agrees os (read_from os nothing_read before_dashes words) (walk_from nothing_held) words
read_is os apart word words ok = agrees os apart words (walk_from nothing_held) nothing_read before_dashes (record {
  rows = [];
  pending = None;
  skip = 0;
  is_idle = true;
  is = refl;
  settles = refl;
  shows = empty_shows os;
}) ok

-- ---- words that own code refuses have no reading

abbrev EndsAs : Option State → Bool → Type 0
EndsAs None b = Unit {0}
EndsAs (Some s) b = is_behind s.place ≡ b

name_ends : (place : Place) (r : Reading) (word : Text) → EndsAs (after_name place r word) (is_behind place)
name_ends place r word = go (begins_hyphen word)
  where
    go : (b : Bool) → EndsAs (if b then None else Some (at (with_name word r) place)) (is_behind place)
    go true = tt
    go false = refl

option_ends : (r : Reading) (x : Text) (v : Option Text) → is_behind (after_option r x v).place ≡ false
option_ends r x None = refl
option_ends r x (Some v) = refl

long_ends : (os : List Text) (r : Reading) (word : Text) (q : Text × Option Text) → EndsAs (after_word os r word (Some q)) false
long_ends os r word q = go (is_known os q.0 && not (has_value q.0 r.options))
  where
    go : (b : Bool) → EndsAs (if b then Some (after_option r q.0 q.1) else None) false
    go false = tt
    go true = option_ends r q.0 q.1

value_ends : (r : Reading) (x word : Text) → EndsAs (after_value r x word) false
value_ends r x word = go (begins_hyphen word)
  where
    go : (b : Bool) → EndsAs (if b then None else Some (at (with_option x word r) before_dashes)) false
    go true = tt
    go false = refl

word_ends : (os : List Text) (r : Reading) (word : Text) → Kind word → EndsAs (next os r before_dashes word) (bytes_eq word dashes)
word_ends os r word (is_dashes e) = let is : next os r before_dashes word ≡ Some (at r behind_dashes) = rw e refl in subst (λ o. EndsAs o (bytes_eq word dashes)) (sym is) (sym e)
word_ends os r word (is_long q l d m) = let o : option_in word ≡ Some q = option-long word ∙ l in let is : next os r before_dashes word ≡ after_word os r word (Some q) = rw (d, o) refl in
    subst (λ o. EndsAs o (bytes_eq word dashes)) (sym is) (subst (EndsAs (after_word os r word (Some q))) (sym d) (long_ends os r word q))
word_ends os r word (is_plain m l s d) = let o : option_in word ≡ None = option-long word ∙ l in let is : next os r before_dashes word ≡ after_name before_dashes r word = rw (d, o) refl in
    subst (λ o. EndsAs o (bytes_eq word dashes)) (sym is) (subst (EndsAs (after_name before_dashes r word)) (sym d) (name_ends before_dashes r word))

kind_ends : (os : List Text) (r : Reading) (x word : Text) → Kind word → EndsAs (after_value r x word) (bytes_eq word dashes)
kind_ends os r x word (is_dashes e) = let is : after_value r x word ≡ None = let same_word : word ≡ dashes = same word dashes e in rw same_word refl in subst (λ o. EndsAs o (bytes_eq word dashes)) (sym is) tt
kind_ends os r x word (is_long q l d m) = subst (EndsAs (after_value r x word)) (sym d) (value_ends r x word)
kind_ends os r x word (is_plain m l s d) = subst (EndsAs (after_value r x word)) (sym d) (value_ends r x word)

-- a word that begins with one hyphen only
short_read : (os : List Text) (r : Reading) (word : Text) → word_passes false word ≡ false → next os r before_dashes word ≡ None
short_read os r [] e = absurd (true≢false e)
short_read os r (x ∷ []) e = go (x == 45) refl
  where
    go : (b : Bool) → b ≡ (x == 45) → next os r before_dashes (x ∷ []) ≡ None
    go true h = rw (sym h) refl
    go false h = let bad : word_passes false (x ∷ []) ≡ true = rw (sym h) refl in absurd (true≢false (sym bad ∙ e))
short_read os r (x ∷ y ∷ ys) e = go (x == 45) (y == 45) refl refl
  where
    none : (zs : List ℕ) → (x == 45) ≡ true → (y == 45) ≡ false → option_in (x ∷ y ∷ zs) ≡ None
    none [] h f = refl
    none (z ∷ zs) h f = rw (h, f) refl

    go : (b c : Bool) → b ≡ (x == 45) → c ≡ (y == 45) → next os r before_dashes (x ∷ y ∷ ys) ≡ None
    go true false h f = let other : bytes_eq (x ∷ y ∷ ys) dashes ≡ false = rw (sym h, sym f) refl in let o : option_in (x ∷ y ∷ ys) ≡ None = none ys (sym h) (sym f) in rw (other, o, sym h) refl
    go true true h f = let bad : word_passes false (x ∷ y ∷ ys) ≡ true = rw (sym h, sym f) refl in absurd (true≢false (sym bad ∙ e))
    go false c h f = let bad : word_passes false (x ∷ y ∷ ys) ≡ true = rw (sym h) refl in absurd (true≢false (sym bad ∙ e))

hyphen_from : (b c : Bool) → (not b || c) ≡ false → b ≡ true
hyphen_from true c e = refl
hyphen_from false c e = absurd (true≢false e)

stopped_read : (os : List Text) (r : Reading) (place : Place) (word : Text) → word_passes (is_behind place) word ≡ false → next os r place word ≡ None
stopped_read os r behind_dashes word e = rw (hyphen_from (begins_hyphen word) false e) refl
stopped_read os r before_dashes word e = short_read os r word e
stopped_read os r (behind_option x) word e = rw (hyphen_from (begins_hyphen word) (begins_two word) e) refl

read_ends : (os : List Text) (r : Reading) (place : Place) (word : Text) → word_passes (is_behind place) word ≡ true → EndsAs (next os r place word) (is_behind place || bytes_eq word dashes)
read_ends os r behind_dashes word e = name_ends behind_dashes r word
read_ends os r before_dashes word e = word_ends os r word (classify word e)
read_ends os r (behind_option x) word e = kind_ends os r x word (classify word e)

pub refused : (os : List Text) (words : List Text) (r : Reading) (place : Place) → passes (is_behind place) words ≡ false → read_from os r place words ≡ None
unfolding passes read_from
refused os [] r place e = absurd (true≢false e)
refused os (word ∷ rest) r place e = go (word_passes (is_behind place) word) refl (λ s h. refused os rest s.reading s.place h)
  where
    go : (b : Bool) → b ≡ word_passes (is_behind place) word → ((s : State) → passes (is_behind s.place) rest ≡ false → read_from os s.reading s.place rest ≡ None) → option_and_then (λ s. read_from os s.reading s.place rest) (next os r place word) ≡ None
    go false h go_on = ap (option_and_then (λ s. read_from os s.reading s.place rest)) (stopped_read os r place word (sym h))
    go true h go_on = here (next os r place word) (read_ends os r place word (sym h))
      where
        later : passes (is_behind place || bytes_eq word dashes) rest ≡ false
        later = ap (λ b. b && passes (is_behind place || bytes_eq word dashes) rest) h ∙ e

        here : (o : Option State) → EndsAs o (is_behind place || bytes_eq word dashes) → option_and_then (λ s. read_from os s.reading s.place rest) o ≡ None
        here None f = refl
        here (Some s) f = go_on s (ap (λ b. passes b rest) f ∙ later)

-- ---- the clauses of clap, joined

no_nil : (a : Kinds) (k : ErrorKind) → IsAmong k a → a ≢ []
no_nil [] k h e = absurd h
no_nil (x ∷ xs) k h e = no_kinds x xs e

read_at : (os : List Text) (o : Option Reading) (w : Walk) (words : List Text) → Agrees os o w words → run os w words ≡ [] → (r : Reading) × (o ≡ Some r) × Shows os (end_rows os w words) r
read_at os None w words h e = absurd (h e)
read_at os (Some r) w words h e = (r, refl, h.1)

none_at : (os : List Text) (o : Option Reading) (w : Walk) (words : List Text) → Agrees os o w words → run os w words ≢ [] → o ≡ None
none_at os None w words h e = refl
none_at os (Some r) w words h e = absurd (e h.0)

pub read_ok : (os : List Text) → IsApart os → (all : List Text) → 0 < length all → passes false (drop 1 all) ≡ true → fault_of (app os) all ≡ [] → (rows : List Row) → rows ≡ matches_of (app os) all → IsReadAs os (drop 1 all) rows
read_ok os apart [] some ok e rows is = absurd (omega arith)
read_ok os apart (word ∷ words) some ok e rows is =
    let got = read_at os (read_from os nothing_read before_dashes words) (walk_from nothing_held) words (read_is os apart word words ok) (sym (fault_is os word words) ∙ e) in
    (got.0, got.1, subst (λ v. Shows os v got.0) (sym (is ∙ matches_are os word words)) got.2)

pub read_err : (os : List Text) → IsApart os → (all : List Text) → 0 < length all → passes false (drop 1 all) ≡ true → (k : ErrorKind) → IsAmong k (fault_of (app os) all) → read_from os nothing_read before_dashes (drop 1 all) ≡ None
read_err os apart [] some ok k among = absurd (omega arith)
read_err os apart (word ∷ words) some ok k among = none_at os (read_from os nothing_read before_dashes words) (walk_from nothing_held) words (read_is os apart word words ok)
    (λ e. no_nil (fault_of (app os) (word ∷ words)) k among (fault_is os word words ∙ e))

-- ---- lists

pub rest_of : {X : Type 0} (f : X → Text) (xs : List X) → map f (take (length xs - 1) (drop 1 xs)) ≡ drop 1 (map f xs)
rest_of f [] = refl
rest_of f (x ∷ xs) = ap (map f) (ap (λ n. take n xs) (sub-one (suc (length xs))) ∙ take-length xs)

pub one_more : {X : Type 0} (f : X → Text) (xs : List X) (i : ℕ) (d : X) → i < length xs → options_of (map f (take (i + 1) xs)) ≡ with_rule (options_of (map f (take i xs))) (raw_option (f (get_or xs i d)))
one_more f xs i d h = ap (λ l. options_of (map f l)) (take_more xs i d h) ∙ rw (map-append f (take i xs) (get_or xs i d ∷ []), map-append raw_option (map f (take i xs)) (f (get_or xs i d) ∷ [])) refl

pub passes-more : {X : Type 0} (f : X → Text) (xs : List X) (i : ℕ) (d : X) (t : Bool) → i < length xs → passes t (map f (drop i xs)) ≡ (word_passes t (f (get_or xs i d)) && passes (t || bytes_eq (f (get_or xs i d)) dashes) (map f (drop (i + 1) xs)))
unfolding passes
passes-more f xs i d t h = ap (λ l. passes t (map f l)) (drop-cons xs i d h) ∙ ap (λ n. word_passes t (f (get_or xs i d)) && passes (t || bytes_eq (f (get_or xs i d)) dashes) (map f (drop n xs))) (sym (add-one i))

pub passes-end : {X : Type 0} (f : X → Text) (xs : List X) (i : ℕ) (t : Bool) → length xs ≤ i → passes t (map f (drop i xs)) ≡ true
unfolding passes
passes-end f xs i t h = let none : drop i xs ≡ [] = drop_all i xs h in ap (λ l. passes t (map f l)) none

pub passes-next : {X : Type 0} (f : X → Text) (xs : List X) (i : ℕ) (x : X) (t e first : Bool) → i < length xs → x ≡ get_or xs i x → first ≡ passes t (map f (drop i xs)) → word_passes t (f x) ≡ true
    → e ≡ (t || bytes_eq (f x) dashes) → first ≡ passes e (map f (drop (i + 1) xs))
passes-next f xs i x t e first h is inv ok ends =
    let at : passes t (map f (drop i xs)) ≡ (word_passes t (f x) && passes (t || bytes_eq (f x) dashes) (map f (drop (i + 1) xs))) = subst (λ y. passes t (map f (drop i xs)) ≡ (word_passes t (f y) && passes (t || bytes_eq (f y) dashes) (map f (drop (i + 1) xs)))) (sym is) (passes-more f xs i x t h) in
    inv ∙ at ∙ ap (λ b. b && passes (t || bytes_eq (f x) dashes) (map f (drop (i + 1) xs))) ok ∙ ap (λ b. passes b (map f (drop (i + 1) xs))) (sym ends)

pub passes-fails : {X : Type 0} (f : X → Text) (xs : List X) (i : ℕ) (x : X) (t first : Bool) → i < length xs → x ≡ get_or xs i x → first ≡ passes t (map f (drop i xs)) → word_passes t (f x) ≡ false → false ≡ first
passes-fails f xs i x t first h is inv ok =
    let at : passes t (map f (drop i xs)) ≡ (word_passes t (f x) && passes (t || bytes_eq (f x) dashes) (map f (drop (i + 1) xs))) = subst (λ y. passes t (map f (drop i xs)) ≡ (word_passes t (f y) && passes (t || bytes_eq (f y) dashes) (map f (drop (i + 1) xs)))) (sym is) (passes-more f xs i x t h) in
    sym (inv ∙ at ∙ ap (λ b. b && passes (t || bytes_eq (f x) dashes) (map f (drop (i + 1) xs))) ok)
