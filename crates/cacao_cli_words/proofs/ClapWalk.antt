-- The walk over the words agrees with the reading of them.
use Rattle.std.proofs.Common.{◌≡◌, ◌≢◌, ◌∙◌, ◌&&◌, ◌||◌, ℕ, Bool, true, false, not, refl, sym, ap, subst, List, [], ◌∷◌, Option, Some, None, if◌then◌else◌}
use Rattle.std.specs.Prelude.{option_and_then, fold}
use Rattle.std.specs.Str.{bytes_eq}
use Rattle.std.proofs.lemmas.Bool.{true≢false}
use Rattle.clap.specs.Lexer.{long_of}
use Rattle.clap.specs.Walk.{Row, Walk, Waiting, idle, option, positional, has_row, without, with_values, walked, settled, settled_rows, reading_by}
use Rattle.clap.specs.declared.parser.matches.ValueSource.TheVariants.{CommandLine}
use Rattle.clap.specs.Kinds.{or_else, Kinds}
use Rattle.clap.specs.declared.error.kind.ErrorKind.TheVariants as kind
use Rattle.clap.specs.Faults.{turn_fault, walk_fault, settle_fault, use_fault}
use Rattle.cacao_cli_words.specs.Words.{Text, Reading, State, Place, before_dashes, behind_dashes, behind_option, at, begins_hyphen, dashes, is_known, has_value, with_name, with_option, option_in, after_name, after_value, after_option, after_word, next, read_from}
use Rattle.cacao_cli_words.specs.Hyphens.{word_passes, passes}
use Rattle.cacao_cli_words.specs.ClapCommand.{names_id, names_rule, option_rule, rules, shape}
use Rattle.cacao_cli_words.proofs.ClapRules.{same}
use Rattle.cacao_cli_words.proofs.ClapRowLemmas.{Shows, IsApart, row_read, shows_name, shows_option}
use Rattle.cacao_cli_words.proofs.ClapSteps.{mk, held, resting, Kind, is_dashes, is_long, is_plain, classify, option-long, option_fits, option_repeats, option_wants, no_kinds, or_left, or_right, option_settles, name_settles, option_rows, name_rows, dashes_fault, dashes_walk, unknown_fault, waits_fault, waits_walk, takes_fault, takes_walk, ended_fault, ended_walk, plain_fault, plain_walk, value_fault, value_walk}

abbrev pub run : List Text → Walk → List Text → Kinds
run os w words = or_else (walk_fault (shape os) [] w words) (settle_fault (rules os) false (fold (walked (rules os) []) w words).held)

abbrev pub end_rows : List Text → Walk → List Text → List Row
end_rows os w words = (settled (rules os) (fold (walked (rules os) []) w words).held).rows

abbrev pub Agrees : List Text → Option Reading → Walk → List Text → Type 0
Agrees os None w words = run os w words ≢ []
Agrees os (Some r) w words = (run os w words ≡ []) × Shows os (end_rows os w words) r

run-next : (os : List Text) (w after : Walk) (word : Text) (rest : List Text) → turn_fault (shape os) [] w word ≡ [] → walked (rules os) [] w word ≡ after → run os w (word ∷ rest) ≡ run os after rest
unfolding walk_fault
run-next os w after word rest e is = rw e (ap (λ v. run os v rest) is)

run-stop : (os : List Text) (w : Walk) (word : Text) (rest : List Text) → turn_fault (shape os) [] w word ≢ [] → run os w (word ∷ rest) ≢ []
unfolding walk_fault
run-stop os w word rest h = or_left _ _ (or_left _ _ h)

run-end : (os : List Text) (w : Walk) → run os w [] ≡ settle_fault (rules os) false w.held
unfolding walk_fault
run-end os w = refl

not_at : {a b : Kinds} → a ≡ b → b ≢ [] → a ≢ []
not_at e h none = h (sym e ∙ none)

agrees-next : (os : List Text) (o : Option Reading) (w after : Walk) (word : Text) (rest : List Text) → turn_fault (shape os) [] w word ≡ [] → walked (rules os) [] w word ≡ after → Agrees os o after rest → Agrees os o w (word ∷ rest)
agrees-next os None w after word rest e is h = not_at (run-next os w after word rest e is) h
agrees-next os (Some r) w after word rest e is h = (run-next os w after word rest e is ∙ h.0, subst (λ v. Shows os (end_rows os v rest) r) (sym is) h.1)

both : (a b : Bool) → (a && b) ≡ true → (a ≡ true) × (b ≡ true)
both true b e = (refl, e)
both false b e = absurd (true≢false (sym e))

-- ---- a walk that is to fail

stuck_run : (os : List Text) (rest : List Text) (rows : List Row) (p : Option (Text × List Text)) (k : ℕ) (wt : Waiting) → settle_fault (rules os) false (held rows p k) ≢ [] → run os (mk rows p k wt true) rest ≢ []
stuck_run os [] rows p k wt h = not_at (run-end os (mk rows p k wt true)) h
stuck_run os (word ∷ rest) rows p k wt h = run-stop os (mk rows p k wt true) word rest (not_at (ended_fault os rows p k wt word) h)

-- a long word, where what is pending fails
long_stuck : (os : List Text) (rows : List Row) (p : Option (Text × List Text)) (k : ℕ) (wt : Waiting) (word : Text) (q : Text × Option Text) → settle_fault (rules os) false (held rows p k) ≢ [] → bytes_eq word dashes ≡ false → long_of word ≡ Some q
    → turn_fault (shape os) [] (mk rows p k wt false) word ≢ []
long_stuck os rows p k wt word (x, v) h d l = go (is_known os x) refl v l
  where
    go : (b : Bool) → b ≡ is_known os x → (u : Option Text) → long_of word ≡ Some (x, u) → turn_fault (shape os) [] (mk rows p k wt false) word ≢ []
    go false e u m = not_at (unknown_fault os rows p k wt word x u d m (sym e)) (no_kinds kind.UnknownArgument [])
    go true e None m = not_at (waits_fault os rows p k wt word x d m (sym e)) (or_left _ _ h)
    go true e (Some u) m = not_at (takes_fault os rows p k wt word x u d m (sym e)) (or_left _ _ (or_left _ _ h))

given_run : (os : List Text) (rest : List Text) (x v : Text) (rows : List Row) (k : ℕ) → is_known os x ≡ true → has_row x rows ≡ true → passes false rest ≡ true → run os (mk rows (Some (x, v ∷ [])) k idle false) rest ≢ []
unfolding passes
given_run os [] x v rows k known has ok = not_at (run-end os (mk rows (Some (x, v ∷ [])) k idle false)) (not_at (option_settles os x (v ∷ []) rows k known) (option_repeats x (v ∷ []) rows has))
given_run os (word ∷ rest) x v rows k known has ok = go (classify word (both _ _ ok).0)
  where
    bad : settle_fault (rules os) false (held rows (Some (x, v ∷ [])) k) ≢ []
    bad = not_at (option_settles os x (v ∷ []) rows k known) (option_repeats x (v ∷ []) rows has)

    go : Kind word → run os (mk rows (Some (x, v ∷ [])) k idle false) (word ∷ rest) ≢ []
    go (is_dashes e) = not_at (run-next os _ (mk rows (Some (x, v ∷ [])) k idle true) word rest (dashes_fault os rows (Some (x, v ∷ [])) k idle word e) (dashes_walk os rows (Some (x, v ∷ [])) k idle word e)) (stuck_run os rest rows (Some (x, v ∷ [])) k idle bad)
    go (is_long q l d m) = run-stop os _ word rest (long_stuck os rows (Some (x, v ∷ [])) k idle word q bad d l)
    go (is_plain m l s d) = run-stop os _ word rest (not_at (plain_fault os rows (Some (x, v ∷ [])) k word true d l s) bad)

asks_run : (os : List Text) (rest : List Text) (x : Text) (rows : List Row) (k : ℕ) → is_known os x ≡ true → has_row x rows ≡ true → passes false rest ≡ true → run os (mk rows (Some (x, [])) k (option x) false) rest ≢ []
unfolding passes
asks_run os [] x rows k known has ok = not_at (run-end os (mk rows (Some (x, [])) k (option x) false)) (not_at (option_settles os x [] rows k known) (option_wants x rows))
asks_run os (word ∷ rest) x rows k known has ok = go (classify word (both _ _ ok).0)
  where
    bad : settle_fault (rules os) false (held rows (Some (x, [])) k) ≢ []
    bad = not_at (option_settles os x [] rows k known) (option_wants x rows)

    go : Kind word → run os (mk rows (Some (x, [])) k (option x) false) (word ∷ rest) ≢ []
    go (is_dashes e) = not_at (run-next os _ (mk rows (Some (x, [])) k (option x) true) word rest (dashes_fault os rows (Some (x, [])) k (option x) word e) (dashes_walk os rows (Some (x, [])) k (option x) word e)) (stuck_run os rest rows (Some (x, [])) k (option x) bad)
    go (is_long q l d m) = run-stop os _ word rest (long_stuck os rows (Some (x, [])) k (option x) word q bad d l)
    go (is_plain m l s d) = let after : passes false rest ≡ true = ap (λ b. passes b rest) (sym d) ∙ (both (word_passes false word) (passes (bytes_eq word dashes) rest) ok).1 in
        not_at (run-next os _ (mk rows (Some (x, word ∷ [])) k idle false) word rest (value_fault os rows x k word d l s) (value_walk os rows x k word known d l s)) (given_run os rest x word rows k known has after)

-- ---- a walk that goes on as the reading does

pub record RestsAt (os : List Text) (w : Walk) (r : Reading) (t : Bool) : Type 0 where
  pub rows : List Row
  pub pending : Option (Text × List Text)
  pub skip : ℕ
  pub is_idle : Bool
  pub is : w ≡ mk rows pending skip (resting is_idle) t
  pub settles : settle_fault (rules os) false (held rows pending skip) ≡ []
  pub shows : Shows os (settled_rows (rules os) pending rows) r

pub record AsksAt (os : List Text) (w : Walk) (r : Reading) (x : Text) : Type 0 where
  pub rows : List Row
  pub skip : ℕ
  pub is : w ≡ mk rows (Some (x, [])) skip (option x) false
  pub known : is_known os x ≡ true
  pub fresh : has_row x rows ≡ false
  pub shows : Shows os rows r

abbrev pub Follows : List Text → Walk → Reading → Place → Type 0
Follows os w r before_dashes = RestsAt os w r false
Follows os w r behind_dashes = RestsAt os w r true
Follows os w r (behind_option x) = AsksAt os w r x

-- whether `--` has ended the options
abbrev pub is_behind : Place → Bool
is_behind before_dashes = false
is_behind behind_dashes = true
is_behind (behind_option x) = false

abbrev pub place_of : Bool → Place
place_of true = behind_dashes
place_of false = before_dashes

follows-rest : (os : List Text) (w : Walk) (r : Reading) (t : Bool) → RestsAt os w r t → Follows os w r (place_of t)
follows-rest os w r true f = f
follows-rest os w r false f = f

behind-place : (t : Bool) → is_behind (place_of t) ≡ t
behind-place true = refl
behind-place false = refl

abbrev pub StepAgrees : List Text → Walk → Bool → Text → Option State → Type 0
StepAgrees os w t word None = (rest : List Text) → passes (t || bytes_eq word dashes) rest ≡ true → run os w (word ∷ rest) ≢ []
StepAgrees os w t word (Some s) = (turn_fault (shape os) [] w word ≡ []) × Follows os (walked (rules os) [] w word) s.reading s.place × (is_behind s.place ≡ (t || bytes_eq word dashes))

not_true : (b c : Bool) → (not b || c) ≡ true → c ≡ false → b ≡ false
not_true true c h e = absurd (true≢false (sym h ∙ e))
not_true false c h e = refl

-- a name, at rest
name_step : (os : List Text) → IsApart os → (w : Walk) (r : Reading) (t : Bool) (word : Text) (f : RestsAt os w r t) → begins_hyphen word ≡ false
    → turn_fault (shape os) [] (mk f.rows f.pending f.skip (resting f.is_idle) t) word ≡ settle_fault (rules os) false (held f.rows f.pending f.skip)
    → walked (rules os) [] (mk f.rows f.pending f.skip (resting f.is_idle) t) word ≡ mk (settled_rows (rules os) f.pending f.rows) (Some (names_id, word ∷ [])) f.skip positional t
    → t ≡ (t || bytes_eq word dashes) → StepAgrees os w t word (after_name (place_of t) r word)
name_step os apart w r t word f m fault after stays = subst (StepAgrees os w t word) (sym is_read) (
  ap (λ v. turn_fault (shape os) [] v word) f.is ∙ fault ∙ f.settles,
  follows-rest os (walked (rules os) [] w word) (with_name word r) t (record {
    rows = settled_rows (rules os) f.pending f.rows;
    pending = Some (names_id, word ∷ []);
    skip = f.skip;
    is_idle = false;
    is = ap (λ v. walked (rules os) [] v word) f.is ∙ after;
    settles = name_settles os word (settled_rows (rules os) f.pending f.rows) f.skip apart;
    shows = subst (λ rows. Shows os rows (with_name word r)) (sym (name_rows os word (settled_rows (rules os) f.pending f.rows) apart)) (shows_name os (settled_rows (rules os) f.pending f.rows) r word (reading_by names_rule) CommandLine apart f.shows);
  }),
  behind-place t ∙ stays,
)
  where
    is_read : after_name (place_of t) r word ≡ Some (at (with_name word r) (place_of t))
    is_read = rw m refl

-- a long word, at rest
long_step : (os : List Text) → IsApart os → (w : Walk) (r : Reading) (word : Text) (f : RestsAt os w r false) (x : Text) (v : Option Text) → long_of word ≡ Some (x, v) → bytes_eq word dashes ≡ false
    → StepAgrees os w false word (after_word os r word (Some (x, v)))
long_step os apart w r word f x v l d = first (is_known os x) refl
  where
    fails : turn_fault (shape os) [] (mk f.rows f.pending f.skip (resting f.is_idle) false) word ≢ [] → StepAgrees os w false word None
    fails h = λ rest ok. run-stop os w word rest (not_at (ap (λ u. turn_fault (shape os) [] u word) f.is) h)

    again : (u : Option Text) → long_of word ≡ Some (x, u) → is_known os x ≡ true → has_row x (settled_rows (rules os) f.pending f.rows) ≡ true → StepAgrees os w false word None
    again None m known has = λ rest ok. not_at (run-next os w (mk (settled_rows (rules os) f.pending f.rows) (Some (x, [])) f.skip (option x) false) word rest
        (ap (λ u. turn_fault (shape os) [] u word) f.is ∙ waits_fault os f.rows f.pending f.skip (resting f.is_idle) word x d m known ∙ ap (λ ks. or_else ks []) f.settles)
        (ap (λ u. walked (rules os) [] u word) f.is ∙ waits_walk os f.rows f.pending f.skip (resting f.is_idle) word x d m known))
        (asks_run os rest x (settled_rows (rules os) f.pending f.rows) f.skip known has (ap (λ b. passes b rest) (sym d) ∙ ok))
    again (Some u) m known has = fails (not_at (takes_fault os f.rows f.pending f.skip (resting f.is_idle) word x u d m known) (or_left _ _ (or_right _ _ (option_repeats x (u ∷ []) (settled_rows (rules os) f.pending f.rows) has))))

    takes : (u : Option Text) → long_of word ≡ Some (x, u) → is_known os x ≡ true → has_row x (settled_rows (rules os) f.pending f.rows) ≡ false → StepAgrees os w false word (Some (after_option r x u))
    takes None m known fresh = (
      ap (λ u. turn_fault (shape os) [] u word) f.is ∙ waits_fault os f.rows f.pending f.skip (resting f.is_idle) word x d m known ∙ ap (λ ks. or_else ks []) f.settles,
      record {
        rows = settled_rows (rules os) f.pending f.rows;
        skip = f.skip;
        is = ap (λ u. walked (rules os) [] u word) f.is ∙ waits_walk os f.rows f.pending f.skip (resting f.is_idle) word x d m known;
        known = known;
        fresh = fresh;
        shows = f.shows;
      },
      sym d,
    )
    takes (Some u) m known fresh = (
      ap (λ v. turn_fault (shape os) [] v word) f.is ∙ takes_fault os f.rows f.pending f.skip (resting f.is_idle) word x u d m known ∙ ap (λ ks. or_else (or_else ks (use_fault false (option_rule x) (u ∷ []) (settled_rows (rules os) f.pending f.rows))) []) f.settles ∙ ap (λ ks. or_else ks []) (option_fits x u (settled_rows (rules os) f.pending f.rows) fresh),
      record {
        rows = with_values x (reading_by (option_rule x)) CommandLine (u ∷ []) (without x (settled_rows (rules os) f.pending f.rows));
        pending = None;
        skip = f.skip;
        is_idle = true;
        is = ap (λ v. walked (rules os) [] v word) f.is ∙ takes_walk os f.rows f.pending f.skip (resting f.is_idle) word x u d m known;
        settles = refl;
        shows = shows_option os (settled_rows (rules os) f.pending f.rows) r x u (reading_by (option_rule x)) CommandLine apart known fresh f.shows;
      },
      sym d,
    )

    second : (b : Bool) → b ≡ has_value x r.options → is_known os x ≡ true → StepAgrees os w false word (if not b then Some (after_option r x v) else None)
    second true e known = again v l known (row_read os (settled_rows (rules os) f.pending f.rows) r x f.shows known ∙ sym e)
    second false e known = takes v l known (row_read os (settled_rows (rules os) f.pending f.rows) r x f.shows known ∙ sym e)

    first : (b : Bool) → b ≡ is_known os x → StepAgrees os w false word (if b && not (has_value x r.options) then Some (after_option r x v) else None)
    first true e = second (has_value x r.options) refl (sym e)
    first false e = fails (not_at (unknown_fault os f.rows f.pending f.skip (resting f.is_idle) word x v d l (sym e)) (no_kinds kind.UnknownArgument []))

-- the value of an option
value_step : (os : List Text) → IsApart os → (w : Walk) (r : Reading) (word : Text) (x : Text) (f : AsksAt os w r x) → Kind word → StepAgrees os w false word (after_value r x word)
value_step os apart w r word x f (is_dashes e) = subst (StepAgrees os w false word) (sym is_read) (λ rest ok. not_at (run-next os w (mk f.rows (Some (x, [])) f.skip (option x) true) word rest
    (ap (λ u. turn_fault (shape os) [] u word) f.is ∙ dashes_fault os f.rows (Some (x, [])) f.skip (option x) word e)
    (ap (λ u. walked (rules os) [] u word) f.is ∙ dashes_walk os f.rows (Some (x, [])) f.skip (option x) word e))
    (stuck_run os rest f.rows (Some (x, [])) f.skip (option x) (not_at (option_settles os x [] f.rows f.skip f.known) (option_wants x f.rows))))
  where
    is_read : after_value r x word ≡ None
    is_read = let is : word ≡ dashes = same word dashes e in rw is refl
value_step os apart w r word x f (is_long q l d m) = subst (StepAgrees os w false word) (sym is_read) (λ rest ok. run-stop os w word rest (not_at (ap (λ u. turn_fault (shape os) [] u word) f.is)
    (long_stuck os f.rows (Some (x, [])) f.skip (option x) word q (not_at (option_settles os x [] f.rows f.skip f.known) (option_wants x f.rows)) d l)))
  where
    is_read : after_value r x word ≡ None
    is_read = rw m refl
value_step os apart w r word x f (is_plain m l s d) = subst (StepAgrees os w false word) (sym is_read) (
  ap (λ u. turn_fault (shape os) [] u word) f.is ∙ value_fault os f.rows x f.skip word d l s,
  record {
    rows = f.rows;
    pending = Some (x, word ∷ []);
    skip = f.skip;
    is_idle = true;
    is = ap (λ u. walked (rules os) [] u word) f.is ∙ value_walk os f.rows x f.skip word f.known d l s;
    settles = option_settles os x (word ∷ []) f.rows f.skip f.known ∙ option_fits x word f.rows f.fresh;
    shows = subst (λ rows. Shows os rows (with_option x word r)) (sym (option_rows os x word f.rows f.known)) (shows_option os f.rows r x word (reading_by (option_rule x)) CommandLine apart f.known f.fresh f.shows);
  },
  sym d,
)
  where
    is_read : after_value r x word ≡ Some (at (with_option x word r) before_dashes)
    is_read = rw m refl

rest_step : (os : List Text) → IsApart os → (w : Walk) (r : Reading) (word : Text) (f : RestsAt os w r false) → Kind word → StepAgrees os w false word (next os r before_dashes word)
rest_step os apart w r word f (is_dashes e) = subst (StepAgrees os w false word) (sym is_read) (
  ap (λ u. turn_fault (shape os) [] u word) f.is ∙ dashes_fault os f.rows f.pending f.skip (resting f.is_idle) word e,
  record {
    rows = f.rows;
    pending = f.pending;
    skip = f.skip;
    is_idle = f.is_idle;
    is = ap (λ u. walked (rules os) [] u word) f.is ∙ dashes_walk os f.rows f.pending f.skip (resting f.is_idle) word e;
    settles = f.settles;
    shows = f.shows;
  },
  sym e,
)
  where
    is_read : next os r before_dashes word ≡ Some (at r behind_dashes)
    is_read = rw e refl
rest_step os apart w r word f (is_long (x, v) l d m) = subst (StepAgrees os w false word) (sym is_read) (long_step os apart w r word f x v l d)
  where
    is_read : next os r before_dashes word ≡ after_word os r word (Some (x, v))
    is_read = let o : option_in word ≡ Some (x, v) = option-long word ∙ l in rw (d, o) refl
rest_step os apart w r word f (is_plain m l s d) = subst (StepAgrees os w false word) (sym is_read) (name_step os apart w r false word f m
    (plain_fault os f.rows f.pending f.skip word f.is_idle d l s) (plain_walk os f.rows f.pending f.skip word f.is_idle d l s) (sym d))
  where
    is_read : next os r before_dashes word ≡ after_name before_dashes r word
    is_read = let o : option_in word ≡ None = option-long word ∙ l in rw (d, o) refl

step : (os : List Text) → IsApart os → (w : Walk) (r : Reading) (place : Place) (word : Text) → Follows os w r place → word_passes (is_behind place) word ≡ true → StepAgrees os w (is_behind place) word (next os r place word)
step os apart w r behind_dashes word f ok = name_step os apart w r true word f (not_true (begins_hyphen word) false ok refl)
    (ended_fault os f.rows f.pending f.skip (resting f.is_idle) word) (ended_walk os f.rows f.pending f.skip (resting f.is_idle) word) refl
step os apart w r before_dashes word f ok = rest_step os apart w r word f (classify word ok)
step os apart w r (behind_option x) word f ok = value_step os apart w r word x f (classify word ok)

pub agrees : (os : List Text) → IsApart os → (words : List Text) (w : Walk) (r : Reading) (place : Place) → Follows os w r place → passes (is_behind place) words ≡ true → Agrees os (read_from os r place words) w words
unfolding read_from passes
agrees os apart [] w r before_dashes f ok = (run-end os w ∙ ap (λ u. settle_fault (rules os) false u.held) f.is ∙ f.settles, subst (λ u. Shows os (settled (rules os) u.held).rows r) (sym f.is) f.shows)
agrees os apart [] w r behind_dashes f ok = (run-end os w ∙ ap (λ u. settle_fault (rules os) false u.held) f.is ∙ f.settles, subst (λ u. Shows os (settled (rules os) u.held).rows r) (sym f.is) f.shows)
agrees os apart [] w r (behind_option x) f ok = not_at (run-end os w ∙ ap (λ u. settle_fault (rules os) false u.held) f.is) (not_at (option_settles os x [] f.rows f.skip f.known) (option_wants x f.rows))
agrees os apart (word ∷ rest) w r place f ok =
    go (next os r place word) (step os apart w r place word f (both (word_passes (is_behind place) word) (passes (is_behind place || bytes_eq word dashes) rest) ok).0)
    (λ after s h c. agrees os apart rest after s.reading s.place h c)
  where
    later : passes (is_behind place || bytes_eq word dashes) rest ≡ true
    later = (both (word_passes (is_behind place) word) (passes (is_behind place || bytes_eq word dashes) rest) ok).1

    go : (o : Option State) → StepAgrees os w (is_behind place) word o → ((after : Walk) (s : State) → Follows os after s.reading s.place → passes (is_behind s.place) rest ≡ true → Agrees os (read_from os s.reading s.place rest) after rest)
        → Agrees os (option_and_then (λ s. read_from os s.reading s.place rest) o) w (word ∷ rest)
    go None h go_on = h rest later
    go (Some s) h go_on = agrees-next os (read_from os s.reading s.place rest) w (walked (rules os) [] w word) word rest h.0 refl (go_on (walked (rules os) [] w word) s h.1 (ap (λ b. passes b rest) h.2 ∙ later))
