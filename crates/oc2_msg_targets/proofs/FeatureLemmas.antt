-- Reading a list of features, one at a time.
use Rattle.std.proofs.Common.{◌≡◌, ℕ, ◌+◌, ◌<◌, Bool, true, false, not, ◌&&◌, ◌||◌, List, [], ◌∷◌, ◌++◌, map, length, drop, get_or, Option, Some, None, option_map, refl, sym, ap, ◌∙◌, append_assoc}
use Rattle.std.specs.Prelude.{option_and_then}
use Rattle.std.proofs.lemmas.List.{at_drop_more}
use Rattle.serde_json.specs.Data.{Data, Items, item}
use Rattle.cacao_json.specs.declared.tree.Tree.{Tree}
use Rattle.cacao_json.specs.Tree.{data_of, items_of}
use Rattle.oc2_msg_targets.specs.declared.features.Feature.{Feature}
use Rattle.oc2_msg_targets.specs.declared.features.Feature.TheVariants as feature
use Rattle.oc2_msg_targets.specs.Features.{is_same, has, is_distinct, feature_in, features_in, distinct}

-- ---- features in lists

pub is_same-sym : (f g : Feature) → is_same f g ≡ is_same g f
is_same-sym feature.Versions feature.Versions = refl
is_same-sym feature.Versions feature.Profiles = refl
is_same-sym feature.Versions feature.Pairs = refl
is_same-sym feature.Versions feature.RateLimit = refl
is_same-sym feature.Profiles feature.Versions = refl
is_same-sym feature.Profiles feature.Profiles = refl
is_same-sym feature.Profiles feature.Pairs = refl
is_same-sym feature.Profiles feature.RateLimit = refl
is_same-sym feature.Pairs feature.Versions = refl
is_same-sym feature.Pairs feature.Profiles = refl
is_same-sym feature.Pairs feature.Pairs = refl
is_same-sym feature.Pairs feature.RateLimit = refl
is_same-sym feature.RateLimit feature.Versions = refl
is_same-sym feature.RateLimit feature.Profiles = refl
is_same-sym feature.RateLimit feature.Pairs = refl
is_same-sym feature.RateLimit feature.RateLimit = refl

or_assoc : (a b c : Bool) → (a || b) || c ≡ a || (b || c)
or_assoc true b c = refl
or_assoc false b c = refl

or_false : (a : Bool) → a || false ≡ a
or_false true = refl
or_false false = refl

and_false : (a : Bool) → a && false ≡ false
and_false true = refl
and_false false = refl

has-append : (f : Feature) (xs ys : List Feature) → has (xs ++ ys) f ≡ has xs f || has ys f
has-append f [] ys = refl
has-append f (x ∷ xs) ys = ap (λ b. is_same f x || b) (has-append f xs ys) ∙ sym (or_assoc (is_same f x) (has xs f) (has ys f))

has-one : (f g : Feature) (xs : List Feature) → has (xs ++ g ∷ []) f ≡ has xs f || is_same f g
has-one f g xs = has-append f xs (g ∷ []) ∙ ap (λ b. has xs f || b) (or_false (is_same f g))

none_of : (a b : Bool) → a || b ≡ false → (a ≡ false) × (b ≡ false)
none_of true b e = absurd (cc)
none_of false true e = absurd (cc)
none_of false false e = (refl, refl)

both_of : (a b : Bool) → a && b ≡ true → (a ≡ true) × (b ≡ true)
both_of true true e = (refl, refl)
both_of true false e = absurd (cc)
both_of false b e = absurd (cc)

not_true : (a : Bool) → not a ≡ true → a ≡ false
not_true true e = absurd (cc)
not_true false e = refl

-- a feature that stands there, and comes again
repeated_at : (f g : Feature) (gs fs : List Feature) (here later : Bool) → is_same f g ≡ here → has gs f ≡ later → here || later ≡ true → (later ≡ true → is_distinct ((gs ++ f ∷ []) ++ fs) ≡ false) → is_distinct (((g ∷ gs) ++ f ∷ []) ++ fs) ≡ false
repeated_at f g gs fs true later e h some rest =
    let same : is_same g f ≡ true = is_same-sym g f ∙ e in
    let again : has ((gs ++ f ∷ []) ++ fs) g ≡ true = has-append g (gs ++ f ∷ []) fs ∙ ap (λ b. b || has fs g) (has-one g f gs ∙ ap (λ b. has gs g || b) same ∙ or_true (has gs g)) in
    ap (λ b. not b && is_distinct ((gs ++ f ∷ []) ++ fs)) again
  where
    or_true : (a : Bool) → a || true ≡ true
    or_true true = refl
    or_true false = refl
repeated_at f g gs fs false true e h some rest = ap (λ b. not (has ((gs ++ f ∷ []) ++ fs) g) && b) (rest refl) ∙ and_false (not (has ((gs ++ f ∷ []) ++ fs) g))
repeated_at f g gs fs false false e h some rest = absurd (cc)

is_distinct-repeated : (f : Feature) (gs fs : List Feature) → has gs f ≡ true → is_distinct ((gs ++ f ∷ []) ++ fs) ≡ false
is_distinct-repeated f [] fs e = absurd (cc)
is_distinct-repeated f (g ∷ gs) fs e = repeated_at f g gs fs (is_same f g) (has gs f) refl refl e (λ h. is_distinct-repeated f gs fs h)

pub is_distinct-one : (f : Feature) (gs : List Feature) → is_distinct gs ≡ true → has gs f ≡ false → is_distinct (gs ++ f ∷ []) ≡ true
is_distinct-one f [] d e = refl
is_distinct-one f (g ∷ gs) d e =
    let parts = both_of (not (has gs g)) (is_distinct gs) d in
    let others = none_of (is_same f g) (has gs f) e in
    let lacks : has (gs ++ f ∷ []) g ≡ false = has-one g f gs ∙ ap (λ b. b || is_same g f) (not_true (has gs g) parts.0) ∙ is_same-sym g f ∙ others.0 in
    ap (λ b. not b && is_distinct (gs ++ f ∷ [])) lacks ∙ is_distinct-one f gs parts.1 others.1

-- ---- what is read, behind what was read

abbrev pub read_onto : List Feature → Items → Option (List Feature)
read_onto done ds = option_and_then distinct (option_map (λ fs. done ++ fs) (features_in ds))

onto-named : (done : List Feature) (f : Feature) (rest : Option (List Feature)) → option_and_then distinct (option_map (λ fs. done ++ fs) (option_and_then (λ fs. Some (f ∷ fs)) rest)) ≡ option_and_then distinct (option_map (λ fs. (done ++ f ∷ []) ++ fs) rest)
onto-named done f None = refl
onto-named done f (Some fs) = ap distinct (sym (append_assoc done (f ∷ []) fs))

pub read_onto-named : (done : List Feature) (d : Data) (ds : Items) (f : Feature) → feature_in d ≡ Some f → read_onto done (item d ds) ≡ read_onto (done ++ f ∷ []) ds
read_onto-named done d ds f e = ap (λ o. option_and_then distinct (option_map (λ fs. done ++ fs) (option_and_then (λ first. option_and_then (λ rest. Some (first ∷ rest)) (features_in ds)) o))) e ∙ onto-named done f (features_in ds)

onto-repeated : (done : List Feature) (f : Feature) (rest : Option (List Feature)) → has done f ≡ true → option_and_then distinct (option_map (λ fs. (done ++ f ∷ []) ++ fs) rest) ≡ None
onto-repeated done f None e = refl
onto-repeated done f (Some fs) e = rw (is_distinct-repeated f done fs e) refl

pub read_onto-repeated : (done : List Feature) (d : Data) (ds : Items) (f : Feature) → feature_in d ≡ Some f → has done f ≡ true → read_onto done (item d ds) ≡ None
read_onto-repeated done d ds f e h = read_onto-named done d ds f e ∙ onto-repeated done f (features_in ds) h

-- ---- the loop

abbrev pub items_from : List Tree → ℕ → Items
items_from items i = items_of (map data_of (drop i items))

pub record ReadSoFar (items : List Tree) (i : ℕ) (list : List Feature) : Type 0 where
  pub read : read_onto list (items_from items i) ≡ option_and_then distinct (features_in (items_of (map data_of items)))
  pub once : is_distinct list ≡ true

pub items_from-more : (items : List Tree) (i : ℕ) (t : Tree) → i < length items → t ≡ get_or items i t → items_from items i ≡ item (data_of t) (items_from items (i + 1))
items_from-more items i t below at = at_drop_more (λ ts. items_of (map data_of ts)) items i t below ∙ ap (λ u. item (data_of u) (items_from items (i + 1))) (sym at)

pub repeated_stops : (items : List Tree) (i : ℕ) (list : List Feature) (t : Tree) (f : Feature) → ReadSoFar items i list → i < length items → t ≡ get_or items i t → Some f ≡ feature_in (data_of t) → true ≡ has list f → None ≡ option_and_then distinct (features_in (items_of (map data_of items)))
repeated_stops items i list t f so below at named again =
    sym (read_onto-repeated list (data_of t) (items_from items (i + 1)) f (sym named) (sym again))
    ∙ ap (read_onto list) (sym (items_from-more items i t below at)) ∙ so.read

pub one_more : (items : List Tree) (i : ℕ) (list new : List Feature) (t : Tree) (f : Feature) → ReadSoFar items i list → i < length items → t ≡ get_or items i t → Some f ≡ feature_in (data_of t) → false ≡ has list f → new ≡ list ++ f ∷ [] → ReadSoFar items (i + 1) new
one_more items i list new t f so below at named lacks is =
    record {
      read =
          ap (λ l. read_onto l (items_from items (i + 1))) is
          ∙ sym (read_onto-named list (data_of t) (items_from items (i + 1)) f (sym named))
          ∙ ap (read_onto list) (sym (items_from-more items i t below at)) ∙ so.read;
      once = ap is_distinct is ∙ is_distinct-one f list so.once (sym lacks);
    }
