-- Scopes and their texts as they are kept.
use Rattle.std.proofs.Common.{◌≡◌, ℕ, zero, suc, ◌+◌, ◌≤◌, ◌<◌, Bool, true, false, List, [], ◌∷◌, ◌++◌, length, get_or, Option, Some, None, refl, sym, ap, ◌∙◌, arith}
use Rattle.std.specs.Prelude.{slice_get, vec_len, IfSome}
use Rattle.std.proofs.lemmas.Bool.{false≢true}
use Rattle.std.proofs.lemmas.Option.{none-some, same_Some}
use Rattle.cacao_vars.specs.declared.scoping.Scope.{Scope}
use Rattle.flow_core_rules.specs.State.{Texts}
use Rattle.flow_core_rules.specs.Edits.{changed_at, declared_texts, with_text}
use Rattle.flow_core_tables.specs.declared.opened.Place.{Place}
use Rattle.flow_core_tables.specs.declared.opened.Place.TheVariants as place
use Rattle.flow_core_tables.specs.declared.opened.Opened.TheInside.{Inside}
use Rattle.flow_core_tables.proofs.TableLemmas.{read_there}
use Rattle.flow_core_tables.specs.OpenedView.{OpenedView}
use Rattle.flow_core_tables.specs.Opened.{shown, AreKept, blank_scope, blank_texts, opened_view, IsOpened}

-- ---- places

abbrev number_of : Place → ℕ
number_of (place.Inside around) = around
number_of (place.Keeps number) = number

abbrev is_kept : Place → Bool
is_kept (place.Inside around) = false
is_kept (place.Keeps number) = true

-- a scope is blank or kept
never_both : (a k : ℕ) → Some (place.Inside a) ≡ Some (place.Keeps k) → ⊥
never_both a k e = false≢true (ap is_kept (same_Some (place.Inside a) (place.Keeps k) e))

same_around : (a b : ℕ) → Some (place.Inside a) ≡ Some (place.Inside b) → a ≡ b
same_around a b e = ap number_of (same_Some (place.Inside a) (place.Inside b) e)

same_number : (a b : ℕ) → Some (place.Keeps a) ≡ Some (place.Keeps b) → a ≡ b
same_number a b e = ap number_of (same_Some (place.Keeps a) (place.Keeps b) e)

-- a scope that declares nothing is that of its parent
pub blank_is : (s : Scope) (p : Option ℕ) → s.vars ≡ [] → s.parent ≡ p → IfSome p (λ (a : ℕ). s ≡ blank_scope a)
blank_is s None e f = tt
blank_is s (Some a) e f = λ i. record { parent = f i; vars = e i }

-- ---- how many

pub length-shown : {A : Type 0} (b : ℕ → A) (n : ℕ) (ps : List Place) (xs : List A) → AreKept n ps xs → length (shown b ps xs) ≡ length ps
length-shown b n [] xs h = refl
length-shown b n (place.Inside a ∷ ps) xs h = ap suc (length-shown b n ps xs h)
length-shown b n (place.Keeps k ∷ ps) [] h = absurd h
length-shown b n (place.Keeps k ∷ ps) (x ∷ xs) h = ap suc (length-shown b (suc n) ps xs h.1)

pub kept_few : {A : Type 0} (n : ℕ) (ps : List Place) (xs : List A) → AreKept n ps xs → length xs ≤ length ps
kept_few n [] [] h = omega arith
kept_few n [] (x ∷ xs) h = absurd h
kept_few n (place.Inside a ∷ ps) xs h = omega (arith, kept_few n ps xs h)
kept_few n (place.Keeps k ∷ ps) [] h = absurd h
kept_few n (place.Keeps k ∷ ps) (x ∷ xs) h = omega (arith, kept_few (suc n) ps xs h.1)

-- the numbers rest on how many are kept alone
pub kept_same : {A : Type 0} (n : ℕ) (ps : List Place) (xs ys : List A) → AreKept n ps xs → length ys ≡ length xs → AreKept n ps ys
kept_same n [] [] [] h e = tt
kept_same n [] [] (y ∷ ys) h e = absurd (omega (arith, e))
kept_same n [] (x ∷ xs) ys h e = absurd h
kept_same n (place.Inside a ∷ ps) xs ys h e = kept_same n ps xs ys h e
kept_same n (place.Keeps k ∷ ps) [] ys h e = absurd h
kept_same n (place.Keeps k ∷ ps) (x ∷ xs) [] h e = absurd (omega (arith, e))
kept_same n (place.Keeps k ∷ ps) (x ∷ xs) (y ∷ ys) h e = (h.0, kept_same (suc n) ps xs ys h.1 (omega (arith, e)))

-- as many scopes are kept as texts
pub kept_equal : {A B : Type 0} (n : ℕ) (ps : List Place) (xs : List A) (ys : List B) → AreKept n ps xs → AreKept n ps ys → length xs ≡ length ys
kept_equal n [] [] [] h g = refl
kept_equal n [] [] (y ∷ ys) h g = absurd g
kept_equal n [] (x ∷ xs) ys h g = absurd h
kept_equal n (place.Inside a ∷ ps) xs ys h g = kept_equal n ps xs ys h g
kept_equal n (place.Keeps k ∷ ps) [] ys h g = absurd h
kept_equal n (place.Keeps k ∷ ps) (x ∷ xs) [] h g = absurd g
kept_equal n (place.Keeps k ∷ ps) (x ∷ xs) (y ∷ ys) h g = ap suc (kept_equal (suc n) ps xs ys h.1 g.1)

-- ---- one scope more

pub shown_blank : {A : Type 0} (b : ℕ → A) (n : ℕ) (ps : List Place) (xs : List A) (a : ℕ) → AreKept n ps xs
    → shown b (ps ++ place.Inside a ∷ []) xs ≡ shown b ps xs ++ b a ∷ []
shown_blank b n [] xs a h = refl
shown_blank {A} b n (place.Inside c ∷ ps) xs a h = ap (λ (l : List A). b c ∷ l) (shown_blank b n ps xs a h)
shown_blank b n (place.Keeps k ∷ ps) [] a h = absurd h
shown_blank {A} b n (place.Keeps k ∷ ps) (x ∷ xs) a h = ap (λ (l : List A). x ∷ l) (shown_blank b (suc n) ps xs a h.1)

pub kept_blank : {A : Type 0} (n : ℕ) (ps : List Place) (xs : List A) (a : ℕ) → AreKept n ps xs → AreKept n (ps ++ place.Inside a ∷ []) xs
kept_blank n [] xs a h = h
kept_blank n (place.Inside c ∷ ps) xs a h = kept_blank n ps xs a h
kept_blank n (place.Keeps k ∷ ps) [] a h = absurd h
kept_blank n (place.Keeps k ∷ ps) (x ∷ xs) a h = (h.0, kept_blank (suc n) ps xs a h.1)

pub shown_more : {A : Type 0} (b : ℕ → A) (n : ℕ) (ps : List Place) (xs : List A) (k : ℕ) (y : A) → AreKept n ps xs
    → shown b (ps ++ place.Keeps k ∷ []) (xs ++ y ∷ []) ≡ shown b ps xs ++ y ∷ []
shown_more b n [] [] k y h = refl
shown_more b n [] (x ∷ xs) k y h = absurd h
shown_more {A} b n (place.Inside c ∷ ps) xs k y h = ap (λ (l : List A). b c ∷ l) (shown_more b n ps xs k y h)
shown_more b n (place.Keeps c ∷ ps) [] k y h = absurd h
shown_more {A} b n (place.Keeps c ∷ ps) (x ∷ xs) k y h = ap (λ (l : List A). x ∷ l) (shown_more b (suc n) ps xs k y h.1)

pub kept_more : {A : Type 0} (n : ℕ) (ps : List Place) (xs : List A) (k : ℕ) (y : A) → AreKept n ps xs → k ≡ n + length xs
    → AreKept n (ps ++ place.Keeps k ∷ []) (xs ++ y ∷ [])
kept_more n [] [] k y h e = (omega (arith, e), tt)
kept_more n [] (x ∷ xs) k y h e = absurd h
kept_more n (place.Inside c ∷ ps) xs k y h e = kept_more n ps xs k y h e
kept_more n (place.Keeps c ∷ ps) [] k y h e = absurd h
kept_more n (place.Keeps c ∷ ps) (x ∷ xs) k y h e = (h.0, kept_more (suc n) ps xs k y h.1 (omega (arith, e)))

-- ---- what is read

pub shown_inside : {A : Type 0} (b : ℕ → A) (n : ℕ) (ps : List Place) (xs : List A) (i a : ℕ) → AreKept n ps xs → slice_get ps i ≡ Some (place.Inside a)
    → slice_get (shown b ps xs) i ≡ Some (b a)
shown_inside b n [] xs i a h e = absurd (none-some (place.Inside a) e)
shown_inside {A} b n (place.Inside c ∷ ps) xs zero a h e = ap (λ (k : ℕ). Some (b k)) (same_around c a e)
shown_inside b n (place.Inside c ∷ ps) xs (suc i) a h e = shown_inside b n ps xs i a h e
shown_inside b n (place.Keeps k ∷ ps) [] i a h e = absurd h
shown_inside b n (place.Keeps k ∷ ps) (x ∷ xs) zero a h e = absurd (never_both a k (sym e))
shown_inside b n (place.Keeps k ∷ ps) (x ∷ xs) (suc i) a h e = shown_inside b (suc n) ps xs i a h.1 e

pub shown_none : {A : Type 0} (b : ℕ → A) (n : ℕ) (ps : List Place) (xs : List A) (i : ℕ) → AreKept n ps xs → slice_get ps i ≡ None → slice_get (shown b ps xs) i ≡ None
shown_none b n [] xs i h e = refl
shown_none b n (place.Inside c ∷ ps) xs zero h e = absurd (none-some (place.Inside c) (sym e))
shown_none b n (place.Inside c ∷ ps) xs (suc i) h e = shown_none b n ps xs i h e
shown_none b n (place.Keeps k ∷ ps) [] i h e = absurd h
shown_none b n (place.Keeps k ∷ ps) (x ∷ xs) zero h e = absurd (none-some (place.Keeps k) (sym e))
shown_none b n (place.Keeps k ∷ ps) (x ∷ xs) (suc i) h e = shown_none b (suc n) ps xs i h.1 e

-- no number is lower than the first
kept_from : {A : Type 0} (n : ℕ) (ps : List Place) (xs : List A) (i k : ℕ) → AreKept n ps xs → slice_get ps i ≡ Some (place.Keeps k) → n ≤ k
kept_from n [] xs i k h e = absurd (none-some (place.Keeps k) e)
kept_from n (place.Inside c ∷ ps) xs zero k h e = absurd (never_both c k e)
kept_from n (place.Inside c ∷ ps) xs (suc i) k h e = kept_from n ps xs i k h e
kept_from n (place.Keeps c ∷ ps) [] i k h e = absurd h
kept_from n (place.Keeps c ∷ ps) (x ∷ xs) zero k h e = omega (arith, h.0, same_number c k e)
kept_from n (place.Keeps c ∷ ps) (x ∷ xs) (suc i) k h e = omega (arith, kept_from (suc n) ps xs i k h.1 e)

pub shown_kept : {A : Type 0} (b : ℕ → A) (n : ℕ) (ps : List Place) (xs : List A) (i k j : ℕ) → AreKept n ps xs → slice_get ps i ≡ Some (place.Keeps k) → k ≡ n + j
    → (slice_get (shown b ps xs) i ≡ slice_get xs j) × (j < length xs)
shown_kept b n [] xs i k j h e is = absurd (none-some (place.Keeps k) e)
shown_kept b n (place.Inside c ∷ ps) xs zero k j h e is = absurd (never_both c k e)
shown_kept b n (place.Inside c ∷ ps) xs (suc i) k j h e is = shown_kept b n ps xs i k j h e is
shown_kept b n (place.Keeps c ∷ ps) [] i k j h e is = absurd h
shown_kept b n (place.Keeps c ∷ ps) (x ∷ xs) zero k zero h e is = (refl, omega arith)
shown_kept b n (place.Keeps c ∷ ps) (x ∷ xs) zero k (suc j) h e is = absurd (omega (arith, h.0, same_number c k e, is))
shown_kept b n (place.Keeps c ∷ ps) (x ∷ xs) (suc i) k zero h e is = absurd (omega (arith, kept_from (suc n) ps xs i k h.1 e, is))
shown_kept b n (place.Keeps c ∷ ps) (x ∷ xs) (suc i) k (suc j) h e is =
    let rest = shown_kept b (suc n) ps xs i k j h.1 e (omega (arith, is)) in
    (rest.0, omega (arith, rest.1))

-- what a look-up found in a list of places
pub got_place : (ps found : List Place) (i : ℕ) (p : Place) → found ≡ ps → i < length found → p ≡ get_or found i p → Some p ≡ slice_get ps i
got_place ps found i p same within e = sym (read_there found i p within e) ∙ ap (λ (l : List Place). slice_get l i) same

past_all : (ps : List Place) (i : ℕ) → length ps ≤ i → None ≡ slice_get ps i
past_all [] i h = refl
past_all (p ∷ ps) zero h = absurd (omega (arith, h))
past_all (p ∷ ps) (suc i) h = past_all ps i (omega (arith, h))

pub got_none : (ps found : List Place) (i : ℕ) → found ≡ ps → length found ≤ i → None ≡ slice_get ps i
got_none ps found i same past = past_all found i past ∙ ap (λ (l : List Place). slice_get l i) same

-- ---- what is written

pub changed_nothing : {A : Type 0} (f : A → A) (xs : List A) (i : ℕ) (x : A) → slice_get xs i ≡ Some x → f x ≡ x → changed_at i f xs ≡ xs
changed_nothing f [] i x e same = refl
changed_nothing {A} f (y ∷ ys) zero x e same =
    let is : y ≡ x = same_Some y x e in
    ap (λ (z : A). z ∷ ys) (ap f is ∙ same ∙ sym is)
changed_nothing {A} f (y ∷ ys) (suc i) x e same = ap (λ (l : List A). y ∷ l) (changed_nothing f ys i x e same)

pub shown_changed : {A : Type 0} (b : ℕ → A) (f : A → A) (n : ℕ) (ps : List Place) (xs : List A) (i k j : ℕ) → AreKept n ps xs → slice_get ps i ≡ Some (place.Keeps k) → k ≡ n + j
    → shown b ps (changed_at j f xs) ≡ changed_at i f (shown b ps xs)
shown_changed b f n [] xs i k j h e is = absurd (none-some (place.Keeps k) e)
shown_changed b f n (place.Inside c ∷ ps) xs zero k j h e is = absurd (never_both c k e)
shown_changed {A} b f n (place.Inside c ∷ ps) xs (suc i) k j h e is = ap (λ (l : List A). b c ∷ l) (shown_changed b f n ps xs i k j h e is)
shown_changed b f n (place.Keeps c ∷ ps) [] i k j h e is = absurd h
shown_changed b f n (place.Keeps c ∷ ps) (x ∷ xs) zero k zero h e is = refl
shown_changed b f n (place.Keeps c ∷ ps) (x ∷ xs) zero k (suc j) h e is = absurd (omega (arith, h.0, same_number c k e, is))
shown_changed b f n (place.Keeps c ∷ ps) (x ∷ xs) (suc i) k zero h e is = absurd (omega (arith, kept_from (suc n) ps xs i k h.1 e, is))
shown_changed {A} b f n (place.Keeps c ∷ ps) (x ∷ xs) (suc i) k (suc j) h e is =
    ap (λ (l : List A). x ∷ l) (shown_changed b f (suc n) ps xs i k j h.1 e (omega (arith, is)))

-- ---- all that is kept

module _ (o : Inside) (v : OpenedView) (is : opened_view o ≡ v) (kept : IsOpened o) where
  pub count_is : length v.scopes ≡ vec_len o.places
  count_is =
      omega (arith, ap (λ (w : OpenedView). length w.scopes) is, length-shown blank_scope 0 o.places.items o.scopes.items kept.scopes, o.places.ok.0)

  pub texts_count_is : length v.texts ≡ vec_len o.places
  texts_count_is =
      omega (arith, ap (λ (w : OpenedView). length w.texts) is, length-shown blank_texts 0 o.places.items o.texts.items kept.texts, o.places.ok.0)

  -- what stands for a scope, by the place that was read of it
  at_place : (i : ℕ) (p q : Place) → Some p ≡ slice_get o.places.items i → p ≡ q → slice_get o.places.items i ≡ Some q
  at_place i p q read e = sym read ∙ ap (λ (r : Place). Some r) e

  pub number_within : (i k : ℕ) (p : Place) → Some p ≡ slice_get o.places.items i → p ≡ place.Keeps k → (k < length o.scopes.items) × (k < length o.texts.items)
  number_within i k p read e =
      let at = at_place i p (place.Keeps k) read e in (
        (shown_kept blank_scope 0 o.places.items o.scopes.items i k k kept.scopes at (omega arith)).1,
        (shown_kept blank_texts 0 o.places.items o.texts.items i k k kept.texts at (omega arith)).1,
      )

  pub scope_kept : (i k : ℕ) (p : Place) (s : Scope) → Some p ≡ slice_get o.places.items i → p ≡ place.Keeps k → s ≡ get_or o.scopes.items k s → slice_get v.scopes i ≡ Some s
  scope_kept i k p s read e is_at =
      let there = shown_kept blank_scope 0 o.places.items o.scopes.items i k k kept.scopes (at_place i p (place.Keeps k) read e) (omega arith) in
      ap (λ (w : OpenedView). slice_get w.scopes i) (sym is) ∙ there.0 ∙ read_there o.scopes.items k s there.1 is_at

  pub scope_inside : (i a : ℕ) (p : Place) → Some p ≡ slice_get o.places.items i → p ≡ place.Inside a → slice_get v.scopes i ≡ Some (blank_scope a)
  scope_inside i a p read e =
      ap (λ (w : OpenedView). slice_get w.scopes i) (sym is)
      ∙ shown_inside blank_scope 0 o.places.items o.scopes.items i a kept.scopes (at_place i p (place.Inside a) read e)

  pub scope_past : (i : ℕ) → None ≡ slice_get o.places.items i → slice_get v.scopes i ≡ None
  scope_past i read =
      ap (λ (w : OpenedView). slice_get w.scopes i) (sym is) ∙ shown_none blank_scope 0 o.places.items o.scopes.items i kept.scopes (sym read)

  pub texts_kept : (i k : ℕ) (p : Place) (t : Texts) → Some p ≡ slice_get o.places.items i → p ≡ place.Keeps k → t ≡ get_or o.texts.items k t → slice_get v.texts i ≡ Some t
  texts_kept i k p t read e is_at =
      let there = shown_kept blank_texts 0 o.places.items o.texts.items i k k kept.texts (at_place i p (place.Keeps k) read e) (omega arith) in
      ap (λ (w : OpenedView). slice_get w.texts i) (sym is) ∙ there.0 ∙ read_there o.texts.items k t there.1 is_at

  pub texts_inside : (i a : ℕ) (p : Place) → Some p ≡ slice_get o.places.items i → p ≡ place.Inside a → slice_get v.texts i ≡ Some o.none
  texts_inside i a p read e =
      ap (λ (w : OpenedView). slice_get w.texts i) (sym is)
      ∙ shown_inside blank_texts 0 o.places.items o.texts.items i a kept.texts (at_place i p (place.Inside a) read e)
      ∙ ap (λ (t : Texts). Some t) (sym kept.none)

  pub texts_past : (i : ℕ) → None ≡ slice_get o.places.items i → slice_get v.texts i ≡ None
  texts_past i read =
      ap (λ (w : OpenedView). slice_get w.texts i) (sym is) ∙ shown_none blank_texts 0 o.places.items o.texts.items i kept.texts (sym read)

  -- a text is written where the scope has texts, and a scope that has none stays as it is
  pub texts_written : (i k : ℕ) (p : Place) (name text : List ℕ) (old : Texts) (new : List Texts) → Some p ≡ slice_get o.places.items i → p ≡ place.Keeps k
      → old ≡ get_or o.texts.items k old → new ≡ changed_at k (with_text name text) o.texts.items
      → shown blank_texts o.places.items new ≡ changed_at i (with_text name text) v.texts
  texts_written i k p name text old new read e is_at written =
      ap (λ (l : List Texts). shown blank_texts o.places.items l) written
      ∙ shown_changed blank_texts (with_text name text) 0 o.places.items o.texts.items i k k kept.texts (at_place i p (place.Keeps k) read e) (omega arith)
      ∙ ap (λ (w : OpenedView). changed_at i (with_text name text) w.texts) is

  pub texts_left : (i a : ℕ) (p : Place) (name text : List ℕ) → Some p ≡ slice_get o.places.items i → p ≡ place.Inside a
      → v.texts ≡ changed_at i (with_text name text) v.texts
  texts_left i a p name text read e =
      let none : slice_get v.texts i ≡ Some (blank_texts a) =
      ap (λ (w : OpenedView). slice_get w.texts i) (sym is)
      ∙ shown_inside blank_texts 0 o.places.items o.texts.items i a kept.texts (at_place i p (place.Inside a) read e) in
      sym (changed_nothing (with_text name text) v.texts i (blank_texts a) none refl)

  -- ---- one scope more

  pub scopes_blank : (a : ℕ) (s : Scope) (new : List Place) → new ≡ o.places.items ++ place.Inside a ∷ [] → s ≡ blank_scope a
      → shown blank_scope new o.scopes.items ≡ v.scopes ++ s ∷ []
  scopes_blank a s new e blank =
      ap (λ (l : List Place). shown blank_scope l o.scopes.items) e
      ∙ shown_blank blank_scope 0 o.places.items o.scopes.items a kept.scopes
      ∙ ap (λ (w : OpenedView). w.scopes ++ blank_scope a ∷ []) is ∙ ap (λ (t : Scope). v.scopes ++ t ∷ []) (sym blank)

  pub texts_blank : (a : ℕ) (s : Scope) (t : Texts) (new : List Place) → new ≡ o.places.items ++ place.Inside a ∷ [] → s ≡ blank_scope a → t ≡ declared_texts s.vars
      → shown blank_texts new o.texts.items ≡ v.texts ++ t ∷ []
  texts_blank a s t new e blank declared =
      let none : t ≡ blank_texts a = declared ∙ ap (λ (r : Scope). declared_texts r.vars) blank in
      ap (λ (l : List Place). shown blank_texts l o.texts.items) e
      ∙ shown_blank blank_texts 0 o.places.items o.texts.items a kept.texts
      ∙ ap (λ (w : OpenedView). w.texts ++ blank_texts a ∷ []) is ∙ ap (λ (r : Texts). v.texts ++ r ∷ []) (sym none)

  pub scopes_more : (k : ℕ) (s : Scope) (new : List Place) (scopes : List Scope) → new ≡ o.places.items ++ place.Keeps k ∷ [] → scopes ≡ o.scopes.items ++ s ∷ []
      → shown blank_scope new scopes ≡ v.scopes ++ s ∷ []
  scopes_more k s new scopes e f =
      (λ i. shown blank_scope (e i) (f i)) ∙ shown_more blank_scope 0 o.places.items o.scopes.items k s kept.scopes
      ∙ ap (λ (w : OpenedView). w.scopes ++ s ∷ []) is

  pub texts_more : (k : ℕ) (t : Texts) (new : List Place) (texts : List Texts) → new ≡ o.places.items ++ place.Keeps k ∷ [] → texts ≡ o.texts.items ++ t ∷ []
      → shown blank_texts new texts ≡ v.texts ++ t ∷ []
  texts_more k t new texts e f =
      (λ i. shown blank_texts (e i) (f i)) ∙ shown_more blank_texts 0 o.places.items o.texts.items k t kept.texts
      ∙ ap (λ (w : OpenedView). w.texts ++ t ∷ []) is

  -- there is room for one scope more
  pub room_left : length v.scopes < v.room → vec_len o.places < o.room
  room_left lt = omega (arith, lt, count_is, ap (λ (w : OpenedView). w.room) is)
