-- What is read of a tree whose texts are filled.
use Rattle.std.proofs.Common.{◌≡◌, ◌∙◌, refl, sym, ap, subst, ℕ, ℤ, Bool, true, false, ◌&&◌, List, [], ◌∷◌, ◌++◌, ◌==◌, length, Option, Some, None, Ordering, Less, Equal, Greater, nat_cmp}
use Rattle.std.specs.Prelude.{option_map, option_and_then, is_some, flat_map, if◌then◌else◌}
use Rattle.std.specs.Option.{option_map_or}
use Rattle.std.specs.Ordering.{match_ordering}
use Rattle.std.specs.Cmp.Lexicographic.{slice_cmp}
use Rattle.serde_json.specs.Data.{Num, Data, null, boolean, number, string, array, object, Items, Members, no_members, member}
use Rattle.serde_json.specs.Find.{as_bool, as_array, as_object, get, get_member, of_integer}
use Rattle.cacao_vars.specs.References.{Found, ReferencesGoOn, begins_with_reference, behind_run, first_reference, name_run, references, references_from}
use Rattle.flow_core_rules.specs.State.{Lists}
use Rattle.flow_core_rules.specs.Values.{number_of, text_at}
use Rattle.flow_core_rules.specs.Filled.{filled, filled_items, filled_members, filled_string, replaced, whole_reference}
use Rattle.oc2_msg_targets.specs.Parts.{is_object, names_of, only_member, optional, single}
use Rattle.cacao_view_preflight.specs.Settled.{has_reference, is_open, set_if_open}

-- ---- texts

none_of : {A : Type 0} (o : Option A) → is_some o ≡ false → o ≡ None
none_of None e = refl
none_of (Some x) e = absurd (cc)

begins_not : (text : List ℕ) → first_reference text ≡ None → begins_with_reference text ≡ false
begins_not [] e = refl
begins_not (c ∷ cs) e = by _ _ (begins_with_reference (c ∷ cs)) e
  where
    by : (found : Found) (rest : Option Found) (b : Bool) → (if b then Some found else rest) ≡ None → b ≡ false
    by found rest true e = absurd (cc)
    by found rest false e = refl

module _ (s : Lists) (scope : ℕ) where
  -- a text with no reference stays
  pub plain : ReferencesGoOn → (text : List ℕ) → has_reference text ≡ false → filled_string s scope text ≡ string text
  plain go text e =
      let none : first_reference text ≡ None = none_of (first_reference text) e in
      let parts : references text ≡ ([], text) = go text ∙ ap (λ (o : Option Found). references_from o text) none in
      let whole : whole_reference text ≡ None = ap (λ (b : Bool). if b && (length (behind_run text) == 6) then Some (name_run text) else None) (begins_not text none) in
      ap (λ (o : Option (List ℕ)). option_map_or (λ z. number (of_integer z)) (option_and_then (number_of s scope) o) (string (replaced s scope text))) whole
      ∙ ap (λ (p : List Found × List ℕ). string (flat_map (λ found. found.before ++ text_at s scope found.name) p.0 ++ p.1)) parts

  -- any text becomes a number or a text
  pub by_kind : (text : List ℕ) (P : Data → Type 0) → ((n : Num) → P (number n)) → ((t : List ℕ) → P (string t)) → P (filled_string s scope text)
  by_kind text P of_number of_text = by (option_and_then (number_of s scope) (whole_reference text))
    where
      by : (o : Option ℤ) → P (option_map_or (λ z. number (of_integer z)) o (string (replaced s scope text)))
      by None = of_text (replaced s scope text)
      by (Some z) = of_number (of_integer z)

  -- ---- parts of a tree

  pub is_object-filled : (d : Data) → is_object (filled s scope d) ≡ is_object d
  is_object-filled null = refl
  is_object-filled (boolean b) = refl
  is_object-filled (number n) = refl
  is_object-filled (string text) = by_kind text (λ e. is_object e ≡ false) (λ n. refl) (λ t. refl)
  is_object-filled (array ds) = refl
  is_object-filled (object ms) = refl

  pub as_object-filled : (d : Data) → as_object (filled s scope d) ≡ option_map (filled_members s scope) (as_object d)
  as_object-filled null = refl
  as_object-filled (boolean b) = refl
  as_object-filled (number n) = refl
  as_object-filled (string text) = by_kind text (λ e. as_object e ≡ None) (λ n. refl) (λ t. refl)
  as_object-filled (array ds) = refl
  as_object-filled (object ms) = refl

  pub as_bool-filled : (d : Data) → as_bool (filled s scope d) ≡ as_bool d
  as_bool-filled null = refl
  as_bool-filled (boolean b) = refl
  as_bool-filled (number n) = refl
  as_bool-filled (string text) = by_kind text (λ e. as_bool e ≡ None) (λ n. refl) (λ t. refl)
  as_bool-filled (array ds) = refl
  as_bool-filled (object ms) = refl

  pub as_array-filled : (d : Data) → as_array (filled s scope d) ≡ option_map (filled_items s scope) (as_array d)
  as_array-filled null = refl
  as_array-filled (boolean b) = refl
  as_array-filled (number n) = refl
  as_array-filled (string text) = by_kind text (λ e. as_array e ≡ None) (λ n. refl) (λ t. refl)
  as_array-filled (array ds) = refl
  as_array-filled (object ms) = refl

  only-filled : (ms : Members) → only_member (filled_members s scope ms) ≡ option_map (λ m. (m.0, filled s scope m.1)) (only_member ms)
  only-filled no_members = refl
  only-filled (member k d no_members) = refl
  only-filled (member k d (member l e ms)) = refl

  pub single-filled : (d : Data) → single (filled s scope d) ≡ option_map (λ m. (m.0, filled s scope m.1)) (single d)
  single-filled null = refl
  single-filled (boolean b) = refl
  single-filled (number n) = refl
  single-filled (string text) = by_kind text (λ e. single e ≡ None) (λ n. refl) (λ t. refl)
  single-filled (array ds) = refl
  single-filled (object ms) = only-filled ms

  pub names-filled : (ms : Members) → names_of (filled_members s scope ms) ≡ names_of ms
  names-filled no_members = refl
  names-filled (member k d ms) = ap (λ names. k ∷ names) (names-filled ms)

  get_member-filled : (k : List ℕ) (ms : Members) → get_member k (filled_members s scope ms) ≡ option_map (filled s scope) (get_member k ms)
  get_member-filled k no_members = refl
  get_member-filled k (member l d ms) = by (slice_cmp nat_cmp k l) (get_member-filled k ms)
    where
      by : (o : Ordering) → get_member k (filled_members s scope ms) ≡ option_map (filled s scope) (get_member k ms)
          → match_ordering o (get_member k (filled_members s scope ms)) (Some (filled s scope d)) (get_member k (filled_members s scope ms))
          ≡ option_map (filled s scope) (match_ordering o (get_member k ms) (Some d) (get_member k ms))
      by Less ih = ih
      by Equal ih = refl
      by Greater ih = ih

  pub get-filled : (k : List ℕ) (d : Data) → get k (filled s scope d) ≡ option_map (filled s scope) (get k d)
  get-filled k null = refl
  get-filled k (boolean b) = refl
  get-filled k (number n) = refl
  get-filled k (string text) = by_kind text (λ e. get k e ≡ None) (λ n. refl) (λ t. refl)
  get-filled k (array ds) = refl
  get-filled k (object ms) = get_member-filled k ms

-- ---- readers of what is no list and no object

pub record IsScalar {A : Type 0} (read : Data → Option A) : Type 0 where
  pub arrays : (ds : Items) → read (array ds) ≡ None
  pub objects : (ms : Members) → read (object ms) ≡ None

module _ (go : ReferencesGoOn) (s : Lists) (scope : ℕ) {A : Type 0} (read : Data → Option A) (scalar : IsScalar read) where
  pub closed : (d : Data) → is_open d ≡ false → read (filled s scope d) ≡ read d
  closed null e = refl
  closed (boolean b) e = refl
  closed (number n) e = refl
  closed (string text) e = ap read (plain s scope go text e)
  closed (array ds) e = scalar.arrays (filled_items s scope ds) ∙ sym (scalar.arrays ds)
  closed (object ms) e = scalar.objects (filled_members s scope ms) ∙ sym (scalar.objects ms)

  module _ (fitting : Data) (x : A) (fits : read fitting ≡ Some x) where
    -- what is none where it fits is none at all
    pub none_filled : (d : Data) → read (set_if_open fitting d) ≡ None → read (filled s scope d) ≡ None
    none_filled d = by (is_open d) refl
      where
        by : (b : Bool) → is_open d ≡ b → read (if b then fitting else d) ≡ None → read (filled s scope d) ≡ None
        by true e none = absurd (let wrong : Some x ≡ None = sym fits ∙ none in cc)
        by false e none = closed d e ∙ none

    pub same_filled : (d : Data) → is_open d ≡ false → read (filled s scope d) ≡ read (set_if_open fitting d)
    same_filled d e = closed d e ∙ ap (λ (b : Bool). read (if b then fitting else d)) (sym e)

    pub none_optional : (o : Option Data) → optional read (option_map (set_if_open fitting) o) ≡ None → optional read (option_map (filled s scope) o) ≡ None
    none_optional None e = e
    none_optional (Some d) e = by (read (set_if_open fitting d)) (read (filled s scope d)) (none_filled d) e
      where
        by : (p q : Option A) → (p ≡ None → q ≡ None) → option_map Some p ≡ None → option_map Some q ≡ None
        by None q h e = ap (option_map Some) (h refl)
        by (Some y) q h e = absurd (cc)

    pub same_optional : (o : Option Data) → option_map_or is_open o false ≡ false → optional read (option_map (filled s scope) o) ≡ optional read (option_map (set_if_open fitting) o)
    same_optional None e = refl
    same_optional (Some d) e = ap (option_map Some) (same_filled d e)

    -- what is read where it fits, beside what is read at all
    pub beside : (R : A → A → Type 0) → ((y : A) → R y y) → ((d : Data) (y : A) → read d ≡ Some y → R x y) → (d : Data) (p q : A) → read (set_if_open fitting d) ≡ Some p → read (filled s scope d) ≡ Some q → R p q
    beside R itself most d p q e f = by (is_open d) refl e
      where
        by : (b : Bool) → is_open d ≡ b → read (if b then fitting else d) ≡ Some p → R p q
        by true o e = subst (λ p. R p q) (let same : Some x ≡ Some p = sym fits ∙ e in cc) (most (filled s scope d) q f)
        by false o e = subst (λ q. R p q) (let same : Some p ≡ Some q = sym e ∙ sym (closed d o) ∙ f in cc) (itself p)
