-- Present texts in an ordered map.
use Rattle.std.proofs.Common.{◌≡◌, ℕ, Bool, true, false, List, [], ◌∷◌, Option, Some, None, cond, refl, ap, sym, subst, ◌∙◌}
use Rattle.std.specs.Prelude.{find, option_and_then}
use Rattle.std.specs.Map.{lookup, set_value, keys_of}
use Rattle.std.specs.List.{AllByRecursion}
use Rattle.std.specs.List.Sorted.{IsStrictlySortedBy}
use Rattle.std.specs.Str.{bytes_eq}
use Rattle.std.specs.Ordering.{nat_cmp}
use Rattle.std.specs.Cmp.Lexicographic.{slice_cmp}
use Rattle.std.specs.declared.cmp.Ordering.TheVariants.{Less}
use Rattle.std.proofs.lemmas.Map.Text.{is_eq-slice_cmp}
use Rattle.std.proofs.lemmas.Cmp.{nat_list_eq_equiv}
use Rattle.std.proofs.lemmas.Slice.Eq.{bytes_eq-Decides}
use Rattle.flow_core_rules.specs.State.{Texts, text_in}
use Rattle.flow_core_rules.specs.Edits.{with_text}
use Rattle.flow_core_tables.specs.Present.{is_name_at, entry_in, set_in}

pub set_value_none : {K X : Type 0} (test : K → Bool) (es : List (K × X)) (w : X) → lookup test es ≡ None → set_value test es w ≡ es
set_value_none test [] w h = refl
set_value_none {K} {X} test (e ∷ es) w h = by (test e.0) (set_value_none test es w) h
  where
    by : (t : Bool) → (lookup test es ≡ None → set_value test es w ≡ es) → cond t (Some e.1) (lookup test es) ≡ None
        → cond t ((e.0, w) ∷ es) (e ∷ set_value test es w) ≡ e ∷ es
    by true rest g = absurd (no g)
      where
        no : Some e.1 ≡ None → ⊥
        no k = cc
    by false rest g = ap (λ (r : List (K × X)). e ∷ r) (rest g)

-- ---- as the plain list

later : (name k : List ℕ) (ks : List (List ℕ × Option (List ℕ))) (text : List ℕ) → name ≡ k
    → AllByRecursion (λ y. slice_cmp nat_cmp k y ≡ Less) (keys_of ks) → with_text name text ks ≡ ks
later name k [] text same h = refl
later name k (e ∷ es) text same h =
    let less : slice_cmp nat_cmp name e.0 ≡ Less = subst (λ n. slice_cmp nat_cmp n e.0 ≡ Less) (sym same) h.0 in
    let no : bytes_eq name e.0 ≡ false = sym (is_eq-slice_cmp name e.0) ∙ rw less refl in
    rw no (ap (λ (r : Texts). e ∷ r) (later name k es text same h.1))

pub set_is_with : (name text : List ℕ) (texts : Texts) → IsStrictlySortedBy (slice_cmp nat_cmp) (keys_of texts) → set_in texts name text ≡ with_text name text texts
unfolding IsStrictlySortedBy
set_is_with name text [] h = refl
set_is_with name text (e ∷ es) h =
    rw (is_eq-slice_cmp name e.0) (by (bytes_eq name e.0) (λ t. (bytes_eq-Decides name e.0).0 t) (set_is_with name text es h.1))
  where
    by : (t : Bool) → (t ≡ true → name ≡ e.0) → set_in es name text ≡ with_text name text es
        → cond t ((e.0, Some text) ∷ es) (e ∷ set_in es name text) ≡ (e.0, cond t (Some text) e.1) ∷ with_text name text es
    by true same rest = ap (λ (r : Texts). (e.0, Some text) ∷ r) (sym (later name e.0 es text (same refl) h.0))
    by false same rest = ap (λ (r : Texts). e ∷ r) rest

turned : (a b : List ℕ) → bytes_eq a b ≡ bytes_eq b a
turned a b = nat_list_eq_equiv.symm a b

pub entry_is_text : (name : List ℕ) (texts : Texts) → entry_in texts name ≡ text_in texts name
entry_is_text name [] = refl
entry_is_text name (e ∷ es) = rw (is_eq-slice_cmp name e.0, turned name e.0) (by (bytes_eq e.0 name) (entry_is_text name es))
  where
    by : (t : Bool) → entry_in es name ≡ text_in es name
        → option_and_then (λ (o : Option (List ℕ)). o) (cond t (Some e.1) (lookup (is_name_at name) es))
        ≡ option_and_then (λ (entry : List ℕ × Option (List ℕ)). entry.1) (cond t (Some e) (find (λ (entry : List ℕ × Option (List ℕ)). bytes_eq entry.0 name) es))
    by true rest = refl
    by false rest = rest
