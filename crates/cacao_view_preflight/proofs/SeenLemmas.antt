-- What a step sees of the constants that it is known to see.
use Rattle.std.proofs.Common.{◌≡◌, ◌∙◌, refl, sym, ap, subst, ℕ, zero, suc, Bool, true, false, not, cond, ◌||◌, ◌&&◌, List, [], ◌∷◌, map, Option, Some, None, Less, Equal, nat_cmp}
use Rattle.std.specs.Prelude.{filter, option_and_then, slice_get, if◌then◌else◌}
use Rattle.std.specs.List.{AllByRecursion, flat_map}
use Rattle.std.specs.Str.{bytes_eq}
use Rattle.std.specs.Cmp.Lexicographic.{slice_cmp, nat_list_cmp_total}
use Rattle.std.proofs.lemmas.Bool.{and_parts}
use Rattle.std.proofs.lemmas.Cmp.{tied_itself}
use Rattle.std.proofs.lemmas.List.Folds.{list_any-append}
use Rattle.std.proofs.lemmas.Slice.Eq.{bytes_eq-Decides}
use Rattle.cacao_vars.specs.Declarations.{IsBefore, IsInNameOrder, declared}
use Rattle.cacao_vars.specs.Scopes.{home_declaration}
use Rattle.cacao_vars.specs.declared.declarations.Var.{Var}
use Rattle.cacao_book.specs.declared.books.Book.{Book}
use Rattle.cacao_book.specs.declared.steps.Step.{Step}
use Rattle.cacao_check_steps.specs.Links.{declares}
use Rattle.cacao_check_regions.specs.Regions.{Sees}
use Rattle.cacao_check_regions.specs.Regions.Sees.{around, outermost, own}
use Rattle.cacao_check_regions.proofs.SeenLemmas.{sees_own}
use Rattle.flow_core_rules.specs.State.{Lists}
use Rattle.cacao_view_preflight.specs.Constants.{constant_in, inner_names, is_fixed, nearest_fixed, outer_constants}
use Rattle.cacao_view_preflight.specs.Laws.{ConstantsAreSeen, HasConstants, IsScopeAt}
use Rattle.cacao_view_preflight.specs.Names.{Text, is_named}

none-some : {A : Type 0} (x : A) → None ≡ Some x → ⊥
none-some x e = cc

inner : (a b : Var) → Some a ≡ Some b → a ≡ b
inner a b e = cc

not_true : (b : Bool) → not b ≡ true → b ≡ false
not_true true e = absurd (cc)
not_true false e = refl

neither : (a b : Bool) → a || b ≡ false → (a ≡ false) × (b ≡ false)
neither true b e = absurd (cc)
neither false b e = (refl, e)

-- ---- names that no step declares

none_declared : (vars : List Var) (name : Text) → is_named (map (λ var. var.name) vars) name ≡ false → declared vars name ≡ None
none_declared [] name e = refl
none_declared (v ∷ vars) name e =
    let parts = neither (bytes_eq v.name name) (is_named (map (λ var. var.name) vars) name) e in
    ap (λ (b : Bool). cond b (Some v) (declared vars name)) parts.0 ∙ none_declared vars name parts.1

abbrev names_in : List Step → List Text
names_in steps = flat_map (λ step. map (λ var. var.name) step.variables) steps

parts_at : (s : Step) (steps : List Step) (name : Text) → is_named (names_in (s ∷ steps)) name ≡ false → (is_named (map (λ var. var.name) s.variables) name ≡ false) × (is_named (names_in steps) name ≡ false)
parts_at s steps name e =
    neither (is_named (map (λ var. var.name) s.variables) name) (is_named (names_in steps) name)
    (sym (list_any-append (λ other. bytes_eq other name) (map (λ var. var.name) s.variables) (names_in steps)) ∙ e)

none_at : (steps : List Step) (name : Text) (place : ℕ) → is_named (names_in steps) name ≡ false → option_and_then (λ step. declared step.variables name) (slice_get steps place) ≡ None
none_at [] name place e = refl
none_at (s ∷ steps) name zero e = none_declared s.variables name (parts_at s steps name e).0
none_at (s ∷ steps) name (suc place) e = none_at steps name place (parts_at s steps name e).1

-- then each sees what the playbook has of it
sees_outer : (book : Book) (name : Text) → ((place : ℕ) → declares book name place ≡ None) → {place : ℕ} {seen : Option Var} → Sees book name place seen → seen ≡ declared book.variables name
sees_outer book name none (own {place} {var} d) = absurd (none-some var (sym (none place) ∙ d))
sees_outer book name none (around e r s) = sees_outer book name none s
sees_outer book name none (outermost e m) = refl

-- ---- a declaration that is found among those that are kept

tied : Equal ≡ Less → ⊥
tied e = cc

not_before : (a b : Text) → IsBefore a b → a ≡ b → ⊥
not_before a b before same = tied (sym (tied_itself nat_list_cmp_total b) ∙ subst (λ (x : Text). slice_cmp nat_cmp x b ≡ Less) same before)

not_later : (v : Var) (vars : List Var) (name : Text) (var : Var) → AllByRecursion (λ later. IsBefore v.name later.name) vars → bytes_eq v.name name ≡ true → declared vars name ≡ Some var → ⊥
not_later v [] name var all same e = none-some var e
not_later v (u ∷ vars) name var all same e = by (bytes_eq u.name name) refl e (λ k. not_later v vars name var all.1 same k)
  where
    by : (b : Bool) → bytes_eq u.name name ≡ b → cond b (Some u) (declared vars name) ≡ Some var → (declared vars name ≡ Some var → ⊥) → ⊥
    by true at found rest = not_before v.name u.name all.0 ((bytes_eq-Decides v.name name).0 same ∙ sym ((bytes_eq-Decides u.name name).0 at))
    by false at found rest = rest found

abbrev Found : (Var → Bool) → List Var → Text → Var → Type 0
Found keeps vars name var = (declared vars name ≡ Some var) × (keeps var ≡ true)

found_kept : (keeps : Var → Bool) (vars : List Var) (name : Text) (var : Var) → IsInNameOrder vars → declared (filter keeps vars) name ≡ Some var → Found keeps vars name var
found_kept keeps [] name var order e = absurd (none-some var e)
found_kept keeps (v ∷ vars) name var order e = by (keeps v) refl (bytes_eq v.name name) refl e (λ k. found_kept keeps vars name var order.1 k)
  where
    later : (b : Bool) → bytes_eq v.name name ≡ b → declared vars name ≡ Some var → declared (v ∷ vars) name ≡ Some var
    later true at found = absurd (not_later v vars name var order.0 at found)
    later false at found = ap (λ (t : Bool). cond t (Some v) (declared vars name)) at ∙ found

    by : (k : Bool) → keeps v ≡ k → (b : Bool) → bytes_eq v.name name ≡ b → declared (cond k (v ∷ filter keeps vars) (filter keeps vars)) name ≡ Some var
        → (declared (filter keeps vars) name ≡ Some var → Found keeps vars name var) → Found keeps (v ∷ vars) name var
    by true k true b e within =
        let here : cond (bytes_eq v.name name) (Some v) (declared (filter keeps vars) name) ≡ Some v = ap (λ (t : Bool). cond t (Some v) (declared (filter keeps vars) name)) b in
        let same : v ≡ var = inner v var (sym here ∙ e) in
        (ap (λ (t : Bool). cond t (Some v) (declared vars name)) b ∙ ap (λ (x : Var). Some x) same, subst (λ (x : Var). keeps x ≡ true) same k)
    by true k false b e within =
        let there : cond (bytes_eq v.name name) (Some v) (declared (filter keeps vars) name) ≡ declared (filter keeps vars) name = ap (λ (t : Bool). cond t (Some v) (declared (filter keeps vars) name)) b in
        let rest = within (sym there ∙ e) in
        (ap (λ (t : Bool). cond t (Some v) (declared vars name)) b ∙ rest.0, rest.1)
    by false k b at e within = let rest = within e in (later b at rest.0, rest.1)

name_found : (vars : List Var) (name : Text) (var : Var) → declared vars name ≡ Some var → var.name ≡ name
name_found [] name var e = absurd (none-some var e)
name_found (v ∷ vars) name var e = by (bytes_eq v.name name) refl e (λ k. name_found vars name var k)
  where
    by : (b : Bool) → bytes_eq v.name name ≡ b → cond b (Some v) (declared vars name) ≡ Some var → (declared vars name ≡ Some var → var.name ≡ name) → var.name ≡ name
    by true same e rest = ap (λ (x : Var). x.name) (sym (inner v var e)) ∙ (bytes_eq-Decides v.name name).0 same
    by false same e rest = rest e

-- ---- what is seen, and its text

external_off : (var : Var) → is_fixed var ≡ true → (var.constant ≡ true) × (var.external ≡ false)
external_off var e =
    let first = and_parts var.constant _ e in
    (first.0, not_true var.external (and_parts (not var.external) _ first.1).0)

-- a constant that is known is declared so where the step is, and is fixed
abbrev IsSeen : Book → ℕ → Lists → ℕ → Text → Var → Type 0
IsSeen book place values scope name var = (home_declaration values.scopes scope name ≡ Some var) × (is_fixed var ≡ true)

module _ (book : Book) (place : ℕ) (step : Step) (values : Lists) (scope : ℕ) (order : IsInNameOrder book.variables) (at : slice_get book.steps place ≡ Some step) (here : IsScopeAt book place values scope) where
  abbrev keeps : Var → Bool
  keeps = λ var. is_fixed var && not (is_named (inner_names book) var.name)

  own_is : (name : Text) → declares book name place ≡ declared step.variables name
  own_is name = ap (option_and_then (λ (s : Step). declared s.variables name)) at

  seen : (name : Text) (var : Var) → constant_in step.variables (outer_constants book) name ≡ Some var → IsSeen book place values scope name var
  seen name var e = by (declared step.variables name) refl e
    where
      by : (o : Option Var) → declared step.variables name ≡ o → nearest_fixed o (declared (outer_constants book) name) ≡ Some var → IsSeen book place values scope name var
      by (Some v) is e = go (is_fixed v) refl e
        where
          go : (b : Bool) → is_fixed v ≡ b → (if b then Some v else None) ≡ Some var → IsSeen book place values scope name var
          go true f e =
              let same : v ≡ var = inner v var e in
              (sees_own book name place v (home_declaration values.scopes scope name) (own_is name ∙ is) (here.sees name) ∙ ap (λ (x : Var). Some x) same, subst (λ (x : Var). is_fixed x ≡ true) same f)
          go false f e = absurd (none-some var e)
      by None is e =
          let found = found_kept keeps book.variables name var order e in
          let parts = and_parts (is_fixed var) (not (is_named (inner_names book) var.name)) found.1 in
          let none : is_named (inner_names book) name ≡ false =
          subst (λ (n : Text). is_named (inner_names book) n ≡ false) (name_found book.variables name var found.0) (not_true (is_named (inner_names book) var.name) parts.1) in
          (sees_outer book name (λ p. none_at book.steps name p none) (here.sees name) ∙ found.0, parts.0)

  pub has_constants : HasConstants (constant_in step.variables (outer_constants book)) values scope
  has_constants = record {
    declared = λ name var e. (seen name var e).0;
    valued = λ name var e.
        let s = seen name var e in let off = external_off var s.1 in here.constants name var s.0 off.0 off.1;
    fixed = λ name var e. (seen name var e).1;
    texts = λ name var e. here.texts name var (seen name var e).0;
  }

pub constants_are_seen : ConstantsAreSeen
constants_are_seen book place step values scope order at here = has_constants book place step values scope order at here
