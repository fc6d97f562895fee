-- A scope that a task opens next shows the names as it did before, whatever was opened meanwhile.
use Rattle.std.proofs.Common.{◌≡◌, ℕ, ◌<◌, ◌==◌, ◌&&◌, Bool, true, false, cond, List, [], ◌∷◌, ◌++◌, length, Option, Some, None, is_some, arith, refl, ap, sym, subst, ◌∙◌, length-append}
use Rattle.std.specs.Prelude.{find, reverse, option_and_then, slice_get}
use Rattle.std.specs.List.{AllByRecursion}
use Rattle.std.specs.Str.{bytes_eq}
use Rattle.std.proofs.lemmas.List.{reverse-append}
use Rattle.run_records.specs.declared.record.Record.{Record}
use Rattle.cacao_vars.specs.declared.declarations.Var.{Var}
use Rattle.cacao_vars.specs.declared.scoping.Scope.{Scope}
use Rattle.cacao_vars.specs.declared.scoping.Write.{Write}
use Rattle.cacao_vars.specs.Declarations.{declared}
use Rattle.cacao_vars.specs.Scopes.{HasParentsBefore, home, declaration, home_declaration, last_write}
use Rattle.cacao_vars.specs.Scopes.{value as value_in}
use Rattle.cacao_vars.proofs.ScopeLemmas.{home_here, home_outer}
use Rattle.cacao_vars.proofs.OpenLemmas.{scopes_open}
use Rattle.flow_core_rules.specs.State.{State, Lists, shown, value}
use Rattle.flow_core_rules.specs.Edits.{edited, shown_edited}
use Rattle.flow_core_rules.specs.Edits.Edit.{opens}
use Rattle.flow_core_rules.specs.Runs.{Next}
use Rattle.flow_core_rules.proofs.ShownLemmas.{edit_shown, values_shown}
use Rattle.flow_core_laws.specs.OwnTask.{task_of, ChangesOwnTask}
use Rattle.flow_core_laws.proofs.Homes.{home_still, declared_still}
use Rattle.flow_core_laws.proofs.RunStates.{IsOfRun, of_run_next, parents_before}
use Rattle.flow_core_laws.proofs.SameReads.{SeenSame}
use Rattle.flow_core_laws.proofs.Seen.{IsFreeIn, parents_push, seen_still}

-- ---- nothing was written to a scope past those that are there

find_none-append : {A : Type 0} (p : A → Bool) (xs ys : List A) → find p xs ≡ None → find p ys ≡ None → find p (xs ++ ys) ≡ None
find_none-append p [] ys a b = b
find_none-append {A} p (x ∷ xs) ys a b = at (p x) (λ e. find_none-append p xs ys e b) a
  where
    at : (t : Bool) → (find p xs ≡ None → find p (xs ++ ys) ≡ None) → cond t (Some x) (find p xs) ≡ None → cond t (Some x) (find p (xs ++ ys)) ≡ None
    at true rest e = e
    at false rest e = rest e

less_not_same : (a b : ℕ) → a < b → (a == b) ≡ false
less_not_same a b h = grind arith

last_none : (ws : List Write) (scope : ℕ) (name : List ℕ) → AllByRecursion (λ w. w.scope < scope) ws → last_write ws scope name ≡ None
last_none [] scope name h = refl
last_none (w ∷ ws) scope name h =
    let p : Write → Bool = λ v. (v.scope == scope) && bytes_eq v.name name in
    let one : find p (w ∷ []) ≡ None = rw (less_not_same w.scope scope h.0) refl in
    rw (reverse-append (w ∷ []) ws) (find_none-append p (reverse ws) (w ∷ []) (last_none ws scope name h.1) one)

-- ---- one more scope

get_end : {A : Type 0} (xs : List A) (x : A) → slice_get (xs ++ x ∷ []) (length xs) ≡ Some x
get_end [] x = refl
get_end (y ∷ xs) x = get_end xs x

module _ (ss : List Scope) (ws : List Write) (around : ℕ) (vars : List Var) (before : HasParentsBefore ss) (inside : around < length ss) (placed : AllByRecursion (λ w. w.scope < length ss) ws) (name : List ℕ) where
  abbrev one_more : List Scope
  one_more = ss ++ (record { parent = Some around; vars = vars }) ∷ []

  last : slice_get one_more (length ss) ≡ Some (record { parent = Some around; vars = vars })
  last = get_end ss (record { parent = Some around; vars = vars })

  own : declaration one_more (length ss) name ≡ declared vars name
  own = ap (λ (o : Option Scope). option_and_then (λ (s : Scope). declared s.vars name) o) last

  later : HasParentsBefore one_more
  later = parents_push ss (record { parent = Some around; vars = vars }) before inside

  -- a name that it declares
  pub declared_own : (var : Var) → declared vars name ≡ Some var → home_declaration one_more (length ss) name ≡ Some var
  declared_own var e =
      ap (λ (o : Option ℕ). option_and_then (λ (at : ℕ). declaration one_more at name) o) (home_here one_more (length ss) name (ap is_some (own ∙ e))) ∙ own ∙ e

  pub valued_own : (var : Var) → declared vars name ≡ Some var → value_in one_more ws (length ss) name ≡ var.worth
  valued_own var e = (scopes_open ss ws (Some around) vars before inside).own name var (last_none ws (length ss) name placed) e

  -- a name that it does not declare is seen as in the scope around it
  pub home_around : declared vars name ≡ None → home one_more (length ss) name ≡ home ss around name
  home_around e =
      home_outer one_more (length ss) around name later (ap is_some (own ∙ e)) (ap (λ (o : Option Scope). option_and_then (λ (s : Scope). s.parent) o) last) inside
      ∙ home_still ss ((record { parent = Some around; vars = vars }) ∷ []) before later name around inside

  pub declared_around : declared vars name ≡ None → home_declaration one_more (length ss) name ≡ home_declaration ss around name
  declared_around e =
      ap (λ (o : Option ℕ). option_and_then (λ (at : ℕ). declaration one_more at name) o)
      (home_outer one_more (length ss) around name later (ap is_some (own ∙ e)) (ap (λ (o : Option Scope). option_and_then (λ (s : Scope). s.parent) o) last) inside)
      ∙ declared_still ss ((record { parent = Some around; vars = vars }) ∷ []) before later name around inside

  pub valued_around : declared vars name ≡ None → value_in one_more ws (length ss) name ≡ value_in ss ws around name
  valued_around e = (scopes_open ss ws (Some around) vars before inside).around name e

module _ (s a : State) (one : Record) (x : Next s one a) (k : IsOfRun s) (c : ChangesOwnTask s a one (task_of (shown s) one)) where
  after : IsOfRun a
  after = of_run_next s a one k x

  more_scopes : (n : ℕ) → n < length s.scopes → n < length a.scopes
  more_scopes n less = subst (λ (ss : List Scope). n < length ss) (sym c.texts.scopes_are) (by s.scopes c.texts.opened refl)
    where
      by : (xs ys : List Scope) → length xs ≡ length s.scopes → n < length (xs ++ ys)
      by xs ys e = omega (arith, length-append xs ys, e, less)

  pub seen_opened : (around : ℕ) (vars : List Var) (name : List ℕ) → around < length s.scopes → IsFreeIn s a one x k c (s.scopes ++ (record { parent = Some around; vars = vars }) ∷ []) (length s.scopes) name
      → SeenSame (shown_edited (opens (Some around) vars) (shown s).lists) (length s.scopes) (shown_edited (opens (Some around) vars) (shown a).lists) (length a.scopes) name
  seen_opened around vars name inside free =
      subst (λ (l : Lists). SeenSame l (length s.scopes) (shown_edited (opens (Some around) vars) (shown a).lists) (length a.scopes) name) (edit_shown s (opens (Some around) vars) k.placed)
      (subst (λ (l : Lists). SeenSame (shown there).lists (length s.scopes) l (length a.scopes) name) (edit_shown a (opens (Some around) vars) after.placed) (ways (declared vars name) refl))
    where
      there : State
      there = edited (opens (Some around) vars) s

      then : State
      then = edited (opens (Some around) vars) a

      before : HasParentsBefore s.scopes
      before = parents_before s k

      later : HasParentsBefore a.scopes
      later = parents_before a after

      within : around < length a.scopes
      within = more_scopes around inside

      both : home_declaration then.scopes (length a.scopes) name ≡ home_declaration there.scopes (length s.scopes) name → value then (length a.scopes) name ≡ value there (length s.scopes) name
          → SeenSame (shown there).lists (length s.scopes) (shown then).lists (length a.scopes) name
      both d v = (d, sym (values_shown then (length a.scopes) name) ∙ v ∙ values_shown there (length s.scopes) name)

      ways : (o : Option Var) → declared vars name ≡ o → SeenSame (shown there).lists (length s.scopes) (shown then).lists (length a.scopes) name
      ways (Some var) e =
          both (declared_own a.scopes a.writes around vars later within after.placed name var e ∙ sym (declared_own s.scopes s.writes around vars before inside k.placed name var e))
          (valued_own a.scopes a.writes around vars later within after.placed name var e ∙ sym (valued_own s.scopes s.writes around vars before inside k.placed name var e))
      ways None e =
          let seen : SeenSame (shown s).lists around (shown a).lists around name =
          seen_still s a one x k c around name inside (λ at h w. free at (home_around s.scopes s.writes around vars before inside k.placed name e ∙ h) w) in
          both (declared_around a.scopes a.writes around vars later within after.placed name e ∙ seen.0 ∙ sym (declared_around s.scopes s.writes around vars before inside k.placed name e))
          (valued_around a.scopes a.writes around vars later within after.placed name e ∙ (values_shown a around name ∙ seen.1 ∙ sym (values_shown s around name))
          ∙ sym (valued_around s.scopes s.writes around vars before inside k.placed name e))
