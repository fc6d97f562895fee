-- What is declared of names and what they are worth, also from a scope that is opened inside another one.
use Rattle.std.proofs.Common.{◌≡◌, ℕ, ◌<◌, Bool, true, false, cond, List, [], ◌∷◌, ◌++◌, length, Option, Some, None, is_some, refl, sym, ◌∙◌, ap}
use Rattle.std.specs.Prelude.{IfSome, find, slice_get, option_and_then}
use Rattle.std.specs.Str.{bytes_eq}
use Rattle.std.proofs.lemmas.Slice.Eq.{bytes_eq-Decides}
use Rattle.cacao_vars.specs.declared.declarations.Var.{Var}
use Rattle.cacao_vars.specs.declared.scoping.Scope.{Scope}
use Rattle.cacao_vars.specs.Declarations.{declared}
use Rattle.cacao_vars.specs.Scopes.{declaration, home, home_declaration}
use Rattle.flow_core_rules.specs.State.{Texts, text_in}
use Rattle.flow_core_rules.specs.Edits.{declared_texts}
use Rattle.flow_core_values.specs.declared.run.Run.{Run}
use Rattle.flow_core_values.specs.RunFacts.{IsWell, shown_of, lists_in}
use Rattle.flow_core_tables.specs.TableFacts.{lists_of}
use Rattle.cacao_vars.proofs.ScopeLemmas.{home_here}
use Rattle.flow_core_values.proofs.HomeLemmas.{parents_before, get_front, get_last, home_around}

-- ---- homes, seen from a scope that is opened inside another one

pub outer_home : (r : Run) (vars : List Var) (scope : ℕ) (name : List ℕ) → IsWell r → scope < length r.tables.opened.scopes → is_some (declared vars name) ≡ false
    → home (lists_in (lists_of r.tables) (Some vars) scope).scopes (length r.tables.opened.scopes) name ≡ home r.tables.opened.scopes scope name
outer_home r vars scope name well lt e =
    home_around r.tables.opened.scopes (record { parent = Some scope; vars = vars }) (parents_before (shown_of r) well.sane) lt name scope refl lt e

-- ---- declarations

own_declaration : (scopes : List Scope) (new : Scope) (name : List ℕ) → declaration (scopes ++ new ∷ []) (length scopes) name ≡ declared new.vars name
own_declaration scopes new name = ap (λ (o : Option Scope). option_and_then (λ (s : Scope). declared s.vars name) o) (get_last scopes new)

-- the last scope declares the name
pub own_home : (scopes : List Scope) (new : Scope) (name : List ℕ) (var : Var) → Some var ≡ declared new.vars name → home (scopes ++ new ∷ []) (length scopes) name ≡ Some (length scopes)
own_home scopes new name var e = home_here (scopes ++ new ∷ []) (length scopes) name (ap is_some (own_declaration scopes new name ∙ sym e))

pub own_found : (scopes : List Scope) (new : Scope) (name : List ℕ) (var : Var) → Some var ≡ declared new.vars name → home_declaration (scopes ++ new ∷ []) (length scopes) name ≡ Some var
own_found scopes new name var e =
    ap (λ (o : Option ℕ). option_and_then (λ (h : ℕ). declaration (scopes ++ new ∷ []) h name) o) (own_home scopes new name var e) ∙ own_declaration scopes new name ∙ sym e

-- the others declare what they did
in_front : (scopes : List Scope) (new : Scope) (name : List ℕ) (o : Option ℕ) → IfSome o (λ at. at < length scopes)
    → option_and_then (λ (h : ℕ). declaration (scopes ++ new ∷ []) h name) o ≡ option_and_then (λ (h : ℕ). declaration scopes h name) o
in_front scopes new name None lt = refl
in_front scopes new name (Some at) lt = ap (λ (o : Option Scope). option_and_then (λ (s : Scope). declared s.vars name) o) (get_front scopes new at lt)

pub outer_found : (r : Run) (vars : List Var) (scope : ℕ) (name : List ℕ) → IsWell r → scope < length r.tables.opened.scopes → is_some (declared vars name) ≡ false
    → IfSome (home r.tables.opened.scopes scope name) (λ at. at < length r.tables.opened.scopes)
    → home_declaration (lists_in (lists_of r.tables) (Some vars) scope).scopes (length r.tables.opened.scopes) name ≡ home_declaration r.tables.opened.scopes scope name
outer_found r vars scope name well lt e within =
    let scopes : List Scope = r.tables.opened.scopes in
    let new : Scope = record { parent = Some scope; vars = vars } in
    ap (λ (o : Option ℕ). option_and_then (λ (h : ℕ). declaration (scopes ++ new ∷ []) h name) o) (outer_home r vars scope name well lt e)
    ∙ in_front scopes new name (home scopes scope name) within

-- ---- texts

-- the declared text
worth_first : (b : Bool) (var : Var) (texts : Texts) (rest : Option Var) (name : List ℕ)
    → option_and_then (λ (e : List ℕ × Option (List ℕ)). e.1) (find (λ (e : List ℕ × Option (List ℕ)). bytes_eq e.0 name) texts) ≡ option_and_then (λ (v : Var). v.worth) rest
    → option_and_then (λ (e : List ℕ × Option (List ℕ)). e.1) (cond b (Some (var.name, var.worth)) (find (λ (e : List ℕ × Option (List ℕ)). bytes_eq e.0 name) texts))
    ≡ option_and_then (λ (v : Var). v.worth) (cond b (Some var) rest)
worth_first true var texts rest name h = refl
worth_first false var texts rest name h = h

pub declared_text_is : (vars : List Var) (name : List ℕ) → text_in (declared_texts vars) name ≡ option_and_then (λ (v : Var). v.worth) (declared vars name)
declared_text_is [] name = refl
declared_text_is (var ∷ vars) name = worth_first (bytes_eq var.name name) var (declared_texts vars) (declared vars name) name (declared_text_is vars name)

-- ---- a declaration has the name that was looked for

passes_first : {X : Type 0} (p : X → Bool) (y x : X) (rest : Option X) (b : Bool) → p y ≡ b → (rest ≡ Some x → p x ≡ true) → cond b (Some y) rest ≡ Some x → p x ≡ true
passes_first p y x rest true e later h = let same : y ≡ x = cc in ap p (sym same) ∙ e
passes_first p y x rest false e later h = later h

found_passes : {X : Type 0} (p : X → Bool) (xs : List X) (x : X) → find p xs ≡ Some x → p x ≡ true
found_passes p [] x h = absurd (no h)
  where
    no : None ≡ Some x → ⊥
    no k = cc
found_passes p (y ∷ xs) x h = passes_first p y x (find p xs) (p y) refl (found_passes p xs x) h

named_at : (o : Option Scope) (name : List ℕ) (var : Var) → option_and_then (λ (s : Scope). declared s.vars name) o ≡ Some var → var.name ≡ name
named_at None name var e = absurd (no e)
  where
    no : None ≡ Some var → ⊥
    no k = cc
named_at (Some s) name var e = (bytes_eq-Decides var.name name).0 (found_passes (λ (v : Var). bytes_eq v.name name) s.vars var e)

pub declaration_named : (scopes : List Scope) (at : ℕ) (name : List ℕ) (var : Var) → declaration scopes at name ≡ Some var → var.name ≡ name
declaration_named scopes at name var e = named_at (slice_get scopes at) name var e
