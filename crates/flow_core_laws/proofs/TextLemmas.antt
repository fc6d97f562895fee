-- The texts of a state: each fits the kind that its scope declares, and that of a constant is the declared one, or it is external.
use Rattle.std.proofs.Common.{◌≡◌, ◌⊎◌, ℕ, ◌+◌, ◌<◌, ◌≤◌, ◌==◌, ◌&&◌, Bool, true, false, cond, IsTrue, List, [], ◌∷◌, ◌++◌, length, Option, Some, None, is_some, arith, refl, ap, sym, subst, ◌∙◌, length-append, inl, inr}
use Rattle.std.specs.Prelude.{IfSome, find, option_and_then, slice_get}
use Rattle.std.specs.Str.{bytes_eq}
use Rattle.std.proofs.lemmas.List.{reverse-append}
use Rattle.std.proofs.lemmas.Slice.Eq.{bytes_eq-Decides}
use Rattle.cacao_vars.specs.declared.declarations.Var.{Var}
use Rattle.cacao_vars.specs.declared.scoping.Scope.{Scope}
use Rattle.cacao_vars.specs.declared.scoping.Write.{Write}
use Rattle.cacao_vars.specs.Declarations.{declared}
use Rattle.cacao_vars.specs.Scopes.{HasParentsBefore, along, home, home_declaration, declaration, last_write, written_or_declared}
use Rattle.cacao_check.specs.Fits.{FitsKind}
use Rattle.flow_core_rules.specs.State.{State, value}
use Rattle.flow_core_rules.specs.Edits.{edited}
use Rattle.flow_core_rules.specs.Edits.Edit.{opens, writes}
use Rattle.flow_core_rules.proofs.ShownLemmas.{find-passes}
use Rattle.flow_core_rules.proofs.RunLemmas.{some_inner}
use Rattle.flow_core_rules.proofs.TaskLemmas.{get_pushed, get_within}
use Rattle.flow_core_laws.proofs.Somes.{none_some, clash, equal_of, parts_true}
use Rattle.flow_core_laws.proofs.AcceptedRules.{VarsFit}
use Rattle.flow_core_laws.proofs.HomeLemmas.{get_front}

-- the text of a declared name by the last write to it
abbrev pub text_by : Option Write → Var → Option (List ℕ)
text_by write var = written_or_declared write (Some var)

pub record FitsText (write : Option Write) (var : Var) : Type 0 where
  pub fits : IfSome (text_by write var) (FitsKind var.kind)
  pub fixed : IsTrue var.constant → var.external ≡ false → text_by write var ≡ var.worth

-- nothing was written past the last scope
pub record AreTextsFit (scopes : List Scope) (written : List Write) : Type 0 where
  pub fresh : (n : ℕ) (name : List ℕ) → length scopes ≤ n → last_write written n name ≡ None
  pub fit : (n : ℕ) (name : List ℕ) (var : Var) → declaration scopes n name ≡ Some var → FitsText (last_write written n name) var

-- ---- what a scope declares

pub record DeclaresIn (scopes : List Scope) (n : ℕ) (name : List ℕ) (var : Var) : Type 0 where
  pub scope : Scope
  pub scope_is : slice_get scopes n ≡ Some scope
  pub declared_is : declared scope.vars name ≡ Some var

pub declares_in : (scopes : List Scope) (n : ℕ) (name : List ℕ) (var : Var) → declaration scopes n name ≡ Some var → DeclaresIn scopes n name var
declares_in scopes n name var e = by (slice_get scopes n) refl e
  where
    by : (o : Option Scope) → slice_get scopes n ≡ o → option_and_then (λ (s : Scope). declared s.vars name) o ≡ Some var → DeclaresIn scopes n name var
    by None is h = absurd (none_some var h)
    by (Some scope) is h = record { scope = scope; scope_is = is; declared_is = h }

pub declaration_at : (scopes : List Scope) (n : ℕ) (scope : Scope) (name : List ℕ) → slice_get scopes n ≡ Some scope → declaration scopes n name ≡ declared scope.vars name
declaration_at scopes n scope name e = ap (λ (o : Option Scope). option_and_then (λ (s : Scope). declared s.vars name) o) e

pub declared_front : (scopes : List Scope) (more : List Scope) (n : ℕ) (name : List ℕ) (var : Var) → declaration scopes n name ≡ Some var → declaration (scopes ++ more) n name ≡ Some var
declared_front scopes more n name var e =
    let d : DeclaresIn scopes n name var = declares_in scopes n name var e in
    declaration_at (scopes ++ more) n d.scope name (get_front scopes more n (get_within scopes n d.scope d.scope_is) ∙ d.scope_is) ∙ d.declared_is

-- a scope that is opened has none but earlier ones around it
pub parents_push : (scopes : List Scope) (new : Scope) → HasParentsBefore scopes → IfSome new.parent (λ p. p < length scopes) → HasParentsBefore (scopes ++ new ∷ [])
parents_push scopes new before inside k = by (slice_get (scopes ++ new ∷ []) k) refl
  where
    at : (scope : Scope) → (slice_get scopes k ≡ Some scope) ⊎ ((k ≡ length scopes) × (new ≡ scope)) → IfSome scope.parent (λ p. p < k)
    at scope (inl e) = subst (λ (o : Option ℕ). IfSome o (λ p. p < k)) (ap (λ (o : Option Scope). option_and_then (λ (s : Scope). s.parent) o) e) (before k)
    at scope (inr e) = subst (λ (x : Scope). IfSome x.parent (λ p. p < k)) e.1 (subst (λ n. IfSome new.parent (λ p. p < n)) (sym e.0) inside)

    by : (o : Option Scope) → slice_get (scopes ++ new ∷ []) k ≡ o → IfSome (option_and_then (λ (s : Scope). s.parent) o) (λ p. p < k)
    by None e = tt
    by (Some scope) e = at scope (get_pushed scopes new scope k e)

-- ---- what a name has from a scope

pub record HasText (s : State) (scope : ℕ) (name text : List ℕ) : Type 0 where
  pub at : ℕ
  pub var : Var
  pub home_is : home s.scopes scope name ≡ Some at
  pub declared_is : declaration s.scopes at name ≡ Some var
  pub seen_is : home_declaration s.scopes scope name ≡ Some var
  pub text_is : text_by (last_write s.writes at name) var ≡ Some text

-- the home of a name that is declared
pub record HasHome (scopes : List Scope) (scope : ℕ) (name : List ℕ) (var : Var) : Type 0 where
  pub at : ℕ
  pub home_is : home scopes scope name ≡ Some at
  pub declared_is : declaration scopes at name ≡ Some var

pub has_home : (scopes : List Scope) (scope : ℕ) (name : List ℕ) (var : Var) → home_declaration scopes scope name ≡ Some var → HasHome scopes scope name var
has_home scopes scope name var e = by (home scopes scope name) refl e
  where
    by : (o : Option ℕ) → home scopes scope name ≡ o → option_and_then (λ h. declaration scopes h name) o ≡ Some var → HasHome scopes scope name var
    by None is h = absurd (none_some var h)
    by (Some at) is h = record { at = at; home_is = is; declared_is = h }

pub seen_at : (scopes : List Scope) (scope at : ℕ) (name : List ℕ) → home scopes scope name ≡ Some at → home_declaration scopes scope name ≡ declaration scopes at name
seen_at scopes scope at name e = ap (option_and_then (λ h. declaration scopes h name)) e

pub value_by : (s : State) (scope at : ℕ) (name : List ℕ) (var : Var) → home s.scopes scope name ≡ Some at → declaration s.scopes at name ≡ Some var → value s scope name ≡ text_by (last_write s.writes at name) var
value_by s scope at name var here is =
    ap (option_and_then (λ h. written_or_declared (last_write s.writes h name) (declaration s.scopes h name))) here
    ∙ ap (written_or_declared (last_write s.writes at name)) is

pub has_text : (s : State) (scope : ℕ) (name text : List ℕ) → value s scope name ≡ Some text → HasText s scope name text
has_text s scope name text e = by (home s.scopes scope name) refl e
  where
    there : (at : ℕ) → home s.scopes scope name ≡ Some at → (o : Option Var) → declaration s.scopes at name ≡ o → is_some o ≡ true
        → written_or_declared (last_write s.writes at name) o ≡ Some text → HasText s scope name text
    there at here None is some h = absurd (clash false some refl)
    there at here (Some var) is some h = record { at = at; var = var; home_is = here; declared_is = is; seen_is = seen_at s.scopes scope at name here ∙ is; text_is = h }

    by : (o : Option ℕ) → home s.scopes scope name ≡ o → option_and_then (λ h. written_or_declared (last_write s.writes h name) (declaration s.scopes h name)) o ≡ Some text → HasText s scope name text
    by None here h = absurd (none_some text h)
    by (Some at) here h =
        there at here (declaration s.scopes at name) refl (find-passes (λ k. is_some (declaration s.scopes k name)) (along s.scopes scope) at here) h

-- a text that is seen fits the kind that is seen
pub fits_seen : (s : State) (scope : ℕ) (name text : List ℕ) (var : Var) → AreTextsFit s.scopes s.writes → value s scope name ≡ Some text → home_declaration s.scopes scope name ≡ Some var → FitsKind var.kind text
fits_seen s scope name text var fit e seen =
    let h : HasText s scope name text = has_text s scope name text e in
    let same : h.var ≡ var = some_inner h.var var (sym h.seen_is ∙ seen) in
    let f : FitsText (last_write s.writes h.at name) h.var = fit.fit h.at name h.var h.declared_is in
    subst (λ (v : Var). FitsKind v.kind text) same (subst (λ (o : Option (List ℕ)). IfSome o (FitsKind (h.var).kind)) h.text_is f.fits)

-- ---- one edit

last_pushed : (ws : List Write) (w : Write) (scope : ℕ) (name : List ℕ)
    → last_write (ws ++ w ∷ []) scope name ≡ cond ((w.scope == scope) && bytes_eq w.name name) (Some w) (last_write ws scope name)
last_pushed ws w scope name = ap (find (λ (v : Write). (v.scope == scope) && bytes_eq v.name name)) (reverse-append ws (w ∷ []))

-- a text for a name of a scope fits its kind, and is for no constant but an external one of a scope that was opened just now
abbrev pub MayWrite : ℕ → List Scope → ℕ → List ℕ → List ℕ → Type 0
MayWrite old scopes at name text =
    (var : Var) → declaration scopes at name ≡ Some var → FitsKind var.kind text × (IsTrue var.constant → (var.external ≡ true) × (old ≤ at))

pub fit_written : (s : State) (old at : ℕ) (name text : List ℕ) → at < length s.scopes → MayWrite old s.scopes at name text → AreTextsFit s.scopes s.writes → AreTextsFit s.scopes (edited (writes at name text) s).writes
fit_written s old at name text within may f = record {
  fresh = λ n other le. last_pushed s.writes w n other ∙ past n other le ((at == n) && bytes_eq name other) refl;
  fit = λ n other var is. subst (λ (o : Option Write). FitsText o var) (sym (last_pushed s.writes w n other)) (by n other var is ((at == n) && bytes_eq name other) refl);
}
  where
    w : Write
    w = record { scope = at; name = name; worth = text }

    past : (n : ℕ) (other : List ℕ) → length s.scopes ≤ n → (b : Bool) → ((at == n) && bytes_eq name other) ≡ b → cond b (Some w) (last_write s.writes n other) ≡ None
    past n other le true e = let same : at ≡ n = equal_of at n (parts_true (at == n) (bytes_eq name other) e).0 in absurd (omega arith)
    past n other le false e = f.fresh n other le

    here : (var : Var) → declaration s.scopes at name ≡ Some var → FitsText (Some w) var
    here var is = record {
      fits = (may var is).0;
      fixed = λ constant own. absurd (clash var.external ((may var is).1 constant).0 own);
    }

    by : (n : ℕ) (other : List ℕ) (var : Var) → declaration s.scopes n other ≡ Some var → (b : Bool) → ((at == n) && bytes_eq name other) ≡ b → FitsText (cond b (Some w) (last_write s.writes n other)) var
    by n other var is true e =
        let parts = parts_true (at == n) (bytes_eq name other) e in
        let number : at ≡ n = equal_of at n parts.0 in
        let word : name ≡ other = (bytes_eq-Decides name other).0 parts.1 in
        here var (ap (λ k. declaration s.scopes k name) number ∙ ap (declaration s.scopes n) word ∙ is)
    by n other var is false e = f.fit n other var is

pub fit_opened : (s : State) (parent : Option ℕ) (vars : List Var) → VarsFit vars → AreTextsFit s.scopes s.writes → AreTextsFit (edited (opens parent vars) s).scopes s.writes
fit_opened s parent vars declared_fit f = record {
  fresh = λ n name le. let grown : length (s.scopes ++ new ∷ []) ≡ length s.scopes + 1 = length-append s.scopes (new ∷ []) in f.fresh n name (omega arith);
  fit = λ n name var is. let d : DeclaresIn (s.scopes ++ new ∷ []) n name var = declares_in (s.scopes ++ new ∷ []) n name var is in
      by n name var d (get_pushed s.scopes new d.scope n d.scope_is);
}
  where
    new : Scope
    new = record { parent = parent; vars = vars }

    unwritten : (name : List ℕ) (var : Var) → declared vars name ≡ Some var → FitsText None var
    unwritten name var is = record { fits = declared_fit name var is; fixed = λ constant own. refl }

    by : (n : ℕ) (name : List ℕ) (var : Var) (d : DeclaresIn (s.scopes ++ new ∷ []) n name var) → (slice_get s.scopes n ≡ Some d.scope) ⊎ ((n ≡ length s.scopes) × (new ≡ d.scope))
        → FitsText (last_write s.writes n name) var
    by n name var d (inl e) = f.fit n name var (declaration_at s.scopes n d.scope name e ∙ d.declared_is)
    by n name var d (inr e) =
        let le : length s.scopes ≤ n = let same = e.0 in omega arith in
        subst (λ (o : Option Write). FitsText o var) (sym (f.fresh n name le)) (unwritten name var (ap (λ (x : Scope). declared x.vars name) e.1 ∙ d.declared_is))

-- ---- a constant

-- a write to another text leaves this one
pub constant_kept : (s : State) (old at : ℕ) (name text : List ℕ) → MayWrite old s.scopes at name text → (n : ℕ) (other : List ℕ) (var : Var) → n < old → declaration s.scopes n other ≡ Some var → IsTrue var.constant
    → last_write (edited (writes at name text) s).writes n other ≡ last_write s.writes n other
constant_kept s old at name text may n other var less is constant = last_pushed s.writes w n other ∙ by ((at == n) && bytes_eq name other) refl
  where
    w : Write
    w = record { scope = at; name = name; worth = text }

    by : (b : Bool) → ((at == n) && bytes_eq name other) ≡ b → cond b (Some w) (last_write s.writes n other) ≡ last_write s.writes n other
    by true e =
        let parts = parts_true (at == n) (bytes_eq name other) e in
        let number : at ≡ n = equal_of at n parts.0 in
        let word : name ≡ other = (bytes_eq-Decides name other).0 parts.1 in
        let m = may var (ap (λ k. declaration s.scopes k name) number ∙ ap (declaration s.scopes n) word ∙ is) in
        let late : old ≤ at = (m.1 constant).1 in
        absurd (omega arith)
    by false e = refl
