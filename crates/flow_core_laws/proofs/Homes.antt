-- Homes and values of names, where further scopes are opened and further texts are written.
use Rattle.std.proofs.Common.{◌≡◌, ℕ, zero, suc, ◌<◌, Bool, true, false, cond, List, [], ◌∷◌, ◌++◌, length, Contains, Option, Some, None, is_some, arith, refl, ap, sym, subst, ◌∙◌, append_assoc, append-nil}
use Rattle.std.specs.Prelude.{IfSome, nat_le, option_and_then, slice_get, slice_index_or}
use Rattle.std.specs.List.{AllByRecursion}
use Rattle.std.specs.Option.{option_map_or}
use Rattle.std.proofs.lemmas.List.Elements.{Contains-append_left, Contains-append_right}
use Rattle.cacao_vars.specs.declared.declarations.Var.{Var}
use Rattle.cacao_vars.specs.declared.scoping.Scope.{Scope}
use Rattle.cacao_vars.specs.declared.scoping.Write.{Write}
use Rattle.cacao_vars.specs.Declarations.{declared}
use Rattle.cacao_vars.specs.Scopes.{HasParentsBefore, parent_of, along, home, declaration, home_declaration, last_write, written_or_declared}
use Rattle.cacao_vars.specs.Scopes.{value as value_in}
use Rattle.cacao_vars.proofs.ScopeLemmas.{home_here, home_outer, home_none}
use Rattle.cacao_vars.proofs.LawLemmas.{not_there}
use Rattle.flow_core_rules.specs.Edits.{Edit}
use Rattle.flow_core_rules.specs.Edits.Edit.{opens, writes, makes, moves, issues, closes, upgrades}
use Rattle.flow_core_rules.proofs.ShownLemmas.{find-passes}
use Rattle.flow_core_rules.proofs.TaskLemmas.{get_within}
use Rattle.flow_core_laws.proofs.Somes.{clash, le_true}
use Rattle.flow_core_laws.specs.Reads.{homes, written_below}

-- ---- further scopes

abbrev in_home : List Scope → List ℕ → Option ℕ → Option Var
in_home scopes name h = option_and_then (λ (at : ℕ). declaration scopes at name) h

pub get_front : {A : Type 0} (xs ys : List A) (k : ℕ) → k < length xs → slice_get (xs ++ ys) k ≡ slice_get xs k
get_front [] ys k less = absurd (omega arith)
get_front (x ∷ xs) ys zero less = refl
get_front (x ∷ xs) ys (suc k) less = get_front xs ys k (omega arith)

there : (scopes : List Scope) (name : List ℕ) (k : ℕ) (o : Option Scope) → slice_get scopes k ≡ o → is_some (option_and_then (λ (s : Scope). declared s.vars name) o) ≡ true → k < length scopes
there scopes name k None e h = absurd (clash false h refl)
there scopes name k (Some scope) e h = get_within scopes k scope e

-- the home of a name is a scope that is there
pub home_within : (scopes : List Scope) (scope : ℕ) (name : List ℕ) (at : ℕ) → home scopes scope name ≡ Some at → at < length scopes
home_within scopes scope name at e =
    there scopes name at (slice_get scopes at) refl (find-passes (λ n. is_some (declaration scopes n name)) (along scopes scope) at e)

module _ (scopes more : List Scope) (before : HasParentsBefore scopes) (after : HasParentsBefore (scopes ++ more)) (name : List ℕ) where
  pub same_declaration : (k : ℕ) → k < length scopes → declaration (scopes ++ more) k name ≡ declaration scopes k name
  same_declaration k less = ap (λ (o : Option Scope). option_and_then (λ (s : Scope). declared s.vars name) o) (get_front scopes more k less)

  same_parent : (k : ℕ) → k < length scopes → parent_of (scopes ++ more) k ≡ parent_of scopes k
  same_parent k less = ap (λ (o : Option Scope). option_and_then (λ (s : Scope). s.parent) o) (get_front scopes more k less)

  stays_at : (k : ℕ) → k < length scopes → ((p : ℕ) → p < k → home (scopes ++ more) p name ≡ home scopes p name)
      → (b : Bool) (o : Option ℕ) → is_some (declaration scopes k name) ≡ b → parent_of scopes k ≡ o → IfSome o (λ p. p < k) → home (scopes ++ more) k name ≡ home scopes k name
  stays_at k less earlier true o e p inner = home_here (scopes ++ more) k name (ap is_some (same_declaration k less) ∙ e) ∙ sym (home_here scopes k name e)
  stays_at k less earlier false None e p inner =
      home_none (scopes ++ more) k name (ap is_some (same_declaration k less) ∙ e) (same_parent k less ∙ p) ∙ sym (home_none scopes k name e p)
  stays_at k less earlier false (Some parent) e p inner =
      home_outer (scopes ++ more) k parent name after (ap is_some (same_declaration k less) ∙ e) (same_parent k less ∙ p) inner ∙ earlier parent inner
      ∙ sym (home_outer scopes k parent name before e p inner)

  stays_below : (n k : ℕ) → k < n → k < length scopes → home (scopes ++ more) k name ≡ home scopes k name
  stays_below zero k less within = absurd (omega arith)
  stays_below (suc n) k less within =
      stays_at k within (λ p inner. stays_below n p (omega arith) (omega arith)) (is_some (declaration scopes k name)) (parent_of scopes k) refl refl (before k)

  -- a name has the home that it had, seen from a scope that was there
  pub home_still : (k : ℕ) → k < length scopes → home (scopes ++ more) k name ≡ home scopes k name
  home_still k less = stays_below (suc k) k (omega arith) less

  -- that scope declares what it declared
  pub declared_still : (k : ℕ) → k < length scopes → home_declaration (scopes ++ more) k name ≡ home_declaration scopes k name
  declared_still k less =
      ap (in_home (scopes ++ more) name) (home_still k less) ∙ by (home scopes k name) (λ at e. home_within scopes k name at e)
    where
      by : (o : Option ℕ) → ((at : ℕ) → o ≡ Some at → at < length scopes) → in_home (scopes ++ more) name o ≡ in_home scopes name o
      by None h = refl
      by (Some at) h = same_declaration at (h at refl)

  abbrev valued_by : List Scope → List Write → Option ℕ → Option (List ℕ)
  valued_by ss ws o = option_and_then (λ (at : ℕ). written_or_declared (last_write ws at name) (declaration ss at name)) o

  -- and the name has the text that it had
  pub value_still : (ws : List Write) (k : ℕ) → k < length scopes → value_in (scopes ++ more) ws k name ≡ value_in scopes ws k name
  value_still ws k less =
      ap (valued_by (scopes ++ more) ws) (home_still k less) ∙ by (home scopes k name) (λ at e. home_within scopes k name at e)
    where
      by : (o : Option ℕ) → ((at : ℕ) → o ≡ Some at → at < length scopes) → valued_by (scopes ++ more) ws o ≡ valued_by scopes ws o
      by None h = refl
      by (Some at) h = ap (written_or_declared (last_write ws at name)) (same_declaration at (h at refl))

-- ---- further writes

-- none of the writes is to this name in its home
abbrev pub Unwritten : List Scope → ℕ → List ℕ → List Write → Type 0
Unwritten scopes scope name ws = AllByRecursion (λ w. home scopes scope name ≡ Some w.scope → name ≡ w.name → ⊥) ws

pub value_past : (scopes : List Scope) (ws more : List Write) (scope : ℕ) (name : List ℕ) → Unwritten scopes scope name more → value_in scopes (ws ++ more) scope name ≡ value_in scopes ws scope name
value_past scopes ws [] scope name h = ap (λ (xs : List Write). value_in scopes xs scope name) (append-nil ws)
value_past scopes ws (w ∷ more) scope name h =
    ap (λ (xs : List Write). value_in scopes xs scope name) (sym (append_assoc ws (w ∷ []) more))
    ∙ value_past scopes (ws ++ w ∷ []) more scope name h.1 ∙ not_there scopes ws w.scope w.name w.worth scope name h.0

-- ---- what edits write

abbrev pub written_by : List Edit → List Write
written_by [] = []
written_by (opens parent vars ∷ es) = written_by es
written_by (writes scope name text ∷ es) = (record { scope = scope; name = name; worth = text }) ∷ written_by es
written_by (makes task ∷ es) = written_by es
written_by (moves n task ∷ es) = written_by es
written_by (issues issue ∷ es) = written_by es
written_by (closes i end ∷ es) = written_by es
written_by (upgrades ∷ es) = written_by es

pub in_front : {A : Type 0} (x : A) (xs : List A) → Contains (x ∷ xs) x
in_front x xs = (0, omega arith, refl)

pub behind : {A : Type 0} (y : A) (xs : List A) (x : A) → Contains xs x → Contains (y ∷ xs) x
behind y xs x c = Contains-append_right (y ∷ []) xs x c

-- each that goes to a scope below the number is listed
pub all_listed : (count : ℕ) (Q : ℕ → List ℕ → Type 0) (es : List Edit) → ((at : ℕ) (name : List ℕ) → Contains (written_below count es) (at, name) → Q at name) → AllByRecursion (λ w. w.scope < count → Q w.scope w.name) (written_by es)
all_listed count Q [] f = tt
all_listed count Q (opens parent vars ∷ es) f = all_listed count Q es f
all_listed count Q (writes at name text ∷ es) f = (
  λ less. f at name (subst (λ (b : Bool). Contains {X = ℕ × List ℕ} (cond b ((at, name) ∷ written_below count es) (written_below count es)) (at, name)) (sym (le_true (suc at) count less)) (in_front {A = ℕ × List ℕ} (at, name) (written_below count es))),
  all_listed count Q es (λ n other c. f n other (later (nat_le (suc at) count) n other c)),
)
  where
    later : (b : Bool) (n : ℕ) (other : List ℕ) → Contains (written_below count es) (n, other) → Contains {X = ℕ × List ℕ} (cond b ((at, name) ∷ written_below count es) (written_below count es)) (n, other)
    later true n other c = behind {A = ℕ × List ℕ} (at, name) (written_below count es) (n, other) c
    later false n other c = c
all_listed count Q (makes task ∷ es) f = all_listed count Q es f
all_listed count Q (moves n task ∷ es) f = all_listed count Q es f
all_listed count Q (issues issue ∷ es) f = all_listed count Q es f
all_listed count Q (closes i end ∷ es) f = all_listed count Q es f
all_listed count Q (upgrades ∷ es) f = all_listed count Q es f

-- a name with a home is listed behind it
pub in_homes : (scopes : List Scope) (scope : ℕ) (names : List (List ℕ)) (name : List ℕ) (at : ℕ) → Contains names name → home scopes scope name ≡ Some at → Contains (homes scopes scope names) (at, name)
in_homes scopes scope names name at c e = by names c.0 c.1 c.2
  where
    one : (o : Option ℕ) → o ≡ Some at → Contains {X = ℕ × List ℕ} (option_map_or (λ (n : ℕ). (n, name) ∷ []) o []) (at, name)
    one o h = subst (λ (x : Option ℕ). Contains {X = ℕ × List ℕ} (option_map_or (λ (n : ℕ). (n, name) ∷ []) x []) (at, name)) (sym h) (in_front {A = ℕ × List ℕ} (at, name) [])

    by : (names : List (List ℕ)) (k : ℕ) → k < length names → slice_index_or names k name ≡ name → Contains (homes scopes scope names) (at, name)
    by [] k less is = absurd (omega arith)
    by (x ∷ names) zero less is =
        subst (λ (y : List ℕ). Contains (homes scopes scope (y ∷ names)) (at, name)) (sym is)
        (Contains-append_left {X = ℕ × List ℕ} (option_map_or (λ (n : ℕ). (n, name) ∷ []) (home scopes scope name) []) (homes scopes scope names) (at, name) (one (home scopes scope name) e))
    by (x ∷ names) (suc k) less is =
        Contains-append_right {X = ℕ × List ℕ} (option_map_or (λ (n : ℕ). (n, x) ∷ []) (home scopes scope x) []) (homes scopes scope names) (at, name) (by names k (omega arith) is)
