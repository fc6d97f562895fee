-- What is shown of a state after an edit, and the values of names.
use Rattle.std.proofs.Common.{◌≡◌, ℕ, zero, suc, ◌+◌, ◌<◌, ◌==◌, ◌&&◌, Bool, true, false, List, [], ◌∷◌, ◌++◌, length, cond, Option, Some, None, is_some, arith, refl, sym, ◌∙◌, ap, subst}
use Rattle.std.specs.Prelude.{find, option_and_then, option_map, reverse, slice_get}
use Rattle.std.specs.List.{AllByRecursion}
use Rattle.std.specs.Str.{bytes_eq}
use Rattle.std.proofs.lemmas.List.{reverse-append}
use Rattle.std.proofs.lemmas.Slice.Eq.{bytes_eq-Decides}
use Rattle.cacao_vars.specs.declared.declarations.Var.{Var}
use Rattle.cacao_vars.specs.declared.scoping.Scope.{Scope}
use Rattle.cacao_vars.specs.declared.scoping.Write.{Write}
use Rattle.cacao_vars.specs.Declarations.{declared}
use Rattle.cacao_vars.specs.Scopes.{home, along, declaration, last_write, written_or_declared}
use Rattle.flow_core_rules.specs.State.{Texts, shown, text_now, texts_now, texts_from, text_in}
use Rattle.flow_core_rules.specs.Edits.{shown_edited, changed_at, with_text, declared_texts}
use Rattle.flow_core_rules.specs.Edits.Edit.{opens, writes, makes, moves, issues, closes, upgrades}
use Rattle.flow_core_rules.specs.Laws.{ValuesAreShown, EditsAreShown}

-- ---- the last write

last_write-push : (ws : List Write) (w : Write) (scope : ℕ) (name : List ℕ)
    → last_write (ws ++ w ∷ []) scope name ≡ cond ((w.scope == scope) && bytes_eq w.name name) (Some w) (last_write ws scope name)
last_write-push ws w scope name = ap (find (λ (v : Write). (v.scope == scope) && bytes_eq v.name name)) (reverse-append ws (w ∷ []))

find_none-append : {A : Type 0} (p : A → Bool) (xs ys : List A) → find p xs ≡ None → find p ys ≡ None → find p (xs ++ ys) ≡ None
find_none-append p [] ys a b = b
find_none-append {A} p (x ∷ xs) ys a b = at (p x) (λ e. find_none-append p xs ys e b) a
  where
    at : (t : Bool) → (find p xs ≡ None → find p (xs ++ ys) ≡ None) → cond t (Some x) (find p xs) ≡ None → cond t (Some x) (find p (xs ++ ys)) ≡ None
    at true rest e = e
    at false rest e = rest e

less_not_same : (a b : ℕ) → a < b → (a == b) ≡ false
less_not_same a b h = grind arith

last_write-none : (ws : List Write) (scope : ℕ) (name : List ℕ) → AllByRecursion (λ w. w.scope < scope) ws → last_write ws scope name ≡ None
last_write-none [] scope name h = refl
last_write-none (w ∷ ws) scope name h =
    let p : Write → Bool = λ v. (v.scope == scope) && bytes_eq v.name name in
    let one : find p (w ∷ []) ≡ None = rw (less_not_same w.scope scope h.0) refl in
    rw (reverse-append (w ∷ []) ws) (find_none-append p (reverse ws) (w ∷ []) (last_write-none ws scope name h.1) one)

-- ---- one more write

texts_now-push : (ws : List Write) (at : ℕ) (name text : List ℕ) (scope : ℕ) (vars : List Var)
    → texts_now (ws ++ (record { scope = at; name = name; worth = text }) ∷ []) scope vars
    ≡ cond (at == scope) (with_text name text (texts_now ws scope vars)) (texts_now ws scope vars)
texts_now-push ws at name text scope [] = by (at == scope)
  where
    by : (t : Bool) → ◌≡◌ {A = Texts} [] (cond t [] [])
    by true = refl
    by false = refl
texts_now-push ws at name text scope (v ∷ vars) =
    rw (last_write-push ws (record { scope = at; name = name; worth = text }) scope v.name)
    (by (at == scope) (bytes_eq name v.name) (texts_now-push ws at name text scope vars))
  where
    w : Write
    w = record { scope = at; name = name; worth = text }

    by : (t same : Bool) → texts_now (ws ++ w ∷ []) scope vars ≡ cond t (with_text name text (texts_now ws scope vars)) (texts_now ws scope vars)
        → ◌≡◌ {A = Texts} ((v.name, written_or_declared (cond (t && same) (Some w) (last_write ws scope v.name)) (Some v)) ∷ texts_now (ws ++ w ∷ []) scope vars)
        (cond t ((v.name, cond same (Some text) (text_now ws scope v)) ∷ with_text name text (texts_now ws scope vars)) ((v.name, text_now ws scope v) ∷ texts_now ws scope vars))
    by true true e = ap (λ (r : Texts). (v.name, Some text) ∷ r) e
    by true false e = ap (λ (r : Texts). (v.name, text_now ws scope v) ∷ r) e
    by false same e = ap (λ (r : Texts). (v.name, text_now ws scope v) ∷ r) e

more_not_same : (a b : ℕ) → b < a → (a == b) ≡ false
more_not_same a b h = grind arith

texts_from-before : (scopes : List Scope) (ws : List Write) (at : ℕ) (name text : List ℕ) (n : ℕ) → at < n
    → texts_from n scopes (ws ++ (record { scope = at; name = name; worth = text }) ∷ []) ≡ texts_from n scopes ws
texts_from-before [] ws at name text n h = refl
texts_from-before (s ∷ scopes) ws at name text n h =
    rw (texts_now-push ws at name text n s.vars, less_not_same at n h)
    (ap (λ (r : List Texts). texts_now ws n s.vars ∷ r) (texts_from-before scopes ws at name text (suc n) (omega arith)))

texts_from-push : (scopes : List Scope) (ws : List Write) (at : ℕ) (name text : List ℕ) (n k : ℕ) → at ≡ k + n
    → texts_from n scopes (ws ++ (record { scope = at; name = name; worth = text }) ∷ []) ≡ changed_at k (with_text name text) (texts_from n scopes ws)
texts_from-push [] ws at name text n k e = refl
texts_from-push (s ∷ scopes) ws at name text n zero e =
    let same : (at == n) ≡ true = grind arith in
    rw (texts_now-push ws at name text n s.vars, same)
    (ap (λ (r : List Texts). with_text name text (texts_now ws n s.vars) ∷ r) (texts_from-before scopes ws at name text (suc n) (omega arith)))
texts_from-push (s ∷ scopes) ws at name text n (suc k) e =
    let other : (at == n) ≡ false = more_not_same at n (omega arith) in
    rw (texts_now-push ws at name text n s.vars, other)
    (ap (λ (r : List Texts). texts_now ws n s.vars ∷ r) (texts_from-push scopes ws at name text (suc n) k (omega arith)))

-- ---- one more scope

texts_now-none : (ws : List Write) (scope : ℕ) (vars : List Var) → AllByRecursion (λ w. w.scope < scope) ws → texts_now ws scope vars ≡ declared_texts vars
texts_now-none ws scope [] h = refl
texts_now-none ws scope (v ∷ vars) h =
    rw (last_write-none ws scope v.name h) (ap (λ (r : Texts). (v.name, v.worth) ∷ r) (texts_now-none ws scope vars h))

texts_from-open : (scopes : List Scope) (scope : Scope) (ws : List Write) (n m : ℕ) → m ≡ length scopes + n
    → texts_from n (scopes ++ scope ∷ []) ws ≡ texts_from n scopes ws ++ texts_now ws m scope.vars ∷ []
texts_from-open [] scope ws n m e = let same : n ≡ m = omega arith in ap (λ k. texts_now ws k scope.vars ∷ []) same
texts_from-open (s ∷ scopes) scope ws n m e =
    ap (λ (r : List Texts). texts_now ws n s.vars ∷ r) (texts_from-open scopes scope ws (suc n) m (omega arith))

pub edit_shown : EditsAreShown
edit_shown s (opens parent vars) placed =
    let e : texts_from 0 (s.scopes ++ (record { parent = parent; vars = vars }) ∷ []) s.writes ≡ texts_from 0 s.scopes s.writes ++ declared_texts vars ∷ [] =
    texts_from-open s.scopes (record { parent = parent; vars = vars }) s.writes 0 (length s.scopes) (omega arith)
    ∙ ap (λ (r : Texts). texts_from 0 s.scopes s.writes ++ r ∷ []) (texts_now-none s.writes (length s.scopes) vars placed) in
    ap (λ (r : List Texts). record (shown_edited (opens parent vars) (shown s).lists) { texts = r }) e
edit_shown s (writes scope name text) placed =
    ap (λ (r : List Texts). record (shown s).lists { texts = r }) (texts_from-push s.scopes s.writes scope name text 0 scope (omega arith))
edit_shown s (makes task) placed = refl
edit_shown s (moves n task) placed = refl
edit_shown s (issues issue) placed = refl
edit_shown s (closes n phase) placed = refl
edit_shown s upgrades placed = refl

-- ---- values

texts-at : (scopes : List Scope) (ws : List Write) (n k m : ℕ) → m ≡ k + n
    → slice_get (texts_from n scopes ws) k ≡ option_map (λ s. texts_now ws m s.vars) (slice_get scopes k)
texts-at [] ws n k m e = refl
texts-at (s ∷ scopes) ws n zero m e = let same : n ≡ m = omega arith in ap (λ i. Some (texts_now ws i s.vars)) same
texts-at (s ∷ scopes) ws n (suc k) m e = texts-at scopes ws (suc n) k m (omega arith)

text-in : (ws : List Write) (at : ℕ) (name : List ℕ) (vars : List Var) → is_some (declared vars name) ≡ true
    → written_or_declared (last_write ws at name) (declared vars name) ≡ text_in (texts_now ws at vars) name
text-in ws at name [] h = absurd (no h)
  where
    no : false ≡ true → ⊥
    no e = cc
text-in ws at name (v ∷ vars) h = by (bytes_eq v.name name) (λ e. (bytes_eq-Decides v.name name).0 e) (text-in ws at name vars) h
  where
    by : (t : Bool) → (t ≡ true → v.name ≡ name)
        → (is_some (declared vars name) ≡ true → written_or_declared (last_write ws at name) (declared vars name) ≡ text_in (texts_now ws at vars) name)
        → is_some (cond t (Some v) (declared vars name)) ≡ true
        → written_or_declared (last_write ws at name) (cond t (Some v) (declared vars name))
        ≡ option_and_then (λ (e : List ℕ × Option (List ℕ)). e.1) (cond t (Some (v.name, text_now ws at v)) (find (λ (e : List ℕ × Option (List ℕ)). bytes_eq e.0 name) (texts_now ws at vars)))
    by true same rest g = ap (λ n. written_or_declared (last_write ws at n) (Some v)) (sym (same refl))
    by false same rest g = rest g

pub find-passes : {A : Type 0} (p : A → Bool) (xs : List A) (x : A) → find p xs ≡ Some x → p x ≡ true
find-passes p [] x e = absurd (no e)
  where
    no : None ≡ Some x → ⊥
    no h = cc
find-passes {A} p (y ∷ ys) x e = by (p y) refl (find-passes p ys x) e
  where
    inner : Some y ≡ Some x → y ≡ x
    inner g = cc

    by : (t : Bool) → p y ≡ t → (find p ys ≡ Some x → p x ≡ true) → cond t (Some y) (find p ys) ≡ Some x → p x ≡ true
    by true is rest h = subst (λ z. p z ≡ true) (inner h) is
    by false is rest h = rest h

value-at : (scopes : List Scope) (ws : List Write) (at : ℕ) (name : List ℕ) → is_some (declaration scopes at name) ≡ true
    → written_or_declared (last_write ws at name) (declaration scopes at name)
    ≡ option_and_then (λ (t : Texts). text_in t name) (slice_get (texts_from 0 scopes ws) at)
value-at scopes ws at name h = rw (texts-at scopes ws 0 at at (omega arith)) (by (slice_get scopes at) h)
  where
    by : (o : Option Scope) → is_some (option_and_then (λ (s : Scope). declared s.vars name) o) ≡ true
        → written_or_declared (last_write ws at name) (option_and_then (λ (s : Scope). declared s.vars name) o)
        ≡ option_and_then (λ (t : Texts). text_in t name) (option_map (λ (s : Scope). texts_now ws at s.vars) o)
    by None g = absurd (no g)
      where
        no : false ≡ true → ⊥
        no e = cc
    by (Some s) g = text-in ws at name s.vars g

pub values_shown : ValuesAreShown
values_shown s scope name = by (home s.scopes scope name) (λ at e. find-passes (λ k. is_some (declaration s.scopes k name)) (along s.scopes scope) at e)
  where
    by : (o : Option ℕ) → ((at : ℕ) → o ≡ Some at → is_some (declaration s.scopes at name) ≡ true)
        → option_and_then (λ (h : ℕ). written_or_declared (last_write s.writes h name) (declaration s.scopes h name)) o
        ≡ option_and_then (λ (at : ℕ). option_and_then (λ (t : Texts). text_in t name) (slice_get (texts_from 0 s.scopes s.writes) at)) o
    by None h = refl
    by (Some at) h = value-at s.scopes s.writes at name (h at refl)
