-- After a record of another task a name is seen as it was, where the record wrote no text to it in its home.
use Rattle.std.proofs.Common.{◌≡◌, ℕ, ◌<◌, true, false, List, [], ◌∷◌, ◌++◌, length, Contains, Option, Some, None, arith, refl, ap, sym, subst, ◌∙◌, ◌⊎◌, inl, inr, append_assoc, append-nil, length-append}
use Rattle.std.specs.Prelude.{IfSome, option_and_then, slice_get}
use Rattle.std.specs.List.{AllByRecursion, list_any}
use Rattle.std.specs.Option.{option_map_or}
use Rattle.run_records.specs.declared.record.Record.{Record}
use Rattle.cacao_vars.specs.declared.declarations.Var.{Var}
use Rattle.cacao_vars.specs.declared.scoping.Scope.{Scope}
use Rattle.cacao_vars.specs.declared.scoping.Write.{Write}
use Rattle.cacao_vars.specs.Scopes.{HasParentsBefore, home, home_declaration}
use Rattle.cacao_vars.specs.Scopes.{value as value_in}
use Rattle.flow_core_rules.specs.State.{State, Lists, shown, value}
use Rattle.flow_core_rules.specs.Edits.{Edit, edited, all_edited, shown_edited}
use Rattle.flow_core_rules.specs.Edits.Edit.{opens, writes, makes, moves, issues, closes, upgrades}
use Rattle.flow_core_rules.specs.Runs.{Next}
use Rattle.flow_core_rules.proofs.ShownLemmas.{edit_shown, values_shown}
use Rattle.flow_core_rules.proofs.PlacedLemmas.{Placed, change-placed}
use Rattle.flow_core_rules.proofs.TaskLemmas.{get_pushed}
use Rattle.flow_core_laws.specs.OwnTask.{task_of, ChangesOwnTask}
use Rattle.flow_core_laws.specs.Reads.{written_below, writes_of}
use Rattle.flow_core_laws.specs.BothOrders.{opens_scope}
use Rattle.flow_core_laws.proofs.Homes.{home_within, home_still, declared_still, value_still, Unwritten, value_past, written_by, all_listed}
use Rattle.flow_core_laws.proofs.RunStates.{IsOfRun, of_run_next, parents_before}
use Rattle.flow_core_laws.proofs.SameReads.{SeenSame}

one_more : {A : Type 0} (xs : List A) (x : A) (ys zs : List A) → zs ≡ (xs ++ x ∷ []) ++ ys → zs ≡ xs ++ x ∷ ys
one_more xs x ys zs e = e ∙ append_assoc xs (x ∷ []) ys

all_writes : (es : List Edit) (x : State) → (all_edited es x).writes ≡ x.writes ++ written_by es
all_writes [] x = sym (append-nil x.writes)
all_writes (opens parent vars ∷ es) x = all_writes es (edited (opens parent vars) x)
all_writes (writes scope name text ∷ es) x =
    one_more x.writes (record { scope = scope; name = name; worth = text }) (written_by es) (all_edited es (edited (writes scope name text) x)).writes (all_writes es (edited (writes scope name text) x))
all_writes (makes task ∷ es) x = all_writes es (edited (makes task) x)
all_writes (moves n task ∷ es) x = all_writes es (edited (moves n task) x)
all_writes (issues issue ∷ es) x = all_writes es (edited (issues issue) x)
all_writes (closes i end ∷ es) x = all_writes es (edited (closes i end) x)
all_writes (upgrades ∷ es) x = all_writes es (edited upgrades x)

no_truth : true ≡ false → ⊥
no_truth h = cc

-- without a new scope all writes go to scopes that are there
placed_below : (es : List Edit) (n : ℕ) → list_any opens_scope es ≡ false → Placed n es → AllByRecursion (λ w. w.scope < n) (written_by es)
placed_below [] n none h = tt
placed_below (opens parent vars ∷ es) n none h = absurd (no_truth none)
placed_below (writes scope name text ∷ es) n none h = (h.0, placed_below es n none h.1)
placed_below (makes task ∷ es) n none h = placed_below es n none h
placed_below (moves t task ∷ es) n none h = placed_below es n none h
placed_below (issues issue ∷ es) n none h = placed_below es n none h
placed_below (closes i end ∷ es) n none h = placed_below es n none h
placed_below (upgrades ∷ es) n none h = placed_below es n none h

both_of : {A : Type 0} (P Q R : A → Type 0) (xs : List A) → ((x : A) → P x → Q x → R x) → AllByRecursion P xs → AllByRecursion Q xs → AllByRecursion R xs
both_of P Q R [] f p q = tt
both_of P Q R (x ∷ xs) f p q = (f x p.0 q.0, both_of P Q R xs f p.1 q.1)

always : {A : Type 0} (P : A → Type 0) (xs : List A) → ((x : A) → P x) → AllByRecursion P xs
always P [] f = tt
always P (x ∷ xs) f = (f x, always P xs f)

none_left : {A : Type 0} (xs ys : List A) → length (xs ++ ys) ≡ length xs → ys ≡ []
none_left xs [] e = refl
none_left xs (y ∷ ys) e = let grown = length-append xs (y ∷ ys) in absurd (omega arith)

-- one more scope, inside one that is there
pub parents_push : (scopes : List Scope) (new : Scope) → HasParentsBefore scopes → IfSome new.parent (λ p. p < length scopes) → HasParentsBefore (scopes ++ new ∷ [])
parents_push scopes new before inside k = by (slice_get (scopes ++ new ∷ []) k) refl
  where
    at : (scope : Scope) → (slice_get scopes k ≡ Some scope) ⊎ ((k ≡ length scopes) × (new ≡ scope)) → IfSome scope.parent (λ p. p < k)
    at scope (inl e) = subst (λ (o : Option Scope). IfSome (option_and_then (λ (s : Scope). s.parent) o) (λ p. p < k)) e (before k)
    at scope (inr e) = subst (λ (x : Scope). IfSome x.parent (λ p. p < k)) e.1 (subst (λ n. IfSome new.parent (λ p. p < n)) (sym e.0) inside)

    by : (o : Option Scope) → slice_get (scopes ++ new ∷ []) k ≡ o → IfSome (option_and_then (λ (s : Scope). s.parent) (slice_get (scopes ++ new ∷ []) k)) (λ p. p < k)
    by None e = subst (λ (o : Option Scope). IfSome (option_and_then (λ (s : Scope). s.parent) o) (λ p. p < k)) (sym e) tt
    by (Some scope) e = subst (λ (o : Option Scope). IfSome (option_and_then (λ (s : Scope). s.parent) o) (λ p. p < k)) (sym e) (at scope (get_pushed scopes new scope k e))

-- a state with further scopes and further writes, none of them to the name in its home
seen_after : (s a : State) (more : List Scope) (ws : List Write) (scope : ℕ) (name : List ℕ) → a.scopes ≡ s.scopes ++ more → a.writes ≡ s.writes ++ ws → HasParentsBefore s.scopes → HasParentsBefore a.scopes
    → scope < length s.scopes → Unwritten s.scopes scope name ws → SeenSame (shown s).lists scope (shown a).lists scope name
seen_after s a more ws scope name scopes_are writes_are before later less unwritten = (
  ap (λ (ss : List Scope). home_declaration ss scope name) scopes_are ∙ declared_still s.scopes more before grown name scope less,
  sym (values_shown a scope name) ∙ same ∙ values_shown s scope name,
)
  where
    grown : HasParentsBefore (s.scopes ++ more)
    grown = subst HasParentsBefore scopes_are later

    same : value a scope name ≡ value s scope name
    same =
        ap (λ (ss : List Scope). value_in ss a.writes scope name) scopes_are ∙ value_still s.scopes more before grown name a.writes scope less
        ∙ ap (λ (xs : List Write). value_in s.scopes xs scope name) writes_are ∙ value_past s.scopes s.writes ws scope name unwritten

module _ (s a : State) (one : Record) (x : Next s one a) (k : IsOfRun s) (c : ChangesOwnTask s a one (task_of (shown s) one)) where
  later : IsOfRun a
  later = of_run_next s a one k x

  writes_are : a.writes ≡ s.writes ++ written_by x.edits
  writes_are = ap (λ (z : State). z.writes) x.new_is ∙ all_writes x.edits s

  -- a name that has its home in scopes from a scope on, and is not written there
  abbrev pub IsFreeIn : List Scope → ℕ → List ℕ → Type 0
  IsFreeIn scopes scope name = (at : ℕ) → home scopes scope name ≡ Some at → Contains (writes_of (shown s) one) (at, name) → ⊥

  is_written : (at : ℕ) (name : List ℕ) → Contains (written_below (length s.scopes) x.edits) (at, name) → Contains (writes_of (shown s) one) (at, name)
  is_written at name w = subst (λ (o : Option (List Edit)). Contains (option_map_or (written_below (length s.scopes)) o []) (at, name)) (sym x.change_is) w

  unwritten : (scopes : List Scope) (scope : ℕ) (name : List ℕ) → AllByRecursion (λ w. home scopes scope name ≡ Some w.scope → w.scope < length s.scopes) (written_by x.edits) → IsFreeIn scopes scope name
      → Unwritten scopes scope name (written_by x.edits)
  unwritten scopes scope name below free =
      both_of (λ (w : Write). home scopes scope name ≡ Some w.scope → w.scope < length s.scopes) (λ (w : Write). w.scope < length s.scopes → home scopes scope name ≡ Some w.scope → name ≡ w.name → ⊥)
      (λ (w : Write). home scopes scope name ≡ Some w.scope → name ≡ w.name → ⊥) (written_by x.edits) (λ w p q e same. q (p e) e same) below
      (all_listed (length s.scopes) (λ at other. home scopes scope name ≡ Some at → name ≡ other → ⊥) x.edits (λ at other w e same.
      free at e (subst (λ (n : List ℕ). Contains (writes_of (shown s) one) (at, n)) (sym same) (is_written at other w))))

  pub homes_same : (scope : ℕ) → scope < length s.scopes → (name : List ℕ) → home a.scopes scope name ≡ home s.scopes scope name
  homes_same scope less name =
      ap (λ (ss : List Scope). home ss scope name) c.texts.scopes_are
      ∙ home_still s.scopes c.texts.opened (parents_before s k) (subst HasParentsBefore c.texts.scopes_are (parents_before a later)) name scope less

  -- seen from a scope that was there
  pub seen_still : (scope : ℕ) (name : List ℕ) → scope < length s.scopes → IsFreeIn s.scopes scope name → SeenSame (shown s).lists scope (shown a).lists scope name
  seen_still scope name less free =
      seen_after s a c.texts.opened (written_by x.edits) scope name c.texts.scopes_are writes_are (parents_before s k) (parents_before a later) less
      (unwritten s.scopes scope name (always (λ (w : Write). home s.scopes scope name ≡ Some w.scope → w.scope < length s.scopes) (written_by x.edits) (λ w e. home_within s.scopes scope name w.scope e)) free)

  -- seen from a scope that another task opens next, where the record opens none
  pub seen_inside : (around : ℕ) (vars : List Var) (name : List ℕ) → list_any opens_scope x.edits ≡ false → length a.scopes ≡ length s.scopes → around < length s.scopes
      → IsFreeIn (s.scopes ++ (record { parent = Some around; vars = vars }) ∷ []) (length s.scopes) name
      → SeenSame (shown_edited (opens (Some around) vars) (shown s).lists) (length s.scopes) (shown_edited (opens (Some around) vars) (shown a).lists) (length s.scopes) name
  seen_inside around vars name none count inside free =
      subst (λ (l : Lists). SeenSame l (length s.scopes) (shown_edited (opens (Some around) vars) (shown a).lists) (length s.scopes) name) (edit_shown s (opens (Some around) vars) k.placed)
      (subst (λ (l : Lists). SeenSame (shown there).lists (length s.scopes) l (length s.scopes) name) (edit_shown a (opens (Some around) vars) later.placed)
      (seen_after there (edited (opens (Some around) vars) a) [] (written_by x.edits) (length s.scopes) name (ap (λ (ss : List Scope). ss ++ scope ∷ []) same ∙ sym (append-nil (s.scopes ++ scope ∷ []))) writes_are
      before (subst (λ (ss : List Scope). HasParentsBefore (ss ++ scope ∷ [])) (sym same) before) (omega (arith, length-append s.scopes (scope ∷ [])))
      (unwritten (s.scopes ++ scope ∷ []) (length s.scopes) name below free)))
    where
      scope : Scope
      scope = record { parent = Some around; vars = vars }

      there : State
      there = edited (opens (Some around) vars) s

      same : a.scopes ≡ s.scopes
      same =
          c.texts.scopes_are
          ∙ ap (λ (more : List Scope). s.scopes ++ more) (none_left s.scopes c.texts.opened (ap (λ (ss : List Scope). length ss) (sym c.texts.scopes_are) ∙ count)) ∙ append-nil s.scopes

      before : HasParentsBefore (s.scopes ++ scope ∷ [])
      before = parents_push s.scopes scope (parents_before s k) inside

      below : AllByRecursion (λ w. home (s.scopes ++ scope ∷ []) (length s.scopes) name ≡ Some w.scope → w.scope < length s.scopes) (written_by x.edits)
      below =
          both_of (λ (w : Write). w.scope < length s.scopes) (λ (w : Write). w.scope < length s.scopes) (λ (w : Write). home (s.scopes ++ scope ∷ []) (length s.scopes) name ≡ Some w.scope → w.scope < length s.scopes)
          (written_by x.edits) (λ w p q e. p) all_placed all_placed
        where
          all_placed : AllByRecursion (λ w. w.scope < length s.scopes) (written_by x.edits)
          all_placed = placed_below x.edits (length s.scopes) none (subst (λ (o : Option (List Edit)). IfSome o (Placed (length s.scopes))) x.change_is (change-placed (shown s) one))
