-- Which edits leave the issues as they are, and what no edit changes.
use Rattle.std.proofs.Common.{◌≡◌, ℕ, suc, ◌+◌, Bool, true, false, cond, List, [], ◌∷◌, ◌++◌, length, Option, Some, None, refl, sym, subst, append_assoc}
use Rattle.std.specs.Prelude.{IfSome, map, slice_get, not, nat_le}
use Rattle.std.specs.List.{flat_map, list_any, list_all}
use Rattle.std.specs.Option.{option_map_or}
use Rattle.cacao_vars.specs.Scopes.{home}
use Rattle.cacao_book.specs.declared.step_kinds.StepKind.{StepKind}
use Rattle.cacao_book.specs.declared.step_kinds.StepKind.TheVariants as does
use Rattle.flow_core_rules.specs.declared.tasks.Task.{Task}
use Rattle.flow_core_rules.specs.declared.phases.Phase.{Phase}
use Rattle.flow_core_rules.specs.declared.phases.Phase.TheVariants as phase
use Rattle.flow_core_rules.specs.Givens.{book_with}
use Rattle.flow_core_rules.specs.State.{State, Lists, Shown}
use Rattle.flow_core_rules.specs.Edits.{Edit, edited, all_edited}
use Rattle.flow_core_rules.specs.Edits.Edit.{opens, writes, makes, moves, issues, closes, upgrades}
use Rattle.flow_core_rules.specs.Conditions.{heads, is_true}
use Rattle.flow_core_rules.specs.Tasks.{Here, child}
use Rattle.flow_core_rules.specs.Changes as changes
use Rattle.flow_core_rules.proofs.PlacedLemmas.{some_then, some_if, some_map, some_here, two_ways}

-- scopes, writes and tasks, and no issue
abbrev pub is_quiet : Edit → Bool
is_quiet (opens parent vars) = true
is_quiet (writes scope name text) = true
is_quiet (makes task) = true
is_quiet (moves t task) = true
is_quiet (issues issue) = false
is_quiet (closes i phase) = false
is_quiet upgrades = false

abbrev pub IsQuiet : List Edit → Type 0
IsQuiet es = list_all is_quiet es ≡ true

pub quiet_written : (s : Lists) (scope : ℕ) (ps : List (List ℕ × Option (List ℕ))) (es : List Edit) → IsQuiet es → IsQuiet (flat_map (changes.written s scope) ps ++ es)
quiet_written s scope [] es h = h
quiet_written s scope (p ∷ ps) es h =
    subst IsQuiet (sym (append_assoc (changes.written s scope p) (flat_map (changes.written s scope) ps) es))
    (one p (flat_map (changes.written s scope) ps ++ es) (quiet_written s scope ps es h))
  where
    one : (p : List ℕ × Option (List ℕ)) (es : List Edit) → IsQuiet es → IsQuiet (changes.written s scope p ++ es)
    one (name, None) es h = h
    one (name, Some text) es h = by (home s.scopes scope name)
      where
        by : (o : Option ℕ) → IsQuiet (option_map_or (λ at. writes at name text ∷ []) o [] ++ es)
        by None = h
        by (Some at) = h

quiet_bound : (scope : ℕ) (ps : List (List ℕ × Option (List ℕ))) (es : List Edit) → IsQuiet es → IsQuiet (flat_map (changes.binding scope) ps ++ es)
quiet_bound scope [] es h = h
quiet_bound scope (p ∷ ps) es h =
    subst IsQuiet (sym (append_assoc (changes.binding scope p) (flat_map (changes.binding scope) ps) es))
    (one p (flat_map (changes.binding scope) ps ++ es) (quiet_bound scope ps es h))
  where
    one : (p : List ℕ × Option (List ℕ)) (es : List Edit) → IsQuiet es → IsQuiet (changes.binding scope p ++ es)
    one (name, None) es h = h
    one (name, Some text) es h = h

quiet_made : (f : List ℕ → Task) (keys : List (List ℕ)) → IsQuiet (map (λ key. makes (f key)) keys)
quiet_made f [] = refl
quiet_made f (key ∷ keys) = quiet_made f keys

quiet_branched : (h : Here) (scope : ℕ) (keys : List (List ℕ)) → IsQuiet (changes.branched h scope keys)
quiet_branched h scope [] = refl
quiet_branched h scope (key ∷ keys) = quiet_made (child h h.task.book scope) (key ∷ keys)

quiet_entered : (h : Here) (kind : StepKind) → IfSome (changes.entered h kind) IsQuiet
quiet_entered h does.Start = refl
quiet_entered h does.End = refl
quiet_entered h (does.Action a b c d e) = refl
quiet_entered h (does.PlaybookAction playbook version in_args out_args) =
    let n : ℕ = length h.seen.lists.scopes in
    some_map (book_with h.seen.given playbook) (λ theirs. changes.opening h ∷ changes.called (changes.inside h) n in_args theirs) IsQuiet (λ theirs.
    quiet_bound (suc n) (changes.valued (changes.inside h).seen.lists n in_args)
    (moves h.number (changes.joining (changes.inside h)) ∷ makes (child (changes.inside h) theirs.0 (suc n) (theirs.1).start) ∷ []) refl)
quiet_entered h (does.Parallel a) = quiet_branched (changes.inside h) (length h.seen.lists.scopes) (heads (changes.inside h).seen.lists (length h.seen.lists.scopes) (does.Parallel a))
quiet_entered h (does.If a b c) = quiet_branched (changes.inside h) (length h.seen.lists.scopes) (heads (changes.inside h).seen.lists (length h.seen.lists.scopes) (does.If a b c))
quiet_entered h (does.While a b) = quiet_branched (changes.inside h) (length h.seen.lists.scopes) (heads (changes.inside h).seen.lists (length h.seen.lists.scopes) (does.While a b))
quiet_entered h (does.Switch a b) = quiet_branched (changes.inside h) (length h.seen.lists.scopes) (heads (changes.inside h).seen.lists (length h.seen.lists.scopes) (does.Switch a b))

quiet_choice : (b : Bool) (xs ys : List Edit) → IsQuiet xs → IsQuiet ys → IsQuiet (cond b xs ys)
quiet_choice true xs ys a b = a
quiet_choice false xs ys a b = b

quiet_rejoined : (h : Here) (from scope : ℕ) (kind : StepKind) → IsQuiet (changes.rejoined h from scope kind)
quiet_rejoined h from scope (does.While condition on_true) =
    quiet_choice (is_true h.seen.lists scope condition) (makes (child h h.task.book scope on_true) ∷ []) (changes.done h true) refl refl
quiet_rejoined h from scope (does.PlaybookAction a b c d) =
    quiet_written h.seen.lists scope (option_map_or (λ (root : Task). changes.valued h.seen.lists root.scope d) (slice_get h.seen.lists.tasks from) []) (changes.done h true) refl
quiet_rejoined h from scope does.Start = refl
quiet_rejoined h from scope does.End = refl
quiet_rejoined h from scope (does.Action a b c d e) = refl
quiet_rejoined h from scope (does.Parallel a) = refl
quiet_rejoined h from scope (does.If a b c) = refl
quiet_rejoined h from scope (does.Switch a b) = refl

pub quiet_walked : (h : Here) (at : Phase) → IfSome (changes.walked h at) IsQuiet
quiet_walked h (phase.At since) = some_if (nat_le (since + h.step.delay) h.now) (changes.entered h h.step.kind) IsQuiet (quiet_entered h h.step.kind)
quiet_walked h (phase.Joining from) =
    some_then h.task.step_scope (λ (scope : ℕ). changes.joined h from scope (changes.children h.seen.lists h.number from)) IsQuiet (λ scope. joined scope (changes.children h.seen.lists h.number from))
  where
    joined : (scope : ℕ) (branches : List Task) → IfSome (changes.joined h from scope branches) IsQuiet
    joined scope branches =
        let stops : Option (List Edit) = Some (changes.done h false) in
        let goes : Option (List Edit) = Some (changes.rejoined h from scope h.step.kind) in
        let failed : Bool = list_any (λ task. changes.has_failed task.phase) branches in
        two_ways (not (list_all (λ task. changes.has_ended task.phase) branches)) None (cond failed stops goes) IsQuiet (tt {0})
        (two_ways failed stops goes IsQuiet refl (quiet_rejoined h from scope h.step.kind))
quiet_walked h (phase.Sending place) = tt
quiet_walked h (phase.Awaiting place issue) = tt
quiet_walked h (phase.Ended well) = tt

-- a Walk leaves the issues as they are
pub quiet_walk : (s : Shown) (now t : ℕ) → IfSome (changes.walk s now t) IsQuiet
quiet_walk s now t = some_here s now t (λ (h : Here). changes.walked h h.task.phase) IsQuiet (λ h e. quiet_walked h h.task.phase)

-- ---- what edits keep

no_truth : false ≡ true → ⊥
no_truth h = cc

pub keeps_issues : (es : List Edit) (s : State) → IsQuiet es → (all_edited es s).issues ≡ s.issues
keeps_issues [] s q = refl
keeps_issues (opens parent vars ∷ es) s q = keeps_issues es (edited (opens parent vars) s) q
keeps_issues (writes scope name text ∷ es) s q = keeps_issues es (edited (writes scope name text) s) q
keeps_issues (makes task ∷ es) s q = keeps_issues es (edited (makes task) s) q
keeps_issues (moves t task ∷ es) s q = keeps_issues es (edited (moves t task) s) q
keeps_issues (issues issue ∷ es) s q = absurd (no_truth q)
keeps_issues (closes i phase ∷ es) s q = absurd (no_truth q)
keeps_issues (upgrades ∷ es) s q = absurd (no_truth q)

pub keeps_given : (es : List Edit) (s : State) → (all_edited es s).given ≡ s.given
keeps_given [] s = refl
keeps_given (opens parent vars ∷ es) s = keeps_given es (edited (opens parent vars) s)
keeps_given (writes scope name text ∷ es) s = keeps_given es (edited (writes scope name text) s)
keeps_given (makes task ∷ es) s = keeps_given es (edited (makes task) s)
keeps_given (moves t task ∷ es) s = keeps_given es (edited (moves t task) s)
keeps_given (issues issue ∷ es) s = keeps_given es (edited (issues issue) s)
keeps_given (closes i phase ∷ es) s = keeps_given es (edited (closes i phase) s)
keeps_given (upgrades ∷ es) s = keeps_given es (edited upgrades s)
