-- Edits that write texts which fit, and what they leave.
use Rattle.std.proofs.Common.{◌≡◌, ℕ, suc, ◌<◌, IsTrue, List, [], ◌∷◌, ◌++◌, length, Some, None, arith, refl, ap, sym, subst, ◌∙◌, length-append}
use Rattle.std.specs.Bool.{⊤}
use Rattle.std.specs.Prelude.{slice_get}
use Rattle.std.specs.List.{slice_set}
use Rattle.cacao_vars.specs.declared.declarations.Var.{Var}
use Rattle.cacao_vars.specs.declared.scoping.Scope.{Scope}
use Rattle.cacao_vars.specs.Scopes.{declaration, last_write}
use Rattle.cacao_book.specs.declared.books.Book.{Book}
use Rattle.cacao_check_steps.specs.Uses.{call_of}
use Rattle.flow_core_rules.specs.declared.tasks.Task.{Task}
use Rattle.flow_core_rules.specs.Givens.{Given, book_with}
use Rattle.flow_core_rules.specs.State.{State}
use Rattle.flow_core_rules.specs.Edits.{Edit, edited, all_edited}
use Rattle.flow_core_rules.specs.Edits.Edit.{opens, writes, makes, moves, issues, closes, upgrades}
use Rattle.flow_core_rules.specs.Tasks.{Here}
use Rattle.flow_core_rules.proofs.TaskLemmas.{get_within, set_here, set_length, push_front}
use Rattle.flow_core_rules.proofs.PlacedLemmas.{Placed}
use Rattle.flow_core_laws.proofs.AcceptedRules.{VarsFit}
use Rattle.flow_core_laws.proofs.HomeLemmas.{get_front}
use Rattle.flow_core_laws.proofs.ScopedEdits.{IsScopeOfBook}
use Rattle.flow_core_laws.proofs.ScopedRecords.{joins_at}
use Rattle.flow_core_laws.proofs.TextLemmas.{AreTextsFit, MayWrite, fit_written, fit_opened, constant_kept, declared_front}

-- the task with this number runs the called playbook, in that one's scope
pub record HasCalled (given : Given) (scopes : List Scope) (tasks : List Task) (id : List ℕ) (from : ℕ) : Type 0 where
  pub root : Task
  pub theirs : ℕ × Book
  pub root_is : slice_get tasks from ≡ Some root
  pub called_is : book_with given id ≡ Some theirs
  pub scope_is : IsScopeOfBook scopes theirs.1 root.scope

-- Where a task is moved: it does not join; or the step at which it stands calls nothing; or it joins the task that is made next, of
-- the called playbook.
pub data JoinsWell (h : Here) (scopes : List Scope) (n : ℕ) (task : Task) (rest : List Edit) : Type 0 where
  apart : joins_at task.phase ≡ None → JoinsWell h scopes n task rest
  no_call : task.book ≡ h.task.book → task.step ≡ h.task.step → call_of h.step.kind ≡ None → JoinsWell h scopes n task rest
  call : (id : List ℕ) (theirs : ℕ × Book) (root : Task) → task.book ≡ h.task.book → task.step ≡ h.task.step → call_of h.step.kind ≡ Some id
      → joins_at task.phase ≡ Some n → rest ≡ makes root ∷ [] → book_with h.seen.given id ≡ Some theirs → IsScopeOfBook scopes theirs.1 root.scope
      → JoinsWell h scopes n task rest

-- the edits of a rule, where so many scopes were there before it, with the scopes and the number of tasks so far
abbrev pub AreSound : Here → ℕ → List Scope → ℕ → List Edit → Type 0
AreSound h old scopes n [] = ⊤
AreSound h old scopes n (opens parent vars ∷ es) = VarsFit vars × AreSound h old (scopes ++ (record { parent = parent; vars = vars }) ∷ []) n es
AreSound h old scopes n (writes at name text ∷ es) = MayWrite old scopes at name text × AreSound h old scopes n es
AreSound h old scopes n (makes task ∷ es) = AreSound h old scopes (suc n) es
AreSound h old scopes n (moves t task ∷ es) = (t ≡ h.number) × JoinsWell h scopes n task es × AreSound h old scopes n es
AreSound h old scopes n (issues issue ∷ es) = AreSound h old scopes n es
AreSound h old scopes n (closes i end ∷ es) = AreSound h old scopes n es
AreSound h old scopes n (upgrades ∷ es) = AreSound h old scopes n es

-- ---- texts

pub texts_after : (h : Here) (old n : ℕ) (es : List Edit) (s : State) → Placed (length s.scopes) es → AreSound h old s.scopes n es → AreTextsFit s.scopes s.writes → AreTextsFit (all_edited es s).scopes (all_edited es s).writes
texts_after h old n [] s placed sound fit = fit
texts_after h old n (opens parent vars ∷ es) s placed sound fit =
    let grown : length (s.scopes ++ (record { parent = parent; vars = vars }) ∷ []) ≡ suc (length s.scopes) = omega (arith, length-append s.scopes ((record { parent = parent; vars = vars }) ∷ [])) in
    texts_after h old n es (edited (opens parent vars) s) (subst (λ k. Placed k es) (sym grown) placed) sound.1 (fit_opened s parent vars sound.0 fit)
texts_after h old n (writes at name text ∷ es) s placed sound fit =
    texts_after h old n es (edited (writes at name text) s) placed.1 sound.1 (fit_written s old at name text placed.0 sound.0 fit)
texts_after h old n (makes task ∷ es) s placed sound fit = texts_after h old (suc n) es (edited (makes task) s) placed sound fit
texts_after h old n (moves t task ∷ es) s placed sound fit = texts_after h old n es (edited (moves t task) s) placed sound.2 fit
texts_after h old n (issues issue ∷ es) s placed sound fit = texts_after h old n es (edited (issues issue) s) placed sound fit
texts_after h old n (closes i end ∷ es) s placed sound fit = texts_after h old n es (edited (closes i end) s) placed sound fit
texts_after h old n (upgrades ∷ es) s placed sound fit = texts_after h old n es (edited upgrades s) placed sound fit

pub constants_after : (h : Here) (old n : ℕ) (es : List Edit) (s : State) → AreSound h old s.scopes n es → (k : ℕ) (name : List ℕ) (var : Var) → k < old → declaration s.scopes k name ≡ Some var → IsTrue var.constant
    → last_write (all_edited es s).writes k name ≡ last_write s.writes k name
constants_after h old n [] s sound k name var less is constant = refl
constants_after h old n (opens parent vars ∷ es) s sound k name var less is constant =
    constants_after h old n es (edited (opens parent vars) s) sound.1 k name var less (declared_front s.scopes ((record { parent = parent; vars = vars }) ∷ []) k name var is) constant
constants_after h old n (writes at other text ∷ es) s sound k name var less is constant =
    constants_after h old n es (edited (writes at other text) s) sound.1 k name var less is constant ∙ constant_kept s old at other text sound.0 k name var less is constant
constants_after h old n (makes task ∷ es) s sound k name var less is constant = constants_after h old (suc n) es (edited (makes task) s) sound k name var less is constant
constants_after h old n (moves t task ∷ es) s sound k name var less is constant = constants_after h old n es (edited (moves t task) s) sound.2 k name var less is constant
constants_after h old n (issues issue ∷ es) s sound k name var less is constant = constants_after h old n es (edited (issues issue) s) sound k name var less is constant
constants_after h old n (closes i end ∷ es) s sound k name var less is constant = constants_after h old n es (edited (closes i end) s) sound k name var less is constant
constants_after h old n (upgrades ∷ es) s sound k name var less is constant = constants_after h old n es (edited upgrades s) sound k name var less is constant

-- ---- calls

-- what is there stays so
pub called_more : (given : Given) (scopes more : List Scope) (tasks later : List Task) (id : List ℕ) (from : ℕ) (c : HasCalled given scopes tasks id from)
    → (root : Task) → slice_get later from ≡ Some root → root.scope ≡ (c.root).scope → HasCalled given (scopes ++ more) later id from
called_more given scopes more tasks later id from c root there same = record {
  root = root;
  theirs = c.theirs;
  root_is = there;
  called_is = c.called_is;
  scope_is = subst (IsScopeOfBook (scopes ++ more) (c.theirs).1) (sym same)
      (get_front scopes more (c.root).scope (get_within scopes (c.root).scope _ c.scope_is) ∙ c.scope_is);
}

-- How the task stands in the end: as it stood; or moved, and so that it does not join, or calls nothing, or has called.
pub data Stands (h : Here) (was : Task) (x : State) (last : Task) : Type 0 where
  as_it_was : last ≡ was → Stands h was x last
  stands_apart : joins_at last.phase ≡ None → Stands h was x last
  calls_none : last.book ≡ h.task.book → last.step ≡ h.task.step → call_of h.step.kind ≡ None → Stands h was x last
  has_called : (id : List ℕ) (from : ℕ) → last.book ≡ h.task.book → last.step ≡ h.task.step → call_of h.step.kind ≡ Some id → joins_at last.phase ≡ Some from
      → HasCalled h.seen.given x.scopes x.tasks id from → Stands h was x last

pub record EndsSo (h : Here) (was : Task) (x : State) : Type 0 where
  pub last : Task
  pub last_is : slice_get x.tasks h.number ≡ Some last
  pub stands : Stands h was x last

pub get_end : {A : Type 0} (xs : List A) (x : A) → slice_get (xs ++ x ∷ []) (length xs) ≡ Some x
get_end [] x = refl
get_end (y ∷ xs) x = get_end xs x

-- the edits behind a move that joins a call make its one task
joined : (h : Here) (was : Task) (x : State) (task root : Task) (id : List ℕ) (theirs : ℕ × Book) (n : ℕ) → n ≡ length x.tasks → slice_get x.tasks h.number ≡ Some task
    → task.book ≡ h.task.book → task.step ≡ h.task.step → call_of h.step.kind ≡ Some id → joins_at task.phase ≡ Some n → book_with h.seen.given id ≡ Some theirs → IsScopeOfBook x.scopes theirs.1 root.scope
    → EndsSo h was (edited (makes root) x)
joined h was x task root id theirs n count here book step calls joins called scope = record {
  last = task;
  last_is = push_front x.tasks root h.number task here;
  stands = has_called id n book step calls joins (record {
    root = root;
    theirs = theirs;
    root_is = ap (slice_get (x.tasks ++ root ∷ [])) count ∙ get_end x.tasks root;
    called_is = called;
    scope_is = scope;
  });
}

-- how it stands so far, where it has not called
pub data SoFar (h : Here) (was task : Task) : Type 0 where
  unmoved : task ≡ was → SoFar h was task
  moved_apart : joins_at task.phase ≡ None → SoFar h was task
  moved_inside : task.book ≡ h.task.book → task.step ≡ h.task.step → call_of h.step.kind ≡ None → SoFar h was task

ends_so_far : (h : Here) (was task : Task) (x : State) → slice_get x.tasks h.number ≡ Some task → SoFar h was task → EndsSo h was x
ends_so_far h was task x here (unmoved e) = record { last = task; last_is = here; stands = as_it_was e }
ends_so_far h was task x here (moved_apart e) = record { last = task; last_is = here; stands = stands_apart e }
ends_so_far h was task x here (moved_inside b s c) = record { last = task; last_is = here; stands = calls_none b s c }

pub ends_after : (h : Here) (was : Task) (old n : ℕ) (es : List Edit) (x : State) (task : Task) → n ≡ length x.tasks → AreSound h old x.scopes n es → slice_get x.tasks h.number ≡ Some task → SoFar h was task
    → EndsSo h was (all_edited es x)
ends_after h was old n [] x task count sound here so = ends_so_far h was task x here so
ends_after h was old n (opens parent vars ∷ es) x task count sound here so = ends_after h was old n es (edited (opens parent vars) x) task count sound.1 here so
ends_after h was old n (writes at name text ∷ es) x task count sound here so = ends_after h was old n es (edited (writes at name text) x) task count sound.1 here so
ends_after h was old n (makes new ∷ es) x task count sound here so =
    ends_after h was old (suc n) es (edited (makes new) x) task (omega (arith, count, length-append x.tasks (new ∷ []))) sound (push_front x.tasks new h.number task here) so
ends_after h was old n (issues issue ∷ es) x task count sound here so = ends_after h was old n es (edited (issues issue) x) task count sound here so
ends_after h was old n (closes i end ∷ es) x task count sound here so = ends_after h was old n es (edited (closes i end) x) task count sound here so
ends_after h was old n (upgrades ∷ es) x task count sound here so = ends_after h was old n es (edited upgrades x) task count sound here so
ends_after h was old n (moves t new ∷ es) x task count sound here so =
    by sound.1 (λ s. ends_after h was old n es (edited (moves t new) x) new more sound.2 now s)
  where
    more : n ≡ length (slice_set x.tasks t new)
    more = count ∙ sym (set_length x.tasks t new)

    now : slice_get (slice_set x.tasks t new) h.number ≡ Some new
    now = subst (λ k. slice_get (slice_set x.tasks k new) h.number ≡ Some new) (sym sound.0) (set_here x.tasks h.number new task here)

    by : JoinsWell h x.scopes n new es → (SoFar h was new → EndsSo h was (all_edited es (edited (moves t new) x))) → EndsSo h was (all_edited es (edited (moves t new) x))
    by (apart e) rest = rest (moved_apart e)
    by (no_call b s c) rest = rest (moved_inside b s c)
    by (call id theirs root b s calls joins rest_is called scope) rest =
        subst (λ (es : List Edit). EndsSo h was (all_edited es (edited (moves t new) x))) (sym rest_is)
        (joined h was (edited (moves t new) x) new root id theirs n more now b s calls joins called scope)
