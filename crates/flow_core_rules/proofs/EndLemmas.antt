-- A run that is ended has no enabled record.
use Rattle.std.proofs.Common.{◌≡◌, ◌⊎◌, ℕ, zero, suc, ◌<◌, ◌==◌, ◌&&◌, Bool, true, false, cond, List, [], ◌∷◌, ◌++◌, length, Option, Some, None, is_some, arith, refl, ap, sym, subst, ◌∙◌, length-append, inl, inr}
use Rattle.std.specs.Prelude.{IfSome, option_and_then, option_map, map, slice_get, not, is_none}
use Rattle.std.specs.List.{slice_set}
use Rattle.std.specs.Str.{bytes_eq}
use Rattle.run_records.specs.declared.record.Record.{Record}
use Rattle.run_records.specs.declared.record.Record.TheVariants as entry
use Rattle.cacao_book.specs.declared.books.Book.{Book}
use Rattle.flow_core_rules.specs.declared.tasks.Task.{Task}
use Rattle.flow_core_rules.specs.declared.issues.Issue.{Issue}
use Rattle.flow_core_rules.specs.declared.issues.IssuePhase.TheVariants as issue_phase
use Rattle.flow_core_rules.specs.declared.phases.Phase.{Phase}
use Rattle.flow_core_rules.specs.declared.phases.Phase.TheVariants as phase
use Rattle.flow_core_rules.specs.Givens.{Given}
use Rattle.flow_core_rules.specs.State.{State, Shown, shown}
use Rattle.flow_core_rules.specs.Edits.{Edit}
use Rattle.flow_core_rules.specs.Edits.Edit.{opens, writes, makes, moves, issues, closes, upgrades}
use Rattle.flow_core_rules.specs.Places.{Place}
use Rattle.flow_core_rules.specs.Tasks.{Here, here_at}
use Rattle.flow_core_rules.specs.Sane.{JoinsFrom}
use Rattle.flow_core_rules.specs.Changes as changes
use Rattle.flow_core_rules.specs.Changes.{has_ended, outcome, ended_how, Waiting, Issuing}
use Rattle.flow_core_rules.specs.Runs.{Next, GoesOn, after, begun, blank, first_task}
use Rattle.flow_core_rules.specs.Laws.{EndedIsOver}
use Rattle.flow_core_rules.proofs.PlacedLemmas.{some_if, some_from, map_from}
use Rattle.flow_core_rules.proofs.HereLemmas.{here_of, some_at, IsWaitingAt, waiting_known}
use Rattle.flow_core_rules.proofs.ShapeLemmas.{filter_known}
use Rattle.flow_core_rules.proofs.TaskLemmas.{JoinsWithin, HasParent, IsOrderly, tasks_after, tasks_are, fine-orderly, set_length}
use Rattle.flow_core_rules.proofs.OrderLemmas.{change_fine}

clash : (b : Bool) → b ≡ true → b ≡ false → ⊥
clash true x y = cc
clash false x y = cc

inner : {A : Type 0} (a b : A) → Some a ≡ Some b → a ≡ b
inner a b h = cc

none_some : {A : Type 0} (x : A) → None ≡ Some x → ⊥
none_some x h = cc

-- ---- the tasks of each state are in order

pub record Ordered (s : State) : Type 0 where
  pub some : 0 < length s.tasks
  pub order : IsOrderly s.tasks

more_tasks : (es : List Edit) (ts : List Task) → 0 < length ts → 0 < length (tasks_after es ts)
more_tasks [] ts h = h
more_tasks (opens parent vars ∷ es) ts h = more_tasks es ts h
more_tasks (writes scope name text ∷ es) ts h = more_tasks es ts h
more_tasks (makes task ∷ es) ts h = let grown : length (ts ++ task ∷ []) ≡ suc (length ts) = omega (arith, length-append ts (task ∷ [])) in more_tasks es (ts ++ task ∷ []) (omega arith)
more_tasks (moves t task ∷ es) ts h = more_tasks es (slice_set ts t task) (subst (λ n. 0 < n) (sym (set_length ts t task)) h)
more_tasks (issues issue ∷ es) ts h = more_tasks es ts h
more_tasks (closes i end ∷ es) ts h = more_tasks es ts h
more_tasks (upgrades ∷ es) ts h = more_tasks es ts h

pub ordered_next : (s new : State) (r : Record) → Ordered s → Next s r new → Ordered new
ordered_next s new r o next =
    let same : new.tasks ≡ tasks_after next.edits s.tasks = ap (λ (x : State). x.tasks) next.new_is ∙ tasks_are next.edits s in
    let order : IsOrderly (tasks_after next.edits s.tasks) = fine-orderly next.edits s.tasks o.some o.order (change_fine (shown s) r next.edits o.order next.change_is) in
    record {
      some = subst (λ (ts : List Task). 0 < length ts) (sym same) (more_tasks next.edits s.tasks o.some);
      order = subst IsOrderly (sym same) order;
    }

ordered_along : (records : List Record) (s new : State) → Ordered s → GoesOn s records new → Ordered new
ordered_along [] s new o g = subst Ordered g o
ordered_along (r ∷ records) s new o g = ordered_along records g.0 new (ordered_next s g.0 r o g.1) g.2

-- the first task alone
one_task : (task : Task) → task.parent ≡ None → ((n : ℕ) → JoinsWithin n task.phase) → IsOrderly (task ∷ [])
one_task task alone within = record { parents = parents; joins = joins; root = λ x e. ap (λ (y : Task). y.parent) (sym (inner task x e)) ∙ alone }
  where
    parents : (t : ℕ) (x : Task) → slice_get (task ∷ []) t ≡ Some x → (t ≡ 0) ⊎ HasParent (task ∷ []) t x
    parents zero x e = inl refl
    parents (suc t) x e = absurd (none_some x e)

    joins : (t : ℕ) (x : Task) → slice_get (task ∷ []) t ≡ Some x → JoinsWithin (length (task ∷ [])) x.phase
    joins zero x e = subst (λ (y : Task). JoinsWithin (length (task ∷ [])) y.phase) (inner task x e) (within (length (task ∷ [])))
    joins (suc t) x e = absurd (none_some x e)

pub bound_tasks : (given : Given) (now : ℕ) (book : Book) (bound : List (List ℕ × List ℕ)) (ts : List Task)
    → tasks_after (map (λ b. writes 0 b.0 b.1) bound ++ makes (first_task given now book) ∷ []) ts ≡ ts ++ first_task given now book ∷ []
bound_tasks given now book [] ts = refl
bound_tasks given now book (b ∷ bound) ts = bound_tasks given now book bound ts

pub first_ordered : (given : Given) (run now : ℕ) (first : State) → begun given run now ≡ Some first → Ordered first
first_ordered given run now first e = by (slice_get given.books 0) e
  where
    by : (o : Option Book) → option_map (λ (es : List Edit). after now es (blank given run)) (option_map (λ (book : Book). opens None book.variables ∷ (map (λ b. writes 0 b.0 b.1) given.variables ++ makes (first_task given now book) ∷ [])) o) ≡ Some first
        → Ordered first
    by None h = absurd (none_some first h)
    by (Some book) h =
        let es : List Edit = opens None book.variables ∷ (map (λ b. writes 0 b.0 b.1) given.variables ++ makes (first_task given now book) ∷ []) in
        let is : after now es (blank given run) ≡ first = inner (after now es (blank given run)) first h in
        let same : first.tasks ≡ first_task given now book ∷ [] = ap (λ (x : State). x.tasks) (sym is) ∙ tasks_are es (blank given run) ∙ bound_tasks given now book given.variables [] in
        record {
          some = subst (λ (ts : List Task). 0 < length ts) (sym same) (omega arith);
          order = subst IsOrderly (sym same) (one_task (first_task given now book) refl (λ n. tt));
        }

-- ---- once the first task has ended, all have

all_ended : (ts : List Task) → IsOrderly ts → ((x : Task) → slice_get ts 0 ≡ Some x → has_ended x.phase ≡ true)
    → (n t : ℕ) (task : Task) → t < n → slice_get ts t ≡ Some task → has_ended task.phase ≡ true
all_ended ts o first zero t task less is = absurd (omega arith)
all_ended ts o first (suc n) t task less is = by (has_ended task.phase) refl (o.parents t task is) (λ p x lt e. all_ended ts o first n p x lt e)
  where
    not_joining : (k : ℕ) (at : Phase) → has_ended at ≡ true → JoinsFrom k at → ⊥
    not_joining k (phase.Ended well) e j = j
    not_joining k (phase.At since) e j = j
    not_joining k (phase.Sending place) e j = j
    not_joining k (phase.Awaiting place issue) e j = j
    not_joining k (phase.Joining from) e j = clash false e refl

    by : (b : Bool) → has_ended task.phase ≡ b → (t ≡ 0) ⊎ HasParent ts t task → ((p : ℕ) (x : Task) → p < n → slice_get ts p ≡ Some x → has_ended x.phase ≡ true) → has_ended task.phase ≡ true
    by true e p rest = e
    by false e (inl z) rest = first task (subst (λ k. slice_get ts k ≡ Some task) z is)
    by false e (inr p) rest =
        let earlier = p.earlier in
        absurd (not_joining t (p.by).phase (rest p.parent p.by (omega arith) p.by_is) (p.waits e))

pub known_ended : (at : Phase) → is_some (ended_how at) ≡ true → has_ended at ≡ true
known_ended (phase.Ended well) e = refl
known_ended (phase.At since) e = absurd (clash false e refl)
known_ended (phase.Sending place) e = absurd (clash false e refl)
known_ended (phase.Awaiting place issue) e = absurd (clash false e refl)
known_ended (phase.Joining from) e = absurd (clash false e refl)

-- ---- then no record may come next

module _ (s : Shown) (all : (t : ℕ) (task : Task) → slice_get s.lists.tasks t ≡ Some task → has_ended task.phase ≡ true) where
  no_walked : (h : Here) (at : Phase) → has_ended at ≡ true → IfSome (changes.walked h at) (λ es. ⊥)
  no_walked h (phase.Ended well) e = tt
  no_walked h (phase.At since) e = absurd (clash false e refl)
  no_walked h (phase.Sending place) e = absurd (clash false e refl)
  no_walked h (phase.Awaiting place issue) e = absurd (clash false e refl)
  no_walked h (phase.Joining from) e = absurd (clash false e refl)

  no_walk : (now t : ℕ) → IfSome (changes.walk s now t) (λ es. ⊥)
  no_walk now t = some_at s now t (λ (h : Here). changes.walked h h.task.phase) (λ es. ⊥) (λ task step task_is step_is. no_walked (here_of s now t task step) task.phase (all t task task_is))

  no_place : (h : Here) (at : Phase) → has_ended at ≡ true → IfSome (changes.place_at h at) (λ p. ⊥)
  no_place h (phase.Ended well) e = tt
  no_place h (phase.At since) e = tt
  no_place h (phase.Awaiting place issue) e = tt
  no_place h (phase.Joining from) e = tt
  no_place h (phase.Sending place) e = absurd (clash false e refl)

  no_next : (now t : ℕ) (issue_at : Here → Place → Option Issue)
      → IfSome (option_and_then (λ (h : Here). option_and_then (λ (place : Place). option_and_then (λ (issue : Issue). Some (changes.issuing h issue)) (issue_at h place)) (changes.place_at h h.task.phase)) (here_at s now t)) (λ made. ⊥)
  no_next now t issue_at =
      some_at s now t (λ (h : Here). option_and_then (λ (place : Place). option_and_then (λ (issue : Issue). Some (changes.issuing h issue)) (issue_at h place)) (changes.place_at h h.task.phase)) (λ made. ⊥) (λ task step task_is step_is.
      let h : Here = here_of s now t task step in
      some_from (changes.place_at h task.phase) (λ (place : Place). option_and_then (λ (issue : Issue). Some (changes.issuing h issue)) (issue_at h place)) (λ p. ⊥) (λ made. ⊥) (no_place h task.phase (all t task task_is)) (λ p none. absurd none))

  no_awaited : (n : ℕ) (at : Phase) (place : ℕ) → has_ended at ≡ true → changes.awaited_place n at ≡ Some place → ⊥
  no_awaited n (phase.Ended well) place e h = none_some place h
  no_awaited n (phase.At since) place e h = none_some place h
  no_awaited n (phase.Sending m) place e h = none_some place h
  no_awaited n (phase.Joining from) place e h = none_some place h
  no_awaited n (phase.Awaiting p i) place e h = clash false e refl

  no_waiting : (now n : ℕ) (w : Waiting) → IsWaitingAt s now n w → ⊥
  no_waiting now n w k = no_awaited n (k.task).phase w.place (all (w.issue).task k.task k.task_is) k.place_is

  no_edits : (r : Record) → is_some (outcome s.lists) ≡ true → IfSome (changes.edits_of s r) (λ es. ⊥)
  no_edits (entry.Begin run moment books bind) over = tt
  no_edits (entry.Walk task moment) over = no_walk moment task
  no_edits (entry.Send task n agent moment bytes) over =
      some_from (changes.next_command s moment task) (λ (made : Issuing). cond ((n == length s.lists.issues) && (agent == (made.0).agent) && bytes_eq bytes (made.0).bytes) (Some made.1) None) (λ made. ⊥) (λ es. ⊥) (no_next moment task changes.command_at) (λ made none. absurd none)
  no_edits (entry.Ask task n moment bytes) over =
      some_from (changes.next_question s moment task) (λ (made : Issuing). cond (s.lists.is_upgraded && (n == length s.lists.issues) && bytes_eq bytes (made.0).bytes) (Some made.1) None) (λ made. ⊥) (λ es. ⊥) (no_next moment task changes.question_at) (λ made none. absurd none)
  no_edits (entry.Reply n moment status rule text) over =
      let f : Waiting → List Edit = changes.answered n (issue_phase.Answered status) status rule text in
      some_if (changes.is_answer status text) (option_map f (changes.waiting_filter_at s moment n)) (λ es. ⊥)
      (map_from (changes.waiting_filter_at s moment n) f (IsWaitingAt s moment n) (λ es. ⊥) (filter_known s moment n) (λ w k. no_waiting moment n w k))
  no_edits (entry.Told n moment status text) over =
      let f : Waiting → List Edit = changes.answered n (issue_phase.Told status) status 0 text in
      some_if (s.lists.is_upgraded && changes.is_answer status text) (option_map f (changes.waiting_at s moment n)) (λ es. ⊥)
      (map_from (changes.waiting_at s moment n) f (IsWaitingAt s moment n) (λ es. ⊥) (waiting_known s moment n) (λ w k. no_waiting moment n w k))
  no_edits (entry.Expire n moment) over =
      some_from (changes.waiting_filter_at s moment n) (changes.expired n) (IsWaitingAt s moment n) (λ es. ⊥) (filter_known s moment n) (λ w k. absurd (no_waiting moment n w k))
  no_edits (entry.Upgrade version moment) over = by (version == 2) s.lists.is_upgraded (outcome s.lists) over
    where
      by : (a b : Bool) (o : Option Bool) → is_some o ≡ true → IfSome (cond (a && is_none o && not b) (Some (upgrades ∷ [])) None) (λ es. ⊥)
      by true b (Some x) h = tt
      by false b (Some x) h = tt
      by a b None h = absurd (clash false h refl)

  no_change : (r : Record) → is_some (outcome s.lists) ≡ true → IfSome (changes.change s r) (λ es. ⊥)
  no_change r over = some_if (changes.is_in_time s (changes.moment_of r)) (changes.edits_of s r) (λ es. ⊥) (no_edits r over)

pub ended_is_over : EndedIsOver
ended_is_over given run records s r l over enabled =
    let o : Ordered s = ordered_along l.others l.first s (first_ordered given run l.now l.first l.begins) l.goes_on in
    let first : (x : Task) → slice_get s.tasks 0 ≡ Some x → has_ended x.phase ≡ true = λ x e.
    known_ended x.phase (subst (λ p. is_some (option_and_then (λ (task : Task). ended_how task.phase) p) ≡ true) e over) in
    let all : (t : ℕ) (task : Task) → slice_get s.tasks t ≡ Some task → has_ended task.phase ≡ true = λ t task e. all_ended s.tasks o.order first (suc t) t task (omega arith) e in
    by (changes.change (shown s) r) (no_change (shown s) all r over) enabled
  where
    by : (x : Option (List Edit)) → IfSome x (λ es. ⊥) → is_some x ≡ true → ⊥
    by None h e = clash false e refl
    by (Some es) h e = h
