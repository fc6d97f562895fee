-- A task that goes on is a root after a record of another task where it was one before: its parent waits for it.
use Rattle.std.proofs.Common.{◌≡◌, ◌⊎◌, ℕ, ◌==◌, ◌&&◌, Bool, true, false, cond, List, [], ◌∷◌, length, Option, Some, None, arith, refl, ap, sym, subst, ◌∙◌, inl, inr}
use Rattle.std.specs.Bool.{⊤}
use Rattle.std.specs.Prelude.{IfSome, is_none, nat_eq, not, option_and_then, option_map, slice_get}
use Rattle.std.specs.List.{list_all, list_any}
use Rattle.std.specs.Option.{option_map_or}
use Rattle.std.specs.Str.{bytes_eq}
use Rattle.run_records.specs.declared.record.Record.{Record}
use Rattle.run_records.specs.declared.record.Record.TheVariants as entry
use Rattle.cacao_book.specs.declared.steps.Step.{Step}
use Rattle.flow_core_rules.specs.declared.tasks.Task.{Task}
use Rattle.flow_core_rules.specs.declared.issues.Issue.{Issue}
use Rattle.flow_core_rules.specs.declared.issues.IssuePhase.TheVariants as issue_phase
use Rattle.flow_core_rules.specs.declared.phases.Phase.{Phase}
use Rattle.flow_core_rules.specs.declared.phases.Phase.TheVariants as phase
use Rattle.flow_core_rules.specs.Givens.{Given, step_at}
use Rattle.flow_core_rules.specs.State.{State, Shown, shown}
use Rattle.flow_core_rules.specs.Edits.{Edit}
use Rattle.flow_core_rules.specs.Edits.Edit.{upgrades}
use Rattle.flow_core_rules.specs.Places.{Place}
use Rattle.flow_core_rules.specs.Tasks.{Here, here_at, is_call, is_root, stands_at_call}
use Rattle.flow_core_rules.specs.Changes as changes
use Rattle.flow_core_rules.specs.Changes.{Waiting, Issuing, has_ended, is_child_of, awaited_place, moment_of}
use Rattle.flow_core_rules.specs.Runs.{Next}
use Rattle.flow_core_rules.specs.Sane.{JoinsFrom}
use Rattle.flow_core_rules.proofs.RunLemmas.{some_inner}
use Rattle.flow_core_rules.proofs.PlacedLemmas.{some_if, some_from, map_from, some_then}
use Rattle.flow_core_rules.proofs.HereLemmas.{here_of, some_at, some_option, IsWaitingAt, waiting_known}
use Rattle.flow_core_rules.proofs.ShapeLemmas.{filter_known}
use Rattle.flow_core_rules.proofs.TaskLemmas.{HasParent}
use Rattle.flow_core_laws.specs.OwnTask.{owner_of, task_of, ChangesOwnTask}
use Rattle.flow_core_laws.proofs.Somes.{none_some, clash}
use Rattle.flow_core_laws.proofs.StaysEnabled.{made_from}
use Rattle.flow_core_laws.proofs.Tasks.{all_filtered}
use Rattle.flow_core_laws.proofs.RunStates.{IsOfRun}

-- where a task joins, each child that it waits for has ended
abbrev pub FreeAt : Shown → ℕ → Phase → Type 0
FreeAt s t (phase.Joining from) = list_all (λ one. has_ended one.phase) (changes.children s.lists t from) ≡ true
FreeAt s t other = ⊤

abbrev IsFreeTask : Shown → Option ℕ → Type 0
IsFreeTask s own = (t : ℕ) (task : Task) → own ≡ Some t → slice_get s.lists.tasks t ≡ Some task → FreeAt s t task.phase

free_of : (s : Shown) (own : Option ℕ) (t : ℕ) (task : Task) → own ≡ Some t → slice_get s.lists.tasks t ≡ Some task → FreeAt s t task.phase → IsFreeTask s own
free_of s own t task own_is is free k other same there =
    let number : t ≡ k = some_inner t k (sym own_is ∙ same) in
    let task_is : task ≡ other = some_inner task other (sym is ∙ ap (slice_get s.lists.tasks) number ∙ there) in
    subst (λ (x : Task). FreeAt s k x.phase) task_is (subst (λ n. FreeAt s n task.phase) number free)

free_walked : (s : Shown) (now t : ℕ) (task : Task) (step : Step) (at : Phase) → IfSome (changes.walked (here_of s now t task step) at) (λ es. FreeAt s t at)
free_walked s now t task step (phase.At since) = always (changes.walked (here_of s now t task step) (phase.At since))
  where
    always : (o : Option (List Edit)) → IfSome o (λ es. ⊤)
    always None = tt
    always (Some es) = tt
free_walked s now t task step (phase.Sending place) = tt
free_walked s now t task step (phase.Awaiting place issue) = tt
free_walked s now t task step (phase.Ended well) = tt
free_walked s now t task step (phase.Joining from) = by task.step_scope
  where
    h : Here
    h = here_of s now t task step

    all : Bool
    all = list_all (λ one. has_ended one.phase) (changes.children s.lists t from)

    joined : (b : Bool) → all ≡ b → (o : Option (List Edit)) → IfSome (cond (not b) None o) (λ es. all ≡ true)
    joined true e None = tt
    joined true e (Some es) = e
    joined false e o = tt

    by : (o : Option ℕ) → IfSome (option_and_then (λ scope. changes.joined h from scope (changes.children s.lists t from)) o) (λ es. all ≡ true)
    by None = tt
    by (Some scope) = joined all refl (cond (list_any (λ one. changes.has_failed one.phase) (changes.children s.lists t from)) (Some (changes.done h false)) (Some (changes.rejoined h from scope step.kind)))

free_place : (s : Shown) (h : Here) (t : ℕ) (at : Phase) (place : Place) → changes.place_at h at ≡ Some place → FreeAt s t at
free_place s h t (phase.Joining from) place e = absurd (none_some place e)
free_place s h t (phase.At since) place e = tt
free_place s h t (phase.Sending n) place e = tt
free_place s h t (phase.Awaiting p issue) place e = tt
free_place s h t (phase.Ended well) place e = tt

free_awaits : (s : Shown) (t n : ℕ) (at : Phase) (place : ℕ) → awaited_place n at ≡ Some place → FreeAt s t at
free_awaits s t n (phase.Joining from) place e = absurd (none_some place e)
free_awaits s t n (phase.At since) place e = tt
free_awaits s t n (phase.Sending p) place e = tt
free_awaits s t n (phase.Awaiting p issue) place e = tt
free_awaits s t n (phase.Ended well) place e = tt

free_walk : (s : Shown) (now t : ℕ) → IfSome (changes.walk s now t) (λ es. IsFreeTask s (Some t))
free_walk s now t =
    some_at s now t (λ (h : Here). changes.walked h h.task.phase) (λ es. IsFreeTask s (Some t)) (λ task step is step_is.
    weaken (changes.walked (here_of s now t task step) task.phase) (λ f. free_of s (Some t) t task refl is f) (free_walked s now t task step task.phase))
  where
    weaken : {P Q : Type 0} (o : Option (List Edit)) → (P → Q) → IfSome o (λ es. P) → IfSome o (λ es. Q)
    weaken None f h = tt
    weaken (Some es) f h = f h

free_next : (s : Shown) (now t : ℕ) (issue_at : Here → Place → Option Issue)
    → IfSome (option_and_then (λ (h : Here). made_from issue_at h (changes.place_at h h.task.phase)) (here_at s now t)) (λ made. IsFreeTask s (Some t))
free_next s now t issue_at =
    some_at s now t (λ (h : Here). made_from issue_at h (changes.place_at h h.task.phase)) (λ made. IsFreeTask s (Some t)) (λ task step is step_is.
    let h : Here = here_of s now t task step in
    some_option (changes.place_at h task.phase) (λ (place : Place). option_and_then (λ (issue : Issue). Some (changes.issuing h issue)) (issue_at h place)) (λ made. IsFreeTask s (Some t)) (λ place place_is.
    some_then (issue_at h place) (λ (issue : Issue). Some (changes.issuing h issue)) (λ made. IsFreeTask s (Some t)) (λ issue. free_of s (Some t) t task refl is (free_place s h t task.phase place place_is))))

free_waits : (s : Shown) (now n : ℕ) (w : Waiting) → IsWaitingAt s now n w → IsFreeTask s (owner_of s n)
free_waits s now n w known =
    free_of s (owner_of s n) (w.issue).task known.task (ap (option_map (λ (issue : Issue). issue.task)) known.issue_is) known.task_is (free_awaits s (w.issue).task n (known.task).phase w.place known.place_is)

free_edits : (s : Shown) (r : Record) → IfSome (changes.edits_of s r) (λ es. IsFreeTask s (task_of s r))
free_edits s (entry.Begin run moment books bind) = tt
free_edits s (entry.Walk task moment) = free_walk s moment task
free_edits s (entry.Send task n agent moment bytes) =
    some_from (changes.next_command s moment task) (λ (made : Issuing). cond ((n == length s.lists.issues) && (agent == (made.0).agent) && bytes_eq bytes (made.0).bytes) (Some made.1) None) (λ made. IsFreeTask s (Some task)) (λ es. IsFreeTask s (Some task)) (free_next s moment task changes.command_at)
    (λ made h. some_if ((n == length s.lists.issues) && (agent == (made.0).agent) && bytes_eq bytes (made.0).bytes) (Some made.1) (λ es. IsFreeTask s (Some task)) h)
free_edits s (entry.Ask task n moment bytes) =
    some_from (changes.next_question s moment task) (λ (made : Issuing). cond (s.lists.is_upgraded && (n == length s.lists.issues) && bytes_eq bytes (made.0).bytes) (Some made.1) None) (λ made. IsFreeTask s (Some task)) (λ es. IsFreeTask s (Some task)) (free_next s moment task changes.question_at)
    (λ made h. some_if (s.lists.is_upgraded && (n == length s.lists.issues) && bytes_eq bytes (made.0).bytes) (Some made.1) (λ es. IsFreeTask s (Some task)) h)
free_edits s (entry.Upgrade version moment) =
    some_if ((version == 2) && is_none (changes.outcome s.lists) && not s.lists.is_upgraded) (Some (upgrades ∷ [])) (λ es. IsFreeTask s None) (λ t task e. absurd (none_some t e))
free_edits s (entry.Reply n moment status rule text) =
    let f : Waiting → List Edit = changes.answered n (issue_phase.Answered status) status rule text in
    some_if (changes.is_answer status text) (option_map f (changes.waiting_filter_at s moment n)) (λ es. IsFreeTask s (owner_of s n))
    (map_from (changes.waiting_filter_at s moment n) f (IsWaitingAt s moment n) (λ es. IsFreeTask s (owner_of s n)) (filter_known s moment n) (λ w known. free_waits s moment n w known))
free_edits s (entry.Told n moment status text) =
    let f : Waiting → List Edit = changes.answered n (issue_phase.Told status) status 0 text in
    some_if (s.lists.is_upgraded && changes.is_answer status text) (option_map f (changes.waiting_at s moment n)) (λ es. IsFreeTask s (owner_of s n))
    (map_from (changes.waiting_at s moment n) f (IsWaitingAt s moment n) (λ es. IsFreeTask s (owner_of s n)) (waiting_known s moment n) (λ w known. free_waits s moment n w known))
free_edits s (entry.Expire n moment) =
    some_from (changes.waiting_filter_at s moment n) (changes.expired n) (IsWaitingAt s moment n) (λ es. IsFreeTask s (owner_of s n)) (filter_known s moment n) (λ w known. always (changes.expired n w) (free_waits s moment n w known))
  where
    always : {P : Type 0} (o : Option (List Edit)) → P → IfSome o (λ es. P)
    always None h = tt
    always (Some es) h = h

pub change_free : (s : Shown) (r : Record) (edits : List Edit) → changes.change s r ≡ Some edits → IsFreeTask s (task_of s r)
change_free s r edits e =
    subst (λ o. IfSome o (λ es. IsFreeTask s (task_of s r))) e (some_if (changes.is_in_time s (moment_of r)) (changes.edits_of s r) (λ es. IsFreeTask s (task_of s r)) (free_edits s r))

-- a child that a task waits for has ended where the task goes on
waits_no_more : (s : Shown) (u t : ℕ) (at : Phase) (task : Task) → FreeAt s u at → JoinsFrom t at → slice_get s.lists.tasks t ≡ Some task → task.parent ≡ Some u → has_ended task.phase ≡ true
waits_no_more s u t (phase.Joining from) task free joins is parent =
    all_filtered (λ one. has_ended one.phase) (is_child_of u) s.lists.tasks from free t task joins is (subst (λ o. option_map_or (nat_eq u) o false ≡ true) (sym parent) (same u))
  where
    same : (n : ℕ) → nat_eq n n ≡ true
    same n = grind arith
waits_no_more s u t (phase.At since) task free joins is parent = absurd joins
waits_no_more s u t (phase.Sending n) task free joins is parent = absurd joins
waits_no_more s u t (phase.Awaiting p n) task free joins is parent = absurd joins
waits_no_more s u t (phase.Ended well) task free joins is parent = absurd joins

module _ (s new : State) (r : Record) (k : IsOfRun s) (x : Next s r new) (c : ChangesOwnTask s new r (task_of (shown s) r)) where
  -- a record's task is no parent of one that goes on
  not_parent : (t : ℕ) (task : Task) → slice_get s.tasks t ≡ Some task → has_ended task.phase ≡ false → (h : HasParent s.tasks t task) → task_of (shown s) r ≡ Some h.parent → ⊥
  not_parent t task is goes h own =
      clash (has_ended task.phase) (waits_no_more (shown s) h.parent t (h.by).phase task (change_free (shown s) r x.edits x.change_is h.parent h.by own h.by_is) (h.waits goes) is h.parent_is) goes

  abbrev called : Given → Task → Bool
  called given task = option_map_or (λ (step : Step). is_call step.kind) (step_at given task.book task.step) false

  pub root_same : (t : ℕ) (task : Task) (m : ℕ) → slice_get s.tasks t ≡ Some task → has_ended task.phase ≡ false → is_root (record (shown s) { moment = m; lists = (shown new).lists }) task ≡ is_root (shown s) task
  root_same t task m is goes = by (k.ordered.order.parents t task is)
    where
      q : Shown
      q = record (shown s) { moment = m; lists = (shown new).lists }

      by : (t ≡ 0) ⊎ HasParent s.tasks t task → is_root q task ≡ is_root (shown s) task
      by (inl zero_is) =
          let alone : task.parent ≡ None = k.ordered.order.root task (subst (λ n. slice_get s.tasks n ≡ Some task) zero_is is) in
          ap (λ o. option_map_or (stands_at_call q) o true) alone ∙ sym (ap (λ o. option_map_or (stands_at_call (shown s)) o true) alone)
      by (inr h) =
          let stays : slice_get new.tasks h.parent ≡ Some h.by = c.tasks.others h.parent h.by h.by_is (not_parent t task is goes h) in
          ap (λ o. option_map_or (stands_at_call q) o true) h.parent_is
          ∙ ap (λ (o : Option Task). option_map_or (called s.given) o false) (stays ∙ sym h.by_is)
          ∙ sym (ap (λ o. option_map_or (stands_at_call (shown s)) o true) h.parent_is)
