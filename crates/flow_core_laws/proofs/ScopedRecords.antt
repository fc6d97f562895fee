-- Each record moves its task so, and makes tasks so.
use Rattle.std.proofs.Common.{◌≡◌, ℕ, ◌+◌, ◌==◌, ◌&&◌, true, false, cond, List, [], ◌∷◌, ◌++◌, length, Option, Some, None, refl, ap, sym, subst, ◌∙◌}
use Rattle.std.specs.Prelude.{IfSome, is_none, option_and_then, option_map, slice_get, not, nat_le}
use Rattle.std.specs.List.{flat_map, list_all}
use Rattle.std.specs.Str.{bytes_eq}
use Rattle.run_records.specs.declared.record.Record.{Record}
use Rattle.run_records.specs.declared.record.Record.TheVariants as entry
use Rattle.cacao_book.specs.declared.books.Book.{Book}
use Rattle.cacao_book.specs.declared.steps.Step.{Step}
use Rattle.flow_core_rules.specs.declared.tasks.Task.{Task}
use Rattle.flow_core_rules.specs.declared.issues.Issue.{Issue}
use Rattle.flow_core_rules.specs.declared.issues.IssuePhase.{IssuePhase}
use Rattle.flow_core_rules.specs.declared.issues.IssuePhase.TheVariants as issue_phase
use Rattle.flow_core_rules.specs.declared.phases.Phase.{Phase}
use Rattle.flow_core_rules.specs.declared.phases.Phase.TheVariants as phase
use Rattle.flow_core_rules.specs.Givens.{Given, book_at, step_at}
use Rattle.flow_core_rules.specs.State.{State, shown}
use Rattle.flow_core_rules.specs.Edits.{Edit}
use Rattle.flow_core_rules.specs.Edits.Edit.{moves, closes, upgrades}
use Rattle.flow_core_rules.specs.Places.{Place, places}
use Rattle.flow_core_rules.specs.Tasks.{Here, here_at}
use Rattle.flow_core_rules.specs.Changes as changes
use Rattle.flow_core_rules.specs.Changes.{Waiting, Issuing, has_ended, awaited_place, moment_of}
use Rattle.flow_core_rules.specs.Runnable.{IsRunnable}
use Rattle.flow_core_rules.proofs.RunLemmas.{some_inner}
use Rattle.flow_core_rules.proofs.PlacedLemmas.{some_then, some_if, some_from, map_from}
use Rattle.flow_core_rules.proofs.HereLemmas.{here_of, some_at, some_option, IsWaitingAt, waiting_known}
use Rattle.flow_core_rules.proofs.ShapeLemmas.{filter_known}
use Rattle.flow_core_rules.proofs.FitLemmas.{Runs}
use Rattle.flow_core_rules.proofs.TaskLemmas.{get_within}
use Rattle.flow_core_laws.specs.OwnTask.{owner_of, task_of}
use Rattle.flow_core_laws.proofs.Somes.{none_some, some_as}
use Rattle.flow_core_laws.specs.ReadInScope.{IsScopeOf}
use Rattle.flow_core_laws.proofs.ScopedEdits.{AreRead, JoinsRead, read_at, read_joined, read_moved, read_answered, read_expired}

-- the number from which a task joins
abbrev pub joins_at : Phase → Option ℕ
joins_at (phase.Joining from) = Some from
joins_at other = None

-- the edits of a task that stands at a step of a playbook, and that has no child that goes on where it joins
pub record OwnRead (s : State) (own : Option ℕ) (es : List Edit) : Type 0 where
  pub now : ℕ
  pub number : ℕ
  pub was : Task
  pub step : Step
  pub book : Book
  pub number_is : own ≡ Some number
  pub was_is : slice_get s.tasks number ≡ Some was
  pub step_is : step_at s.given was.book was.step ≡ Some step
  pub book_is : book_at s.given was.book ≡ Some book
  pub there : slice_get book.steps was.step ≡ Some step
  pub read : AreRead (here_of (shown s) now number was step) book s.scopes was false es
  pub free : (from : ℕ) → joins_at was.phase ≡ Some from → list_all (λ one. has_ended one.phase) (changes.children (shown s).lists number from) ≡ true

pub record Stood (given : Given) (n m : ℕ) (step : Step) : Type 0 where
  pub book : Book
  pub book_is : book_at given n ≡ Some book
  pub there : slice_get book.steps m ≡ Some step

pub stood : (given : Given) (n m : ℕ) (step : Step) → step_at given n m ≡ Some step → Stood given n m step
stood given n m step e = by (book_at given n) refl e
  where
    by : (o : Option Book) → book_at given n ≡ o → option_and_then (λ (b : Book). slice_get b.steps m) o ≡ Some step → Stood given n m step
    by None is h = absurd (none_some step h)
    by (Some b) is h = record { book = b; book_is = is; there = h }

module _ (s : State) (runnable : IsRunnable s.given) (scoped : (t : ℕ) (task : Task) (n : ℕ) (step : Step) → slice_get s.tasks t ≡ Some task → task.step_scope ≡ Some n → step_at s.given task.book task.step ≡ Some step → IsScopeOf s.scopes task step n) where
  abbrev runs_at : (now t : ℕ) (task : Task) (step : Step) (at : Stood s.given task.book task.step step) → slice_get s.tasks t ≡ Some task → Runs (here_of (shown s) now t task step)
  runs_at now t task step at is = record { runnable = runnable; book = at.book; book_is = at.book_is; step_is = at.there; within = get_within s.tasks t task is }

  own_read : (now t : ℕ) (task : Task) (step : Step) (es : List Edit) (at : Stood s.given task.book task.step step) → slice_get s.tasks t ≡ Some task → step_at s.given task.book task.step ≡ Some step
      → AreRead (here_of (shown s) now t task step) at.book s.scopes task false es
      → ((from : ℕ) → joins_at task.phase ≡ Some from → list_all (λ one. has_ended one.phase) (changes.children (shown s).lists t from) ≡ true)
      → OwnRead s (Some t) es
  own_read now t task step es at is step_is read free = record {
    now = now;
    number = t;
    was = task;
    step = step;
    book = at.book;
    number_is = refl;
    was_is = is;
    step_is = step_is;
    book_is = at.book_is;
    there = at.there;
    read = read;
    free = free;
  }

  walked_read : (now t : ℕ) (task : Task) (step : Step) (at : Phase) → slice_get s.tasks t ≡ Some task → step_at s.given task.book task.step ≡ Some step → task.phase ≡ at
      → IfSome (changes.walked (here_of (shown s) now t task step) at) (OwnRead s (Some t))
  walked_read now t task step (phase.At since) is step_is at =
      let h : Here = here_of (shown s) now t task step in
      let st : Stood s.given task.book task.step step = stood s.given task.book task.step step step_is in
      some_as (AreRead h st.book s.scopes task false) (OwnRead s (Some t)) (changes.walked h (phase.At since))
      (λ es a. own_read now t task step es st is step_is a (λ from e. absurd (none_some from (sym (ap joins_at at) ∙ e)))) (read_at h (runs_at now t task step st is) since)
  walked_read now t task step (phase.Joining from) is step_is at =
      let h : Here = here_of (shown s) now t task step in
      let st : Stood s.given task.book task.step step = stood s.given task.book task.step step step_is in
      some_option task.step_scope (λ (scope : ℕ). changes.joined h from scope (changes.children (shown s).lists t from)) (OwnRead s (Some t)) (λ scope e.
      some_as (JoinsRead h st.book from) (OwnRead s (Some t)) (changes.joined h from scope (changes.children (shown s).lists t from))
      (λ es a. own_read now t task step es st is step_is a.0 (λ other o.
      subst (λ k. list_all (λ one. has_ended one.phase) (changes.children (shown s).lists t k) ≡ true) (some_inner from other (sym (ap joins_at at) ∙ o)) a.1))
      (read_joined h (runs_at now t task step st is) from scope (scoped t task scope step is e step_is)))
  walked_read now t task step (phase.Sending place) is step_is at = tt
  walked_read now t task step (phase.Awaiting place issue) is step_is at = tt
  walked_read now t task step (phase.Ended well) is step_is at = tt

  walk_read : (now t : ℕ) → IfSome (changes.walk (shown s) now t) (OwnRead s (Some t))
  walk_read now t =
      some_at (shown s) now t (λ (h : Here). changes.walked h h.task.phase) (OwnRead s (Some t)) (λ task step is step_is. walked_read now t task step task.phase is step_is refl)

  abbrev made_of : (Here → Place → Option Issue) → Here → Option Place → Option Issuing
  made_of issue_at h o = option_and_then (λ (place : Place). option_and_then (λ (issue : Issue). Some (changes.issuing h issue)) (issue_at h place)) o

  issue_read : (now t : ℕ) (issue_at : Here → Place → Option Issue)
      → IfSome (option_and_then (λ (h : Here). made_of issue_at h (changes.place_at h h.task.phase)) (here_at (shown s) now t)) (λ made. OwnRead s (Some t) made.1)
  issue_read now t issue_at =
      some_at (shown s) now t (λ (h : Here). made_of issue_at h (changes.place_at h h.task.phase)) (λ made. OwnRead s (Some t) made.1) (λ task step is step_is. stands task step is step_is task.phase refl)
    where
      made : (task : Task) (step : Step) → slice_get s.tasks t ≡ Some task → step_at s.given task.book task.step ≡ Some step → joins_at task.phase ≡ None → (o : Option Place)
          → IfSome (made_of issue_at (here_of (shown s) now t task step) o) (λ made. OwnRead s (Some t) made.1)
      made task step is step_is stands o =
          let h : Here = here_of (shown s) now t task step in
          let st : Stood s.given task.book task.step step = stood s.given task.book task.step step step_is in
          some_then o (λ (place : Place). option_and_then (λ (issue : Issue). Some (changes.issuing h issue)) (issue_at h place)) (λ made. OwnRead s (Some t) made.1) (λ place.
          some_then (issue_at h place) (λ (issue : Issue). Some (changes.issuing h issue)) (λ made. OwnRead s (Some t) made.1) (λ issue.
          own_read now t task step (changes.issuing h issue).1 st is step_is
          (read_moved h (runs_at now t task step st is) (phase.Awaiting (changes.place_number task.phase) (length s.issues)))
          (λ from e. absurd (none_some from (sym stands ∙ e)))))

      stands : (task : Task) (step : Step) → slice_get s.tasks t ≡ Some task → step_at s.given task.book task.step ≡ Some step → (at : Phase) → task.phase ≡ at
          → IfSome (made_of issue_at (here_of (shown s) now t task step) (changes.place_at (here_of (shown s) now t task step) at)) (λ made. OwnRead s (Some t) made.1)
      stands task step is step_is (phase.Sending n) at = made task step is step_is (ap joins_at at) (slice_get (places step.kind) n)
      stands task step is step_is (phase.At since) at = tt
      stands task step is step_is (phase.Awaiting place issue) at = tt
      stands task step is step_is (phase.Joining from) at = tt
      stands task step is step_is (phase.Ended well) at = tt

  -- a task that awaits an issue does not join
  awaits_no_child : (n : ℕ) (at : Phase) (place : ℕ) → awaited_place n at ≡ Some place → joins_at at ≡ None
  awaits_no_child n (phase.Joining from) place e = absurd (none_some place e)
  awaits_no_child n (phase.At since) place e = refl
  awaits_no_child n (phase.Sending p) place e = refl
  awaits_no_child n (phase.Awaiting p issue) place e = refl
  awaits_no_child n (phase.Ended well) place e = refl

  owned_read : (now n : ℕ) (w : Waiting) (edits : Here → List Edit) (known : IsWaitingAt (shown s) now n w)
      → ((r : Runs (here_of (shown s) now (w.issue).task known.task known.step)) → AreRead (here_of (shown s) now (w.issue).task known.task known.step) r.book s.scopes known.task false (edits (here_of (shown s) now (w.issue).task known.task known.step)))
      → OwnRead s (owner_of (shown s) n) (edits w.here)
  owned_read now n w edits known own =
      let t : ℕ = (w.issue).task in
      let st : Stood s.given (known.task).book (known.task).step known.step = stood s.given (known.task).book (known.task).step known.step known.step_is in
      let h : Here = here_of (shown s) now t known.task known.step in
      record {
        now = now;
        number = t;
        was = known.task;
        step = known.step;
        book = st.book;
        number_is = ap (option_map (λ (issue : Issue). issue.task)) known.issue_is;
        was_is = known.task_is;
        step_is = known.step_is;
        book_is = st.book_is;
        there = st.there;
        read = subst (λ (g : Here). AreRead h st.book s.scopes known.task false (edits g)) (sym known.here_is) (own (runs_at now t known.task known.step st known.task_is));
        free = λ from e. absurd (none_some from (sym (awaits_no_child n (known.task).phase w.place known.place_is) ∙ e));
      }

  answered_read : (now n : ℕ) (end : IssuePhase) (status rule : ℕ) (text : List ℕ) (w : Waiting) → IsWaitingAt (shown s) now n w
      → OwnRead s (owner_of (shown s) n) (changes.answered n end status rule text w)
  answered_read now n end status rule text w known =
      owned_read now n w
      (λ (g : Here). closes n end ∷ (flat_map (changes.written g.seen.lists w.scope) (changes.paired (changes.out_args_of g.step.kind) (changes.results status rule text)) ++ moves g.number (changes.after_answer w status) ∷ []))
      known
      (λ r. read_answered (here_of (shown s) now (w.issue).task known.task known.step) r w status (changes.paired (changes.out_args_of (known.step).kind) (changes.results status rule text)) known.here_is)

  expired_read : (now n : ℕ) (w : Waiting) → IsWaitingAt (shown s) now n w → OwnRead s (owner_of (shown s) n) (closes n issue_phase.Expired ∷ changes.done w.here false)
  expired_read now n w known =
      owned_read now n w (λ (g : Here). closes n issue_phase.Expired ∷ changes.done g false) known (λ r. read_expired (here_of (shown s) now (w.issue).task known.task known.step) r)

  abbrev pub ReadShape : Record → List Edit → Type 0
  ReadShape (entry.Begin run moment books bind) es = ⊥
  ReadShape (entry.Upgrade version moment) es = es ≡ upgrades ∷ []
  ReadShape r es = OwnRead s (task_of (shown s) r) es

  edits_read : (r : Record) → IfSome (changes.edits_of (shown s) r) (ReadShape r)
  edits_read (entry.Begin run moment books bind) = tt
  edits_read (entry.Walk task moment) = walk_read moment task
  edits_read (entry.Send t n agent moment bytes) =
      some_from (changes.next_command (shown s) moment t) (λ (made : Issuing). cond ((n == length s.issues) && (agent == (made.0).agent) && bytes_eq bytes (made.0).bytes) (Some made.1) None) (λ made. OwnRead s (Some t) made.1) (OwnRead s (Some t)) (issue_read moment t changes.command_at)
      (λ made own. some_if ((n == length s.issues) && (agent == (made.0).agent) && bytes_eq bytes (made.0).bytes) (Some made.1) (OwnRead s (Some t)) own)
  edits_read (entry.Ask t n moment bytes) =
      some_from (changes.next_question (shown s) moment t) (λ (made : Issuing). cond (s.is_upgraded && (n == length s.issues) && bytes_eq bytes (made.0).bytes) (Some made.1) None) (λ made. OwnRead s (Some t) made.1) (OwnRead s (Some t)) (issue_read moment t changes.question_at)
      (λ made own. some_if (s.is_upgraded && (n == length s.issues) && bytes_eq bytes (made.0).bytes) (Some made.1) (OwnRead s (Some t)) own)
  edits_read (entry.Reply n moment status rule text) =
      let f : Waiting → List Edit = changes.answered n (issue_phase.Answered status) status rule text in
      some_if (changes.is_answer status text) (option_map f (changes.waiting_filter_at (shown s) moment n)) (OwnRead s (owner_of (shown s) n))
      (map_from (changes.waiting_filter_at (shown s) moment n) f (IsWaitingAt (shown s) moment n) (OwnRead s (owner_of (shown s) n)) (filter_known (shown s) moment n) (λ w known. answered_read moment n (issue_phase.Answered status) status rule text w known))
  edits_read (entry.Told n moment status text) =
      let f : Waiting → List Edit = changes.answered n (issue_phase.Told status) status 0 text in
      some_if (s.is_upgraded && changes.is_answer status text) (option_map f (changes.waiting_at (shown s) moment n)) (OwnRead s (owner_of (shown s) n))
      (map_from (changes.waiting_at (shown s) moment n) f (IsWaitingAt (shown s) moment n) (OwnRead s (owner_of (shown s) n)) (waiting_known (shown s) moment n) (λ w known. answered_read moment n (issue_phase.Told status) status 0 text w known))
  edits_read (entry.Expire n moment) =
      some_from (changes.waiting_filter_at (shown s) moment n) (changes.expired n) (IsWaitingAt (shown s) moment n) (OwnRead s (owner_of (shown s) n)) (filter_known (shown s) moment n) (λ w known.
      some_if (nat_le ((w.issue).moment + w.here.step.timeout) w.here.now) (Some (closes n issue_phase.Expired ∷ changes.done w.here false)) (OwnRead s (owner_of (shown s) n)) (expired_read moment n w known))
  edits_read (entry.Upgrade version moment) =
      some_if ((version == 2) && is_none (changes.outcome (shown s).lists) && not s.is_upgraded) (Some (upgrades ∷ [])) (λ es. es ≡ upgrades ∷ []) refl

  pub change_read : (r : Record) (edits : List Edit) → changes.change (shown s) r ≡ Some edits → ReadShape r edits
  change_read r edits e =
      subst (λ o. IfSome o (ReadShape r)) e (some_if (changes.is_in_time (shown s) (moment_of r)) (changes.edits_of (shown s) r) (ReadShape r) (edits_read r))

  -- where the record has a task
  pub read_of : (r : Record) (es : List Edit) (t : ℕ) → ReadShape r es → task_of (shown s) r ≡ Some t → OwnRead s (task_of (shown s) r) es
  read_of (entry.Begin run moment books bind) es t shape e = absurd shape
  read_of (entry.Upgrade version moment) es t shape e = absurd (none_some t e)
  read_of (entry.Walk task moment) es t shape e = shape
  read_of (entry.Send task issue agent moment bytes) es t shape e = shape
  read_of (entry.Reply issue moment status rule text) es t shape e = shape
  read_of (entry.Expire issue moment) es t shape e = shape
  read_of (entry.Ask task issue moment bytes) es t shape e = shape
  read_of (entry.Told issue moment status text) es t shape e = shape
