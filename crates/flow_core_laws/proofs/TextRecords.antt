-- The edits of each record write texts that fit.
use Rattle.std.proofs.Common.{◌≡◌, ℕ, ◌+◌, ◌<◌, ◌≤◌, ◌==◌, ◌&&◌, ◌||◌, Bool, true, false, cond, List, [], ◌∷◌, ◌++◌, length, Option, Some, None, arith, refl, ap, sym, subst}
use Rattle.std.specs.Prelude.{IfSome, is_none, nat_eq, option_and_then, option_map, slice_get, not, nat_le}
use Rattle.std.specs.List.{flat_map, list_all, list_any}
use Rattle.std.specs.Str.{bytes_eq, is_utf8}
use Rattle.run_records.specs.declared.record.Record.{Record}
use Rattle.run_records.specs.declared.record.Record.TheVariants as entry
use Rattle.run_records.specs.Ranges.{most_status_text}
use Rattle.cacao_vars.specs.declared.scoping.Scope.{Scope}
use Rattle.cacao_vars.specs.Scopes.{HasParentsBefore}
use Rattle.cacao_book.specs.declared.books.Book.{Book}
use Rattle.cacao_book.specs.declared.steps.Step.{Step}
use Rattle.cacao_check.specs.Fits.{FitsKind}
use Rattle.cacao_check.specs.Laws.{ResultsFit}
use Rattle.cacao_check_steps.specs.Uses.{call_of}
use Rattle.flow_core_rules.specs.declared.tasks.Task.{Task}
use Rattle.flow_core_rules.specs.declared.issues.Issue.{Issue}
use Rattle.flow_core_rules.specs.declared.issues.IssuePhase.{IssuePhase}
use Rattle.flow_core_rules.specs.declared.issues.IssuePhase.TheVariants as issue_phase
use Rattle.flow_core_rules.specs.declared.phases.Phase.{Phase}
use Rattle.flow_core_rules.specs.declared.phases.Phase.TheVariants as phase
use Rattle.flow_core_rules.specs.Givens.{Given, book_at, step_at}
use Rattle.flow_core_rules.specs.Accepted.{Accepted}
use Rattle.flow_core_rules.specs.State.{State, shown}
use Rattle.flow_core_rules.specs.Edits.{Edit}
use Rattle.flow_core_rules.specs.Edits.Edit.{moves, closes, upgrades}
use Rattle.flow_core_rules.specs.Places.{Place}
use Rattle.flow_core_rules.specs.Tasks.{Here, here_at}
use Rattle.flow_core_rules.specs.Changes as changes
use Rattle.flow_core_rules.specs.Changes.{Waiting, Issuing, has_ended, moment_of, is_final, final_statuses}
use Rattle.flow_core_rules.specs.Laws.{HasPlacedWrites}
use Rattle.flow_core_rules.proofs.PlacedLemmas.{some_then, some_if, some_from, map_from}
use Rattle.flow_core_rules.proofs.HereLemmas.{here_of, some_at, some_option, IsWaitingAt, waiting_known}
use Rattle.flow_core_rules.proofs.ShapeLemmas.{filter_known}
use Rattle.flow_core_setup.specs.Setups.{AreAccepted}
use Rattle.flow_core_laws.specs.OwnTask.{owner_of, task_of}
use Rattle.flow_core_laws.proofs.Somes.{clash, parts_true, some_as, le_of}
use Rattle.flow_core_laws.specs.ReadInScope.{ReadsInScope}
use Rattle.flow_core_laws.specs.FitValues.{HasShortRule}
use Rattle.flow_core_laws.proofs.ScopedRecords.{joins_at, Stood, stood}
use Rattle.flow_core_laws.proofs.TextLemmas.{AreTextsFit}
use Rattle.flow_core_laws.proofs.TextEdits.{HasCalled, AreSound}
use Rattle.flow_core_laws.proofs.TextRules.{sound_done, sound_at, sound_joined, sound_moved, sound_answered}

-- each task that joins at a call has called
abbrev pub AllCalls : Given → List Scope → List Task → Type 0
AllCalls given scopes tasks =
    (t : ℕ) (task : Task) (step : Step) (id : List ℕ) (from : ℕ) → slice_get tasks t ≡ Some task → step_at given task.book task.step ≡ Some step → call_of step.kind ≡ Some id → joins_at task.phase ≡ Some from
    → HasCalled given scopes tasks id from

-- the edits of a task that stands at a step
pub record OwnSound (s : State) (own : Option ℕ) (es : List Edit) : Type 0 where
  pub now : ℕ
  pub number : ℕ
  pub was : Task
  pub step : Step
  pub number_is : own ≡ Some number
  pub was_is : slice_get s.tasks number ≡ Some was
  pub step_is : step_at s.given was.book was.step ≡ Some step
  pub sound : AreSound (here_of (shown s) now number was step) (length s.scopes) s.scopes (length s.tasks) es

-- ---- answers

some_when : {B : Type 0} (b : Bool) (o : Option B) (P : B → Type 0) → (b ≡ true → IfSome o P) → IfSome (cond b o None) P
some_when true o P h = h refl
some_when false o P h = tt

any_small : (n most : ℕ) (xs : List ℕ) → list_all (λ x. nat_le x most) xs ≡ true → list_any (nat_eq n) xs ≡ true → n ≤ most
any_small n most [] small e = absurd (clash false e refl)
any_small n most (x ∷ xs) small e =
    let parts = parts_true (nat_le x most) (list_all (λ y. nat_le y most) xs) small in
    by (nat_eq n x) refl e (le_of x most parts.0) (λ h. any_small n most xs parts.1 h)
  where
    same : (a b : ℕ) → nat_eq a b ≡ true → a ≡ b
    same a b h = grind arith

    by : (b : Bool) → nat_eq n x ≡ b → (b || list_any (nat_eq n) xs) ≡ true → x ≤ most → (list_any (nat_eq n) xs ≡ true → n ≤ most) → n ≤ most
    by true is h le rest = subst (λ z. z ≤ most) (sym (same n x is)) le
    by false is h le rest = rest h

status_small : (status : ℕ) (text : List ℕ) → changes.is_answer status text ≡ true → status ≤ 9007199254740991
status_small status text e =
    let outer = parts_true (is_final status && is_utf8 text) (nat_le (length text) most_status_text) e in
    let inside = parts_true (is_final status) (is_utf8 text) outer.0 in
    any_small status 9007199254740991 final_statuses refl inside.0

module _ (fits : ResultsFit) (s : State) (accepted : Accepted AreAccepted FitsKind s.given.texts s.given.bind s.given) (placed : HasPlacedWrites s) (before : HasParentsBefore s.scopes) (fit : AreTextsFit s.scopes s.writes)
    (reads : (t : ℕ) (task : Task) (book : Book) → slice_get s.tasks t ≡ Some task → book_at s.given task.book ≡ Some book → ReadsInScope s book task)
    (within : (t : ℕ) (task : Task) → slice_get s.tasks t ≡ Some task → task.scope < length s.scopes) (calls : AllCalls s.given s.scopes s.tasks) where
  own_sound : (now t : ℕ) (task : Task) (step : Step) (es : List Edit) → slice_get s.tasks t ≡ Some task → step_at s.given task.book task.step ≡ Some step
      → AreSound (here_of (shown s) now t task step) (length s.scopes) s.scopes (length s.tasks) es → OwnSound s (Some t) es
  own_sound now t task step es is step_is sound = record { now = now; number = t; was = task; step = step; number_is = refl; was_is = is; step_is = step_is; sound = sound }

  walked_sound : (now t : ℕ) (task : Task) (step : Step) (at : Phase) → slice_get s.tasks t ≡ Some task → step_at s.given task.book task.step ≡ Some step → task.phase ≡ at
      → IfSome (changes.walked (here_of (shown s) now t task step) at) (OwnSound s (Some t))
  walked_sound now t task step (phase.At since) is step_is at =
      let h : Here = here_of (shown s) now t task step in
      let st : Stood s.given task.book task.step step = stood s.given task.book task.step step step_is in
      some_as (AreSound h (length s.scopes) s.scopes (length s.tasks)) (OwnSound s (Some t)) (changes.walked h (phase.At since))
      (λ es a. own_sound now t task step es is step_is a)
      (sound_at s accepted placed before fit now t task step st.book st.book_is st.there (reads t task st.book is st.book_is) (within t task is) since)
  walked_sound now t task step (phase.Joining from) is step_is at =
      let h : Here = here_of (shown s) now t task step in
      let st : Stood s.given task.book task.step step = stood s.given task.book task.step step step_is in
      some_option task.step_scope (λ (scope : ℕ). changes.joined h from scope (changes.children (shown s).lists t from)) (OwnSound s (Some t)) (λ scope e.
      some_as (AreSound h (length s.scopes) s.scopes (length s.tasks)) (OwnSound s (Some t)) (changes.joined h from scope (changes.children (shown s).lists t from))
      (λ es a. own_sound now t task step es is step_is a)
      (sound_joined s accepted placed before fit now t task step st.book st.book_is st.there (reads t task st.book is st.book_is) (within t task is) from scope e
      (λ id c. calls t task step id from is step_is c (ap joins_at at)) (changes.children (shown s).lists t from)))
  walked_sound now t task step (phase.Sending place) is step_is at = tt
  walked_sound now t task step (phase.Awaiting place issue) is step_is at = tt
  walked_sound now t task step (phase.Ended well) is step_is at = tt

  walk_sound : (now t : ℕ) → IfSome (changes.walk (shown s) now t) (OwnSound s (Some t))
  walk_sound now t =
      some_at (shown s) now t (λ (h : Here). changes.walked h h.task.phase) (OwnSound s (Some t)) (λ task step is step_is. walked_sound now t task step task.phase is step_is refl)

  abbrev made_of : (Here → Place → Option Issue) → Here → Option Place → Option Issuing
  made_of issue_at h o = option_and_then (λ (place : Place). option_and_then (λ (issue : Issue). Some (changes.issuing h issue)) (issue_at h place)) o

  issue_sound : (now t : ℕ) (issue_at : Here → Place → Option Issue)
      → IfSome (option_and_then (λ (h : Here). made_of issue_at h (changes.place_at h h.task.phase)) (here_at (shown s) now t)) (λ made. OwnSound s (Some t) made.1)
  issue_sound now t issue_at =
      some_at (shown s) now t (λ (h : Here). made_of issue_at h (changes.place_at h h.task.phase)) (λ made. OwnSound s (Some t) made.1) (λ task step is step_is.
      let h : Here = here_of (shown s) now t task step in
      let st : Stood s.given task.book task.step step = stood s.given task.book task.step step step_is in
      some_then (changes.place_at h task.phase) (λ (place : Place). option_and_then (λ (issue : Issue). Some (changes.issuing h issue)) (issue_at h place)) (λ made. OwnSound s (Some t) made.1) (λ place.
      some_then (issue_at h place) (λ (issue : Issue). Some (changes.issuing h issue)) (λ made. OwnSound s (Some t) made.1) (λ issue.
      own_sound now t task step (changes.issuing h issue).1 is step_is
      (sound_moved s accepted placed before fit now t task step st.book st.book_is st.there (reads t task st.book is st.book_is) (within t task is) (phase.Awaiting (changes.place_number task.phase) (length s.issues)) refl))))

  owned_sound : (now n : ℕ) (w : Waiting) (edits : Here → List Edit) (known : IsWaitingAt (shown s) now n w)
      → AreSound (here_of (shown s) now (w.issue).task known.task known.step) (length s.scopes) s.scopes (length s.tasks) (edits (here_of (shown s) now (w.issue).task known.task known.step))
      → OwnSound s (owner_of (shown s) n) (edits w.here)
  owned_sound now n w edits known own =
      let h : Here = here_of (shown s) now (w.issue).task known.task known.step in
      record {
        now = now;
        number = (w.issue).task;
        was = known.task;
        step = known.step;
        number_is = ap (option_map (λ (issue : Issue). issue.task)) known.issue_is;
        was_is = known.task_is;
        step_is = known.step_is;
        sound = subst (λ (g : Here). AreSound h (length s.scopes) s.scopes (length s.tasks) (edits g)) (sym known.here_is) own;
      }

  answered_sound : (now n : ℕ) (end : IssuePhase) (status rule : ℕ) (text : List ℕ) (w : Waiting) → IsWaitingAt (shown s) now n w → status ≤ 9007199254740991 → rule ≤ 9007199254740991
      → OwnSound s (owner_of (shown s) n) (changes.answered n end status rule text w)
  answered_sound now n end status rule text w known small short =
      let t : ℕ = (w.issue).task in
      let st : Stood s.given (known.task).book (known.task).step known.step = stood s.given (known.task).book (known.task).step known.step known.step_is in
      owned_sound now n w
      (λ (g : Here). closes n end ∷ (flat_map (changes.written g.seen.lists w.scope) (changes.paired (changes.out_args_of g.step.kind) (changes.results status rule text)) ++ moves g.number (changes.after_answer w status) ∷ []))
      known
      (sound_answered s accepted placed before fit now t known.task known.step st.book st.book_is st.there (reads t known.task st.book known.task_is st.book_is) (within t known.task known.task_is)
      fits w status rule text known.here_is known.scope_is small short)

  expired_sound : (now n : ℕ) (w : Waiting) → IsWaitingAt (shown s) now n w → OwnSound s (owner_of (shown s) n) (closes n issue_phase.Expired ∷ changes.done w.here false)
  expired_sound now n w known =
      let h : Here = here_of (shown s) now (w.issue).task known.task known.step in
      owned_sound now n w (λ (g : Here). closes n issue_phase.Expired ∷ changes.done g false) known (sound_done h h (length s.scopes) s.scopes (length s.tasks) false refl)

  abbrev pub SoundShape : Record → List Edit → Type 0
  SoundShape (entry.Begin run moment books bind) es = ⊥
  SoundShape (entry.Upgrade version moment) es = es ≡ upgrades ∷ []
  SoundShape r es = OwnSound s (task_of (shown s) r) es

  edits_sound : (r : Record) → HasShortRule r → IfSome (changes.edits_of (shown s) r) (SoundShape r)
  edits_sound (entry.Begin run moment books bind) short = tt
  edits_sound (entry.Walk task moment) short = walk_sound moment task
  edits_sound (entry.Send t n agent moment bytes) short =
      some_from (changes.next_command (shown s) moment t) (λ (made : Issuing). cond ((n == length s.issues) && (agent == (made.0).agent) && bytes_eq bytes (made.0).bytes) (Some made.1) None) (λ made. OwnSound s (Some t) made.1) (OwnSound s (Some t)) (issue_sound moment t changes.command_at)
      (λ made own. some_if ((n == length s.issues) && (agent == (made.0).agent) && bytes_eq bytes (made.0).bytes) (Some made.1) (OwnSound s (Some t)) own)
  edits_sound (entry.Ask t n moment bytes) short =
      some_from (changes.next_question (shown s) moment t) (λ (made : Issuing). cond (s.is_upgraded && (n == length s.issues) && bytes_eq bytes (made.0).bytes) (Some made.1) None) (λ made. OwnSound s (Some t) made.1) (OwnSound s (Some t)) (issue_sound moment t changes.question_at)
      (λ made own. some_if (s.is_upgraded && (n == length s.issues) && bytes_eq bytes (made.0).bytes) (Some made.1) (OwnSound s (Some t)) own)
  edits_sound (entry.Reply n moment status rule text) short =
      let f : Waiting → List Edit = changes.answered n (issue_phase.Answered status) status rule text in
      some_when (changes.is_answer status text) (option_map f (changes.waiting_filter_at (shown s) moment n)) (OwnSound s (owner_of (shown s) n)) (λ answers.
      map_from (changes.waiting_filter_at (shown s) moment n) f (IsWaitingAt (shown s) moment n) (OwnSound s (owner_of (shown s) n)) (filter_known (shown s) moment n)
      (λ w known. answered_sound moment n (issue_phase.Answered status) status rule text w known (status_small status text answers) (let few : rule < 4294967296 = short in omega arith)))
  edits_sound (entry.Told n moment status text) short =
      let f : Waiting → List Edit = changes.answered n (issue_phase.Told status) status 0 text in
      some_when (s.is_upgraded && changes.is_answer status text) (option_map f (changes.waiting_at (shown s) moment n)) (OwnSound s (owner_of (shown s) n)) (λ both.
      map_from (changes.waiting_at (shown s) moment n) f (IsWaitingAt (shown s) moment n) (OwnSound s (owner_of (shown s) n)) (waiting_known (shown s) moment n)
      (λ w known. answered_sound moment n (issue_phase.Told status) status 0 text w known (status_small status text (parts_true s.is_upgraded (changes.is_answer status text) both).1) (omega arith)))
  edits_sound (entry.Expire n moment) short =
      some_from (changes.waiting_filter_at (shown s) moment n) (changes.expired n) (IsWaitingAt (shown s) moment n) (OwnSound s (owner_of (shown s) n)) (filter_known (shown s) moment n) (λ w known.
      some_if (nat_le ((w.issue).moment + w.here.step.timeout) w.here.now) (Some (closes n issue_phase.Expired ∷ changes.done w.here false)) (OwnSound s (owner_of (shown s) n)) (expired_sound moment n w known))
  edits_sound (entry.Upgrade version moment) short =
      some_if ((version == 2) && is_none (changes.outcome (shown s).lists) && not s.is_upgraded) (Some (upgrades ∷ [])) (λ es. es ≡ upgrades ∷ []) refl

  pub change_sound : (r : Record) (edits : List Edit) → HasShortRule r → changes.change (shown s) r ≡ Some edits → SoundShape r edits
  change_sound r edits short e =
      subst (λ o. IfSome o (SoundShape r)) e (some_if (changes.is_in_time (shown s) (moment_of r)) (changes.edits_of (shown s) r) (SoundShape r) (edits_sound r short))
