-- Where no task walks, sends or asks, nor asks after an Upgrade, there is no move; so a sane state waits for something.
use Rattle.std.proofs.Common.{◌≡◌, ℕ, suc, ◌≤◌, ◌==◌, ◌&&◌, ◌∙◌, true, false, List, [], ◌∷◌, length, Option, Some, None, is_some, arith, refl, ap}
use Rattle.std.specs.Option.{option_or}
use Rattle.std.specs.Prelude.{nat_le, option_and_then, option_map, slice_get}
use Rattle.std.specs.Str.{bytes_eq}
use Rattle.run_records.specs.Ranges.{last_moment}
use Rattle.run_records.specs.declared.record.Record.TheVariants as entry
use Rattle.cacao_book.specs.declared.steps.Step.{Step}
use Rattle.flow_core_rules.specs.declared.tasks.Task.{Task}
use Rattle.flow_core_rules.specs.declared.issues.Issue.{Issue}
use Rattle.flow_core_rules.specs.declared.phases.Phase.{Phase}
use Rattle.flow_core_rules.specs.declared.phases.Phase.TheVariants as phase
use Rattle.flow_core_rules.specs.Givens.{step_at}
use Rattle.flow_core_rules.specs.State.{Shown}
use Rattle.flow_core_rules.specs.Edits.Edit.{upgrades}
use Rattle.flow_core_rules.specs.Places.{Place, to_filter, to_operator, places}
use Rattle.flow_core_rules.specs.Filled.{replaced}
use Rattle.flow_core_rules.specs.Tasks.{Here}
use Rattle.flow_core_rules.specs.Changes as changes
use Rattle.flow_core_rules.specs.Changes.{Issuing, walk, next_command, next_question, change, is_in_time}
use Rattle.flow_core_rules.specs.Runs.{shown_after}
use Rattle.flow_core_rules.specs.Moves.{move_at, first_move, enabled_move}
use Rattle.flow_core_rules.specs.Laws.{HasNoRecord}
use Rattle.flow_core_rules.specs.Waiting.{NoRecordIsNoMove, SaneAlwaysWaits}
use Rattle.flow_core_rules.proofs.HereLemmas.{here_of}
use Rattle.flow_core_rules.proofs.NotStuck.{not_stuck}
use Rattle.flow_core_rules.proofs.MoveLemmas.{clash, same_number, same_bytes, three, taken}

no_next : {A : Type 0} (o : Option A) → is_some o ≡ true → o ≡ None → ⊥
no_next None e h = clash false e refl
no_next (Some x) e h = some_not x h
  where
    some_not : {A : Type 0} (x : A) → Some x ≡ None → ⊥
    some_not x g = cc

-- a run that is upgraded asks what it would ask before
asked_later : (s : Shown) (now t : ℕ) → next_question (shown_after now (upgrades ∷ []) s) now t ≡ None → next_question s now t ≡ None
asked_later s now t e = by (slice_get s.lists.tasks t) e
  where
    later : Shown
    later = shown_after now (upgrades ∷ []) s

    issue_of : Here → Option Place → Option Issuing
    issue_of h o = option_and_then (λ (place : Place). option_and_then (λ (issue : Issue). Some (changes.issuing h issue)) (changes.question_at h place)) o

    no_some : (x : Issuing) → Some x ≡ None → ⊥
    no_some x h = cc

    asked : (task : Task) (step : Step) (content : Option (List ℕ)) (scope : Option ℕ)
        → option_and_then (λ (issue : Issue). Some (changes.issuing (here_of later now t task step) issue)) (option_and_then (λ (text : List ℕ). option_and_then (λ (n : ℕ). Some (changes.issue_with (here_of later now t task step) 0 (replaced later.lists n text))) scope) content) ≡ None
        → option_and_then (λ (issue : Issue). Some (changes.issuing (here_of s now t task step) issue)) (option_and_then (λ (text : List ℕ). option_and_then (λ (n : ℕ). Some (changes.issue_with (here_of s now t task step) 0 (replaced s.lists n text))) scope) content) ≡ None
    asked task step None scope h = refl
    asked task step (Some text) None h = refl
    asked task step (Some text) (Some n) h = absurd (no_some (changes.issuing (here_of later now t task step) (changes.issue_with (here_of later now t task step) 0 (replaced later.lists n text))) h)

    placed : (task : Task) (step : Step) (o : Option Place) → issue_of (here_of later now t task step) o ≡ None → issue_of (here_of s now t task step) o ≡ None
    placed task step None h = refl
    placed task step (Some (to_filter content to)) h = refl
    placed task step (Some (to_operator content)) h = asked task step content task.step_scope h

    stands : (task : Task) (step : Step) (at : Phase) → issue_of (here_of later now t task step) (changes.place_at (here_of later now t task step) at) ≡ None
        → issue_of (here_of s now t task step) (changes.place_at (here_of s now t task step) at) ≡ None
    stands task step (phase.Sending n) h = placed task step (slice_get (places step.kind) n) h
    stands task step (phase.At since) h = refl
    stands task step (phase.Awaiting place issue) h = refl
    stands task step (phase.Joining from) h = refl
    stands task step (phase.Ended well) h = refl

    steps : (task : Task) (o : Option Step) → option_and_then (λ (h : Here). issue_of h (changes.place_at h h.task.phase)) (option_map (here_of later now t task) o) ≡ None
        → option_and_then (λ (h : Here). issue_of h (changes.place_at h h.task.phase)) (option_map (here_of s now t task) o) ≡ None
    steps task None h = refl
    steps task (Some step) h = stands task step task.phase h

    by : (o : Option Task)
        → option_and_then (λ (h : Here). issue_of h (changes.place_at h h.task.phase)) (option_and_then (λ (task : Task). option_map (here_of later now t task) (step_at s.given task.book task.step)) o) ≡ None
        → option_and_then (λ (h : Here). issue_of h (changes.place_at h h.task.phase)) (option_and_then (λ (task : Task). option_map (here_of s now t task) (step_at s.given task.book task.step)) o) ≡ None
    by None h = refl
    by (Some task) h = steps task (step_at s.given task.book task.step) h

-- a command that comes next can be sent, and once the run is upgraded a question can be asked
module _ (s : Shown) (now t : ℕ) (timely : is_in_time s now ≡ true) where
  sent_next : ((n agent : ℕ) (bytes : List ℕ) → change s (entry.Send t n agent now bytes) ≡ None) → next_command s now t ≡ None
  sent_next none = by (next_command s now t) refl
    where
      by : (o : Option Issuing) → next_command s now t ≡ o → o ≡ None
      by None is = refl
      by (Some made) is =
          let n : ℕ = length s.lists.issues in
          absurd (no_next (change s (entry.Send t n (made.0).agent now (made.0).bytes)) (rw timely (rw is (taken ((n == n) && ((made.0).agent == (made.0).agent) && bytes_eq (made.0).bytes (made.0).bytes) made.1
          (three (n == n) ((made.0).agent == (made.0).agent) (bytes_eq (made.0).bytes (made.0).bytes) (same_number n) (same_number (made.0).agent) (same_bytes (made.0).bytes))))) (none n (made.0).agent (made.0).bytes))

  asked_next : s.lists.is_upgraded ≡ true → ((n : ℕ) (bytes : List ℕ) → change s (entry.Ask t n now bytes) ≡ None) → next_question s now t ≡ None
  asked_next upgraded none = by (next_question s now t) refl
    where
      by : (o : Option Issuing) → next_question s now t ≡ o → o ≡ None
      by None is = refl
      by (Some made) is =
          let n : ℕ = length s.lists.issues in
          absurd (no_next (change s (entry.Ask t n now (made.0).bytes)) (rw timely (rw is (taken (s.lists.is_upgraded && (n == n) && bytes_eq (made.0).bytes (made.0).bytes) made.1
          (three s.lists.is_upgraded (n == n) (bytes_eq (made.0).bytes (made.0).bytes) upgraded (same_number n) (same_bytes (made.0).bytes))))) (none n (made.0).bytes))

both_le : (a b c : ℕ) → (nat_le a b && nat_le b c) ≡ true → (nat_le b b && nat_le b c) ≡ true
both_le a b c h = grind arith

no_record_no_move : (s : Shown) (now : ℕ) → is_in_time s now ≡ true → HasNoRecord s now → enabled_move s now ≡ None
no_record_no_move s now timely none = rw timely (each 0 s.lists.tasks)
  where
    later : Shown
    later = shown_after now (upgrades ∷ []) s

    walks : (t : ℕ) → walk s now t ≡ None
    walks t = rw timely at none.no_walk t

    sending : (t : ℕ) → next_command s now t ≡ None
    sending t = sent_next s now t timely (none.no_send t)

    asking : (t : ℕ) → next_question s now t ≡ None
    asking t = asked_later s now t (asked_next later now t (both_le s.moment now last_moment timely) refl (none.no_later_ask t))

    move : (t : ℕ) → move_at s now t ≡ None
    move t = rw (walks t, sending t, asking t) refl

    each : (k : ℕ) (tasks : List Task) → first_move s now k tasks ≡ None
    each k [] = refl
    each k (task ∷ tasks) = ap (λ o. option_or o (first_move s now (suc k) tasks)) (move k) ∙ each (suc k) tasks

pub no_record_is_no_move : NoRecordIsNoMove
no_record_is_no_move = no_record_no_move

le_true : (a b : ℕ) → a ≤ b → nat_le a b ≡ true
le_true a b h = grind arith

pub always_waits : SaneAlwaysWaits
always_waits s sane now from to going none =
    let timely : is_in_time s now ≡ true = rw (le_true s.moment now from, le_true now last_moment to) refl in
    not_stuck s sane now from to going (no_record_no_move s now timely none)
