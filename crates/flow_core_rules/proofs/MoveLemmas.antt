-- A move that is enabled has its record, which may come next; where there is none, no task walks, sends or asks.
use Rattle.std.proofs.Common.{◌≡◌, ℕ, suc, ◌+◌, ◌==◌, ◌&&◌, Bool, true, false, cond, List, [], ◌∷◌, length, Option, Some, None, is_some, arith, refl, ap, subst}
use Rattle.std.specs.Option.{option_or}
use Rattle.std.specs.Prelude.{IfSome, option_and_then, option_map, slice_get, not}
use Rattle.std.specs.Str.{bytes_eq}
use Rattle.std.proofs.lemmas.Slice.Eq.{bytes_eq-Decides}
use Rattle.run_records.specs.declared.record.Record.TheVariants as entry
use Rattle.cacao_book.specs.declared.steps.Step.{Step}
use Rattle.flow_core_rules.specs.declared.tasks.Task.{Task}
use Rattle.flow_core_rules.specs.declared.issues.Issue.{Issue}
use Rattle.flow_core_rules.specs.declared.phases.Phase.{Phase}
use Rattle.flow_core_rules.specs.declared.phases.Phase.TheVariants as phase
use Rattle.flow_core_rules.specs.declared.moves.Move.{Move}
use Rattle.flow_core_rules.specs.declared.moves.Move.TheVariants as move
use Rattle.flow_core_rules.specs.Givens.{step_at}
use Rattle.flow_core_rules.specs.State.{Shown}
use Rattle.flow_core_rules.specs.Edits.{Edit}
use Rattle.flow_core_rules.specs.Edits.Edit.{upgrades}
use Rattle.flow_core_rules.specs.Places.{Place, to_filter, to_operator, places}
use Rattle.flow_core_rules.specs.Filled.{replaced}
use Rattle.flow_core_rules.specs.Tasks.{Here}
use Rattle.flow_core_rules.specs.Changes as changes
use Rattle.flow_core_rules.specs.Changes.{Issuing, walk, next_command, next_question, upgrade, is_in_time}
use Rattle.flow_core_rules.specs.Runs.{shown_after}
use Rattle.flow_core_rules.specs.Moves.{move_at, first_move}
use Rattle.flow_core_rules.specs.Laws.{HasRecord, MovesAreEnabled, NoMoveIsNoRecord}
use Rattle.flow_core_rules.proofs.HereLemmas.{here_of}
use Rattle.flow_core_rules.proofs.NotStuck.{no-move, none_of}

pub clash : (b : Bool) → b ≡ true → b ≡ false → ⊥
clash true x y = cc
clash false x y = cc

none_some : {A : Type 0} (x : A) → None ≡ Some x → ⊥
none_some x h = cc

some_known : {A : Type 0} (o : Option A) → is_some o ≡ true → (x : A) × (o ≡ Some x)
some_known None e = absurd (clash false e refl)
some_known (Some x) e = (x, refl)

none_known : {A : Type 0} (o : Option A) → is_some o ≡ false → o ≡ None
none_known None e = refl
none_known (Some x) e = absurd (clash true refl e)

pub same_number : (n : ℕ) → (n == n) ≡ true
same_number n = grind arith

pub same_bytes : (bytes : List ℕ) → bytes_eq bytes bytes ≡ true
same_bytes bytes = (bytes_eq-Decides bytes bytes).1 refl

pub three : (a b c : Bool) → a ≡ true → b ≡ true → c ≡ true → (a && b && c) ≡ true
three true true true e f g = refl
three true true false e f g = g
three true false c e f g = f
three false b c e f g = e

pub taken : (b : Bool) (edits : List Edit) → b ≡ true → is_some (cond b (Some edits) None) ≡ true
taken true edits e = refl
taken false edits e = e

-- ---- the record of a move

module _ (s : Shown) (now t : ℕ) (timely : is_in_time s now ≡ true) where
  walks : is_some (walk s now t) ≡ true → HasRecord s now (move.Walk t)
  walks some = record { made = entry.Walk t now; made_is = refl; moment_is = refl; is_next = rw timely some }

  sends : (made : Issuing) → next_command s now t ≡ Some made → HasRecord s now (move.Send t)
  sends made is =
      record {
        made = entry.Send t (length s.lists.issues) (made.0).agent now (made.0).bytes;
        made_is = ap (option_map (λ (m : Issuing). entry.Send t (length s.lists.issues) (m.0).agent now (m.0).bytes)) is;
        moment_is = refl;
        is_next = rw timely (rw is (taken ((length s.lists.issues == length s.lists.issues) && ((made.0).agent == (made.0).agent) && bytes_eq (made.0).bytes (made.0).bytes) made.1
            (three (length s.lists.issues == length s.lists.issues) ((made.0).agent == (made.0).agent) (bytes_eq (made.0).bytes (made.0).bytes) (same_number (length s.lists.issues)) (same_number (made.0).agent) (same_bytes (made.0).bytes))));
      }

  asks : s.lists.is_upgraded ≡ true → (made : Issuing) → next_question s now t ≡ Some made → HasRecord s now (move.Ask t)
  asks upgraded made is = record {
    made = entry.Ask t (length s.lists.issues) now (made.0).bytes;
    made_is = ap (option_map (λ (m : Issuing). entry.Ask t (length s.lists.issues) now (m.0).bytes)) is;
    moment_is = refl;
    is_next = rw timely (rw is (taken (s.lists.is_upgraded && (length s.lists.issues == length s.lists.issues) && bytes_eq (made.0).bytes (made.0).bytes) made.1
        (three s.lists.is_upgraded (length s.lists.issues == length s.lists.issues) (bytes_eq (made.0).bytes (made.0).bytes) upgraded (same_number (length s.lists.issues)) (same_bytes (made.0).bytes))));
  }

  rises : is_some (upgrade s.lists 2) ≡ true → HasRecord s now move.Upgrade
  rises some = record { made = entry.Upgrade 2 now; made_is = refl; moment_is = refl; is_next = rw timely some }

  move_has : IfSome (move_at s now t) (HasRecord s now)
  move_has = by (is_some (walk s now t)) (is_some (next_command s now t)) (is_some (next_question s now t)) s.lists.is_upgraded (is_some (upgrade s.lists 2)) refl refl refl refl refl
    where
      by : (a b c d e : Bool) → is_some (walk s now t) ≡ a → is_some (next_command s now t) ≡ b → is_some (next_question s now t) ≡ c → s.lists.is_upgraded ≡ d → is_some (upgrade s.lists 2) ≡ e
          → IfSome (cond a (Some (move.Walk t)) (cond b (Some (move.Send t)) (cond (not c) None (cond d (Some (move.Ask t)) (cond e (Some move.Upgrade) None))))) (HasRecord s now)
      by true b c d e walking sending asking upgraded rising = walks walking
      by false true c d e walking sending asking upgraded rising = let found = some_known (next_command s now t) sending in sends found.0 found.1
      by false false false d e walking sending asking upgraded rising = tt
      by false false true true e walking sending asking upgraded rising = let found = some_known (next_question s now t) asking in asks upgraded found.0 found.1
      by false false true false true walking sending asking upgraded rising = rises rising
      by false false true false false walking sending asking upgraded rising = tt

first_has : (s : Shown) (now k : ℕ) (tasks : List Task) → is_in_time s now ≡ true → IfSome (first_move s now k tasks) (HasRecord s now)
first_has s now k [] timely = tt
first_has s now k (task ∷ tasks) timely = by (move_at s now k) (move_has s now k timely) (first_has s now (suc k) tasks timely)
  where
    by : (o : Option Move) → IfSome o (HasRecord s now) → IfSome (first_move s now (suc k) tasks) (HasRecord s now) → IfSome (option_or o (first_move s now (suc k) tasks)) (HasRecord s now)
    by None h rest = rest
    by (Some m) h rest = h

pub moves_are_enabled : MovesAreEnabled
moves_are_enabled s now m e = by (is_in_time s now) refl e
  where
    by : (b : Bool) → is_in_time s now ≡ b → cond b (first_move s now 0 s.lists.tasks) None ≡ Some m → HasRecord s now m
    by false timely h = absurd (none_some m h)
    by true timely h = subst (λ (o : Option Move). IfSome o (HasRecord s now)) h (first_has s now 0 s.lists.tasks timely)

-- ---- no move

-- what is asked does not rest on whether the run is upgraded
upgraded_asks : (s : Shown) (now t : ℕ) → next_question s now t ≡ None → next_question (shown_after now (upgrades ∷ []) s) now t ≡ None
upgraded_asks s now t e = by (slice_get s.lists.tasks t) e
  where
    issue_of : Here → Option Place → Option Issuing
    issue_of h o = option_and_then (λ (place : Place). option_and_then (λ (issue : Issue). Some (changes.issuing h issue)) (changes.question_at h place)) o

    later : Shown
    later = shown_after now (upgrades ∷ []) s

    no_some : (x : Issuing) → Some x ≡ None → ⊥
    no_some x h = cc

    asked : (task : Task) (step : Step) (content : Option (List ℕ)) (scope : Option ℕ)
        → option_and_then (λ (issue : Issue). Some (changes.issuing (here_of s now t task step) issue)) (option_and_then (λ (text : List ℕ). option_and_then (λ (n : ℕ). Some (changes.issue_with (here_of s now t task step) 0 (replaced s.lists n text))) scope) content) ≡ None
        → option_and_then (λ (issue : Issue). Some (changes.issuing (here_of later now t task step) issue)) (option_and_then (λ (text : List ℕ). option_and_then (λ (n : ℕ). Some (changes.issue_with (here_of later now t task step) 0 (replaced later.lists n text))) scope) content) ≡ None
    asked task step None scope h = refl
    asked task step (Some text) None h = refl
    asked task step (Some text) (Some n) h = absurd (no_some (changes.issuing (here_of s now t task step) (changes.issue_with (here_of s now t task step) 0 (replaced s.lists n text))) h)

    placed : (task : Task) (step : Step) (o : Option Place) → issue_of (here_of s now t task step) o ≡ None → issue_of (here_of later now t task step) o ≡ None
    placed task step None h = refl
    placed task step (Some (to_filter content to)) h = refl
    placed task step (Some (to_operator content)) h = asked task step content task.step_scope h

    stands : (task : Task) (step : Step) (at : Phase) → issue_of (here_of s now t task step) (changes.place_at (here_of s now t task step) at) ≡ None
        → issue_of (here_of later now t task step) (changes.place_at (here_of later now t task step) at) ≡ None
    stands task step (phase.Sending n) h = placed task step (slice_get (places step.kind) n) h
    stands task step (phase.At since) h = refl
    stands task step (phase.Awaiting place issue) h = refl
    stands task step (phase.Joining from) h = refl
    stands task step (phase.Ended well) h = refl

    steps : (task : Task) (o : Option Step) → option_and_then (λ (h : Here). issue_of h (changes.place_at h h.task.phase)) (option_map (here_of s now t task) o) ≡ None
        → option_and_then (λ (h : Here). issue_of h (changes.place_at h h.task.phase)) (option_map (here_of later now t task) o) ≡ None
    steps task None h = refl
    steps task (Some step) h = stands task step task.phase h

    by : (o : Option Task)
        → option_and_then (λ (h : Here). issue_of h (changes.place_at h h.task.phase)) (option_and_then (λ (task : Task). option_map (here_of s now t task) (step_at s.given task.book task.step)) o) ≡ None
        → option_and_then (λ (h : Here). issue_of h (changes.place_at h h.task.phase)) (option_and_then (λ (task : Task). option_map (here_of later now t task) (step_at s.given task.book task.step)) o) ≡ None
    by None h = refl
    by (Some task) h = steps task (step_at s.given task.book task.step) h

pub no_move_is_no_record : NoMoveIsNoRecord
no_move_is_no_record s now timely going none = record {
  no_walk = λ t. let n = nothing t (slice_get s.lists.tasks t) refl in rw timely (none_known (walk s now t) n.0);
  no_send = λ t k agent bytes. let n = nothing t (slice_get s.lists.tasks t) refl in rw timely (rw (none_known (next_command s now t) n.1) refl);
  no_ask = λ t k bytes. let n = nothing t (slice_get s.lists.tasks t) refl in rw timely (rw (none_known (next_question s now t) n.2) refl);
  no_later_ask = λ t k bytes. later t k bytes (is_in_time (shown_after now (upgrades ∷ []) s) now);
}
  where
    moves : first_move s now 0 s.lists.tasks ≡ None
    moves = rw timely at none

    nothing : (t : ℕ) (o : Option Task) → slice_get s.lists.tasks t ≡ o → (is_some (walk s now t) ≡ false) × (is_some (next_command s now t) ≡ false) × (is_some (next_question s now t) ≡ false)
    nothing t None e = (rw e refl, rw e refl, rw e refl)
    nothing t (Some task) e =
        let m : move_at s now (t + 0) ≡ None = no-move s now 0 s.lists.tasks t task moves e in
        let z : t + 0 ≡ t = omega arith in
        none_of s now t going (rw z at m)

    later : (t k : ℕ) (bytes : List ℕ) (b : Bool) → cond b (changes.ask (shown_after now (upgrades ∷ []) s) now t k bytes) None ≡ None
    later t k bytes false = refl
    later t k bytes true =
        let n = nothing t (slice_get s.lists.tasks t) refl in
        rw (upgraded_asks s now t (none_known (next_question s now t) n.2)) refl
