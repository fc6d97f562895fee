-- The record of a move that is enabled is in range.
use Rattle.std.proofs.Common.{◌≡◌, ℕ, suc, ◌+◌, ◌<◌, ◌≤◌, ◌^◌, ◌==◌, ◌&&◌, ◌||◌, Bool, true, false, cond, List, [], ◌∷◌, length, Option, Some, None, is_some, arith, refl, ap, sym, subst}
use Rattle.std.specs.Bool.{⊤}
use Rattle.std.specs.Prelude.{IfSome, All, option_and_then, option_map, find, is_none, nat_eq, nat_le, not, slice_get}
use Rattle.std.specs.List.{list_any, list_all}
use Rattle.std.specs.Option.{option_map_or, option_or}
use Rattle.std.specs.Str.{bytes_eq, is_utf8}
use Rattle.std.proofs.lemmas.Str.{IsUtf8-from_is_utf8}
use Rattle.std.proofs.lemmas.List.Elements.{All-head, All-tail}
use Rattle.run_records.specs.declared.record.Record.{Record}
use Rattle.run_records.specs.declared.record.Record.TheVariants as entry
use Rattle.run_records.specs.Ranges.{InRange, last_moment, most_status_text}
use Rattle.flow_core_rules.specs.declared.tasks.Task.{Task}
use Rattle.flow_core_rules.specs.declared.issues.Issue.{Issue}
use Rattle.flow_core_rules.specs.declared.issues.IssuePhase.TheVariants as issue_phase
use Rattle.flow_core_rules.specs.declared.moves.Move.{Move}
use Rattle.flow_core_rules.specs.declared.moves.Move.TheVariants as move
use Rattle.flow_core_rules.specs.State.{Shown}
use Rattle.flow_core_rules.specs.Givens.{step_at}
use Rattle.flow_core_rules.specs.Edits.{Edit}
use Rattle.flow_core_rules.specs.Edits.Edit.{upgrades}
use Rattle.flow_core_rules.specs.Places.{Place, filter_of}
use Rattle.flow_core_rules.specs.Tasks.{Here, here_at}
use Rattle.flow_core_rules.specs.Changes as changes
use Rattle.flow_core_rules.specs.Changes.{Issuing, walk, next_command, next_question, upgrade, is_in_time, is_answer, is_final, final_statuses, moment_of}
use Rattle.flow_core_rules.specs.Moves.{move_at, first_move, enabled_move}
use Rattle.flow_core_rules.specs.Laws.{HasFitFields, MovesAreInRange, EnabledAreInRange}
use Rattle.flow_core_rules.proofs.HereLemmas.{here_of}
use Rattle.flow_core_rules.proofs.ShapeLemmas.{IsMade, IsCommand, IssueShape, next_command-made, change_shape}
use Rattle.flow_core_rules.proofs.TaskLemmas.{get_within}

inner : {A : Type 0} (a b : A) → Some a ≡ Some b → a ≡ b
inner a b h = cc

none_some : {A : Type 0} (x : A) → None ≡ Some x → ⊥
none_some x h = cc

both : (a b : Bool) → (a && b) ≡ true → (a ≡ true) × (b ≡ true)
both true true e = (refl, refl)
both true false e = (refl, e)
both false b e = (e, absurd (no_truth e))
  where
    no_truth : false ≡ true → ⊥
    no_truth h = cc

-- the move is that of a task below a number, or of none
abbrev MoveBelow : ℕ → Move → Type 0
MoveBelow n (move.Walk t) = t < n
MoveBelow n (move.Send t) = t < n
MoveBelow n (move.Ask t) = t < n
MoveBelow n move.Upgrade = ⊤

move_below : (s : Shown) (now t n : ℕ) → t < n → IfSome (move_at s now t) (MoveBelow n)
move_below s now t n less = by (is_some (walk s now t)) (is_some (next_command s now t)) (not (is_some (next_question s now t))) s.lists.is_upgraded (is_some (upgrade s.lists 2))
  where
    by : (a b c d e : Bool) → IfSome (cond a (Some (move.Walk t)) (cond b (Some (move.Send t)) (cond c None (cond d (Some (move.Ask t)) (cond e (Some move.Upgrade) None))))) (MoveBelow n)
    by true b c d e = less
    by false true c d e = less
    by false false true d e = tt
    by false false false true e = less
    by false false false false true = tt
    by false false false false false = tt

first_below : (s : Shown) (now k : ℕ) (tasks : List Task) (n : ℕ) → k + length tasks ≤ n → IfSome (first_move s now k tasks) (MoveBelow n)
first_below s now k [] n le = tt
first_below s now k (task ∷ tasks) n le = by (move_at s now k) (move_below s now k n (omega arith)) (first_below s now (suc k) tasks n (omega arith))
  where
    by : (o : Option Move) → IfSome o (MoveBelow n) → IfSome (first_move s now (suc k) tasks) (MoveBelow n) → IfSome (option_or o (first_move s now (suc k) tasks)) (MoveBelow n)
    by None h rest = rest
    by (Some m) h rest = h

-- an enabled move is that of a task that is there, at a moment in time
enabled_below : (s : Shown) (now : ℕ) (m : Move) → enabled_move s now ≡ Some m → MoveBelow (length s.lists.tasks) m × (now ≤ last_moment)
enabled_below s now m e = by (is_in_time s now) refl e
  where
    le_of : (a b : ℕ) → nat_le a b ≡ true → a ≤ b
    le_of a b h = grind arith

    some_of : (o : Option Move) → IfSome o (MoveBelow (length s.lists.tasks)) → o ≡ Some m → MoveBelow (length s.lists.tasks) m
    some_of o h g = subst (λ x. IfSome x (MoveBelow (length s.lists.tasks))) g h

    by : (b : Bool) → is_in_time s now ≡ b → cond b (first_move s now 0 s.lists.tasks) None ≡ Some m → MoveBelow (length s.lists.tasks) m × (now ≤ last_moment)
    by false is h = absurd (none_some m h)
    by true is h =
        let parts = both (nat_le s.moment now) (nat_le now last_moment) is in
        (some_of (first_move s now 0 s.lists.tasks) (first_below s now 0 s.lists.tasks (length s.lists.tasks) (omega arith)) h, le_of now last_moment parts.1)

filter_within : (agents : List (List ℕ × ℕ)) (to : List ℕ) → All (λ (entry : List ℕ × ℕ). (1 ≤ entry.1) × (entry.1 ≤ 16)) agents → (1 ≤ filter_of agents to) × (filter_of agents to ≤ 16)
filter_within [] to h = (omega arith, omega arith)
filter_within (a ∷ agents) to h =
    by (bytes_eq a.0 to) (All-head (λ (entry : List ℕ × ℕ). (1 ≤ entry.1) × (entry.1 ≤ 16)) a agents h) (filter_within agents to (All-tail (λ (entry : List ℕ × ℕ). (1 ≤ entry.1) × (entry.1 ≤ 16)) a agents h))
  where
    by : (b : Bool) → (1 ≤ a.1) × (a.1 ≤ 16) → (1 ≤ filter_of agents to) × (filter_of agents to ≤ 16)
        → (1 ≤ option_map_or (λ (found : List ℕ × ℕ). found.1) (cond b (Some a) (find (λ (entry : List ℕ × ℕ). bytes_eq entry.0 to) agents)) 1)
        × (option_map_or (λ (found : List ℕ × ℕ). found.1) (cond b (Some a) (find (λ (entry : List ℕ × ℕ). bytes_eq entry.0 to) agents)) 1 ≤ 16)
    by true h rest = h
    by false h rest = rest

early : (now : ℕ) → now ≤ last_moment → now < 2 ^ 64
early now le = omega arith

send_range : (s : Shown) (now t : ℕ) (r : Record) (o : Option Issuing) → IfSome o (IsCommand s t now) → t < 2 ^ 32 → length s.lists.issues < 2 ^ 32 → now < 2 ^ 64
    → All (λ (entry : List ℕ × ℕ). (1 ≤ entry.1) × (entry.1 ≤ 16)) s.given.agents → option_map (λ (made : Issuing). entry.Send t (length s.lists.issues) (made.0).agent now (made.0).bytes) o ≡ Some r → HasFitFields r → InRange r
send_range s now t r None h less few soon filters e fit = absurd (none_some r e)
send_range s now t r (Some made) h less few soon filters e fit =
    let is : entry.Send t (length s.lists.issues) (made.0).agent now (made.0).bytes ≡ r = inner (entry.Send t (length s.lists.issues) (made.0).agent now (made.0).bytes) r e in
    let m : IsMade t now (filter_of s.given.agents h.to) made = h.is in
    let agent_is : (made.0).agent ≡ filter_of s.given.agents h.to = ap (λ (i : Issue). i.agent) m.issue_is in
    let within = filter_within s.given.agents h.to filters in
    subst (λ (x : Record). HasFitFields x → InRange x) is (λ short. record {
      task_fits = less;
      issue_fits = few;
      some_agent = subst (λ n. 1 ≤ n) (sym agent_is) within.0;
      last_agent = subst (λ n. n ≤ 16) (sym agent_is) within.1;
      moment_fits = soon;
      short_bytes = short;
    }) fit

ask_range : (s : Shown) (now t : ℕ) (r : Record) (o : Option Issuing) → t < 2 ^ 32 → length s.lists.issues < 2 ^ 32 → now < 2 ^ 64
    → option_map (λ (made : Issuing). entry.Ask t (length s.lists.issues) now (made.0).bytes) o ≡ Some r → HasFitFields r → InRange r
ask_range s now t r None less few soon e fit = absurd (none_some r e)
ask_range s now t r (Some made) less few soon e fit =
    let is : entry.Ask t (length s.lists.issues) now (made.0).bytes ≡ r = inner (entry.Ask t (length s.lists.issues) now (made.0).bytes) r e in
    subst (λ (x : Record). HasFitFields x → InRange x) is (λ bytes. record { task_fits = less; issue_fits = few; moment_fits = soon; short_text = bytes.0; text_is_utf8 = bytes.1 }) fit

pub moves_are_in_range : MovesAreInRange
moves_are_in_range s now (move.Walk t) r tasks few filters e is fit =
    let at = enabled_below s now (move.Walk t) e in
    let less = at.0 in
    subst InRange (inner (entry.Walk t now) r is) (omega arith, early now at.1)
moves_are_in_range s now (move.Send t) r tasks few filters e is fit =
    let at = enabled_below s now (move.Send t) e in
    let less = at.0 in
    send_range s now t r (next_command s now t) (next_command-made s now t) (omega arith) few (early now at.1) filters is fit
moves_are_in_range s now (move.Ask t) r tasks few filters e is fit =
    let at = enabled_below s now (move.Ask t) e in
    let less = at.0 in
    ask_range s now t r (next_question s now t) (omega arith) few (early now at.1) is fit
moves_are_in_range s now move.Upgrade r tasks few filters e is fit =
    let at = enabled_below s now move.Upgrade e in
    subst InRange (inner (entry.Upgrade 2 now) r is) (refl, early now at.1)

-- ---- each record that may come next

some_if_both : {A : Type 0} (b : Bool) (o : Option A) → is_some (cond b o None) ≡ true → (b ≡ true) × (is_some o ≡ true)
some_if_both true o e = (refl, e)
some_if_both false o e = (e, absurd (no_truth e))
  where
    no_truth : false ≡ true → ⊥
    no_truth h = cc

some_first : {A B : Type 0} (o : Option A) (f : A → Option B) → is_some (option_and_then f o) ≡ true → is_some o ≡ true
some_first None f e = e
some_first (Some x) f e = refl

some_known : {A : Type 0} (o : Option A) → is_some o ≡ true → (x : A) × (o ≡ Some x)
some_known None e = absurd (no_truth e)
  where
    no_truth : false ≡ true → ⊥
    no_truth h = cc
some_known (Some x) e = (x, refl)

le_of_true : (a b : ℕ) → nat_le a b ≡ true → a ≤ b
le_of_true a b h = grind arith

same_number : (a b : ℕ) → (a == b) ≡ true → a ≡ b
same_number a b h = grind arith

-- a status is one of those that are final
status_small : (x : ℕ) (xs : List ℕ) → list_any (nat_eq x) xs ≡ true → list_all (λ y. nat_le y 999) xs ≡ true → x ≤ 999
status_small x [] is small = absurd (no_truth is)
  where
    no_truth : false ≡ true → ⊥
    no_truth h = cc
status_small x (y ∷ ys) is small =
    let parts = both (nat_le y 999) (list_all (λ z. nat_le z 999) ys) small in
    by (nat_eq x y) refl is (le_of_true y 999 parts.0) (λ h. status_small x ys h parts.1)
  where
    same : (a b : ℕ) → nat_eq a b ≡ true → a ≡ b
    same a b h = grind arith

    by : (b : Bool) → nat_eq x y ≡ b → (b || list_any (nat_eq x) ys) ≡ true → y ≤ 999 → (list_any (nat_eq x) ys ≡ true → x ≤ 999) → x ≤ 999
    by true e h le rest = subst (λ z. z ≤ 999) (sym (same x y e)) le
    by false e h le rest = rest h

-- what is known of an answer
record IsFitAnswer (status : ℕ) (text : List ℕ) : Type 0 where
  status_fits : status < 2 ^ 16
  short : length text ≤ most_status_text
  utf8 : is_utf8 text ≡ true

fit_answer : (status : ℕ) (text : List ℕ) → is_answer status text ≡ true → IsFitAnswer status text
fit_answer status text e =
    let outer = both (is_final status && is_utf8 text) (nat_le (length text) most_status_text) e in
    let inside = both (is_final status) (is_utf8 text) outer.0 in
    let small = status_small status final_statuses inside.0 refl in
    record { status_fits = omega arith; short = le_of_true (length text) most_status_text outer.1; utf8 = inside.1 }

module _ (s : Shown) (tasks : length s.lists.tasks ≤ 1_000_000) (few : length s.lists.issues < 2 ^ 32) (filters : All (λ (entry : List ℕ × ℕ). (1 ≤ entry.1) × (entry.1 ≤ 16)) s.given.agents) where
  -- a task at which a rule is used is there
  task_there : {B : Type 0} (now t : ℕ) (f : Here → Option B) → is_some (option_and_then f (here_at s now t)) ≡ true → t < 2 ^ 32
  task_there now t f e =
      let here = some_first (here_at s now t) f e in
      let task = some_known (slice_get s.lists.tasks t) (some_first (slice_get s.lists.tasks t) (λ (task : Task). option_map (here_of s now t task) (step_at s.given task.book task.step)) here) in
      let less = get_within s.lists.tasks t task.0 task.1 in
      omega arith

  issue_there : (n : ℕ) (i : Issue) → slice_get s.lists.issues n ≡ Some i → n < 2 ^ 32
  issue_there n i e = let less = get_within s.lists.issues n i e in omega arith

  soon : (now : ℕ) → is_in_time s now ≡ true → now < 2 ^ 64
  soon now e = let parts = both (nat_le s.moment now) (nat_le now last_moment) e in early now (le_of_true now last_moment parts.1)

  ranged : (r : Record) (edits : List Edit) → is_in_time s (moment_of r) ≡ true → is_some (changes.edits_of s r) ≡ true → IssueShape s r edits → HasFitFields r → InRange r
  ranged (entry.Begin run moment books bind) edits timely some shape fit = absurd shape
  ranged (entry.Walk t moment) edits timely some shape fit = (task_there moment t (λ (h : Here). changes.walked h h.task.phase) some, soon moment timely)
  ranged (entry.Send t n agent moment bytes) edits timely some shape fit =
      let made = some_first (next_command s moment t) (λ (made : Issuing). cond ((n == length s.lists.issues) && (agent == (made.0).agent) && bytes_eq bytes (made.0).bytes) (Some made.1) None) some in
      let within = filter_within s.given.agents shape.to filters in
      record {
        task_fits = task_there moment t (λ (h : Here). option_and_then (λ (place : Place). option_and_then (λ (issue : Issue). Some (changes.issuing h issue)) (changes.command_at h place)) (changes.place_at h h.task.phase)) made;
        issue_fits = subst (λ m. m < 2 ^ 32) (sym (shape.issued).number_is) few;
        some_agent = subst (λ m. 1 ≤ m) (sym shape.agent_is) within.0;
        last_agent = subst (λ m. m ≤ 16) (sym shape.agent_is) within.1;
        moment_fits = soon moment timely;
        short_bytes = fit;
      }
  ranged (entry.Ask t n moment bytes) edits timely some shape fit =
      let made = some_first (next_question s moment t) (λ (made : Issuing). cond (s.lists.is_upgraded && (n == length s.lists.issues) && bytes_eq bytes (made.0).bytes) (Some made.1) None) some in
      record {
        task_fits = task_there moment t (λ (h : Here). option_and_then (λ (place : Place). option_and_then (λ (issue : Issue). Some (changes.issuing h issue)) (changes.question_at h place)) (changes.place_at h h.task.phase)) made;
        issue_fits = subst (λ m. m < 2 ^ 32) (sym shape.number_is) few;
        moment_fits = soon moment timely;
        short_text = fit.0;
        text_is_utf8 = fit.1;
      }
  ranged (entry.Reply n moment status rule text) edits timely some shape fit =
      let answer = some_if_both (is_answer status text) (option_map (changes.answered n (issue_phase.Answered status) status rule text) (changes.waiting_filter_at s moment n)) some in
      let a : IsFitAnswer status text = fit_answer status text answer.0 in
      record {
        issue_fits = issue_there n shape.issue shape.issue_is;
        moment_fits = soon moment timely;
        status_fits = a.status_fits;
        rule_fits = fit;
        short_text = a.short;
        text_is_utf8 = IsUtf8-from_is_utf8 text a.utf8;
      }
  ranged (entry.Told n moment status text) edits timely some shape fit =
      let answer = some_if_both (s.lists.is_upgraded && is_answer status text) (option_map (changes.answered n (issue_phase.Told status) status 0 text) (changes.waiting_at s moment n)) some in
      let parts = both s.lists.is_upgraded (is_answer status text) answer.0 in
      let a : IsFitAnswer status text = fit_answer status text parts.1 in
      record {
        issue_fits = issue_there n shape.issue shape.issue_is;
        moment_fits = soon moment timely;
        status_fits = a.status_fits;
        short_text = a.short;
        text_is_utf8 = IsUtf8-from_is_utf8 text a.utf8;
      }
  ranged (entry.Expire n moment) edits timely some shape fit = (issue_there n shape.issue shape.issue_is, soon moment timely)
  ranged (entry.Upgrade version moment) edits timely some shape fit =
      let holds = some_if_both ((version == 2) && is_none (changes.outcome s.lists) && not s.lists.is_upgraded) (Some (upgrades ∷ [])) some in
      let outer = both ((version == 2) && is_none (changes.outcome s.lists)) (not s.lists.is_upgraded) holds.0 in
      let inside = both (version == 2) (is_none (changes.outcome s.lists)) outer.0 in
      (same_number version 2 inside.0, soon moment timely)

pub enabled_are_in_range : EnabledAreInRange
enabled_are_in_range s r tasks few filters some fit =
    let parts = some_if_both (is_in_time s (moment_of r)) (changes.edits_of s r) some in
    let edits = some_known (changes.change s r) some in
    ranged s tasks few filters r edits.0 parts.0 parts.1 (change_shape s r edits.0 edits.1) fit
