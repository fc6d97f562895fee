-- What the tables of a run tell of what it shows.
use Rattle.std.proofs.Common.{◌≡◌, ℕ, zero, suc, ◌+◌, ◌<◌, ◌≤◌, Bool, true, false, cond, List, [], ◌∷◌, length, Option, Some, None, is_some, arith, refl, ap, sym, ◌∙◌}
use Rattle.std.specs.Prelude.{slice_get, option_and_then, option_map}
use Rattle.base_dues.specs.Pairs.{at, rising, is_by, IsFirstBy, IsQueue}
use Rattle.base_dues.specs.Least.{sooner}
use Rattle.flow_core_rules.specs.declared.tasks.Task.{Task}
use Rattle.flow_core_rules.specs.declared.issues.Issue.{Issue}
use Rattle.flow_core_rules.specs.declared.phases.Phase.{Phase}
use Rattle.flow_core_rules.specs.declared.phases.Phase.TheVariants as phase
use Rattle.flow_core_rules.specs.State.{Shown}
use Rattle.flow_core_rules.specs.Changes.{is_in_time}
use Rattle.flow_core_rules.specs.Sane.{IsSane}
use Rattle.flow_core_rules.specs.Moves.{move_at, first_move, enabled_move, ready_at, ready_set, deadlines, deadline_of, has_deadline, due, is_question, asks}
use Rattle.flow_core_plans.specs.TableTypes.{Tables}
use Rattle.flow_core_plans.specs.TableFacts.{seen_with, HasTables, delay_in}
use Rattle.flow_core.proofs.DueFacts.{due_is, ready_rises, deadlines_rise, first_question_is, first_move_is}
use Rattle.flow_core.proofs.MoveFacts.{ready_moves}

-- ---- the moment and the number of a run play no part in the tables

abbrev bare : Shown → Shown
bare s = seen_with s.given s.lists

bare_ready : (s : Shown) (t : ℕ) (task : Task) (at : Phase) → ready_at (bare s) t task at ≡ ready_at s t task at
bare_ready s t task (phase.At since) = refl
bare_ready s t task (phase.Sending place) = refl
bare_ready s t task (phase.Awaiting place issue) = refl
bare_ready s t task (phase.Joining from) = refl
bare_ready s t task (phase.Ended well) = refl

bare_delay : (s : Shown) (task : Task) (at : Phase) → delay_in (bare s) task at ≡ delay_in s task at
bare_delay s task (phase.At since) = refl
bare_delay s task (phase.Sending place) = refl
bare_delay s task (phase.Awaiting place issue) = refl
bare_delay s task (phase.Joining from) = refl
bare_delay s task (phase.Ended well) = refl

pub ready_is : (s : Shown) (t : Tables) (k : ℕ) → HasTables (bare s) t → at t.ready.pairs k ≡ option_and_then (λ (task : Task). ready_at s k task task.phase) (slice_get s.lists.tasks k)
ready_is s t k h = h.ready k ∙ by (slice_get s.lists.tasks k)
  where
    by : (o : Option Task) → option_and_then (λ (task : Task). ready_at (bare s) k task task.phase) o ≡ option_and_then (λ (task : Task). ready_at s k task task.phase) o
    by None = refl
    by (Some task) = bare_ready s k task task.phase

delay_is : (s : Shown) (t : Tables) (k : ℕ) → HasTables (bare s) t → at t.delays.pairs k ≡ option_and_then (λ (task : Task). delay_in s task task.phase) (slice_get s.lists.tasks k)
delay_is s t k h = h.delays k ∙ by (slice_get s.lists.tasks k)
  where
    by : (o : Option Task) → option_and_then (λ (task : Task). delay_in (bare s) task task.phase) o ≡ option_and_then (λ (task : Task). delay_in s task task.phase) o
    by None = refl
    by (Some task) = bare_delay s task task.phase

pub deadline_is : (s : Shown) (t : Tables) (k : ℕ) → HasTables (bare s) t → at t.deadlines.pairs k ≡ option_and_then (λ (issue : Issue). cond (has_deadline issue) (Some (deadline_of s issue)) None) (slice_get s.lists.issues k)
deadline_is s t k h = h.deadlines k

-- ---- the tables as rising lists

pub ready_table : (s : Shown) (t : Tables) → IsQueue t.ready.pairs → HasTables (bare s) t → t.ready.pairs ≡ rising (ready_set s)
ready_table s t q h = ready_rises s t.ready.pairs q (λ k. ready_is s t k h)

pub deadline_table : (s : Shown) (t : Tables) → IsQueue t.deadlines.pairs → HasTables (bare s) t → t.deadlines.pairs ≡ rising (deadlines s)
deadline_table s t q h = deadlines_rise s t.deadlines.pairs q (λ k. deadline_is s t k h)

pub due_table : (s : Shown) (t : Tables) → IsQueue t.delays.pairs → IsQueue t.deadlines.pairs → HasTables (bare s) t
    → sooner (option_map (λ d. d.0) (slice_get t.delays.pairs 0)) (option_map (λ d. d.0) (slice_get t.deadlines.pairs 0)) ≡ due s
due_table s t q r h = due_is s t.delays.pairs t.deadlines.pairs q r (λ k. delay_is s t k h) (λ k. deadline_is s t k h)

-- ---- the least question

same_option : (o : Option ℕ) → option_map (λ k. 0 + k) o ≡ o
same_option None = refl
same_option (Some k) = ap Some (omega arith)

pub asks_table : (s : Shown) (t : Tables) (o : Option ℕ) → HasTables (bare s) t → IsFirstBy 0 (at t.questions.pairs) o → o ≡ asks s
asks_table s t o h f = sym (first_question_is 0 s.lists.issues o (by o f) ∙ same_option o)
  where
    g : ℕ → Option ℕ
    g k = option_and_then (λ (issue : Issue). cond (is_question issue) (Some 0) None) (slice_get s.lists.issues k)

    by : (o : Option ℕ) → IsFirstBy 0 (at t.questions.pairs) o → IsFirstBy 0 (λ k. option_and_then (λ (issue : Issue). cond (is_question issue) (Some 0) None) (slice_get s.lists.issues k)) o
    by None e = λ k. ap (is_by 0) (sym (h.questions k)) ∙ e k
    by (Some n) e = (ap (is_by 0) (sym (h.questions n)) ∙ e.0, λ k less. ap (is_by 0) (sym (h.questions k)) ∙ e.1 k less)

-- ---- the first move

past : {A : Type 0} (xs : List A) (k : ℕ) → length xs ≤ k → slice_get xs k ≡ None
past [] k le = refl
past (x ∷ xs) zero le = absurd (omega arith)
past (x ∷ xs) (suc k) le = past xs k (omega arith)

there : {A : Type 0} (xs : List A) (k : ℕ) → k < length xs → (x : A) × (slice_get xs k ≡ Some x)
there [] k less = absurd (omega arith)
there (x ∷ xs) zero less = (x, refl)
there (x ∷ xs) (suc k) less = there xs k (omega arith)

first_by : (f g : ℕ → Option ℕ) (now : ℕ) (o : Option ℕ) → ((k : ℕ) → f k ≡ g k) → IsFirstBy now f o → IsFirstBy now g o
first_by f g now None same e = λ k. ap (is_by now) (sym (same k)) ∙ e k
first_by f g now (Some n) same e = (ap (is_by now) (sym (same n)) ∙ e.0, λ k less. ap (is_by now) (sym (same k)) ∙ e.1 k less)

moves_here : (s : Shown) (now k : ℕ) → IsSane s → k < length s.lists.tasks
    → is_by now (option_and_then (λ (task : Task). ready_at s k task task.phase) (slice_get s.lists.tasks k)) ≡ is_some (move_at s now (0 + k))
moves_here s now k sane less =
    let x = there s.lists.tasks k less in
    ap (λ (o : Option Task). is_by now (option_and_then (λ (task : Task). ready_at s k task task.phase) o)) x.1
    ∙ ready_moves s now k x.0 sane x.1 ∙ ap (λ n. is_some (move_at s now n)) (zero_more k)
  where
    zero_more : (n : ℕ) → n ≡ 0 + n
    zero_more n = omega arith

-- the move of the least task that is ready, in time
pub enabled_table : (s : Shown) (t : Tables) (now : ℕ) (o : Option ℕ) → IsSane s → HasTables (bare s) t → is_in_time s now ≡ true → IsFirstBy now (at t.ready.pairs) o
    → enabled_move s now ≡ option_and_then (λ k. move_at s now k) o
enabled_table s t now o sane h timely f =
    let g : ℕ → Option ℕ = λ k. option_and_then (λ (task : Task). ready_at s k task task.phase) (slice_get s.lists.tasks k) in
    ap (λ b. cond b (first_move s now 0 s.lists.tasks) None) timely
    ∙ first_move_is s now 0 s.lists.tasks g o (λ k less. moves_here s now k sane less) (λ k le. ap (option_and_then (λ (task : Task). ready_at s k task task.phase)) (past s.lists.tasks k le))
    (first_by (at t.ready.pairs) g now o (λ k. ready_is s t k h) f)
    ∙ same o
  where
    same : (o : Option ℕ) → option_and_then (λ k. move_at s now (0 + k)) o ≡ option_and_then (λ k. move_at s now k) o
    same None = refl
    same (Some k) = ap (move_at s now) (omega arith)

-- the task that is ready has a move
pub ready_task : (s : Shown) (t : Tables) (now n : ℕ) → IsSane s → HasTables (bare s) t → IsFirstBy now (at t.ready.pairs) (Some n) → is_some (move_at s now n) ≡ true
ready_task s t now n sane h f = by (slice_get s.lists.tasks n) refl
  where
    clash : (b : Bool) → b ≡ true → b ≡ false → ⊥
    clash true x y = cc
    clash false x y = cc

    by : (o : Option Task) → slice_get s.lists.tasks n ≡ o → is_some (move_at s now n) ≡ true
    by None e = absurd (clash (is_by now (at t.ready.pairs n)) f.0 (ap (is_by now) (ready_is s t n h ∙ ap (option_and_then (λ (task : Task). ready_at s n task task.phase)) e)))
    by (Some task) e =
        sym (ready_moves s now n task sane e) ∙ ap (is_by now) (sym (ready_is s t n h ∙ ap (option_and_then (λ (x : Task). ready_at s n x x.phase)) e)) ∙ f.0
