-- The least moment, the least question and the first move, by the tables.
use Rattle.std.proofs.Common.{◌≡◌, ℕ, zero, suc, ◌+◌, ◌<◌, ◌≤◌, Bool, true, false, cond, List, [], ◌∷◌, ◌++◌, length, Option, Some, None, is_some, arith, refl, ap, sym, ◌∙◌}
use Rattle.std.specs.Prelude.{map, min, slice_get, option_and_then, option_map}
use Rattle.std.specs.Option.{option_map_or, option_or}
use Rattle.std.specs.List.{flat_map}
use Rattle.base_dues.specs.Pairs.{Due, at, rising, with_due, comes_first, pairs_from, is_by, IsFirstBy, IsQueue}
use Rattle.base_dues.specs.Least.{sooner}
use Rattle.base_dues.proofs.ListedLemmas.{rising_is}
use Rattle.flow_core_rules.specs.declared.tasks.Task.{Task}
use Rattle.flow_core_rules.specs.declared.issues.Issue.{Issue}
use Rattle.flow_core_rules.specs.declared.phases.Phase.{Phase}
use Rattle.flow_core_rules.specs.declared.phases.Phase.TheVariants as phase
use Rattle.flow_core_rules.specs.declared.moves.Move.{Move}
use Rattle.flow_core_rules.specs.State.{Shown}
use Rattle.flow_core_rules.specs.Moves.{move_at, first_move, ready_at, ready_from, ready_set, delay_of, delay_until, delays, deadline_of, has_deadline, deadlines, deadlines_from, least, due, is_question, first_question}
use Rattle.flow_core_plans.specs.TableFacts.{delay_in}

-- ---- the least moment of pairs

least_with : (ds : List Due) (d : Due) → option_map (λ e. e.0) (slice_get (with_due ds d) 0) ≡ Some (option_map_or (min d.0) (option_map (λ e. e.0) (slice_get ds 0)) d.0)
least_with [] d = refl
least_with (x ∷ xs) d = by (comes_first x d) refl
  where
    lesser : comes_first x d ≡ true → x.0 ≡ min d.0 x.0
    lesser e = grind arith

    greater : comes_first x d ≡ false → d.0 ≡ min d.0 x.0
    greater e = grind arith

    by : (b : Bool) → comes_first x d ≡ b → option_map (λ (e : Due). e.0) (slice_get (cond b (x ∷ with_due xs d) (d ∷ x ∷ xs)) 0) ≡ Some (min d.0 x.0)
    by true e = ap Some (lesser e)
    by false e = ap Some (greater e)

pub least_rising : (ds : List Due) → option_map (λ d. d.0) (slice_get (rising ds) 0) ≡ least (map (λ d. d.0) ds)
least_rising [] = refl
least_rising (d ∷ ds) = least_with (rising ds) d ∙ ap (λ (o : Option ℕ). Some (option_map_or (min d.0) o d.0)) (least_rising ds)

-- ---- what the tables are rising lists of

pub ready_pairs : (s : Shown) (n : ℕ) (tasks : List Task) → ready_from s n tasks ≡ pairs_from (λ t (task : Task). ready_at s t task task.phase) n tasks
ready_pairs s n [] = refl
ready_pairs s n (task ∷ tasks) = ap (λ (ds : List Due). option_map_or (λ moment. (moment, n) ∷ ds) (ready_at s n task task.phase) ds) (ready_pairs s (suc n) tasks)

pub deadline_pairs : (s : Shown) (n : ℕ) (issues : List Issue) → deadlines_from s n issues ≡ pairs_from (λ k (issue : Issue). cond (has_deadline issue) (Some (deadline_of s issue)) None) n issues
deadline_pairs s n [] = refl
deadline_pairs s n (issue ∷ issues) = one (has_deadline issue) ∙ ap (λ (ds : List Due). option_map_or (λ moment. (moment, n) ∷ ds) (cond (has_deadline issue) (Some (deadline_of s issue)) None) ds) (deadline_pairs s (suc n) issues)
  where
    one : (b : Bool) → cond b ((deadline_of s issue, n) ∷ deadlines_from s (suc n) issues) (deadlines_from s (suc n) issues) ≡ option_map_or (λ moment. (moment, n) ∷ deadlines_from s (suc n) issues) (cond b (Some (deadline_of s issue)) None) (deadlines_from s (suc n) issues)
    one true = refl
    one false = refl

delay_moments : (s : Shown) (n : ℕ) (tasks : List Task) → map (λ (d : Due). d.0) (pairs_from (λ t (task : Task). delay_in s task task.phase) n tasks) ≡ flat_map (λ (task : Task). delay_until s task task.phase) tasks
delay_moments s n [] = refl
delay_moments s n (task ∷ tasks) = by task.phase (delay_moments s (suc n) tasks)
  where
    by : (at : Phase) → map (λ (d : Due). d.0) (pairs_from (λ t (x : Task). delay_in s x x.phase) (suc n) tasks) ≡ flat_map (λ (x : Task). delay_until s x x.phase) tasks
        → map (λ (d : Due). d.0) (option_map_or (λ moment. (moment, n) ∷ pairs_from (λ t (x : Task). delay_in s x x.phase) (suc n) tasks) (delay_in s task at) (pairs_from (λ t (x : Task). delay_in s x x.phase) (suc n) tasks)) ≡ delay_until s task at ++ flat_map (λ (x : Task). delay_until s x x.phase) tasks
    by (phase.At since) rest = ap (λ (ns : List ℕ). (since + delay_of s task) ∷ ns) rest
    by (phase.Sending place) rest = rest
    by (phase.Awaiting place issue) rest = rest
    by (phase.Joining from) rest = rest
    by (phase.Ended well) rest = rest

moments_only : (ds : List Due) → map (λ (d : Due). d.0) ds ≡ flat_map (λ (d : Due). d.0 ∷ []) ds
moments_only [] = refl
moments_only (d ∷ ds) = ap (λ (ns : List ℕ). d.0 ∷ ns) (moments_only ds)

least_joined : (ms ns : List ℕ) → least (ms ++ ns) ≡ sooner (least ms) (least ns)
least_joined [] ns = refl
least_joined (m ∷ ms) ns = ap (λ (o : Option ℕ). Some (option_map_or (min m) o m)) (least_joined ms ns) ∙ by (least ms) (least ns)
  where
    three : (a b c : ℕ) → min a (min b c) ≡ min (min a b) c
    three a b c = omega arith

    by : (o p : Option ℕ) → Some (option_map_or (min m) (sooner o p) m) ≡ sooner (Some (option_map_or (min m) o m)) p
    by None None = refl
    by None (Some y) = refl
    by (Some x) None = refl
    by (Some x) (Some y) = ap Some (three m x y)

-- the least moment of two tables
pub due_is : (s : Shown) (ds es : List Due) → IsQueue ds → IsQueue es → ((k : ℕ) → at ds k ≡ option_and_then (λ (task : Task). delay_in s task task.phase) (slice_get s.lists.tasks k))
    → ((k : ℕ) → at es k ≡ option_and_then (λ (issue : Issue). cond (has_deadline issue) (Some (deadline_of s issue)) None) (slice_get s.lists.issues k))
    → sooner (option_map (λ d. d.0) (slice_get ds 0)) (option_map (λ d. d.0) (slice_get es 0)) ≡ due s
due_is s ds es q r d e =
    let delay : ds ≡ rising (pairs_from (λ t (task : Task). delay_in s task task.phase) 0 s.lists.tasks) = rising_is (λ t (task : Task). delay_in s task task.phase) s.lists.tasks ds q d in
    let deadline : es ≡ rising (deadlines s) =
    rising_is (λ t (issue : Issue). cond (has_deadline issue) (Some (deadline_of s issue)) None) s.lists.issues es r e ∙ ap rising (sym (deadline_pairs s 0 s.lists.issues)) in
    let left : option_map (λ (x : Due). x.0) (slice_get ds 0) ≡ least (delays s) =
    ap (λ (xs : List Due). option_map (λ (x : Due). x.0) (slice_get xs 0)) delay ∙ least_rising (pairs_from (λ t (task : Task). delay_in s task task.phase) 0 s.lists.tasks) ∙ ap least (delay_moments s 0 s.lists.tasks) in
    let right : option_map (λ (x : Due). x.0) (slice_get es 0) ≡ least (flat_map (λ (x : Due). x.0 ∷ []) (deadlines s)) =
    ap (λ (xs : List Due). option_map (λ (x : Due). x.0) (slice_get xs 0)) deadline ∙ least_rising (deadlines s) ∙ ap least (moments_only (deadlines s)) in
    ap (λ (o : Option ℕ). sooner o (option_map (λ (x : Due). x.0) (slice_get es 0))) left
    ∙ ap (sooner (least (delays s))) right
    ∙ sym (least_joined (delays s) (flat_map (λ (x : Due). x.0 ∷ []) (deadlines s)))

pub ready_rises : (s : Shown) (ds : List Due) → IsQueue ds → ((k : ℕ) → at ds k ≡ option_and_then (λ (task : Task). ready_at s k task task.phase) (slice_get s.lists.tasks k)) → ds ≡ rising (ready_set s)
ready_rises s ds q d = rising_is (λ t (task : Task). ready_at s t task task.phase) s.lists.tasks ds q d ∙ ap rising (sym (ready_pairs s 0 s.lists.tasks))

pub deadlines_rise : (s : Shown) (es : List Due) → IsQueue es → ((k : ℕ) → at es k ≡ option_and_then (λ (issue : Issue). cond (has_deadline issue) (Some (deadline_of s issue)) None) (slice_get s.lists.issues k)) → es ≡ rising (deadlines s)
deadlines_rise s es r e =
    rising_is (λ t (issue : Issue). cond (has_deadline issue) (Some (deadline_of s issue)) None) s.lists.issues es r e ∙ ap rising (sym (deadline_pairs s 0 s.lists.issues))

-- ---- the first of those that are due

clash : (b : Bool) → b ≡ true → b ≡ false → ⊥
clash true x y = cc
clash false x y = cc

pub first_question_is : (n : ℕ) (issues : List Issue) (o : Option ℕ) → IsFirstBy 0 (λ k. option_and_then (λ (issue : Issue). cond (is_question issue) (Some 0) None) (slice_get issues k)) o → first_question n issues ≡ option_map (λ k. n + k) o
first_question_is n [] None h = refl
first_question_is n [] (Some k) h = absurd (clash false h.0 refl)
first_question_is n (issue ∷ issues) o h = by (is_question issue) refl o h (λ p g. first_question_is (suc n) issues p g)
  where
    later : (o : Option ℕ) → first_question (suc n) issues ≡ option_map (λ k. suc n + k) o → first_question (suc n) issues ≡ option_map (λ k. n + k) (option_map suc o)
    later None e = e
    later (Some k) e = e ∙ ap Some (omega arith)

    by : (b : Bool) → is_question issue ≡ b → (o : Option ℕ) → IsFirstBy 0 (λ k. option_and_then (λ (x : Issue). cond (is_question x) (Some 0) None) (slice_get (issue ∷ issues) k)) o
        → ((p : Option ℕ) → IsFirstBy 0 (λ k. option_and_then (λ (x : Issue). cond (is_question x) (Some 0) None) (slice_get issues k)) p → first_question (suc n) issues ≡ option_map (λ k. suc n + k) p)
        → cond b (Some n) (first_question (suc n) issues) ≡ option_map (λ k. n + k) o
    by true e None g rest = absurd (clash (is_by 0 (cond (is_question issue) (Some 0) None)) (ap (λ b. is_by 0 (cond b (Some 0) None)) e) (g 0))
    by true e (Some zero) g rest = ap Some (omega arith)
    by true e (Some (suc k)) g rest = absurd (clash (is_by 0 (cond (is_question issue) (Some 0) None)) (ap (λ b. is_by 0 (cond b (Some 0) None)) e) (g.1 0 (omega arith)))
    by false e None g rest = later None (rest None (λ k. g (suc k)))
    by false e (Some zero) g rest = absurd (clash (is_by 0 (cond (is_question issue) (Some 0) None)) g.0 (ap (λ b. is_by 0 (cond b (Some 0) None)) e))
    by false e (Some (suc k)) g rest = later (Some k) (rest (Some k) (g.0, λ j less. g.1 (suc j) (omega arith)))

-- the first move is that of the first task that is ready
pub first_move_is : (s : Shown) (now n : ℕ) (tasks : List Task) (f : ℕ → Option ℕ) (o : Option ℕ) → ((k : ℕ) → k < length tasks → is_by now (f k) ≡ is_some (move_at s now (n + k))) → ((k : ℕ) → length tasks ≤ k → f k ≡ None)
    → IsFirstBy now f o → first_move s now n tasks ≡ option_and_then (λ k. move_at s now (n + k)) o
first_move_is s now n [] f None same past h = refl
first_move_is s now n [] f (Some k) same past h = absurd (clash (is_by now (f k)) h.0 (ap (is_by now) (past k (omega arith))))
first_move_is s now n (task ∷ tasks) f o same past h =
    by (move_at s now n) refl o h (λ p g. first_move_is s now (suc n) tasks (λ k. f (suc k)) p (λ k less. same (suc k) (omega arith) ∙ ap (λ j. is_some (move_at s now j)) (step k)) (λ k le. past (suc k) (omega arith)) g)
  where
    here : n ≡ n + 0
    here = omega arith

    first : is_by now (f 0) ≡ is_some (move_at s now n)
    first = same 0 (omega arith) ∙ ap (λ k. is_some (move_at s now k)) (sym here)

    step : (k : ℕ) → n + suc k ≡ suc n + k
    step k = omega arith

    by : (m : Option Move) → move_at s now n ≡ m → (o : Option ℕ) → IsFirstBy now f o
        → ((p : Option ℕ) → IsFirstBy now (λ k. f (suc k)) p → first_move s now (suc n) tasks ≡ option_and_then (λ k. move_at s now (suc n + k)) p)
        → option_or m (first_move s now (suc n) tasks) ≡ option_and_then (λ k. move_at s now (n + k)) o
    by (Some m) e None g rest = absurd (clash (is_by now (f 0)) (first ∙ ap is_some e) (g 0))
    by (Some m) e (Some zero) g rest = sym e ∙ ap (move_at s now) here
    by (Some m) e (Some (suc k)) g rest = absurd (clash (is_by now (f 0)) (first ∙ ap is_some e) (g.1 0 (omega arith)))
    by None e None g rest = rest None (λ k. g (suc k))
    by None e (Some zero) g rest = absurd (clash (is_by now (f 0)) g.0 (first ∙ ap is_some e))
    by None e (Some (suc k)) g rest = rest (Some k) (g.0, λ j less. g.1 (suc j) (omega arith)) ∙ ap (move_at s now) (sym (step k))
