-- What the counters of a task that joins tell of those that it waits for.
use Rattle.std.proofs.Common.{◌≡◌, ℕ, ◌+◌, ◌<◌, ◌==◌, Bool, true, false, ◌&&◌, ◌||◌, cond, List, [], ◌∷◌, length, drop, Some, refl, sym, ◌∙◌, ap, subst, arith, zero-add}
use Rattle.std.specs.Prelude.{not, filter, count_by, slice_get}
use Rattle.std.specs.List.{list_all, list_any}
use Rattle.std.proofs.lemmas.Bool.Decides.{nat_tests}
use Rattle.std.proofs.lemmas.List.Sums.{sum_by-cons}
use Rattle.std.proofs.lemmas.Option.{slice_get_within}
use Rattle.flow_core_rules.specs.declared.tasks.Task.{Task}
use Rattle.flow_core_rules.specs.declared.phases.Phase.{Phase}
use Rattle.flow_core_rules.specs.declared.phases.Phase.TheVariants as phase
use Rattle.flow_core_rules.specs.Changes.{children, has_ended, has_failed, is_child_of}
use Rattle.flow_core_values.specs.declared.run.Run.{Run}
use Rattle.flow_core_values.specs.declared.run.Stand.{Stand}
use Rattle.flow_core_values.specs.TableTypes.{Wait}
use Rattle.flow_core_values.specs.RunFacts.{IsWell}
use Rattle.flow_core_values.specs.Stands.{Stands}
use Rattle.flow_core_values.specs.TableFacts.{lists_of, goes_on, failed_child, Counts}

ended_more : (x : Task) (ys : List Task) (n : ℕ) (b e : Bool) → has_ended x.phase ≡ e → (n == 0) ≡ list_all (λ (task : Task). has_ended task.phase) ys
    → ((cond (b && not e) 1 0 + n) == 0) ≡ list_all (λ (task : Task). has_ended task.phase) (cond b (x ∷ ys) ys)
ended_more x ys n false e is h = ap (λ (k : ℕ). k == 0) (zero-add n) ∙ h
ended_more x ys n true true is h = ap (λ (k : ℕ). k == 0) (zero-add n) ∙ h ∙ sym (ap (λ (b : Bool). b && list_all (λ (task : Task). has_ended task.phase) ys) is)
ended_more x ys n true false is h = later n ∙ sym (ap (λ (b : Bool). b && list_all (λ (task : Task). has_ended task.phase) ys) is)
  where
    later : (n : ℕ) → ((1 + n) == 0) ≡ false
    later n = grind (arith, nat_tests)

pub all_ended : (t : ℕ) (xs : List Task) → (count_by (goes_on t) xs == 0) ≡ list_all (λ (task : Task). has_ended task.phase) (filter (is_child_of t) xs)
all_ended t [] = refl
all_ended t (x ∷ xs) =
    ap (λ (k : ℕ). k == 0) (sum_by-cons (λ (y : Task). cond (goes_on t y) 1 0) x xs)
    ∙ ended_more x (filter (is_child_of t) xs) (count_by (goes_on t) xs) (is_child_of t x) (has_ended x.phase) refl (all_ended t xs)

failed_more : (x : Task) (ys : List Task) (r b f : Bool) → has_failed x.phase ≡ f → r ≡ list_any (λ (task : Task). has_failed task.phase) ys
    → ((b && f) || r) ≡ list_any (λ (task : Task). has_failed task.phase) (cond b (x ∷ ys) ys)
failed_more x ys r false f is h = h
failed_more x ys r true f is h = ap (λ (b : Bool). f || b) h ∙ sym (ap (λ (b : Bool). b || list_any (λ (task : Task). has_failed task.phase) ys) is)

pub any_failed : (t : ℕ) (xs : List Task) → list_any (failed_child t) xs ≡ list_any (λ (task : Task). has_failed task.phase) (filter (is_child_of t) xs)
any_failed t [] = refl
any_failed t (x ∷ xs) = failed_more x (filter (is_child_of t) xs) (list_any (failed_child t) xs) (is_child_of t x) (has_failed x.phase) refl (any_failed t xs)

-- ---- the counters of a run

pub wait_there : (r : Run) (stand : Stand) → IsWell r → Stands r stand → stand.number < length r.tables.waits.items
wait_there r stand well st =
    let lt : stand.number < length r.tables.tasks.items = slice_get_within r.tables.tasks.items stand.number stand.task st.task_is in
    omega (arith, well.tables.waits_len)

counts : (r : Run) (stand : Stand) (from : ℕ) (wait : Wait) → IsWell r → Stands r stand → stand.task.phase ≡ phase.Joining from
    → slice_get r.tables.waits.items stand.number ≡ Some wait → Counts (lists_of r.tables) stand.number (phase.Joining from) wait
counts r stand from wait well st joins is =
    subst (λ (p : Phase). Counts (lists_of r.tables) stand.number p wait) joins (well.tables.waits stand.number stand.task wait st.task_is is)

pub open_tells : (r : Run) (stand : Stand) (from : ℕ) (wait : Wait) → IsWell r → Stands r stand → stand.task.phase ≡ phase.Joining from
    → slice_get r.tables.waits.items stand.number ≡ Some wait
    → (wait.open == 0) ≡ list_all (λ (task : Task). has_ended task.phase) (children (lists_of r.tables) stand.number from)
open_tells r stand from wait well st joins is =
    ap (λ (k : ℕ). k == 0) (counts r stand from wait well st joins is).0 ∙ all_ended stand.number (drop from r.tables.tasks.items)

pub failed_tells : (r : Run) (stand : Stand) (from : ℕ) (wait : Wait) → IsWell r → Stands r stand → stand.task.phase ≡ phase.Joining from
    → slice_get r.tables.waits.items stand.number ≡ Some wait
    → wait.failed ≡ list_any (λ (task : Task). has_failed task.phase) (children (lists_of r.tables) stand.number from)
failed_tells r stand from wait well st joins is =
    (counts r stand from wait well st joins is).1 ∙ any_failed stand.number (drop from r.tables.tasks.items)
