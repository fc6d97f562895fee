-- The moments and numbers in the edits of a record: a task comes before a step at the record's moment, one that joins waits for the tasks that are made
-- next, and an issue that is closed waits no more.
use Rattle.std.proofs.Common.{◌≡◌, ℕ, suc, ◌+◌, ◌≤◌, ◌==◌, Bool, true, false, cond, List, [], ◌∷◌, ◌++◌, length, Option, Some, None, refl, sym, subst, append_assoc}
use Rattle.std.specs.Bool.{⊤}
use Rattle.std.specs.Prelude.{IfSome, map, slice_get, not, nat_le, is_some}
use Rattle.std.specs.List.{flat_map, list_any, list_all}
use Rattle.std.specs.Option.{option_map_or}
use Rattle.run_records.specs.Ranges.{last_moment}
use Rattle.cacao_vars.specs.Scopes.{home}
use Rattle.cacao_book.specs.declared.step_kinds.StepKind.{StepKind}
use Rattle.cacao_book.specs.declared.step_kinds.StepKind.TheVariants as does
use Rattle.flow_core_rules.specs.declared.tasks.Task.{Task}
use Rattle.flow_core_rules.specs.declared.phases.Phase.{Phase}
use Rattle.flow_core_rules.specs.declared.phases.Phase.TheVariants as phase
use Rattle.flow_core_rules.specs.Givens.{book_with}
use Rattle.flow_core_rules.specs.State.{Lists}
use Rattle.flow_core_rules.specs.Edits.{Edit}
use Rattle.flow_core_rules.specs.Edits.Edit.{opens, writes, makes, moves, issues, closes, upgrades}
use Rattle.flow_core_rules.specs.Conditions.{heads, is_true}
use Rattle.flow_core_rules.specs.Tasks.{Here, go, finish, child, next_key, exception_of, in_phase}
use Rattle.flow_core_rules.specs.Places.{places}
use Rattle.flow_core_rules.specs.Changes as changes
use Rattle.flow_core_rules.specs.Changes.{is_waiting, Waiting}
use Rattle.flow_core_rules.proofs.PlacedLemmas.{some_then, some_if, some_map, two_ways}

abbrev pub IsAtTime : ℕ → Phase → Type 0
IsAtTime n (phase.At since) = since ≤ last_moment
IsAtTime n (phase.Joining from) = from ≡ n
IsAtTime n (phase.Sending place) = ⊤
IsAtTime n (phase.Awaiting place issue) = ⊤
IsAtTime n (phase.Ended well) = ⊤

abbrev pub IsStart : Phase → Type 0
IsStart (phase.At since) = since ≤ last_moment
IsStart other = ⊥

-- of a run with so many tasks
abbrev pub Timely : ℕ → List Edit → Type 0
Timely n [] = ⊤
Timely n (opens parent vars ∷ es) = Timely n es
Timely n (writes scope name text ∷ es) = Timely n es
Timely n (makes task ∷ es) = IsStart task.phase × Timely (suc n) es
Timely n (moves t task ∷ es) = IsAtTime n task.phase × Timely n es
Timely n (issues issue ∷ es) = (issue.moment ≤ last_moment) × Timely n es
Timely n (closes i end ∷ es) = (is_waiting end ≡ false) × Timely n es
Timely n (upgrades ∷ es) = Timely n es

pub finish_timely : (n : ℕ) (h : Here) (well : Bool) → h.now ≤ last_moment → IsAtTime n (finish h well).phase
finish_timely n h well le = by (next_key h.step well) well (exception_of h.seen h.task)
  where
    by : (o : Option (List ℕ)) (b : Bool) (x : Option (List ℕ))
        → IsAtTime n (option_map_or (go h.seen.given h.now h.task) o (cond b (in_phase h.task (phase.Ended true)) (option_map_or (λ key. record (go h.seen.given h.now h.task key) { excepted = true }) x (in_phase h.task (phase.Ended false))))).phase
    by (Some key) b x = le
    by None true x = tt
    by None false None = tt
    by None false (Some key) = le

timely_done : (h : Here) (n : ℕ) (well : Bool) → h.now ≤ last_moment → Timely n (changes.done h well)
timely_done h n well le = (finish_timely n h well le, tt)

pub timely_written : (n : ℕ) (s : Lists) (scope : ℕ) (ps : List (List ℕ × Option (List ℕ))) (es : List Edit) → Timely n es → Timely n (flat_map (changes.written s scope) ps ++ es)
timely_written n s scope [] es h = h
timely_written n s scope (p ∷ ps) es h =
    subst (Timely n) (sym (append_assoc (changes.written s scope p) (flat_map (changes.written s scope) ps) es))
    (one p (flat_map (changes.written s scope) ps ++ es) (timely_written n s scope ps es h))
  where
    one : (p : List ℕ × Option (List ℕ)) (es : List Edit) → Timely n es → Timely n (changes.written s scope p ++ es)
    one (name, None) es h = h
    one (name, Some text) es h = by (home s.scopes scope name)
      where
        by : (o : Option ℕ) → Timely n (option_map_or (λ at. writes at name text ∷ []) o [] ++ es)
        by None = h
        by (Some at) = h

timely_bound : (n scope : ℕ) (ps : List (List ℕ × Option (List ℕ))) (es : List Edit) → Timely n es → Timely n (flat_map (changes.binding scope) ps ++ es)
timely_bound n scope [] es h = h
timely_bound n scope (p ∷ ps) es h =
    subst (Timely n) (sym (append_assoc (changes.binding scope p) (flat_map (changes.binding scope) ps) es))
    (one p (flat_map (changes.binding scope) ps ++ es) (timely_bound n scope ps es h))
  where
    one : (p : List ℕ × Option (List ℕ)) (es : List Edit) → Timely n es → Timely n (changes.binding scope p ++ es)
    one (name, None) es h = h
    one (name, Some text) es h = h

timely_made : (h : Here) (book scope k : ℕ) (keys : List (List ℕ)) → h.now ≤ last_moment → Timely k (map (λ key. makes (child h book scope key)) keys)
timely_made h book scope k [] le = tt
timely_made h book scope k (key ∷ keys) le = (le, timely_made h book scope (suc k) keys le)

timely_branched : (h : Here) (scope : ℕ) (keys : List (List ℕ)) → h.now ≤ last_moment → Timely (length h.seen.lists.tasks) (changes.branched h scope keys)
timely_branched h scope [] le = timely_done h (length h.seen.lists.tasks) true le
timely_branched h scope (key ∷ keys) le = (refl, timely_made h h.task.book scope (length h.seen.lists.tasks) (key ∷ keys) le)

timely_controlled : (h : Here) (kind : StepKind) → h.now ≤ last_moment → Timely (length h.seen.lists.tasks) (changes.controlled h kind)
timely_controlled h kind le = timely_branched (changes.inside h) (length h.seen.lists.scopes) (heads (changes.inside h).seen.lists (length h.seen.lists.scopes) kind) le

timely_entered : (h : Here) (kind : StepKind) → h.now ≤ last_moment → IfSome (changes.entered h kind) (Timely (length h.seen.lists.tasks))
timely_entered h does.Start le = timely_done h (length h.seen.lists.tasks) true le
timely_entered h does.End le = (tt, tt)
timely_entered h (does.Action a b c d e) le = (tt, tt)
timely_entered h (does.PlaybookAction playbook version in_args out_args) le =
    let n : ℕ = length h.seen.lists.scopes in
    some_map (book_with h.seen.given playbook) (λ theirs. changes.opening h ∷ changes.called (changes.inside h) n in_args theirs) (Timely (length h.seen.lists.tasks)) (λ theirs.
    timely_bound (length h.seen.lists.tasks) (suc n) (changes.valued (changes.inside h).seen.lists n in_args)
    (moves h.number (changes.joining (changes.inside h)) ∷ makes (child (changes.inside h) theirs.0 (suc n) (theirs.1).start) ∷ [])
    (refl, (le, tt)))
timely_entered h (does.Parallel a) le = timely_controlled h (does.Parallel a) le
timely_entered h (does.If a b c) le = timely_controlled h (does.If a b c) le
timely_entered h (does.While a b) le = timely_controlled h (does.While a b) le
timely_entered h (does.Switch a b) le = timely_controlled h (does.Switch a b) le

timely_choice : (n : ℕ) (b : Bool) (xs ys : List Edit) → Timely n xs → Timely n ys → Timely n (cond b xs ys)
timely_choice n true xs ys a b = a
timely_choice n false xs ys a b = b

timely_rejoined : (h : Here) (n from scope : ℕ) (kind : StepKind) → h.now ≤ last_moment → Timely n (changes.rejoined h from scope kind)
timely_rejoined h n from scope (does.While condition on_true) le =
    timely_choice n (is_true h.seen.lists scope condition) (makes (child h h.task.book scope on_true) ∷ []) (changes.done h true) (le, tt) (timely_done h n true le)
timely_rejoined h n from scope (does.PlaybookAction a b c d) le =
    timely_written n h.seen.lists scope (option_map_or (λ (root : Task). changes.valued h.seen.lists root.scope d) (slice_get h.seen.lists.tasks from) []) (changes.done h true) (timely_done h n true le)
timely_rejoined h n from scope does.Start le = timely_done h n true le
timely_rejoined h n from scope does.End le = timely_done h n true le
timely_rejoined h n from scope (does.Action a b c d e) le = timely_done h n true le
timely_rejoined h n from scope (does.Parallel a) le = timely_done h n true le
timely_rejoined h n from scope (does.If a b c) le = timely_done h n true le
timely_rejoined h n from scope (does.Switch a b) le = timely_done h n true le

pub timely_walked : (h : Here) (at : Phase) → h.now ≤ last_moment → IfSome (changes.walked h at) (Timely (length h.seen.lists.tasks))
timely_walked h (phase.At since) le =
    some_if (nat_le (since + h.step.delay) h.now) (changes.entered h h.step.kind) (Timely (length h.seen.lists.tasks)) (timely_entered h h.step.kind le)
timely_walked h (phase.Joining from) le =
    some_then h.task.step_scope (λ (scope : ℕ). changes.joined h from scope (changes.children h.seen.lists h.number from)) (Timely (length h.seen.lists.tasks)) (λ scope. joined scope (changes.children h.seen.lists h.number from))
  where
    joined : (scope : ℕ) (branches : List Task) → IfSome (changes.joined h from scope branches) (Timely (length h.seen.lists.tasks))
    joined scope branches =
        let n : ℕ = length h.seen.lists.tasks in
        let stops : Option (List Edit) = Some (changes.done h false) in
        let goes : Option (List Edit) = Some (changes.rejoined h from scope h.step.kind) in
        let failed : Bool = list_any (λ task. changes.has_failed task.phase) branches in
        two_ways (not (list_all (λ task. changes.has_ended task.phase) branches)) None (cond failed stops goes) (Timely n) (tt {0})
        (two_ways failed stops goes (Timely n) (timely_done h n false le) (timely_rejoined h n from scope h.step.kind le))
timely_walked h (phase.Sending place) le = tt
timely_walked h (phase.Awaiting place issue) le = tt
timely_walked h (phase.Ended well) le = tt

-- the task behind the end of an issue
pub after_timely : (n : ℕ) (w : Waiting) (status : ℕ) → w.here.now ≤ last_moment → IsAtTime n (changes.after_answer w status).phase
after_timely n w status le = by (not (status == 200)) (is_some (slice_get (places w.here.step.kind) (suc w.place)))
  where
    by : (a b : Bool) → IsAtTime n (cond a (finish w.here false) (cond b (in_phase w.here.task (phase.Sending (suc w.place))) (finish w.here true))).phase
    by true b = finish_timely n w.here false le
    by false true = tt
    by false false = finish_timely n w.here true le
