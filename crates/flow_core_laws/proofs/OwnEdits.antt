-- The edits of each record are its own task's: they move no other task, make children of it, open scopes inside its own, and write where its step may.
use Rattle.std.proofs.Common.{◌≡◌, ◌⊎◌, ℕ, zero, suc, ◌+◌, ◌<◌, ◌≤◌, ◌==◌, Bool, true, false, cond, List, [], ◌∷◌, ◌++◌, length, Option, Some, None, is_some, arith, refl, ap, sym, subst, append_assoc, inl, inr}
use Rattle.std.specs.Bool.{⊤}
use Rattle.std.specs.Prelude.{IfSome, IsSomeAnd, option_and_then, option_map, map, slice_get, not, nat_le}
use Rattle.std.specs.List.{flat_map, list_any, list_all}
use Rattle.std.specs.Option.{option_map_or}
use Rattle.cacao_vars.specs.Scopes.{home}
use Rattle.cacao_book.specs.declared.steps.Step.{Step}
use Rattle.cacao_book.specs.declared.step_kinds.StepKind.{StepKind}
use Rattle.cacao_book.specs.declared.step_kinds.StepKind.TheVariants as does
use Rattle.flow_core_rules.specs.declared.tasks.Task.{Task}
use Rattle.flow_core_rules.specs.declared.issues.Issue.{Issue}
use Rattle.flow_core_rules.specs.declared.issues.IssuePhase.{IssuePhase}
use Rattle.flow_core_rules.specs.declared.issues.IssuePhase.TheVariants as issue_phase
use Rattle.flow_core_rules.specs.declared.phases.Phase.{Phase}
use Rattle.flow_core_rules.specs.declared.phases.Phase.TheVariants as phase
use Rattle.flow_core_rules.specs.Givens.{book_with}
use Rattle.flow_core_rules.specs.State.{Shown}
use Rattle.flow_core_rules.specs.Edits.{Edit}
use Rattle.flow_core_rules.specs.Edits.Edit.{opens, writes, makes, moves, issues, closes, upgrades}
use Rattle.flow_core_rules.specs.Conditions.{heads, is_true}
use Rattle.flow_core_rules.specs.Places.{Place, places}
use Rattle.flow_core_rules.specs.Tasks.{Here, here_at, go, finish, child, next_key, exception_of, in_phase}
use Rattle.flow_core_rules.specs.Changes as changes
use Rattle.flow_core_rules.specs.Changes.{Waiting, Issuing, has_ended, awaited_place}
use Rattle.flow_core_rules.proofs.PlacedLemmas.{some_then, some_if, some_map, two_ways}
use Rattle.flow_core_rules.proofs.HereLemmas.{here_of, some_at, some_option, IsWaitingAt}
use Rattle.flow_core_laws.specs.OwnTask.{owner_of, KeepsPlace, IsNewChild}
use Rattle.flow_core_laws.proofs.Somes.{none_some, some_as}

-- the first scope is opened inside the task's, the second inside none, and no further one
abbrev pub IsAround : Task → ℕ → Option ℕ → Type 0
IsAround was zero parent = parent ≡ Some was.scope
IsAround was (suc zero) parent = parent ≡ None
IsAround was (suc (suc k)) parent = ⊥

-- one of so many new scopes, or the home of the name, seen from the scope of the task's step
abbrev pub IsPlaced : Shown → Task → ℕ → ℕ → List ℕ → Type 0
IsPlaced s was k scope name =
    ((length s.lists.scopes ≤ scope) × (scope < length s.lists.scopes + k)) ⊎ IsSomeAnd was.step_scope (λ from. home s.lists.scopes from name ≡ Some scope)

-- Edits of a task, where so many scopes are opened by then; whether it walks.
abbrev pub AreOwn : Bool → Shown → ℕ → ℕ → Task → ℕ → List Edit → Type 0
AreOwn walks s now t was k [] = ⊤
AreOwn walks s now t was k (opens parent vars ∷ es) = (walks ≡ true) × IsAround was k parent × AreOwn walks s now t was (suc k) es
AreOwn walks s now t was k (writes scope name text ∷ es) = IsPlaced s was k scope name × AreOwn walks s now t was k es
AreOwn walks s now t was k (makes task ∷ es) = (walks ≡ true) × IsNewChild t now task × AreOwn walks s now t was k es
AreOwn walks s now t was k (moves n task ∷ es) = (n ≡ t) × KeepsPlace was task × AreOwn walks s now t was k es
AreOwn walks s now t was k (issues issue ∷ es) = AreOwn walks s now t was k es
AreOwn walks s now t was k (closes i end ∷ es) = AreOwn walks s now t was k es
AreOwn walks s now t was k (upgrades ∷ es) = ⊥

-- ---- a task that goes on keeps its place

own_finish : (was : Task) (h : Here) (well : Bool) → KeepsPlace was h.task → KeepsPlace was (finish h well)
own_finish was h well k = by (next_key h.step well) well (exception_of h.seen h.task)
  where
    by : (o : Option (List ℕ)) (b : Bool) (x : Option (List ℕ))
        → KeepsPlace was (option_map_or (go h.seen.given h.now h.task) o (cond b (in_phase h.task (phase.Ended true)) (option_map_or (λ key. record (go h.seen.given h.now h.task key) { excepted = true }) x (in_phase h.task (phase.Ended false)))))
    by (Some key) b x = k
    by None true x = k
    by None false None = k
    by None false (Some key) = k

own_done : (walks : Bool) (s : Shown) (was : Task) (k : ℕ) (h : Here) (well : Bool) → KeepsPlace was h.task → AreOwn walks s h.now h.number was k (changes.done h well)
own_done walks s was k h well place = (refl, own_finish was h well place, tt)

-- ---- writes

own_written : (walks : Bool) (s : Shown) (now t : ℕ) (was : Task) (k scope : ℕ) (ps : List (List ℕ × Option (List ℕ))) (es : List Edit) → was.step_scope ≡ Some scope
    → AreOwn walks s now t was k es → AreOwn walks s now t was k (flat_map (changes.written s.lists scope) ps ++ es)
own_written walks s now t was k scope [] es at h = h
own_written walks s now t was k scope (p ∷ ps) es at h =
    subst (AreOwn walks s now t was k) (sym (append_assoc (changes.written s.lists scope p) (flat_map (changes.written s.lists scope) ps) es))
    (one p (flat_map (changes.written s.lists scope) ps ++ es) (own_written walks s now t was k scope ps es at h))
  where
    one : (p : List ℕ × Option (List ℕ)) (es : List Edit) → AreOwn walks s now t was k es → AreOwn walks s now t was k (changes.written s.lists scope p ++ es)
    one (name, None) es h = h
    one (name, Some text) es h = by (home s.lists.scopes scope name) refl
      where
        by : (o : Option ℕ) → home s.lists.scopes scope name ≡ o → AreOwn walks s now t was k (option_map_or (λ at. writes at name text ∷ []) o [] ++ es)
        by None e = h
        by (Some there) e = (inr (subst (λ o. IsSomeAnd o (λ from. home s.lists.scopes from name ≡ Some there)) (sym at) e), h)

own_bound : (s : Shown) (now t : ℕ) (was : Task) (k scope : ℕ) (ps : List (List ℕ × Option (List ℕ))) (es : List Edit) → length s.lists.scopes ≤ scope → scope < length s.lists.scopes + k
    → AreOwn true s now t was k es → AreOwn true s now t was k (flat_map (changes.binding scope) ps ++ es)
own_bound s now t was k scope [] es least most h = h
own_bound s now t was k scope (p ∷ ps) es least most h =
    subst (AreOwn true s now t was k) (sym (append_assoc (changes.binding scope p) (flat_map (changes.binding scope) ps) es))
    (one p (flat_map (changes.binding scope) ps ++ es) (own_bound s now t was k scope ps es least most h))
  where
    one : (p : List ℕ × Option (List ℕ)) (es : List Edit) → AreOwn true s now t was k es → AreOwn true s now t was k (changes.binding scope p ++ es)
    one (name, None) es h = h
    one (name, Some text) es h = (inl (least, most), h)

-- ---- Walk of a task before its step

new_child : (h : Here) (book scope : ℕ) (key : List ℕ) → IsNewChild h.number h.now (child h book scope key)
new_child h book scope key = record { parent_is = refl; phase_is = refl; no_step_scope = refl; not_excepted = refl }

own_made : (s : Shown) (was : Task) (k book scope : ℕ) (h : Here) (keys : List (List ℕ)) → AreOwn true s h.now h.number was k (map (λ key. makes (child h book scope key)) keys)
own_made s was k book scope h [] = tt
own_made s was k book scope h (key ∷ keys) = (refl, new_child h book scope key, own_made s was k book scope h keys)

own_branched : (s : Shown) (was : Task) (k scope : ℕ) (h : Here) (keys : List (List ℕ)) → KeepsPlace was h.task → AreOwn true s h.now h.number was k (changes.branched h scope keys)
own_branched s was k scope h [] place = own_done true s was k h true place
own_branched s was k scope h (key ∷ keys) place = (refl, place, own_made s was k h.task.book scope h (key ∷ keys))

-- the edits of a rule that is used where a task stands
abbrev AreOf : Bool → Here → List Edit → Type 0
AreOf walks h es = AreOwn walks h.seen h.now h.number h.task 0 es

own_controlled : (h : Here) (kind : StepKind) → AreOf true h (changes.controlled h kind)
own_controlled h kind =
    let n : ℕ = length h.seen.lists.scopes in
    (refl, refl, own_branched h.seen h.task 1 n (changes.inside h) (heads (changes.inside h).seen.lists n kind) (refl, refl, refl))

own_entered : (h : Here) (kind : StepKind) → IfSome (changes.entered h kind) (AreOf true h)
own_entered h does.Start = own_done true h.seen h.task 0 h true (refl, refl, refl)
own_entered h does.End = (refl, (refl, refl, refl), tt)
own_entered h (does.Action a b c d e) = (refl, refl, (refl, (refl, refl, refl), tt))
own_entered h (does.PlaybookAction playbook version in_args out_args) =
    let n : ℕ = length h.seen.lists.scopes in
    some_map (book_with h.seen.given playbook) (λ theirs. changes.opening h ∷ changes.called (changes.inside h) n in_args theirs) (AreOf true h) (λ theirs. (
      refl,
      refl,
      (
        refl,
        refl,
        own_bound h.seen h.now h.number h.task 2 (suc n) (changes.valued (changes.inside h).seen.lists n in_args)
            (moves h.number (changes.joining (changes.inside h)) ∷ makes (child (changes.inside h) theirs.0 (suc n) (theirs.1).start) ∷ []) (omega arith) (omega arith)
            (refl, (refl, refl, refl), (refl, new_child (changes.inside h) theirs.0 (suc n) (theirs.1).start, tt)),
      ),
    ))
own_entered h (does.Parallel a) = own_controlled h (does.Parallel a)
own_entered h (does.If a b c) = own_controlled h (does.If a b c)
own_entered h (does.While a b) = own_controlled h (does.While a b)
own_entered h (does.Switch a b) = own_controlled h (does.Switch a b)

-- ---- Walk of a task that joins

own_choice : (h : Here) (b : Bool) (xs ys : List Edit) → AreOf true h xs → AreOf true h ys → AreOf true h (cond b xs ys)
own_choice h true xs ys a b = a
own_choice h false xs ys a b = b

own_rejoined : (h : Here) (from scope : ℕ) (kind : StepKind) → h.task.step_scope ≡ Some scope → AreOf true h (changes.rejoined h from scope kind)
own_rejoined h from scope (does.While condition on_true) at =
    own_choice h (is_true h.seen.lists scope condition) (makes (child h h.task.book scope on_true) ∷ []) (changes.done h true)
    (refl, new_child h h.task.book scope on_true, tt) (own_done true h.seen h.task 0 h true (refl, refl, refl))
own_rejoined h from scope (does.PlaybookAction a b c d) at =
    own_written true h.seen h.now h.number h.task 0 scope (option_map_or (λ (root : Task). changes.valued h.seen.lists root.scope d) (slice_get h.seen.lists.tasks from) []) (changes.done h true) at
    (own_done true h.seen h.task 0 h true (refl, refl, refl))
own_rejoined h from scope does.Start at = own_done true h.seen h.task 0 h true (refl, refl, refl)
own_rejoined h from scope does.End at = own_done true h.seen h.task 0 h true (refl, refl, refl)
own_rejoined h from scope (does.Action a b c d e) at = own_done true h.seen h.task 0 h true (refl, refl, refl)
own_rejoined h from scope (does.Parallel a) at = own_done true h.seen h.task 0 h true (refl, refl, refl)
own_rejoined h from scope (does.If a b c) at = own_done true h.seen h.task 0 h true (refl, refl, refl)
own_rejoined h from scope (does.Switch a b) at = own_done true h.seen h.task 0 h true (refl, refl, refl)

-- ---- the edits of a record, and the task whose they are

pub record OwnEdits (s : Shown) (walks : Bool) (now : ℕ) (own : Option ℕ) (es : List Edit) : Type 0 where
  pub number : ℕ
  pub number_is : own ≡ Some number
  pub was : Task
  pub was_is : slice_get s.lists.tasks number ≡ Some was
  pub goes_on : has_ended was.phase ≡ false
  pub are : AreOwn walks s now number was 0 es

own_walked : (s : Shown) (now t : ℕ) (task : Task) (step : Step) (at : Phase) → slice_get s.lists.tasks t ≡ Some task → task.phase ≡ at
    → IfSome (changes.walked (here_of s now t task step) at) (OwnEdits s true now (Some t))
own_walked s now t task step (phase.At since) is at =
    let h : Here = here_of s now t task step in
    some_as (AreOf true h) (OwnEdits s true now (Some t)) (changes.walked h (phase.At since)) (λ es own. record { number = t; number_is = refl; was = task; was_is = is; goes_on = ap has_ended at; are = own })
    (some_if (nat_le (since + step.delay) now) (changes.entered h step.kind) (AreOf true h) (own_entered h step.kind))
own_walked s now t task step (phase.Joining from) is at =
    let h : Here = here_of s now t task step in
    some_as (AreOf true h) (OwnEdits s true now (Some t)) (changes.walked h (phase.Joining from)) (λ es own. record { number = t; number_is = refl; was = task; was_is = is; goes_on = ap has_ended at; are = own })
    (some_option task.step_scope (λ (scope : ℕ). changes.joined h from scope (changes.children s.lists t from)) (AreOf true h) (λ scope e. joined scope e (changes.children s.lists t from)))
  where
    joined : (scope : ℕ) → task.step_scope ≡ Some scope → (branches : List Task) → IfSome (changes.joined (here_of s now t task step) from scope branches) (AreOf true (here_of s now t task step))
    joined scope e branches =
        let h : Here = here_of s now t task step in
        let stops : Option (List Edit) = Some (changes.done h false) in
        let goes : Option (List Edit) = Some (changes.rejoined h from scope step.kind) in
        let failed : Bool = list_any (λ one. changes.has_failed one.phase) branches in
        two_ways (not (list_all (λ one. has_ended one.phase) branches)) None (cond failed stops goes) (AreOf true h) (tt {0})
        (two_ways failed stops goes (AreOf true h) (own_done true s task 0 h false (refl, refl, refl)) (own_rejoined h from scope step.kind e))
own_walked s now t task step (phase.Sending place) is at = tt
own_walked s now t task step (phase.Awaiting place issue) is at = tt
own_walked s now t task step (phase.Ended well) is at = tt

pub own_walk : (s : Shown) (now t : ℕ) → IfSome (changes.walk s now t) (OwnEdits s true now (Some t))
own_walk s now t =
    some_at s now t (λ (h : Here). changes.walked h h.task.phase) (OwnEdits s true now (Some t)) (λ task step is step_is. own_walked s now t task step task.phase is refl)

-- ---- Send and Ask

abbrev issued_by : (Here → Place → Option Issue) → Here → Option Place → Option Issuing
issued_by issue_at h o = option_and_then (λ (place : Place). option_and_then (λ (issue : Issue). Some (changes.issuing h issue)) (issue_at h place)) o

pub own_issue : (s : Shown) (now t : ℕ) (issue_at : Here → Place → Option Issue)
    → IfSome (option_and_then (λ (h : Here). issued_by issue_at h (changes.place_at h h.task.phase)) (here_at s now t)) (λ made. OwnEdits s false now (Some t) made.1)
own_issue s now t issue_at =
    some_at s now t (λ (h : Here). issued_by issue_at h (changes.place_at h h.task.phase)) (λ made. OwnEdits s false now (Some t) made.1) (λ task step is step_is. stands task step is task.phase refl)
  where
    made : (task : Task) (step : Step) → slice_get s.lists.tasks t ≡ Some task → has_ended task.phase ≡ false → (o : Option Place)
        → IfSome (issued_by issue_at (here_of s now t task step) o) (λ made. OwnEdits s false now (Some t) made.1)
    made task step is going o =
        let h : Here = here_of s now t task step in
        some_then o (λ (place : Place). option_and_then (λ (issue : Issue). Some (changes.issuing h issue)) (issue_at h place)) (λ made. OwnEdits s false now (Some t) made.1) (λ place.
        some_then (issue_at h place) (λ (issue : Issue). Some (changes.issuing h issue)) (λ made. OwnEdits s false now (Some t) made.1) (λ issue.
        record { number = t; number_is = refl; was = task; was_is = is; goes_on = going; are = (refl, (refl, refl, refl), tt) }))

    stands : (task : Task) (step : Step) → slice_get s.lists.tasks t ≡ Some task → (at : Phase) → task.phase ≡ at
        → IfSome (issued_by issue_at (here_of s now t task step) (changes.place_at (here_of s now t task step) at)) (λ made. OwnEdits s false now (Some t) made.1)
    stands task step is (phase.Sending n) at = made task step is (ap has_ended at) (slice_get (places step.kind) n)
    stands task step is (phase.At since) at = tt
    stands task step is (phase.Awaiting place issue) at = tt
    stands task step is (phase.Joining from) at = tt
    stands task step is (phase.Ended well) at = tt

-- ---- Reply, Told and Expire

-- a task that awaits an issue goes on
awaiting_goes : (n : ℕ) (at : Phase) (place : ℕ) → awaited_place n at ≡ Some place → has_ended at ≡ false
awaiting_goes n (phase.Ended well) place e = absurd (none_some place e)
awaiting_goes n (phase.At since) place e = refl
awaiting_goes n (phase.Sending p) place e = refl
awaiting_goes n (phase.Awaiting p issue) place e = refl
awaiting_goes n (phase.Joining from) place e = refl

own_after : (was : Task) (w : Waiting) (status : ℕ) → KeepsPlace was w.here.task → KeepsPlace was (changes.after_answer w status)
own_after was w status k = by (not (status == 200)) (is_some (slice_get (places w.here.step.kind) (suc w.place)))
  where
    by : (a b : Bool) → KeepsPlace was (cond a (finish w.here false) (cond b (in_phase w.here.task (phase.Sending (suc w.place))) (finish w.here true)))
    by true b = own_finish was w.here false k
    by false true = k
    by false false = own_finish was w.here true k

-- the edits of an issue's task, told of any place where it may stand
owned : (s : Shown) (now n : ℕ) (w : Waiting) (edits : Here → List Edit) → IsWaitingAt s now n w
    → ((task : Task) (step : Step) → task.step_scope ≡ Some w.scope → AreOf false (here_of s now (w.issue).task task step) (edits (here_of s now (w.issue).task task step)))
    → OwnEdits s false now (owner_of s n) (edits w.here)
owned s now n w edits known own = record {
  number = (w.issue).task;
  number_is = ap (option_map (λ (issue : Issue). issue.task)) known.issue_is;
  was = known.task;
  was_is = known.task_is;
  goes_on = awaiting_goes n (known.task).phase w.place known.place_is;
  are = subst (λ (h : Here). AreOwn false s now (w.issue).task known.task 0 (edits h)) (sym known.here_is) (own known.task known.step known.scope_is);
}

abbrev at_place : Waiting → Here → Waiting
at_place w h = record { issue = w.issue; here = h; place = w.place; scope = w.scope }

pub own_answered : (s : Shown) (now n : ℕ) (end : IssuePhase) (status rule : ℕ) (text : List ℕ) (w : Waiting) → IsWaitingAt s now n w
    → OwnEdits s false now (owner_of s n) (changes.answered n end status rule text w)
own_answered s now n end status rule text w known =
    owned s now n w (λ (h : Here). changes.answered n end status rule text (at_place w h)) known (λ task step scope.
    let h : Here = here_of s now (w.issue).task task step in
    own_written false s now (w.issue).task task 0 w.scope (changes.paired (changes.out_args_of step.kind) (changes.results status rule text)) (moves (w.issue).task (changes.after_answer (at_place w h) status) ∷ []) scope
    (refl, own_after task (at_place w h) status (refl, refl, refl), tt))

pub own_expired : (s : Shown) (now n : ℕ) (w : Waiting) → IsWaitingAt s now n w
    → OwnEdits s false now (owner_of s n) (closes n issue_phase.Expired ∷ changes.done w.here false)
own_expired s now n w known =
    owned s now n w (λ (h : Here). closes n issue_phase.Expired ∷ changes.done h false) known (λ task step scope.
    own_done false s task 0 (here_of s now (w.issue).task task step) false (refl, refl, refl))
