-- An issue waits exactly if its task awaits it.
use Rattle.std.proofs.Common.{◌≡◌, ◌⊎◌, ℕ, zero, suc, ◌+◌, ◌<◌, ◌==◌, ◌&&◌, Bool, true, false, cond, List, [], ◌∷◌, ◌++◌, length, Option, Some, None, arith, refl, ap, sym, subst, ◌∙◌, append_assoc, length-append, inl, inr}
use Rattle.std.specs.Prelude.{IfSome, map, slice_get, not, nat_le}
use Rattle.std.specs.List.{flat_map, list_any, list_all, slice_set}
use Rattle.std.specs.Option.{option_map_or}
use Rattle.cacao_vars.specs.Scopes.{home}
use Rattle.cacao_book.specs.declared.step_kinds.StepKind.{StepKind}
use Rattle.cacao_book.specs.declared.step_kinds.StepKind.TheVariants as does
use Rattle.flow_core_rules.specs.declared.tasks.Task.{Task}
use Rattle.flow_core_rules.specs.declared.issues.Issue.{Issue}
use Rattle.flow_core_rules.specs.declared.issues.IssuePhase.{IssuePhase}
use Rattle.flow_core_rules.specs.declared.phases.Phase.{Phase}
use Rattle.flow_core_rules.specs.declared.phases.Phase.TheVariants as phase
use Rattle.flow_core_rules.specs.Givens.{book_with}
use Rattle.flow_core_rules.specs.State.{Lists}
use Rattle.flow_core_rules.specs.Edits.{Edit, changed_at, closed}
use Rattle.flow_core_rules.specs.Edits.Edit.{opens, writes, makes, moves, issues, closes, upgrades}
use Rattle.flow_core_rules.specs.Conditions.{heads, is_true}
use Rattle.flow_core_rules.specs.Tasks.{Here, go, finish, child, next_key, exception_of, in_phase}
use Rattle.flow_core_rules.specs.Changes as changes
use Rattle.flow_core_rules.specs.Changes.{is_waiting}
use Rattle.flow_core_rules.proofs.PlacedLemmas.{some_then, some_if, some_map, two_ways}
use Rattle.flow_core_rules.proofs.TaskLemmas.{tasks_after, get_set, get_pushed, get_within, set_here, set_other, set_length, push_front}
use Rattle.flow_core_rules.proofs.IssueLemmas.{WasAt, get_push, get_changed}

inner : {A : Type 0} (a b : A) → Some a ≡ Some b → a ≡ b
inner a b h = cc

clash : (b : Bool) → b ≡ true → b ≡ false → ⊥
clash true x y = cc
clash false x y = cc

same_number : (a b : ℕ) → (a == b) ≡ true → a ≡ b
same_number a b h = grind arith

other_number : (a b : ℕ) → (a == b) ≡ false → a ≡ b → ⊥
other_number a b h e = grind arith

-- the task does not await an issue
abbrev pub is_free_of : Phase → Bool
is_free_of (phase.Awaiting place issue) = false
is_free_of other = true

abbrev pub IsFreeOf : Phase → Type 0
IsFreeOf at = is_free_of at ≡ true

pub not_awaiting : (at : Phase) (place n : ℕ) → IsFreeOf at → at ≡ phase.Awaiting place n → ⊥
not_awaiting at place n f e = clash (is_free_of at) f (ap is_free_of e)

issue_number : (p q n m : ℕ) → phase.Awaiting p n ≡ phase.Awaiting q m → n ≡ m
issue_number p q n m h = cc

-- the task that an issue waits for
pub record AwaitedBy (ts : List Task) (n : ℕ) (i : Issue) : Type 0 where
  pub task : Task
  pub place : ℕ
  pub task_is : slice_get ts i.task ≡ Some task
  pub awaits : task.phase ≡ phase.Awaiting place n

-- the issue that a task awaits
pub record Awaits (is : List Issue) (t n : ℕ) : Type 0 where
  pub issue : Issue
  pub issue_is : slice_get is n ≡ Some issue
  pub waits : is_waiting issue.phase ≡ true
  pub owner : issue.task ≡ t

pub record Agree (ts : List Task) (is : List Issue) : Type 0 where
  pub awaited : (n : ℕ) (i : Issue) → slice_get is n ≡ Some i → is_waiting i.phase ≡ true → AwaitedBy ts n i
  pub awaits : (t : ℕ) (task : Task) (place n : ℕ) → slice_get ts t ≡ Some task → task.phase ≡ phase.Awaiting place n → Awaits is t n
  pub made : (n : ℕ) (i : Issue) → slice_get is n ≡ Some i → i.task < length ts

-- ---- a task is made, or moves, and awaits nothing

agree_make : (ts : List Task) (is : List Issue) (task : Task) → Agree ts is → IsFreeOf task.phase → Agree (ts ++ task ∷ []) is
agree_make ts is task a f = record { awaited = awaited; awaits = λ t x place n e at. awaits t x place n (get_pushed ts task x t e) at; made = made }
  where
    awaited : (n : ℕ) (i : Issue) → slice_get is n ≡ Some i → is_waiting i.phase ≡ true → AwaitedBy (ts ++ task ∷ []) n i
    awaited n i e w =
        let b : AwaitedBy ts n i = a.awaited n i e w in
        record { task = b.task; place = b.place; task_is = push_front ts task i.task b.task b.task_is; awaits = b.awaits }

    awaits : (t : ℕ) (x : Task) (place n : ℕ) → (slice_get ts t ≡ Some x) ⊎ ((t ≡ length ts) × (task ≡ x)) → x.phase ≡ phase.Awaiting place n → Awaits is t n
    awaits t x place n (inl e) at = a.awaits t x place n e at
    awaits t x place n (inr e) at = absurd (not_awaiting task.phase place n f (ap (λ (y : Task). y.phase) e.1 ∙ at))

    made : (n : ℕ) (i : Issue) → slice_get is n ≡ Some i → i.task < length (ts ++ task ∷ [])
    made n i e = let h = a.made n i e in omega (arith, length-append ts (task ∷ []))

agree_move : (ts : List Task) (is : List Issue) (t : ℕ) (old new : Task) → Agree ts is → slice_get ts t ≡ Some old → IsFreeOf old.phase → IsFreeOf new.phase → Agree (slice_set ts t new) is
agree_move ts is t old new a there f g = record { awaited = awaited; awaits = λ k x place n e at. awaits k x place n (get_set ts t new k x e) at; made = λ n i e. subst (λ m. i.task < m) (sym (set_length ts t new)) (a.made n i e) }
  where
    awaited : (n : ℕ) (i : Issue) → slice_get is n ≡ Some i → is_waiting i.phase ≡ true → AwaitedBy (slice_set ts t new) n i
    awaited n i e w =
        let b : AwaitedBy ts n i = a.awaited n i e w in
        let apart : i.task ≡ t → ⊥ = λ same. not_awaiting old.phase b.place n f (ap (λ (y : Task). y.phase) (inner old b.task (sym there ∙ ap (slice_get ts) (sym same) ∙ b.task_is)) ∙ b.awaits) in
        record { task = b.task; place = b.place; task_is = set_other ts t new i.task b.task apart b.task_is; awaits = b.awaits }

    awaits : (k : ℕ) (x : Task) (place n : ℕ) → ((k ≡ t) × (new ≡ x)) ⊎ ((k ≡ t → ⊥) × (slice_get ts k ≡ Some x)) → x.phase ≡ phase.Awaiting place n → Awaits is k n
    awaits k x place n (inl e) at = absurd (not_awaiting new.phase place n g (ap (λ (y : Task). y.phase) e.1 ∙ at))
    awaits k x place n (inr e) at = a.awaits k x place n e.1 at

-- ---- an issue is made, and its task awaits it

pub agree_issue : (ts : List Task) (is : List Issue) (t place : ℕ) (old new : Task) (i : Issue) → Agree ts is → slice_get ts t ≡ Some old → IsFreeOf old.phase → i.task ≡ t → is_waiting i.phase ≡ true
    → new.phase ≡ phase.Awaiting place (length is) → Agree (slice_set ts t new) (is ++ i ∷ [])
agree_issue ts is t place old new i a there f own waits at = record {
  awaited = λ n x e w. awaited n x (get_push is i x n e) w;
  awaits = λ k x p n e h. awaits k x p n (get_set ts t new k x e) h;
  made = λ n x e. subst (λ m. x.task < m) (sym (set_length ts t new)) (made n x (get_push is i x n e));
}
  where
    awaited : (n : ℕ) (x : Issue) → (slice_get is n ≡ Some x) ⊎ ((n ≡ length is) × (i ≡ x)) → is_waiting x.phase ≡ true → AwaitedBy (slice_set ts t new) n x
    awaited n x (inl e) w =
        let b : AwaitedBy ts n x = a.awaited n x e w in
        let apart : x.task ≡ t → ⊥ = λ same. not_awaiting old.phase b.place n f (ap (λ (y : Task). y.phase) (inner old b.task (sym there ∙ ap (slice_get ts) (sym same) ∙ b.task_is)) ∙ b.awaits) in
        record { task = b.task; place = b.place; task_is = set_other ts t new x.task b.task apart b.task_is; awaits = b.awaits }
    awaited n x (inr e) w =
        record {
          task = new;
          place = place;
          task_is = ap (slice_get (slice_set ts t new)) (ap (λ (y : Issue). y.task) (sym e.1) ∙ own) ∙ set_here ts t new old there;
          awaits = at ∙ ap (phase.Awaiting place) (sym e.0);
        }

    front : (n : ℕ) (k : ℕ) → Awaits is k n → Awaits (is ++ i ∷ []) k n
    front n k b = record { issue = b.issue; issue_is = push_front is i n b.issue b.issue_is; waits = b.waits; owner = b.owner }

    last : {A : Type 0} (xs : List A) (x : A) → slice_get (xs ++ x ∷ []) (length xs) ≡ Some x
    last [] x = refl
    last (y ∷ xs) x = last xs x

    awaits : (k : ℕ) (x : Task) (p n : ℕ) → ((k ≡ t) × (new ≡ x)) ⊎ ((k ≡ t → ⊥) × (slice_get ts k ≡ Some x)) → x.phase ≡ phase.Awaiting p n → Awaits (is ++ i ∷ []) k n
    awaits k x p n (inl e) h =
        let number : length is ≡ n = issue_number place p (length is) n (sym at ∙ ap (λ (y : Task). y.phase) e.1 ∙ h) in
        record { issue = i; issue_is = ap (slice_get (is ++ i ∷ [])) (sym number) ∙ last is i; waits = waits; owner = own ∙ sym e.0 }
    awaits k x p n (inr e) h = front n k (a.awaits k x p n e.1 h)

    made : (n : ℕ) (x : Issue) → (slice_get is n ≡ Some x) ⊎ ((n ≡ length is) × (i ≡ x)) → x.task < length ts
    made n x (inl e) = a.made n x e
    made n x (inr e) = subst (λ m. m < length ts) (sym own ∙ ap (λ (y : Issue). y.task) e.1) (get_within ts t old there)

-- ---- an issue ends, and its task goes on

pub agree_close : (ts : List Task) (is : List Issue) (n : ℕ) (i : Issue) (end : IssuePhase) (new : Task) → Agree ts is → slice_get is n ≡ Some i → is_waiting i.phase ≡ true → is_waiting end ≡ false
    → IsFreeOf new.phase → Agree (slice_set ts i.task new) (changed_at n (closed end) is)
agree_close ts is n i end new a there waits over g = record {
  awaited = λ m x e w. awaited m x (get_changed n (closed end) is m x e) (m == n) refl w;
  awaits = λ k x p m e h. awaits k x p m (get_set ts i.task new k x e) h;
  made = λ m x e. subst (λ z. x.task < z) (sym (set_length ts i.task new)) (made m x (get_changed n (closed end) is m x e) (m == n) refl);
}
  where
    owner : AwaitedBy ts n i
    owner = a.awaited n i there waits

    awaited : (m : ℕ) (x : Issue) → WasAt is n (closed end) m x → (b : Bool) → (m == n) ≡ b → is_waiting x.phase ≡ true → AwaitedBy (slice_set ts i.task new) m x
    awaited m x w true e h = absurd (clash (is_waiting end) (subst (λ (y : Issue). is_waiting y.phase ≡ true) (w.same (same_number m n e)) h) over)
    awaited m x w false e h =
        let is_old : x ≡ w.was = w.other (other_number m n e) in
        let b : AwaitedBy ts m w.was = a.awaited m w.was w.was_is (subst (λ (y : Issue). is_waiting y.phase ≡ true) is_old h) in
        let o : AwaitedBy ts n i = a.awaited n i there waits in
        let apart : (w.was).task ≡ i.task → ⊥ = λ same.
        other_number m n e (issue_number b.place o.place m n (sym b.awaits ∙ ap (λ (y : Task). y.phase) (inner b.task o.task (sym b.task_is ∙ ap (slice_get ts) same ∙ o.task_is)) ∙ o.awaits)) in
        subst (AwaitedBy (slice_set ts i.task new) m) (sym is_old) (record { task = b.task; place = b.place; task_is = set_other ts i.task new (w.was).task b.task apart b.task_is; awaits = b.awaits })

    kept : (xs : List Issue) (k m : ℕ) (x : Issue) → (m ≡ k → ⊥) → slice_get xs m ≡ Some x → slice_get (changed_at k (closed end) xs) m ≡ Some x
    kept [] k m x apart e = e
    kept (y ∷ xs) zero zero x apart e = absurd (apart refl)
    kept (y ∷ xs) zero (suc m) x apart e = e
    kept (y ∷ xs) (suc k) zero x apart e = e
    kept (y ∷ xs) (suc k) (suc m) x apart e = kept xs k m x (λ h. apart (ap suc h)) e

    awaits : (k : ℕ) (x : Task) (p m : ℕ) → ((k ≡ i.task) × (new ≡ x)) ⊎ ((k ≡ i.task → ⊥) × (slice_get ts k ≡ Some x)) → x.phase ≡ phase.Awaiting p m → Awaits (changed_at n (closed end) is) k m
    awaits k x p m (inl e) h = absurd (not_awaiting new.phase p m g (ap (λ (y : Task). y.phase) e.1 ∙ h))
    awaits k x p m (inr e) h =
        let b : Awaits is k m = a.awaits k x p m e.1 h in
        let apart : m ≡ n → ⊥ = λ same. e.0 (sym b.owner ∙ ap (λ (y : Issue). y.task) (inner b.issue i (sym b.issue_is ∙ ap (slice_get is) same ∙ there))) in
        record { issue = b.issue; issue_is = kept is n m b.issue apart b.issue_is; waits = b.waits; owner = b.owner }

    made : (m : ℕ) (x : Issue) → WasAt is n (closed end) m x → (b : Bool) → (m == n) ≡ b → x.task < length ts
    made m x w true e = subst (λ (y : Issue). y.task < length ts) (sym (w.same (same_number m n e))) (a.made m w.was w.was_is)
    made m x w false e = subst (λ (y : Issue). y.task < length ts) (sym (w.other (other_number m n e))) (a.made m w.was w.was_is)

-- ---- the edits of a Walk move its task and make tasks, none of which awaits an issue

abbrev pub is_calm : ℕ → Edit → Bool
is_calm t (opens parent vars) = true
is_calm t (writes scope name text) = true
is_calm t (makes task) = is_free_of task.phase
is_calm t (moves n task) = (n == t) && is_free_of task.phase
is_calm t (issues issue) = true
is_calm t (closes i end) = true
is_calm t upgrades = true

abbrev pub IsCalm : ℕ → List Edit → Type 0
IsCalm t es = list_all (is_calm t) es ≡ true

both : (a b : Bool) → (a && b) ≡ true → (a ≡ true) × (b ≡ true)
both true true e = (refl, refl)
both true false e = (refl, e)
both false b e = absurd (clash false e refl)

pub agree_calm : (es : List Edit) (ts : List Task) (is : List Issue) (t : ℕ) (old : Task) → Agree ts is → slice_get ts t ≡ Some old → IsFreeOf old.phase → IsCalm t es → Agree (tasks_after es ts) is
agree_calm [] ts is t old a there f c = a
agree_calm (opens parent vars ∷ es) ts is t old a there f c = agree_calm es ts is t old a there f c
agree_calm (writes scope name text ∷ es) ts is t old a there f c = agree_calm es ts is t old a there f c
agree_calm (issues issue ∷ es) ts is t old a there f c = agree_calm es ts is t old a there f c
agree_calm (closes i end ∷ es) ts is t old a there f c = agree_calm es ts is t old a there f c
agree_calm (upgrades ∷ es) ts is t old a there f c = agree_calm es ts is t old a there f c
agree_calm (makes task ∷ es) ts is t old a there f c =
    let parts = both (is_free_of task.phase) (list_all (is_calm t) es) c in
    agree_calm es (ts ++ task ∷ []) is t old (agree_make ts is task a parts.0) (push_front ts task t old there) f parts.1
agree_calm (moves n task ∷ es) ts is t old a there f c =
    let parts = both ((n == t) && is_free_of task.phase) (list_all (is_calm t) es) c in
    let first = both (n == t) (is_free_of task.phase) parts.0 in
    let here : n ≡ t = same_number n t first.0 in
    let free : IsFreeOf task.phase = first.1 in
    let moved : Agree (slice_set ts n task) is = subst (λ m. Agree (slice_set ts m task) is) (sym here) (agree_move ts is t old task a there f free) in
    let new_there : slice_get (slice_set ts n task) t ≡ Some task = subst (λ m. slice_get (slice_set ts m task) t ≡ Some task) (sym here) (set_here ts t task old there) in
    agree_calm es (slice_set ts n task) is t task moved new_there free parts.1

pub finish_free : (h : Here) (well : Bool) → is_free_of (finish h well).phase ≡ true
finish_free h well = by (next_key h.step well) well (exception_of h.seen h.task)
  where
    by : (o : Option (List ℕ)) (b : Bool) (x : Option (List ℕ))
        → is_free_of (option_map_or (go h.seen.given h.now h.task) o (cond b (in_phase h.task (phase.Ended true)) (option_map_or (λ key. record (go h.seen.given h.now h.task key) { excepted = true }) x (in_phase h.task (phase.Ended false))))).phase ≡ true
    by (Some key) b x = refl
    by None true x = refl
    by None false None = refl
    by None false (Some key) = refl

same : (n : ℕ) → (n == n) ≡ true
same n = grind arith

calm_move : (t : ℕ) (task : Task) → is_free_of task.phase ≡ true → IsCalm t (moves t task ∷ [])
calm_move t task e = rw (same t, e) refl

calm_first : (t : ℕ) (task : Task) (es : List Edit) → is_free_of task.phase ≡ true → IsCalm t es → IsCalm t (moves t task ∷ es)
calm_first t task es e c = rw (same t, e, c) refl

calm_done : (h : Here) (well : Bool) → IsCalm h.number (changes.done h well)
calm_done h well = calm_move h.number (finish h well) (finish_free h well)

pub calm_written : (t : ℕ) (s : Lists) (scope : ℕ) (ps : List (List ℕ × Option (List ℕ))) (es : List Edit) → IsCalm t es → IsCalm t (flat_map (changes.written s scope) ps ++ es)
calm_written t s scope [] es h = h
calm_written t s scope (p ∷ ps) es h =
    subst (IsCalm t) (sym (append_assoc (changes.written s scope p) (flat_map (changes.written s scope) ps) es))
    (one p (flat_map (changes.written s scope) ps ++ es) (calm_written t s scope ps es h))
  where
    one : (p : List ℕ × Option (List ℕ)) (es : List Edit) → IsCalm t es → IsCalm t (changes.written s scope p ++ es)
    one (name, None) es h = h
    one (name, Some text) es h = by (home s.scopes scope name)
      where
        by : (o : Option ℕ) → IsCalm t (option_map_or (λ at. writes at name text ∷ []) o [] ++ es)
        by None = h
        by (Some at) = h

calm_bound : (t scope : ℕ) (ps : List (List ℕ × Option (List ℕ))) (es : List Edit) → IsCalm t es → IsCalm t (flat_map (changes.binding scope) ps ++ es)
calm_bound t scope [] es h = h
calm_bound t scope (p ∷ ps) es h =
    subst (IsCalm t) (sym (append_assoc (changes.binding scope p) (flat_map (changes.binding scope) ps) es))
    (one p (flat_map (changes.binding scope) ps ++ es) (calm_bound t scope ps es h))
  where
    one : (p : List ℕ × Option (List ℕ)) (es : List Edit) → IsCalm t es → IsCalm t (changes.binding scope p ++ es)
    one (name, None) es h = h
    one (name, Some text) es h = h

calm_made : (h : Here) (n scope : ℕ) (keys : List (List ℕ)) → IsCalm h.number (map (λ key. makes (child h n scope key)) keys)
calm_made h n scope [] = refl
calm_made h n scope (key ∷ keys) = calm_made h n scope keys

calm_branched : (h : Here) (scope : ℕ) (keys : List (List ℕ)) → IsCalm h.number (changes.branched h scope keys)
calm_branched h scope [] = calm_done h true
calm_branched h scope (key ∷ keys) = calm_first h.number (changes.joining h) (map (λ k. makes (child h h.task.book scope k)) (key ∷ keys)) refl (calm_made h h.task.book scope (key ∷ keys))

calm_entered : (h : Here) (kind : StepKind) → IfSome (changes.entered h kind) (IsCalm h.number)
calm_entered h does.Start = calm_done h true
calm_entered h does.End = calm_move h.number (in_phase h.task (phase.Ended true)) refl
calm_entered h (does.Action a b c d e) = calm_move h.number (in_phase (changes.inside h).task (phase.Sending 0)) refl
calm_entered h (does.PlaybookAction playbook version in_args out_args) =
    let n : ℕ = length h.seen.lists.scopes in
    some_map (book_with h.seen.given playbook) (λ theirs. changes.opening h ∷ changes.called (changes.inside h) n in_args theirs) (IsCalm h.number) (λ theirs.
    calm_bound h.number (suc n) (changes.valued (changes.inside h).seen.lists n in_args)
    (moves h.number (changes.joining (changes.inside h)) ∷ makes (child (changes.inside h) theirs.0 (suc n) (theirs.1).start) ∷ [])
    (calm_first h.number (changes.joining (changes.inside h)) (makes (child (changes.inside h) theirs.0 (suc n) (theirs.1).start) ∷ []) refl refl))
calm_entered h (does.Parallel a) = calm_branched (changes.inside h) (length h.seen.lists.scopes) (heads (changes.inside h).seen.lists (length h.seen.lists.scopes) (does.Parallel a))
calm_entered h (does.If a b c) = calm_branched (changes.inside h) (length h.seen.lists.scopes) (heads (changes.inside h).seen.lists (length h.seen.lists.scopes) (does.If a b c))
calm_entered h (does.While a b) = calm_branched (changes.inside h) (length h.seen.lists.scopes) (heads (changes.inside h).seen.lists (length h.seen.lists.scopes) (does.While a b))
calm_entered h (does.Switch a b) = calm_branched (changes.inside h) (length h.seen.lists.scopes) (heads (changes.inside h).seen.lists (length h.seen.lists.scopes) (does.Switch a b))

calm_choice : (t : ℕ) (b : Bool) (xs ys : List Edit) → IsCalm t xs → IsCalm t ys → IsCalm t (cond b xs ys)
calm_choice t true xs ys a b = a
calm_choice t false xs ys a b = b

calm_rejoined : (h : Here) (from scope : ℕ) (kind : StepKind) → IsCalm h.number (changes.rejoined h from scope kind)
calm_rejoined h from scope (does.While condition on_true) =
    calm_choice h.number (is_true h.seen.lists scope condition) (makes (child h h.task.book scope on_true) ∷ []) (changes.done h true) refl (calm_done h true)
calm_rejoined h from scope (does.PlaybookAction a b c d) =
    calm_written h.number h.seen.lists scope (option_map_or (λ (root : Task). changes.valued h.seen.lists root.scope d) (slice_get h.seen.lists.tasks from) []) (changes.done h true) (calm_done h true)
calm_rejoined h from scope does.Start = calm_done h true
calm_rejoined h from scope does.End = calm_done h true
calm_rejoined h from scope (does.Action a b c d e) = calm_done h true
calm_rejoined h from scope (does.Parallel a) = calm_done h true
calm_rejoined h from scope (does.If a b c) = calm_done h true
calm_rejoined h from scope (does.Switch a b) = calm_done h true

pub calm_walked : (h : Here) (at : Phase) → IfSome (changes.walked h at) (IsCalm h.number)
calm_walked h (phase.At since) = some_if (nat_le (since + h.step.delay) h.now) (changes.entered h h.step.kind) (IsCalm h.number) (calm_entered h h.step.kind)
calm_walked h (phase.Joining from) =
    some_then h.task.step_scope (λ (scope : ℕ). changes.joined h from scope (changes.children h.seen.lists h.number from)) (IsCalm h.number) (λ scope. joined scope (changes.children h.seen.lists h.number from))
  where
    joined : (scope : ℕ) (branches : List Task) → IfSome (changes.joined h from scope branches) (IsCalm h.number)
    joined scope branches =
        let stops : Option (List Edit) = Some (changes.done h false) in
        let goes : Option (List Edit) = Some (changes.rejoined h from scope h.step.kind) in
        let failed : Bool = list_any (λ task. changes.has_failed task.phase) branches in
        two_ways (not (list_all (λ task. changes.has_ended task.phase) branches)) None (cond failed stops goes) (IsCalm h.number) (tt {0})
        (two_ways failed stops goes (IsCalm h.number) (calm_done h false) (calm_rejoined h from scope h.step.kind))
calm_walked h (phase.Sending place) = tt
calm_walked h (phase.Awaiting place issue) = tt
calm_walked h (phase.Ended well) = tt
