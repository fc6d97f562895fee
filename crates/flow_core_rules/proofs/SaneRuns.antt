-- Each state of a run of what can be run is sane: from what each record keeps to what holds of each state.
use Rattle.std.proofs.Common.{◌≡◌, ◌⊎◌, ℕ, zero, suc, ◌+◌, ◌<◌, ◌≤◌, ◌==◌, Bool, true, false, cond, List, [], ◌∷◌, ◌++◌, length, Option, Some, None, is_some, arith, refl, ap, sym, subst, ◌∙◌, inl, inr}
use Rattle.std.specs.Prelude.{IfSome, IsSome, IsSomeAnd, All, option_and_then, option_map, map, nat_le, slice_get}
use Rattle.std.specs.List.{list_all, list_any}
use Rattle.std.proofs.lemmas.List.Elements.{All-head, All-tail}
use Rattle.serde_json.specs.Data.{Data}
use Rattle.cacao_json.specs.Reading.{tree}
use Rattle.cacao_text.specs.Canon.{canon}
use Rattle.run_records.specs.declared.record.Record.{Record}
use Rattle.cacao_book.specs.declared.books.Book.{Book}
use Rattle.cacao_book.specs.declared.steps.Step.{Step}
use Rattle.cacao_book.specs.declared.step_kinds.StepKind.{StepKind}
use Rattle.cacao_book.specs.declared.step_kinds.StepKind.TheVariants as does
use Rattle.flow_core_rules.specs.declared.tasks.Task.{Task}
use Rattle.flow_core_rules.specs.declared.issues.Issue.{Issue}
use Rattle.flow_core_rules.specs.declared.phases.Phase.{Phase}
use Rattle.flow_core_rules.specs.declared.phases.Phase.TheVariants as phase
use Rattle.flow_core_rules.specs.Givens.{Given, book_at, book_with}
use Rattle.flow_core_rules.specs.State.{State, Lists, Shown, shown}
use Rattle.flow_core_rules.specs.Edits.{Edit}
use Rattle.flow_core_rules.specs.Edits.Edit.{opens, writes, makes}
use Rattle.flow_core_rules.specs.Places.{Place, to_filter, to_operator, places, filter_of}
use Rattle.flow_core_rules.specs.Filled.{fill, replaced, addressed, filled}
use Rattle.flow_core_rules.specs.Tasks.{Here, here_at}
use Rattle.flow_core_rules.specs.Changes as changes
use Rattle.flow_core_rules.specs.Changes.{has_ended, is_waiting}
use Rattle.flow_core_rules.specs.Moves.{delay_of}
use Rattle.flow_core_rules.specs.Runs.{Leads, Next, GoesOn, after, begun, blank, first_task}
use Rattle.flow_core_rules.specs.Runnable.{IsRunnable, IsRunnableBook, IsRunnableStep, CanIssue, CanDo}
use Rattle.flow_core_rules.specs.Sane.{IsSaneAt, IsSaneTask, IsSaneIssue, IsAwaitedBy}
use Rattle.flow_core_rules.specs.Laws.{RunsAreSane}
use Rattle.flow_core_rules.proofs.HereLemmas.{here_of}
use Rattle.flow_core_rules.proofs.TaskLemmas.{HasParent, IsOrderly, tasks_after, tasks_are}
use Rattle.flow_core_rules.proofs.EndLemmas.{Ordered, ordered_next, first_ordered, bound_tasks}
use Rattle.flow_core_rules.proofs.IssueLemmas.{given-after, issues-after, first_known}
use Rattle.flow_core_rules.proofs.WaitLemmas.{is_free_of, Agree, AwaitedBy, Awaits, not_awaiting}
use Rattle.flow_core_rules.proofs.FitLemmas.{FitsPhase, Fits, AllFit, fit_after, fits_at}
use Rattle.flow_core_rules.proofs.ScopeLemmas.{IsScoped, AllScoped, scoped_next, first_scoped}
use Rattle.flow_core_rules.proofs.SaneLemmas.{issues_after, issues_are, Known, IsGood, change_good}

inner : {A : Type 0} (a b : A) → Some a ≡ Some b → a ≡ b
inner a b h = cc

none_some : {A : Type 0} (x : A) → None ≡ Some x → ⊥
none_some x h = cc

-- ---- each record keeps what is known

known_next : (s new : State) (r : Record) → Known (shown s) → Next s r new → Known (shown new)
known_next s new r k next =
    let good : IsGood (shown s) next.edits = change_good (shown s) r next.edits k next.change_is in
    let given : new.given ≡ s.given = given-after s new r next.edits next.new_is in
    let tasks : new.tasks ≡ tasks_after next.edits s.tasks = ap (λ (x : State). x.tasks) next.new_is ∙ tasks_are next.edits s in
    let same_issues : new.issues ≡ issues_after next.edits s.issues = issues-after s new r next.edits next.new_is ∙ issues_are next.edits s in
    let fit : AllFit s.given (tasks_after next.edits s.tasks) = fit_after s.given next.edits s.tasks k.fit good.fit in
    record {
      runnable = subst IsRunnable (sym given) k.runnable;
      fit = subst (λ (g : Given). AllFit g new.tasks) (sym given) (subst (AllFit s.given) (sym tasks) fit);
      agree = subst (λ (ts : List Task). Agree ts new.issues) (sym tasks) (subst (Agree (tasks_after next.edits s.tasks)) (sym same_issues) good.agree);
    }

pub record Sound (s : State) : Type 0 where
  pub ordered : Ordered s
  pub known : Known (shown s)
  pub scoped : AllScoped s.scopes s.tasks

sound_along : (records : List Record) (s new : State) → Sound s → GoesOn s records new → Sound new
sound_along [] s new k g = subst Sound g k
sound_along (r ∷ records) s new k g =
    sound_along records g.0 new (record { ordered = ordered_next s g.0 r k.ordered g.1; known = known_next s g.0 r k.known g.1; scoped = scoped_next s g.0 r k.scoped g.1 }) g.2

-- ---- the first state

first_task_fits : (given : Given) (now : ℕ) (book : Book) → IsRunnable given → slice_get given.books 0 ≡ Some book → Fits given 0 (first_task given now book)
first_task_fits given now book runnable there =
    let b : IsRunnableBook given book = runnable.books 0 book there in
    fits_at given 0 0 now book book.start (first_task given now book) there b.start refl refl refl

one_agrees : (task : Task) (since : ℕ) → task.phase ≡ phase.At since → Agree (task ∷ []) []
one_agrees task since at = record {
  awaited = λ n i e w. absurd (none_some i e);
  awaits = awaits;
  made = λ n i e. absurd (none_some i e);
}
  where
    awaits : (t : ℕ) (x : Task) (place n : ℕ) → slice_get (task ∷ []) t ≡ Some x → x.phase ≡ phase.Awaiting place n → Awaits [] t n
    awaits zero x place n e h =
        absurd (not_awaiting task.phase place n (ap is_free_of at) (ap (λ (y : Task). y.phase) (inner task x e) ∙ h))
    awaits (suc t) x place n e h = absurd (none_some x e)

first_sound : (given : Given) (run now : ℕ) (first : State) → IsRunnable given → begun given run now ≡ Some first → Sound first
first_sound given run now first runnable e = by (slice_get given.books 0) refl e
  where
    by : (o : Option Book) → slice_get given.books 0 ≡ o
        → option_map (λ (es : List Edit). after now es (blank given run)) (option_map (λ (book : Book). opens None book.variables ∷ (map (λ b. writes 0 b.0 b.1) given.variables ++ makes (first_task given now book) ∷ [])) o) ≡ Some first
        → Sound first
    by None there h = absurd (none_some first h)
    by (Some book) there h =
        let es : List Edit = opens None book.variables ∷ (map (λ b. writes 0 b.0 b.1) given.variables ++ makes (first_task given now book) ∷ []) in
        let is : after now es (blank given run) ≡ first = inner (after now es (blank given run)) first h in
        let task : Task = first_task given now book in
        let tasks : first.tasks ≡ task ∷ [] = ap (λ (x : State). x.tasks) (sym is) ∙ tasks_are es (blank given run) ∙ bound_tasks given now book given.variables [] in
        let known = first_known given run now first e in
        record {
          ordered = first_ordered given run now first e;
          scoped = first_scoped given run now first e;
          known = record {
            runnable = subst IsRunnable (sym known.1) runnable;
            fit = subst (λ (g : Given). AllFit g first.tasks) (sym known.1) (subst (AllFit given) (sym tasks) (one task (first_task_fits given now book runnable there)));
            agree = subst (λ (ts : List Task). Agree ts first.issues) (sym tasks) (subst (Agree (task ∷ [])) (sym known.0) (one_agrees task now refl));
          };
        }
      where
        one : (task : Task) → Fits given 0 task → AllFit given (task ∷ [])
        one task f zero x e = subst (Fits given 0) (inner task x e) f
        one task f (suc t) x e = absurd (none_some x e)

-- ---- a sound state is sane

-- where a task stands
here_is : (s : Shown) (now t : ℕ) (task : Task) (book : Book) (step : Step) → slice_get s.lists.tasks t ≡ Some task → book_at s.given task.book ≡ Some book → slice_get book.steps task.step ≡ Some step
    → here_at s now t ≡ Some (here_of s now t task step)
here_is s now t task book step task_is book_is step_is = rw task_is (rw book_is (rw step_is refl))

some_tree : (text : List ℕ) (s : Lists) (scope run issue : ℕ) → IsSome (tree text) → IsSome (fill text s scope run issue)
some_tree text s scope run issue h = by (tree text) h
  where
    by : (o : Option Data) → is_some o ≡ true → is_some (option_map (λ (d : Data). canon (addressed run issue (filled s scope d))) o) ≡ true
    by None e = e
    by (Some d) e = refl

-- a place that can be issued gives a command or a question
issues_something : (h : Here) (place : Place) → CanIssue place → IsSome h.task.step_scope → IsSome (changes.command_at h place) ⊎ IsSome (changes.question_at h place)
issues_something h (to_filter content to) can scope = by content h.task.step_scope can scope
  where
    filled_some : (o : Option (List ℕ)) → is_some o ≡ true → is_some (option_and_then (λ (bytes : List ℕ). Some (changes.issue_with h (filter_of h.seen.given.agents to) bytes)) o) ≡ true
    filled_some None e = e
    filled_some (Some bytes) e = refl

    by : (content : Option (List ℕ)) (scope : Option ℕ) → IsSomeAnd content (λ text. IsSome (tree text)) → is_some scope ≡ true
        → (is_some (option_and_then (λ (text : List ℕ). option_and_then (λ (n : ℕ). option_and_then (λ (bytes : List ℕ). Some (changes.issue_with h (filter_of h.seen.given.agents to) bytes)) (fill text h.seen.lists n h.seen.run (length h.seen.lists.issues))) scope) content) ≡ true)
        ⊎ IsSome (changes.question_at h (to_filter content to))
    by None scope can e = absurd can
    by (Some text) None can e = absurd (no_scope e)
      where
        no_scope : false ≡ true → ⊥
        no_scope g = cc
    by (Some text) (Some n) can e = inl (filled_some (fill text h.seen.lists n h.seen.run (length h.seen.lists.issues)) (some_tree text h.seen.lists n h.seen.run (length h.seen.lists.issues) can))
issues_something h (to_operator content) can scope = inr (by content h.task.step_scope can scope)
  where
    by : (content : Option (List ℕ)) (scope : Option ℕ) → is_some content ≡ true → is_some scope ≡ true
        → is_some (option_and_then (λ (text : List ℕ). option_and_then (λ (n : ℕ). Some (changes.issue_with h 0 (replaced h.seen.lists n text))) scope) content) ≡ true
    by None scope can e = can
    by (Some text) None can e = e
    by (Some text) (Some n) can e = refl

-- each place of a step that can be run can be issued
place_can : (xs : List Place) (n : ℕ) (place : Place) → All CanIssue xs → slice_get xs n ≡ Some place → CanIssue place
place_can [] n place all e = absurd (none_some place e)
place_can (x ∷ xs) zero place all e = subst CanIssue (inner x place e) (All-head CanIssue x xs all)
place_can (x ∷ xs) (suc n) place all e = place_can xs n place (All-tail CanIssue x xs all) e

places_can : (given : Given) (kind : StepKind) → CanDo given kind → All CanIssue (places kind)
places_can given (does.Action a b c d e) can = can.1
places_can given does.Start can = λ k d lt. absurd (omega arith)
places_can given does.End can = λ k d lt. absurd (omega arith)
places_can given (does.PlaybookAction a b c d) can = λ k d lt. absurd (omega arith)
places_can given (does.Parallel a) can = λ k d lt. absurd (omega arith)
places_can given (does.If a b c) can = λ k d lt. absurd (omega arith)
places_can given (does.While a b) can = λ k d lt. absurd (omega arith)
places_can given (does.Switch a b) can = λ k d lt. absurd (omega arith)

no_truth : false ≡ true → ⊥
no_truth h = cc

issuing_some : (h : Here) (o : Option Issue) → is_some o ≡ true → is_some (option_and_then (λ (i : Issue). Some (changes.issuing h i)) o) ≡ true
issuing_some h None e = e
issuing_some h (Some i) e = refl

next_some : (s : Shown) (now t : ℕ) (h : Here) (place : Place) (issue_at : Here → Place → Option Issue) → here_at s now t ≡ Some h → changes.place_at h h.task.phase ≡ Some place → IsSome (issue_at h place)
    → is_some (option_and_then (λ (h : Here). option_and_then (λ (place : Place). option_and_then (λ (i : Issue). Some (changes.issuing h i)) (issue_at h place)) (changes.place_at h h.task.phase)) (here_at s now t)) ≡ true
next_some s now t h place issue_at there stands some = rw there (rw stands (issuing_some h (issue_at h place) some))

some_known : {A : Type 0} (o : Option A) → is_some o ≡ true → (x : A) × (o ≡ Some x)
some_known None e = absurd (no_truth e)
some_known (Some x) e = (x, refl)

walks_on : (h : Here) (from : ℕ) (o : Option ℕ) → is_some o ≡ true → list_all (λ task. has_ended task.phase) (changes.children h.seen.lists h.number from) ≡ true
    → is_some (option_and_then (λ (scope : ℕ). changes.joined h from scope (changes.children h.seen.lists h.number from)) o) ≡ true
walks_on h from None e all = absurd (no_truth e)
walks_on h from (Some scope) e all = rw all (by (list_any (λ task. changes.has_failed task.phase) (changes.children h.seen.lists h.number from)))
  where
    by : (b : Bool) → is_some (cond b (Some (changes.done h false)) (Some (changes.rejoined h from scope h.step.kind))) ≡ true
    by true = refl
    by false = refl

-- a step that can be run is entered
enters : (h : Here) (kind : StepKind) → CanDo h.seen.given kind → is_some (changes.entered h kind) ≡ true
enters h does.Start can = refl
enters h does.End can = refl
enters h (does.Action a b c d e) can = refl
enters h (does.PlaybookAction playbook version in_args out_args) can = by (book_with h.seen.given playbook) can
  where
    by : (o : Option (ℕ × Book)) → is_some o ≡ true
        → is_some (option_map (λ (theirs : ℕ × Book). changes.opening h ∷ changes.called (changes.inside h) (length h.seen.lists.scopes) in_args theirs) o) ≡ true
    by None e = e
    by (Some theirs) e = refl
enters h (does.Parallel a) can = refl
enters h (does.If a b c) can = refl
enters h (does.While a b) can = refl
enters h (does.Switch a b) can = refl

le_true : (a b : ℕ) → a ≤ b → nat_le a b ≡ true
le_true a b h = grind arith

same_number : (n : ℕ) → (n == n) ≡ true
same_number n = grind arith

-- an issue whose task awaits it is found
waiting_some : (s : Shown) (now n : ℕ) (issue : Issue) (h : Here) (place scope : ℕ) → slice_get s.lists.issues n ≡ Some issue → here_at s now issue.task ≡ Some h → changes.awaited_place n h.task.phase ≡ Some place
    → h.task.step_scope ≡ Some scope → is_waiting issue.phase ≡ true → is_some (changes.waiting_at s now n) ≡ true
waiting_some s now n issue h place scope issue_is there awaits inside waits = rw issue_is (rw there (rw awaits (rw inside (rw waits refl))))

sane_phase : (s : Shown) (t : ℕ) (task : Task) (at : Phase) → Known s → slice_get s.lists.tasks t ≡ Some task → task.phase ≡ at → IsSaneAt s t task at
sane_phase s t task (phase.At since) k is e = λ now le. goes now le
  where
    goes : (now : ℕ) → since + delay_of s task ≤ now → IsSome (changes.walk s now t)
    goes now le =
        let f : Fits s.given t task = k.fit t task is in
        let h : Here = here_of s now t task f.step in
        let there : here_at s now t ≡ Some h = here_is s now t task f.book f.step is f.book_is f.step_is in
        let b : IsRunnableBook s.given f.book = (k.runnable).books task.book f.book f.book_is in
        let runs : IsRunnableStep s.given f.book f.step = b.steps task.step f.step f.step_is in
        let delay : delay_of s task ≡ (f.step).delay = rw f.book_is (rw f.step_is refl) in
        let past : nat_le (since + (f.step).delay) now ≡ true = le_true (since + (f.step).delay) now (subst (λ d. since + d ≤ now) delay le) in
        let walks : is_some (changes.walked h (phase.At since)) ≡ true = rw past (enters h (f.step).kind runs.does) in
        subst (λ (o : Option Here). is_some (option_and_then (λ (x : Here). changes.walked x x.task.phase) o) ≡ true) (sym there) (subst (λ (p : Phase). is_some (changes.walked h p) ≡ true) (sym e) walks)
sane_phase s t task (phase.Ended well) k is e = tt
sane_phase s t task (phase.Awaiting place n) k is e =
    let a : Awaits s.lists.issues t n = (k.agree).awaits t task place n is e in
    record { issue = a.issue; issue_is = a.issue_is; waits = a.waits; owner = a.owner; found = λ now. found a now }
  where
    found : Awaits s.lists.issues t n → (now : ℕ) → IsSome (changes.waiting_at s now n)
    found a now =
        let f : Fits s.given t task = k.fit t task is in
        let fits : IsSome task.step_scope = subst (FitsPhase t f.step task.step_scope) e f.fits in
        let scope = some_known task.step_scope fits in
        let h : Here = here_of s now t task f.step in
        let there : here_at s now t ≡ Some h = here_is s now t task f.book f.step is f.book_is f.step_is in
        let awaits : changes.awaited_place n task.phase ≡ Some place = ap (changes.awaited_place n) e ∙ rw (same_number n) refl in
        waiting_some s now n a.issue h place scope.0 a.issue_is (ap (here_at s now) a.owner ∙ there) awaits scope.1 a.waits
sane_phase s t task (phase.Sending n) k is e = λ now. sends now
  where
    sends : (now : ℕ) → IsSome (changes.next_command s now t) ⊎ IsSome (changes.next_question s now t)
    sends now =
        let f : Fits s.given t task = k.fit t task is in
        let fits : FitsPhase t f.step task.step_scope (phase.Sending n) = subst (FitsPhase t f.step task.step_scope) e f.fits in
        let h : Here = here_of s now t task f.step in
        let there : here_at s now t ≡ Some h = here_is s now t task f.book f.step is f.book_is f.step_is in
        let place = some_known (slice_get (places (f.step).kind) n) fits.1 in
        let stands : changes.place_at h task.phase ≡ Some place.0 = ap (changes.place_at h) e ∙ place.1 in
        let b : IsRunnableBook s.given f.book = (k.runnable).books task.book f.book f.book_is in
        let runs : IsRunnableStep s.given f.book f.step = b.steps task.step f.step f.step_is in
        let can : CanIssue place.0 = place_can (places (f.step).kind) n place.0 (places_can s.given (f.step).kind runs.does) place.1 in
        by now h place.0 there stands (issues_something h place.0 can fits.0)
      where
        by : (now : ℕ) (h : Here) (place : Place) → here_at s now t ≡ Some h → changes.place_at h h.task.phase ≡ Some place → IsSome (changes.command_at h place) ⊎ IsSome (changes.question_at h place)
            → IsSome (changes.next_command s now t) ⊎ IsSome (changes.next_question s now t)
        by now h place there stands (inl c) = inl (next_some s now t h place changes.command_at there stands c)
        by now h place there stands (inr q) = inr (next_some s now t h place changes.question_at there stands q)
sane_phase s t task (phase.Joining from) k is e =
    let f : Fits s.given t task = k.fit t task is in
    let fits : FitsPhase t f.step task.step_scope (phase.Joining from) = subst (FitsPhase t f.step task.step_scope) e f.fits in
    (fits.1, λ all now. goes f fits.0 all now)
  where
    goes : (f : Fits s.given t task) → is_some task.step_scope ≡ true → list_all (λ task. has_ended task.phase) (changes.children s.lists t from) ≡ true → (now : ℕ) → IsSome (changes.walk s now t)
    goes f scope all now =
        let h : Here = here_of s now t task f.step in
        let there : here_at s now t ≡ Some h = here_is s now t task f.book f.step is f.book_is f.step_is in
        let walks : is_some (changes.walked h (phase.Joining from)) ≡ true = walks_on h from task.step_scope scope all in
        subst (λ (o : Option Here). is_some (option_and_then (λ (x : Here). changes.walked x x.task.phase) o) ≡ true) (sym there) (subst (λ (p : Phase). is_some (changes.walked h p) ≡ true) (sym e) walks)

sane_task : (s : Shown) (t : ℕ) (task : Task) → IsOrderly s.lists.tasks → Known s → IsScoped (length s.lists.scopes) task → slice_get s.lists.tasks t ≡ Some task → IsSaneTask s t task
sane_task s t task o k scoped is = record {
  step = let f : Fits s.given t task = k.fit t task is in rw f.book_is (rw f.step_is refl);
  phase = sane_phase s t task task.phase k is refl;
  parent = by task.parent refl (o.parents t task is);
  first = ((λ none. alone none (o.parents t task is)), (λ z. o.root task (subst (λ n. slice_get s.lists.tasks n ≡ Some task) z is)));
  scope = scoped.0;
  step_scope = scoped.1;
}
  where
    alone : task.parent ≡ None → (t ≡ 0) ⊎ HasParent s.lists.tasks t task → t ≡ 0
    alone none (inl z) = z
    alone none (inr h) = absurd (none_some h.parent (sym none ∙ h.parent_is))

    by : (p : Option ℕ) → task.parent ≡ p → (t ≡ 0) ⊎ HasParent s.lists.tasks t task → IfSome p (IsAwaitedBy s t task.phase)
    by None e h = tt
    by (Some p) e (inl z) = absurd (none_some p (sym (o.root task (subst (λ n. slice_get s.lists.tasks n ≡ Some task) z is)) ∙ e))
    by (Some p) e (inr h) =
        let same : h.parent ≡ p = inner h.parent p (sym h.parent_is ∙ e) in
        subst (IsAwaitedBy s t task.phase) same (record { is_earlier = h.earlier; by = h.by; by_is = h.by_is; joins = h.waits })

get_there : (xs : List Task) (n : ℕ) → n < length xs → (x : Task) × (slice_get xs n ≡ Some x)
get_there [] n less = absurd (omega arith)
get_there (x ∷ xs) zero less = (x, refl)
get_there (x ∷ xs) (suc n) less = get_there xs n (omega arith)

sane_issue : (s : Shown) (n : ℕ) (issue : Issue) → Known s → slice_get s.lists.issues n ≡ Some issue → IsSaneIssue s n issue
sane_issue s n issue k is = by (is_waiting issue.phase) refl
  where
    by : (b : Bool) → is_waiting issue.phase ≡ b → IsSaneIssue s n issue
    by true e = let a : AwaitedBy s.lists.tasks n issue = (k.agree).awaited n issue is e in record { task = a.task; place = a.place; task_is = a.task_is; awaits = λ w. a.awaits }
    by false e =
        let there = get_there s.lists.tasks issue.task ((k.agree).made n issue is) in
        record { task = there.0; place = 0; task_is = there.1; awaits = λ w. absurd (no_truth (sym e ∙ w)) }

-- each state of a run of what can be run
pub runs_are_sound : (given : Given) (run : ℕ) (records : List Record) (s : State) → IsRunnable given → Leads given run records s → Sound s
runs_are_sound given run records s runnable l = sound_along l.others l.first s (first_sound given run l.now l.first runnable l.begins) l.goes_on

pub runs_are_sane : RunsAreSane
runs_are_sane given run records s runnable l =
    let k : Sound s = sound_along l.others l.first s (first_sound given run l.now l.first runnable l.begins) l.goes_on in
    let first = get_there s.tasks 0 (k.ordered).some in
    record {
      first = first.0;
      first_is = first.1;
      tasks = λ t task e. sane_task (shown s) t task (k.ordered).order k.known ((k.scoped).tasks t task e) e;
      issues = λ n issue e. sane_issue (shown s) n issue k.known e;
      scopes = (k.scoped).around;
    }
