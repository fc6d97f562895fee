-- Each state of a run of what can be run is sane.
use Rattle.std.proofs.Common.{◌≡◌, ℕ, suc, ◌+◌, ◌==◌, ◌&&◌, Bool, true, false, cond, List, [], ◌∷◌, ◌++◌, length, Option, Some, None, is_some, refl, ap, sym, subst, ◌∙◌, append_assoc}
use Rattle.std.specs.Prelude.{IfSome, IsSome, is_none, option_and_then, option_map, slice_get, not, nat_le}
use Rattle.std.specs.List.{flat_map, slice_set}
use Rattle.std.specs.Option.{option_map_or}
use Rattle.std.specs.Str.{bytes_eq}
use Rattle.cacao_vars.specs.Scopes.{home}
use Rattle.run_records.specs.declared.record.Record.{Record}
use Rattle.run_records.specs.declared.record.Record.TheVariants as entry
use Rattle.cacao_book.specs.declared.books.Book.{Book}
use Rattle.cacao_book.specs.declared.steps.Step.{Step}
use Rattle.flow_core_rules.specs.declared.tasks.Task.{Task}
use Rattle.flow_core_rules.specs.declared.issues.Issue.{Issue}
use Rattle.flow_core_rules.specs.declared.issues.IssuePhase.{IssuePhase}
use Rattle.flow_core_rules.specs.declared.issues.IssuePhase.TheVariants as issue_phase
use Rattle.flow_core_rules.specs.declared.phases.Phase.{Phase}
use Rattle.flow_core_rules.specs.declared.phases.Phase.TheVariants as phase
use Rattle.flow_core_rules.specs.Givens.{step_at}
use Rattle.flow_core_rules.specs.State.{State, Lists, Shown}
use Rattle.flow_core_rules.specs.Edits.{Edit, edited, all_edited, changed_at, closed}
use Rattle.flow_core_rules.specs.Edits.Edit.{opens, writes, makes, moves, issues, closes, upgrades}
use Rattle.flow_core_rules.specs.Places.{Place, to_filter, to_operator, places, filter_of}
use Rattle.flow_core_rules.specs.Filled.{fill, replaced}
use Rattle.flow_core_rules.specs.Tasks.{Here, here_at, finish, in_phase}
use Rattle.flow_core_rules.specs.Changes as changes
use Rattle.flow_core_rules.specs.Changes.{is_waiting, Waiting, Issuing}
use Rattle.flow_core_rules.specs.Runnable.{IsRunnable}
use Rattle.flow_core_rules.proofs.PlacedLemmas.{some_if, some_from, map_from}
use Rattle.flow_core_rules.proofs.HereLemmas.{here_of, some_at, some_option, IsWaitingAt, waiting_known}
use Rattle.flow_core_rules.proofs.QuietLemmas.{IsQuiet, quiet_walked}
use Rattle.flow_core_rules.proofs.ShapeLemmas.{filter_known}
use Rattle.flow_core_rules.proofs.TaskLemmas.{tasks_after, get_within}
use Rattle.flow_core_rules.proofs.WaitLemmas.{IsFreeOf, is_free_of, Agree, IsCalm, agree_issue, agree_close, agree_calm, calm_walked, finish_free}
use Rattle.flow_core_rules.proofs.FitLemmas.{FitsPhase, Fits, AreFit, AllFit, Runs, fits_finish, fit_written, fit_walked}

clash : (b : Bool) → b ≡ true → b ≡ false → ⊥
clash true x y = cc
clash false x y = cc

-- ---- the issues after edits

abbrev pub issues_after : List Edit → List Issue → List Issue
issues_after [] is = is
issues_after (opens parent vars ∷ es) is = issues_after es is
issues_after (writes scope name text ∷ es) is = issues_after es is
issues_after (makes task ∷ es) is = issues_after es is
issues_after (moves t task ∷ es) is = issues_after es is
issues_after (issues i ∷ es) is = issues_after es (is ++ i ∷ [])
issues_after (closes n end ∷ es) is = issues_after es (changed_at n (closed end) is)
issues_after (upgrades ∷ es) is = issues_after es is

pub issues_are : (es : List Edit) (s : State) → (all_edited es s).issues ≡ issues_after es s.issues
issues_are [] s = refl
issues_are (opens parent vars ∷ es) s = issues_are es (edited (opens parent vars) s)
issues_are (writes scope name text ∷ es) s = issues_are es (edited (writes scope name text) s)
issues_are (makes task ∷ es) s = issues_are es (edited (makes task) s)
issues_are (moves t task ∷ es) s = issues_are es (edited (moves t task) s)
issues_are (issues i ∷ es) s = issues_are es (edited (issues i) s)
issues_are (closes n end ∷ es) s = issues_are es (edited (closes n end) s)
issues_are (upgrades ∷ es) s = issues_are es (edited upgrades s)

quiet_issues : (es : List Edit) (is : List Issue) → IsQuiet es → issues_after es is ≡ is
quiet_issues [] is q = refl
quiet_issues (opens parent vars ∷ es) is q = quiet_issues es is q
quiet_issues (writes scope name text ∷ es) is q = quiet_issues es is q
quiet_issues (makes task ∷ es) is q = quiet_issues es is q
quiet_issues (moves t task ∷ es) is q = quiet_issues es is q
quiet_issues (issues i ∷ es) is q = absurd (clash false q refl)
quiet_issues (closes n end ∷ es) is q = absurd (clash false q refl)
quiet_issues (upgrades ∷ es) is q = absurd (clash false q refl)

-- ---- what each record's edits keep

-- what is known of what is shown
pub record Known (s : Shown) : Type 0 where
  pub runnable : IsRunnable s.given
  pub fit : AllFit s.given s.lists.tasks
  pub agree : Agree s.lists.tasks s.lists.issues

-- the tasks that are made and moved fit, and tasks and issues agree afterwards
pub record IsGood (s : Shown) (es : List Edit) : Type 0 where
  pub fit : AreFit s.given (length s.lists.tasks) es
  pub agree : Agree (tasks_after es s.lists.tasks) (issues_after es s.lists.issues)

here_runs : (s : Shown) (now t : ℕ) (task : Task) (step : Step) → Known s → slice_get s.lists.tasks t ≡ Some task → step_at s.given task.book task.step ≡ Some step → Runs (here_of s now t task step)
here_runs s now t task step k task_is step_is =
    let f : Fits s.given t task = k.fit t task task_is in
    record {
      runnable = k.runnable;
      book = f.book;
      book_is = f.book_is;
      step_is = sym (ap (option_and_then (λ (b : Book). slice_get b.steps task.step)) f.book_is) ∙ step_is;
      within = get_within s.lists.tasks t task task_is;
    }

some_both : {A : Type 0} (o : Option A) (P Q R : A → Type 0) → IfSome o P → IfSome o Q → ((x : A) → P x → Q x → R x) → IfSome o R
some_both None P Q R p q f = tt
some_both (Some x) P Q R p q f = f x p q

good_walked : (s : Shown) (now t : ℕ) (task : Task) (step : Step) (at : Phase) → Known s → slice_get s.lists.tasks t ≡ Some task → step_at s.given task.book task.step ≡ Some step → task.phase ≡ at
    → IsFreeOf at → IfSome (changes.walked (here_of s now t task step) at) (IsGood s)
good_walked s now t task step at k task_is step_is e free =
    let h : Here = here_of s now t task step in
    some_both (changes.walked h at) (λ es. IsCalm t es) (λ es. AreFit s.given (length s.lists.tasks) es × IsQuiet es) (IsGood s) (calm_walked h at)
    (some_both (changes.walked h at) (AreFit s.given (length s.lists.tasks)) IsQuiet (λ es. AreFit s.given (length s.lists.tasks) es × IsQuiet es) (fit_walked h (here_runs s now t task step k task_is step_is) at) (quiet_walked h at) (λ es f q. (f, q)))
    (λ es calm both. record {
      fit = both.0;
      agree = subst (Agree (tasks_after es s.lists.tasks)) (sym (quiet_issues es s.lists.issues both.1)) (agree_calm es s.lists.tasks s.lists.issues t task k.agree task_is (subst IsFreeOf (sym e) free) calm);
    })

walks : (s : Shown) (now t : ℕ) (task : Task) (step : Step) (at : Phase) → Known s → slice_get s.lists.tasks t ≡ Some task → step_at s.given task.book task.step ≡ Some step → task.phase ≡ at
    → IfSome (changes.walked (here_of s now t task step) at) (IsGood s)
walks s now t task step (phase.At since) k task_is step_is e = good_walked s now t task step (phase.At since) k task_is step_is e refl
walks s now t task step (phase.Joining from) k task_is step_is e = good_walked s now t task step (phase.Joining from) k task_is step_is e refl
walks s now t task step (phase.Sending n) k task_is step_is e = tt
walks s now t task step (phase.Awaiting place n) k task_is step_is e = tt
walks s now t task step (phase.Ended well) k task_is step_is e = tt

good_walk : (s : Shown) (now t : ℕ) → Known s → IfSome (changes.walk s now t) (IsGood s)
good_walk s now t k = some_at s now t (λ (h : Here). changes.walked h h.task.phase) (IsGood s) (λ task step task_is step_is. walks s now t task step task.phase k task_is step_is refl)

-- ---- Send and Ask

command_own : (h : Here) (place : Place) → IfSome (changes.command_at h place) (λ i. (i.task ≡ h.number) × (is_waiting i.phase ≡ true))
command_own h (to_operator content) = tt
command_own h (to_filter content to) = by content h.task.step_scope
  where
    filled : (o : Option (List ℕ)) → IfSome (option_and_then (λ (bytes : List ℕ). Some (changes.issue_with h (filter_of h.seen.given.agents to) bytes)) o) (λ i. (i.task ≡ h.number) × (is_waiting i.phase ≡ true))
    filled None = tt
    filled (Some bytes) = (refl, refl)

    by : (content : Option (List ℕ)) (scope : Option ℕ) → IfSome (option_and_then (λ (text : List ℕ). option_and_then (λ (n : ℕ). option_and_then (λ (bytes : List ℕ). Some (changes.issue_with h (filter_of h.seen.given.agents to) bytes)) (fill text h.seen.lists n h.seen.run (length h.seen.lists.issues))) scope) content) (λ i. (i.task ≡ h.number) × (is_waiting i.phase ≡ true))
    by None scope = tt
    by (Some text) None = tt
    by (Some text) (Some n) = filled (fill text h.seen.lists n h.seen.run (length h.seen.lists.issues))

question_own : (h : Here) (place : Place) → IfSome (changes.question_at h place) (λ i. (i.task ≡ h.number) × (is_waiting i.phase ≡ true))
question_own h (to_filter content to) = tt
question_own h (to_operator content) = by content h.task.step_scope
  where
    by : (content : Option (List ℕ)) (scope : Option ℕ) → IfSome (option_and_then (λ (text : List ℕ). option_and_then (λ (n : ℕ). Some (changes.issue_with h 0 (replaced h.seen.lists n text))) scope) content) (λ i. (i.task ≡ h.number) × (is_waiting i.phase ≡ true))
    by None scope = tt
    by (Some text) None = tt
    by (Some text) (Some n) = (refl, refl)

good_issuing : (s : Shown) (now t : ℕ) (task : Task) (step : Step) (i : Issue) (at : Phase) (place : Place) → Known s → slice_get s.lists.tasks t ≡ Some task → step_at s.given task.book task.step ≡ Some step
    → task.phase ≡ at → changes.place_at (here_of s now t task step) at ≡ Some place → (i.task ≡ t) × (is_waiting i.phase ≡ true) → IsGood s (changes.issuing (here_of s now t task step) i).1
good_issuing s now t task step i (phase.Sending n) place k task_is step_is e p own =
    let r = here_runs s now t task step k task_is step_is in
    let f : Fits s.given t task = k.fit t task task_is in
    let fits : FitsPhase t f.step task.step_scope (phase.Sending n) = subst (FitsPhase t f.step task.step_scope) e f.fits in
    let new : Task = in_phase task (phase.Awaiting (changes.place_number task.phase) (length s.lists.issues)) in
    record {
      fit = (record { book = f.book; step = f.step; book_is = f.book_is; step_is = f.step_is; fits = fits.0 }, tt);
      agree = agree_issue s.lists.tasks s.lists.issues t (changes.place_number task.phase) task new i k.agree task_is (ap is_free_of e) own.0 own.1 refl;
    }
good_issuing s now t task step i (phase.At since) place k task_is step_is e p own = absurd (none_place p)
  where
    none_place : None ≡ Some place → ⊥
    none_place g = cc
good_issuing s now t task step i (phase.Joining from) place k task_is step_is e p own = absurd (none_place p)
  where
    none_place : None ≡ Some place → ⊥
    none_place g = cc
good_issuing s now t task step i (phase.Awaiting q n) place k task_is step_is e p own = absurd (none_place p)
  where
    none_place : None ≡ Some place → ⊥
    none_place g = cc
good_issuing s now t task step i (phase.Ended well) place k task_is step_is e p own = absurd (none_place p)
  where
    none_place : None ≡ Some place → ⊥
    none_place g = cc

good_next : (s : Shown) (now t : ℕ) (issue_at : Here → Place → Option Issue) → ((h : Here) (place : Place) → IfSome (issue_at h place) (λ i. (i.task ≡ h.number) × (is_waiting i.phase ≡ true))) → Known s
    → IfSome (option_and_then (λ (h : Here). option_and_then (λ (place : Place). option_and_then (λ (issue : Issue). Some (changes.issuing h issue)) (issue_at h place)) (changes.place_at h h.task.phase)) (here_at s now t)) (λ made. IsGood s made.1)
good_next s now t issue_at own k =
    some_at s now t (λ (h : Here). option_and_then (λ (place : Place). option_and_then (λ (issue : Issue). Some (changes.issuing h issue)) (issue_at h place)) (changes.place_at h h.task.phase)) (λ made. IsGood s made.1) (λ task step task_is step_is.
    let h : Here = here_of s now t task step in
    some_option (changes.place_at h task.phase) (λ (place : Place). option_and_then (λ (issue : Issue). Some (changes.issuing h issue)) (issue_at h place)) (λ made. IsGood s made.1) (λ place place_is.
    some_from (issue_at h place) (λ (issue : Issue). Some (changes.issuing h issue)) (λ i. (i.task ≡ t) × (is_waiting i.phase ≡ true)) (λ made. IsGood s made.1) (own h place) (λ issue mine.
    good_issuing s now t task step issue task.phase place k task_is step_is refl place_is mine)))

good_send : (s : Shown) (now t n agent : ℕ) (bytes : List ℕ) → Known s → IfSome (changes.send s now t n agent bytes) (IsGood s)
good_send s now t n agent bytes k =
    some_from (changes.next_command s now t) (λ (made : Issuing). cond ((n == length s.lists.issues) && (agent == (made.0).agent) && bytes_eq bytes (made.0).bytes) (Some made.1) None) (λ made. IsGood s made.1) (IsGood s) (good_next s now t changes.command_at command_own k)
    (λ made h. some_if ((n == length s.lists.issues) && (agent == (made.0).agent) && bytes_eq bytes (made.0).bytes) (Some made.1) (IsGood s) h)

good_ask : (s : Shown) (now t n : ℕ) (bytes : List ℕ) → Known s → IfSome (changes.ask s now t n bytes) (IsGood s)
good_ask s now t n bytes k =
    some_from (changes.next_question s now t) (λ (made : Issuing). cond (s.lists.is_upgraded && (n == length s.lists.issues) && bytes_eq bytes (made.0).bytes) (Some made.1) None) (λ made. IsGood s made.1) (IsGood s) (good_next s now t changes.question_at question_own k)
    (λ made h. some_if (s.lists.is_upgraded && (n == length s.lists.issues) && bytes_eq bytes (made.0).bytes) (Some made.1) (IsGood s) h)

-- ---- Reply, Told and Expire

written_tasks : (s : Lists) (scope : ℕ) (ps : List (List ℕ × Option (List ℕ))) (es : List Edit) (ts : List Task) → tasks_after (flat_map (changes.written s scope) ps ++ es) ts ≡ tasks_after es ts
written_tasks s scope [] es ts = refl
written_tasks s scope (p ∷ ps) es ts =
    ap (λ (xs : List Edit). tasks_after xs ts) (append_assoc (changes.written s scope p) (flat_map (changes.written s scope) ps) es)
    ∙ one p (flat_map (changes.written s scope) ps ++ es) ∙ written_tasks s scope ps es ts
  where
    one : (p : List ℕ × Option (List ℕ)) (es : List Edit) → tasks_after (changes.written s scope p ++ es) ts ≡ tasks_after es ts
    one (name, None) es = refl
    one (name, Some text) es = by (home s.scopes scope name)
      where
        by : (o : Option ℕ) → tasks_after (option_map_or (λ at. writes at name text ∷ []) o [] ++ es) ts ≡ tasks_after es ts
        by None = refl
        by (Some at) = refl

written_issues : (s : Lists) (scope : ℕ) (ps : List (List ℕ × Option (List ℕ))) (es : List Edit) (is : List Issue) → issues_after (flat_map (changes.written s scope) ps ++ es) is ≡ issues_after es is
written_issues s scope [] es is = refl
written_issues s scope (p ∷ ps) es is =
    ap (λ (xs : List Edit). issues_after xs is) (append_assoc (changes.written s scope p) (flat_map (changes.written s scope) ps) es)
    ∙ one p (flat_map (changes.written s scope) ps ++ es) ∙ written_issues s scope ps es is
  where
    one : (p : List ℕ × Option (List ℕ)) (es : List Edit) → issues_after (changes.written s scope p ++ es) is ≡ issues_after es is
    one (name, None) es = refl
    one (name, Some text) es = by (home s.scopes scope name)
      where
        by : (o : Option ℕ) → issues_after (option_map_or (λ at. writes at name text ∷ []) o [] ++ es) is ≡ issues_after es is
        by None = refl
        by (Some at) = refl

-- an issue that waited ends, and its task stands so from then on
good_closed : (s : Shown) (n : ℕ) (end : IssuePhase) (i : Issue) (new : Task) → Known s → slice_get s.lists.issues n ≡ Some i → is_waiting i.phase ≡ true → is_waiting end ≡ false
    → Fits s.given i.task new → is_free_of new.phase ≡ true
    → (scope : ℕ) (ps : List (List ℕ × Option (List ℕ))) → IsGood s (closes n end ∷ (flat_map (changes.written s.lists scope) ps ++ moves i.task new ∷ []))
good_closed s n end i new k there waits over fits free scope ps = record {
  fit = fit_written s.given (length s.lists.tasks) s.lists scope ps (moves i.task new ∷ []) (fits, tt);
  agree = subst (λ (ts : List Task). Agree ts (issues_after (flat_map (changes.written s.lists scope) ps ++ moves i.task new ∷ []) (changed_at n (closed end) s.lists.issues))) (sym (written_tasks s.lists scope ps (moves i.task new ∷ []) s.lists.tasks))
      (subst (Agree (slice_set s.lists.tasks i.task new)) (sym (written_issues s.lists scope ps (moves i.task new ∷ []) (changed_at n (closed end) s.lists.issues)))
      (agree_close s.lists.tasks s.lists.issues n i end new k.agree there waits over free));
}

-- the task of an issue that ends
fits_after : (h : Here) (w : Waiting) (status : ℕ) → w.here ≡ h → Runs h → IsSome h.task.step_scope → Fits h.seen.given h.number (changes.after_answer w status)
fits_after h w status e r scope = subst (λ (x : Here). Runs x → IsSome x.task.step_scope → Fits x.seen.given x.number (changes.after_answer w status)) e inner_fits r scope
  where
    inner_fits : Runs w.here → IsSome w.here.task.step_scope → Fits w.here.seen.given w.here.number (changes.after_answer w status)
    inner_fits q some = by (not (status == 200)) (is_some (slice_get (places w.here.step.kind) (suc w.place))) refl
      where
        by : (a b : Bool) → is_some (slice_get (places w.here.step.kind) (suc w.place)) ≡ b
            → Fits w.here.seen.given w.here.number (cond a (finish w.here false) (cond b (in_phase w.here.task (phase.Sending (suc w.place))) (finish w.here true)))
        by true b e = fits_finish w.here w.here.number false q
        by false true e = record { book = q.book; step = w.here.step; book_is = q.book_is; step_is = q.step_is; fits = (some, e) }
        by false false e = fits_finish w.here w.here.number true q

after_free : (w : Waiting) (status : ℕ) → is_free_of (changes.after_answer w status).phase ≡ true
after_free w status = by (not (status == 200)) (is_some (slice_get (places w.here.step.kind) (suc w.place)))
  where
    by : (a b : Bool) → is_free_of (cond a (finish w.here false) (cond b (in_phase w.here.task (phase.Sending (suc w.place))) (finish w.here true))).phase ≡ true
    by true b = finish_free w.here false
    by false true = refl
    by false false = finish_free w.here true

good_answered : (s : Shown) (now n : ℕ) (end : IssuePhase) (status rule : ℕ) (text : List ℕ) (w : Waiting) → Known s → IsWaitingAt s now n w → is_waiting end ≡ false
    → IsGood s (changes.answered n end status rule text w)
good_answered s now n end status rule text w k at over =
    let h : Here = here_of s now (w.issue).task at.task at.step in
    let fits : Fits s.given (w.issue).task (changes.after_answer w status) = fits_after h w status at.here_is (here_runs s now (w.issue).task at.task at.step k at.task_is at.step_is) (ap is_some at.scope_is) in
    let good = good_closed s n end w.issue (changes.after_answer w status) k at.issue_is at.waits over fits (after_free w status) w.scope (changes.paired (changes.out_args_of w.here.step.kind) (changes.results status rule text)) in
    subst (λ (x : Here). IsGood s (closes n end ∷ (flat_map (changes.written x.seen.lists w.scope) (changes.paired (changes.out_args_of w.here.step.kind) (changes.results status rule text)) ++ moves x.number (changes.after_answer w status) ∷ []))) (sym at.here_is) good

good_reply : (s : Shown) (now n status rule : ℕ) (text : List ℕ) → Known s → IfSome (changes.reply s now n status rule text) (IsGood s)
good_reply s now n status rule text k =
    let f : Waiting → List Edit = changes.answered n (issue_phase.Answered status) status rule text in
    some_if (changes.is_answer status text) (option_map f (changes.waiting_filter_at s now n)) (IsGood s)
    (map_from (changes.waiting_filter_at s now n) f (IsWaitingAt s now n) (IsGood s) (filter_known s now n) (λ w at. good_answered s now n (issue_phase.Answered status) status rule text w k at refl))

good_tell : (s : Shown) (now n status : ℕ) (text : List ℕ) → Known s → IfSome (changes.tell s now n status text) (IsGood s)
good_tell s now n status text k =
    let f : Waiting → List Edit = changes.answered n (issue_phase.Told status) status 0 text in
    some_if (s.lists.is_upgraded && changes.is_answer status text) (option_map f (changes.waiting_at s now n)) (IsGood s)
    (map_from (changes.waiting_at s now n) f (IsWaitingAt s now n) (IsGood s) (waiting_known s now n) (λ w at. good_answered s now n (issue_phase.Told status) status 0 text w k at refl))

good_expire : (s : Shown) (now n : ℕ) → Known s → IfSome (changes.expire s now n) (IsGood s)
good_expire s now n k =
    some_from (changes.waiting_filter_at s now n) (changes.expired n) (IsWaitingAt s now n) (IsGood s) (filter_known s now n) (λ w at.
    some_if (nat_le ((w.issue).moment + w.here.step.timeout) w.here.now) (Some (closes n issue_phase.Expired ∷ changes.done w.here false)) (IsGood s) (expired w at))
  where
    expired : (w : Waiting) → IsWaitingAt s now n w → IsGood s (closes n issue_phase.Expired ∷ changes.done w.here false)
    expired w at =
        let h : Here = here_of s now (w.issue).task at.task at.step in
        let runs : Runs h = here_runs s now (w.issue).task at.task at.step k at.task_is at.step_is in
        subst (λ (x : Here). IsGood s (closes n issue_phase.Expired ∷ changes.done x false)) (sym at.here_is)
        (good_closed s n issue_phase.Expired w.issue (finish h false) k at.issue_is at.waits refl (fits_finish h (w.issue).task false runs) (finish_free h false) 0 [])

good_edits : (s : Shown) (r : Record) → Known s → IfSome (changes.edits_of s r) (IsGood s)
good_edits s (entry.Begin run moment books bind) k = tt
good_edits s (entry.Walk task moment) k = good_walk s moment task k
good_edits s (entry.Send task issue agent moment bytes) k = good_send s moment task issue agent bytes k
good_edits s (entry.Reply issue moment status rule text) k = good_reply s moment issue status rule text k
good_edits s (entry.Expire issue moment) k = good_expire s moment issue k
good_edits s (entry.Upgrade version moment) k =
    some_if ((version == 2) && is_none (changes.outcome s.lists) && not s.lists.is_upgraded) (Some (upgrades ∷ [])) (IsGood s) (record { fit = tt; agree = k.agree })
good_edits s (entry.Ask task issue moment bytes) k = good_ask s moment task issue bytes k
good_edits s (entry.Told issue moment status text) k = good_tell s moment issue status text k

pub change_good : (s : Shown) (r : Record) (edits : List Edit) → Known s → changes.change s r ≡ Some edits → IsGood s edits
change_good s r edits k e =
    subst (λ o. IfSome o (IsGood s)) e (some_if (changes.is_in_time s (changes.moment_of r)) (changes.edits_of s r) (IsGood s) (good_edits s r k))
