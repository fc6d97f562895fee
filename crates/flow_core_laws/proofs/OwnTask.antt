-- A record changes its own task alone.
use Rattle.std.proofs.Common.{◌≡◌, ◌⊎◌, ℕ, zero, suc, ◌+◌, ◌<◌, ◌≤◌, Bool, true, false, List, [], ◌∷◌, ◌++◌, length, Option, Some, None, arith, refl, ap, sym, subst, ◌∙◌, append_assoc, append-nil, length-append, inl, inr}
use Rattle.std.specs.Bool.{⊤}
use Rattle.std.specs.Prelude.{IsSomeAnd, option_and_then, slice_get}
use Rattle.std.specs.List.{AllByRecursion, slice_set}
use Rattle.run_records.specs.declared.record.Record.{Record}
use Rattle.run_records.specs.declared.record.Record.TheVariants as entry
use Rattle.cacao_vars.specs.declared.scoping.Scope.{Scope}
use Rattle.cacao_vars.specs.declared.scoping.Write.{Write}
use Rattle.cacao_vars.specs.Scopes.{home}
use Rattle.flow_core_rules.specs.declared.tasks.Task.{Task}
use Rattle.flow_core_rules.specs.declared.issues.Issue.{Issue}
use Rattle.flow_core_rules.specs.declared.issues.IssuePhase.{IssuePhase}
use Rattle.flow_core_rules.specs.declared.issues.IssuePhase.TheVariants as issue_phase
use Rattle.flow_core_rules.specs.State.{State, Shown, shown}
use Rattle.flow_core_rules.specs.Edits.{Edit, edited, all_edited, changed_at, closed}
use Rattle.flow_core_rules.specs.Edits.Edit.{opens, writes, makes, moves, issues, closes, upgrades}
use Rattle.flow_core_rules.specs.Changes.{moment_of}
use Rattle.flow_core_rules.specs.Runs.{Next, after}
use Rattle.flow_core_rules.specs.Laws.{issued_by}
use Rattle.flow_core_rules.proofs.RunLemmas.{some_inner}
use Rattle.flow_core_rules.proofs.QuietLemmas.{keeps_issues, keeps_given}
use Rattle.flow_core_rules.proofs.ShapeLemmas.{new_issue, Issued, IssueShape, change_shape}
use Rattle.flow_core_rules.proofs.IssueLemmas.{WasAt, get_push, get_below, get_changed, issued-after, closed-after}
use Rattle.flow_core_rules.proofs.KeepLemmas.{records_keep_issues}
use Rattle.flow_core_rules.proofs.TaskLemmas.{tasks_after, tasks_are, get_set, get_pushed, get_within, set_here, set_other, push_front}
use Rattle.flow_core_laws.specs.OwnTask.{owner_of, task_of, KeepsPlace, Goes, IsNewChild, MayMake, AreOfStep, MayOpen, home_for, IsInPlace, KeepsOtherIssues, UpgradesAlone, ChangesOwnTask, RecordsChangeOwnTask}
use Rattle.flow_core_laws.proofs.Somes.{none_some, clash}
use Rattle.flow_core_laws.proofs.OwnEdits.{IsAround, IsPlaced, AreOwn, OwnEdits}
use Rattle.flow_core_laws.proofs.OwnRecords.{OwnShape, change_own}

-- what edits open and write
abbrev opened_by : List Edit → List Scope
opened_by [] = []
opened_by (opens parent vars ∷ es) = (record { parent = parent; vars = vars }) ∷ opened_by es
opened_by (writes scope name text ∷ es) = opened_by es
opened_by (makes task ∷ es) = opened_by es
opened_by (moves n task ∷ es) = opened_by es
opened_by (issues issue ∷ es) = opened_by es
opened_by (closes i end ∷ es) = opened_by es
opened_by (upgrades ∷ es) = opened_by es

abbrev written_by : List Edit → List Write
written_by [] = []
written_by (opens parent vars ∷ es) = written_by es
written_by (writes scope name text ∷ es) = (record { scope = scope; name = name; worth = text }) ∷ written_by es
written_by (makes task ∷ es) = written_by es
written_by (moves n task ∷ es) = written_by es
written_by (issues issue ∷ es) = written_by es
written_by (closes i end ∷ es) = written_by es
written_by (upgrades ∷ es) = written_by es

one_more : {A : Type 0} (xs : List A) (x : A) (ys zs : List A) → zs ≡ (xs ++ x ∷ []) ++ ys → zs ≡ xs ++ x ∷ ys
one_more xs x ys zs e = e ∙ append_assoc xs (x ∷ []) ys

scopes_are : (es : List Edit) (x : State) → (all_edited es x).scopes ≡ x.scopes ++ opened_by es
scopes_are [] x = sym (append-nil x.scopes)
scopes_are (opens parent vars ∷ es) x =
    one_more x.scopes (record { parent = parent; vars = vars }) (opened_by es) (all_edited es (edited (opens parent vars) x)).scopes (scopes_are es (edited (opens parent vars) x))
scopes_are (writes scope name text ∷ es) x = scopes_are es (edited (writes scope name text) x)
scopes_are (makes task ∷ es) x = scopes_are es (edited (makes task) x)
scopes_are (moves n task ∷ es) x = scopes_are es (edited (moves n task) x)
scopes_are (issues issue ∷ es) x = scopes_are es (edited (issues issue) x)
scopes_are (closes i end ∷ es) x = scopes_are es (edited (closes i end) x)
scopes_are (upgrades ∷ es) x = scopes_are es (edited upgrades x)

writes_are : (es : List Edit) (x : State) → (all_edited es x).writes ≡ x.writes ++ written_by es
writes_are [] x = sym (append-nil x.writes)
writes_are (opens parent vars ∷ es) x = writes_are es (edited (opens parent vars) x)
writes_are (writes scope name text ∷ es) x =
    one_more x.writes (record { scope = scope; name = name; worth = text }) (written_by es) (all_edited es (edited (writes scope name text) x)).writes (writes_are es (edited (writes scope name text) x))
writes_are (makes task ∷ es) x = writes_are es (edited (makes task) x)
writes_are (moves n task ∷ es) x = writes_are es (edited (moves n task) x)
writes_are (issues issue ∷ es) x = writes_are es (edited (issues issue) x)
writes_are (closes i end ∷ es) x = writes_are es (edited (closes i end) x)
writes_are (upgrades ∷ es) x = writes_are es (edited upgrades x)

run_is : (es : List Edit) (x : State) → (all_edited es x).run ≡ x.run
run_is [] x = refl
run_is (opens parent vars ∷ es) x = run_is es (edited (opens parent vars) x)
run_is (writes scope name text ∷ es) x = run_is es (edited (writes scope name text) x)
run_is (makes task ∷ es) x = run_is es (edited (makes task) x)
run_is (moves n task ∷ es) x = run_is es (edited (moves n task) x)
run_is (issues issue ∷ es) x = run_is es (edited (issues issue) x)
run_is (closes i end ∷ es) x = run_is es (edited (closes i end) x)
run_is (upgrades ∷ es) x = run_is es (edited upgrades x)

-- ---- what edits of one task change

module _ (walks : Bool) (s : Shown) (now t : ℕ) (was : Task) where
  others_stay : (es : List Edit) (k : ℕ) (ts : List Task) (n : ℕ) (task : Task) → AreOwn walks s now t was k es → (n ≡ t → ⊥) → slice_get ts n ≡ Some task → slice_get (tasks_after es ts) n ≡ Some task
  others_stay [] k ts n task own apart e = e
  others_stay (opens parent vars ∷ es) k ts n task own apart e = others_stay es (suc k) ts n task own.2 apart e
  others_stay (writes scope name text ∷ es) k ts n task own apart e = others_stay es k ts n task own.1 apart e
  others_stay (makes new ∷ es) k ts n task own apart e = others_stay es k (ts ++ new ∷ []) n task own.2 apart (push_front ts new n task e)
  others_stay (moves m new ∷ es) k ts n task own apart e = others_stay es k (slice_set ts m new) n task own.2 apart (set_other ts m new n task (λ h. apart (h ∙ own.0)) e)
  others_stay (issues issue ∷ es) k ts n task own apart e = others_stay es k ts n task own apart e
  others_stay (closes i end ∷ es) k ts n task own apart e = others_stay es k ts n task own apart e
  others_stay (upgrades ∷ es) k ts n task own apart e = absurd own

  -- the task itself keeps its place
  own_stays : (es : List Edit) (k : ℕ) (ts : List Task) (task : Task) → AreOwn walks s now t was k es → slice_get ts t ≡ Some task → KeepsPlace was task
      → (new : Task) × (slice_get (tasks_after es ts) t ≡ Some new) × KeepsPlace was new
  own_stays [] k ts task own e place = (task, e, place)
  own_stays (opens parent vars ∷ es) k ts task own e place = own_stays es (suc k) ts task own.2 e place
  own_stays (writes scope name text ∷ es) k ts task own e place = own_stays es k ts task own.1 e place
  own_stays (makes new ∷ es) k ts task own e place = own_stays es k (ts ++ new ∷ []) task own.2 (push_front ts new t task e) place
  own_stays (moves m new ∷ es) k ts task own e place =
      own_stays es k (slice_set ts m new) new own.2 (subst (λ n. slice_get (slice_set ts n new) t ≡ Some new) (sym own.0) (set_here ts t new task e)) own.1
  own_stays (issues issue ∷ es) k ts task own e place = own_stays es k ts task own e place
  own_stays (closes i end ∷ es) k ts task own e place = own_stays es k ts task own e place
  own_stays (upgrades ∷ es) k ts task own e place = absurd own

  -- what is made by a task below so many is its children
  abbrev AreNew : ℕ → List Task → Type 0
  AreNew old ts = (n : ℕ) (task : Task) → old ≤ n → slice_get ts n ≡ Some task → (walks ≡ true) × IsNewChild t now task

  made_new : (es : List Edit) (k old : ℕ) (ts : List Task) → t < old → AreOwn walks s now t was k es → AreNew old ts → AreNew old (tasks_after es ts)
  made_new [] k old ts less own h = h
  made_new (opens parent vars ∷ es) k old ts less own h = made_new es (suc k) old ts less own.2 h
  made_new (writes scope name text ∷ es) k old ts less own h = made_new es k old ts less own.1 h
  made_new (makes new ∷ es) k old ts less own h = made_new es k old (ts ++ new ∷ []) less own.2 (λ n task le e. by n task le (get_pushed ts new task n e))
    where
      by : (n : ℕ) (task : Task) → old ≤ n → (slice_get ts n ≡ Some task) ⊎ ((n ≡ length ts) × (new ≡ task)) → (walks ≡ true) × IsNewChild t now task
      by n task le (inl e) = h n task le e
      by n task le (inr e) = (own.0, subst (IsNewChild t now) e.1 own.1)
  made_new (moves m new ∷ es) k old ts less own h = made_new es k old (slice_set ts m new) less own.2 (λ n task le e. by n task le (get_set ts m new n task e))
    where
      by : (n : ℕ) (task : Task) → old ≤ n → ((n ≡ m) × (new ≡ task)) ⊎ ((n ≡ m → ⊥) × (slice_get ts n ≡ Some task)) → (walks ≡ true) × IsNewChild t now task
      by n task le (inl e) = let here : n ≡ t = e.0 ∙ own.0 in absurd (omega arith)
      by n task le (inr e) = h n task le e.1
  made_new (issues issue ∷ es) k old ts less own h = made_new es k old ts less own h
  made_new (closes i end ∷ es) k old ts less own h = made_new es k old ts less own h
  made_new (upgrades ∷ es) k old ts less own h = absurd own

  -- the scopes that they open
  abbrev AreAround : ℕ → List Scope → Type 0
  AreAround k [] = ⊤
  AreAround k (scope ∷ others) = (walks ≡ true) × IsAround was k scope.parent × AreAround (suc k) others

  opens_around : (es : List Edit) (k : ℕ) → AreOwn walks s now t was k es → AreAround k (opened_by es)
  opens_around [] k own = tt
  opens_around (opens parent vars ∷ es) k own = (own.0, own.1, opens_around es (suc k) own.2)
  opens_around (writes scope name text ∷ es) k own = opens_around es k own.1
  opens_around (makes new ∷ es) k own = opens_around es k own.2
  opens_around (moves m new ∷ es) k own = opens_around es k own.2
  opens_around (issues issue ∷ es) k own = opens_around es k own
  opens_around (closes i end ∷ es) k own = opens_around es k own
  opens_around (upgrades ∷ es) k own = absurd own

  of_step : (scopes : List Scope) → AreAround 0 scopes → AreOfStep was scopes
  of_step [] h = tt
  of_step (a ∷ []) h = h.1
  of_step (a ∷ b ∷ []) h = (h.1, (h.2).1)
  of_step (a ∷ b ∷ c ∷ others) h = ((h.2).2).1

  none_opened : (scopes : List Scope) → walks ≡ false → AreAround 0 scopes → scopes ≡ []
  none_opened [] stands h = refl
  none_opened (a ∷ others) stands h = absurd (clash walks h.0 stands)

  -- where they write
  abbrev Lands : ℕ → Write → Type 0
  Lands m write =
      ((length s.lists.scopes ≤ write.scope) × (write.scope < length s.lists.scopes + m)) ⊎ IsSomeAnd was.step_scope (λ from. home s.lists.scopes from write.name ≡ Some write.scope)

  lands : (k m : ℕ) (scope : ℕ) (name text : List ℕ) → k ≤ m → IsPlaced s was k scope name → Lands m (record { scope = scope; name = name; worth = text })
  lands k m scope name text le (inl h) =
      let most = h.1 in
      let less : scope < length s.lists.scopes + m = omega arith in
      inl (h.0, less)
  lands k m scope name text le (inr h) = inr h

  all_land : (es : List Edit) (k m : ℕ) → k + length (opened_by es) ≤ m → AreOwn walks s now t was k es → AllByRecursion (Lands m) (written_by es)
  all_land [] k m le own = tt
  all_land (opens parent vars ∷ es) k m le own = let most : k + suc (length (opened_by es)) ≤ m = le in all_land es (suc k) m (omega arith) own.2
  all_land (writes scope name text ∷ es) k m le own = (lands k m scope name text (omega arith) own.0, all_land es k m le own.1)
  all_land (makes new ∷ es) k m le own = all_land es k m le own.2
  all_land (moves n new ∷ es) k m le own = all_land es k m le own.2
  all_land (issues issue ∷ es) k m le own = all_land es k m le own
  all_land (closes i end ∷ es) k m le own = all_land es k m le own
  all_land (upgrades ∷ es) k m le own = absurd own

  -- they do not upgrade
  keeps_mark : (es : List Edit) (k : ℕ) (x : State) → AreOwn walks s now t was k es → (all_edited es x).is_upgraded ≡ x.is_upgraded
  keeps_mark [] k x own = refl
  keeps_mark (opens parent vars ∷ es) k x own = keeps_mark es (suc k) (edited (opens parent vars) x) own.2
  keeps_mark (writes scope name text ∷ es) k x own = keeps_mark es k (edited (writes scope name text) x) own.1
  keeps_mark (makes new ∷ es) k x own = keeps_mark es k (edited (makes new) x) own.2
  keeps_mark (moves n new ∷ es) k x own = keeps_mark es k (edited (moves n new) x) own.2
  keeps_mark (issues issue ∷ es) k x own = keeps_mark es k (edited (issues issue) x) own
  keeps_mark (closes i end ∷ es) k x own = keeps_mark es k (edited (closes i end) x) own
  keeps_mark (upgrades ∷ es) k x own = absurd own

-- ---- what a record with edits of its own task changes

all_as : {A : Type 0} (P Q : A → Type 0) (xs : List A) → ((x : A) → P x → Q x) → AllByRecursion P xs → AllByRecursion Q xs
all_as P Q [] f h = tt
all_as P Q (x ∷ xs) f h = (f x h.0, all_as P Q xs f h.1)

record Own (s new : State) (walks : Bool) (now : ℕ) (own : Option ℕ) : Type 0 where
  others : (t : ℕ) (task : Task) → slice_get s.tasks t ≡ Some task → (own ≡ Some t → ⊥) → slice_get new.tasks t ≡ Some task
  its_own : (t : ℕ) → own ≡ Some t → Goes s new t
  made : (t : ℕ) (task : Task) → length s.tasks ≤ t → slice_get new.tasks t ≡ Some task → (walks ≡ true) × ((parent : ℕ) → own ≡ Some parent → IsNewChild parent now task)
  opened : List Scope
  written : List Write
  scopes_grow : new.scopes ≡ s.scopes ++ opened
  writes_grow : new.writes ≡ s.writes ++ written
  step_opens : (t : ℕ) → own ≡ Some t → IsSomeAnd (slice_get s.tasks t) (λ task. AreOfStep task opened)
  stands_opens : walks ≡ false → opened ≡ []
  in_place : AllByRecursion (IsInPlace s new own) written
  mark_stays : new.is_upgraded ≡ s.is_upgraded
  run_stays : new.run ≡ s.run
  given_stays : new.given ≡ s.given

own_changes : (s : State) (walks : Bool) (now : ℕ) (own : Option ℕ) (es : List Edit) → OwnEdits (shown s) walks now own es → Own s (after now es s) walks now own
own_changes s walks now own es o = record {
  others = λ n task e apart. back n task (others_stay walks (shown s) now o.number o.was es 0 s.tasks n task o.are (λ h. apart (o.number_is ∙ ap Some (sym h))) e);
  its_own = λ n e. goes n (some_inner o.number n (sym o.number_is ∙ e));
  made = λ n task le e. let h : (walks ≡ true) × IsNewChild o.number now task = made_new walks (shown s) now o.number o.was es 0 (length s.tasks) s.tasks (get_within s.tasks o.number o.was o.was_is) o.are (λ k x past there. absurd (too_far k x past there)) n task le (forth n task e) in
      (h.0, λ parent is. subst (λ k. IsNewChild k now task) (some_inner o.number parent (sym o.number_is ∙ is)) h.1);
  opened = opened_by es;
  written = written_by es;
  scopes_grow = scopes_are es s;
  writes_grow = writes_are es s;
  step_opens = λ n e. subst (λ k. IsSomeAnd (slice_get s.tasks k) (λ task. AreOfStep task (opened_by es))) (some_inner o.number n (sym o.number_is ∙ e))
      (subst (λ x. IsSomeAnd x (λ task. AreOfStep task (opened_by es))) (sym o.was_is) (of_step walks (shown s) now o.number o.was (opened_by es) around));
  stands_opens = λ stands. none_opened walks (shown s) now o.number o.was (opened_by es) stands around;
  in_place = all_as (Lands walks (shown s) now o.number o.was (length (opened_by es))) (IsInPlace s (after now es s) own) (written_by es) (λ write h. placed write h)
      (all_land walks (shown s) now o.number o.was es 0 (length (opened_by es)) (omega arith) o.are);
  mark_stays = keeps_mark walks (shown s) now o.number o.was es 0 s o.are;
  run_stays = run_is es s;
  given_stays = keeps_given es s;
}
  where
    around : AreAround walks (shown s) now o.number o.was 0 (opened_by es)
    around = opens_around walks (shown s) now o.number o.was es 0 o.are

    back : (n : ℕ) (task : Task) → slice_get (tasks_after es s.tasks) n ≡ Some task → slice_get (all_edited es s).tasks n ≡ Some task
    back n task e = subst (λ (ts : List Task). slice_get ts n ≡ Some task) (sym (tasks_are es s)) e

    forth : (n : ℕ) (task : Task) → slice_get (all_edited es s).tasks n ≡ Some task → slice_get (tasks_after es s.tasks) n ≡ Some task
    forth n task e = subst (λ (ts : List Task). slice_get ts n ≡ Some task) (tasks_are es s) e

    too_far : (k : ℕ) (x : Task) → length s.tasks ≤ k → slice_get s.tasks k ≡ Some x → ⊥
    too_far k x past there = let less : k < length s.tasks = get_within s.tasks k x there in omega arith

    goes : (n : ℕ) → o.number ≡ n → Goes s (after now es s) n
    goes n same =
        let kept = own_stays walks (shown s) now o.number o.was es 0 s.tasks o.was o.are o.was_is (refl, refl, refl) in
        subst (Goes s (after now es s)) same (record { was = o.was; now = kept.0; was_is = o.was_is; now_is = back o.number kept.0 kept.1; goes_on = o.goes_on; keeps = kept.2 })

    grown : length (all_edited es s).scopes ≡ length s.scopes + length (opened_by es)
    grown = ap (λ (ss : List Scope). length ss) (scopes_are es s) ∙ length-append s.scopes (opened_by es)

    seen_from : (write : Write) → (scope : Option ℕ) → (o.was).step_scope ≡ scope → IsSomeAnd scope (λ from. home s.scopes from write.name ≡ Some write.scope) → home_for s own write.name ≡ Some write.scope
    seen_from write None at h = absurd h
    seen_from write (Some scope) at h =
        ap (λ x. option_and_then (λ from. home s.scopes from write.name) (option_and_then (λ (task : Task). task.step_scope) (option_and_then (slice_get s.tasks) x))) o.number_is
        ∙ ap (λ x. option_and_then (λ from. home s.scopes from write.name) (option_and_then (λ (task : Task). task.step_scope) x)) o.was_is
        ∙ ap (option_and_then (λ from. home s.scopes from write.name)) at
        ∙ h

    placed : (write : Write) → Lands walks (shown s) now o.number o.was (length (opened_by es)) write → IsInPlace s (after now es s) own write
    placed write (inl h) = inl (h.0, subst (λ n. write.scope < n) (sym grown) h.1)
    placed write (inr h) = inr (seen_from write (o.was).step_scope refl h)

-- ---- issues that are added

past_end : {A : Type 0} (xs : List A) (n : ℕ) (x : A) → length xs ≤ n → slice_get xs n ≡ Some x → ⊥
past_end xs n x le e = let less : n < length xs = get_below xs n x e in omega arith

abbrev AreAdded : State → List Issue → Record → Type 0
AreAdded s is r = (n : ℕ) (issue : Issue) → length s.issues ≤ n → slice_get is n ≡ Some issue → (issued_by r ≡ Some n) × (task_of (shown s) r ≡ Some issue.task)

none_added : (s : State) (r : Record) (is : List Issue) → is ≡ s.issues → AreAdded s is r
none_added s r is e n issue le there = absurd (past_end s.issues n issue le (subst (λ (xs : List Issue). slice_get xs n ≡ Some issue) e there))

none_closed : (s : State) (r : Record) (is : List Issue) (k : ℕ) (end : IssuePhase) → is ≡ changed_at k (closed end) s.issues → AreAdded s is r
none_closed s r is k end e n issue le there =
    let was : WasAt s.issues k (closed end) n issue = get_changed k (closed end) s.issues n issue (subst (λ (xs : List Issue). slice_get xs n ≡ Some issue) e there) in
    absurd (past_end s.issues n was.was le was.was_is)

one_added : (s : State) (r : Record) (is : List Issue) (new : Issue) → issued_by r ≡ Some (length s.issues) → task_of (shown s) r ≡ Some new.task → is ≡ s.issues ++ new ∷ [] → AreAdded s is r
one_added s r is new number owner e n issue le there = by (get_push s.issues new issue n (subst (λ (xs : List Issue). slice_get xs n ≡ Some issue) e there))
  where
    by : (slice_get s.issues n ≡ Some issue) ⊎ ((n ≡ length s.issues) × (new ≡ issue)) → (issued_by r ≡ Some n) × (task_of (shown s) r ≡ Some issue.task)
    by (inl h) = absurd (past_end s.issues n issue le h)
    by (inr h) = (number ∙ ap Some (sym h.0), owner ∙ ap (λ (x : Issue). Some x.task) h.1)

added : (s : State) (r : Record) (es : List Edit) → IssueShape (shown s) r es → AreAdded s (all_edited es s).issues r
added s (entry.Begin run moment books bind) es shape = absurd shape
added s (entry.Walk task moment) es shape = none_added s (entry.Walk task moment) (all_edited es s).issues (keeps_issues es s shape)
added s (entry.Send task n agent moment bytes) es shape =
    let i : Issued (shown s) task n agent moment bytes es = shape.issued in
    one_added s (entry.Send task n agent moment bytes) (all_edited es s).issues (new_issue task agent moment bytes) (ap Some i.number_is) refl
    (issued-after es i.rest s (new_issue task agent moment bytes) i.edits_are i.quiet)
added s (entry.Ask task n moment bytes) es shape =
    one_added s (entry.Ask task n moment bytes) (all_edited es s).issues (new_issue task 0 moment bytes) (ap Some shape.number_is) refl
    (issued-after es shape.rest s (new_issue task 0 moment bytes) shape.edits_are shape.quiet)
added s (entry.Upgrade version moment) es shape =
    none_added s (entry.Upgrade version moment) (all_edited es s).issues (ap (λ (xs : List Edit). (all_edited xs s).issues) shape)
added s (entry.Reply n moment status rule text) es shape =
    none_closed s (entry.Reply n moment status rule text) (all_edited es s).issues n (issue_phase.Answered status) (closed-after es shape.rest s n (issue_phase.Answered status) shape.edits_are shape.quiet)
added s (entry.Told n moment status text) es shape =
    none_closed s (entry.Told n moment status text) (all_edited es s).issues n (issue_phase.Told status) (closed-after es shape.rest s n (issue_phase.Told status) shape.edits_are shape.quiet)
added s (entry.Expire n moment) es shape =
    none_closed s (entry.Expire n moment) (all_edited es s).issues n issue_phase.Expired (closed-after es shape.rest s n issue_phase.Expired shape.edits_are shape.quiet)

changed_length : {A : Type 0} (n : ℕ) (f : A → A) (xs : List A) → length (changed_at n f xs) ≡ length xs
changed_length n f [] = refl
changed_length zero f (x ∷ xs) = refl
changed_length (suc n) f (x ∷ xs) = ap suc (changed_length n f xs)

some_none : {A : Type 0} (x : A) → Some x ≡ None → ⊥
some_none x h = cc

same_count : (s : State) (r : Record) (es : List Edit) → IssueShape (shown s) r es → issued_by r ≡ None → length (all_edited es s).issues ≡ length s.issues
same_count s (entry.Begin run moment books bind) es shape quiet = absurd shape
same_count s (entry.Walk task moment) es shape quiet = ap (λ (is : List Issue). length is) (keeps_issues es s shape)
same_count s (entry.Send task n agent moment bytes) es shape quiet = absurd (some_none n quiet)
same_count s (entry.Ask task n moment bytes) es shape quiet = absurd (some_none n quiet)
same_count s (entry.Upgrade version moment) es shape quiet = ap (λ (xs : List Edit). length (all_edited xs s).issues) shape
same_count s (entry.Reply n moment status rule text) es shape quiet =
    ap (λ (is : List Issue). length is) (closed-after es shape.rest s n (issue_phase.Answered status) shape.edits_are shape.quiet) ∙ changed_length n (closed (issue_phase.Answered status)) s.issues
same_count s (entry.Told n moment status text) es shape quiet =
    ap (λ (is : List Issue). length is) (closed-after es shape.rest s n (issue_phase.Told status) shape.edits_are shape.quiet) ∙ changed_length n (closed (issue_phase.Told status)) s.issues
same_count s (entry.Expire n moment) es shape quiet =
    ap (λ (is : List Issue). length is) (closed-after es shape.rest s n issue_phase.Expired shape.edits_are shape.quiet) ∙ changed_length n (closed issue_phase.Expired) s.issues

-- ---- the law

-- the law from its parts, of which three go by the kind of the record
from_parts : (s new : State) (r : Record) (walks : Bool) (o : Own s new walks (moment_of r) (task_of (shown s) r)) → KeepsOtherIssues s new r (task_of (shown s) r) → new.moment ≡ moment_of r
    → ((t : ℕ) (task : Task) → length s.tasks ≤ t → slice_get new.tasks t ≡ Some task → MayMake r task) → MayOpen s r o.opened → UpgradesAlone s new r
    → ChangesOwnTask s new r (task_of (shown s) r)
from_parts s new r walks o kept moment made open_ upgrade = record {
  tasks = record { others = o.others; its_own = o.its_own; made = made };
  texts = record { opened = o.opened; written = o.written; scopes_are = o.scopes_grow; writes_are = o.writes_grow; may_open = open_; in_place = o.in_place };
  issues = kept;
  upgrade = upgrade;
  moment = moment;
  run = o.run_stays;
  given = o.given_stays;
}

made_none : {X : Type 0} → (false ≡ true) × X → ⊥
made_none h = clash false h.0 refl

of_upgrade : (s : State) (version moment : ℕ) → KeepsOtherIssues s (record s { moment = moment; is_upgraded = true }) (entry.Upgrade version moment) None
    → ChangesOwnTask s (record s { moment = moment; is_upgraded = true }) (entry.Upgrade version moment) None
of_upgrade s version moment kept = record {
  tasks = record { others = λ t task e apart. e; its_own = λ t e. absurd (none_some t e); made = λ t task le e. past_end s.tasks t task le e };
  texts = record { opened = []; written = []; scopes_are = sym (append-nil s.scopes); writes_are = sym (append-nil s.writes); may_open = refl; in_place = tt };
  issues = kept;
  upgrade = refl;
  moment = refl;
  run = refl;
  given = refl;
}

changed : (s : State) (r : Record) (es : List Edit) → OwnShape (shown s) r es → KeepsOtherIssues s (after (moment_of r) es s) r (task_of (shown s) r)
    → ChangesOwnTask s (after (moment_of r) es s) r (task_of (shown s) r)
changed s (entry.Begin run moment books bind) es shape kept = absurd shape
changed s (entry.Walk task moment) es shape kept =
    let o : Own s (after moment es s) true moment (Some task) = own_changes s true moment (Some task) es shape in
    from_parts s (after moment es s) (entry.Walk task moment) true o kept refl (λ n x le e. (o.made n x le e).1 task refl) (o.step_opens task refl) o.mark_stays
changed s (entry.Upgrade version moment) es shape kept =
    subst (λ (xs : List Edit). KeepsOtherIssues s (after moment xs s) (entry.Upgrade version moment) None → ChangesOwnTask s (after moment xs s) (entry.Upgrade version moment) None) (sym shape)
    (of_upgrade s version moment) kept
changed s (entry.Send task n agent moment bytes) es shape kept =
    let o : Own s (after moment es s) false moment (Some task) = own_changes s false moment (Some task) es shape in
    from_parts s (after moment es s) (entry.Send task n agent moment bytes) false o kept refl (λ k x le e. made_none (o.made k x le e)) (o.stands_opens refl) o.mark_stays
changed s (entry.Ask task n moment bytes) es shape kept =
    let o : Own s (after moment es s) false moment (Some task) = own_changes s false moment (Some task) es shape in
    from_parts s (after moment es s) (entry.Ask task n moment bytes) false o kept refl (λ k x le e. made_none (o.made k x le e)) (o.stands_opens refl) o.mark_stays
changed s (entry.Reply n moment status rule text) es shape kept =
    let o : Own s (after moment es s) false moment (owner_of (shown s) n) = own_changes s false moment (owner_of (shown s) n) es shape in
    from_parts s (after moment es s) (entry.Reply n moment status rule text) false o kept refl (λ k x le e. made_none (o.made k x le e)) (o.stands_opens refl) o.mark_stays
changed s (entry.Told n moment status text) es shape kept =
    let o : Own s (after moment es s) false moment (owner_of (shown s) n) = own_changes s false moment (owner_of (shown s) n) es shape in
    from_parts s (after moment es s) (entry.Told n moment status text) false o kept refl (λ k x le e. made_none (o.made k x le e)) (o.stands_opens refl) o.mark_stays
changed s (entry.Expire n moment) es shape kept =
    let o : Own s (after moment es s) false moment (owner_of (shown s) n) = own_changes s false moment (owner_of (shown s) n) es shape in
    from_parts s (after moment es s) (entry.Expire n moment) false o kept refl (λ k x le e. made_none (o.made k x le e)) (o.stands_opens refl) o.mark_stays

pub records_change_own_task : RecordsChangeOwnTask
records_change_own_task s new r next =
    let there : State = after (moment_of r) next.edits s in
    let again : Next s r there = record { edits = next.edits; change_is = next.change_is; new_is = refl } in
    subst (λ (x : State). ChangesOwnTask s x r (task_of (shown s) r)) (sym next.new_is)
    (changed s r next.edits (change_own (shown s) r next.edits next.change_is) (record {
      kept = records_keep_issues s there r again;
      added = added s r next.edits (change_shape (shown s) r next.edits next.change_is);
      none_added = same_count s r next.edits (change_shape (shown s) r next.edits next.change_is);
    }))
