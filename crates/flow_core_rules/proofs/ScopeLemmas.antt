-- The scopes of each state of a run, whatever it is given: those of its tasks are there, and the one around each is an earlier one.
use Rattle.std.proofs.Common.{◌≡◌, ◌⊎◌, ℕ, suc, ◌+◌, ◌<◌, ◌≤◌, ◌==◌, ◌&&◌, Bool, true, false, cond, List, [], ◌∷◌, ◌++◌, length, Option, Some, None, arith, refl, ap, sym, subst, ◌∙◌, append_assoc, length-append, inl, inr}
use Rattle.std.specs.Bool.{⊤}
use Rattle.std.specs.Prelude.{IfSome, is_none, is_some, option_and_then, option_map, map, slice_get, not, nat_le}
use Rattle.std.specs.List.{flat_map, list_any, list_all, slice_set}
use Rattle.std.specs.Option.{option_map_or}
use Rattle.std.specs.Str.{bytes_eq}
use Rattle.cacao_vars.specs.declared.scoping.Scope.{Scope}
use Rattle.cacao_vars.specs.Scopes.{home}
use Rattle.run_records.specs.declared.record.Record.{Record}
use Rattle.run_records.specs.declared.record.Record.TheVariants as entry
use Rattle.cacao_book.specs.declared.books.Book.{Book}
use Rattle.cacao_book.specs.declared.step_kinds.StepKind.{StepKind}
use Rattle.cacao_book.specs.declared.step_kinds.StepKind.TheVariants as does
use Rattle.flow_core_rules.specs.declared.tasks.Task.{Task}
use Rattle.flow_core_rules.specs.declared.issues.Issue.{Issue}
use Rattle.flow_core_rules.specs.declared.issues.IssuePhase.{IssuePhase}
use Rattle.flow_core_rules.specs.declared.issues.IssuePhase.TheVariants as issue_phase
use Rattle.flow_core_rules.specs.declared.phases.Phase.{Phase}
use Rattle.flow_core_rules.specs.declared.phases.Phase.TheVariants as phase
use Rattle.flow_core_rules.specs.Givens.{Given, book_with}
use Rattle.flow_core_rules.specs.State.{State, Lists, Shown, shown}
use Rattle.flow_core_rules.specs.Edits.{Edit, edited, all_edited}
use Rattle.flow_core_rules.specs.Edits.Edit.{opens, writes, makes, moves, issues, closes, upgrades}
use Rattle.flow_core_rules.specs.Conditions.{heads, is_true}
use Rattle.flow_core_rules.specs.Places.{Place, places}
use Rattle.flow_core_rules.specs.Tasks.{Here, here_at, go, finish, child, next_key, exception_of, in_phase}
use Rattle.flow_core_rules.specs.Changes as changes
use Rattle.flow_core_rules.specs.Changes.{Waiting, Issuing}
use Rattle.flow_core_rules.specs.Runs.{Next, after, begun, blank, first_task}
use Rattle.flow_core_rules.proofs.RunLemmas.{some_inner}
use Rattle.flow_core_rules.proofs.PlacedLemmas.{some_then, some_if, some_map, some_from, map_from, two_ways}
use Rattle.flow_core_rules.proofs.HereLemmas.{here_of, some_at, some_option, IsWaitingAt, waiting_known}
use Rattle.flow_core_rules.proofs.ShapeLemmas.{filter_known}
use Rattle.flow_core_rules.proofs.TaskLemmas.{tasks_after, tasks_are, get_set, get_pushed}

-- ---- what holds of scopes and tasks

-- the scopes of a task are among so many
abbrev pub IsScoped : ℕ → Task → Type 0
IsScoped n task = (task.scope < n) × IfSome task.step_scope (λ k. k < n)

pub record AllScoped (scopes : List Scope) (ts : List Task) : Type 0 where
  pub tasks : (t : ℕ) (task : Task) → slice_get ts t ≡ Some task → IsScoped (length scopes) task
  pub around : (n : ℕ) (scope : Scope) → slice_get scopes n ≡ Some scope → IfSome scope.parent (λ k. k < n)

-- edits that keep it, where there are so many scopes
abbrev pub AreScoped : ℕ → List Edit → Type 0
AreScoped n [] = ⊤
AreScoped n (opens parent vars ∷ es) = IfSome parent (λ k. k < n) × AreScoped (suc n) es
AreScoped n (writes scope name text ∷ es) = AreScoped n es
AreScoped n (makes task ∷ es) = IsScoped n task × AreScoped n es
AreScoped n (moves t task ∷ es) = IsScoped n task × AreScoped n es
AreScoped n (issues issue ∷ es) = AreScoped n es
AreScoped n (closes i end ∷ es) = AreScoped n es
AreScoped n (upgrades ∷ es) = AreScoped n es

abbrev pub scopes_after : List Edit → List Scope → List Scope
scopes_after [] ss = ss
scopes_after (opens parent vars ∷ es) ss = scopes_after es (ss ++ (record { parent = parent; vars = vars }) ∷ [])
scopes_after (writes scope name text ∷ es) ss = scopes_after es ss
scopes_after (makes task ∷ es) ss = scopes_after es ss
scopes_after (moves t task ∷ es) ss = scopes_after es ss
scopes_after (issues issue ∷ es) ss = scopes_after es ss
scopes_after (closes i end ∷ es) ss = scopes_after es ss
scopes_after (upgrades ∷ es) ss = scopes_after es ss

scopes_are : (es : List Edit) (s : State) → (all_edited es s).scopes ≡ scopes_after es s.scopes
scopes_are [] s = refl
scopes_are (opens parent vars ∷ es) s = scopes_are es (edited (opens parent vars) s)
scopes_are (writes scope name text ∷ es) s = scopes_are es (edited (writes scope name text) s)
scopes_are (makes task ∷ es) s = scopes_are es (edited (makes task) s)
scopes_are (moves t task ∷ es) s = scopes_are es (edited (moves t task) s)
scopes_are (issues issue ∷ es) s = scopes_are es (edited (issues issue) s)
scopes_are (closes i end ∷ es) s = scopes_are es (edited (closes i end) s)
scopes_are (upgrades ∷ es) s = scopes_are es (edited upgrades s)

more : (o : Option ℕ) (n m : ℕ) → n ≤ m → IfSome o (λ k. k < n) → IfSome o (λ k. k < m)
more None n m le h = tt
more (Some k) n m le h = omega arith

more_scoped : (task : Task) (n m : ℕ) → n ≤ m → IsScoped n task → IsScoped m task
more_scoped task n m le h = let less = h.0 in (omega arith, more task.step_scope n m le h.1)

open_scoped : (ss : List Scope) (ts : List Task) (new : Scope) → AllScoped ss ts → IfSome new.parent (λ k. k < length ss) → AllScoped (ss ++ new ∷ []) ts
open_scoped ss ts new a inside = record {
  tasks = λ t task e. more_scoped task (length ss) (length (ss ++ new ∷ [])) (omega (arith, length-append ss (new ∷ []))) (a.tasks t task e);
  around = λ n scope e. around n scope (get_pushed ss new scope n e);
}
  where
    around : (n : ℕ) (scope : Scope) → (slice_get ss n ≡ Some scope) ⊎ ((n ≡ length ss) × (new ≡ scope)) → IfSome scope.parent (λ k. k < n)
    around n scope (inl e) = a.around n scope e
    around n scope (inr e) = subst (λ (x : Scope). IfSome x.parent (λ k. k < n)) e.1 (subst (λ m. IfSome new.parent (λ k. k < m)) (sym e.0) inside)

pub scoped_after : (es : List Edit) (ss : List Scope) (ts : List Task) → AllScoped ss ts → AreScoped (length ss) es → AllScoped (scopes_after es ss) (tasks_after es ts)
scoped_after [] ss ts a h = a
scoped_after (opens parent vars ∷ es) ss ts a h =
    let new : Scope = record { parent = parent; vars = vars } in
    let grown : length (ss ++ new ∷ []) ≡ suc (length ss) = omega (arith, length-append ss (new ∷ [])) in
    scoped_after es (ss ++ new ∷ []) ts (open_scoped ss ts new a h.0) (subst (λ n. AreScoped n es) (sym grown) h.1)
scoped_after (writes scope name text ∷ es) ss ts a h = scoped_after es ss ts a h
scoped_after (makes task ∷ es) ss ts a h =
    scoped_after es ss (ts ++ task ∷ []) (record { tasks = λ t x e. by t x (get_pushed ts task x t e); around = a.around }) h.1
  where
    by : (t : ℕ) (x : Task) → (slice_get ts t ≡ Some x) ⊎ ((t ≡ length ts) × (task ≡ x)) → IsScoped (length ss) x
    by t x (inl e) = a.tasks t x e
    by t x (inr e) = subst (IsScoped (length ss)) e.1 h.0
scoped_after (moves n task ∷ es) ss ts a h =
    scoped_after es ss (slice_set ts n task) (record { tasks = λ t x e. by t x (get_set ts n task t x e); around = a.around }) h.1
  where
    by : (t : ℕ) (x : Task) → ((t ≡ n) × (task ≡ x)) ⊎ ((t ≡ n → ⊥) × (slice_get ts t ≡ Some x)) → IsScoped (length ss) x
    by t x (inl e) = subst (IsScoped (length ss)) e.1 h.0
    by t x (inr e) = a.tasks t x e.1
scoped_after (issues issue ∷ es) ss ts a h = scoped_after es ss ts a h
scoped_after (closes i end ∷ es) ss ts a h = scoped_after es ss ts a h
scoped_after (upgrades ∷ es) ss ts a h = scoped_after es ss ts a h

-- ---- the edits of each record

finish_scoped : (n : ℕ) (h : Here) (well : Bool) → IsScoped n h.task → IsScoped n (finish h well)
finish_scoped n h well s = by (next_key h.step well) well (exception_of h.seen h.task)
  where
    by : (o : Option (List ℕ)) (b : Bool) (x : Option (List ℕ))
        → IsScoped n (option_map_or (go h.seen.given h.now h.task) o (cond b (in_phase h.task (phase.Ended true)) (option_map_or (λ key. record (go h.seen.given h.now h.task key) { excepted = true }) x (in_phase h.task (phase.Ended false)))))
    by (Some key) b x = (s.0, tt)
    by None true x = s
    by None false None = s
    by None false (Some key) = (s.0, tt)

done_scoped : (n : ℕ) (h : Here) (well : Bool) → IsScoped n h.task → AreScoped n (changes.done h well)
done_scoped n h well s = (finish_scoped n h well s, tt)

written_scoped : (n : ℕ) (s : Lists) (scope : ℕ) (ps : List (List ℕ × Option (List ℕ))) (es : List Edit) → AreScoped n es → AreScoped n (flat_map (changes.written s scope) ps ++ es)
written_scoped n s scope [] es h = h
written_scoped n s scope (p ∷ ps) es h =
    subst (AreScoped n) (sym (append_assoc (changes.written s scope p) (flat_map (changes.written s scope) ps) es))
    (one p (flat_map (changes.written s scope) ps ++ es) (written_scoped n s scope ps es h))
  where
    one : (p : List ℕ × Option (List ℕ)) (es : List Edit) → AreScoped n es → AreScoped n (changes.written s scope p ++ es)
    one (name, None) es h = h
    one (name, Some text) es h = by (home s.scopes scope name)
      where
        by : (o : Option ℕ) → AreScoped n (option_map_or (λ at. writes at name text ∷ []) o [] ++ es)
        by None = h
        by (Some at) = h

bound_scoped : (n scope : ℕ) (ps : List (List ℕ × Option (List ℕ))) (es : List Edit) → AreScoped n es → AreScoped n (flat_map (changes.binding scope) ps ++ es)
bound_scoped n scope [] es h = h
bound_scoped n scope (p ∷ ps) es h =
    subst (AreScoped n) (sym (append_assoc (changes.binding scope p) (flat_map (changes.binding scope) ps) es))
    (one p (flat_map (changes.binding scope) ps ++ es) (bound_scoped n scope ps es h))
  where
    one : (p : List ℕ × Option (List ℕ)) (es : List Edit) → AreScoped n es → AreScoped n (changes.binding scope p ++ es)
    one (name, None) es h = h
    one (name, Some text) es h = h

made_scoped : (n scope book : ℕ) (h : Here) (keys : List (List ℕ)) → scope < n → AreScoped n (map (λ key. makes (child h book scope key)) keys)
made_scoped n scope book h [] less = tt
made_scoped n scope book h (key ∷ keys) less = ((less, tt), made_scoped n scope book h keys less)

branched_scoped : (n scope : ℕ) (h : Here) (keys : List (List ℕ)) → IsScoped n h.task → scope < n → AreScoped n (changes.branched h scope keys)
branched_scoped n scope h [] s less = done_scoped n h true s
branched_scoped n scope h (key ∷ keys) s less = (s, made_scoped n scope h.task.book h (key ∷ keys) less)

-- the task inside its step's scope
inside_scoped : (h : Here) → IsScoped (length h.seen.lists.scopes) h.task → IsScoped (suc (length h.seen.lists.scopes)) (changes.inside h).task
inside_scoped h s = let less = s.0 in (omega arith, omega arith)

controlled_scoped : (h : Here) (kind : StepKind) → IsScoped (length h.seen.lists.scopes) h.task → AreScoped (length h.seen.lists.scopes) (changes.controlled h kind)
controlled_scoped h kind s =
    let n : ℕ = length h.seen.lists.scopes in
    (s.0, branched_scoped (suc n) n (changes.inside h) (heads (changes.inside h).seen.lists n kind) (inside_scoped h s) (omega arith))

entered_scoped : (h : Here) (kind : StepKind) → IsScoped (length h.seen.lists.scopes) h.task → IfSome (changes.entered h kind) (AreScoped (length h.seen.lists.scopes))
entered_scoped h does.Start s = done_scoped (length h.seen.lists.scopes) h true s
entered_scoped h does.End s = (s, tt)
entered_scoped h (does.Action a b c d e) s = (s.0, (inside_scoped h s, tt))
entered_scoped h (does.PlaybookAction playbook version in_args out_args) s =
    let n : ℕ = length h.seen.lists.scopes in
    some_map (book_with h.seen.given playbook) (λ theirs. changes.opening h ∷ changes.called (changes.inside h) n in_args theirs) (AreScoped n) (λ theirs. (
      s.0,
      (
        tt {0},
        bound_scoped (suc (suc n)) (suc n) (changes.valued (changes.inside h).seen.lists n in_args)
            (moves h.number (changes.joining (changes.inside h)) ∷ makes (child (changes.inside h) theirs.0 (suc n) (theirs.1).start) ∷ [])
            (more_scoped (changes.inside h).task (suc n) (suc (suc n)) (omega arith) (inside_scoped h s), ((omega arith, tt), tt)),
      ),
    ))
entered_scoped h (does.Parallel a) s = controlled_scoped h (does.Parallel a) s
entered_scoped h (does.If a b c) s = controlled_scoped h (does.If a b c) s
entered_scoped h (does.While a b) s = controlled_scoped h (does.While a b) s
entered_scoped h (does.Switch a b) s = controlled_scoped h (does.Switch a b) s

choice_scoped : (n : ℕ) (b : Bool) (xs ys : List Edit) → AreScoped n xs → AreScoped n ys → AreScoped n (cond b xs ys)
choice_scoped n true xs ys a b = a
choice_scoped n false xs ys a b = b

rejoined_scoped : (n : ℕ) (h : Here) (from scope : ℕ) (kind : StepKind) → IsScoped n h.task → scope < n → AreScoped n (changes.rejoined h from scope kind)
rejoined_scoped n h from scope (does.While condition on_true) s less =
    choice_scoped n (is_true h.seen.lists scope condition) (makes (child h h.task.book scope on_true) ∷ []) (changes.done h true) ((less, tt), tt) (done_scoped n h true s)
rejoined_scoped n h from scope (does.PlaybookAction a b c d) s less =
    written_scoped n h.seen.lists scope (option_map_or (λ (root : Task). changes.valued h.seen.lists root.scope d) (slice_get h.seen.lists.tasks from) []) (changes.done h true) (done_scoped n h true s)
rejoined_scoped n h from scope does.Start s less = done_scoped n h true s
rejoined_scoped n h from scope does.End s less = done_scoped n h true s
rejoined_scoped n h from scope (does.Action a b c d e) s less = done_scoped n h true s
rejoined_scoped n h from scope (does.Parallel a) s less = done_scoped n h true s
rejoined_scoped n h from scope (does.If a b c) s less = done_scoped n h true s
rejoined_scoped n h from scope (does.Switch a b) s less = done_scoped n h true s

walked_scoped : (h : Here) (at : Phase) → IsScoped (length h.seen.lists.scopes) h.task → IfSome (changes.walked h at) (AreScoped (length h.seen.lists.scopes))
walked_scoped h (phase.At since) s = some_if (nat_le (since + h.step.delay) h.now) (changes.entered h h.step.kind) (AreScoped (length h.seen.lists.scopes)) (entered_scoped h h.step.kind s)
walked_scoped h (phase.Joining from) s =
    some_option h.task.step_scope (λ (scope : ℕ). changes.joined h from scope (changes.children h.seen.lists h.number from)) (AreScoped (length h.seen.lists.scopes))
    (λ scope e. joined scope (subst (λ o. IfSome o (λ k. k < length h.seen.lists.scopes)) e s.1) (changes.children h.seen.lists h.number from))
  where
    joined : (scope : ℕ) → scope < length h.seen.lists.scopes → (branches : List Task) → IfSome (changes.joined h from scope branches) (AreScoped (length h.seen.lists.scopes))
    joined scope less branches =
        let n : ℕ = length h.seen.lists.scopes in
        let stops : Option (List Edit) = Some (changes.done h false) in
        let goes : Option (List Edit) = Some (changes.rejoined h from scope h.step.kind) in
        let failed : Bool = list_any (λ task. changes.has_failed task.phase) branches in
        two_ways (not (list_all (λ task. changes.has_ended task.phase) branches)) None (cond failed stops goes) (AreScoped n) (tt {0})
        (two_ways failed stops goes (AreScoped n) (done_scoped n h false s) (rejoined_scoped n h from scope h.step.kind s less))
walked_scoped h (phase.Sending place) s = tt
walked_scoped h (phase.Awaiting place issue) s = tt
walked_scoped h (phase.Ended well) s = tt

module _ (s : Shown) (all : (t : ℕ) (task : Task) → slice_get s.lists.tasks t ≡ Some task → IsScoped (length s.lists.scopes) task) where
  walk_scoped : (now t : ℕ) → IfSome (changes.walk s now t) (AreScoped (length s.lists.scopes))
  walk_scoped now t = some_at s now t (λ (h : Here). changes.walked h h.task.phase) (AreScoped (length s.lists.scopes)) (λ task step task_is step_is. walked_scoped (here_of s now t task step) task.phase (all t task task_is))

  next_scoped : (now t : ℕ) (issue_at : Here → Place → Option Issue)
      → IfSome (option_and_then (λ (h : Here). option_and_then (λ (place : Place). option_and_then (λ (issue : Issue). Some (changes.issuing h issue)) (issue_at h place)) (changes.place_at h h.task.phase)) (here_at s now t)) (λ made. AreScoped (length s.lists.scopes) made.1)
  next_scoped now t issue_at =
      some_at s now t (λ (h : Here). option_and_then (λ (place : Place). option_and_then (λ (issue : Issue). Some (changes.issuing h issue)) (issue_at h place)) (changes.place_at h h.task.phase)) (λ made. AreScoped (length s.lists.scopes) made.1) (λ task step task_is step_is.
      let h : Here = here_of s now t task step in
      some_then (changes.place_at h task.phase) (λ (place : Place). option_and_then (λ (issue : Issue). Some (changes.issuing h issue)) (issue_at h place)) (λ made. AreScoped (length s.lists.scopes) made.1) (λ place.
      some_then (issue_at h place) (λ (issue : Issue). Some (changes.issuing h issue)) (λ made. AreScoped (length s.lists.scopes) made.1) (λ issue. (all t task task_is, tt))))

  -- the task of an issue that waits
  waiting_scoped : (now n : ℕ) (w : Waiting) → IsWaitingAt s now n w → IsScoped (length s.lists.scopes) w.here.task
  waiting_scoped now n w k = subst (λ (h : Here). IsScoped (length s.lists.scopes) h.task) (sym k.here_is) (all (w.issue).task k.task k.task_is)

  after_scoped : (n : ℕ) (w : Waiting) (status : ℕ) → IsScoped n w.here.task → IsScoped n (changes.after_answer w status)
  after_scoped n w status h = by (not (status == 200)) (is_some (slice_get (places w.here.step.kind) (suc w.place)))
    where
      by : (a b : Bool) → IsScoped n (cond a (finish w.here false) (cond b (in_phase w.here.task (phase.Sending (suc w.place))) (finish w.here true)))
      by true b = finish_scoped n w.here false h
      by false true = h
      by false false = finish_scoped n w.here true h

  answered_scoped : (now n : ℕ) (end : IssuePhase) (status rule : ℕ) (text : List ℕ) (w : Waiting) → IsWaitingAt s now n w → AreScoped (length s.lists.scopes) (changes.answered n end status rule text w)
  answered_scoped now n end status rule text w k =
      written_scoped (length s.lists.scopes) w.here.seen.lists w.scope (changes.paired (changes.out_args_of w.here.step.kind) (changes.results status rule text)) (moves w.here.number (changes.after_answer w status) ∷ [])
      (after_scoped (length s.lists.scopes) w status (waiting_scoped now n w k), tt)

  edits_scoped : (r : Record) → IfSome (changes.edits_of s r) (AreScoped (length s.lists.scopes))
  edits_scoped (entry.Begin run moment books bind) = tt
  edits_scoped (entry.Walk task moment) = walk_scoped moment task
  edits_scoped (entry.Send t n agent moment bytes) =
      some_from (changes.next_command s moment t) (λ (made : Issuing). cond ((n == length s.lists.issues) && (agent == (made.0).agent) && bytes_eq bytes (made.0).bytes) (Some made.1) None) (λ made. AreScoped (length s.lists.scopes) made.1) (AreScoped (length s.lists.scopes)) (next_scoped moment t changes.command_at)
      (λ made h. some_if ((n == length s.lists.issues) && (agent == (made.0).agent) && bytes_eq bytes (made.0).bytes) (Some made.1) (AreScoped (length s.lists.scopes)) h)
  edits_scoped (entry.Ask t n moment bytes) =
      some_from (changes.next_question s moment t) (λ (made : Issuing). cond (s.lists.is_upgraded && (n == length s.lists.issues) && bytes_eq bytes (made.0).bytes) (Some made.1) None) (λ made. AreScoped (length s.lists.scopes) made.1) (AreScoped (length s.lists.scopes)) (next_scoped moment t changes.question_at)
      (λ made h. some_if (s.lists.is_upgraded && (n == length s.lists.issues) && bytes_eq bytes (made.0).bytes) (Some made.1) (AreScoped (length s.lists.scopes)) h)
  edits_scoped (entry.Reply n moment status rule text) =
      let f : Waiting → List Edit = changes.answered n (issue_phase.Answered status) status rule text in
      some_if (changes.is_answer status text) (option_map f (changes.waiting_filter_at s moment n)) (AreScoped (length s.lists.scopes))
      (map_from (changes.waiting_filter_at s moment n) f (IsWaitingAt s moment n) (AreScoped (length s.lists.scopes)) (filter_known s moment n) (λ w k. answered_scoped moment n (issue_phase.Answered status) status rule text w k))
  edits_scoped (entry.Told n moment status text) =
      let f : Waiting → List Edit = changes.answered n (issue_phase.Told status) status 0 text in
      some_if (s.lists.is_upgraded && changes.is_answer status text) (option_map f (changes.waiting_at s moment n)) (AreScoped (length s.lists.scopes))
      (map_from (changes.waiting_at s moment n) f (IsWaitingAt s moment n) (AreScoped (length s.lists.scopes)) (waiting_known s moment n) (λ w k. answered_scoped moment n (issue_phase.Told status) status 0 text w k))
  edits_scoped (entry.Expire n moment) =
      some_from (changes.waiting_filter_at s moment n) (changes.expired n) (IsWaitingAt s moment n) (AreScoped (length s.lists.scopes)) (filter_known s moment n) (λ w k.
      some_if (nat_le ((w.issue).moment + w.here.step.timeout) w.here.now) (Some (closes n issue_phase.Expired ∷ changes.done w.here false)) (AreScoped (length s.lists.scopes))
      (done_scoped (length s.lists.scopes) w.here false (waiting_scoped moment n w k)))
  edits_scoped (entry.Upgrade version moment) =
      some_if ((version == 2) && is_none (changes.outcome s.lists) && not s.lists.is_upgraded) (Some (upgrades ∷ [])) (AreScoped (length s.lists.scopes)) (tt {0})

  change_scoped : (r : Record) → IfSome (changes.change s r) (AreScoped (length s.lists.scopes))
  change_scoped r = some_if (changes.is_in_time s (changes.moment_of r)) (changes.edits_of s r) (AreScoped (length s.lists.scopes)) (edits_scoped r)

-- ---- each record keeps it, and the first state has it

pub scoped_next : (s new : State) (r : Record) → AllScoped s.scopes s.tasks → Next s r new → AllScoped new.scopes new.tasks
scoped_next s new r a next =
    let scopes : new.scopes ≡ scopes_after next.edits s.scopes = ap (λ (x : State). x.scopes) next.new_is ∙ scopes_are next.edits s in
    let tasks : new.tasks ≡ tasks_after next.edits s.tasks = ap (λ (x : State). x.tasks) next.new_is ∙ tasks_are next.edits s in
    let here : AreScoped (length s.scopes) next.edits = subst (λ o. IfSome o (AreScoped (length s.scopes))) next.change_is (change_scoped (shown s) a.tasks r) in
    let done : AllScoped (scopes_after next.edits s.scopes) (tasks_after next.edits s.tasks) = scoped_after next.edits s.scopes s.tasks a here in
    subst (λ (ss : List Scope). AllScoped ss new.tasks) (sym scopes) (subst (AllScoped (scopes_after next.edits s.scopes)) (sym tasks) done)

none_some : {A : Type 0} (x : A) → None ≡ Some x → ⊥
none_some x h = cc

nothing_scoped : AllScoped [] []
nothing_scoped = record { tasks = λ t task e. absurd (none_some task e); around = λ n scope e. absurd (none_some scope e) }

bound_first : (given : Given) (now : ℕ) (book : Book) (bound : List (List ℕ × List ℕ)) → AreScoped 1 (map (λ b. writes 0 b.0 b.1) bound ++ makes (first_task given now book) ∷ [])
bound_first given now book [] = ((omega arith, tt), tt)
bound_first given now book (b ∷ bound) = bound_first given now book bound

pub first_scoped : (given : Given) (run now : ℕ) (first : State) → begun given run now ≡ Some first → AllScoped first.scopes first.tasks
first_scoped given run now first e = by (slice_get given.books 0) e
  where
    by : (o : Option Book) → option_map (λ (es : List Edit). after now es (blank given run)) (option_map (λ (book : Book). opens None book.variables ∷ (map (λ b. writes 0 b.0 b.1) given.variables ++ makes (first_task given now book) ∷ [])) o) ≡ Some first
        → AllScoped first.scopes first.tasks
    by None h = absurd (none_some first h)
    by (Some book) h =
        let es : List Edit = opens None book.variables ∷ (map (λ b. writes 0 b.0 b.1) given.variables ++ makes (first_task given now book) ∷ []) in
        let is : after now es (blank given run) ≡ first = some_inner (after now es (blank given run)) first h in
        let scopes : first.scopes ≡ scopes_after es [] = ap (λ (x : State). x.scopes) (sym is) ∙ scopes_are es (blank given run) in
        let tasks : first.tasks ≡ tasks_after es [] = ap (λ (x : State). x.tasks) (sym is) ∙ tasks_are es (blank given run) in
        let done : AllScoped (scopes_after es []) (tasks_after es []) = scoped_after es [] [] nothing_scoped (tt {0}, bound_first given now book given.variables) in
        subst (λ (ss : List Scope). AllScoped ss first.tasks) (sym scopes) (subst (AllScoped (scopes_after es [])) (sym tasks) done)
