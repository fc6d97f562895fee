-- A task that joins waits for a task that was made.
use Rattle.std.proofs.Common.{◌≡◌, ◌⊎◌, ℕ, suc, ◌+◌, ◌<◌, ◌≤◌, ◌==◌, ◌&&◌, Bool, true, false, cond, List, [], ◌∷◌, ◌++◌, length, Option, Some, None, arith, refl, ap, sym, subst, ◌∙◌, append_assoc, length-append, inl, inr}
use Rattle.std.specs.Bool.{⊤}
use Rattle.std.specs.Prelude.{IfSome, is_none, is_some, option_and_then, option_map, map, slice_get, not, nat_le}
use Rattle.std.specs.List.{flat_map, list_any, list_all, slice_set}
use Rattle.std.specs.Option.{option_map_or}
use Rattle.std.specs.Str.{bytes_eq}
use Rattle.cacao_vars.specs.Scopes.{home}
use Rattle.run_records.specs.declared.record.Record.{Record}
use Rattle.run_records.specs.declared.record.Record.TheVariants as entry
use Rattle.cacao_book.specs.declared.step_kinds.StepKind.{StepKind}
use Rattle.cacao_book.specs.declared.step_kinds.StepKind.TheVariants as does
use Rattle.flow_core_rules.specs.declared.tasks.Task.{Task}
use Rattle.flow_core_rules.specs.declared.issues.Issue.{Issue}
use Rattle.flow_core_rules.specs.declared.issues.IssuePhase.{IssuePhase}
use Rattle.flow_core_rules.specs.declared.issues.IssuePhase.TheVariants as issue_phase
use Rattle.flow_core_rules.specs.declared.phases.Phase.{Phase}
use Rattle.flow_core_rules.specs.declared.phases.Phase.TheVariants as phase
use Rattle.flow_core_rules.specs.Givens.{book_with}
use Rattle.flow_core_rules.specs.State.{State, Lists, Shown, shown}
use Rattle.flow_core_rules.specs.Edits.{Edit}
use Rattle.flow_core_rules.specs.Edits.Edit.{opens, writes, makes, moves, issues, closes, upgrades}
use Rattle.flow_core_rules.specs.Conditions.{heads, is_true}
use Rattle.flow_core_rules.specs.Places.{Place, places}
use Rattle.flow_core_rules.specs.Tasks.{Here, here_at, go, finish, child, next_key, exception_of, in_phase}
use Rattle.flow_core_rules.specs.Changes as changes
use Rattle.flow_core_rules.specs.Changes.{Waiting, Issuing, moment_of}
use Rattle.flow_core_rules.specs.Runs.{Next}
use Rattle.flow_core_rules.proofs.PlacedLemmas.{some_then, some_if, some_map, some_from, two_ways}
use Rattle.flow_core_rules.proofs.HereLemmas.{here_of, some_at}
use Rattle.flow_core_rules.proofs.TaskLemmas.{tasks_after, tasks_are, get_set, get_pushed, set_length}

-- the first task that it waits for is among so many
abbrev pub JoinsBelow : ℕ → Phase → Type 0
JoinsBelow n (phase.Joining from) = from < n
JoinsBelow n other = ⊤

abbrev pub AllJoin : List Task → Type 0
AllJoin ts = (t : ℕ) (task : Task) → slice_get ts t ≡ Some task → JoinsBelow (length ts) task.phase

-- how many tasks edits make
abbrev pub made : List Edit → ℕ
made [] = 0
made (opens parent vars ∷ es) = made es
made (writes scope name text ∷ es) = made es
made (makes task ∷ es) = suc (made es)
made (moves t task ∷ es) = made es
made (issues issue ∷ es) = made es
made (closes i end ∷ es) = made es
made (upgrades ∷ es) = made es

-- edits that keep it, where there are so many tasks
abbrev pub AreJoined : ℕ → List Edit → Type 0
AreJoined n [] = ⊤
AreJoined n (opens parent vars ∷ es) = AreJoined n es
AreJoined n (writes scope name text ∷ es) = AreJoined n es
AreJoined n (makes task ∷ es) = JoinsBelow (n + suc (made es)) task.phase × AreJoined (suc n) es
AreJoined n (moves t task ∷ es) = JoinsBelow (n + made es) task.phase × AreJoined n es
AreJoined n (issues issue ∷ es) = AreJoined n es
AreJoined n (closes i end ∷ es) = AreJoined n es
AreJoined n (upgrades ∷ es) = AreJoined n es

below_more : (at : Phase) (n m : ℕ) → n ≤ m → JoinsBelow n at → JoinsBelow m at
below_more (phase.Joining from) n m le h = omega arith
below_more (phase.At since) n m le h = tt
below_more (phase.Sending place) n m le h = tt
below_more (phase.Awaiting place issue) n m le h = tt
below_more (phase.Ended well) n m le h = tt

-- ---- what edits keep

pub count_after : (es : List Edit) (ts : List Task) → length (tasks_after es ts) ≡ length ts + made es
count_after [] ts = omega arith
count_after (opens parent vars ∷ es) ts = count_after es ts
count_after (writes scope name text ∷ es) ts = count_after es ts
count_after (makes task ∷ es) ts = omega (arith, count_after es (ts ++ task ∷ []), length-append ts (task ∷ []))
count_after (moves t task ∷ es) ts = omega (arith, count_after es (slice_set ts t task), set_length ts t task)
count_after (issues issue ∷ es) ts = count_after es ts
count_after (closes i end ∷ es) ts = count_after es ts
count_after (upgrades ∷ es) ts = count_after es ts

joined_after : (es : List Edit) (ts : List Task) (n m : ℕ) → n ≡ length ts → m ≡ n + made es → AreJoined n es → ((t : ℕ) (task : Task) → slice_get ts t ≡ Some task → JoinsBelow m task.phase)
    → (t : ℕ) (task : Task) → slice_get (tasks_after es ts) t ≡ Some task → JoinsBelow m task.phase
joined_after [] ts n m count total h all = all
joined_after (opens parent vars ∷ es) ts n m count total h all = joined_after es ts n m count total h all
joined_after (writes scope name text ∷ es) ts n m count total h all = joined_after es ts n m count total h all
joined_after (makes new ∷ es) ts n m count total h all =
    joined_after es (ts ++ new ∷ []) (suc n) m (omega (arith, count, length-append ts (new ∷ []))) (omega (arith, total)) h.1 (λ t task e. by t task (get_pushed ts new task t e))
  where
    by : (t : ℕ) (task : Task) → (slice_get ts t ≡ Some task) ⊎ ((t ≡ length ts) × (new ≡ task)) → JoinsBelow m task.phase
    by t task (inl e) = all t task e
    by t task (inr e) = subst (λ (x : Task). JoinsBelow m x.phase) e.1 (subst (λ k. JoinsBelow k new.phase) (sym total) h.0)
joined_after (moves k new ∷ es) ts n m count total h all =
    joined_after es (slice_set ts k new) n m (count ∙ sym (set_length ts k new)) total h.1 (λ t task e. by t task (get_set ts k new t task e))
  where
    by : (t : ℕ) (task : Task) → ((t ≡ k) × (new ≡ task)) ⊎ ((t ≡ k → ⊥) × (slice_get ts t ≡ Some task)) → JoinsBelow m task.phase
    by t task (inl e) = subst (λ (x : Task). JoinsBelow m x.phase) e.1 (subst (λ j. JoinsBelow j new.phase) (sym total) h.0)
    by t task (inr e) = all t task e.1
joined_after (issues issue ∷ es) ts n m count total h all = joined_after es ts n m count total h all
joined_after (closes i end ∷ es) ts n m count total h all = joined_after es ts n m count total h all
joined_after (upgrades ∷ es) ts n m count total h all = joined_after es ts n m count total h all

-- ---- the edits of each record

finish_joined : (n : ℕ) (h : Here) (well : Bool) → JoinsBelow n (finish h well).phase
finish_joined n h well = by (next_key h.step well) well (exception_of h.seen h.task)
  where
    by : (o : Option (List ℕ)) (b : Bool) (x : Option (List ℕ))
        → JoinsBelow n (option_map_or (go h.seen.given h.now h.task) o (cond b (in_phase h.task (phase.Ended true)) (option_map_or (λ key. record (go h.seen.given h.now h.task key) { excepted = true }) x (in_phase h.task (phase.Ended false))))).phase
    by (Some key) b x = tt
    by None true x = tt
    by None false None = tt
    by None false (Some key) = tt

done_joined : (n : ℕ) (h : Here) (well : Bool) → AreJoined n (changes.done h well)
done_joined n h well = (finish_joined (n + 0) h well, tt)

written_joined : (n : ℕ) (s : Lists) (scope : ℕ) (ps : List (List ℕ × Option (List ℕ))) (es : List Edit) → AreJoined n es → AreJoined n (flat_map (changes.written s scope) ps ++ es)
written_joined n s scope [] es h = h
written_joined n s scope (p ∷ ps) es h =
    subst (AreJoined n) (sym (append_assoc (changes.written s scope p) (flat_map (changes.written s scope) ps) es))
    (one p (flat_map (changes.written s scope) ps ++ es) (written_joined n s scope ps es h))
  where
    one : (p : List ℕ × Option (List ℕ)) (es : List Edit) → AreJoined n es → AreJoined n (changes.written s scope p ++ es)
    one (name, None) es h = h
    one (name, Some text) es h = by (home s.scopes scope name)
      where
        by : (o : Option ℕ) → AreJoined n (option_map_or (λ at. writes at name text ∷ []) o [] ++ es)
        by None = h
        by (Some at) = h

bound_joined : (n scope : ℕ) (ps : List (List ℕ × Option (List ℕ))) (es : List Edit) → AreJoined n es → AreJoined n (flat_map (changes.binding scope) ps ++ es)
bound_joined n scope [] es h = h
bound_joined n scope (p ∷ ps) es h =
    subst (AreJoined n) (sym (append_assoc (changes.binding scope p) (flat_map (changes.binding scope) ps) es))
    (one p (flat_map (changes.binding scope) ps ++ es) (bound_joined n scope ps es h))
  where
    one : (p : List ℕ × Option (List ℕ)) (es : List Edit) → AreJoined n es → AreJoined n (changes.binding scope p ++ es)
    one (name, None) es h = h
    one (name, Some text) es h = h

made_joined : (n scope book : ℕ) (h : Here) (keys : List (List ℕ)) → AreJoined n (map (λ key. makes (child h book scope key)) keys)
made_joined n scope book h [] = tt
made_joined n scope book h (key ∷ keys) = (tt, made_joined (suc n) scope book h keys)

branched_joined : (h : Here) (scope : ℕ) (keys : List (List ℕ)) → AreJoined (length h.seen.lists.tasks) (changes.branched h scope keys)
branched_joined h scope [] = done_joined (length h.seen.lists.tasks) h true
branched_joined h scope (key ∷ keys) = (omega arith, made_joined (length h.seen.lists.tasks) scope h.task.book h (key ∷ keys))

entered_joined : (h : Here) (kind : StepKind) → IfSome (changes.entered h kind) (AreJoined (length h.seen.lists.tasks))
entered_joined h does.Start = done_joined (length h.seen.lists.tasks) h true
entered_joined h does.End = (tt, tt)
entered_joined h (does.Action a b c d e) = (tt, tt)
entered_joined h (does.PlaybookAction playbook version in_args out_args) =
    let n : ℕ = length h.seen.lists.scopes in
    some_map (book_with h.seen.given playbook) (λ theirs. changes.opening h ∷ changes.called (changes.inside h) n in_args theirs) (AreJoined (length h.seen.lists.tasks)) (λ theirs.
    bound_joined (length h.seen.lists.tasks) (suc n) (changes.valued (changes.inside h).seen.lists n in_args)
    (moves h.number (changes.joining (changes.inside h)) ∷ makes (child (changes.inside h) theirs.0 (suc n) (theirs.1).start) ∷ []) (omega arith, (tt, tt)))
entered_joined h (does.Parallel a) = branched_joined (changes.inside h) (length h.seen.lists.scopes) (heads (changes.inside h).seen.lists (length h.seen.lists.scopes) (does.Parallel a))
entered_joined h (does.If a b c) = branched_joined (changes.inside h) (length h.seen.lists.scopes) (heads (changes.inside h).seen.lists (length h.seen.lists.scopes) (does.If a b c))
entered_joined h (does.While a b) = branched_joined (changes.inside h) (length h.seen.lists.scopes) (heads (changes.inside h).seen.lists (length h.seen.lists.scopes) (does.While a b))
entered_joined h (does.Switch a b) = branched_joined (changes.inside h) (length h.seen.lists.scopes) (heads (changes.inside h).seen.lists (length h.seen.lists.scopes) (does.Switch a b))

choice_joined : (n : ℕ) (b : Bool) (xs ys : List Edit) → AreJoined n xs → AreJoined n ys → AreJoined n (cond b xs ys)
choice_joined n true xs ys a b = a
choice_joined n false xs ys a b = b

rejoined_joined : (n : ℕ) (h : Here) (from scope : ℕ) (kind : StepKind) → AreJoined n (changes.rejoined h from scope kind)
rejoined_joined n h from scope (does.While condition on_true) =
    choice_joined n (is_true h.seen.lists scope condition) (makes (child h h.task.book scope on_true) ∷ []) (changes.done h true) (tt, tt) (done_joined n h true)
rejoined_joined n h from scope (does.PlaybookAction a b c d) =
    written_joined n h.seen.lists scope (option_map_or (λ (root : Task). changes.valued h.seen.lists root.scope d) (slice_get h.seen.lists.tasks from) []) (changes.done h true) (done_joined n h true)
rejoined_joined n h from scope does.Start = done_joined n h true
rejoined_joined n h from scope does.End = done_joined n h true
rejoined_joined n h from scope (does.Action a b c d e) = done_joined n h true
rejoined_joined n h from scope (does.Parallel a) = done_joined n h true
rejoined_joined n h from scope (does.If a b c) = done_joined n h true
rejoined_joined n h from scope (does.Switch a b) = done_joined n h true

walked_joined : (h : Here) (at : Phase) → IfSome (changes.walked h at) (AreJoined (length h.seen.lists.tasks))
walked_joined h (phase.At since) = some_if (nat_le (since + h.step.delay) h.now) (changes.entered h h.step.kind) (AreJoined (length h.seen.lists.tasks)) (entered_joined h h.step.kind)
walked_joined h (phase.Joining from) =
    some_then h.task.step_scope (λ (scope : ℕ). changes.joined h from scope (changes.children h.seen.lists h.number from)) (AreJoined (length h.seen.lists.tasks)) (λ scope. joined scope (changes.children h.seen.lists h.number from))
  where
    joined : (scope : ℕ) (branches : List Task) → IfSome (changes.joined h from scope branches) (AreJoined (length h.seen.lists.tasks))
    joined scope branches =
        let n : ℕ = length h.seen.lists.tasks in
        let stops : Option (List Edit) = Some (changes.done h false) in
        let goes : Option (List Edit) = Some (changes.rejoined h from scope h.step.kind) in
        let failed : Bool = list_any (λ task. changes.has_failed task.phase) branches in
        two_ways (not (list_all (λ task. changes.has_ended task.phase) branches)) None (cond failed stops goes) (AreJoined n) (tt {0})
        (two_ways failed stops goes (AreJoined n) (done_joined n h false) (rejoined_joined n h from scope h.step.kind))
walked_joined h (phase.Sending place) = tt
walked_joined h (phase.Awaiting place issue) = tt
walked_joined h (phase.Ended well) = tt

-- the tasks of what a record is used on
abbrev AreOf : Shown → List Edit → Type 0
AreOf s es = AreJoined (length s.lists.tasks) es

issuing_joined : (s : Shown) (now t : ℕ) (issue_at : Here → Place → Option Issue)
    → IfSome (option_and_then (λ (h : Here). option_and_then (λ (place : Place). option_and_then (λ (issue : Issue). Some (changes.issuing h issue)) (issue_at h place)) (changes.place_at h h.task.phase)) (here_at s now t)) (λ made. AreOf s made.1)
issuing_joined s now t issue_at =
    some_at s now t (λ (h : Here). option_and_then (λ (place : Place). option_and_then (λ (issue : Issue). Some (changes.issuing h issue)) (issue_at h place)) (changes.place_at h h.task.phase)) (λ made. AreOf s made.1) (λ task step task_is step_is.
    let h : Here = here_of s now t task step in
    some_then (changes.place_at h task.phase) (λ (place : Place). option_and_then (λ (issue : Issue). Some (changes.issuing h issue)) (issue_at h place)) (λ made. AreOf s made.1) (λ place.
    some_then (issue_at h place) (λ (issue : Issue). Some (changes.issuing h issue)) (λ made. AreOf s made.1) (λ issue. (tt, tt))))

send_joined : (s : Shown) (now t n agent : ℕ) (bytes : List ℕ) → IfSome (changes.send s now t n agent bytes) (AreOf s)
send_joined s now t n agent bytes =
    some_from (changes.next_command s now t) (λ (made : Issuing). cond ((n == length s.lists.issues) && (agent == (made.0).agent) && bytes_eq bytes (made.0).bytes) (Some made.1) None) (λ made. AreOf s made.1) (AreOf s) (issuing_joined s now t changes.command_at)
    (λ made h. some_if ((n == length s.lists.issues) && (agent == (made.0).agent) && bytes_eq bytes (made.0).bytes) (Some made.1) (AreOf s) h)

ask_joined : (s : Shown) (now t n : ℕ) (bytes : List ℕ) → IfSome (changes.ask s now t n bytes) (AreOf s)
ask_joined s now t n bytes =
    some_from (changes.next_question s now t) (λ (made : Issuing). cond (s.lists.is_upgraded && (n == length s.lists.issues) && bytes_eq bytes (made.0).bytes) (Some made.1) None) (λ made. AreOf s made.1) (AreOf s) (issuing_joined s now t changes.question_at)
    (λ made h. some_if (s.lists.is_upgraded && (n == length s.lists.issues) && bytes_eq bytes (made.0).bytes) (Some made.1) (AreOf s) h)

answered_joined : (m n : ℕ) (end : IssuePhase) (status rule : ℕ) (text : List ℕ) (w : Waiting) → AreJoined m (changes.answered n end status rule text w)
answered_joined m n end status rule text w =
    written_joined m w.here.seen.lists w.scope (changes.paired (changes.out_args_of w.here.step.kind) (changes.results status rule text)) (moves w.here.number (changes.after_answer w status) ∷ []) (after (m + 0), tt)
  where
    after : (k : ℕ) → JoinsBelow k (changes.after_answer w status).phase
    after k = by (not (status == 200)) (is_some (slice_get (places w.here.step.kind) (suc w.place)))
      where
        by : (a b : Bool) → JoinsBelow k (cond a (finish w.here false) (cond b (in_phase w.here.task (phase.Sending (suc w.place))) (finish w.here true))).phase
        by true b = finish_joined k w.here false
        by false true = tt
        by false false = finish_joined k w.here true

reply_joined : (s : Shown) (now n status rule : ℕ) (text : List ℕ) → IfSome (changes.reply s now n status rule text) (AreOf s)
reply_joined s now n status rule text =
    let f : Waiting → List Edit = changes.answered n (issue_phase.Answered status) status rule text in
    some_if (changes.is_answer status text) (option_map f (changes.waiting_filter_at s now n)) (AreOf s)
    (some_map (changes.waiting_filter_at s now n) f (AreOf s) (λ w. answered_joined (length s.lists.tasks) n (issue_phase.Answered status) status rule text w))

tell_joined : (s : Shown) (now n status : ℕ) (text : List ℕ) → IfSome (changes.tell s now n status text) (AreOf s)
tell_joined s now n status text =
    let f : Waiting → List Edit = changes.answered n (issue_phase.Told status) status 0 text in
    some_if (s.lists.is_upgraded && changes.is_answer status text) (option_map f (changes.waiting_at s now n)) (AreOf s)
    (some_map (changes.waiting_at s now n) f (AreOf s) (λ w. answered_joined (length s.lists.tasks) n (issue_phase.Told status) status 0 text w))

expire_joined : (s : Shown) (now n : ℕ) → IfSome (changes.expire s now n) (AreOf s)
expire_joined s now n =
    some_then (changes.waiting_filter_at s now n) (changes.expired n) (AreOf s) (λ w.
    some_if (nat_le ((w.issue).moment + w.here.step.timeout) w.here.now) (Some (closes n issue_phase.Expired ∷ changes.done w.here false)) (AreOf s) (done_joined (length s.lists.tasks) w.here false))

walk_joined : (s : Shown) (now t : ℕ) → IfSome (changes.walk s now t) (AreOf s)
walk_joined s now t = some_at s now t (λ (h : Here). changes.walked h h.task.phase) (AreOf s) (λ task step task_is step_is. walked_joined (here_of s now t task step) task.phase)

edits_joined : (s : Shown) (r : Record) → IfSome (changes.edits_of s r) (AreOf s)
edits_joined s (entry.Begin run moment books bind) = tt
edits_joined s (entry.Walk task moment) = walk_joined s moment task
edits_joined s (entry.Send task issue agent moment bytes) = send_joined s moment task issue agent bytes
edits_joined s (entry.Reply issue moment status rule text) = reply_joined s moment issue status rule text
edits_joined s (entry.Expire issue moment) = expire_joined s moment issue
edits_joined s (entry.Upgrade version moment) = some_if ((version == 2) && is_none (changes.outcome s.lists) && not s.lists.is_upgraded) (Some (upgrades ∷ [])) (AreOf s) (tt {0})
edits_joined s (entry.Ask task issue moment bytes) = ask_joined s moment task issue bytes
edits_joined s (entry.Told issue moment status text) = tell_joined s moment issue status text

pub joined_next : (s new : State) (r : Record) → AllJoin s.tasks → Next s r new → AllJoin new.tasks
joined_next s new r all next =
    subst AllJoin (sym same) (λ t task e. subst (λ n. JoinsBelow n task.phase) (sym (count_after next.edits s.tasks))
    (joined_after next.edits s.tasks (length s.tasks) (length s.tasks + made next.edits) refl refl here (λ k x g. below_more x.phase (length s.tasks) (length s.tasks + made next.edits) (omega arith) (all k x g)) t task e))
  where
    same : new.tasks ≡ tasks_after next.edits s.tasks
    same = ap (λ (x : State). x.tasks) next.new_is ∙ tasks_are next.edits s

    here : AreJoined (length s.tasks) next.edits
    here = subst (λ o. IfSome o (AreJoined (length s.tasks))) next.change_is (some_if (changes.is_in_time (shown s) (moment_of r)) (changes.edits_of (shown s) r) (AreOf (shown s)) (edits_joined (shown s) r))
