-- What may come next stays so after a record of another task.
use Rattle.std.proofs.Common.{◌≡◌, ℕ, ◌+◌, ◌≤◌, ◌==◌, ◌&&◌, Bool, true, false, cond, List, [], ◌∷◌, length, Option, Some, None, is_some, arith, refl, ap, sym, subst, ◌∙◌}
use Rattle.std.specs.Bool.{⊤}
use Rattle.std.specs.Prelude.{IfSome, is_none, nat_le, not, option_and_then, option_map, slice_get}
use Rattle.std.specs.List.{list_all, list_any}
use Rattle.std.specs.Str.{bytes_eq}
use Rattle.serde_json.specs.Data.{Data}
use Rattle.run_records.specs.declared.record.Record.{Record}
use Rattle.run_records.specs.declared.record.Record.TheVariants as entry
use Rattle.run_records.specs.Ranges.{last_moment}
use Rattle.cacao_json.specs.Reading.{tree}
use Rattle.cacao_text.specs.Canon.{canon}
use Rattle.cacao_book.specs.declared.books.Book.{Book}
use Rattle.cacao_book.specs.declared.steps.Step.{Step}
use Rattle.cacao_book.specs.declared.step_kinds.StepKind.{StepKind}
use Rattle.cacao_book.specs.declared.step_kinds.StepKind.TheVariants as does
use Rattle.flow_core_rules.specs.declared.tasks.Task.{Task}
use Rattle.flow_core_rules.specs.declared.issues.Issue.{Issue}
use Rattle.flow_core_rules.specs.declared.issues.IssuePhase.TheVariants as issue_phase
use Rattle.flow_core_rules.specs.declared.phases.Phase.{Phase}
use Rattle.flow_core_rules.specs.declared.phases.Phase.TheVariants as phase
use Rattle.flow_core_rules.specs.Givens.{Given, step_at, book_with}
use Rattle.flow_core_rules.specs.State.{State, Shown, shown}
use Rattle.flow_core_rules.specs.Edits.{Edit}
use Rattle.flow_core_rules.specs.Edits.Edit.{closes, upgrades}
use Rattle.flow_core_rules.specs.Places.{Place, to_filter, to_operator, filter_of}
use Rattle.flow_core_rules.specs.Filled.{addressed, fill, filled, replaced}
use Rattle.flow_core_rules.specs.Tasks.{Here, here_at}
use Rattle.flow_core_rules.specs.Changes as changes
use Rattle.flow_core_rules.specs.Changes.{Waiting, Issuing, waiting_at, waiting_filter_at, awaited_place, is_waiting, is_in_time, is_answer, has_ended, has_failed, moment_of, outcome}
use Rattle.flow_core_rules.specs.Runs.{IsEnabled, IsEnded}
use Rattle.flow_core_rules.specs.Laws.{ended_by}
use Rattle.flow_core_rules.proofs.RunLemmas.{some_inner}
use Rattle.flow_core_rules.proofs.PlacedLemmas.{some_from}
use Rattle.flow_core_rules.proofs.HereLemmas.{here_of, IsWaitingAt, waiting_known}
use Rattle.flow_core_rules.proofs.MoveLemmas.{same_number, same_bytes, three, taken}
use Rattle.flow_core_laws.specs.OwnTask.{owner_of, task_of, UpgradesAlone, ChangesOwnTask}
use Rattle.flow_core_laws.specs.StaysEnabled.{MayCome, RecordsStayEnabled}
use Rattle.flow_core_laws.proofs.Somes.{none_some, clash, le_true, le_of, equal_of, equal_true, both_true, parts_true, cond_some, cond_is_some, map_some, map_is_some, Known, then_some, some_then_some}
use Rattle.flow_core_laws.proofs.Children.{children_ended}
use Rattle.flow_core_laws.proofs.OwnTask.{records_change_own_task}

-- ---- where a task stands

pub record Found (s : Shown) (t : ℕ) : Type 0 where
  pub task : Task
  pub step : Step
  pub task_is : slice_get s.lists.tasks t ≡ Some task
  pub step_is : step_at s.given task.book task.step ≡ Some step

pub found_at : {A : Type 0} (s : Shown) (now t : ℕ) (f : Here → Option A) → is_some (option_and_then f (here_at s now t)) ≡ true → Found s t
found_at s now t f e = by (slice_get s.lists.tasks t) refl e
  where
    at : (task : Task) → slice_get s.lists.tasks t ≡ Some task → (o : Option Step) → step_at s.given task.book task.step ≡ o → is_some (option_and_then f (option_map (here_of s now t task) o)) ≡ true → Found s t
    at task a None b h = absurd (clash false h refl)
    at task a (Some step) b h = record { task = task; step = step; task_is = a; step_is = b }

    by : (o : Option Task) → slice_get s.lists.tasks t ≡ o → is_some (option_and_then f (option_and_then (λ (task : Task). option_map (here_of s now t task) (step_at s.given task.book task.step)) o)) ≡ true → Found s t
    by None a h = absurd (clash false h refl)
    by (Some task) a h = at task a (step_at s.given task.book task.step) refl h

pub at_is : {A : Type 0} (s : Shown) (now t : ℕ) (f : Here → Option A) (task : Task) (step : Step) → slice_get s.lists.tasks t ≡ Some task → step_at s.given task.book task.step ≡ Some step
    → option_and_then f (here_at s now t) ≡ f (here_of s now t task step)
at_is s now t f task step a b =
    ap (λ (o : Option Task). option_and_then f (option_and_then (λ (x : Task). option_map (here_of s now t x) (step_at s.given x.book x.step)) o)) a
    ∙ ap (λ (o : Option Step). option_and_then f (option_map (here_of s now t task) o)) b

-- ---- an issue that waits

waits_at : (s : Shown) (now n : ℕ) (issue : Issue) (task : Task) (step : Step) (place scope : ℕ) → slice_get s.lists.issues n ≡ Some issue → slice_get s.lists.tasks issue.task ≡ Some task
    → step_at s.given task.book task.step ≡ Some step → awaited_place n task.phase ≡ Some place → task.step_scope ≡ Some scope → is_waiting issue.phase ≡ true
    → waiting_at s now n ≡ Some (record { issue = issue; here = here_of s now issue.task task step; place = place; scope = scope })
waits_at s now n issue task step place scope a b c d e g =
    ap (λ (o : Option Issue). option_and_then (λ (x : Issue). option_and_then (at_here x) (here_at s now x.task)) o) a
    ∙ at_is s now issue.task (at_here issue) task step b c
    ∙ ap (λ o. option_and_then (λ (p : ℕ). option_and_then (at_scope issue (here_of s now issue.task task step) p) task.step_scope) o) d
    ∙ ap (λ o. option_and_then (at_scope issue (here_of s now issue.task task step) place) o) e
    ∙ ap (λ h. cond h (Some (record { issue = issue; here = here_of s now issue.task task step; place = place; scope = scope })) None) g
  where
    at_scope : Issue → Here → ℕ → ℕ → Option Waiting
    at_scope x h p k = cond (is_waiting x.phase) (Some (record { issue = x; here = h; place = p; scope = k })) None

    at_here : Issue → Here → Option Waiting
    at_here x h = option_and_then (λ (p : ℕ). option_and_then (at_scope x h p) h.task.step_scope) (awaited_place n h.task.phase)

-- one of a filter
abbrev of_filter : Waiting → Option Waiting
of_filter w = cond ((w.issue).agent == 0) None (Some w)

abbrev IsOfFilter : Shown → ℕ → ℕ → Waiting → Type 0
IsOfFilter s now n w = IsWaitingAt s now n w × (((w.issue).agent == 0) ≡ false)

filter_waits : (s : Shown) (now n : ℕ) → IfSome (waiting_filter_at s now n) (IsOfFilter s now n)
filter_waits s now n =
    some_from (waiting_at s now n) of_filter (IsWaitingAt s now n) (IsOfFilter s now n) (waiting_known s now n) (λ w known. by w known ((w.issue).agent == 0) refl)
  where
    by : (w : Waiting) → IsWaitingAt s now n w → (b : Bool) → ((w.issue).agent == 0) ≡ b → IfSome (cond b None (Some w)) (IsOfFilter s now n)
    by w known true e = tt
    by w known false e = (known, e)

-- what is there, with what is known of it
record Holds {A : Type 0} (P : A → Type 0) (o : Option A) : Type 0 where
  value : A
  is : o ≡ Some value
  known : P value

holds : {A : Type 0} (P : A → Type 0) (o : Option A) → IfSome o P → is_some o ≡ true → Holds P o
holds P None h e = absurd (clash false e refl)
holds P (Some x) h e = record { value = x; is = refl; known = h }

anything : {A : Type 0} (o : Option A) → IfSome o (λ (x : A). ⊤)
anything None = tt
anything (Some x) = tt

-- ---- what a task sends or asks

pub same_place : (s new : Shown) (now m t : ℕ) (task : Task) (step : Step) (at : Phase) → changes.place_at (here_of new m t task step) at ≡ changes.place_at (here_of s now t task step) at
same_place s new now m t task step (phase.Sending n) = refl
same_place s new now m t task step (phase.At since) = refl
same_place s new now m t task step (phase.Awaiting place issue) = refl
same_place s new now m t task step (phase.Joining from) = refl
same_place s new now m t task step (phase.Ended well) = refl

abbrev pub made_from : (Here → Place → Option Issue) → Here → Option Place → Option Issuing
made_from issue_at h o = option_and_then (λ (place : Place). option_and_then (λ (issue : Issue). Some (changes.issuing h issue)) (issue_at h place)) o

abbrev pub command_from : Here → List ℕ → Option (List ℕ) → Option ℕ → Option Issuing
command_from h to content scope =
    option_and_then (λ (issue : Issue). Some (changes.issuing h issue))
    (option_and_then (λ (text : List ℕ). option_and_then (λ (n : ℕ). option_and_then (λ (bytes : List ℕ). Some (changes.issue_with h (filter_of h.seen.given.agents to) bytes)) (fill text h.seen.lists n h.seen.run (length h.seen.lists.issues))) scope) content)

abbrev pub filled_from : Here → List ℕ → ℕ → Option Data → Option Issuing
filled_from h to n o =
    option_and_then (λ (issue : Issue). Some (changes.issuing h issue))
    (option_and_then (λ (bytes : List ℕ). Some (changes.issue_with h (filter_of h.seen.given.agents to) bytes)) (option_map (λ (d : Data). canon (addressed h.seen.run (length h.seen.lists.issues) (filled h.seen.lists n d))) o))

abbrev pub question_from : Here → Option (List ℕ) → Option ℕ → Option Issuing
question_from h content scope =
    option_and_then (λ (issue : Issue). Some (changes.issuing h issue))
    (option_and_then (λ (text : List ℕ). option_and_then (λ (n : ℕ). Some (changes.issue_with h 0 (replaced h.seen.lists n text))) scope) content)

-- the command of the same filter
record SameFilter (made : Issuing) (o : Option Issuing) : Type 0 where
  other : Issuing
  other_is : o ≡ Some other
  agent : (other.0).agent ≡ (made.0).agent

module _ (h g : Here) (task_is : g.task ≡ h.task) (given_is : g.seen.given ≡ h.seen.given) where
  filled_still : (to : List ℕ) (n : ℕ) (o : Option Data) (made : Issuing) → filled_from h to n o ≡ Some made → SameFilter made (filled_from g to n o)
  filled_still to n None made e = absurd (none_some made e)
  filled_still to n (Some d) made e = record {
    other = _;
    other_is = refl;
    agent = ap (λ (given : Given). filter_of given.agents to) given_is ∙ ap (λ (x : Issuing). (x.0).agent) (some_inner _ made e);
  }

  command_from_still : (to : List ℕ) (content : Option (List ℕ)) (scope : Option ℕ) (made : Issuing) → command_from h to content scope ≡ Some made → SameFilter made (command_from g to content scope)
  command_from_still to None scope made e = absurd (none_some made e)
  command_from_still to (Some text) None made e = absurd (none_some made e)
  command_from_still to (Some text) (Some n) made e = filled_still to n (tree text) made e

  command_still : (o : Option Place) (made : Issuing) → made_from changes.command_at h o ≡ Some made → SameFilter made (made_from changes.command_at g o)
  command_still None made e = absurd (none_some made e)
  command_still (Some (to_operator content)) made e = absurd (none_some made e)
  command_still (Some (to_filter content to)) made e =
      subst (λ (x : Task). SameFilter made (command_from g to content x.step_scope)) (sym task_is) (command_from_still to content h.task.step_scope made e)

  question_from_still : (content : Option (List ℕ)) (scope : Option ℕ) → is_some (question_from h content scope) ≡ true → is_some (question_from g content scope) ≡ true
  question_from_still None scope e = absurd (clash false e refl)
  question_from_still (Some text) None e = absurd (clash false e refl)
  question_from_still (Some text) (Some n) e = refl

  question_still : (o : Option Place) → is_some (made_from changes.question_at h o) ≡ true → is_some (made_from changes.question_at g o) ≡ true
  question_still None e = absurd (clash false e refl)
  question_still (Some (to_filter content to)) e = absurd (clash false e refl)
  question_still (Some (to_operator content)) e =
      subst (λ (x : Task). is_some (question_from g content x.step_scope) ≡ true) (sym task_is) (question_from_still content h.task.step_scope e)

-- ---- a task that joins

abbrev all_ended : List Task → Bool
all_ended branches = list_all (λ one. has_ended one.phase) branches

joined_all : (h : Here) (from scope : ℕ) (branches : List Task) → is_some (changes.joined h from scope branches) ≡ true → all_ended branches ≡ true
joined_all h from scope branches e = by (all_ended branches) e
  where
    by : (b : Bool) → is_some (cond (not b) None (cond (list_any (λ one. has_failed one.phase) branches) (Some (changes.done h false)) (Some (changes.rejoined h from scope h.step.kind)))) ≡ true → b ≡ true
    by true g = refl
    by false g = g

all_joined : (h : Here) (from scope : ℕ) (branches : List Task) → all_ended branches ≡ true → is_some (changes.joined h from scope branches) ≡ true
all_joined h from scope branches e =
    subst (λ b. is_some (cond (not b) None (cond (list_any (λ one. has_failed one.phase) branches) (Some (changes.done h false)) (Some (changes.rejoined h from scope h.step.kind)))) ≡ true) (sym e)
    (by (list_any (λ one. has_failed one.phase) branches))
  where
    by : (b : Bool) → is_some (cond b (Some (changes.done h false)) (Some (changes.rejoined h from scope h.step.kind))) ≡ true
    by true = refl
    by false = refl

abbrev call_edits : Here → List (List ℕ) → ℕ × Book → List Edit
call_edits h in_args theirs = changes.opening h ∷ changes.called (changes.inside h) (length h.seen.lists.scopes) in_args theirs

-- ---- after a record

ends_own : (s : Shown) (r : Record) (n : ℕ) → ended_by r ≡ Some n → task_of s r ≡ owner_of s n
ends_own s (entry.Reply issue moment status rule text) n e = ap (owner_of s) (some_inner issue n e)
ends_own s (entry.Told issue moment status text) n e = ap (owner_of s) (some_inner issue n e)
ends_own s (entry.Expire issue moment) n e = ap (owner_of s) (some_inner issue n e)
ends_own s (entry.Begin run moment books bind) n e = absurd (none_some n e)
ends_own s (entry.Walk task moment) n e = absurd (none_some n e)
ends_own s (entry.Send task issue agent moment bytes) n e = absurd (none_some n e)
ends_own s (entry.Upgrade version moment) n e = absurd (none_some n e)
ends_own s (entry.Ask task issue moment bytes) n e = absurd (none_some n e)

pub mark_stays : (s new : State) (r : Record) → UpgradesAlone s new r → s.is_upgraded ≡ true → new.is_upgraded ≡ true
mark_stays s new (entry.Upgrade version moment) u e = ap (λ (x : State). x.is_upgraded) u
mark_stays s new (entry.Begin run moment books bind) u e = u ∙ e
mark_stays s new (entry.Walk task moment) u e = u ∙ e
mark_stays s new (entry.Send task issue agent moment bytes) u e = u ∙ e
mark_stays s new (entry.Reply issue moment status rule text) u e = u ∙ e
mark_stays s new (entry.Expire issue moment) u e = u ∙ e
mark_stays s new (entry.Ask task issue moment bytes) u e = u ∙ e
mark_stays s new (entry.Told issue moment status text) u e = u ∙ e

-- a record that is no Upgrade
no_mark : (s new : State) (r : Record) → (task_of (shown s) r ≡ None → ⊥) → UpgradesAlone s new r → new.is_upgraded ≡ s.is_upgraded
no_mark s new (entry.Upgrade version moment) apart u = absurd (apart refl)
no_mark s new (entry.Begin run moment books bind) apart u = u
no_mark s new (entry.Walk task moment) apart u = u
no_mark s new (entry.Send task issue agent moment bytes) apart u = u
no_mark s new (entry.Reply issue moment status rule text) apart u = u
no_mark s new (entry.Expire issue moment) apart u = u
no_mark s new (entry.Ask task issue moment bytes) apart u = u
no_mark s new (entry.Told issue moment status text) apart u = u

module _ (s new : State) (r : Record) (c : ChangesOwnTask s new r (task_of (shown s) r)) (m : ℕ) (timely : is_in_time (shown new) m ≡ true) where
  step_stays : (task : Task) (step : Step) → step_at s.given task.book task.step ≡ Some step → step_at new.given task.book task.step ≡ Some step
  step_stays task step e = subst (λ (g : Given). step_at g task.book task.step ≡ Some step) (sym c.given) e

  -- ---- Walk

  entered_still : (now t : ℕ) (task : Task) (step : Step) (kind : StepKind) → is_some (changes.entered (here_of (shown s) now t task step) kind) ≡ true
      → is_some (changes.entered (here_of (shown new) m t task step) kind) ≡ true
  entered_still now t task step does.Start e = refl
  entered_still now t task step does.End e = refl
  entered_still now t task step (does.Action a b d f g) e = refl
  entered_still now t task step (does.PlaybookAction playbook version in_args out_args) e =
      map_is_some (call_edits (here_of (shown new) m t task step) in_args) (book_with new.given playbook)
      (subst (λ (g : Given). is_some (book_with g playbook) ≡ true) (sym c.given) (map_some (call_edits (here_of (shown s) now t task step) in_args) (book_with s.given playbook) e))
  entered_still now t task step (does.Parallel a) e = refl
  entered_still now t task step (does.If a b d) e = refl
  entered_still now t task step (does.While a b) e = refl
  entered_still now t task step (does.Switch a b) e = refl

  walked_still : (now t : ℕ) (task : Task) (step : Step) (at : Phase) → now ≤ m → (task_of (shown s) r ≡ Some t → ⊥) → is_some (changes.walked (here_of (shown s) now t task step) at) ≡ true
      → is_some (changes.walked (here_of (shown new) m t task step) at) ≡ true
  walked_still now t task step (phase.At since) le apart e =
      let parts = cond_some (nat_le (since + step.delay) now) (changes.entered (here_of (shown s) now t task step) step.kind) e in
      let early : since + step.delay ≤ now = le_of (since + step.delay) now parts.0 in
      cond_is_some (nat_le (since + step.delay) m) (changes.entered (here_of (shown new) m t task step) step.kind) (le_true (since + step.delay) m (omega arith)) (entered_still now t task step step.kind parts.1)
  walked_still now t task step (phase.Joining from) le apart e =
      let hs : Here = here_of (shown s) now t task step in
      let hn : Here = here_of (shown new) m t task step in
      let k : Known (λ (scope : ℕ). changes.joined hs from scope (changes.children (shown s).lists t from)) task.step_scope = then_some (λ (scope : ℕ). changes.joined hs from scope (changes.children (shown s).lists t from)) task.step_scope e in
      some_then_some (λ (scope : ℕ). changes.joined hn from scope (changes.children (shown new).lists t from)) task.step_scope k.value k.is
      (all_joined hn from k.value (changes.children (shown new).lists t from) (children_ended s new r t from c apart (joined_all hs from k.value (changes.children (shown s).lists t from) k.some)))
  walked_still now t task step (phase.Sending place) le apart e = absurd (clash false e refl)
  walked_still now t task step (phase.Awaiting place issue) le apart e = absurd (clash false e refl)
  walked_still now t task step (phase.Ended well) le apart e = absurd (clash false e refl)

  walk_still : (now t : ℕ) → now ≤ m → (task_of (shown s) r ≡ Some t → ⊥) → IsEnabled s (entry.Walk t now) → IsEnabled new (entry.Walk t m)
  walk_still now t le apart e =
      let f : Here → Option (List Edit) = λ (h : Here). changes.walked h h.task.phase in
      let some : is_some (changes.walk (shown s) now t) ≡ true = (cond_some (is_in_time (shown s) now) (changes.walk (shown s) now t) e).1 in
      let k : Found (shown s) t = found_at (shown s) now t f some in
      let was : is_some (changes.walked (here_of (shown s) now t k.task k.step) (k.task).phase) ≡ true = subst (λ (o : Option (List Edit)). is_some o ≡ true) (at_is (shown s) now t f k.task k.step k.task_is k.step_is) some in
      let there : changes.walk (shown new) m t ≡ changes.walked (here_of (shown new) m t k.task k.step) (k.task).phase =
      at_is (shown new) m t f k.task k.step (c.tasks.others t k.task k.task_is apart) (step_stays k.task k.step k.step_is) in
      cond_is_some (is_in_time (shown new) m) (changes.walk (shown new) m t) timely (ap is_some there ∙ walked_still now t k.task k.step (k.task).phase le apart was)

  -- ---- Send and Ask

  send_still : (now t n agent : ℕ) (bytes : List ℕ) → (task_of (shown s) r ≡ Some t → ⊥) → IsEnabled s (entry.Send t n agent now bytes)
      → (filled : List ℕ) × IsEnabled new (entry.Send t (length new.issues) agent m filled)
  send_still now t n agent bytes apart e = (
    ((there.other).0).bytes,
    cond_is_some (is_in_time (shown new) m) (changes.send (shown new) m t (length new.issues) agent ((there.other).0).bytes) timely
        (some_then_some (λ (x : Issuing). cond ((length new.issues == length new.issues) && (agent == (x.0).agent) && bytes_eq ((there.other).0).bytes (x.0).bytes) (Some x.1) None) (changes.next_command (shown new) m t) there.other there.other_is
        (taken ((length new.issues == length new.issues) && (agent == ((there.other).0).agent) && bytes_eq ((there.other).0).bytes ((there.other).0).bytes) (there.other).1
        (three (length new.issues == length new.issues) (agent == ((there.other).0).agent) (bytes_eq ((there.other).0).bytes ((there.other).0).bytes) (same_number (length new.issues))
        (equal_true agent ((there.other).0).agent (agent_is ∙ sym there.agent)) (same_bytes ((there.other).0).bytes)))),
  )
    where
      f : Here → Option Issuing
      f h = made_from changes.command_at h (changes.place_at h h.task.phase)

      same : Issuing → Bool
      same x = (n == length s.issues) && (agent == (x.0).agent) && bytes_eq bytes (x.0).bytes

      made : Known (λ (x : Issuing). cond (same x) (Some x.1) None) (changes.next_command (shown s) now t)
      made = then_some (λ (x : Issuing). cond (same x) (Some x.1) None) (changes.next_command (shown s) now t) (cond_some (is_in_time (shown s) now) (changes.send (shown s) now t n agent bytes) e).1

      agent_is : agent ≡ ((made.value).0).agent
      agent_is =
          let first = parts_true ((n == length s.issues) && (agent == ((made.value).0).agent)) (bytes_eq bytes ((made.value).0).bytes) (cond_some (same made.value) (Some (made.value).1) made.some).0 in
          equal_of agent ((made.value).0).agent (parts_true (n == length s.issues) (agent == ((made.value).0).agent) first.0).1

      k : Found (shown s) t
      k = found_at (shown s) now t f (ap is_some made.is)

      there : SameFilter made.value (changes.next_command (shown new) m t)
      there =
          let hs : Here = here_of (shown s) now t k.task k.step in
          let hn : Here = here_of (shown new) m t k.task k.step in
          let was : made_from changes.command_at hs (changes.place_at hs (k.task).phase) ≡ Some made.value = sym (at_is (shown s) now t f k.task k.step k.task_is k.step_is) ∙ made.is in
          let now_is : changes.next_command (shown new) m t ≡ made_from changes.command_at hn (changes.place_at hn (k.task).phase) =
          at_is (shown new) m t f k.task k.step (c.tasks.others t k.task k.task_is apart) (step_stays k.task k.step k.step_is) in
          subst (SameFilter made.value) (sym (now_is ∙ ap (made_from changes.command_at hn) (same_place (shown s) (shown new) now m t k.task k.step (k.task).phase)))
          (command_still hs hn refl c.given (changes.place_at hs (k.task).phase) made.value was)

  ask_still : (now t n : ℕ) (bytes : List ℕ) → (task_of (shown s) r ≡ Some t → ⊥) → IsEnabled s (entry.Ask t n now bytes)
      → (filled : List ℕ) × IsEnabled new (entry.Ask t (length new.issues) m filled)
  ask_still now t n bytes apart e = (
    ((there.value).0).bytes,
    cond_is_some (is_in_time (shown new) m) (changes.ask (shown new) m t (length new.issues) ((there.value).0).bytes) timely
        (some_then_some (λ (x : Issuing). cond (new.is_upgraded && (length new.issues == length new.issues) && bytes_eq ((there.value).0).bytes (x.0).bytes) (Some x.1) None) (changes.next_question (shown new) m t) there.value there.is
        (taken (new.is_upgraded && (length new.issues == length new.issues) && bytes_eq ((there.value).0).bytes ((there.value).0).bytes) (there.value).1
        (three new.is_upgraded (length new.issues == length new.issues) (bytes_eq ((there.value).0).bytes ((there.value).0).bytes) (mark_stays s new r c.upgrade mark) (same_number (length new.issues)) (same_bytes ((there.value).0).bytes)))),
  )
    where
      f : Here → Option Issuing
      f h = made_from changes.question_at h (changes.place_at h h.task.phase)

      same : Issuing → Bool
      same x = s.is_upgraded && (n == length s.issues) && bytes_eq bytes (x.0).bytes

      made : Known (λ (x : Issuing). cond (same x) (Some x.1) None) (changes.next_question (shown s) now t)
      made = then_some (λ (x : Issuing). cond (same x) (Some x.1) None) (changes.next_question (shown s) now t) (cond_some (is_in_time (shown s) now) (changes.ask (shown s) now t n bytes) e).1

      mark : s.is_upgraded ≡ true
      mark =
          let first = parts_true (s.is_upgraded && (n == length s.issues)) (bytes_eq bytes ((made.value).0).bytes) (cond_some (same made.value) (Some (made.value).1) made.some).0 in
          (parts_true s.is_upgraded (n == length s.issues) first.0).0

      k : Found (shown s) t
      k = found_at (shown s) now t f (ap is_some made.is)

      there : Holds (λ (x : Issuing). ⊤) (changes.next_question (shown new) m t)
      there =
          let hs : Here = here_of (shown s) now t k.task k.step in
          let hn : Here = here_of (shown new) m t k.task k.step in
          let was : is_some (made_from changes.question_at hs (changes.place_at hs (k.task).phase)) ≡ true =
          ap is_some (sym (at_is (shown s) now t f k.task k.step k.task_is k.step_is) ∙ made.is) in
          let now_is : changes.next_question (shown new) m t ≡ made_from changes.question_at hn (changes.place_at hn (k.task).phase) =
          at_is (shown new) m t f k.task k.step (c.tasks.others t k.task k.task_is apart) (step_stays k.task k.step k.step_is) in
          holds (λ (x : Issuing). ⊤) (changes.next_question (shown new) m t) (anything (changes.next_question (shown new) m t))
          (ap is_some (now_is ∙ ap (made_from changes.question_at hn) (same_place (shown s) (shown new) now m t k.task k.step (k.task).phase)) ∙ question_still hs hn refl c.given (changes.place_at hs (k.task).phase) was)

  -- ---- Reply, Told and Expire

  abbrev still : (n now : ℕ) (w : Waiting) → IsWaitingAt (shown s) now n w → Waiting
  still n now w known = record { issue = w.issue; here = here_of (shown new) m (w.issue).task known.task known.step; place = w.place; scope = w.scope }

  waiting_still : (now n : ℕ) (w : Waiting) (known : IsWaitingAt (shown s) now n w) → (task_of (shown s) r ≡ owner_of (shown s) n → ⊥) → waiting_at (shown new) m n ≡ Some (still n now w known)
  waiting_still now n w known apart =
      let owner : owner_of (shown s) n ≡ Some (w.issue).task = ap (option_map (λ (issue : Issue). issue.task)) known.issue_is in
      waits_at (shown new) m n w.issue known.task known.step w.place w.scope (c.issues.kept.others n w.issue known.issue_is (λ ends. apart (ends_own (shown s) r n ends)))
      (c.tasks.others (w.issue).task known.task known.task_is (λ same. apart (same ∙ sym owner))) (step_stays known.task known.step known.step_is) known.place_is known.scope_is known.waits

  filter_still : (now n : ℕ) (w : Waiting) (known : IsWaitingAt (shown s) now n w) → ((w.issue).agent == 0) ≡ false → (task_of (shown s) r ≡ owner_of (shown s) n → ⊥)
      → waiting_filter_at (shown new) m n ≡ Some (still n now w known)
  filter_still now n w known filter apart =
      ap (option_and_then of_filter) (waiting_still now n w known apart) ∙ ap (λ b. cond b None (Some (still n now w known))) filter

  reply_still : (now n status rule : ℕ) (text : List ℕ) → (task_of (shown s) r ≡ owner_of (shown s) n → ⊥) → IsEnabled s (entry.Reply n now status rule text)
      → IsEnabled new (entry.Reply n m status rule text)
  reply_still now n status rule text apart e =
      let f : Waiting → List Edit = changes.answered n (issue_phase.Answered status) status rule text in
      let there = cond_some (is_answer status text) (option_map f (waiting_filter_at (shown s) now n)) (cond_some (is_in_time (shown s) now) (changes.reply (shown s) now n status rule text) e).1 in
      let h : Holds (IsOfFilter (shown s) now n) (waiting_filter_at (shown s) now n) =
      holds (IsOfFilter (shown s) now n) (waiting_filter_at (shown s) now n) (filter_waits (shown s) now n) (map_some f (waiting_filter_at (shown s) now n) there.1) in
      cond_is_some (is_in_time (shown new) m) (changes.reply (shown new) m n status rule text) timely
      (cond_is_some (is_answer status text) (option_map f (waiting_filter_at (shown new) m n)) there.0
      (map_is_some f (waiting_filter_at (shown new) m n) (ap is_some (filter_still now n h.value (h.known).0 (h.known).1 apart))))

  tell_still : (now n status : ℕ) (text : List ℕ) → (task_of (shown s) r ≡ owner_of (shown s) n → ⊥) → IsEnabled s (entry.Told n now status text) → IsEnabled new (entry.Told n m status text)
  tell_still now n status text apart e =
      let f : Waiting → List Edit = changes.answered n (issue_phase.Told status) status 0 text in
      let there = cond_some (s.is_upgraded && is_answer status text) (option_map f (waiting_at (shown s) now n)) (cond_some (is_in_time (shown s) now) (changes.tell (shown s) now n status text) e).1 in
      let tests = parts_true s.is_upgraded (is_answer status text) there.0 in
      let h : Holds (IsWaitingAt (shown s) now n) (waiting_at (shown s) now n) =
      holds (IsWaitingAt (shown s) now n) (waiting_at (shown s) now n) (waiting_known (shown s) now n) (map_some f (waiting_at (shown s) now n) there.1) in
      cond_is_some (is_in_time (shown new) m) (changes.tell (shown new) m n status text) timely
      (cond_is_some (new.is_upgraded && is_answer status text) (option_map f (waiting_at (shown new) m n)) (both_true new.is_upgraded (is_answer status text) (mark_stays s new r c.upgrade tests.0) tests.1)
      (map_is_some f (waiting_at (shown new) m n) (ap is_some (waiting_still now n h.value h.known apart))))

  expire_still : (now n : ℕ) → now ≤ m → (task_of (shown s) r ≡ owner_of (shown s) n → ⊥) → IsEnabled s (entry.Expire n now) → IsEnabled new (entry.Expire n m)
  expire_still now n le apart e =
      let some : is_some (changes.expire (shown s) now n) ≡ true = (cond_some (is_in_time (shown s) now) (changes.expire (shown s) now n) e).1 in
      let k : Known (changes.expired n) (waiting_filter_at (shown s) now n) = then_some (changes.expired n) (waiting_filter_at (shown s) now n) some in
      let own : IsOfFilter (shown s) now n k.value = subst (λ (o : Option Waiting). IfSome o (IsOfFilter (shown s) now n)) k.is (filter_waits (shown s) now n) in
      let known : IsWaitingAt (shown s) now n k.value = own.0 in
      let late : nat_le (((k.value).issue).moment + ((k.value).here).step.timeout) ((k.value).here).now ≡ true =
      (cond_some (nat_le (((k.value).issue).moment + ((k.value).here).step.timeout) ((k.value).here).now) (Some (closes n issue_phase.Expired ∷ changes.done (k.value).here false)) k.some).0 in
      let due : ((k.value).issue).moment + (known.step).timeout ≤ now =
      le_of (((k.value).issue).moment + (known.step).timeout) now (subst (λ (h : Here). nat_le (((k.value).issue).moment + h.step.timeout) h.now ≡ true) known.here_is late) in
      cond_is_some (is_in_time (shown new) m) (changes.expire (shown new) m n) timely
      (some_then_some (changes.expired n) (waiting_filter_at (shown new) m n) (still n now k.value known) (filter_still now n k.value known own.1 apart)
      (cond_is_some (nat_le (((k.value).issue).moment + (known.step).timeout) m) (Some (closes n issue_phase.Expired ∷ changes.done (still n now k.value known).here false))
      (le_true (((k.value).issue).moment + (known.step).timeout) m (omega arith)) refl))

  -- ---- Upgrade

  upgrade_still : (version now : ℕ) → (task_of (shown s) r ≡ None → ⊥) → IsEnabled s (entry.Upgrade version now) → (IsEnded new → ⊥) → IsEnabled new (entry.Upgrade version m)
  upgrade_still version now apart e going =
      let test = cond_some ((version == 2) && is_none (outcome (shown s).lists) && not s.is_upgraded) (Some (upgrades ∷ [])) (cond_some (is_in_time (shown s) now) (changes.upgrade (shown s).lists version) e).1 in
      let parts = parts_true ((version == 2) && is_none (outcome (shown s).lists)) (not s.is_upgraded) test.0 in
      let first = parts_true (version == 2) (is_none (outcome (shown s).lists)) parts.0 in
      cond_is_some (is_in_time (shown new) m) (changes.upgrade (shown new).lists version) timely
      (taken ((version == 2) && is_none (outcome (shown new).lists) && not new.is_upgraded) (upgrades ∷ [])
      (three (version == 2) (is_none (outcome (shown new).lists)) (not new.is_upgraded) first.0 (none (outcome (shown new).lists) going) (ap not (no_mark s new r apart c.upgrade) ∙ parts.1)))
    where
      none : (o : Option Bool) → (is_some o ≡ true → ⊥) → is_none o ≡ true
      none None h = refl
      none (Some x) h = absurd (h refl)

pub records_stay_enabled : RecordsStayEnabled
records_stay_enabled s new one other m next enabled apart first second most = by other enabled apart second
  where
    c : ChangesOwnTask s new one (task_of (shown s) one)
    c = records_change_own_task s new one next

    timely : is_in_time (shown new) m ≡ true
    timely = both_true (nat_le new.moment m) (nat_le m last_moment) (le_true new.moment m (subst (λ n. n ≤ m) (sym c.moment) first)) (le_true m last_moment most)

    by : (other : Record) → IsEnabled s other → (task_of (shown s) one ≡ task_of (shown s) other → ⊥) → moment_of other ≤ m → MayCome new m other
    by (entry.Begin run moment books bind) e apart le = absurd (clash false (cond_some (is_in_time (shown s) moment) None e).1 refl)
    by (entry.Walk t now) e apart le = walk_still s new one c m timely now t le apart e
    by (entry.Send t n agent now bytes) e apart le = send_still s new one c m timely now t n agent bytes apart e
    by (entry.Reply n now status rule text) e apart le = reply_still s new one c m timely now n status rule text apart e
    by (entry.Expire n now) e apart le = expire_still s new one c m timely now n le apart e
    by (entry.Upgrade version now) e apart le = upgrade_still s new one c m timely version now apart e
    by (entry.Ask t n now bytes) e apart le = ask_still s new one c m timely now t n bytes apart e
    by (entry.Told n now status text) e apart le = tell_still s new one c m timely now n status text apart e
