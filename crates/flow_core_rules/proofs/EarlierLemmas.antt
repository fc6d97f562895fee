-- Each run by the rules before there were operators is a run.
use Rattle.std.proofs.Common.{◌≡◌, ℕ, suc, ◌==◌, ◌&&◌, Bool, true, false, cond, List, [], ◌∷◌, ◌++◌, length, Option, Some, None, is_some, arith, refl, ap, sym, subst, ◌∙◌, inl, inr, ◌⊎◌}
use Rattle.std.specs.Prelude.{IfSome, option_and_then, option_map, slice_get, map, not}
use Rattle.std.specs.List.{list_all, flat_map}
use Rattle.std.specs.Str.{bytes_eq}
use Rattle.run_records.specs.declared.record.Record.{Record}
use Rattle.run_records.specs.declared.record.Record.TheVariants as entry
use Rattle.cacao_book.specs.declared.books.Book.{Book}
use Rattle.cacao_book.specs.declared.steps.Step.{Step}
use Rattle.cacao_book.specs.declared.commands.StepCommand.{StepCommand}
use Rattle.cacao_book.specs.declared.step_kinds.StepKind.{StepKind}
use Rattle.cacao_book.specs.declared.step_kinds.StepKind.TheVariants as does
use Rattle.flow_core_rules.specs.declared.tasks.Task.{Task}
use Rattle.flow_core_rules.specs.declared.issues.Issue.{Issue}
use Rattle.flow_core_rules.specs.declared.issues.IssuePhase.{IssuePhase}
use Rattle.flow_core_rules.specs.declared.issues.IssuePhase.TheVariants as issue_phase
use Rattle.flow_core_rules.specs.declared.phases.Phase.{Phase}
use Rattle.flow_core_rules.specs.declared.phases.Phase.TheVariants as phase
use Rattle.flow_core_rules.specs.Givens.{Given, step_at}
use Rattle.flow_core_rules.specs.State.{State, Shown, shown}
use Rattle.flow_core_rules.specs.Edits.{Edit, all_edited, changed_at, closed}
use Rattle.flow_core_rules.specs.Edits.Edit.{closes, moves}
use Rattle.flow_core_rules.specs.Places.{Place, to_filter, to_operator, places, places_of, is_manual, addressees}
use Rattle.flow_core_rules.specs.Tasks.{Here, here_at, in_phase, finish}
use Rattle.flow_core_rules.specs.Changes as changes
use Rattle.flow_core_rules.specs.Changes.{Waiting, Issuing}
use Rattle.flow_core_rules.specs.Runs.{Next, GoesOn}
use Rattle.flow_core_rules.specs.Earlier.{earlier_places, earlier_place_at, earlier_send, earlier_after_answer, earlier_answered, earlier_reply, earlier_edits_of, earlier_change, EarlierNext, EarlierGoesOn, has_no_manual, WasAccepted}
use Rattle.flow_core_rules.specs.Laws.{EarlierRunsAreRuns}
use Rattle.flow_core_rules.proofs.HereLemmas.{some_at, IsWaitingAt, waiting_known}
use Rattle.flow_core_rules.proofs.ShapeLemmas.{new_issue, Issued, IssueShape, change_shape}
use Rattle.flow_core_rules.proofs.QuietLemmas.{keeps_issues}
use Rattle.flow_core_rules.proofs.IssueLemmas.{WasAt, get_push, get_changed, issued-after, closed-after, issues-after, given-after, filter-some, first_known}

-- ---- the same places

both : (a b : Bool) → (a && b) ≡ true → (a ≡ true) × (b ≡ true)
both true true e = (refl, refl)
both true false e = (refl, e)
both false b e = (e, absurd (no_truth e))
  where
    no_truth : false ≡ true → ⊥
    no_truth h = cc

not_false : {A : Type 0} (b : Bool) (x y : A) → not b ≡ true → cond b x y ≡ y
not_false true x y e = absurd (no_truth e)
  where
    no_truth : false ≡ true → ⊥
    no_truth h = cc
not_false false x y e = refl

same_commands : (all : List (List ℕ)) (commands : List StepCommand) → list_all (λ command. not (is_manual command)) commands ≡ true
    → flat_map (places_of all) commands ≡ flat_map (λ command. map (λ to. to_filter command.content to) all) commands
same_commands all [] h = refl
same_commands all (c ∷ commands) h =
    let parts = both (not (is_manual c)) (list_all (λ command. not (is_manual command)) commands) h in
    ap (λ (ps : List Place). ps ++ flat_map (places_of all) commands) (not_false (is_manual c) (to_operator c.content ∷ []) (map (λ one. to_filter c.content one) all) parts.0)
    ∙ ap (λ (ps : List Place). map (λ to. to_filter c.content to) all ++ ps) (same_commands all commands parts.1)

same_places : (kind : StepKind) → has_no_manual kind ≡ true → places kind ≡ earlier_places kind
same_places does.Start h = refl
same_places does.End h = refl
same_places (does.Action commands agent targets ins outs) h = same_commands (addressees agent targets) commands h
same_places (does.PlaybookAction a b c d) h = refl
same_places (does.Parallel a) h = refl
same_places (does.If a b c) h = refl
same_places (does.While a b) h = refl
same_places (does.Switch a b) h = refl

-- a step of what was accepted then
step_plain : (given : Given) → WasAccepted given → (n k : ℕ) (step : Step) → step_at given n k ≡ Some step → has_no_manual step.kind ≡ true
step_plain given was n k step e = by (slice_get given.books n) refl e
  where
    by : (o : Option Book) → slice_get given.books n ≡ o → option_and_then (λ (b : Book). slice_get b.steps k) o ≡ Some step → has_no_manual step.kind ≡ true
    by None is h = absurd (none_step h)
      where
        none_step : None ≡ Some step → ⊥
        none_step g = cc
    by (Some book) is h = was.no_manual n k book step is h

-- ---- the same edits

same_place_at : (h : Here) (at : Phase) → has_no_manual h.step.kind ≡ true → earlier_place_at h at ≡ changes.place_at h at
same_place_at h (phase.Sending n) e = ap (λ (ps : List Place). slice_get ps n) (sym (same_places h.step.kind e))
same_place_at h (phase.At since) e = refl
same_place_at h (phase.Awaiting place issue) e = refl
same_place_at h (phase.Joining from) e = refl
same_place_at h (phase.Ended well) e = refl

module _ (s : Shown) (was : WasAccepted s.given) where
  here_plain : (now t : ℕ) → IfSome (here_at s now t) (λ h. has_no_manual h.step.kind ≡ true)
  here_plain now t = subst (λ (o : Option Here). IfSome o (λ h. has_no_manual h.step.kind ≡ true)) (same_option (here_at s now t))
      (some_at s now t (λ (h : Here). Some h) (λ h. has_no_manual h.step.kind ≡ true) (λ task step task_is step_is. step_plain s.given was task.book task.step step step_is))
    where
      same_option : (o : Option Here) → option_and_then (λ (h : Here). Some h) o ≡ o
      same_option None = refl
      same_option (Some h) = refl

  same_send : (now t n agent : ℕ) (bytes : List ℕ) → earlier_send s now t n agent bytes ≡ changes.send s now t n agent bytes
  same_send now t n agent bytes = by (here_at s now t) (here_plain now t)
    where
      earlier_from : Here → Option Place → Option (List Edit)
      earlier_from h o =
          option_and_then (λ (place : Place). option_and_then (λ (issue : Issue). cond ((n == length s.lists.issues) && (agent == issue.agent) && bytes_eq bytes issue.bytes) (Some (changes.issuing h issue).1) None) (changes.command_at h place)) o

      later_from : Here → Option Place → Option (List Edit)
      later_from h o =
          option_and_then (λ (made : Issuing). cond ((n == length s.lists.issues) && (agent == (made.0).agent) && bytes_eq bytes (made.0).bytes) (Some made.1) None)
          (option_and_then (λ (place : Place). option_and_then (λ (issue : Issue). Some (changes.issuing h issue)) (changes.command_at h place)) o)

      at_issue : (h : Here) (o : Option Issue)
          → option_and_then (λ (issue : Issue). cond ((n == length s.lists.issues) && (agent == issue.agent) && bytes_eq bytes issue.bytes) (Some (changes.issuing h issue).1) None) o
          ≡ option_and_then (λ (made : Issuing). cond ((n == length s.lists.issues) && (agent == (made.0).agent) && bytes_eq bytes (made.0).bytes) (Some made.1) None) (option_and_then (λ (issue : Issue). Some (changes.issuing h issue)) o)
      at_issue h None = refl
      at_issue h (Some issue) = refl

      at_place : (h : Here) (o : Option Place) → earlier_from h o ≡ later_from h o
      at_place h None = refl
      at_place h (Some place) = at_issue h (changes.command_at h place)

      by : (o : Option Here) → IfSome o (λ h. has_no_manual h.step.kind ≡ true)
          → option_and_then (λ (h : Here). earlier_from h (earlier_place_at h h.task.phase)) o
          ≡ option_and_then (λ (made : Issuing). cond ((n == length s.lists.issues) && (agent == (made.0).agent) && bytes_eq bytes (made.0).bytes) (Some made.1) None)
          (option_and_then (λ (h : Here). option_and_then (λ (place : Place). option_and_then (λ (issue : Issue). Some (changes.issuing h issue)) (changes.command_at h place)) (changes.place_at h h.task.phase)) o)
      by None plain = refl
      by (Some h) plain = ap (earlier_from h) (same_place_at h h.task.phase plain) ∙ at_place h (changes.place_at h h.task.phase)

  same_after : (w : Waiting) (status : ℕ) → has_no_manual w.here.step.kind ≡ true → earlier_after_answer w status ≡ changes.after_answer w status
  same_after w status e =
      ap (λ (ps : List Place). cond (not (status == 200)) (finish w.here false) (cond (is_some (slice_get ps (suc w.place))) (in_phase w.here.task (phase.Sending (suc w.place))) (finish w.here true)))
      (sym (same_places w.here.step.kind e))

  same_answered : (n status rule : ℕ) (text : List ℕ) (w : Waiting) → has_no_manual w.here.step.kind ≡ true
      → earlier_answered n status rule text w ≡ changes.answered n (issue_phase.Answered status) status rule text w
  same_answered n status rule text w e =
      ap (λ (task : Task). closes n (issue_phase.Answered status) ∷ (flat_map (changes.written w.here.seen.lists w.scope) (changes.paired (changes.out_args_of w.here.step.kind) (changes.results status rule text)) ++ moves w.here.number task ∷ []))
      (same_after w status e)

  -- no issue is an operator's, so each that waits is a filter's
  module _ (plain : (k : ℕ) (i : Issue) → slice_get s.lists.issues k ≡ Some i → (i.agent == 0) ≡ false) where
    waiting_plain : (now n : ℕ) → IfSome (changes.waiting_at s now n) (λ w. has_no_manual w.here.step.kind ≡ true)
    waiting_plain now n = weaken (changes.waiting_at s now n) (waiting_known s now n)
      where
        weaken : (o : Option Waiting) → IfSome o (IsWaitingAt s now n) → IfSome o (λ w. has_no_manual w.here.step.kind ≡ true)
        weaken None h = tt
        weaken (Some w) h = subst (λ (x : Here). has_no_manual x.step.kind ≡ true) (sym h.here_is) (step_plain s.given was (h.task).book (h.task).step h.step h.step_is)

    same_waiting : (now n : ℕ) → changes.waiting_filter_at s now n ≡ changes.waiting_at s now n
    same_waiting now n = by (changes.waiting_at s now n) (waiting_known s now n)
      where
        by : (o : Option Waiting) → IfSome o (IsWaitingAt s now n) → option_and_then (λ (w : Waiting). cond ((w.issue).agent == 0) None (Some w)) o ≡ o
        by None h = refl
        by (Some w) h = rw (plain n w.issue h.issue_is) refl

    same_reply : (now n status rule : ℕ) (text : List ℕ) → earlier_reply s now n status rule text ≡ changes.reply s now n status rule text
    same_reply now n status rule text =
        ap (λ (o : Option (List Edit)). cond (changes.is_answer status text) o None)
        (maps (changes.waiting_at s now n) (waiting_plain now n) ∙ ap (λ (o : Option Waiting). option_map (changes.answered n (issue_phase.Answered status) status rule text) o) (sym (same_waiting now n)))
      where
        maps : (o : Option Waiting) → IfSome o (λ w. has_no_manual w.here.step.kind ≡ true)
            → option_map (earlier_answered n status rule text) o ≡ option_map (changes.answered n (issue_phase.Answered status) status rule text) o
        maps None h = refl
        maps (Some w) h = ap Some (same_answered n status rule text w h)

    same_edits : (r : Record) (edits : List Edit) → earlier_edits_of s r ≡ Some edits → changes.edits_of s r ≡ Some edits
    same_edits (entry.Begin run moment books bind) edits e = e
    same_edits (entry.Walk task moment) edits e = e
    same_edits (entry.Send task issue agent moment bytes) edits e = sym (same_send moment task issue agent bytes) ∙ e
    same_edits (entry.Reply issue moment status rule text) edits e = sym (same_reply moment issue status rule text) ∙ e
    same_edits (entry.Expire issue moment) edits e = ap (option_and_then (changes.expired issue)) (same_waiting moment issue) ∙ e
    same_edits (entry.Upgrade version moment) edits e = absurd (none_edits edits e)
      where
        none_edits : (x : List Edit) → None ≡ Some x → ⊥
        none_edits x h = cc
    same_edits (entry.Ask task issue moment bytes) edits e = absurd (none_edits edits e)
      where
        none_edits : (x : List Edit) → None ≡ Some x → ⊥
        none_edits x h = cc
    same_edits (entry.Told issue moment status text) edits e = absurd (none_edits edits e)
      where
        none_edits : (x : List Edit) → None ≡ Some x → ⊥
        none_edits x h = cc

    same_change : (r : Record) (edits : List Edit) → earlier_change s r ≡ Some edits → changes.change s r ≡ Some edits
    same_change r edits e = by (changes.is_in_time s (changes.moment_of r)) e
      where
        by : (b : Bool) → cond b (earlier_edits_of s r) None ≡ Some edits → cond b (changes.edits_of s r) None ≡ Some edits
        by true h = same_edits r edits h
        by false h = h

-- ---- runs

-- an issue that was closed is its filter's still
closed_agent : (is : List Issue) (n k : ℕ) (end : IssuePhase) (i : Issue) → WasAt is n (closed end) k i → (b : Bool) → (k == n) ≡ b
    → ((j : ℕ) (x : Issue) → slice_get is j ≡ Some x → (x.agent == 0) ≡ false) → (i.agent == 0) ≡ false
closed_agent is n k end i w true e h =
    subst (λ (x : Issue). (x.agent == 0) ≡ false) (sym (w.same (same_number k n e))) (h k w.was w.was_is)
  where
    same_number : (x y : ℕ) → (x == y) ≡ true → x ≡ y
    same_number x y g = grind arith
closed_agent is n k end i w false e h =
    subst (λ (x : Issue). (x.agent == 0) ≡ false) (sym (w.other (other_number k n e))) (h k w.was w.was_is)
  where
    other_number : (x y : ℕ) → (x == y) ≡ false → x ≡ y → ⊥
    other_number x y g same = grind arith

AllFilters : List Issue → Type 0
AllFilters is = (k : ℕ) (i : Issue) → slice_get is k ≡ Some i → (i.agent == 0) ≡ false

closed_filters : (is : List Issue) (n : ℕ) (end : IssuePhase) → AllFilters is → AllFilters (changed_at n (closed end) is)
unfolding AllFilters
closed_filters is n end h = λ k i e. closed_agent is n k end i (get_changed n (closed end) is k i e) (k == n) refl h

pushed_filters : (is : List Issue) (new : Issue) → (new.agent == 0) ≡ false → AllFilters is → AllFilters (is ++ new ∷ [])
unfolding AllFilters
pushed_filters is new plain h = λ k i e. by k i (get_push is new i k e)
  where
    by : (k : ℕ) (i : Issue) → (slice_get is k ≡ Some i) ⊎ ((k ≡ length is) × (new ≡ i)) → (i.agent == 0) ≡ false
    by k i (inl e) = h k i e
    by k i (inr e) = subst (λ (x : Issue). (x.agent == 0) ≡ false) e.1 plain

filters_after : (s : State) (r : Record) (edits : List Edit) → WasAccepted s.given → earlier_change (shown s) r ≡ Some edits → IssueShape (shown s) r edits → AllFilters s.issues
    → AllFilters (all_edited edits s).issues
filters_after s (entry.Begin run moment books bind) edits was e shape h = absurd shape
filters_after s (entry.Walk task moment) edits was e shape h = subst AllFilters (sym (keeps_issues edits s shape)) h
filters_after s (entry.Send task n agent moment bytes) edits was e shape h =
    let i : Issued (shown s) task n agent moment bytes edits = shape.issued in
    let new : Issue = new_issue task agent moment bytes in
    subst AllFilters (sym (issued-after edits i.rest s new i.edits_are i.quiet))
    (pushed_filters s.issues new (subst (λ x. (x == 0) ≡ false) (sym shape.agent_is) (filter-some s.given.agents shape.to was.filters)) h)
filters_after s (entry.Ask task n moment bytes) edits was e shape h = absurd (by (changes.is_in_time (shown s) moment) e)
  where
    none_edits : None ≡ Some edits → ⊥
    none_edits g = cc

    by : (c : Bool) → cond c None None ≡ Some edits → ⊥
    by true g = none_edits g
    by false g = none_edits g
filters_after s (entry.Upgrade version moment) edits was e shape h = subst AllFilters (sym (ap (λ (es : List Edit). (all_edited es s).issues) shape)) h
filters_after s (entry.Reply n moment status rule text) edits was e shape h =
    subst AllFilters (sym (closed-after edits shape.rest s n (issue_phase.Answered status) shape.edits_are shape.quiet)) (closed_filters s.issues n (issue_phase.Answered status) h)
filters_after s (entry.Told n moment status text) edits was e shape h =
    subst AllFilters (sym (closed-after edits shape.rest s n (issue_phase.Told status) shape.edits_are shape.quiet)) (closed_filters s.issues n (issue_phase.Told status) h)
filters_after s (entry.Expire n moment) edits was e shape h =
    subst AllFilters (sym (closed-after edits shape.rest s n issue_phase.Expired shape.edits_are shape.quiet)) (closed_filters s.issues n issue_phase.Expired h)

plain_issues : (s : State) → AllFilters s.issues → (k : ℕ) (i : Issue) → slice_get s.issues k ≡ Some i → (i.agent == 0) ≡ false
unfolding AllFilters
plain_issues s h = h

no_issues : AllFilters []
unfolding AllFilters
no_issues k i e = absurd (none_there e)
  where
    none_there : None ≡ Some i → ⊥
    none_there h = cc

goes_on : (given : Given) → WasAccepted given → (records : List Record) (s new : State) → s.given ≡ given → AllFilters s.issues → EarlierGoesOn s records new → GoesOn s records new
goes_on given was [] s new same h g = g
goes_on given was (r ∷ records) s new same h g =
    let mid : State = g.0 in
    let e : EarlierNext s r mid = g.1 in
    let here : WasAccepted s.given = subst WasAccepted (sym same) was in
    let change_is : changes.change (shown s) r ≡ Some e.edits = same_change (shown s) here (plain_issues s h) r e.edits e.change_is in
    let next : Next s r mid = record { edits = e.edits; change_is = change_is; new_is = e.new_is } in
    let after_is : AllFilters mid.issues = subst AllFilters (sym (issues-after s mid r e.edits e.new_is)) (filters_after s r e.edits here e.change_is (change_shape (shown s) r e.edits change_is) h) in
    (mid, next, goes_on given was records mid new (given-after s mid r e.edits e.new_is ∙ same) after_is g.2)

pub earlier_runs_are_runs : EarlierRunsAreRuns
earlier_runs_are_runs given run records s was l =
    let known = first_known given run l.now l.first l.begins in
    record {
      now = l.now;
      others = l.others;
      first = l.first;
      in_time = l.in_time;
      records_are = l.records_are;
      begins = l.begins;
      goes_on = goes_on given was l.others l.first s known.1 (subst AllFilters (sym known.0) no_issues) l.goes_on;
    }
