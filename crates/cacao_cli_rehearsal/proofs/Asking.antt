-- A run of playbooks without commands for operators asks none.
use Rattle.std.proofs.Common.{◌≡◌, ◌⊎◌, inl, inr, ℕ, zero, suc, ◌==◌, ◌&&◌, Bool, true, false, cond, List, [], ◌∷◌, ◌++◌, length, Option, Some, None, arith, refl, ap, sym, subst, ◌∙◌, map}
use Rattle.std.specs.Prelude.{IfSome, not, option_and_then, slice_get, ⊤}
use Rattle.std.specs.List.{AllByRecursion, flat_map, list_all}
use Rattle.std.specs.Str.{bytes_eq}
use Rattle.run_records.specs.declared.record.Record.{Record}
use Rattle.run_records.specs.declared.record.Record.TheVariants as entry
use Rattle.cacao_book.specs.declared.books.Book.{Book}
use Rattle.cacao_book.specs.declared.commands.StepCommand.{StepCommand}
use Rattle.cacao_book.specs.declared.steps.Step.{Step}
use Rattle.cacao_book.specs.declared.step_kinds.StepKind.{StepKind}
use Rattle.cacao_book.specs.declared.step_kinds.StepKind.TheVariants as does
use Rattle.flow_core_rules.specs.declared.issues.Issue.{Issue}
use Rattle.flow_core_rules.specs.declared.issues.IssuePhase.{IssuePhase}
use Rattle.flow_core_rules.specs.declared.issues.IssuePhase.TheVariants as issue_phase
use Rattle.flow_core_rules.specs.declared.phases.Phase.{Phase}
use Rattle.flow_core_rules.specs.declared.phases.Phase.TheVariants as phase
use Rattle.flow_core_rules.specs.Givens.{Given, step_at}
use Rattle.flow_core_rules.specs.State.{State, Shown, shown}
use Rattle.flow_core_rules.specs.Edits.{Edit, all_edited, changed_at, closed}
use Rattle.flow_core_rules.specs.Earlier.{WasAccepted, has_no_manual}
use Rattle.flow_core_rules.specs.Places.{Place, addressees, is_manual, places, places_of, to_filter, to_operator}
use Rattle.flow_core_rules.specs.Tasks.{Here}
use Rattle.flow_core_rules.specs.Changes.{Issuing, ask, change, is_in_time, is_waiting, issuing, next_question, place_at, question_at}
use Rattle.flow_core_rules.specs.Moves.{asks, first_question, is_question}
use Rattle.flow_core_rules.specs.Runs.{GoesOn, Leads, Next}
use Rattle.flow_core_rules.proofs.HereLemmas.{here_of, some_at, some_option}
use Rattle.flow_core_rules.proofs.IssueLemmas.{WasAt, closed-after, filter-some, first_known, get_changed, get_push, given-after, issued-after, issues-after}
use Rattle.flow_core_rules.proofs.QuietLemmas.{keeps_issues}
use Rattle.flow_core_rules.proofs.ShapeLemmas.{IssueShape, Issued, change_shape, new_issue}

-- ---- places

abbrev IsForFilter : Place → Type 0
IsForFilter (to_filter content to) = ⊤
IsForFilter (to_operator content) = ⊥

each_both : (xs ys : List Place) → AllByRecursion IsForFilter xs → AllByRecursion IsForFilter ys → AllByRecursion IsForFilter (xs ++ ys)
each_both [] ys p q = q
each_both (x ∷ xs) ys p q = (p.0, each_both xs ys p.1 q)

each_sent : (content : Option (List ℕ)) (all : List (List ℕ)) → AllByRecursion IsForFilter (map (λ one. to_filter content one) all)
each_sent content [] = tt
each_sent content (one ∷ all) = (tt, each_sent content all)

of_command : (all : List (List ℕ)) (c : StepCommand) (b : Bool) → not b ≡ true → AllByRecursion IsForFilter (cond b (to_operator c.content ∷ []) (map (λ one. to_filter c.content one) all))
of_command all c true e = absurd (cc)
of_command all c false e = each_sent c.content all

both : (a b : Bool) → (a && b) ≡ true → (a ≡ true) × (b ≡ true)
both true true e = (refl, refl)
both true false e = (refl, e)
both false b e = (e, absurd (cc))

of_commands : (all : List (List ℕ)) (commands : List StepCommand) → list_all (λ command. not (is_manual command)) commands ≡ true → AllByRecursion IsForFilter (flat_map (places_of all) commands)
of_commands all [] h = tt
of_commands all (c ∷ commands) h =
    let parts = both (not (is_manual c)) (list_all (λ command. not (is_manual command)) commands) h in
    each_both (places_of all c) (flat_map (places_of all) commands) (of_command all c (is_manual c) parts.0) (of_commands all commands parts.1)

for_filters : (kind : StepKind) → has_no_manual kind ≡ true → AllByRecursion IsForFilter (places kind)
for_filters does.Start h = tt
for_filters does.End h = tt
for_filters (does.Action commands agent targets ins outs) h = of_commands (addressees agent targets) commands h
for_filters (does.PlaybookAction a b c d) h = tt
for_filters (does.Parallel a) h = tt
for_filters (does.If a b c) h = tt
for_filters (does.While a b) h = tt
for_filters (does.Switch a b) h = tt

at_number : (ps : List Place) (n : ℕ) (place : Place) → AllByRecursion IsForFilter ps → slice_get ps n ≡ Some place → IsForFilter place
at_number [] n place each e = absurd (none e)
  where
    none : None ≡ Some place → ⊥
    none h = cc
at_number (p ∷ ps) zero place each e = subst IsForFilter (same p place e) each.0
  where
    same : (x y : Place) → Some x ≡ Some y → x ≡ y
    same x y h = cc
at_number (p ∷ ps) (suc n) place each e = at_number ps n place each.1 e

-- ---- questions

step_plain : (given : Given) → WasAccepted given → (n k : ℕ) (step : Step) → step_at given n k ≡ Some step → has_no_manual step.kind ≡ true
step_plain given was n k step e = by (slice_get given.books n) refl e
  where
    by : (o : Option Book) → slice_get given.books n ≡ o → option_and_then (λ (b : Book). slice_get b.steps k) o ≡ Some step → has_no_manual step.kind ≡ true
    by None is h = absurd (none_step h)
      where
        none_step : None ≡ Some step → ⊥
        none_step g = cc
    by (Some book) is h = was.no_manual n k book step is h

abbrev asked_at : Here → Place → Option Issuing
asked_at h place = option_and_then (λ (issue : Issue). Some (issuing h issue)) (question_at h place)

not_asked : (h : Here) (place : Place) → IsForFilter place → IfSome (asked_at h place) (λ made. ⊥)
not_asked h (to_filter content to) is = tt
not_asked h (to_operator content) is = absurd is

at_phase : (h : Here) (at : Phase) → has_no_manual h.step.kind ≡ true → IfSome (option_and_then (asked_at h) (place_at h at)) (λ made. ⊥)
at_phase h (phase.Sending n) plain =
    some_option (slice_get (places h.step.kind) n) (asked_at h) (λ made. ⊥) (λ place e. not_asked h place (at_number (places h.step.kind) n place (for_filters h.step.kind plain) e))
at_phase h (phase.At since) plain = tt
at_phase h (phase.Awaiting place issue) plain = tt
at_phase h (phase.Joining from) plain = tt
at_phase h (phase.Ended well) plain = tt

no_question : (s : Shown) (now t : ℕ) → WasAccepted s.given → IfSome (next_question s now t) (λ made. ⊥)
no_question s now t was =
    some_at s now t (λ (h : Here). option_and_then (asked_at h) (place_at h h.task.phase)) (λ made. ⊥)
    (λ task step task_is step_is. at_phase (here_of s now t task step) task.phase (step_plain s.given was task.book task.step step step_is))

no_ask : (s : Shown) (now t n : ℕ) (bytes : List ℕ) (edits : List Edit) → WasAccepted s.given → ask s now t n bytes ≡ Some edits → ⊥
no_ask s now t n bytes edits was e = by (next_question s now t) (no_question s now t was) e
  where
    none_edits : None ≡ Some edits → ⊥
    none_edits h = cc

    by : (o : Option Issuing) → IfSome o (λ made. ⊥)
        → option_and_then (λ (made : Issuing). cond (s.lists.is_upgraded && (n == length s.lists.issues) && bytes_eq bytes (made.0).bytes) (Some made.1) None) o ≡ Some edits → ⊥
    by None none h = none_edits h
    by (Some made) none h = none

no_change : (s : Shown) (t n now : ℕ) (bytes : List ℕ) (edits : List Edit) → WasAccepted s.given → change s (entry.Ask t n now bytes) ≡ Some edits → ⊥
no_change s t n now bytes edits was e = by (is_in_time s now) e
  where
    none_edits : None ≡ Some edits → ⊥
    none_edits h = cc

    by : (b : Bool) → cond b (ask s now t n bytes) None ≡ Some edits → ⊥
    by true h = no_ask s now t n bytes edits was h
    by false h = none_edits h

-- ---- issues

-- each issue is a filter's
AllFilters : List Issue → Type 0
AllFilters is = (k : ℕ) (i : Issue) → slice_get is k ≡ Some i → (i.agent == 0) ≡ false

closed_agent : (is : List Issue) (n k : ℕ) (end : IssuePhase) (i : Issue) → WasAt is n (closed end) k i → (b : Bool) → (k == n) ≡ b
    → ((j : ℕ) (x : Issue) → slice_get is j ≡ Some x → (x.agent == 0) ≡ false) → (i.agent == 0) ≡ false
closed_agent is n k end i w true e h =
    subst (λ (x : Issue). (x.agent == 0) ≡ false) (sym (w.same (same_number k n e))) (h k w.was w.was_is)
  where
    same_number : (x y : ℕ) → (x == y) ≡ true → x ≡ y
    same_number x y g = grind arith
closed_agent is n k end i w false e h =
    subst (λ (x : Issue). (x.agent == 0) ≡ false) (sym (w.other (other_number k n e))) (h k w.was w.was_is)
  where
    other_number : (x y : ℕ) → (x == y) ≡ false → x ≡ y → ⊥
    other_number x y g same = grind arith

closed_filters : (is : List Issue) (n : ℕ) (end : IssuePhase) → AllFilters is → AllFilters (changed_at n (closed end) is)
unfolding AllFilters
closed_filters is n end h = λ k i e. closed_agent is n k end i (get_changed n (closed end) is k i e) (k == n) refl h

pushed_filters : (is : List Issue) (new : Issue) → (new.agent == 0) ≡ false → AllFilters is → AllFilters (is ++ new ∷ [])
unfolding AllFilters
pushed_filters is new plain h = λ k i e. by k i (get_push is new i k e)
  where
    by : (k : ℕ) (i : Issue) → (slice_get is k ≡ Some i) ⊎ ((k ≡ length is) × (new ≡ i)) → (i.agent == 0) ≡ false
    by k i (inl e) = h k i e
    by k i (inr e) = subst (λ (x : Issue). (x.agent == 0) ≡ false) e.1 plain

filters_after : (s : State) (r : Record) (edits : List Edit) → WasAccepted s.given → change (shown s) r ≡ Some edits → IssueShape (shown s) r edits → AllFilters s.issues → AllFilters (all_edited edits s).issues
filters_after s (entry.Begin run moment books bind) edits was e shape h = absurd shape
filters_after s (entry.Walk task moment) edits was e shape h = subst AllFilters (sym (keeps_issues edits s shape)) h
filters_after s (entry.Send task n agent moment bytes) edits was e shape h =
    let i : Issued (shown s) task n agent moment bytes edits = shape.issued in
    let new : Issue = new_issue task agent moment bytes in
    subst AllFilters (sym (issued-after edits i.rest s new i.edits_are i.quiet))
    (pushed_filters s.issues new (subst (λ x. (x == 0) ≡ false) (sym shape.agent_is) (filter-some s.given.agents shape.to was.filters)) h)
filters_after s (entry.Ask task n moment bytes) edits was e shape h = absurd (no_change (shown s) task n moment bytes edits was e)
filters_after s (entry.Upgrade version moment) edits was e shape h = subst AllFilters (sym (ap (λ (es : List Edit). (all_edited es s).issues) shape)) h
filters_after s (entry.Reply n moment status rule text) edits was e shape h =
    subst AllFilters (sym (closed-after edits shape.rest s n (issue_phase.Answered status) shape.edits_are shape.quiet)) (closed_filters s.issues n (issue_phase.Answered status) h)
filters_after s (entry.Told n moment status text) edits was e shape h =
    subst AllFilters (sym (closed-after edits shape.rest s n (issue_phase.Told status) shape.edits_are shape.quiet)) (closed_filters s.issues n (issue_phase.Told status) h)
filters_after s (entry.Expire n moment) edits was e shape h =
    subst AllFilters (sym (closed-after edits shape.rest s n issue_phase.Expired shape.edits_are shape.quiet)) (closed_filters s.issues n issue_phase.Expired h)

no_issues : AllFilters []
unfolding AllFilters
no_issues k i e = absurd (none_there e)
  where
    none_there : None ≡ Some i → ⊥
    none_there h = cc

goes_on : (given : Given) → WasAccepted given → (records : List Record) (s new : State) → s.given ≡ given → AllFilters s.issues → GoesOn s records new → AllFilters new.issues
goes_on given was [] s new same h g = subst (λ (x : State). AllFilters x.issues) g h
goes_on given was (r ∷ records) s new same h g =
    let next : Next s r g.0 = g.1 in
    let here : WasAccepted s.given = subst WasAccepted (sym same) was in
    let after_is : AllFilters (g.0).issues = subst AllFilters (sym (issues-after s g.0 r next.edits next.new_is)) (filters_after s r next.edits here next.change_is (change_shape (shown s) r next.edits next.change_is) h) in
    goes_on given was records g.0 new (given-after s g.0 r next.edits next.new_is ∙ same) after_is g.2

-- ---- no question waits

not_question : (waits zero_agent : Bool) → zero_agent ≡ false → (waits && zero_agent) ≡ false
not_question true false e = refl
not_question false b e = refl
not_question true true e = e

if_false : (b : Bool) (x y : Option ℕ) → b ≡ false → y ≡ None → cond b x y ≡ None
if_false true x y e f = absurd (cc)
if_false false x y e f = f

none_asked : (n : ℕ) (is : List Issue) → AllFilters is → first_question n is ≡ None
unfolding AllFilters
none_asked n [] h = refl
none_asked n (i ∷ is) h =
    if_false (is_question i) (Some n) (first_question (suc n) is) (not_question (is_waiting i.phase) (i.agent == 0) (h 0 i refl)) (none_asked (suc n) is (λ k x e. h (suc k) x e))

-- where no command is for operators, no issue that waits is
pub asks_none : (given : Given) (run : ℕ) (records : List Record) (s : State) → WasAccepted given → Leads given run records s → asks (shown s) ≡ None
asks_none given run records s was l =
    let known = first_known given run l.now l.first l.begins in
    none_asked 0 s.issues (goes_on given was l.others l.first s known.1 (subst AllFilters (sym known.0) no_issues) l.goes_on)
