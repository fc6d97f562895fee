-- Each issue of a run has the step from which it was sent.
use Rattle.std.proofs.Common.{◌≡◌, ◌∙◌, ℕ, zero, suc, ◌+◌, ◌==◌, ◌&&◌, Bool, true, cond, List, [], ◌∷◌, ◌++◌, length, map, Option, Some, None, IsSome, IfSome, is_some, option_and_then, option_to_list, slice_get, refl, sym, ap, subst, arith, length-append, true≢false}
use Rattle.std.specs.Str.{bytes_eq}
use Rattle.std.proofs.lemmas.Option.{same_Some}
use Rattle.run_records.specs.declared.record.Record.{Record}
use Rattle.run_records.specs.declared.record.Record.TheVariants as entry
use Rattle.flow_core_rules.specs.Changes as changes
use Rattle.flow_core_rules.specs.Changes.{Issuing, change, is_in_time, moment_of}
use Rattle.flow_core_rules.specs.Edits.{Edit, all_edited, changed_at, closed}
use Rattle.flow_core_rules.specs.Laws.{HasPlacedWrites, IsShownAlone}
use Rattle.flow_core_rules.specs.Places.{Place}
use Rattle.flow_core_rules.specs.Runs.{GoesOn, Leads, Next, begin_of, begun}
use Rattle.flow_core_rules.specs.State.{Shown, State, shown}
use Rattle.flow_core_rules.specs.Tasks.{Here}
use Rattle.flow_core_rules.specs.declared.issues.Issue.{Issue}
use Rattle.flow_core_rules.specs.declared.issues.IssuePhase.TheVariants as issue_phase
use Rattle.flow_core_rules.specs.declared.tasks.Task.{Task}
use Rattle.flow_core_rules.proofs.HereLemmas.{here_of, some_at}
use Rattle.flow_core_rules.proofs.IssueLemmas.{closed-after, first_known, issued-after, issues-after}
use Rattle.flow_core_rules.proofs.PlacedLemmas.{first_shown, records_shown, some_from, some_if}
use Rattle.flow_core_rules.proofs.QuietLemmas.{keeps_issues}
use Rattle.flow_core_rules.proofs.ShapeLemmas.{Closed, Issued, Sent, change_shape, new_issue}
use Rattle.flow_engine_history.specs.Histories.{IsShownAfter}
use Rattle.cacao_view_graph.specs.declared.spot.Spot.{Spot}
use Rattle.cacao_view_graph.specs.Courses.{behind, sends, sent_by, spot_of, spots}
use Rattle.cacao_view_graph.specs.RunLaws.{IssuesHaveSteps}
use Rattle.cacao_view_graph.proofs.CourseLemmas.{behind_is}
use Rattle.cacao_view_graph.proofs.TreeLemmas.{heads}

-- ---- the task that sends or asks is there

always : {A : Type 0} (X : Type 0) (o : Option A) → X → IfSome o (λ _. X)
always X None x = tt
always X (Some a) x = x

abbrev IsTask : Shown → ℕ → Type 0
IsTask s t = IsSome (slice_get s.lists.tasks t)

abbrev command_from : Here → Option Issuing
command_from h = option_and_then (λ (place : Place). option_and_then (λ (issue : Issue). Some (changes.issuing h issue)) (changes.command_at h place)) (changes.place_at h h.task.phase)

abbrev question_from : Here → Option Issuing
question_from h = option_and_then (λ (place : Place). option_and_then (λ (issue : Issue). Some (changes.issuing h issue)) (changes.question_at h place)) (changes.place_at h h.task.phase)

command_there : (s : Shown) (now t : ℕ) → IfSome (changes.next_command s now t) (λ (made : Issuing). IsTask s t)
command_there s now t =
    some_at s now t command_from (λ (made : Issuing). IsTask s t) (λ task step task_is step_is. always (IsTask s t) (command_from (here_of s now t task step)) (ap is_some task_is))

question_there : (s : Shown) (now t : ℕ) → IfSome (changes.next_question s now t) (λ (made : Issuing). IsTask s t)
question_there s now t =
    some_at s now t question_from (λ (made : Issuing). IsTask s t) (λ task step task_is step_is. always (IsTask s t) (question_from (here_of s now t task step)) (ap is_some task_is))

sent_there : (s : Shown) (now t n agent : ℕ) (bytes : List ℕ) → IfSome (changes.send s now t n agent bytes) (λ (es : List Edit). IsTask s t)
sent_there s now t n agent bytes =
    some_from (changes.next_command s now t) (λ (made : Issuing). cond (same made) (Some made.1) None) (λ (made : Issuing). IsTask s t) (λ (es : List Edit). IsTask s t) (command_there s now t)
    (λ made there. always (IsTask s t) (cond (same made) (Some made.1) None) there)
  where
    same : Issuing → Bool
    same made = (n == length s.lists.issues) && (agent == (made.0).agent) && bytes_eq bytes (made.0).bytes

asked_there : (s : Shown) (now t n : ℕ) (bytes : List ℕ) → IfSome (changes.ask s now t n bytes) (λ (es : List Edit). IsTask s t)
asked_there s now t n bytes =
    some_from (changes.next_question s now t) (λ (made : Issuing). cond (same made) (Some made.1) None) (λ (made : Issuing). IsTask s t) (λ (es : List Edit). IsTask s t) (question_there s now t)
    (λ made there. always (IsTask s t) (cond (same made) (Some made.1) None) there)
  where
    same : Issuing → Bool
    same made = s.lists.is_upgraded && (n == length s.lists.issues) && bytes_eq bytes (made.0).bytes

send_there : (s : Shown) (t n agent now : ℕ) (bytes : List ℕ) (edits : List Edit) → change s (entry.Send t n agent now bytes) ≡ Some edits → IsTask s t
send_there s t n agent now bytes edits e =
    subst (λ (o : Option (List Edit)). IfSome o (λ (es : List Edit). IsTask s t)) e
    (some_if (is_in_time s now) (changes.send s now t n agent bytes) (λ (es : List Edit). IsTask s t) (sent_there s now t n agent bytes))

ask_there : (s : Shown) (t n now : ℕ) (bytes : List ℕ) (edits : List Edit) → change s (entry.Ask t n now bytes) ≡ Some edits → IsTask s t
ask_there s t n now bytes edits e =
    subst (λ (o : Option (List Edit)). IfSome o (λ (es : List Edit). IsTask s t)) e
    (some_if (is_in_time s now) (changes.ask s now t n bytes) (λ (es : List Edit). IsTask s t) (asked_there s now t n bytes))

one_spot : (o : Option Task) → IsSome o → length (map spot_of (option_to_list o)) ≡ 1
one_spot None h = absurd (true≢false (sym h))
one_spot (Some task) h = refl

-- ---- one record

same_count : (new old : List Issue) → new ≡ old → length new ≡ length old + 0
same_count new old e = ap length e ∙ (let z : length old ≡ length old + 0 = omega arith in z)

same_length : {A : Type 0} (n : ℕ) (f : A → A) (xs : List A) → length (changed_at n f xs) ≡ length xs
same_length n f [] = refl
same_length zero f (x ∷ xs) = refl
same_length (suc n) f (x ∷ xs) = ap suc (same_length n f xs)

closed_count : (new old : List Issue) (n : ℕ) (f : Issue → Issue) → new ≡ changed_at n f old → length new ≡ length old + 0
closed_count new old n f e = ap length e ∙ same_length n f old ∙ (let z : length old ≡ length old + 0 = omega arith in z)

one_count : (new old : List Issue) (issue : Issue) (n : ℕ) → new ≡ old ++ issue ∷ [] → n ≡ 1 → length new ≡ length old + n
one_count new old issue n e one = ap length e ∙ length-append old (issue ∷ []) ∙ ap (λ (k : ℕ). length old + k) (sym one)

counts : (s : State) (r : Record) (edits : List Edit) → change (shown s) r ≡ Some edits → length (all_edited edits s).issues ≡ length s.issues + length (sent_by (shown s) r)
counts s (entry.Begin run moment books bind) edits e = absurd (change_shape (shown s) (entry.Begin run moment books bind) edits e)
counts s (entry.Walk task moment) edits e =
    same_count (all_edited edits s).issues s.issues (keeps_issues edits s (change_shape (shown s) (entry.Walk task moment) edits e))
counts s (entry.Send task n agent moment bytes) edits e =
    let shape : Sent (shown s) task n agent moment bytes edits = change_shape (shown s) (entry.Send task n agent moment bytes) edits e in
    let i : Issued (shown s) task n agent moment bytes edits = shape.issued in
    one_count (all_edited edits s).issues s.issues (new_issue task agent moment bytes) (length (spots (shown s) (Some task)))
    (issued-after edits i.rest s (new_issue task agent moment bytes) i.edits_are i.quiet) (one_spot (slice_get s.tasks task) (send_there (shown s) task n agent moment bytes edits e))
counts s (entry.Ask task n moment bytes) edits e =
    let i : Issued (shown s) task n 0 moment bytes edits = change_shape (shown s) (entry.Ask task n moment bytes) edits e in
    one_count (all_edited edits s).issues s.issues (new_issue task 0 moment bytes) (length (spots (shown s) (Some task)))
    (issued-after edits i.rest s (new_issue task 0 moment bytes) i.edits_are i.quiet) (one_spot (slice_get s.tasks task) (ask_there (shown s) task n moment bytes edits e))
counts s (entry.Upgrade version moment) edits e =
    same_count (all_edited edits s).issues s.issues (ap (λ (es : List Edit). (all_edited es s).issues) (change_shape (shown s) (entry.Upgrade version moment) edits e))
counts s (entry.Reply n moment status rule text) edits e =
    let shape : Closed (shown s) n (issue_phase.Answered status) edits = change_shape (shown s) (entry.Reply n moment status rule text) edits e in
    closed_count (all_edited edits s).issues s.issues n (closed (issue_phase.Answered status)) (closed-after edits shape.rest s n (issue_phase.Answered status) shape.edits_are shape.quiet)
counts s (entry.Told n moment status text) edits e =
    let shape : Closed (shown s) n (issue_phase.Told status) edits = change_shape (shown s) (entry.Told n moment status text) edits e in
    closed_count (all_edited edits s).issues s.issues n (closed (issue_phase.Told status)) (closed-after edits shape.rest s n (issue_phase.Told status) shape.edits_are shape.quiet)
counts s (entry.Expire n moment) edits e =
    let shape : Closed (shown s) n issue_phase.Expired edits = change_shape (shown s) (entry.Expire n moment) edits e in
    closed_count (all_edited edits s).issues s.issues n (closed issue_phase.Expired) (closed-after edits shape.rest s n issue_phase.Expired shape.edits_are shape.quiet)

-- ---- a run

regroup : (a b c : ℕ) → a + (b + c) ≡ a + b + c
regroup a b c = omega arith

along : (others : List Record) (s new : State) → HasPlacedWrites s → GoesOn s others new → length s.issues + length (sends (shown s) others) ≡ length new.issues
along [] s new placed g = (let z : length s.issues + 0 ≡ length s.issues = omega arith in z) ∙ ap (λ (x : State). length x.issues) g
along (r ∷ others) s new placed g =
    let mid : State = g.0 in
    let next : Next s r mid = g.1 in
    let alone : IsShownAlone s r mid = records_shown s mid r placed next in
    let first : List Spot = sent_by (shown s) r in
    let later : List Spot = sends (behind (shown s) r) others in
    let same : sends (shown mid) others ≡ later = ap (λ (x : Shown). sends x others) (alone.shown_is ∙ behind_is (shown s) r alone.edits alone.edits_are) in
    let here : length mid.issues ≡ length s.issues + length first = ap length (issues-after s mid r next.edits next.new_is) ∙ counts s r next.edits next.change_is in
    ap (λ (k : ℕ). length s.issues + k) (length-append first later) ∙ regroup (length s.issues) (length first) (length later) ∙ ap (λ (k : ℕ). k + length later) (sym here)
    ∙ ap (λ (l : List Spot). length mid.issues + length l) (sym same) ∙ along others mid new alone.placed g.2

ended : (others : List Record) (s new : State) → others ≡ [] → GoesOn s others new → s ≡ new
ended [] s new e g = g
ended (r ∷ others) s new e g = absurd (cc)

zero_more : (n : ℕ) → n ≡ 0 + n
zero_more n = omega arith

pub issues_have_steps : IssuesHaveSteps
issues_have_steps given run records walked sent seen course shows =
    let a : IsShownAfter given run (course.begin ∷ []) course.first = course.shows in
    let before : Leads given run (course.begin ∷ []) a.state = a.leads in
    let all : Leads given run records shows.state = shows.leads in
    let one = heads course.begin (begin_of given run before.now) [] before.others before.records_are in
    let each = heads course.begin (begin_of given run all.now) course.others all.others (sym course.are ∙ all.records_are) in
    let now : before.now ≡ all.now = ap moment_of (sym one.0 ∙ each.0) in
    let first : before.first ≡ all.first = same_Some before.first all.first (sym before.begins ∙ ap (begun given run) now ∙ all.begins) in
    let state : before.first ≡ a.state = ended before.others before.first a.state (sym one.1) before.goes_on in
    let shown_first : course.first ≡ shown all.first = a.is ∙ ap shown (sym state ∙ first) in
    let went : List Spot = sends (shown all.first) all.others in
    let sent_is : sent ≡ went = course.sent_are ∙ ap (λ (x : Shown). sends x course.others) shown_first ∙ ap (λ (l : List Record). sends (shown all.first) l) each.1 in
    let none : (all.first).issues ≡ [] = (first_known given run all.now all.first all.begins).0 in
    ap length sent_is ∙ zero_more (length went) ∙ ap (λ (l : List Issue). length l + length went) (sym none)
    ∙ along all.others all.first shows.state (first_shown given run all.now all.first all.begins).placed all.goes_on ∙ ap (λ (x : Shown). length x.lists.issues) (sym shows.is)
