-- What each record does to the issues.
use Rattle.std.proofs.Common.{◌≡◌, ℕ, ◌+◌, ◌==◌, ◌&&◌, Bool, true, false, cond, List, [], ◌∷◌, length, Option, Some, None, arith, refl, ap, sym, subst, ◌∙◌}
use Rattle.std.specs.Prelude.{IfSome, is_none, option_and_then, option_map, slice_get, not, nat_le}
use Rattle.std.specs.Str.{bytes_eq}
use Rattle.std.proofs.lemmas.Slice.Eq.{bytes_eq-Decides}
use Rattle.run_records.specs.declared.record.Record.{Record}
use Rattle.run_records.specs.declared.record.Record.TheVariants as entry
use Rattle.flow_core_rules.specs.declared.issues.Issue.{Issue}
use Rattle.flow_core_rules.specs.declared.issues.IssuePhase.{IssuePhase}
use Rattle.flow_core_rules.specs.declared.issues.IssuePhase.TheVariants as issue_phase
use Rattle.flow_core_rules.specs.State.{Shown}
use Rattle.flow_core_rules.specs.Edits.{Edit}
use Rattle.flow_core_rules.specs.Edits.Edit.{moves, issues, closes, upgrades}
use Rattle.flow_core_rules.specs.Places.{Place, to_filter, to_operator, filter_of}
use Rattle.flow_core_rules.specs.Filled.{fill, replaced}
use Rattle.flow_core_rules.specs.Tasks.{Here}
use Rattle.flow_core_rules.specs.Changes as changes
use Rattle.flow_core_rules.specs.Changes.{Waiting, Issuing, is_waiting}
use Rattle.flow_core_rules.proofs.PlacedLemmas.{some_then, some_if, some_from, map_from}
use Rattle.flow_core_rules.proofs.QuietLemmas.{IsQuiet, quiet_written, quiet_walk}
use Rattle.flow_core_rules.proofs.HereLemmas.{here_of, some_at, some_true, IsWaitingAt, waiting_known}

abbrev pub new_issue : ℕ → ℕ → ℕ → List ℕ → Issue
new_issue task agent now bytes = record { task = task; agent = agent; bytes = bytes; moment = now; phase = issue_phase.Waiting }

-- one new issue, which waits; all else is no issue's
pub record Issued (s : Shown) (task n agent now : ℕ) (bytes : List ℕ) (es : List Edit) : Type 0 where
  pub rest : List Edit
  pub edits_are : es ≡ issues (new_issue task agent now bytes) ∷ rest
  pub quiet : IsQuiet rest
  pub number_is : n ≡ length s.lists.issues

pub record Sent (s : Shown) (task n agent now : ℕ) (bytes : List ℕ) (es : List Edit) : Type 0 where
  pub issued : Issued s task n agent now bytes es
  pub to : List ℕ
  pub agent_is : agent ≡ filter_of s.given.agents to

-- one issue that waited ends
pub record Closed (s : Shown) (n : ℕ) (end : IssuePhase) (es : List Edit) : Type 0 where
  pub rest : List Edit
  pub issue : Issue
  pub edits_are : es ≡ closes n end ∷ rest
  pub quiet : IsQuiet rest
  pub issue_is : slice_get s.lists.issues n ≡ Some issue
  pub waits_no_more : is_waiting end ≡ false

abbrev pub IssueShape : Shown → Record → List Edit → Type 0
IssueShape s (entry.Begin run moment books bind) es = ⊥
IssueShape s (entry.Walk task moment) es = IsQuiet es
IssueShape s (entry.Send task issue agent moment bytes) es = Sent s task issue agent moment bytes es
IssueShape s (entry.Reply issue moment status rule text) es = Closed s issue (issue_phase.Answered status) es
IssueShape s (entry.Expire issue moment) es = Closed s issue issue_phase.Expired es
IssueShape s (entry.Upgrade version moment) es = es ≡ upgrades ∷ []
IssueShape s (entry.Ask task issue moment bytes) es = Issued s task issue 0 moment bytes es
IssueShape s (entry.Told issue moment status text) es = Closed s issue (issue_phase.Told status) es

same_number : (a b : ℕ) → (a == b) ≡ true → a ≡ b
same_number a b h = grind arith

both : (a b : Bool) → (a && b) ≡ true → (a ≡ true) × (b ≡ true)
both true true e = (refl, refl)
both true false e = (refl, e)
both false b e = (e, absurd (no e))
  where
    no : false ≡ true → ⊥
    no h = cc

-- ---- Send and Ask

-- an issue of a task, and the edits that make it
pub record IsMade (t now agent : ℕ) (made : Issuing) : Type 0 where
  pub rest : List Edit
  pub issue_is : made.0 ≡ new_issue t agent now (made.0).bytes
  pub edits_are : made.1 ≡ issues made.0 ∷ rest
  pub quiet : IsQuiet rest

pub record IsCommand (s : Shown) (t now : ℕ) (made : Issuing) : Type 0 where
  pub to : List ℕ
  pub is : IsMade t now (filter_of s.given.agents to) made

abbrev issued_from : Here → Option Issue → Option Issuing
issued_from h o = option_and_then (λ (issue : Issue). Some (changes.issuing h issue)) o

command-made : (h : Here) (place : Place) → IfSome (issued_from h (changes.command_at h place)) (IsCommand h.seen h.number h.now)
command-made h (to_operator content) = tt
command-made h (to_filter content to) = by content h.task.step_scope
  where
    issue_of : Option (List ℕ) → Option Issue
    issue_of o = option_and_then (λ (bytes : List ℕ). Some (changes.issue_with h (filter_of h.seen.given.agents to) bytes)) o

    filled : (o : Option (List ℕ)) → IfSome (issued_from h (option_and_then (λ (bytes : List ℕ). Some (changes.issue_with h (filter_of h.seen.given.agents to) bytes)) o)) (IsCommand h.seen h.number h.now)
    filled None = tt
    filled (Some bytes) = record { to = to; is = record { rest = _; issue_is = refl; edits_are = refl; quiet = refl } }

    by : (content : Option (List ℕ)) (scope : Option ℕ) → IfSome (issued_from h (option_and_then (λ (text : List ℕ). option_and_then (λ (n : ℕ). option_and_then (λ (bytes : List ℕ). Some (changes.issue_with h (filter_of h.seen.given.agents to) bytes)) (fill text h.seen.lists n h.seen.run (length h.seen.lists.issues))) scope) content)) (IsCommand h.seen h.number h.now)
    by None scope = tt
    by (Some text) None = tt
    by (Some text) (Some n) = filled (fill text h.seen.lists n h.seen.run (length h.seen.lists.issues))

question-made : (h : Here) (place : Place) → IfSome (issued_from h (changes.question_at h place)) (IsMade h.number h.now 0)
question-made h (to_filter content to) = tt
question-made h (to_operator content) = by content h.task.step_scope
  where
    by : (content : Option (List ℕ)) (scope : Option ℕ) → IfSome (issued_from h (option_and_then (λ (text : List ℕ). option_and_then (λ (n : ℕ). Some (changes.issue_with h 0 (replaced h.seen.lists n text))) scope) content)) (IsMade h.number h.now 0)
    by None scope = tt
    by (Some text) None = tt
    by (Some text) (Some n) = record { rest = _; issue_is = refl; edits_are = refl; quiet = refl }

pub next_command-made : (s : Shown) (now t : ℕ) → IfSome (changes.next_command s now t) (IsCommand s t now)
next_command-made s now t =
    some_at s now t (λ (h : Here). option_and_then (λ (place : Place). issued_from h (changes.command_at h place)) (changes.place_at h h.task.phase)) (IsCommand s t now) (λ task step task_is step_is.
    let h : Here = here_of s now t task step in
    some_then (changes.place_at h task.phase) (λ (place : Place). issued_from h (changes.command_at h place)) (IsCommand s t now) (λ place. command-made h place))

next_question-made : (s : Shown) (now t : ℕ) → IfSome (changes.next_question s now t) (IsMade t now 0)
next_question-made s now t =
    some_at s now t (λ (h : Here). option_and_then (λ (place : Place). issued_from h (changes.question_at h place)) (changes.place_at h h.task.phase)) (IsMade t now 0) (λ task step task_is step_is.
    let h : Here = here_of s now t task step in
    some_then (changes.place_at h task.phase) (λ (place : Place). issued_from h (changes.question_at h place)) (IsMade t now 0) (λ place. question-made h place))

-- the same with the bytes and the agent that a record names
edits_named : (t now agent agent' : ℕ) (bytes : List ℕ) (made : Issuing) (m : IsMade t now agent' made) → agent ≡ agent' → bytes ≡ (made.0).bytes
    → made.1 ≡ issues (new_issue t agent now bytes) ∷ m.rest
edits_named t now agent agent' bytes made m a b =
    m.edits_are ∙ ap (λ (i : Issue). issues i ∷ m.rest) (m.issue_is ∙ ap (λ n. new_issue t n now (made.0).bytes) (sym a) ∙ ap (λ (c : List ℕ). new_issue t agent now c) (sym b))

sent-shape : (s : Shown) (now t n agent : ℕ) (bytes : List ℕ) → IfSome (changes.send s now t n agent bytes) (Sent s t n agent now bytes)
sent-shape s now t n agent bytes =
    some_from (changes.next_command s now t) (λ (made : Issuing). cond (same made) (Some made.1) None) (IsCommand s t now) (Sent s t n agent now bytes) (next_command-made s now t) (λ made m.
    some_true (same made) made.1 (Sent s t n agent now bytes) (λ holds. named made m holds))
  where
    same : Issuing → Bool
    same made = (n == length s.lists.issues) && (agent == (made.0).agent) && bytes_eq bytes (made.0).bytes

    named : (made : Issuing) → IsCommand s t now made → same made ≡ true → Sent s t n agent now bytes made.1
    named made m holds =
        let first = both ((n == length s.lists.issues) && (agent == (made.0).agent)) (bytes_eq bytes (made.0).bytes) holds in
        let second = both (n == length s.lists.issues) (agent == (made.0).agent) first.0 in
        let i : IsMade t now (filter_of s.given.agents m.to) made = m.is in
        let agent_is : agent ≡ filter_of s.given.agents m.to = same_number agent (made.0).agent second.1 ∙ ap (λ (x : Issue). x.agent) i.issue_is in
        let bytes_are : bytes ≡ (made.0).bytes = (bytes_eq-Decides bytes (made.0).bytes).0 first.1 in
        record {
          issued = record {
            rest = i.rest;
            edits_are = edits_named t now agent (filter_of s.given.agents m.to) bytes made i agent_is bytes_are;
            quiet = i.quiet;
            number_is = same_number n (length s.lists.issues) second.0;
          };
          to = m.to;
          agent_is = agent_is;
        }

asked-shape : (s : Shown) (now t n : ℕ) (bytes : List ℕ) → IfSome (changes.ask s now t n bytes) (Issued s t n 0 now bytes)
asked-shape s now t n bytes =
    some_from (changes.next_question s now t) (λ (made : Issuing). cond (same made) (Some made.1) None) (IsMade t now 0) (Issued s t n 0 now bytes) (next_question-made s now t) (λ made m.
    some_true (same made) made.1 (Issued s t n 0 now bytes) (λ holds. named made m holds))
  where
    same : Issuing → Bool
    same made = s.lists.is_upgraded && (n == length s.lists.issues) && bytes_eq bytes (made.0).bytes

    named : (made : Issuing) → IsMade t now 0 made → same made ≡ true → Issued s t n 0 now bytes made.1
    named made i holds =
        let first = both (s.lists.is_upgraded && (n == length s.lists.issues)) (bytes_eq bytes (made.0).bytes) holds in
        let second = both s.lists.is_upgraded (n == length s.lists.issues) first.0 in
        record {
          rest = i.rest;
          edits_are = edits_named t now 0 0 bytes made i refl ((bytes_eq-Decides bytes (made.0).bytes).0 first.1);
          quiet = i.quiet;
          number_is = same_number n (length s.lists.issues) second.1;
        }

-- ---- Reply, Told and Expire

pub filter_known : (s : Shown) (now n : ℕ) → IfSome (changes.waiting_filter_at s now n) (IsWaitingAt s now n)
filter_known s now n =
    some_from (changes.waiting_at s now n) (λ (w : Waiting). cond ((w.issue).agent == 0) None (Some w)) (IsWaitingAt s now n) (IsWaitingAt s now n) (waiting_known s now n) (λ w known. by w known ((w.issue).agent == 0))
  where
    by : (w : Waiting) → IsWaitingAt s now n w → (b : Bool) → IfSome (cond b None (Some w)) (IsWaitingAt s now n)
    by w known true = tt
    by w known false = known

answered-shape : (s : Shown) (now n : ℕ) (end : IssuePhase) (status rule : ℕ) (text : List ℕ) (w : Waiting) → is_waiting end ≡ false → IsWaitingAt s now n w
    → Closed s n end (changes.answered n end status rule text w)
answered-shape s now n end status rule text w over known = record {
  rest = _;
  issue = w.issue;
  edits_are = refl;
  quiet = quiet_written w.here.seen.lists w.scope (changes.paired (changes.out_args_of w.here.step.kind) (changes.results status rule text)) (moves w.here.number (changes.after_answer w status) ∷ []) refl;
  issue_is = known.issue_is;
  waits_no_more = over;
}

replied-shape : (s : Shown) (now n status rule : ℕ) (text : List ℕ) → IfSome (changes.reply s now n status rule text) (Closed s n (issue_phase.Answered status))
replied-shape s now n status rule text =
    let f : Waiting → List Edit = changes.answered n (issue_phase.Answered status) status rule text in
    some_if (changes.is_answer status text) (option_map f (changes.waiting_filter_at s now n)) (Closed s n (issue_phase.Answered status))
    (map_from (changes.waiting_filter_at s now n) f (IsWaitingAt s now n) (Closed s n (issue_phase.Answered status)) (filter_known s now n) (λ w known. answered-shape s now n (issue_phase.Answered status) status rule text w refl known))

told-shape : (s : Shown) (now n status : ℕ) (text : List ℕ) → IfSome (changes.tell s now n status text) (Closed s n (issue_phase.Told status))
told-shape s now n status text =
    let f : Waiting → List Edit = changes.answered n (issue_phase.Told status) status 0 text in
    some_if (s.lists.is_upgraded && changes.is_answer status text) (option_map f (changes.waiting_at s now n)) (Closed s n (issue_phase.Told status))
    (map_from (changes.waiting_at s now n) f (IsWaitingAt s now n) (Closed s n (issue_phase.Told status)) (waiting_known s now n) (λ w known. answered-shape s now n (issue_phase.Told status) status 0 text w refl known))

expired-shape : (s : Shown) (now n : ℕ) → IfSome (changes.expire s now n) (Closed s n issue_phase.Expired)
expired-shape s now n =
    some_from (changes.waiting_filter_at s now n) (changes.expired n) (IsWaitingAt s now n) (Closed s n issue_phase.Expired) (filter_known s now n) (λ w known.
    some_if (nat_le ((w.issue).moment + w.here.step.timeout) w.here.now) (Some (closes n issue_phase.Expired ∷ changes.done w.here false)) (Closed s n issue_phase.Expired) (record {
      rest = changes.done w.here false;
      issue = w.issue;
      edits_are = refl;
      quiet = refl;
      issue_is = known.issue_is;
      waits_no_more = refl;
    }))

edits-shape : (s : Shown) (r : Record) → IfSome (changes.edits_of s r) (IssueShape s r)
edits-shape s (entry.Begin run moment books bind) = tt
edits-shape s (entry.Walk task moment) = quiet_walk s moment task
edits-shape s (entry.Send task issue agent moment bytes) = sent-shape s moment task issue agent bytes
edits-shape s (entry.Reply issue moment status rule text) = replied-shape s moment issue status rule text
edits-shape s (entry.Expire issue moment) = expired-shape s moment issue
edits-shape s (entry.Upgrade version moment) =
    some_if ((version == 2) && is_none (changes.outcome s.lists) && not s.lists.is_upgraded) (Some (upgrades ∷ [])) (λ es. es ≡ upgrades ∷ []) refl
edits-shape s (entry.Ask task issue moment bytes) = asked-shape s moment task issue bytes
edits-shape s (entry.Told issue moment status text) = told-shape s moment issue status text

pub change_shape : (s : Shown) (r : Record) (edits : List Edit) → changes.change s r ≡ Some edits → IssueShape s r edits
change_shape s r edits e =
    subst (λ o. IfSome o (IssueShape s r)) e (some_if (changes.is_in_time s (changes.moment_of r)) (changes.edits_of s r) (IssueShape s r) (edits-shape s r))
