-- How the edits of each record look.
use Rattle.std.proofs.Common.{◌≡◌, ℕ, suc, ◌+◌, ◌≤◌, ◌==◌, ◌&&◌, Bool, true, false, cond, List, [], ◌∷◌, ◌++◌, length, Option, Some, None, arith, refl, ap, sym, subst, ◌∙◌, inl, inr}
use Rattle.std.specs.Prelude.{IfSome, slice_get, not, nat_le, is_none, is_some, option_and_then, option_map}
use Rattle.std.specs.List.{flat_map}
use Rattle.std.specs.Str.{bytes_eq}
use Rattle.run_records.specs.Ranges.{last_moment}
use Rattle.run_records.specs.declared.record.Record.{Record}
use Rattle.run_records.specs.declared.record.Record.TheVariants as entry
use Rattle.cacao_book.specs.declared.steps.Step.{Step}
use Rattle.flow_core_rules.specs.declared.tasks.Task.{Task}
use Rattle.flow_core_rules.specs.declared.issues.Issue.{Issue}
use Rattle.flow_core_rules.specs.declared.issues.IssuePhase.{IssuePhase}
use Rattle.flow_core_rules.specs.declared.issues.IssuePhase.TheVariants as issue_phase
use Rattle.flow_core_rules.specs.declared.phases.Phase.{Phase}
use Rattle.flow_core_rules.specs.declared.phases.Phase.TheVariants as phase
use Rattle.flow_core_rules.specs.Places.{Place, to_filter, to_operator, places, filter_of}
use Rattle.flow_core_rules.specs.Filled.{fill, replaced}
use Rattle.flow_core_rules.specs.State.{Lists, Shown}
use Rattle.flow_core_rules.specs.Edits.{Edit, closed}
use Rattle.flow_core_rules.specs.Edits.Edit.{moves, closes, upgrades}
use Rattle.flow_core_rules.specs.Tasks.{Here, here_at, in_phase, finish}
use Rattle.flow_core_rules.specs.Changes as changes
use Rattle.flow_core_rules.specs.Changes.{is_waiting, Waiting, Issuing}
use Rattle.flow_core_rules.proofs.PlacedLemmas.{some_if, some_from, map_from}
use Rattle.flow_core_rules.proofs.HereLemmas.{here_of, some_at, some_option, IsWaitingAt, waiting_known}
use Rattle.flow_core_rules.proofs.ShapeLemmas.{filter_known}
use Rattle.flow_core_rules.proofs.QuietLemmas.{IsQuiet, quiet_walked, quiet_written}
use Rattle.flow_core_rules.proofs.TaskLemmas.{get_within}
use Rattle.flow_core_rules.proofs.IssueLemmas.{WasAt, get_changed}
use Rattle.flow_core_rules.proofs.WaitLemmas.{Agree, AwaitedBy, IsFreeOf, is_free_of, not_awaiting, IsCalm, calm_walked, calm_written, finish_free}
use Rattle.flow_core_plans.specs.Fits.{NoneWaits}
use Rattle.flow_core.proofs.TimelyLemmas.{Timely, timely_walked, timely_written, finish_timely, after_timely}
use Rattle.flow_core.proofs.EditFits.{Shaped, with_end}

inner : {A : Type 0} (a b : A) → Some a ≡ Some b → a ≡ b
inner a b h = cc

clash : (b : Bool) → b ≡ true → b ≡ false → ⊥
clash true x y = cc
clash false x y = cc

same_number : (a b : ℕ) → (a == b) ≡ true → a ≡ b
same_number a b h = grind arith

other_number : (a b : ℕ) → (a == b) ≡ false → a ≡ b → ⊥
other_number a b h e = grind arith

le_of : (a b : ℕ) → nat_le a b ≡ true → a ≤ b
le_of a b h = grind arith

-- ---- a task that awaits no issue has none that waits

none_waits : (s : Lists) (t : ℕ) (task : Task) → Agree s.tasks s.issues → slice_get s.tasks t ≡ Some task → IsFreeOf task.phase → NoneWaits s t
none_waits s t task a is free n issue issue_is waits own =
    let b : AwaitedBy s.tasks n issue = a.awaited n issue issue_is waits in
    let same : task ≡ b.task = inner task b.task (sym is ∙ ap (slice_get s.tasks) (sym own) ∙ b.task_is) in
    not_awaiting task.phase b.place n free (ap (λ (x : Task). x.phase) same ∙ b.awaits)

-- ---- walks

some_three : {A : Type 0} (o : Option A) (P Q R S : A → Type 0) → IfSome o P → IfSome o Q → IfSome o R → ((x : A) → P x → Q x → R x → S x) → IfSome o S
some_three None P Q R S p q r f = tt
some_three (Some x) P Q R S p q r f = f x p q r

shaped_walked : (s : Shown) (now t : ℕ) (task : Task) (step : Step) (at : Phase) → Agree s.lists.tasks s.lists.issues → now ≤ last_moment → slice_get s.lists.tasks t ≡ Some task → task.phase ≡ at → IsFreeOf at
    → IfSome (changes.walked (here_of s now t task step) at) (Shaped s.lists)
shaped_walked s now t task step at a le task_is e free =
    let h : Here = here_of s now t task step in
    some_three (changes.walked h at) (IsCalm t) IsQuiet (Timely (length s.lists.tasks)) (Shaped s.lists) (calm_walked h at) (quiet_walked h at) (timely_walked h at le)
    (λ es calm quiet timely. inl (record { task = t; none = none_waits s.lists t task a task_is (subst IsFreeOf (sym e) free); calm = calm; quiet = quiet; timely = timely }))

shaped_at : (s : Shown) (now t : ℕ) (task : Task) (step : Step) (at : Phase) → Agree s.lists.tasks s.lists.issues → now ≤ last_moment → slice_get s.lists.tasks t ≡ Some task → task.phase ≡ at
    → IfSome (changes.walked (here_of s now t task step) at) (Shaped s.lists)
shaped_at s now t task step (phase.At since) a le task_is e = shaped_walked s now t task step (phase.At since) a le task_is e refl
shaped_at s now t task step (phase.Joining from) a le task_is e = shaped_walked s now t task step (phase.Joining from) a le task_is e refl
shaped_at s now t task step (phase.Sending n) a le task_is e = tt
shaped_at s now t task step (phase.Awaiting place n) a le task_is e = tt
shaped_at s now t task step (phase.Ended well) a le task_is e = tt

shaped_walk : (s : Shown) (now t : ℕ) → Agree s.lists.tasks s.lists.issues → now ≤ last_moment → IfSome (changes.walk s now t) (Shaped s.lists)
shaped_walk s now t a le =
    some_at s now t (λ (h : Here). changes.walked h h.task.phase) (Shaped s.lists) (λ task step task_is step_is. shaped_at s now t task step task.phase a le task_is refl)

-- ---- Send and Ask

command_own : (h : Here) (place : Place) → IfSome (changes.command_at h place) (λ i. (i.task ≡ h.number) × (i.moment ≡ h.now))
command_own h (to_operator content) = tt
command_own h (to_filter content to) = by content h.task.step_scope
  where
    filled : (o : Option (List ℕ)) → IfSome (option_and_then (λ (bytes : List ℕ). Some (changes.issue_with h (filter_of h.seen.given.agents to) bytes)) o) (λ i. (i.task ≡ h.number) × (i.moment ≡ h.now))
    filled None = tt
    filled (Some bytes) = (refl, refl)

    by : (content : Option (List ℕ)) (scope : Option ℕ) → IfSome (option_and_then (λ (text : List ℕ). option_and_then (λ (n : ℕ). option_and_then (λ (bytes : List ℕ). Some (changes.issue_with h (filter_of h.seen.given.agents to) bytes)) (fill text h.seen.lists n h.seen.run (length h.seen.lists.issues))) scope) content) (λ i. (i.task ≡ h.number) × (i.moment ≡ h.now))
    by None scope = tt
    by (Some text) None = tt
    by (Some text) (Some n) = filled (fill text h.seen.lists n h.seen.run (length h.seen.lists.issues))

question_own : (h : Here) (place : Place) → IfSome (changes.question_at h place) (λ i. (i.task ≡ h.number) × (i.moment ≡ h.now))
question_own h (to_filter content to) = tt
question_own h (to_operator content) = by content h.task.step_scope
  where
    by : (content : Option (List ℕ)) (scope : Option ℕ) → IfSome (option_and_then (λ (text : List ℕ). option_and_then (λ (n : ℕ). Some (changes.issue_with h 0 (replaced h.seen.lists n text))) scope) content) (λ i. (i.task ≡ h.number) × (i.moment ≡ h.now))
    by None scope = tt
    by (Some text) None = tt
    by (Some text) (Some n) = (refl, refl)

shaped_next : (s : Shown) (now t : ℕ) (issue_at : Here → Place → Option Issue) → ((h : Here) (place : Place) → IfSome (issue_at h place) (λ i. (i.task ≡ h.number) × (i.moment ≡ h.now))) → now ≤ last_moment
    → IfSome (option_and_then (λ (h : Here). option_and_then (λ (place : Place). option_and_then (λ (issue : Issue). Some (changes.issuing h issue)) (issue_at h place)) (changes.place_at h h.task.phase)) (here_at s now t)) (λ made. Shaped s.lists made.1)
shaped_next s now t issue_at own le =
    some_at s now t (λ (h : Here). option_and_then (λ (place : Place). option_and_then (λ (issue : Issue). Some (changes.issuing h issue)) (issue_at h place)) (changes.place_at h h.task.phase)) (λ made. Shaped s.lists made.1) (λ task step task_is step_is.
    let h : Here = here_of s now t task step in
    some_option (changes.place_at h task.phase) (λ (place : Place). option_and_then (λ (issue : Issue). Some (changes.issuing h issue)) (issue_at h place)) (λ made. Shaped s.lists made.1) (λ place place_is.
    some_from (issue_at h place) (λ (issue : Issue). Some (changes.issuing h issue)) (λ i. (i.task ≡ t) × (i.moment ≡ now)) (λ made. Shaped s.lists made.1) (own h place) (λ issue mine.
    inr (inl (record {
      task = t;
      old = task;
      place = changes.place_number task.phase;
      issue = issue;
      es_are = refl;
      old_is = task_is;
      own = mine.0;
      moment = subst (λ m. m ≤ last_moment) (sym mine.1) le;
    })))))

shaped_send : (s : Shown) (now t n agent : ℕ) (bytes : List ℕ) → now ≤ last_moment → IfSome (changes.send s now t n agent bytes) (Shaped s.lists)
shaped_send s now t n agent bytes le =
    some_from (changes.next_command s now t) (λ (made : Issuing). cond ((n == length s.lists.issues) && (agent == (made.0).agent) && bytes_eq bytes (made.0).bytes) (Some made.1) None) (λ made. Shaped s.lists made.1) (Shaped s.lists) (shaped_next s now t changes.command_at command_own le)
    (λ made h. some_if ((n == length s.lists.issues) && (agent == (made.0).agent) && bytes_eq bytes (made.0).bytes) (Some made.1) (Shaped s.lists) h)

shaped_ask : (s : Shown) (now t n : ℕ) (bytes : List ℕ) → now ≤ last_moment → IfSome (changes.ask s now t n bytes) (Shaped s.lists)
shaped_ask s now t n bytes le =
    some_from (changes.next_question s now t) (λ (made : Issuing). cond (s.lists.is_upgraded && (n == length s.lists.issues) && bytes_eq bytes (made.0).bytes) (Some made.1) None) (λ made. Shaped s.lists made.1) (Shaped s.lists) (shaped_next s now t changes.question_at question_own le)
    (λ made h. some_if (s.lists.is_upgraded && (n == length s.lists.issues) && bytes_eq bytes (made.0).bytes) (Some made.1) (Shaped s.lists) h)

-- ---- Reply, Told and Expire

after_free : (w : Waiting) (status : ℕ) → is_free_of (changes.after_answer w status).phase ≡ true
after_free w status = by (not (status == 200)) (is_some (slice_get (places w.here.step.kind) (suc w.place)))
  where
    by : (a b : Bool) → is_free_of (cond a (finish w.here false) (cond b (in_phase w.here.task (phase.Sending (suc w.place))) (finish w.here true))).phase ≡ true
    by true b = finish_free w.here false
    by false true = refl
    by false false = finish_free w.here true

same : (n : ℕ) → (n == n) ≡ true
same n = grind arith

calm_move : (t : ℕ) (task : Task) → is_free_of task.phase ≡ true → IsCalm t (moves t task ∷ [])
calm_move t task e = rw (same t, e) refl

awaited_issue : (n : ℕ) (at : Phase) (place : ℕ) → changes.awaited_place n at ≡ Some place → (p : ℕ) × (at ≡ phase.Awaiting p n)
awaited_issue n (phase.Awaiting p issue) place e = by (issue == n) refl e
  where
    none_some : None ≡ Some place → ⊥
    none_some g = cc

    by : (b : Bool) → (issue == n) ≡ b → cond b (Some p) None ≡ Some place → (q : ℕ) × (phase.Awaiting p issue ≡ phase.Awaiting q n)
    by true is g = (p, ap (phase.Awaiting p) (same_number issue n is))
    by false is g = absurd (none_some g)
awaited_issue n (phase.At since) place e = absurd (none_some e)
  where
    none_some : None ≡ Some place → ⊥
    none_some g = cc
awaited_issue n (phase.Sending q) place e = absurd (none_some e)
  where
    none_some : None ≡ Some place → ⊥
    none_some g = cc
awaited_issue n (phase.Joining from) place e = absurd (none_some e)
  where
    none_some : None ≡ Some place → ⊥
    none_some g = cc
awaited_issue n (phase.Ended well) place e = absurd (none_some e)
  where
    none_some : None ≡ Some place → ⊥
    none_some g = cc

awaiting_number : (p q n m : ℕ) → phase.Awaiting p n ≡ phase.Awaiting q m → n ≡ m
awaiting_number p q n m h = cc

-- once the issue that a task awaits is closed, no issue of the task waits
none_left : (s : Lists) (n p : ℕ) (end : IssuePhase) (t : ℕ) (task : Task) → Agree s.tasks s.issues → slice_get s.tasks t ≡ Some task → task.phase ≡ phase.Awaiting p n → is_waiting end ≡ false → NoneWaits (with_end n end s) t
none_left s n p end t task a is awaits over m issue issue_is waits own = by (get_changed n (closed end) s.issues m issue issue_is) (m == n) refl
  where
    by : WasAt s.issues n (closed end) m issue → (b : Bool) → (m == n) ≡ b → ⊥
    by w true e = clash (is_waiting end) (subst (λ (y : Issue). is_waiting y.phase ≡ true) (w.same (same_number m n e)) waits) over
    by w false e =
        let is_old : issue ≡ w.was = w.other (other_number m n e) in
        let b : AwaitedBy s.tasks m w.was = a.awaited m w.was w.was_is (subst (λ (y : Issue). is_waiting y.phase ≡ true) is_old waits) in
        let here : task ≡ b.task = inner task b.task (sym is ∙ ap (slice_get s.tasks) (sym own ∙ ap (λ (y : Issue). y.task) is_old) ∙ b.task_is) in
        other_number m n e (awaiting_number b.place p m n (sym b.awaits ∙ ap (λ (x : Task). x.phase) (sym here) ∙ awaits))

shaped_closed : (s : Lists) (n : ℕ) (end : IssuePhase) (i : Issue) (task new : Task) (p scope : ℕ) (seen : Lists) (ps : List (List ℕ × Option (List ℕ))) → Agree s.tasks s.issues → slice_get s.issues n ≡ Some i
    → slice_get s.tasks i.task ≡ Some task → task.phase ≡ phase.Awaiting p n → is_waiting end ≡ false → is_free_of new.phase ≡ true → Timely (length s.tasks) (moves i.task new ∷ [])
    → Shaped s (closes n end ∷ (flat_map (changes.written seen scope) ps ++ moves i.task new ∷ []))
shaped_closed s n end i task new p scope seen ps a there task_is awaits over free timely = inr (inr (inl (record {
  number = n;
  end = end;
  rest = flat_map (changes.written seen scope) ps ++ moves i.task new ∷ [];
  es_are = refl;
  within = get_within s.issues n i there;
  over = over;
  calm = record {
    task = i.task;
    none = none_left s n p end i.task task a task_is awaits over;
    calm = calm_written i.task seen scope ps (moves i.task new ∷ []) (calm_move i.task new free);
    quiet = quiet_written seen scope ps (moves i.task new ∷ []) refl;
    timely = timely_written (length s.tasks) seen scope ps (moves i.task new ∷ []) timely;
  };
})))

shaped_answered : (s : Shown) (now n : ℕ) (end : IssuePhase) (status rule : ℕ) (text : List ℕ) (w : Waiting) → Agree s.lists.tasks s.lists.issues → now ≤ last_moment → IsWaitingAt s now n w → is_waiting end ≡ false
    → Shaped s.lists (changes.answered n end status rule text w)
shaped_answered s now n end status rule text w a le at over =
    let h : Here = here_of s now (w.issue).task at.task at.step in
    let awaits = awaited_issue n at.task.phase w.place at.place_is in
    let in_time : w.here.now ≤ last_moment = subst (λ (x : Here). x.now ≤ last_moment) (sym at.here_is) le in
    let good = shaped_closed s.lists n end w.issue at.task (changes.after_answer w status) awaits.0 w.scope s.lists (changes.paired (changes.out_args_of w.here.step.kind) (changes.results status rule text)) a at.issue_is at.task_is awaits.1 over (after_free w status)
    (after_timely (length s.lists.tasks) w status in_time, tt) in
    subst (λ (x : Here). Shaped s.lists (closes n end ∷ (flat_map (changes.written x.seen.lists w.scope) (changes.paired (changes.out_args_of w.here.step.kind) (changes.results status rule text)) ++ moves x.number (changes.after_answer w status) ∷ []))) (sym at.here_is) good

shaped_reply : (s : Shown) (now n status rule : ℕ) (text : List ℕ) → Agree s.lists.tasks s.lists.issues → now ≤ last_moment → IfSome (changes.reply s now n status rule text) (Shaped s.lists)
shaped_reply s now n status rule text a le =
    let f : Waiting → List Edit = changes.answered n (issue_phase.Answered status) status rule text in
    some_if (changes.is_answer status text) (option_map f (changes.waiting_filter_at s now n)) (Shaped s.lists)
    (map_from (changes.waiting_filter_at s now n) f (IsWaitingAt s now n) (Shaped s.lists) (filter_known s now n) (λ w at. shaped_answered s now n (issue_phase.Answered status) status rule text w a le at refl))

shaped_tell : (s : Shown) (now n status : ℕ) (text : List ℕ) → Agree s.lists.tasks s.lists.issues → now ≤ last_moment → IfSome (changes.tell s now n status text) (Shaped s.lists)
shaped_tell s now n status text a le =
    let f : Waiting → List Edit = changes.answered n (issue_phase.Told status) status 0 text in
    some_if (s.lists.is_upgraded && changes.is_answer status text) (option_map f (changes.waiting_at s now n)) (Shaped s.lists)
    (map_from (changes.waiting_at s now n) f (IsWaitingAt s now n) (Shaped s.lists) (waiting_known s now n) (λ w at. shaped_answered s now n (issue_phase.Told status) status 0 text w a le at refl))

shaped_expire : (s : Shown) (now n : ℕ) → Agree s.lists.tasks s.lists.issues → now ≤ last_moment → IfSome (changes.expire s now n) (Shaped s.lists)
shaped_expire s now n a le =
    some_from (changes.waiting_filter_at s now n) (changes.expired n) (IsWaitingAt s now n) (Shaped s.lists) (filter_known s now n) (λ w at.
    some_if (nat_le ((w.issue).moment + w.here.step.timeout) w.here.now) (Some (closes n issue_phase.Expired ∷ changes.done w.here false)) (Shaped s.lists) (expired w at))
  where
    expired : (w : Waiting) → IsWaitingAt s now n w → Shaped s.lists (closes n issue_phase.Expired ∷ changes.done w.here false)
    expired w at =
        let h : Here = here_of s now (w.issue).task at.task at.step in
        let awaits = awaited_issue n at.task.phase w.place at.place_is in
        subst (λ (x : Here). Shaped s.lists (closes n issue_phase.Expired ∷ changes.done x false)) (sym at.here_is)
        (shaped_closed s.lists n issue_phase.Expired w.issue at.task (finish h false) awaits.0 0 s.lists [] a at.issue_is at.task_is awaits.1 refl (finish_free h false) (finish_timely (length s.lists.tasks) h false le, tt))

-- ---- all records

shaped_edits : (s : Shown) (r : Record) → Agree s.lists.tasks s.lists.issues → changes.moment_of r ≤ last_moment → IfSome (changes.edits_of s r) (Shaped s.lists)
shaped_edits s (entry.Begin run moment books bind) a le = tt
shaped_edits s (entry.Walk task moment) a le = shaped_walk s moment task a le
shaped_edits s (entry.Send task issue agent moment bytes) a le = shaped_send s moment task issue agent bytes le
shaped_edits s (entry.Reply issue moment status rule text) a le = shaped_reply s moment issue status rule text a le
shaped_edits s (entry.Expire issue moment) a le = shaped_expire s moment issue a le
shaped_edits s (entry.Upgrade version moment) a le =
    some_if ((version == 2) && is_none (changes.outcome s.lists) && not s.lists.is_upgraded) (Some (upgrades ∷ [])) (Shaped s.lists) (inr (inr (inr refl)))
shaped_edits s (entry.Ask task issue moment bytes) a le = shaped_ask s moment task issue bytes le
shaped_edits s (entry.Told issue moment status text) a le = shaped_tell s moment issue status text a le

both : (a b : Bool) → (a && b) ≡ true → (a ≡ true) × (b ≡ true)
both true true e = (refl, refl)
both true false e = (refl, e)
both false b e = absurd (clash false e refl)

pub change_in_time : (s : Shown) (r : Record) (edits : List Edit) → changes.change s r ≡ Some edits → changes.is_in_time s (changes.moment_of r) ≡ true
change_in_time s r edits e = by (changes.is_in_time s (changes.moment_of r)) e
  where
    none_some : None ≡ Some edits → ⊥
    none_some g = cc

    by : (b : Bool) → cond b (changes.edits_of s r) None ≡ Some edits → b ≡ true
    by true g = refl
    by false g = absurd (none_some g)

pub moment_within : (s : Shown) (now : ℕ) → changes.is_in_time s now ≡ true → (s.moment ≤ now) × (now ≤ last_moment)
moment_within s now e =
    let parts = both (nat_le s.moment now) (nat_le now last_moment) e in
    (le_of s.moment now parts.0, le_of now last_moment parts.1)

pub change_shaped : (s : Shown) (r : Record) (edits : List Edit) → Agree s.lists.tasks s.lists.issues → changes.change s r ≡ Some edits → Shaped s.lists edits
change_shaped s r edits a e =
    let le : changes.moment_of r ≤ last_moment = (moment_within s (changes.moment_of r) (change_in_time s r edits e)).1 in
    subst (λ o. IfSome o (Shaped s.lists)) (use_time e) (shaped_edits s r a le)
  where
    use_time : changes.change s r ≡ Some edits → changes.edits_of s r ≡ Some edits
    use_time g = subst (λ b. cond b (changes.edits_of s r) None ≡ Some edits) (change_in_time s r edits e) g
