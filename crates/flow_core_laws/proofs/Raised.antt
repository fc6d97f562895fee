-- Numbers that are raised: those of what is there stay, and those of what is opened next are the next ones.
use Rattle.std.proofs.Common.{◌≡◌, ℕ, suc, ◌+◌, ◌<◌, ◌≤◌, ◌==◌, ◌&&◌, Bool, true, false, cond, List, [], ◌∷◌, ◌++◌, length, map, Option, Some, None, is_some, arith, refl, ap, sym, subst, ◌∙◌}
use Rattle.std.specs.Bool.{⊤}
use Rattle.std.specs.Prelude.{IfSome, is_none, nat_le, not, option_and_then, option_map, slice_get}
use Rattle.std.specs.List.{flat_map}
use Rattle.std.specs.Option.{option_map_or}
use Rattle.std.specs.Str.{bytes_eq}
use Rattle.std.proofs.lemmas.List.{map-append}
use Rattle.cacao_vars.specs.Scopes.{home}
use Rattle.run_records.specs.declared.record.Record.{Record}
use Rattle.run_records.specs.declared.record.Record.TheVariants as entry
use Rattle.flow_core_rules.specs.declared.tasks.Task.{Task}
use Rattle.flow_core_rules.specs.declared.issues.Issue.{Issue}
use Rattle.flow_core_rules.specs.declared.issues.IssuePhase.{IssuePhase}
use Rattle.flow_core_rules.specs.declared.issues.IssuePhase.TheVariants as issue_phase
use Rattle.flow_core_rules.specs.declared.phases.Phase.{Phase}
use Rattle.flow_core_rules.specs.declared.phases.Phase.TheVariants as phase
use Rattle.flow_core_rules.specs.State.{Lists, Shown}
use Rattle.flow_core_rules.specs.Edits.{Edit}
use Rattle.flow_core_rules.specs.Edits.Edit.{writes, moves, issues, closes, upgrades}
use Rattle.flow_core_rules.specs.Places.{Place, places}
use Rattle.flow_core_rules.specs.Tasks.{Here, here_at, go, finish, next_key, exception_of, in_phase}
use Rattle.flow_core_rules.specs.Changes as changes
use Rattle.flow_core_rules.specs.Changes.{Waiting, Issuing, written}
use Rattle.flow_core_rules.proofs.PlacedLemmas.{some_then, some_if, some_from, map_from}
use Rattle.flow_core_rules.proofs.HereLemmas.{here_of, some_at, IsWaitingAt, waiting_known}
use Rattle.flow_core_rules.proofs.ShapeLemmas.{filter_known}
use Rattle.flow_core_rules.proofs.ScopeLemmas.{IsScoped}
use Rattle.flow_core_laws.proofs.Somes.{le_true}
use Rattle.flow_core_laws.specs.Renumbered.{Grown, raised, raised_phase, renumbered_task, renumbered}
use Rattle.flow_core_laws.proofs.Homes.{home_within}

-- ---- numbers

pub raised_old : (count more n : ℕ) → n < count → raised count more n ≡ n
raised_old count more n less = ap (λ (b : Bool). cond b (n + more) n) (lower count n less)
  where
    lower : (a b : ℕ) → b < a → nat_le a b ≡ false
    lower a b h = grind arith

pub raised_new : (count more n : ℕ) → count ≤ n → raised count more n ≡ n + more
raised_new count more n le = ap (λ (b : Bool). cond b (n + more) n) (le_true count n le)

pub raised_next : (count more n : ℕ) → count ≤ n → raised count more (suc n) ≡ suc (raised count more n)
raised_next count more n le = raised_new count more (suc n) (omega arith) ∙ further n more ∙ ap suc (sym (raised_new count more n le))
  where
    further : (a b : ℕ) → suc a + b ≡ suc (a + b)
    further a b = omega arith

module _ (by : Grown) where
  abbrev pub again : List Edit → List Edit
  again es = map (renumbered by) es

  abbrev up : ℕ → ℕ
  up n = raised by.scopes by.more_scopes n

  -- ---- tasks that are there

  pub step_old : (o : Option ℕ) → IfSome o (λ k. k < by.scopes) → option_map up o ≡ o
  step_old None less = refl
  step_old (Some k) less = ap Some (raised_old by.scopes by.more_scopes k less)

  pub old_in : (task : Task) (at : Phase) → IsScoped by.scopes task → raised_phase by at ≡ at → renumbered_task by (in_phase task at) ≡ in_phase task at
  old_in task at scoped same =
      ap (λ (k : ℕ). record task { scope = k; step_scope = option_map up task.step_scope; phase = raised_phase by at }) (raised_old by.scopes by.more_scopes task.scope scoped.0)
      ∙ ap (λ (o : Option ℕ). record task { step_scope = o; phase = raised_phase by at }) (step_old task.step_scope scoped.1) ∙ ap (λ (f : Phase). record task { phase = f }) same

  -- ---- a step that is done

  pub finish_old : (h : Here) (well : Bool) → IsScoped by.scopes h.task → renumbered_task by (finish h well) ≡ finish h well
  finish_old h well scoped = ways (next_key h.step well) well (exception_of h.seen h.task)
    where
      gone : (key : List ℕ) → renumbered_task by (go h.seen.given h.now h.task key) ≡ go h.seen.given h.now h.task key
      gone key = ap (λ (k : ℕ). record (go h.seen.given h.now h.task key) { scope = k }) (raised_old by.scopes by.more_scopes h.task.scope scoped.0)

      excepted : (key : List ℕ) → renumbered_task by (record (go h.seen.given h.now h.task key) { excepted = true }) ≡ record (go h.seen.given h.now h.task key) { excepted = true }
      excepted key = ap (λ (k : ℕ). record (go h.seen.given h.now h.task key) { scope = k; excepted = true }) (raised_old by.scopes by.more_scopes h.task.scope scoped.0)

      F : Option (List ℕ) → Bool → Option (List ℕ) → Task
      F o b x = option_map_or (go h.seen.given h.now h.task) o (cond b (in_phase h.task (phase.Ended true)) (option_map_or (λ key. record (go h.seen.given h.now h.task key) { excepted = true }) x (in_phase h.task (phase.Ended false))))

      ways : (o : Option (List ℕ)) (b : Bool) (x : Option (List ℕ)) → renumbered_task by (F o b x) ≡ F o b x
      ways (Some key) b x = gone key
      ways None true x = old_in h.task (phase.Ended true) scoped refl
      ways None false None = old_in h.task (phase.Ended false) scoped refl
      ways None false (Some key) = excepted key

  pub done_old : (h : Here) (well : Bool) → IsScoped by.scopes h.task → again (changes.done h well) ≡ changes.done h well
  done_old h well scoped = ap (λ (new : Task). moves h.number new ∷ []) (finish_old h well scoped)

  -- ---- writes to scopes that are there

  pub written_old : (s : Lists) (scope : ℕ) (ps : List (List ℕ × Option (List ℕ))) → length s.scopes ≡ by.scopes → again (flat_map (written s scope) ps) ≡ flat_map (written s scope) ps
  written_old s scope [] count = refl
  written_old s scope (p ∷ ps) count =
      map-append (renumbered by) (written s scope p) (flat_map (written s scope) ps) ∙ ap (λ (es : List Edit). es ++ again (flat_map (written s scope) ps)) (one p) ∙ ap (λ (es : List Edit). written s scope p ++ es) (written_old s scope ps count)
    where
      one : (p : List ℕ × Option (List ℕ)) → again (written s scope p) ≡ written s scope p
      one (name, None) = refl
      one (name, Some text) = at (home s.scopes scope name) (λ n e. home_within s.scopes scope name n e)
        where
          at : (o : Option ℕ) → ((n : ℕ) → o ≡ Some n → n < length s.scopes) → again (option_map_or (λ n. writes n name text ∷ []) o []) ≡ option_map_or (λ n. writes n name text ∷ []) o []
          at None less = refl
          at (Some n) less = ap (λ (k : ℕ). writes k name text ∷ []) (raised_old by.scopes by.more_scopes n (subst (λ k. n < k) count (less n refl)))

-- ---- records that open nothing keep their numbers

module _ (s : Shown) (by : Grown) (count : length s.lists.scopes ≡ by.scopes) (scoped : (t : ℕ) (task : Task) → slice_get s.lists.tasks t ≡ Some task → IsScoped by.scopes task) where
  abbrev IsOld : List Edit → Type 0
  IsOld es = map (renumbered by) es ≡ es

  issuing_old : (now t : ℕ) (issue_at : Here → Place → Option Issue)
      → IfSome (option_and_then (λ (h : Here). option_and_then (λ (place : Place). option_and_then (λ (issue : Issue). Some (changes.issuing h issue)) (issue_at h place)) (changes.place_at h h.task.phase)) (here_at s now t)) (λ made. IsOld made.1)
  issuing_old now t issue_at =
      some_at s now t (λ (h : Here). option_and_then (λ (place : Place). option_and_then (λ (issue : Issue). Some (changes.issuing h issue)) (issue_at h place)) (changes.place_at h h.task.phase)) (λ made. IsOld made.1) (λ task step task_is step_is.
      let h : Here = here_of s now t task step in
      some_then (changes.place_at h task.phase) (λ (place : Place). option_and_then (λ (issue : Issue). Some (changes.issuing h issue)) (issue_at h place)) (λ made. IsOld made.1) (λ place.
      some_then (issue_at h place) (λ (issue : Issue). Some (changes.issuing h issue)) (λ made. IsOld made.1) (λ issue.
      ap (λ (new : Task). issues issue ∷ moves t new ∷ []) (old_in by task (phase.Awaiting (changes.place_number task.phase) (length s.lists.issues)) (scoped t task task_is) refl))))

  send_old : (now t n agent : ℕ) (bytes : List ℕ) → IfSome (changes.send s now t n agent bytes) IsOld
  send_old now t n agent bytes =
      some_from (changes.next_command s now t) (λ (made : Issuing). cond ((n == length s.lists.issues) && (agent == (made.0).agent) && bytes_eq bytes (made.0).bytes) (Some made.1) None) (λ made. IsOld made.1) IsOld (issuing_old now t changes.command_at)
      (λ made h. some_if ((n == length s.lists.issues) && (agent == (made.0).agent) && bytes_eq bytes (made.0).bytes) (Some made.1) IsOld h)

  ask_old : (now t n : ℕ) (bytes : List ℕ) → IfSome (changes.ask s now t n bytes) IsOld
  ask_old now t n bytes =
      some_from (changes.next_question s now t) (λ (made : Issuing). cond (s.lists.is_upgraded && (n == length s.lists.issues) && bytes_eq bytes (made.0).bytes) (Some made.1) None) (λ made. IsOld made.1) IsOld (issuing_old now t changes.question_at)
      (λ made h. some_if (s.lists.is_upgraded && (n == length s.lists.issues) && bytes_eq bytes (made.0).bytes) (Some made.1) IsOld h)

  after_old : (w : Waiting) (status : ℕ) → IsScoped by.scopes w.here.task → renumbered_task by (changes.after_answer w status) ≡ changes.after_answer w status
  after_old w status here = ways (not (status == 200)) (is_some (slice_get (places w.here.step.kind) (suc w.place)))
    where
      F : Bool → Bool → Task
      F a b = cond a (finish w.here false) (cond b (in_phase w.here.task (phase.Sending (suc w.place))) (finish w.here true))

      ways : (a b : Bool) → renumbered_task by (F a b) ≡ F a b
      ways true b = finish_old by w.here false here
      ways false true = old_in by w.here.task (phase.Sending (suc w.place)) here refl
      ways false false = finish_old by w.here true here

  -- the task of an issue that waits
  of_waiting : (now n : ℕ) (w : Waiting) → IsWaitingAt s now n w → IsScoped by.scopes w.here.task × (w.here.seen ≡ s)
  of_waiting now n w known = (
    subst (λ (h : Here). IsScoped by.scopes h.task) (sym known.here_is) (scoped (w.issue).task known.task known.task_is),
    ap (λ (h : Here). h.seen) known.here_is,
  )

  answered_old : (now n : ℕ) (end : IssuePhase) (status rule : ℕ) (text : List ℕ) (w : Waiting) → IsWaitingAt s now n w → IsOld (changes.answered n end status rule text w)
  answered_old now n end status rule text w known =
      let here = of_waiting now n w known in
      let ps : List (List ℕ × Option (List ℕ)) = changes.paired (changes.out_args_of w.here.step.kind) (changes.results status rule text) in
      let scopes : length w.here.seen.lists.scopes ≡ by.scopes = ap (λ (x : Shown). length x.lists.scopes) here.1 ∙ count in
      ap (λ (es : List Edit). closes n end ∷ es)
      (map-append (renumbered by) (flat_map (written w.here.seen.lists w.scope) ps) (moves w.here.number (changes.after_answer w status) ∷ [])
      ∙ ap (λ (es : List Edit). es ++ moves w.here.number (renumbered_task by (changes.after_answer w status)) ∷ []) (written_old by w.here.seen.lists w.scope ps scopes)
      ∙ ap (λ (new : Task). flat_map (written w.here.seen.lists w.scope) ps ++ moves w.here.number new ∷ []) (after_old w status here.0))

  -- all but Walks
  abbrev pub StaysOld : Record → Type 0
  StaysOld (entry.Walk task moment) = ⊤
  StaysOld r = IfSome (changes.edits_of s r) IsOld

  pub stays_old : (r : Record) → StaysOld r
  stays_old (entry.Walk task moment) = tt
  stays_old (entry.Begin run moment books bind) = tt
  stays_old (entry.Send t n agent moment bytes) = send_old moment t n agent bytes
  stays_old (entry.Ask t n moment bytes) = ask_old moment t n bytes
  stays_old (entry.Upgrade version moment) = some_if ((version == 2) && is_none (changes.outcome s.lists) && not s.lists.is_upgraded) (Some (upgrades ∷ [])) IsOld refl
  stays_old (entry.Reply n moment status rule text) =
      let f : Waiting → List Edit = changes.answered n (issue_phase.Answered status) status rule text in
      some_if (changes.is_answer status text) (option_map f (changes.waiting_filter_at s moment n)) IsOld
      (map_from (changes.waiting_filter_at s moment n) f (IsWaitingAt s moment n) IsOld (filter_known s moment n) (λ w known. answered_old moment n (issue_phase.Answered status) status rule text w known))
  stays_old (entry.Told n moment status text) =
      let f : Waiting → List Edit = changes.answered n (issue_phase.Told status) status 0 text in
      some_if (s.lists.is_upgraded && changes.is_answer status text) (option_map f (changes.waiting_at s moment n)) IsOld
      (map_from (changes.waiting_at s moment n) f (IsWaitingAt s moment n) IsOld (waiting_known s moment n) (λ w known. answered_old moment n (issue_phase.Told status) status 0 text w known))
  stays_old (entry.Expire n moment) =
      some_from (changes.waiting_filter_at s moment n) (changes.expired n) (IsWaitingAt s moment n) IsOld (filter_known s moment n) (λ w known.
      some_if (nat_le ((w.issue).moment + w.here.step.timeout) w.here.now) (Some (closes n issue_phase.Expired ∷ changes.done w.here false)) IsOld
      (ap (λ (es : List Edit). closes n issue_phase.Expired ∷ es) (done_old by w.here false (of_waiting moment n w known).0)))
