-- What the end of an issue changes is the same where its task is, and the homes that it sees.
use Rattle.std.proofs.Common.{◌≡◌, ℕ, suc, ◌+◌, ◌==◌, ◌&&◌, Bool, true, false, cond, List, [], ◌∷◌, ◌++◌, Option, Some, None, is_some, refl, ap, sym, ◌∙◌}
use Rattle.std.specs.Prelude.{IfSome, nat_le, not, option_and_then, option_map, slice_get}
use Rattle.std.specs.List.{flat_map}
use Rattle.cacao_vars.specs.Scopes.{home}
use Rattle.cacao_book.specs.declared.steps.Step.{Step}
use Rattle.flow_core_rules.specs.declared.tasks.Task.{Task}
use Rattle.flow_core_rules.specs.declared.issues.Issue.{Issue}
use Rattle.flow_core_rules.specs.declared.issues.IssuePhase.{IssuePhase}
use Rattle.flow_core_rules.specs.declared.issues.IssuePhase.TheVariants as issue_phase
use Rattle.flow_core_rules.specs.declared.phases.Phase.TheVariants as phase
use Rattle.flow_core_rules.specs.Givens.{step_at}
use Rattle.flow_core_rules.specs.State.{Lists, Shown}
use Rattle.flow_core_rules.specs.Edits.{Edit}
use Rattle.flow_core_rules.specs.Edits.Edit.{moves, closes}
use Rattle.flow_core_rules.specs.Places.{places}
use Rattle.flow_core_rules.specs.Tasks.{Here, here_at, is_root, finish, in_phase}
use Rattle.flow_core_rules.specs.Changes as changes
use Rattle.flow_core_rules.specs.Changes.{Waiting, written, waiting_at, awaited_place, is_waiting}
use Rattle.flow_core_rules.proofs.HereLemmas.{here_of, IsWaitingAt, waiting_known}
use Rattle.flow_core_laws.proofs.Somes.{none_some}
use Rattle.flow_core_laws.proofs.StaysEnabled.{at_is}
use Rattle.flow_core_laws.proofs.SameReads.{written_same}
use Rattle.flow_core_laws.proofs.SameWalks.{finish_same}

abbrev at_scope : Issue → Here → ℕ → ℕ → Option Waiting
at_scope x h place k = cond (is_waiting x.phase) (Some (record { issue = x; here = h; place = place; scope = k })) None

abbrev at_here : ℕ → Issue → Here → Option Waiting
at_here n x h = option_and_then (λ (place : ℕ). option_and_then (at_scope x h place) h.task.step_scope) (awaited_place n h.task.phase)

waits_at : (s : Shown) (now n : ℕ) (issue : Issue) (task : Task) (step : Step) (place scope : ℕ) → slice_get s.lists.issues n ≡ Some issue → slice_get s.lists.tasks issue.task ≡ Some task
    → step_at s.given task.book task.step ≡ Some step → awaited_place n task.phase ≡ Some place → task.step_scope ≡ Some scope → is_waiting issue.phase ≡ true
    → waiting_at s now n ≡ Some (record { issue = issue; here = here_of s now issue.task task step; place = place; scope = scope })
waits_at s now n issue task step place scope a b c d e g =
    ap (λ (o : Option Issue). option_and_then (λ (x : Issue). option_and_then (at_here n x) (here_at s now x.task)) o) a
    ∙ at_is s now issue.task (at_here n issue) task step b c
    ∙ ap (λ o. option_and_then (λ (k : ℕ). option_and_then (at_scope issue (here_of s now issue.task task step) k) task.step_scope) o) d
    ∙ ap (λ o. option_and_then (at_scope issue (here_of s now issue.task task step) place) o) e
    ∙ ap (λ b. cond b (Some (record { issue = issue; here = here_of s now issue.task task step; place = place; scope = scope })) None) g

-- one of a filter
abbrev of_filter : Waiting → Option Waiting
of_filter w = cond ((w.issue).agent == 0) None (Some w)

module _ (p : Shown) (m : ℕ) (l : Lists) (now n : ℕ) where
  abbrev q : Shown
  q = record p { moment = m; lists = l }

  -- the issue, its task, and the homes that are seen from the task's step
  pub record WaitsSame (w : Waiting) (known : IsWaitingAt p now n w) : Type 0 where
    pub issue : slice_get l.issues n ≡ Some w.issue
    pub task : slice_get l.tasks (w.issue).task ≡ Some known.task
    pub root : is_root q known.task ≡ is_root p known.task
    pub homes : (name : List ℕ) → home l.scopes w.scope name ≡ home p.lists.scopes w.scope name

  abbrev seen_in : (w : Waiting) → IsWaitingAt p now n w → Shown → Waiting
  seen_in w known s = record { issue = w.issue; here = here_of s now (w.issue).task known.task known.step; place = w.place; scope = w.scope }

  abbrev pub AllWaitSame : Type 0
  AllWaitSame = (w : Waiting) (known : IsWaitingAt p now n w) → WaitsSame w known

  -- what is there of an issue that waits, by any rule that gives the same of both
  waited : (f : Waiting → Option (List Edit)) (fs : List Edit) → AllWaitSame → ((w : Waiting) (known : IsWaitingAt p now n w) → WaitsSame w known → f (seen_in w known q) ≡ f (seen_in w known p))
      → option_and_then f (waiting_at p now n) ≡ Some fs → option_and_then f (waiting_at q now n) ≡ Some fs
  waited f fs all same e = by (waiting_at p now n) (waiting_known p now n) e
    where
      by : (o : Option Waiting) → IfSome o (IsWaitingAt p now n) → option_and_then f o ≡ Some fs → option_and_then f (waiting_at q now n) ≡ Some fs
      by None known e = absurd (none_some fs e)
      by (Some w) known e =
          let x : WaitsSame w known = all w known in
          ap (option_and_then f) (waits_at q now n w.issue known.task known.step w.place w.scope x.issue x.task known.step_is known.place_is known.scope_is known.waits)
          ∙ same w known x ∙ ap f (ap (λ (here : Here). record w { here = here }) (sym known.here_is)) ∙ e

  answered_same : (end : IssuePhase) (status rule : ℕ) (text : List ℕ) (w : Waiting) (known : IsWaitingAt p now n w) → WaitsSame w known
      → changes.answered n end status rule text (seen_in w known q) ≡ changes.answered n end status rule text (seen_in w known p)
  answered_same end status rule text w known x =
      let ps : List (List ℕ × Option (List ℕ)) = changes.paired (changes.out_args_of (known.step).kind) (changes.results status rule text) in
      ap (λ (es : List Edit). closes n end ∷ (es ++ moves (w.issue).task (changes.after_answer (seen_in w known q) status) ∷ [])) (written_same p.lists l w.scope ps x.homes)
      ∙ ap
      (λ (new : Task). closes n end ∷ (flat_map (written p.lists w.scope) ps ++ moves (w.issue).task (cond (not (status == 200)) new (cond (is_some (slice_get (places (known.step).kind) (suc w.place))) (in_phase known.task (phase.Sending (suc w.place))) (finish (here_of p now (w.issue).task known.task known.step) true))) ∷ []))
      (finish_same p m l now (w.issue).task known.task known.step x.root false)

  -- ---- options

  map_then : (f : Waiting → List Edit) (o : Option Waiting) → option_map f (option_and_then of_filter o) ≡ option_and_then (λ (w : Waiting). option_map f (of_filter w)) o
  map_then f None = refl
  map_then f (Some w) = refl

  map_as_then : (f : Waiting → List Edit) (o : Option Waiting) → option_map f o ≡ option_and_then (λ (w : Waiting). Some (f w)) o
  map_as_then f None = refl
  map_as_then f (Some w) = refl

  then_then : (f : Waiting → Option (List Edit)) (o : Option Waiting) → option_and_then f (option_and_then of_filter o) ≡ option_and_then (λ (w : Waiting). option_and_then f (of_filter w)) o
  then_then f None = refl
  then_then f (Some w) = refl

  under : (b : Bool) (o u : Option (List Edit)) (fs : List Edit) → (o ≡ Some fs → u ≡ Some fs) → cond b o None ≡ Some fs → cond b u None ≡ Some fs
  under true o u fs f e = f e
  under false o u fs f e = e

  -- ---- the records

  pub reply_same : (status rule : ℕ) (text : List ℕ) (fs : List Edit) → AllWaitSame → changes.reply p now n status rule text ≡ Some fs → changes.reply q now n status rule text ≡ Some fs
  reply_same status rule text fs all =
      under (changes.is_answer status text) (option_map f (changes.waiting_filter_at p now n)) (option_map f (changes.waiting_filter_at q now n)) fs
      (λ e. map_then f (waiting_at q now n) ∙ waited (λ (w : Waiting). option_map f (of_filter w)) fs all (λ w known x. by w known x ((w.issue).agent == 0)) (sym (map_then f (waiting_at p now n)) ∙ e))
    where
      f : Waiting → List Edit
      f w = changes.answered n (issue_phase.Answered status) status rule text w

      by : (w : Waiting) (known : IsWaitingAt p now n w) → WaitsSame w known → (b : Bool) → option_map f (cond b None (Some (seen_in w known q))) ≡ option_map f (cond b None (Some (seen_in w known p)))
      by w known x true = refl
      by w known x false = ap Some (answered_same (issue_phase.Answered status) status rule text w known x)

  pub tell_same : l.is_upgraded ≡ p.lists.is_upgraded → (status : ℕ) (text : List ℕ) (fs : List Edit) → AllWaitSame → changes.tell p now n status text ≡ Some fs → changes.tell q now n status text ≡ Some fs
  tell_same mark status text fs all e =
      ap (λ b. cond (b && changes.is_answer status text) (option_map f (waiting_at q now n)) None) mark
      ∙ under (p.lists.is_upgraded && changes.is_answer status text) (option_map f (waiting_at p now n)) (option_map f (waiting_at q now n)) fs
      (λ e. map_as_then f (waiting_at q now n) ∙ waited (λ (w : Waiting). Some (f w)) fs all (λ w known x. ap Some (answered_same (issue_phase.Told status) status 0 text w known x)) (sym (map_as_then f (waiting_at p now n)) ∙ e)) e
    where
      f : Waiting → List Edit
      f w = changes.answered n (issue_phase.Told status) status 0 text w

  pub expire_same : (fs : List Edit) → AllWaitSame → changes.expire p now n ≡ Some fs → changes.expire q now n ≡ Some fs
  expire_same fs all e =
      then_then (changes.expired n) (waiting_at q now n)
      ∙ waited (λ (w : Waiting). option_and_then (changes.expired n) (of_filter w)) fs all (λ w known x. by w known x ((w.issue).agent == 0)) (sym (then_then (changes.expired n) (waiting_at p now n)) ∙ e)
    where
      late : (w : Waiting) (known : IsWaitingAt p now n w) → WaitsSame w known → (b : Bool) → cond b (Some (closes n issue_phase.Expired ∷ changes.done (here_of q now (w.issue).task known.task known.step) false)) None ≡ cond b (Some (closes n issue_phase.Expired ∷ changes.done (here_of p now (w.issue).task known.task known.step) false)) None
      late w known x true = ap (λ (new : Task). Some (closes n issue_phase.Expired ∷ moves (w.issue).task new ∷ [])) (finish_same p m l now (w.issue).task known.task known.step x.root false)
      late w known x false = refl

      by : (w : Waiting) (known : IsWaitingAt p now n w) → WaitsSame w known → (b : Bool) → option_and_then (changes.expired n) (cond b None (Some (seen_in w known q))) ≡ option_and_then (changes.expired n) (cond b None (Some (seen_in w known p)))
      by w known x true = refl
      by w known x false = late w known x (nat_le ((w.issue).moment + (known.step).timeout) now)
