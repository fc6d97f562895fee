-- In a sane state an issue that waits can end, and once the first task has ended all is over.
use Rattle.std.proofs.Common.{◌≡◌, ℕ, zero, suc, ◌+◌, ◌<◌, ◌≤◌, ◌==◌, ◌&&◌, Bool, true, false, cond, List, Option, Some, None, is_some, arith, refl, ap, sym, subst, ◌∙◌}
use Rattle.std.specs.Prelude.{IfSome, nat_le, option_and_then, option_map, slice_get}
use Rattle.flow_core_rules.specs.declared.tasks.Task.{Task}
use Rattle.flow_core_rules.specs.declared.issues.Issue.{Issue}
use Rattle.flow_core_rules.specs.declared.issues.IssuePhase.TheVariants as issue_phase
use Rattle.flow_core_rules.specs.declared.phases.Phase.{Phase}
use Rattle.flow_core_rules.specs.declared.phases.Phase.TheVariants as phase
use Rattle.flow_core_rules.specs.State.{Shown}
use Rattle.flow_core_rules.specs.Edits.{Edit}
use Rattle.flow_core_rules.specs.Tasks.{Here}
use Rattle.flow_core_rules.specs.Changes.{Waiting, waiting_at, answered, is_answer, has_ended, is_waiting, ended_how}
use Rattle.flow_core_rules.specs.Moves.{deadline_of, timeout_of}
use Rattle.flow_core_rules.specs.Sane.{IsSane, IsSaneAt, IsSaneTask, IsSaneIssue, IsAwaitedBy, AwaitsOwn, JoinsFrom}
use Rattle.flow_core_rules.specs.Laws.{WaitingCanEnd, EndedIsAllOver}
use Rattle.flow_core_rules.proofs.HereLemmas.{IsWaitingAt, waiting_known}
use Rattle.flow_core_rules.proofs.EndLemmas.{known_ended}

inner : {A : Type 0} (a b : A) → Some a ≡ Some b → a ≡ b
inner a b h = cc

clash : (b : Bool) → b ≡ true → b ≡ false → ⊥
clash true x y = cc
clash false x y = cc

le_true : (a b : ℕ) → a ≤ b → nat_le a b ≡ true
le_true a b h = grind arith

some_known : {A : Type 0} (o : Option A) → is_some o ≡ true → (x : A) × (o ≡ Some x)
some_known None e = absurd (clash false e refl)
some_known (Some x) e = (x, refl)

-- ---- an issue that waits can end

-- where it waits
record IsFound (s : Shown) (now n : ℕ) (issue : Issue) : Type 0 where
  w : Waiting
  w_is : waiting_at s now n ≡ Some w
  known : IsWaitingAt s now n w
  issue_is : w.issue ≡ issue

find_waiting : (s : Shown) (now n : ℕ) (issue : Issue) → IsSane s → slice_get s.lists.issues n ≡ Some issue → is_waiting issue.phase ≡ true → IsFound s now n issue
find_waiting s now n issue sane is waits =
    let i : IsSaneIssue s n issue = sane.issues n issue is in
    let t : IsSaneTask s issue.task i.task = sane.tasks issue.task i.task i.task_is in
    let own : AwaitsOwn s issue.task n = subst (IsSaneAt s issue.task i.task) (i.awaits waits) t.phase in
    let there = some_known (waiting_at s now n) (own.found now) in
    let known : IsWaitingAt s now n there.0 = subst (λ o. IfSome o (IsWaitingAt s now n)) there.1 (waiting_known s now n) in
    record { w = there.0; w_is = there.1; known = known; issue_is = inner (there.0).issue issue (sym known.issue_is ∙ is) }

-- the deadline has passed where the issue waits
is_late : (s : Shown) (now n : ℕ) (issue : Issue) (f : IsFound s now n issue) → deadline_of s issue ≤ now → nat_le ((f.w).issue.moment + (f.w).here.step.timeout) (f.w).here.now ≡ true
is_late s now n issue f le =
    let k : IsWaitingAt s now n f.w = f.known in
    let late : deadline_of s (f.w).issue ≤ now = subst (λ (i : Issue). deadline_of s i ≤ now) (sym f.issue_is) le in
    let timeout : timeout_of s (f.w).issue ≡ (k.step).timeout = rw k.task_is (rw k.step_is refl) in
    let sum : (f.w).issue.moment + (k.step).timeout ≤ now = subst (λ m. (f.w).issue.moment + m ≤ now) timeout late in
    subst (λ (h : Here). nat_le ((f.w).issue.moment + h.step.timeout) h.now ≡ true) (sym k.here_is) (le_true ((f.w).issue.moment + (k.step).timeout) now sum)

both_true : (a b : Bool) → a ≡ true → b ≡ true → (a && b) ≡ true
both_true true true e g = refl
both_true true false e g = g
both_true false b e g = e

told_some : (b : Bool) (o : Option Waiting) (edits : Waiting → List Edit) → b ≡ true → is_some o ≡ true → is_some (cond b (option_map edits o) None) ≡ true
told_some true (Some w) edits e g = refl
told_some true None edits e g = g
told_some false o edits e g = e

pub waiting_can_end : WaitingCanEnd
waiting_can_end s n issue sane is waits = record {
  answered = λ now status rule text timely answer filter.
      let f : IsFound s now n issue = find_waiting s now n issue sane is waits in
      let agent : ((f.w).issue.agent == 0) ≡ false = subst (λ (i : Issue). (i.agent == 0) ≡ false) (sym f.issue_is) filter in
      rw timely (rw answer (rw f.w_is (rw agent refl)));
  told = λ now status text timely answer upgraded.
      let f : IsFound s now n issue = find_waiting s now n issue sane is waits in
      rw timely (told_some (s.lists.is_upgraded && is_answer status text) (waiting_at s now n) (answered n (issue_phase.Told status) status 0 text)
      (both_true s.lists.is_upgraded (is_answer status text) upgraded answer) (ap is_some f.w_is));
  expires = λ now timely late filter.
      let f : IsFound s now n issue = find_waiting s now n issue sane is waits in
      let agent : ((f.w).issue.agent == 0) ≡ false = subst (λ (i : Issue). (i.agent == 0) ≡ false) (sym f.issue_is) filter in
      rw timely (rw f.w_is (rw agent (rw (is_late s now n issue f late) refl)));
}

-- ---- once the first task has ended

not_joining : (k : ℕ) (at : Phase) → has_ended at ≡ true → JoinsFrom k at → ⊥
not_joining k (phase.Ended well) e j = j
not_joining k (phase.At since) e j = j
not_joining k (phase.Sending place) e j = j
not_joining k (phase.Awaiting place issue) e j = j
not_joining k (phase.Joining from) e j = clash false e refl

over : (s : Shown) → IsSane s → ((x : Task) → slice_get s.lists.tasks 0 ≡ Some x → has_ended x.phase ≡ true)
    → (n t : ℕ) (task : Task) → t < n → slice_get s.lists.tasks t ≡ Some task → has_ended task.phase ≡ true
over s sane first zero t task less is = absurd (omega arith)
over s sane first (suc n) t task less is =
    let h : IsSaneTask s t task = sane.tasks t task is in
    by h (has_ended task.phase) refl task.parent refl h.parent (λ p x lt e. over s sane first n p x lt e)
  where
    by : IsSaneTask s t task → (b : Bool) → has_ended task.phase ≡ b → (o : Option ℕ) → task.parent ≡ o → IfSome o (IsAwaitedBy s t task.phase)
        → ((p : ℕ) (x : Task) → p < n → slice_get s.lists.tasks p ≡ Some x → has_ended x.phase ≡ true) → has_ended task.phase ≡ true
    by h true e o p a rest = e
    by h false e None p a rest = first task (subst (λ k. slice_get s.lists.tasks k ≡ Some task) (h.first.0 p) is)
    by h false e (Some q) p a rest =
        let earlier = a.is_earlier in
        absurd (not_joining t (a.by).phase (rest q a.by (omega arith) a.by_is) (a.joins e))

pub ended_is_all_over : EndedIsAllOver
ended_is_all_over s sane end = record { tasks = tasks; issues = λ n issue is. issues n issue is (is_waiting issue.phase) refl }
  where
    first : (x : Task) → slice_get s.lists.tasks 0 ≡ Some x → has_ended x.phase ≡ true
    first x e = known_ended x.phase (subst (λ p. is_some (option_and_then (λ (task : Task). ended_how task.phase) p) ≡ true) e end)

    tasks : (t : ℕ) (task : Task) → slice_get s.lists.tasks t ≡ Some task → has_ended task.phase ≡ true
    tasks t task is = over s sane first (suc t) t task (omega arith) is

    issues : (n : ℕ) (issue : Issue) → slice_get s.lists.issues n ≡ Some issue → (b : Bool) → is_waiting issue.phase ≡ b → is_waiting issue.phase ≡ false
    issues n issue is false e = e
    issues n issue is true e =
        let i : IsSaneIssue s n issue = sane.issues n issue is in
        absurd (clash (has_ended (i.task).phase) (tasks issue.task i.task i.task_is) (ap has_ended (i.awaits e)))
