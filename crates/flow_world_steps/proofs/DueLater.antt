-- What comes next at a session's clock is later than now.
use Rattle.std.proofs.Common.{◌≡◌, ◌≢◌, inl, inr, ℕ, suc, ◌+◌, ◌<◌, ◌&&◌, Bool, true, false, cond, List, [], ◌∷◌, ◌++◌, refl, sym, ◌∙◌, subst, ap, arith}
use Rattle.std.specs.Prelude.{Option, Some, None, IfSome, is_some, min, not, option_and_then, option_map, slice_get, ◌==◌}
use Rattle.std.specs.List.{AllByRecursion, flat_map}
use Rattle.std.specs.Option.{option_map_or}
use Rattle.std.proofs.lemmas.Bool.{cases_lt, false≢true}
use Rattle.std.proofs.lemmas.Option.{none-some}
use Rattle.flow_core_rules.specs.Changes.{is_in_time, is_waiting, walk}
use Rattle.flow_core_rules.specs.Moves.{deadline_of, deadlines, deadlines_from, delay_of, delay_until, delays, due, enabled_move, first_move, has_deadline, least, move_at}
use Rattle.flow_core_rules.specs.Sane.{IsSane, IsSaneAt}
use Rattle.flow_core_rules.specs.State.{Shown}
use Rattle.flow_core_rules.specs.declared.issues.Issue.{Issue}
use Rattle.flow_core_rules.specs.declared.moves.Move.{Move}
use Rattle.flow_core_rules.specs.declared.moves.Move.TheVariants as move
use Rattle.flow_core_rules.specs.declared.phases.Phase.{Phase}
use Rattle.flow_core_rules.specs.declared.phases.Phase.TheVariants as phase
use Rattle.flow_core_rules.specs.declared.tasks.Task.{Task}
use Rattle.flow_core_rules.proofs.NotStuck.{no-move}
use Rattle.flow_core_rules.proofs.SaneRuns.{runs_are_sane}
use Rattle.flow_engine.specs.SetupLaws.{AcceptedIsRunnable}
use Rattle.base_dues.specs.Pairs.{IsFirstBy, is_by}
use Rattle.flow_laws.proofs.Basics.{same_some}
use Rattle.flow_engine.specs.HistoryView.{HistoryView}
use Rattle.flow_engine.specs.Histories.{IsHistory}
use Rattle.flow_engine.specs.EngineCalls.{put_deadline}
use Rattle.flow_engine.specs.EngineView.{EngineView}
use Rattle.flow_engine.specs.OpenIssues.{puts_of}
use Rattle.flow_engine.specs.declared.puts.Puts.{Puts}
use Rattle.flow_world_steps.specs.Sides.{AllPut}
use Rattle.flow_world_steps.specs.Stands.{AllPutWhileLooked, InTime}
use Rattle.flow_world_steps.specs.Turns.{ComesNext}
use Rattle.flow_world_steps.specs.Worlds.{World, looked, opened, IsGoing}
use Rattle.flow_world_steps.proofs.Records.{so_far_begun}

-- ---- lists of moments

abbrev AllLater : ℕ → List ℕ → Type 0
AllLater now ns = AllByRecursion (λ (n : ℕ). now < n) ns

later_both : (now : ℕ) (xs ys : List ℕ) → AllLater now xs → AllLater now ys → AllLater now (xs ++ ys)
later_both now [] ys p q = q
later_both now (x ∷ xs) ys p q = (p.0, later_both now xs ys p.1 q)

least_later : (now : ℕ) (ns : List ℕ) (at : ℕ) → AllLater now ns → least ns ≡ Some at → now < at
least_later now [] at all e = absurd (none-some at e)
least_later now (n ∷ ns) at all e = by (least ns) (λ m is. least_later now ns m all.1 is) e
  where
    by : (o : Option ℕ) → ((m : ℕ) → o ≡ Some m → now < m) → Some (option_map_or (min n) o n) ≡ Some at → now < at
    by None rest h = let same : n ≡ at = same_some h in omega (arith, same, all.0)
    by (Some m) rest h =
        let same : min n m ≡ at = same_some h in
        let later = rest m refl in
        omega (arith, same, all.0, later)

each_later : (now : ℕ) (f : Task → List ℕ) (tasks : List Task) → ((k : ℕ) (task : Task) → slice_get tasks k ≡ Some task → AllLater now (f task)) → AllLater now (flat_map f tasks)
each_later now f [] each = tt
each_later now f (task ∷ tasks) each = later_both now (f task) (flat_map f tasks) (each 0 task refl) (each_later now f tasks (λ k x e. each (suc k) x e))

-- ---- delays

no_walk_of : (walks : Bool) (t : ℕ) (rest : Option Move) → cond walks (Some (move.Walk t)) rest ≡ None → walks ≡ false
no_walk_of false t rest e = refl
no_walk_of true t rest e = absurd (none-some (move.Walk t) (sym e))

clash : (b : Bool) → b ≡ true → b ≡ false → ⊥
clash true e f = false≢true (sym f)
clash false e f = false≢true e

-- a task without a walk has no delay that has run out
delay_later : (s : Shown) (now t : ℕ) (task : Task) (at : Phase) → IsSaneAt s t task at → is_some (walk s now t) ≡ false → AllLater now (delay_until s task at)
delay_later s now t task (phase.At since) sane none = elim (cases_lt now (since + delay_of s task)) [
  | inl later ↦ (later, tt)
  | inr past ↦ absurd (clash (is_some (walk s now t)) (sane now past) none)
]
delay_later s now t task (phase.Sending place) sane none = tt
delay_later s now t task (phase.Awaiting place issue) sane none = tt
delay_later s now t task (phase.Joining from) sane none = tt
delay_later s now t task (phase.Ended well) sane none = tt

no_walk : (s : Shown) (now t : ℕ) (task : Task) → first_move s now 0 s.lists.tasks ≡ None → slice_get s.lists.tasks t ≡ Some task → is_some (walk s now t) ≡ false
no_walk s now t task none there =
    let at : move_at s now (t + 0) ≡ None = no-move s now 0 s.lists.tasks t task none there in
    let same : t + 0 ≡ t = omega arith in
    no_walk_of (is_some (walk s now t)) t _ (subst (λ (k : ℕ). move_at s now k ≡ None) same at)

none_first : (s : Shown) (now : ℕ) → is_in_time s now ≡ true → enabled_move s now ≡ None → first_move s now 0 s.lists.tasks ≡ None
none_first s now timely none = subst (λ (b : Bool). cond b (first_move s now 0 s.lists.tasks) None ≡ None) timely none

delays_later : (s : Shown) (now : ℕ) → IsSane s → first_move s now 0 s.lists.tasks ≡ None → AllLater now (delays s)
delays_later s now sane none = each_later now (λ task. delay_until s task task.phase) s.lists.tasks (λ k task there.
    delay_later s now k task task.phase (sane.tasks k task there).phase (no_walk s now k task none there))

-- ---- deadlines

deadlines_later : (s : Shown) (now n : ℕ) (issues : List Issue) → ((k : ℕ) (it : Issue) → slice_get issues k ≡ Some it → has_deadline it ≡ true → now < deadline_of s it)
    → AllLater now (flat_map (λ deadline. deadline.0 ∷ []) (deadlines_from s n issues))
deadlines_later s now n [] each = tt
deadlines_later s now n (it ∷ issues) each = by (has_deadline it) refl (deadlines_later s now (suc n) issues (λ k x e. each (suc k) x e))
  where
    by : (b : Bool) → has_deadline it ≡ b → AllLater now (flat_map (λ (deadline : ℕ × ℕ). deadline.0 ∷ []) (deadlines_from s (suc n) issues))
        → AllLater now (flat_map (λ (deadline : ℕ × ℕ). deadline.0 ∷ []) (cond b ((deadline_of s it, n) ∷ deadlines_from s (suc n) issues) (deadlines_from s (suc n) issues)))
    by true e rest = (each 0 it refl e, rest)
    by false e rest = rest

-- Where a record may come now, no move is enabled, and the deadline of each waiting issue of a filter is past now: what is due is.
pub due_is_later : (s : Shown) (now at : ℕ) → IsSane s → is_in_time s now ≡ true → enabled_move s now ≡ None
    → ((n : ℕ) (it : Issue) → slice_get s.lists.issues n ≡ Some it → has_deadline it ≡ true → now < deadline_of s it)
    → due s ≡ Some at → now < at
due_is_later s now at sane timely none late is =
    least_later now (delays s ++ flat_map (λ deadline. deadline.0 ∷ []) (deadlines s)) at
    (later_both now (delays s) _ (delays_later s now sane (none_first s now timely none)) (deadlines_later s now 0 s.lists.issues late)) is

-- ---- the same of an engine

-- what a run that has begun shows is sane
pub sane_engine : AcceptedIsRunnable → (h : HistoryView) → IsHistory h → h.records ≢ [] → IsSane h.seen
sane_engine runnable h history some =
    let is = so_far_begun h.records h.seen history.so_far some in
    subst IsSane (sym is.is) (runs_are_sane h.seen.given h.seen.run h.records is.state (runnable h.seen.given.texts h.seen.given.bind h.seen.given history.accepted) is.leads)

parts : (a b : Bool) → (a && not b) ≡ true → (a ≡ true) × (b ≡ false)
parts true false e = (refl, refl)
parts true true e = absurd (false≢true e)
parts false b e = absurd (false≢true e)

not_zero : (n : ℕ) → (n == 0) ≡ false → n ≢ 0
not_zero n e z = false≢true (sym e ∙ ap (λ (k : ℕ). k == 0) z)

later_than : (d now : ℕ) → is_by now (Some d) ≡ false → now < d
later_than d now h = grind arith

-- the deadline of an issue that was put is past now, where none is overdue
put_later : (v : EngineView) (now n : ℕ) (it : Issue) → IsFirstBy now (put_deadline v) None → slice_get v.history.seen.lists.issues n ≡ Some it → puts_of v.puts n ≢ None
    → now < deadline_of v.history.seen it
put_later v now n it none there some = by (puts_of v.puts n) refl some
  where
    by : (o : Option Puts) → puts_of v.puts n ≡ o → o ≢ None → now < deadline_of v.history.seen it
    by None e not = absurd (not refl)
    by (Some p) e not =
        let is : put_deadline v n ≡ Some (deadline_of v.history.seen it) =
        ap (λ (o : Option Puts). option_and_then (λ (q : Puts). option_map (deadline_of v.history.seen) (slice_get v.history.seen.lists.issues n)) o) e
        ∙ ap (option_map (deadline_of v.history.seen)) there in
        later_than (deadline_of v.history.seen it) now (sym (ap (is_by now) is) ∙ none n)

-- What is due is past now, where a record may come now, no move is enabled, each issue that waits for a filter was put, and none
-- that was put is at or past its deadline.
pub due_past_now : AcceptedIsRunnable → (v : EngineView) (now at : ℕ) → IsHistory v.history → v.history.records ≢ [] → AllPut v → is_in_time v.history.seen now ≡ true
    → enabled_move v.history.seen now ≡ None → IsFirstBy now (put_deadline v) None → due v.history.seen ≡ Some at → now < at
due_past_now runnable v now at history some all timely none on_time is =
    due_is_later v.history.seen now at (sane_engine runnable v.history history some) timely none
    (λ n it there has.
    let both = parts (is_waiting it.phase) (it.agent == 0) has in
    put_later v now n it on_time there (all n it (record { there = there; waits = both.0; of_filter = not_zero it.agent both.1 }))) is

earlier_later : (now at : ℕ) (resend : Option (ℕ × ℕ)) → now < at → IfSome resend (λ next. now < next.0) → now < option_map_or (λ (next : ℕ × ℕ). min at next.0) resend at
earlier_later now at None lt later = lt
earlier_later now at (Some next) lt later = omega (arith, lt, later)

looked_going : (w : World) → w.phase ≡ looked → IsGoing w.phase
looked_going w e = subst IsGoing (sym e) tt

looked_not : (w : World) → w.phase ≡ looked → w.phase ≢ opened
looked_not w e f = apart (sym e ∙ f)
  where
    apart : looked ≡ opened → ⊥
    apart h = cc

-- What comes next is past now.
pub next_past_now : AcceptedIsRunnable → (w : World) (moment : ℕ) → InTime w → AllPutWhileLooked w → ComesNext w moment → w.site.clock.now < moment
next_past_now runnable w moment timely all next =
    let on_time = next.up_to_date.on_time in
    let idle = on_time.untold.idle in
    let up = idle.has_looked.up in
    let here = idle.has_looked.phase in
    let due_later = due_past_now runnable w.engine w.site.clock.now next.at up.has_file.engine.history up.begun (all here)
    (timely (looked_going w here) (looked_not w here)) idle.no_move on_time.none next.due_is in
    let both = earlier_later w.site.clock.now next.at next.up_to_date.resend due_later next.up_to_date.later in
    omega (arith, both, next.is)
