-- When commands were put, and what a session that waits asked for.
use Rattle.std.proofs.Common.{◌≡◌, ◌⊎◌, inl, inr, ℕ, ◌+◌, Bool, true, false, [], sym, ◌∙◌, subst, ap, arith}
use Rattle.std.specs.Prelude.{Option, Some, None, min, nat_lt, slice_get, if◌then◌else◌}
use Rattle.std.specs.Option.{option_map_or}
use Rattle.std.proofs.lemmas.Bool.{cases_lt}
use Rattle.std.proofs.lemmas.Option.{none-some}
use Rattle.run_records.specs.Ranges.{last_moment}
use Rattle.run_records.specs.declared.record.Record.{Record}
use Rattle.flow_engine.specs.LimitKind.TheVariants as limit
use Rattle.flow_core_rules.specs.Moves.{due}
use Rattle.flow_core_rules.specs.State.{Shown}
use Rattle.flow_laws.proofs.Basics.{same_or_not, same_some}
use Rattle.flow_engine.specs.EngineView.{EngineView}
use Rattle.flow_engine.specs.OpenIssues.{IsNextPut, IsPut, OpenIssues, count_of, most_puts, puts_of, resend_of, with_put}
use Rattle.flow_engine.specs.declared.puts.Puts.{Puts}
use Rattle.flow_world_steps.specs.Appends.{Tries}
use Rattle.flow_world_steps.specs.Appends.Tries.{done, failed, limited}
use Rattle.flow_world_steps.specs.Causes.{AskedFirst, AskedLast, IsResendNear}
use Rattle.flow_world_steps.specs.Link.{EachPutsInTime, PutsInTime}
use Rattle.flow_world_steps.specs.Sides.{IsWhole}
use Rattle.flow_world_steps.specs.Steps.{AsksClock, OpensClock, PutsCommand, Step, Steps, after_reach}
use Rattle.flow_world_steps.specs.Steps.Step.{opens_clock, finds_run_used, asks_clock, finds_late, begins, moves, upgrades, tells, expires, says, fails_to_say}
use Rattle.flow_world_steps.specs.Steps.Step.{puts_first, resends, takes, finds_none, fails_to_take, drops, replies, ignores_reply, acts_on, repeats_reply, fails_to_act, wants_memory_now}
use Rattle.flow_world_steps.specs.Steps.Steps.{nothing, and_then}
use Rattle.flow_world_steps.specs.Worlds.{Cause, Phase, World, opened, rests, looked, owes, waits, refused, past}
use Rattle.flow_world_steps.proofs.Adding.{steps_add}
use Rattle.flow_world_steps.proofs.Asked.{step_not_opened}
use Rattle.flow_world_steps.proofs.Issues.{is_put_of, put_same, puts_other, puts_were}

-- ---- when each was put

-- what is put was put before, or in this step
PutsGo : World → World → Type 0
PutsGo old new = (issue : ℕ) (puts : Puts) → puts_of new.engine.puts issue ≡ Some puts → (puts_of old.engine.puts issue ≡ Some puts) ⊎ (puts.last ≡ old.site.clock.now)

same_puts : (old new : World) → new.engine.puts ≡ old.engine.puts → PutsGo old new
unfolding PutsGo
same_puts old new e issue puts is = inl (subst (λ (l : OpenIssues). puts_of l issue ≡ Some puts) e is)

same : (old new : World) → new.engine ≡ old.engine → PutsGo old new
same old new e = same_puts old new (ap (λ (v : EngineView). v.puts) e)

tried : (IsNext : Record → Type 0) (old new : World) → IsWhole old.engine old.site → Tries IsNext old new → PutsGo old new
unfolding PutsGo
tried IsNext old new up (done is) = λ issue puts there.
    inl (puts_were old.engine.history.seen old.engine.puts is.appends.adds.offers.comes.next issue puts up.engine.put (subst (λ (l : OpenIssues). puts_of l issue ≡ Some puts) is.appends.puts there))
tried IsNext old new up (failed is) = same_puts old new is.refuses.1
tried IsNext old new up (limited what is) = same_puts old new is.refuses.1

put : (old new : World) (issue : ℕ) → PutsCommand issue old new → PutsGo old new
unfolding PutsGo
put old new issue is n puts there =
    let now : puts_of (with_put old.engine.puts issue old.site.clock.now) n ≡ Some puts = subst (λ (l : OpenIssues). puts_of l n ≡ Some puts) (ap (λ (v : EngineView). v.puts) is.sends.view) there in
    elim (same_or_not n issue) [
      | inl e ↦
          let own = put_same old.engine.puts issue (record { last = old.site.clock.now; count = min most_puts (count_of old.engine.puts issue + 1) }) in
          let is_it : record { last = old.site.clock.now; count = min most_puts (count_of old.engine.puts issue + 1) } ≡ puts =
          same_some (sym own ∙ subst (λ (k : ℕ). puts_of (with_put old.engine.puts issue old.site.clock.now) k ≡ Some puts) e now) in
          inr (sym (ap (λ (p : Puts). p.last) is_it))
      | inr ne ↦ inl (sym (puts_other old.engine.puts issue old.site.clock.now n ne) ∙ now)
    ]

step_puts : (old new : World) → Step old new → PutsGo old new
step_puts old new (opens_clock answer is) = same old new is.goes.sides.engine
step_puts old new (finds_run_used agent is) = same old new is.only.sides.engine
step_puts old new (asks_clock moment answer is) = same old new is.goes.sides.engine
step_puts old new (finds_late moment is) = same old new is.only.sides.engine
step_puts old new (begins is) = tried _ old new is.whole is.tries
step_puts old new (moves is) = tried _ old new is.has_looked.up.has_file is.tries
step_puts old new (upgrades issue told is) = tried _ old new is.to_be_told.idle.has_looked.up.has_file is.tries
step_puts old new (tells issue told is) = tried _ old new is.to_be_told.idle.has_looked.up.has_file is.tries
step_puts old new (expires issue is) = tried _ old new is.overdue.untold.idle.has_looked.up.has_file is.tries
step_puts old new (says bytes is) = same old new is.speaks.sides.engine
step_puts old new (fails_to_say bytes is) = same old new is.speaks.sides.engine
step_puts old new (puts_first issue is) = put old new issue is.puts
step_puts old new (resends issue is) = put old new issue is.puts
step_puts old new (takes parcel is) = same old new is.sides.engine
step_puts old new (finds_none is) = same old new is.sides.engine
step_puts old new (fails_to_take is) = same old new is.sides.engine
step_puts old new (drops beat parcel is) = same old new is.ignores.engine
step_puts old new (replies beat parcel is) = tried _ old new is.up.has_file is.tries
step_puts old new (ignores_reply beat parcel is) = same old new is.ignores.engine
step_puts old new (acts_on beat parcel v w is) = same old new is.engine
step_puts old new (repeats_reply beat parcel v w is) = same old new is.ignores.engine
step_puts old new (fails_to_act beat parcel v w error cause is) = same old new is.engine
step_puts old new (wants_memory_now is) = same old new is.only.sides.engine

pub steps_put_in_time : EachPutsInTime
unfolding PutsGo
steps_put_in_time a b was nothing issue puts is = was issue puts is
steps_put_in_time a b was (and_then {mid} steps step) issue puts is =
    let later = (steps_add mid b (and_then nothing step)).later in
    elim (step_puts mid b step issue puts is) [
      | inl before ↦ let le = steps_put_in_time a mid was steps issue puts before in omega (arith, le, later)
      | inr now ↦ omega (arith, now, later)
    ]

-- ---- what a session that waits asked for

resend_is : (p : Puts) (moment : ℕ) → resend_of p ≡ Some moment → moment ≡ p.last + 5_000
resend_is p moment is = by (nat_lt p.count most_puts) is
  where
    by : (b : Bool) → (if b then Some (p.last + 5_000) else None) ≡ Some moment → moment ≡ p.last + 5_000
    by true h = sym (same_some h)
    by false h = absurd (none-some moment h)

what_next : (a old b : World) (moment answer : ℕ) → Steps a old → AsksClock moment answer old b → a.engine.puts ≡ [] → (due b.engine.history.seen ≡ Some moment) ⊎ IsResendNear b moment
what_next a old b moment answer steps asks none = by asks.next.up_to_date.resend asks.next.up_to_date.next asks.next.is
  where
    seen : b.engine.history.seen ≡ old.engine.history.seen
    seen = ap (λ (v : EngineView). v.history.seen) asks.goes.sides.engine

    due_now : due b.engine.history.seen ≡ Some asks.next.at
    due_now = ap due seen ∙ asks.next.due_is

    no_puts : PutsInTime a
    no_puts issue puts is = absurd (none-some puts (subst (λ (l : OpenIssues). puts_of l issue ≡ Some puts) none is))

    by : (resend : Option (ℕ × ℕ)) → IsNextPut old.engine.puts resend → moment ≡ option_map_or (λ next. min asks.next.at next.0) resend asks.next.at
        → (due b.engine.history.seen ≡ Some moment) ⊎ IsResendNear b moment
    by None all is = inl (due_now ∙ ap Some (sym is))
    by (Some n) some is = elim (cases_lt n.0 asks.next.at) [
      | inl sooner ↦
          let p = some.0.0 in
          let up = asks.next.up_to_date.on_time.untold.idle.has_looked.up.has_file in
          let put : IsPut old.engine.history.seen (n.1, p) = is_put_of old.engine.history.seen old.engine.puts n.1 p up.engine.put some.0.1 in
          let last = steps_put_in_time a old no_puts steps n.1 p some.0.1 in
          let at = resend_is p n.0 some.0.2 in
          let later = (steps_add old b (and_then nothing (asks_clock moment answer asks))).later in
          inr (record {
            issue = n.1;
            it = put.issue;
            waiting = record {
              there = subst (λ (s : Shown). slice_get s.lists.issues n.1 ≡ Some put.issue) (sym seen) put.there;
              waits = put.waits;
              of_filter = put.of_filter;
            };
            near = omega (arith, is, sooner, at, last, later);
            at = asks.next.at;
            due_is = due_now;
            early = omega (arith, is, sooner);
          })
      | inr past_it ↦ let e : moment ≡ asks.next.at = omega (arith, is, past_it) in inl (due_now ∙ ap Some (sym e))
    ]

opened_first : (a old b : World) (moment answer : ℕ) → Steps a old → OpensClock answer old b → moment ≡ old.engine.history.seen.moment → AskedFirst a b moment
opened_first a old b moment answer nothing opens is = record { answer = answer; opens = opens; is = is }
opened_first a old b moment answer (and_then {mid} steps last) opens is = absurd (step_not_opened mid old last opens.phase)

-- a phase that is no waiting
not_waiting : (p q : Phase) (moment : ℕ) (P : Type 0) → p ≡ q → (q ≡ waits moment → ⊥) → p ≡ waits moment → P
not_waiting p q moment P e not f = absurd (not (sym e ∙ f))

reached_waits : (p : Phase) (moment answer asked : ℕ) → p ≡ after_reach asked answer → p ≡ waits moment → asked ≡ moment
reached_waits p moment answer asked e f = by (nat_lt last_moment answer) (nat_lt answer asked) (sym e ∙ f)
  where
    by : (x y : Bool) → (if x then refused (past limit.Moment) false else if y then waits asked else rests) ≡ waits moment → asked ≡ moment
    by true y g = absurd (cc)
    by false true g = cc
    by false false g = absurd (cc)

refused_waits : (cause : Cause) (lacks : Bool) (moment : ℕ) → refused cause lacks ≡ waits moment → ⊥
refused_waits cause lacks moment e = cc

rests_waits : (moment : ℕ) → rests ≡ waits moment → ⊥
rests_waits moment e = cc

looked_waits : (moment : ℕ) → looked ≡ waits moment → ⊥
looked_waits moment e = cc

owes_waits : (moment : ℕ) → owes ≡ waits moment → ⊥
owes_waits moment e = cc

tried_waits : (IsNext : Record → Type 0) (old new : World) (moment : ℕ) (P : Type 0) → Tries IsNext old new → new.phase ≡ waits moment → P
tried_waits IsNext old new moment P (done is) = not_waiting new.phase owes moment P is.phase (owes_waits moment)
tried_waits IsNext old new moment P (failed is) = not_waiting new.phase _ moment P is.phase (refused_waits _ _ moment)
tried_waits IsNext old new moment P (limited what is) = not_waiting new.phase _ moment P is.phase (refused_waits _ _ moment)

pub step_asked : (a old b : World) (moment : ℕ) → a.phase ≡ opened → Steps a old → Step old b → b.phase ≡ waits moment → AskedFirst a b moment ⊎ AskedLast a b moment
step_asked a old b moment at steps (opens_clock answer is) e = inl (opened_first a old b moment answer steps is (sym (reached_waits b.phase moment answer _ is.goes.phase e)))
step_asked a old b moment at steps (asks_clock asked answer is) e =
    let same : asked ≡ moment = reached_waits b.phase moment answer asked is.goes.phase e in
    let asks : AsksClock moment answer old b = subst (λ (m : ℕ). AsksClock m answer old b) same is in
    inr (record { old = old; before = steps; answer = answer; asks = asks; what = what_next a old b moment answer steps asks })
step_asked a old b moment at steps (finds_run_used agent is) e = not_waiting b.phase _ moment _ is.only.phase (refused_waits _ _ moment) e
step_asked a old b moment at steps (finds_late late is) e = not_waiting b.phase _ moment _ is.only.phase (refused_waits _ _ moment) e
step_asked a old b moment at steps (begins is) e = tried_waits _ old b moment _ is.tries e
step_asked a old b moment at steps (moves is) e = tried_waits _ old b moment _ is.tries e
step_asked a old b moment at steps (upgrades issue told is) e = tried_waits _ old b moment _ is.tries e
step_asked a old b moment at steps (tells issue told is) e = tried_waits _ old b moment _ is.tries e
step_asked a old b moment at steps (expires issue is) e = tried_waits _ old b moment _ is.tries e
step_asked a old b moment at steps (says bytes is) e = not_waiting b.phase rests moment _ is.phase (rests_waits moment) e
step_asked a old b moment at steps (fails_to_say bytes is) e = not_waiting b.phase _ moment _ is.phase (refused_waits _ _ moment) e
step_asked a old b moment at steps (puts_first issue is) e = not_waiting b.phase rests moment _ is.puts.phase (rests_waits moment) e
step_asked a old b moment at steps (resends issue is) e = not_waiting b.phase rests moment _ is.puts.phase (rests_waits moment) e
step_asked a old b moment at steps (takes parcel is) e = not_waiting b.phase _ moment _ is.phase (λ h. cc) e
step_asked a old b moment at steps (finds_none is) e = not_waiting b.phase looked moment _ is.phase (looked_waits moment) e
step_asked a old b moment at steps (fails_to_take is) e = not_waiting b.phase _ moment _ is.phase (refused_waits _ _ moment) e
step_asked a old b moment at steps (drops beat parcel is) e = not_waiting b.phase rests moment _ is.ignores.phase (rests_waits moment) e
step_asked a old b moment at steps (replies beat parcel is) e = tried_waits _ old b moment _ is.tries e
step_asked a old b moment at steps (ignores_reply beat parcel is) e = not_waiting b.phase rests moment _ is.ignores.phase (rests_waits moment) e
step_asked a old b moment at steps (acts_on beat parcel v w is) e = not_waiting b.phase rests moment _ is.phase (rests_waits moment) e
step_asked a old b moment at steps (repeats_reply beat parcel v w is) e = not_waiting b.phase rests moment _ is.ignores.phase (rests_waits moment) e
step_asked a old b moment at steps (fails_to_act beat parcel v w error cause is) e = not_waiting b.phase _ moment _ is.phase (refused_waits _ _ moment) e
step_asked a old b moment at steps (wants_memory_now is) e = not_waiting b.phase _ moment _ is.only.phase (refused_waits _ _ moment) e
