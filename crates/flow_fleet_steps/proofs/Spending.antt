-- Each step of a fleet that goes on makes progress.
use Rattle.std.proofs.Common.{◌≡◌, ◌≢◌, inl, inr, ℕ, zero, suc, ◌+◌, ◌≤◌, ◌<◌, Bool, true, false, List, [], ◌∷◌, refl, sym, ◌∙◌, subst, ap, arith}
use Rattle.std.specs.Prelude.{IfSome, Option, Some, None, find, nat_lt, slice_get, slice_set, ◌==◌, if◌then◌else◌}
use Rattle.cacao_site.specs.View.{ClockView, SiteView}
use Rattle.cacao_site.specs.declared.parcel.Parcel.{Parcel}
use Rattle.run_records.specs.Ranges.{last_moment}
use Rattle.run_records.specs.declared.record.Record.{Record}
use Rattle.flow_world_steps.specs.LimitKind.TheVariants as limit
use Rattle.flow_world_steps.specs.SetupLaws.{AcceptedIsRunnable}
use Rattle.flow_core_rules.specs.Changes.{is_in_time}
use Rattle.flow_laws.proofs.Basics.{same_some}
use Rattle.flow_world_steps.specs.EngineView.{EngineView}
use Rattle.flow_world_steps.specs.OpenIssues.{IsNextPut, OpenIssues}
use Rattle.std.proofs.lemmas.Option.{none-some}
use Rattle.flow_engine_answers.specs.declared.answers.OperatorAnswer.{OperatorAnswer}
use Rattle.flow_world_steps.specs.Appends.{Tries}
use Rattle.flow_world_steps.specs.Appends.Tries.{done, failed, limited}
use Rattle.flow_world_steps.specs.Sides.{AllPut}
use Rattle.flow_world_steps.specs.Spent.{all_acts, place}
use Rattle.flow_world_steps.specs.Steps.{Step, after_reach}
use Rattle.flow_world_steps.specs.Steps.Step.{begins as one_begins, moves as one_moves, expires as one_expires, puts_first as one_puts_first, resends as one_resends, replies as one_replies}
use Rattle.flow_world_steps.specs.Steps.Step.{acts_on as one_acts_on, repeats_reply as one_repeats}
use Rattle.flow_world_steps.specs.Sums.{total}
use Rattle.flow_world_steps.specs.Turns.{ComesNext as OneComesNext, HasAnswer}
use Rattle.flow_world_steps.specs.Worlds.{IsGoing, Phase, World, opened, rests, looked, owes, holds, past, refused, waits}
use Rattle.flow_world_steps.proofs.Costs.{sum_set}
use Rattle.flow_world_steps.proofs.DueLater.{next_past_now}
use Rattle.flow_world_steps.proofs.Filters.{get_set}
use Rattle.flow_world_steps.proofs.Spending.{step_spends}
use Rattle.flow_world_steps.proofs.Standing.{stopped}
use Rattle.flow_world_steps.proofs.Timely.{has_reached, in_time_bounds, in_time_of, step_in_time}
use Rattle.flow_fleet_laws.proofs.Seen.{sound-seen}
use Rattle.flow_fleet_steps.specs.Spent.{EachFleetInTime, EachFleetSpends, FleetInTime, fleet_progress, fleet_spent, spent_by}
use Rattle.flow_fleet_steps.specs.Steps.{FiltersDo, FleetStep, FleetSteps, GoesTowards, Ignores, SameSides}
use Rattle.flow_fleet_steps.specs.Steps.FleetStep.{opens_clock, finds_run_used, asks_clock, finds_late, begins, moves, expires, says, fails_to_say, puts_first, resends}
use Rattle.flow_fleet_steps.specs.Steps.FleetStep.{takes, finds_none, fails_to_take, drops, replies, ignores_reply, acts_on, repeats_reply, fails_to_act, wants_memory_now}
use Rattle.flow_fleet_steps.specs.Steps.FleetSteps.{nothing, and_then}
use Rattle.flow_fleet_steps.specs.Turns.{ComesNext, last_of}
use Rattle.flow_fleet_steps.specs.Worlds.{EachRun, FleetWorld, Own, Shared, part}

-- ---- a step comes from a fleet that goes on

going_at : (p q : Phase) → p ≡ q → IsGoing q → IsGoing p
going_at p q e going = subst IsGoing (sym e) going

pub fleet_step_going : (old new : FleetWorld) → FleetStep old new → IsGoing old.phase
fleet_step_going old new (opens_clock answer is) = going_at old.phase opened is.phase tt
fleet_step_going old new (finds_run_used place agent is) = going_at old.phase opened is.phase tt
fleet_step_going old new (asks_clock moment answer is) = going_at old.phase looked is.next.up_to_date.on_time.idle.has_looked.phase tt
fleet_step_going old new (finds_late moment is) = going_at old.phase looked is.next.up_to_date.on_time.idle.has_looked.phase tt
fleet_step_going old new (begins place is) = going_at old.phase rests is.does.does.phase tt
fleet_step_going old new (moves place is) = going_at old.phase looked is.has_looked.phase tt
fleet_step_going old new (expires place issue is) = going_at old.phase looked is.idle.has_looked.phase tt
fleet_step_going old new (says place v bytes is) = going_at old.phase owes is.speaks.phase tt
fleet_step_going old new (fails_to_say place v bytes is) = going_at old.phase owes is.speaks.phase tt
fleet_step_going old new (puts_first place issue is) = going_at old.phase rests is.does.does.phase tt
fleet_step_going old new (resends place issue is) = going_at old.phase looked is.on_time.idle.has_looked.phase tt
fleet_step_going old new (takes parcel is) = going_at old.phase rests is.turn.phase tt
fleet_step_going old new (finds_none is) = going_at old.phase rests is.turn.phase tt
fleet_step_going old new (fails_to_take is) = going_at old.phase rests is.turn.phase tt
fleet_step_going old new (drops beat parcel is) = going_at old.phase (holds beat parcel) is.phase tt
fleet_step_going old new (replies beat parcel place is) = going_at old.phase (holds beat parcel) is.does.does.holds_reply.phase tt
fleet_step_going old new (ignores_reply beat parcel is) = going_at old.phase (holds beat parcel) is.holds_reply.phase tt
fleet_step_going old new (acts_on beat parcel v w is) = going_at old.phase (holds beat parcel) is.does.holds_command.phase tt
fleet_step_going old new (repeats_reply beat parcel v w is) = going_at old.phase (holds beat parcel) is.does.holds_command.phase tt
fleet_step_going old new (fails_to_act beat parcel v w error cause is) = going_at old.phase (holds beat parcel) is.does.holds_command.phase tt
fleet_step_going old new (wants_memory_now is) = is.going

-- ---- in time

last_most : (engines : List EngineView) (k : ℕ) (v : EngineView) → slice_get engines k ≡ Some v → v.history.seen.moment ≤ last_of engines
last_most [] k v there = absurd (cc)
last_most (x ∷ engines) zero v there = let same = ap (λ (y : EngineView). y.history.seen.moment) (same_some there) in omega (arith, same)
last_most (x ∷ engines) (suc k) v there = let rest = last_most engines k v there in omega (arith, rest)

-- engines that stay, at a moment that is no earlier
in_time_same : (old new : FleetWorld) → new.engines ≡ old.engines → new.site.clock.now ≡ old.site.clock.now → EachRun old.engines (λ place v. is_in_time v.history.seen old.site.clock.now ≡ true)
    → EachRun new.engines (λ place v. is_in_time v.history.seen new.site.clock.now ≡ true)
in_time_same old new engines now was =
    subst (λ (l : List EngineView). EachRun l (λ place v. is_in_time v.history.seen new.site.clock.now ≡ true)) (sym engines)
    (λ k v there. subst (λ (n : ℕ). is_in_time v.history.seen n ≡ true) (sym now) (was k v there))

in_time_reached : (moment answer : ℕ) (old new : FleetWorld) → GoesTowards moment answer old new → IsGoing new.phase → ((k : ℕ) (v : EngineView) → slice_get old.engines k ≡ Some v → v.history.seen.moment ≤ answer)
    → EachRun new.engines (λ place v. is_in_time v.history.seen new.site.clock.now ≡ true)
in_time_reached moment answer old new is g later =
    let reached = has_reached moment answer (subst IsGoing is.phase g) in
    subst (λ (l : List EngineView). EachRun l (λ place v. is_in_time v.history.seen new.site.clock.now ≡ true)) (sym is.sides.engines)
    (λ k v there. subst (λ (n : ℕ). is_in_time v.history.seen n ≡ true) (sym is.reaches.now) (in_time_of v.history.seen answer (later k v there) reached.within))

tried_now : (IsNext : Record → Type 0) (old new : World) → Tries IsNext old new → IsGoing new.phase → new.site.clock.now ≡ old.site.clock.now
tried_now IsNext old new (done is) g = ap (λ (c : ClockView). c.now) is.appends.adds.offers.file.rest.clock
tried_now IsNext old new (failed is) g = stopped _ new.phase _ _ is.phase g
tried_now IsNext old new (limited what is) g = stopped _ new.phase _ _ is.phase g

tried_fresh : (IsNext : Record → Type 0) (old new : World) → Tries IsNext old new → IsGoing new.phase → new.phase ≢ opened
tried_fresh IsNext old new (done is) g = λ e. absurd (owes_opened (sym is.phase ∙ e))
  where
    owes_opened : owes ≡ opened → ⊥
    owes_opened e = cc
tried_fresh IsNext old new (failed is) g = stopped _ new.phase _ _ is.phase g
tried_fresh IsNext old new (limited what is) g = stopped _ new.phase _ _ is.phase g

module _ (old new : FleetWorld) (at : ℕ) (v w : EngineView) (own : Own) (there : slice_get old.engines at ≡ Some v) (set : new.engines ≡ slice_set old.engines at w)
    (step : Step (part at v (old.own at) old) (part at w own new)) (was : EachRun old.engines (λ place v. is_in_time v.history.seen old.site.clock.now ≡ true)) (g : IsGoing new.phase) where
  does_in_time : new.phase ≢ opened → new.site.clock.now ≡ old.site.clock.now → EachRun new.engines (λ place v. is_in_time v.history.seen new.site.clock.now ≡ true)
  does_in_time fresh now =
      subst (λ (l : List EngineView). EachRun l (λ place v. is_in_time v.history.seen new.site.clock.now ≡ true)) (sym set)
      (λ k x here. elim (get_set old.engines at k w x here) [
        | inl is ↦ subst (λ (y : EngineView). is_in_time y.history.seen new.site.clock.now ≡ true) is.1
            (step_in_time (part at v (old.own at) old) (part at w own new) (λ g o. was at v there) step g fresh)
        | inr other ↦ subst (λ (n : ℕ). is_in_time x.history.seen n ≡ true) (sym now) (was k x other.1)
      ])

  -- the run's own progress is the fleet's
  does_spend : AcceptedIsRunnable → (old.phase ≡ looked → AllPut v) → fleet_progress old < fleet_progress new
  does_spend runnable all =
      let less = step_spends runnable (part at v (old.own at) old) (part at w own new) (λ g o. was at v there) all step g in
      let sums = ap (λ (l : List EngineView). total spent_by l) set in
      let one = sum_set spent_by old.engines at v w there in
      omega (arith, less, sums, one)

not_opened : (old : FleetWorld) (p : Phase) → old.phase ≡ p → p ≢ opened → old.phase ≢ opened
not_opened old p e ne f = ne (sym e ∙ f)

rests_not : rests ≢ opened
rests_not e = cc

looked_not : looked ≢ opened
looked_not e = cc

owes_not : owes ≢ opened
owes_not e = cc

holds_not : (beat : ℕ) (parcel : Parcel) → holds beat parcel ≢ opened
holds_not beat parcel e = cc

not_looked : (p q : Phase) (P : Type 0) → p ≡ q → q ≢ looked → p ≡ looked → P
not_looked p q P e ne f = absurd (ne (sym e ∙ f))

rests_looked : rests ≢ looked
rests_looked e = cc

holds_looked : (beat : ℕ) (parcel : Parcel) → holds beat parcel ≢ looked
holds_looked beat parcel e = cc

-- ---- the moment that comes next is past the present one

no_answer : (w : World) → w.notes.answers ≡ [] → (issue : ℕ) (told : OperatorAnswer) → HasAnswer w issue told → ⊥
no_answer w none issue told has = none_found (subst (λ (l : List OperatorAnswer). find (λ t. t.issue == issue) l ≡ Some told) none has.first)
  where
    none_found : find (λ (t : OperatorAnswer). t.issue == issue) [] ≡ Some told → ⊥
    none_found e = cc

-- the moment of the next resend, however it was found, has not come
later_of : (now : ℕ) (puts : OpenIssues) (a b : Option (ℕ × ℕ)) → IsNextPut puts a → IsNextPut puts b → IfSome a (λ next. now < next.0) → IfSome b (λ next. now < next.0)
later_of now puts a None x y later = tt
later_of now puts None (Some n) x y later = absurd (none-some n.0 (sym (x n.1 y.0.0 y.0.1) ∙ y.0.2))
later_of now puts (Some m) (Some n) x y later = elim (x.1 n.1 n.0 y.0.0 y.0.1 y.0.2) [
  | inl less ↦ omega (arith, less, later)
  | inr same ↦ omega (arith, same.0, later)
]

-- as the run whose moment it is sees it
comes_next : (w : FleetWorld) (moment : ℕ) (next : ComesNext w moment) → OneComesNext (part next.next.place next.next.v (w.own next.next.place) w) moment
comes_next w moment next =
    let one = next.next in
    let on_time = next.up_to_date.on_time in
    let idle = on_time.idle in
    let at = idle.has_looked in
    let of = one.of_one in
    record {
      up_to_date = record {
        on_time = record {
          untold = record {
            idle = record {
              has_looked = record { phase = at.phase; sound = sound-seen one.place w.site at.sound; up = (at.settled one.place one.v one.there).up; budget = at.budget };
              no_move = idle.none one.place one.v one.there;
            };
            none = no_answer (part one.place one.v (w.own one.place) w) refl;
          };
          none = on_time.none one.place one.v one.there;
        };
        resend = of.resend;
        next = of.next;
        later = let no = next.up_to_date.none one.place one.v one.there in later_of w.site.clock.now one.v.puts no.resend of.resend no.next of.next no.later;
      };
      at = of.at;
      due_is = of.due_is;
      is = of.is;
    }

past_now : AcceptedIsRunnable → (w : FleetWorld) (moment : ℕ) → EachRun w.engines (λ place v. is_in_time v.history.seen w.site.clock.now ≡ true) → ComesNext w moment → w.site.clock.now < moment
past_now runnable w moment timely next =
    let one = next.next in
    let at = next.up_to_date.on_time.idle.has_looked in
    next_past_now runnable (part one.place one.v (w.own one.place) w) moment (λ g o. timely one.place one.v one.there) (λ e. (at.settled one.place one.v one.there).put) (comes_next w moment next)

-- ---- one step

-- no engine and no filter did anything, and so much more was ignored
same_sides : (old new : FleetWorld) → SameSides old new → new.notes.ignored ≡ old.notes.ignored → (n : ℕ) → old.site.clock.now + n ≤ new.site.clock.now → fleet_spent old + n ≤ fleet_spent new
same_sides old new sides ignored n later =
    let engines = ap (λ (l : List EngineView). total spent_by l) sides.engines in
    let acts = ap all_acts sides.filters in
    omega (arith, engines, acts, ignored, later)

-- a later place of the turn
further : (old new : FleetWorld) (p q : Phase) → old.phase ≡ p → new.phase ≡ q → fleet_spent old + 0 ≤ fleet_spent new → place p < place q → fleet_progress old < fleet_progress new
further old new p q was is no_less lt = omega (arith, ap place was, ap place is, no_less, lt)

same_notes : (old new : FleetWorld) → new.notes ≡ old.notes → new.notes.ignored ≡ old.notes.ignored
same_notes old new e = ap (λ (n : Shared). n.ignored) e

-- a parcel that changed nothing
one_ignored : (old new : FleetWorld) (beat : ℕ) (parcel : Parcel) → old.phase ≡ holds beat parcel → Ignores old new → new.site ≡ old.site → fleet_progress old < fleet_progress new
one_ignored old new beat parcel was is same =
    let engines = ap (λ (l : List EngineView). total spent_by l) is.sides.engines in
    let acts = ap all_acts is.sides.filters in
    let one = ap (λ (n : Shared). n.ignored) is.notes in
    let now = ap (λ (s : SiteView). s.clock.now) same in
    omega (arith, engines, acts, one, now, ap place was, ap place is.phase)

-- a filter, as the run at place 0 sees it
filter_spends : AcceptedIsRunnable → (Kind : World → World → Type 0) (old new : FleetWorld) (is : FiltersDo Kind old new) → (Kind (part 0 is.v (old.own 0) old) (part 0 is.v (old.own 0) new)
    → Step (part 0 is.v (old.own 0) old) (part 0 is.v (old.own 0) new)) → EachRun old.engines (λ place v. is_in_time v.history.seen old.site.clock.now ≡ true) → (old.phase ≡ looked → AllPut is.v) → IsGoing new.phase
    → fleet_progress old < fleet_progress new
filter_spends runnable Kind old new is step timely all g =
    let less = step_spends runnable (part 0 is.v (old.own 0) old) (part 0 is.v (old.own 0) new) (λ h o. timely 0 is.v is.there) all (step is.does) g in
    let engines = ap (λ (l : List EngineView). total spent_by l) is.engines in
    omega (arith, less, engines)

going_rests : (moment answer : ℕ) → IsGoing (after_reach moment answer) → place (after_reach moment answer) ≡ 1
going_rests moment answer = by (nat_lt last_moment answer) (nat_lt answer moment)
  where
    by : (a b : Bool) → IsGoing (if a then refused (past limit.Moment) false else if b then waits moment else rests) → place (if a then refused (past limit.Moment) false else if b then waits moment else rests) ≡ 1
    by true b g = absurd g
    by false true g = absurd g
    by false false g = refl

-- what is known of a world where a step begins
abbrev Timely : FleetWorld → Type 0
Timely w = w.phase ≢ opened → EachRun w.engines (λ place v. is_in_time v.history.seen w.site.clock.now ≡ true)

fleet_step_spends : AcceptedIsRunnable → (old new : FleetWorld) → Timely old → FleetStep old new → IsGoing new.phase → fleet_progress old < fleet_progress new
fleet_step_spends runnable old new timely (opens_clock answer is) g =
    let at = ap place is.goes.phase ∙ going_rests (last_of old.engines) answer (subst IsGoing is.goes.phase g) in
    let reaches = is.goes.reaches in
    let more = same_sides old new is.goes.sides (ap (λ (n : Shared). n.ignored) is.goes.notes) 0 (let later = reaches.later in let now = reaches.now in omega (arith, later, now)) in
    omega (arith, more, at, ap place is.phase)
fleet_step_spends runnable old new timely (finds_run_used place agent is) g = stopped _ new.phase _ _ is.only.phase g
fleet_step_spends runnable old new timely (asks_clock moment answer is) g =
    let at = is.next.up_to_date.on_time.idle.has_looked.phase in
    let far = (has_reached moment answer (subst IsGoing is.goes.phase g)).reached in
    let past = past_now runnable old moment (timely (not_opened old looked at looked_not)) is.next in
    let now = is.goes.reaches.now in
    let more = same_sides old new is.goes.sides (ap (λ (n : Shared). n.ignored) is.goes.notes) 1 (omega (arith, far, past, now)) in
    omega (arith, more, ap place at)
fleet_step_spends runnable old new timely (finds_late moment is) g = stopped _ new.phase _ _ is.only.phase g
fleet_step_spends runnable old new timely (begins at is) g =
    let d = is.does in
    does_spend old new at d.v d.w d.own d.there d.engines (one_begins d.does) (timely (not_opened old rests d.does.phase rests_not)) g runnable (not_looked old.phase rests _ d.does.phase rests_looked)
fleet_step_spends runnable old new timely (moves at is) g =
    let d = is.does in
    does_spend old new at d.v d.w d.own d.there d.engines (one_moves d.does) (timely (not_opened old looked is.has_looked.phase looked_not)) g runnable (λ e. (is.has_looked.settled at d.v d.there).put)
fleet_step_spends runnable old new timely (expires at issue is) g =
    let d = is.does in
    let looks = is.idle.has_looked in
    does_spend old new at d.v d.w d.own d.there d.engines (one_expires issue d.does) (timely (not_opened old looked looks.phase looked_not)) g runnable (λ e. (looks.settled at d.v d.there).put)
fleet_step_spends runnable old new timely (says at v bytes is) g =
    let speaks = is.speaks in
    let now = speaks.only.time.now in
    further old new owes rests speaks.phase is.phase (same_sides old new speaks.sides (same_notes old new speaks.notes) 0 (omega (arith, now))) (omega arith)
fleet_step_spends runnable old new timely (fails_to_say at v bytes is) g = stopped _ new.phase _ _ is.phase g
fleet_step_spends runnable old new timely (puts_first at issue is) g =
    let d = is.does in
    does_spend old new at d.v d.w d.own d.there d.engines (one_puts_first issue d.does) (timely (not_opened old rests d.does.phase rests_not)) g runnable (not_looked old.phase rests _ d.does.phase rests_looked)
fleet_step_spends runnable old new timely (resends at issue is) g =
    let d = is.does in
    let looks = is.on_time.idle.has_looked in
    does_spend old new at d.v d.w d.own d.there d.engines (one_resends issue d.does) (timely (not_opened old looked looks.phase looked_not)) g runnable (λ e. (looks.settled at d.v d.there).put)
fleet_step_spends runnable old new timely (takes parcel is) g =
    let now = is.only.time.now in
    further old new rests (holds new.site.disk.beat parcel) is.turn.phase is.phase (same_sides old new is.sides (same_notes old new is.notes) 0 (omega (arith, now))) (omega arith)
fleet_step_spends runnable old new timely (finds_none is) g =
    let now = is.only.time.now in
    further old new rests looked is.turn.phase is.phase (same_sides old new is.sides (same_notes old new is.notes) 0 (omega (arith, now))) (omega arith)
fleet_step_spends runnable old new timely (fails_to_take is) g = stopped _ new.phase _ _ is.phase g
fleet_step_spends runnable old new timely (drops beat parcel is) g = one_ignored old new beat parcel is.phase is.ignores is.site
fleet_step_spends runnable old new timely (replies beat parcel at is) g =
    let d = is.does in
    let phase = d.does.holds_reply.phase in
    does_spend old new at d.v d.w d.own d.there d.engines (one_replies beat parcel d.does) (timely (not_opened old (holds beat parcel) phase (holds_not beat parcel))) g runnable
    (not_looked old.phase (holds beat parcel) _ phase (holds_looked beat parcel))
fleet_step_spends runnable old new timely (ignores_reply beat parcel is) g = one_ignored old new beat parcel is.holds_reply.phase is.ignores is.site
fleet_step_spends runnable old new timely (acts_on beat parcel v w is) g =
    let phase = is.does.holds_command.phase in
    filter_spends runnable _ old new is (one_acts_on beat parcel v w) (timely (not_opened old (holds beat parcel) phase (holds_not beat parcel))) (not_looked old.phase (holds beat parcel) _ phase (holds_looked beat parcel)) g
fleet_step_spends runnable old new timely (repeats_reply beat parcel v w is) g =
    let phase = is.does.holds_command.phase in
    filter_spends runnable _ old new is (one_repeats beat parcel v w) (timely (not_opened old (holds beat parcel) phase (holds_not beat parcel))) (not_looked old.phase (holds beat parcel) _ phase (holds_looked beat parcel)) g
fleet_step_spends runnable old new timely (fails_to_act beat parcel v w error cause is) g = stopped _ new.phase _ _ is.does.phase g
fleet_step_spends runnable old new timely (wants_memory_now is) g = stopped _ new.phase _ _ is.only.phase g

-- ---- in time, step by step

fleet_step_in_time : (old new : FleetWorld) → Timely old → FleetStep old new → IsGoing new.phase → EachRun new.engines (λ place v. is_in_time v.history.seen new.site.clock.now ≡ true)
fleet_step_in_time old new timely (opens_clock answer is) g = in_time_reached _ answer old new is.goes g
    (λ k v there. let far = (has_reached (last_of old.engines) answer (subst IsGoing is.goes.phase g)).reached in omega (arith, far, last_most old.engines k v there))
fleet_step_in_time old new timely (finds_run_used place agent is) g = stopped _ new.phase _ _ is.only.phase g
fleet_step_in_time old new timely (asks_clock moment answer is) g =
    let was = timely (not_opened old looked is.next.up_to_date.on_time.idle.has_looked.phase looked_not) in
    in_time_reached moment answer old new is.goes g (λ k v there.
    let later = is.goes.reaches.later in
    let before = (in_time_bounds v.history.seen old.site.clock.now (was k v there)).0 in
    omega (arith, later, before))
fleet_step_in_time old new timely (finds_late moment is) g = stopped _ new.phase _ _ is.only.phase g
fleet_step_in_time old new timely (begins at is) g =
    let d = is.does in
    does_in_time old new at d.v d.w d.own d.there d.engines (one_begins d.does) (timely (not_opened old rests d.does.phase rests_not)) g (tried_fresh _ _ _ d.does.tries g) (tried_now _ _ _ d.does.tries g)
fleet_step_in_time old new timely (moves at is) g =
    let d = is.does in
    does_in_time old new at d.v d.w d.own d.there d.engines (one_moves d.does) (timely (not_opened old looked is.has_looked.phase looked_not)) g (tried_fresh _ _ _ d.does.tries g) (tried_now _ _ _ d.does.tries g)
fleet_step_in_time old new timely (expires at issue is) g =
    let d = is.does in
    does_in_time old new at d.v d.w d.own d.there d.engines (one_expires issue d.does) (timely (not_opened old looked is.idle.has_looked.phase looked_not)) g (tried_fresh _ _ _ d.does.tries g) (tried_now _ _ _ d.does.tries g)
fleet_step_in_time old new timely (says at v bytes is) g = in_time_same old new is.speaks.sides.engines is.speaks.only.time.now (timely (not_opened old owes is.speaks.phase owes_not))
fleet_step_in_time old new timely (fails_to_say at v bytes is) g = stopped _ new.phase _ _ is.phase g
fleet_step_in_time old new timely (puts_first at issue is) g =
    let d = is.does in
    does_in_time old new at d.v d.w d.own d.there d.engines (one_puts_first issue d.does) (timely (not_opened old rests d.does.phase rests_not)) g (not_opened new rests d.does.puts.phase rests_not) d.does.puts.sends.put.time.now
fleet_step_in_time old new timely (resends at issue is) g =
    let d = is.does in
    does_in_time old new at d.v d.w d.own d.there d.engines (one_resends issue d.does) (timely (not_opened old looked is.on_time.idle.has_looked.phase looked_not)) g
    (not_opened new rests d.does.puts.phase rests_not) d.does.puts.sends.put.time.now
fleet_step_in_time old new timely (takes parcel is) g = in_time_same old new is.sides.engines is.only.time.now (timely (not_opened old rests is.turn.phase rests_not))
fleet_step_in_time old new timely (finds_none is) g = in_time_same old new is.sides.engines is.only.time.now (timely (not_opened old rests is.turn.phase rests_not))
fleet_step_in_time old new timely (fails_to_take is) g = stopped _ new.phase _ _ is.phase g
fleet_step_in_time old new timely (drops beat parcel is) g =
    in_time_same old new is.ignores.sides.engines (ap (λ (s : SiteView). s.clock.now) is.site) (timely (not_opened old (holds beat parcel) is.phase (holds_not beat parcel)))
fleet_step_in_time old new timely (replies beat parcel at is) g =
    let d = is.does in
    does_in_time old new at d.v d.w d.own d.there d.engines (one_replies beat parcel d.does) (timely (not_opened old (holds beat parcel) d.does.holds_reply.phase (holds_not beat parcel))) g
    (tried_fresh _ _ _ d.does.tries g) (tried_now _ _ _ d.does.tries g)
fleet_step_in_time old new timely (ignores_reply beat parcel is) g =
    in_time_same old new is.ignores.sides.engines (ap (λ (s : SiteView). s.clock.now) is.site) (timely (not_opened old (holds beat parcel) is.holds_reply.phase (holds_not beat parcel)))
fleet_step_in_time old new timely (acts_on beat parcel v w is) g =
    let acts = is.does.acts in
    in_time_same old new is.engines (acts.puts.time.now ∙ ap (λ (c : ClockView). c.now) acts.offers.adds.file.rest.clock)
    (timely (not_opened old (holds beat parcel) is.does.holds_command.phase (holds_not beat parcel)))
fleet_step_in_time old new timely (repeats_reply beat parcel v w is) g =
    in_time_same old new is.engines is.does.repeats.puts.time.now (timely (not_opened old (holds beat parcel) is.does.holds_command.phase (holds_not beat parcel)))
fleet_step_in_time old new timely (fails_to_act beat parcel v w error cause is) g = stopped _ new.phase _ _ is.does.phase g
fleet_step_in_time old new timely (wants_memory_now is) g = stopped _ new.phase _ _ is.only.phase g

pub fleet_steps_in_time : EachFleetInTime
fleet_steps_in_time a b timely nothing g fresh = timely g fresh
fleet_steps_in_time a b timely (and_then {mid} steps step) g fresh =
    fleet_step_in_time mid b (λ o. fleet_steps_in_time a mid timely steps (fleet_step_going mid b step) o) step g

pub fleet_steps_spend : AcceptedIsRunnable → EachFleetSpends
fleet_steps_spend runnable a b timely nothing g = omega arith
fleet_steps_spend runnable a b timely (and_then {mid} steps step) g =
    let so_far = fleet_steps_spend runnable a mid timely steps (fleet_step_going mid b step) in
    let last = fleet_step_spends runnable mid b (λ o. fleet_steps_in_time a mid timely steps (fleet_step_going mid b step) o) step g in
    omega (arith, so_far, last)

-- So more is spent where a later world stands at an earlier place of its turn, as from a take to the next turn.
pub fleet_turn_spends : AcceptedIsRunnable → (a b : FleetWorld) → FleetInTime a → FleetSteps a b → IsGoing b.phase → place b.phase < place a.phase → fleet_spent a < fleet_spent b
fleet_turn_spends runnable a b timely steps g lt = omega (arith, fleet_steps_spend runnable a b timely steps g, lt)
