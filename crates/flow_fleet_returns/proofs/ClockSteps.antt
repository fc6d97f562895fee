-- Where the clock of a fleet stands, call by call.
use Rattle.std.proofs.Common.{◌≡◌, inl, inr, ℕ, ◌<◌, ◌≤◌, Bool, true, false, refl, sym, ◌∙◌, subst, ap, arith}
use Rattle.std.specs.Prelude.{nat_lt, if◌then◌else◌, ⊤}
use Rattle.cacao_site.specs.SayCalls.{KeepsTime}
use Rattle.cacao_site.specs.View.{ClockView, SiteView}
use Rattle.cacao_site.specs.declared.parcel.Parcel.{Parcel}
use Rattle.run_records.specs.Ranges.{last_moment}
use Rattle.run_records.specs.declared.record.Record.{Record}
use Rattle.flow_core.specs.declared.flow_errors.LimitKind.TheVariants as limit
use Rattle.flow_world_steps.specs.Appends.{Tries}
use Rattle.flow_world_steps.specs.Appends.Tries.{done, failed, limited}
use Rattle.flow_world_steps.specs.Steps.{after_reach}
use Rattle.flow_world_steps.specs.Worlds.{Phase, World, holds, looked, opened, owes, past, refused, rests, waits}
use Rattle.flow_fleet_steps.specs.Closes.{IsFleetClose, IsPaused}
use Rattle.flow_fleet_steps.specs.Steps.{FleetStep, FleetSteps, GoesTowards}
use Rattle.flow_fleet_steps.specs.Steps.FleetStep.{opens_clock, finds_run_used, asks_clock, finds_late, begins, moves, expires, says, fails_to_say, puts_first, resends}
use Rattle.flow_fleet_steps.specs.Steps.FleetStep.{takes, finds_none, fails_to_take, drops, replies, ignores_reply, acts_on, repeats_reply, fails_to_act, wants_memory_now}
use Rattle.flow_fleet_steps.specs.Steps.FleetSteps.{nothing, and_then}
use Rattle.flow_fleet_steps.specs.Worlds.{FleetWorld}
use Rattle.flow_fleet_steps.specs.declared.close.FleetClose.{FleetClose}
use Rattle.flow_fleet_steps.specs.declared.close.FleetClose.TheVariants as close
use Rattle.flow_fleet_returns.specs.Causes.{IsShortOf, StandsAsClosed}

-- before the opening, and behind a refusal, nothing is said of it
abbrev StandsBy : Phase → ClockView → Type 0
StandsBy opened clock = ⊤
StandsBy (waits due) clock = IsShortOf due clock
StandsBy (refused cause lacks) clock = ⊤
StandsBy other clock = clock.asked ≤ clock.now

stands_as : (p q : Phase) (clock : ClockView) → p ≡ q → StandsBy q clock → StandsBy p clock
stands_as p q clock e is = subst (λ (x : Phase). StandsBy x clock) (sym e) is

stood_as : (p q : Phase) (clock : ClockView) → p ≡ q → StandsBy p clock → StandsBy q clock
stood_as p q clock e is = subst (λ (x : Phase). StandsBy x clock) e is

-- ---- time went on

less_of : (a b : ℕ) → nat_lt a b ≡ true → a < b
less_of a b e = grind (arith, e)

least_of : (a b : ℕ) → nat_lt a b ≡ false → b ≤ a
least_of a b e = grind (arith, e)

reached : (moment answer : ℕ) (clock : ClockView) → clock.asked ≡ moment → clock.now ≡ answer → StandsBy (after_reach moment answer) clock
reached moment answer clock asked now = by (nat_lt last_moment answer) (nat_lt answer moment) refl
  where
    by : (a b : Bool) → nat_lt answer moment ≡ b → StandsBy (if a then refused (past limit.Moment) false else if b then waits moment else rests) clock
    by true b e = tt
    by false true e = record { asked = asked; short = let less = less_of answer moment e in omega (arith, now, less) }
    by false false e = let least = least_of answer moment e in omega (arith, asked, now, least)

towards : (moment answer : ℕ) (old new : FleetWorld) → GoesTowards moment answer old new → StandsBy new.phase new.site.clock
towards moment answer old new is = stands_as new.phase (after_reach moment answer) new.site.clock is.phase
    (reached moment answer new.site.clock is.reaches.asked is.reaches.now)

-- ---- time stood still

same_time : (old new : ClockView) → KeepsTime old new → old.asked ≤ old.now → new.asked ≤ new.now
same_time old new is le = let asked = is.asked in let now = is.now in omega (arith, asked, now, le)

same_clock : (old new : ClockView) → new ≡ old → old.asked ≤ old.now → new.asked ≤ new.now
same_clock old new e le = subst (λ (c : ClockView). c.asked ≤ c.now) (sym e) le

same_site : (old new : SiteView) → new ≡ old → old.clock.asked ≤ old.clock.now → new.clock.asked ≤ new.clock.now
same_site old new e le = subst (λ (s : SiteView). s.clock.asked ≤ s.clock.now) (sym e) le

tried : (IsNext : Record → Type 0) (old new : World) → Tries IsNext old new → old.site.clock.asked ≤ old.site.clock.now → StandsBy new.phase new.site.clock
tried IsNext old new (done is) le = stands_as new.phase owes new.site.clock is.phase (same_clock old.site.clock new.site.clock is.appends.adds.offers.file.rest.clock le)
tried IsNext old new (failed is) le = stands_as new.phase (refused _ false) new.site.clock is.phase tt
tried IsNext old new (limited what is) le = stands_as new.phase (refused _ false) new.site.clock is.phase tt

step_stands : (old new : FleetWorld) → StandsBy old.phase old.site.clock → FleetStep old new → StandsBy new.phase new.site.clock
step_stands old new was (opens_clock answer is) = towards _ answer old new is.goes
step_stands old new was (finds_run_used place agent is) = stands_as new.phase (refused _ false) new.site.clock is.only.phase tt
step_stands old new was (asks_clock moment answer is) = towards moment answer old new is.goes
step_stands old new was (finds_late moment is) = stands_as new.phase (refused _ false) new.site.clock is.only.phase tt
step_stands old new was (begins place is) = tried _ _ _ is.does.does.tries (stood_as old.phase rests old.site.clock is.does.does.phase was)
step_stands old new was (moves place is) = tried _ _ _ is.does.does.tries (stood_as old.phase looked old.site.clock is.has_looked.phase was)
step_stands old new was (expires place issue is) = tried _ _ _ is.does.does.tries (stood_as old.phase looked old.site.clock is.idle.has_looked.phase was)
step_stands old new was (says place v bytes is) = stands_as new.phase rests new.site.clock is.phase
    (same_time old.site.clock new.site.clock is.speaks.only.time (stood_as old.phase owes old.site.clock is.speaks.phase was))
step_stands old new was (fails_to_say place v bytes is) = stands_as new.phase (refused _ true) new.site.clock is.phase tt
step_stands old new was (puts_first place issue is) = stands_as new.phase rests new.site.clock is.does.does.puts.phase
    (same_time old.site.clock new.site.clock is.does.does.puts.sends.put.time (stood_as old.phase rests old.site.clock is.does.does.phase was))
step_stands old new was (resends place issue is) = stands_as new.phase rests new.site.clock is.does.does.puts.phase
    (same_time old.site.clock new.site.clock is.does.does.puts.sends.put.time (stood_as old.phase looked old.site.clock is.on_time.idle.has_looked.phase was))
step_stands old new was (takes parcel is) = stands_as new.phase (holds new.site.disk.beat parcel) new.site.clock is.phase
    (same_time old.site.clock new.site.clock is.only.time (stood_as old.phase rests old.site.clock is.turn.phase was))
step_stands old new was (finds_none is) = stands_as new.phase looked new.site.clock is.phase
    (same_time old.site.clock new.site.clock is.only.time (stood_as old.phase rests old.site.clock is.turn.phase was))
step_stands old new was (fails_to_take is) = stands_as new.phase (refused _ false) new.site.clock is.phase tt
step_stands old new was (drops beat parcel is) = stands_as new.phase rests new.site.clock is.ignores.phase
    (same_site old.site new.site is.site (stood_as old.phase (holds beat parcel) old.site.clock is.phase was))
step_stands old new was (replies beat parcel place is) = tried _ _ _ is.does.does.tries (stood_as old.phase (holds beat parcel) old.site.clock is.does.does.holds_reply.phase was)
step_stands old new was (ignores_reply beat parcel is) = stands_as new.phase rests new.site.clock is.ignores.phase
    (same_site old.site new.site is.site (stood_as old.phase (holds beat parcel) old.site.clock is.holds_reply.phase was))
step_stands old new was (acts_on beat parcel v w is) = stands_as new.phase rests new.site.clock is.does.phase
    (same_time is.does.acts.between.clock new.site.clock is.does.acts.puts.time
    (same_clock old.site.clock is.does.acts.between.clock is.does.acts.offers.adds.file.rest.clock (stood_as old.phase (holds beat parcel) old.site.clock is.does.holds_command.phase was)))
step_stands old new was (repeats_reply beat parcel v w is) = stands_as new.phase rests new.site.clock is.does.ignores.phase
    (same_time old.site.clock new.site.clock is.does.repeats.puts.time (stood_as old.phase (holds beat parcel) old.site.clock is.does.holds_command.phase was))
step_stands old new was (fails_to_act beat parcel v w error cause is) = stands_as new.phase (refused cause false) new.site.clock is.does.phase tt
step_stands old new was (wants_memory_now is) = stands_as new.phase (refused _ _) new.site.clock is.only.phase tt

pub steps_stand : (a b : FleetWorld) → a.phase ≡ opened → FleetSteps a b → StandsBy b.phase b.site.clock
steps_stand a b first nothing = stands_as a.phase opened a.site.clock first tt
steps_stand a b first (and_then {mid} steps step) = step_stands mid b (steps_stand a mid first steps) step

-- ---- a close

pub paused_rests : (w : FleetWorld) → IsPaused w → w.phase ≡ rests
paused_rests w is = elim is.more [ inl begin ↦ begin.phase | inr goes_on ↦ goes_on.turn.phase ]

pub close_stands : (how : FleetClose) (w : FleetWorld) → IsFleetClose how w → StandsBy w.phase w.site.clock → StandsAsClosed how w.site.clock
close_stands (close.Ended first) w is stands = stood_as w.phase rests w.site.clock is.turn.phase stands
close_stands close.Paused w is stands = stood_as w.phase rests w.site.clock (paused_rests w is) stands
close_stands (close.Waiting due) w is stands = stood_as w.phase (waits due) w.site.clock is stands
close_stands close.Flooded w is stands = stood_as w.phase rests w.site.clock is.phase stands
close_stands (close.Asked run issue) w is stands = stood_as w.phase looked w.site.clock is.idle.has_looked.phase stands
