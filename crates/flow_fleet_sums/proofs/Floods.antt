-- A fleet is flooded exactly where so many parcels changed no journal.
use Rattle.std.proofs.Common.{◌≡◌, inl, inr, ℕ, ◌<◌, Bool, refl, sym, ◌∙◌, subst, ap, arith}
use Rattle.cacao_site.specs.declared.parcel.Parcel.{Parcel}
use Rattle.run_records.specs.declared.record.Record.{Record}
use Rattle.flow_world_steps.specs.Appends.{Tries}
use Rattle.flow_world_steps.specs.Appends.Tries.{done, failed, limited}
use Rattle.flow_world_steps.specs.Turns.{most_ignored}
use Rattle.flow_world_steps.specs.Worlds.{Cause, Phase, World, holds, looked, opened, owes, refused, rests, waits}
use Rattle.flow_fleet_steps.specs.Closes.{IsFleetClose}
use Rattle.flow_fleet_steps.specs.Openings.{IsFleetOpened, Runs}
use Rattle.flow_fleet_steps.specs.Steps.{FleetStep, FleetSteps, GoesTowards}
use Rattle.flow_fleet_steps.specs.Steps.FleetStep.{opens_clock, finds_run_used, asks_clock, finds_late, begins, moves, expires, says, fails_to_say, puts_first, resends}
use Rattle.flow_fleet_steps.specs.Steps.FleetStep.{takes, finds_none, fails_to_take, drops, replies, ignores_reply, acts_on, repeats_reply, fails_to_act, wants_memory_now}
use Rattle.flow_fleet_steps.specs.Steps.FleetSteps.{nothing, and_then}
use Rattle.flow_fleet_steps.specs.Worlds.{FleetWorld, Shared}
use Rattle.flow_fleet_steps.specs.declared.close.FleetClose.{FleetClose}
use Rattle.flow_fleet_steps.specs.declared.close.FleetClose.TheVariants as close
use Rattle.flow_fleet_sums.specs.Ends.{EachFleetFloods}

-- where a fleet waits, has looked, or begins, not too many were ignored
record IsCalm (w : FleetWorld) : Type 0 where
  pub at_first : w.phase ≡ opened → w.notes.ignored < most_ignored
  pub at_look : w.phase ≡ looked → w.notes.ignored < most_ignored
  pub at_wait : (n : ℕ) → w.phase ≡ waits n → w.notes.ignored < most_ignored

record IsOther (p : Phase) : Type 0 where
  pub no_first : p ≡ opened → ⊥
  pub no_look : p ≡ looked → ⊥
  pub no_wait : (n : ℕ) → p ≡ waits n → ⊥

rests_other : IsOther rests
rests_other = record { no_first = λ e. cc; no_look = λ e. cc; no_wait = λ n e. cc }

owes_other : IsOther owes
owes_other = record { no_first = λ e. cc; no_look = λ e. cc; no_wait = λ n e. cc }

holds_other : (beat : ℕ) (parcel : Parcel) → IsOther (holds beat parcel)
holds_other beat parcel = record { no_first = λ e. cc; no_look = λ e. cc; no_wait = λ n e. cc }

refused_other : (cause : Cause) (lacks : Bool) → IsOther (refused cause lacks)
refused_other cause lacks = record { no_first = λ e. cc; no_look = λ e. cc; no_wait = λ n e. cc }

calm_as : (w : FleetWorld) (p : Phase) → IsOther p → w.phase ≡ p → IsCalm w
calm_as w p other is = record {
  at_first = λ e. absurd (other.no_first (sym is ∙ e));
  at_look = λ e. absurd (other.no_look (sym is ∙ e));
  at_wait = λ n e. absurd (other.no_wait n (sym is ∙ e));
}

calm_few : (w : FleetWorld) → w.notes.ignored < most_ignored → IsCalm w
calm_few w few = record { at_first = λ e. few; at_look = λ e. few; at_wait = λ n e. few }

tried_calm : (IsNext : Record → Type 0) (a b : World) (new : FleetWorld) → b.phase ≡ new.phase → Tries IsNext a b → IsCalm new
tried_calm IsNext a b new same (done is) = calm_as new owes owes_other (sym same ∙ is.phase)
tried_calm IsNext a b new same (failed is) = calm_as new _ (refused_other _ _) (sym same ∙ is.phase)
tried_calm IsNext a b new same (limited what is) = calm_as new _ (refused_other _ _) (sym same ∙ is.phase)

goes_calm : (moment answer : ℕ) (old new : FleetWorld) → GoesTowards moment answer old new → old.notes.ignored < most_ignored → IsCalm new
goes_calm moment answer old new is few = calm_few new (let same = ap (λ (n : Shared). n.ignored) is.notes in omega (arith, same, few))

step_calm : (old new : FleetWorld) → IsCalm old → FleetStep old new → IsCalm new
step_calm old new was (opens_clock answer is) = goes_calm _ answer old new is.goes (was.at_first is.phase)
step_calm old new was (asks_clock moment answer is) = goes_calm moment answer old new is.goes (was.at_look is.next.up_to_date.on_time.idle.has_looked.phase)
step_calm old new was (finds_run_used place agent is) = calm_as new _ (refused_other _ _) is.only.phase
step_calm old new was (finds_late moment is) = calm_as new _ (refused_other _ _) is.only.phase
step_calm old new was (begins place is) = tried_calm _ _ _ new refl is.does.does.tries
step_calm old new was (moves place is) = tried_calm _ _ _ new refl is.does.does.tries
step_calm old new was (expires place issue is) = tried_calm _ _ _ new refl is.does.does.tries
step_calm old new was (says place v bytes is) = calm_as new rests rests_other is.phase
step_calm old new was (fails_to_say place v bytes is) = calm_as new _ (refused_other _ _) is.phase
step_calm old new was (puts_first place issue is) = calm_as new rests rests_other is.does.does.puts.phase
step_calm old new was (resends place issue is) = calm_as new rests rests_other is.does.does.puts.phase
step_calm old new was (takes parcel is) = calm_as new _ (holds_other _ _) is.phase
step_calm old new was (finds_none is) = calm_few new (let same = ap (λ (n : Shared). n.ignored) is.notes in let calm = is.turn.calm in omega (arith, same, calm))
step_calm old new was (fails_to_take is) = calm_as new _ (refused_other _ _) is.phase
step_calm old new was (drops beat parcel is) = calm_as new rests rests_other is.ignores.phase
step_calm old new was (replies beat parcel place is) = tried_calm _ _ _ new refl is.does.does.tries
step_calm old new was (ignores_reply beat parcel is) = calm_as new rests rests_other is.ignores.phase
step_calm old new was (acts_on beat parcel v w is) = calm_as new rests rests_other is.does.phase
step_calm old new was (repeats_reply beat parcel v w is) = calm_as new rests rests_other is.does.ignores.phase
step_calm old new was (fails_to_act beat parcel v w error cause is) = calm_as new _ (refused_other _ _) is.does.phase
step_calm old new was (wants_memory_now is) = calm_as new _ (refused_other _ _) is.only.phase

steps_calm : (a b : FleetWorld) → IsCalm a → FleetSteps a b → IsCalm b
steps_calm a b was nothing = was
steps_calm a b was (and_then {mid} steps step) = step_calm mid b (steps_calm a mid was steps) step

first_calm : (a : FleetWorld) (runs : Runs) (most : ℕ) → IsFleetOpened a runs most → IsCalm a
first_calm a runs most is = calm_few a (let none : a.notes.ignored ≡ 0 = ap (λ (n : Shared). n.ignored) is.notes in omega (arith, none))

too_many : (n : ℕ) → n < most_ignored → n ≡ most_ignored → ⊥
too_many n less same = absurd (omega (arith, less, same))

flooded_so : (b : FleetWorld) → IsCalm b → (closes : FleetClose) → IsFleetClose closes b → b.notes.ignored ≡ most_ignored → closes ≡ close.Flooded
flooded_so b calm (close.Ended ill) is many = absurd (too_many b.notes.ignored is.turn.calm many)
flooded_so b calm close.Paused is many = elim is.more [ inl begin ↦ absurd (too_many b.notes.ignored begin.calm many) | inr goes ↦ absurd (too_many b.notes.ignored goes.turn.calm many) ]
flooded_so b calm (close.Waiting moment) is many = absurd (too_many b.notes.ignored (calm.at_wait moment is) many)
flooded_so b calm close.Flooded is many = refl
flooded_so b calm (close.Asked run issue) is many = absurd (too_many b.notes.ignored (calm.at_look is.idle.has_looked.phase) many)

so_flooded : (b : FleetWorld) (closes : FleetClose) → IsFleetClose closes b → closes ≡ close.Flooded → b.notes.ignored ≡ most_ignored
so_flooded b closes is same = (subst (λ (c : FleetClose). IsFleetClose c b) same is).many

pub fleets_flood : EachFleetFloods
fleets_flood a b runs most is steps closes closed = (so_flooded b closes closed, flooded_so b (steps_calm a b (first_calm a runs most is) steps) closes closed)
