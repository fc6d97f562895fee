-- How a fleet came to its end.
use Rattle.std.proofs.Common.{◌≡◌, ℕ, ◌<◌, ◌≤◌, Bool, true, false, refl, sym, ◌∙◌, subst, ap, arith}
use Rattle.std.specs.Prelude.{Some, nat_lt, if◌then◌else◌}
use Rattle.cacao_site.specs.declared.parcel.Parcel.{Parcel}
use Rattle.run_records.specs.Ranges.{last_moment}
use Rattle.run_records.specs.declared.record.Record.{Record}
use Rattle.flow_core.specs.declared.flow_errors.LimitKind.TheVariants as limit
use Rattle.flow_world_steps.specs.Appends.{Tries}
use Rattle.flow_world_steps.specs.Appends.Tries.{done, failed, limited}
use Rattle.flow_world_steps.specs.Steps.{after_reach}
use Rattle.flow_world_steps.specs.Turns.{most_ignored}
use Rattle.flow_world_steps.specs.Worlds.{Cause, IsGoing, Notes, Phase, World, holds, looked, owes, past, refused, rests, waits}
use Rattle.flow_world_steps.proofs.Failing.{fails_notes}
use Rattle.flow_fleet_steps.specs.Steps.{FleetStep, GoesTowards}
use Rattle.flow_fleet_steps.specs.Steps.FleetStep.{opens_clock, finds_run_used, asks_clock, finds_late, begins, moves, expires, says, fails_to_say, puts_first, resends}
use Rattle.flow_fleet_steps.specs.Steps.FleetStep.{takes, finds_none, fails_to_take, drops, replies, ignores_reply, acts_on, repeats_reply, fails_to_act, wants_memory_now}
use Rattle.flow_fleet_steps.specs.Steps.FleetSteps.{nothing, and_then}
use Rattle.flow_fleet_steps.specs.Worlds.{FleetWorld, Shared}
use Rattle.flow_fleet_steps.proofs.Spending.{fleet_step_going}
use Rattle.flow_fleet_sums.specs.Ends.{EachFleetEnded, EachFleetIgnores, EachFleetWaits, IsFleetShort}

pub fleets_end : EachFleetEnded
fleets_end a b going nothing none = absurd (none going)
fleets_end a b going (and_then {mid} steps step) none = record { old = mid; before = steps; going = fleet_step_going mid b step; step = step }

-- ---- where the clock fell short

no_wait : (p q : Phase) (due : ℕ) → ((n : ℕ) → q ≡ waits n → ⊥) → p ≡ q → p ≡ waits due → ⊥
no_wait p q due not e f = not due (sym e ∙ f)

refused_no : (cause : Cause) (lacks : Bool) (n : ℕ) → refused cause lacks ≡ waits n → ⊥
refused_no cause lacks n e = cc

rests_no : (n : ℕ) → rests ≡ waits n → ⊥
rests_no n e = cc

looked_no : (n : ℕ) → looked ≡ waits n → ⊥
looked_no n e = cc

owes_no : (n : ℕ) → owes ≡ waits n → ⊥
owes_no n e = cc

holds_no : (beat : ℕ) (parcel : Parcel) (n : ℕ) → holds beat parcel ≡ waits n → ⊥
holds_no beat parcel n e = cc

tried_no : (IsNext : Record → Type 0) (old new : World) (due : ℕ) → Tries IsNext old new → new.phase ≡ waits due → ⊥
tried_no IsNext old new due (done is) = no_wait new.phase owes due owes_no is.phase
tried_no IsNext old new due (failed is) = no_wait new.phase _ due (refused_no _ _) is.phase
tried_no IsNext old new due (limited what is) = no_wait new.phase _ due (refused_no _ _) is.phase

reached_short : (moment answer due : ℕ) → after_reach moment answer ≡ waits due → (moment ≡ due) × (answer < moment)
reached_short moment answer due = by (nat_lt last_moment answer) (nat_lt answer moment) refl
  where
    less_of : (a b : ℕ) → nat_lt a b ≡ true → a < b
    less_of a b e = grind (arith, e)

    one_due : (a b : ℕ) → waits a ≡ waits b → a ≡ b
    one_due a b e = cc

    by : (a b : Bool) → nat_lt answer moment ≡ b → (if a then refused (past limit.Moment) false else if b then waits moment else rests) ≡ waits due → (moment ≡ due) × (answer < moment)
    by true b e f = absurd (refused_no _ _ due f)
    by false true e f = (one_due moment due f, less_of answer moment e)
    by false false e f = absurd (rests_no due f)

goes_short : (moment answer : ℕ) (old new : FleetWorld) (due : ℕ) → GoesTowards moment answer old new → new.phase ≡ waits due → IsFleetShort new due
goes_short moment answer old new due is e =
    let short = reached_short moment answer due (sym is.phase ∙ e) in
    record {
      asked = is.reaches.asked ∙ short.0;
      own = ap (λ (n : Shared). n.asked) is.notes ∙ ap Some short.0;
      short = let now = is.reaches.now in let at = short.0 in let less = short.1 in omega (arith, now, at, less);
    }

step_waits : (old new : FleetWorld) (due : ℕ) → FleetStep old new → new.phase ≡ waits due → IsFleetShort new due
step_waits old new due (opens_clock answer is) e = goes_short _ answer old new due is.goes e
step_waits old new due (asks_clock moment answer is) e = goes_short moment answer old new due is.goes e
step_waits old new due (finds_run_used place agent is) e = absurd (no_wait new.phase _ due (refused_no _ _) is.only.phase e)
step_waits old new due (finds_late moment is) e = absurd (no_wait new.phase _ due (refused_no _ _) is.only.phase e)
step_waits old new due (begins place is) e = absurd (tried_no _ _ _ due is.does.does.tries e)
step_waits old new due (moves place is) e = absurd (tried_no _ _ _ due is.does.does.tries e)
step_waits old new due (expires place issue is) e = absurd (tried_no _ _ _ due is.does.does.tries e)
step_waits old new due (says place v bytes is) e = absurd (no_wait new.phase rests due rests_no is.phase e)
step_waits old new due (fails_to_say place v bytes is) e = absurd (no_wait new.phase _ due (refused_no _ _) is.phase e)
step_waits old new due (puts_first place issue is) e = absurd (no_wait new.phase rests due rests_no is.does.does.puts.phase e)
step_waits old new due (resends place issue is) e = absurd (no_wait new.phase rests due rests_no is.does.does.puts.phase e)
step_waits old new due (takes parcel is) e = absurd (no_wait new.phase _ due (holds_no _ _) is.phase e)
step_waits old new due (finds_none is) e = absurd (no_wait new.phase looked due looked_no is.phase e)
step_waits old new due (fails_to_take is) e = absurd (no_wait new.phase _ due (refused_no _ _) is.phase e)
step_waits old new due (drops beat parcel is) e = absurd (no_wait new.phase rests due rests_no is.ignores.phase e)
step_waits old new due (replies beat parcel place is) e = absurd (tried_no _ _ _ due is.does.does.tries e)
step_waits old new due (ignores_reply beat parcel is) e = absurd (no_wait new.phase rests due rests_no is.ignores.phase e)
step_waits old new due (acts_on beat parcel v w is) e = absurd (no_wait new.phase rests due rests_no is.does.phase e)
step_waits old new due (repeats_reply beat parcel v w is) e = absurd (no_wait new.phase rests due rests_no is.does.ignores.phase e)
step_waits old new due (fails_to_act beat parcel v w error cause is) e = absurd (no_wait new.phase _ due (refused_no _ _) is.does.phase e)
step_waits old new due (wants_memory_now is) e = absurd (no_wait new.phase _ due (refused_no _ _) is.only.phase e)

pub fleets_wait : EachFleetWaits
fleets_wait a b going nothing due e = absurd (subst IsGoing e going)
fleets_wait a b going (and_then {mid} steps step) due e = step_waits mid b due step e

-- ---- parcels that changed nothing

same_ignored : (old new : FleetWorld) → new.notes ≡ old.notes → old.notes.ignored ≤ most_ignored → new.notes.ignored ≤ most_ignored
same_ignored old new e few = let same = ap (λ (n : Shared). n.ignored) e in omega (arith, same, few)

tried_ignored : (IsNext : Record → Type 0) (old new : World) → Tries IsNext old new → new.notes.ignored ≡ old.notes.ignored
tried_ignored IsNext old new (done is) = ap (λ (n : Notes). n.ignored) is.notes
tried_ignored IsNext old new (failed is) = ap (λ (n : Notes). n.ignored) is.notes
tried_ignored IsNext old new (limited what is) = ap (λ (n : Notes). n.ignored) is.notes

few_as : (a b : ℕ) → b ≡ a → a ≤ most_ignored → b ≤ most_ignored
few_as a b e few = omega (arith, e, few)

step_ignores : (old new : FleetWorld) → FleetStep old new → old.notes.ignored ≤ most_ignored → new.notes.ignored ≤ most_ignored
step_ignores old new (opens_clock answer is) few = few_as _ _ (ap (λ (n : Shared). n.ignored) is.goes.notes) few
step_ignores old new (asks_clock moment answer is) few = few_as _ _ (ap (λ (n : Shared). n.ignored) is.goes.notes) few
step_ignores old new (finds_run_used place agent is) few = same_ignored old new is.only.notes few
step_ignores old new (finds_late moment is) few = same_ignored old new is.only.notes few
step_ignores old new (begins place is) few = few_as _ _ (tried_ignored _ _ _ is.does.does.tries) few
step_ignores old new (moves place is) few = few_as _ _ (tried_ignored _ _ _ is.does.does.tries) few
step_ignores old new (expires place issue is) few = few_as _ _ (tried_ignored _ _ _ is.does.does.tries) few
step_ignores old new (says place v bytes is) few = same_ignored old new is.speaks.notes few
step_ignores old new (fails_to_say place v bytes is) few = same_ignored old new is.speaks.notes few
step_ignores old new (puts_first place issue is) few = few_as _ _ (ap (λ (n : Notes). n.ignored) is.does.does.puts.notes) few
step_ignores old new (resends place issue is) few = few_as _ _ (ap (λ (n : Notes). n.ignored) is.does.does.puts.notes) few
step_ignores old new (takes parcel is) few = same_ignored old new is.notes few
step_ignores old new (finds_none is) few = same_ignored old new is.notes few
step_ignores old new (fails_to_take is) few = same_ignored old new is.notes few
step_ignores old new (drops beat parcel is) few = let calm = is.ignores.calm in let one = ap (λ (n : Shared). n.ignored) is.ignores.notes in omega (arith, calm, one)
step_ignores old new (replies beat parcel place is) few = few_as _ _ (tried_ignored _ _ _ is.does.does.tries) few
step_ignores old new (ignores_reply beat parcel is) few = let calm = is.ignores.calm in let one = ap (λ (n : Shared). n.ignored) is.ignores.notes in omega (arith, calm, one)
step_ignores old new (acts_on beat parcel v w is) few = few_as _ _ (ap (λ (n : Notes). n.ignored) is.does.notes) few
step_ignores old new (repeats_reply beat parcel v w is) few = let calm = is.does.ignores.calm in let one = ap (λ (n : Notes). n.ignored) is.does.ignores.notes in omega (arith, calm, one)
step_ignores old new (fails_to_act beat parcel v w error cause is) few = few_as _ _ (ap (λ (n : Notes). n.ignored) (fails_notes error parcel v _ _ is.does.notes)) few
step_ignores old new (wants_memory_now is) few = same_ignored old new is.only.notes few

pub fleets_ignore : EachFleetIgnores
fleets_ignore a b few nothing = few
fleets_ignore a b few (and_then {mid} steps step) = step_ignores mid b step (fleets_ignore a mid few steps)
