-- Which lines a fleet lacks where it ends.
use Rattle.std.proofs.Common.{◌≡◌, inl, inr, ℕ, ◌≤◌, Bool, true, false, List, refl, sym, ◌∙◌, subst, ap, arith}
use Rattle.std.specs.Prelude.{Option, nat_lt, if◌then◌else◌, ⊤}
use Rattle.cacao_site.specs.LinkCalls.{GainsAll}
use Rattle.cacao_site.specs.View.{LinkView, SiteView}
use Rattle.run_records.specs.Ranges.{last_moment}
use Rattle.run_records.specs.declared.record.Record.{Record}
use Rattle.flow_core.specs.declared.flow_errors.LimitKind.TheVariants as limit
use Rattle.slpf_actuator.specs.ActuatorView.{ActuatorView}
use Rattle.cacao_site.specs.declared.parcel.Parcel.{Parcel}
use Rattle.slpf_actuator.specs.declared.error.ActError.{ActError}
use Rattle.slpf_actuator.specs.declared.error.ActError.TheVariants as act_error
use Rattle.flow_world_steps.specs.Appends.{Tries}
use Rattle.flow_world_steps.specs.Appends.Tries.{done, failed, limited}
use Rattle.flow_world_steps.specs.Steps.{IsActCause, after_reach}
use Rattle.flow_world_steps.specs.Sums.{owed_lines}
use Rattle.flow_world_steps.specs.Worlds.{Cause, Phase, World, looked, opened, owes_line, refused, rests, waits}
use Rattle.flow_world_steps.specs.Worlds.{disk_failed, not_said, past, run_used, wants_memory}
use Rattle.flow_world_laws.specs.Ends.{LacksLine}
use Rattle.flow_fleet_steps.specs.Closes.{IsFleetClose, IsRefusalFor}
use Rattle.flow_fleet_steps.specs.Laws.{FleetWent}
use Rattle.flow_fleet_steps.specs.Openings.{Runs}
use Rattle.flow_fleet_steps.specs.Steps.{FleetStep, FleetSteps}
use Rattle.flow_fleet_steps.specs.Steps.FleetStep.{opens_clock, finds_run_used, asks_clock, finds_late, begins, moves, expires, says, fails_to_say, puts_first, resends}
use Rattle.flow_fleet_steps.specs.Steps.FleetStep.{takes, finds_none, fails_to_take, drops, replies, ignores_reply, acts_on, repeats_reply, fails_to_act, wants_memory_now}
use Rattle.flow_fleet_steps.specs.Steps.FleetSteps.{nothing, and_then}
use Rattle.flow_fleet_steps.specs.Worlds.{FleetWorld}
use Rattle.flow_fleet_steps.specs.declared.close.FleetClose.{FleetClose}
use Rattle.flow_fleet_steps.specs.declared.close.FleetClose.TheVariants as close
use Rattle.flow_fleet_steps.specs.declared.error.FleetError.{FleetError}
use Rattle.flow_fleet_runs.specs.Lines.{FleetTells}
use Rattle.flow_fleet_runs.specs.Said.{EachFleetCloseSays, EachFleetRefusalSays, FleetSaysAllBut, LacksLines}
use Rattle.flow_fleet_runs.proofs.InHand.{same_link}
use Rattle.flow_fleet_runs.proofs.Lines.{fleets_tell}
use Rattle.flow_fleet_runs.proofs.Parcels.{link_stays}

-- ---- refusals

-- after a refusal the line lacks only as its cause tells
abbrev LacksIn : Phase → Type 0
LacksIn (refused cause lacks) = LacksLine cause lacks
LacksIn other = ⊤

lacks_as : (p q : Phase) → p ≡ q → LacksIn q → LacksIn p
lacks_as p q e is = subst (λ (x : Phase). LacksIn x) (sym e) is

reached_lacks : (moment answer : ℕ) → LacksIn (after_reach moment answer)
reached_lacks moment answer = by (nat_lt last_moment answer) (nat_lt answer moment)
  where
    by : (a b : Bool) → LacksIn (if a then refused (past limit.Moment) false else if b then waits moment else rests)
    by true b = refl
    by false true = tt
    by false false = tt

tried_lacks : (IsNext : Record → Type 0) (old new : World) → Tries IsNext old new → LacksIn new.phase
tried_lacks IsNext old new (done is) = lacks_as new.phase _ is.phase tt
tried_lacks IsNext old new (failed is) = lacks_as new.phase (refused disk_failed false) is.phase refl
tried_lacks IsNext old new (limited what is) = lacks_as new.phase (refused (past what) false) is.phase refl

act_lacks : (error : ActError) (v : ActuatorView) (parcel : Parcel) (old new : World) (cause : Cause) → IsActCause error v parcel old new cause → LacksLine cause false
act_lacks act_error.Disk v parcel old new cause is = subst (λ (c : Cause). LacksLine c false) (sym is.1) refl
act_lacks (act_error.Full needed) v parcel old new cause is = subst (λ (c : Cause). LacksLine c false) (sym is.1) refl
act_lacks act_error.Memory v parcel old new cause is = subst (λ (c : Cause). LacksLine c false) (sym is) tt
act_lacks (act_error.Damaged place) v parcel old new cause is = absurd is
act_lacks act_error.Broken v parcel old new cause is = absurd is

step_lacks : (old new : FleetWorld) → FleetStep old new → LacksIn new.phase
step_lacks old new (opens_clock answer is) = lacks_as new.phase _ is.goes.phase (reached_lacks _ answer)
step_lacks old new (finds_run_used place agent is) = lacks_as new.phase (refused (run_used agent) false) is.only.phase refl
step_lacks old new (asks_clock moment answer is) = lacks_as new.phase _ is.goes.phase (reached_lacks moment answer)
step_lacks old new (finds_late moment is) = lacks_as new.phase (refused (past limit.Moment) false) is.only.phase refl
step_lacks old new (begins place is) = tried_lacks _ _ _ is.does.does.tries
step_lacks old new (moves place is) = tried_lacks _ _ _ is.does.does.tries
step_lacks old new (expires place issue is) = tried_lacks _ _ _ is.does.does.tries
step_lacks old new (says place v bytes is) = lacks_as new.phase _ is.phase tt
step_lacks old new (fails_to_say place v bytes is) = lacks_as new.phase (refused not_said true) is.phase refl
step_lacks old new (puts_first place issue is) = lacks_as new.phase _ is.does.does.puts.phase tt
step_lacks old new (resends place issue is) = lacks_as new.phase _ is.does.does.puts.phase tt
step_lacks old new (takes parcel is) = lacks_as new.phase _ is.phase tt
step_lacks old new (finds_none is) = lacks_as new.phase _ is.phase tt
step_lacks old new (fails_to_take is) = lacks_as new.phase (refused wants_memory false) is.phase tt
step_lacks old new (drops beat parcel is) = lacks_as new.phase _ is.ignores.phase tt
step_lacks old new (replies beat parcel place is) = tried_lacks _ _ _ is.does.does.tries
step_lacks old new (ignores_reply beat parcel is) = lacks_as new.phase _ is.ignores.phase tt
step_lacks old new (acts_on beat parcel v w is) = lacks_as new.phase _ is.does.phase tt
step_lacks old new (repeats_reply beat parcel v w is) = lacks_as new.phase _ is.does.ignores.phase tt
step_lacks old new (fails_to_act beat parcel v w error cause is) = lacks_as new.phase (refused cause false) is.does.phase (act_lacks error v parcel _ _ cause is.does.why)
step_lacks old new (wants_memory_now is) = lacks_as new.phase (refused wants_memory (owes_line old.phase)) is.only.phase tt

steps_lack : (a b : FleetWorld) → a.phase ≡ opened → FleetSteps a b → LacksIn b.phase
steps_lack a b first nothing = lacks_as a.phase opened first tt
steps_lack a b first (and_then {mid} steps step) = step_lacks mid b step

few_owed : (lacks : Bool) → owed_lines (refused wants_memory lacks) ≤ 1
few_owed true = omega arith
few_owed false = omega arith

lacks_of : (error : FleetError) (w : FleetWorld) (cause : Cause) (lacks : Bool) → IsRefusalFor error cause w → LacksLine cause lacks → LacksLines error (owed_lines (refused cause lacks))
lacks_of error w disk_failed lacks is line = subst (λ (x : FleetError). LacksLines x (owed_lines (refused disk_failed lacks))) (sym is) (ap (λ (b : Bool). owed_lines (refused disk_failed b)) line)
lacks_of error w not_said lacks is line = subst (λ (x : FleetError). LacksLines x (owed_lines (refused not_said lacks))) (sym is) (ap (λ (b : Bool). owed_lines (refused not_said b)) line)
lacks_of error w (run_used agent) lacks is line =
    subst (λ (x : FleetError). LacksLines x (owed_lines (refused (run_used agent) lacks))) (sym is.has) (ap (λ (b : Bool). owed_lines (refused (run_used agent) b)) line)
lacks_of error w (past what) lacks is line = subst (λ (x : FleetError). LacksLines x (owed_lines (refused (past what) lacks))) (sym is) (ap (λ (b : Bool). owed_lines (refused (past what) b)) line)
lacks_of error w wants_memory lacks is line = subst (λ (x : FleetError). LacksLines x (owed_lines (refused wants_memory lacks))) (sym is) (few_owed lacks)

-- ---- closes

owed_at : (p q : Phase) → p ≡ q → owed_lines q ≡ 0 → owed_lines p ≡ 0
owed_at p q e none = ap owed_lines e ∙ none

closes_free : (how : FleetClose) (w : FleetWorld) → IsFleetClose how w → owed_lines w.phase ≡ 0
closes_free (close.Ended ill) w is = owed_at w.phase rests is.turn.phase refl
closes_free close.Paused w is = elim is.more [ inl begin ↦ owed_at w.phase rests begin.phase refl | inr goes ↦ owed_at w.phase rests goes.turn.phase refl ]
closes_free (close.Waiting moment) w is = owed_at w.phase (waits moment) is refl
closes_free close.Flooded w is = owed_at w.phase rests is.phase refl
closes_free (close.Asked run issue) w is = owed_at w.phase looked is.idle.has_looked.phase refl

-- ---- whole fleets

module _ (runs : Runs) (most : ℕ) (old new : SiteView) (went : FleetWent runs most old new) where
  tells : FleetTells went.start went.to
  tells = fleets_tell went.start went.to (ap owes_line went.begins.phase) went.steps

  first : went.start.site.link.said ≡ old.link.said
  first = ap (λ (l : LinkView). l.said) (went.files.others.rest.link ∙ same_link runs old _ went.files.middle went.start.engines went.files.journals)

  last : went.to.site.link.said ≡ new.link.said
  last = ap (λ (s : SiteView). s.link.said) went.to_is

  all_but : (lacks : ℕ) → owed_lines went.to.phase ≡ lacks → FleetSaysAllBut lacks runs most old new went
  all_but lacks e = record {
    tells = tells;
    says = subst (λ (o : Option (List (ℕ × List ℕ))). GainsAll o tells.speaks.said new.link.said) first
        (subst (λ (o : Option (List (ℕ × List ℕ))). GainsAll went.start.site.link.said tells.speaks.said o) last tells.speaks.says);
    many = let many = tells.speaks.many in omega (arith, many, e);
  }

pub fleet_closes_say : EachFleetCloseSays
fleet_closes_say how runs most old new closed = all_but runs most old new closed.went 0 (closes_free how closed.went.to closed.closes)

pub fleet_refusals_say : EachFleetRefusalSays
fleet_refusals_say error runs most old new (inl opening) = ap (λ (l : LinkView). l.said) (link_stays error runs old new opening)
fleet_refusals_say error runs most old new (inr later) =
    let why = later.refuses in
    let line : LacksLine why.cause why.lacks = subst (λ (x : Phase). LacksIn x) why.phase (steps_lack later.went.start later.went.to later.went.begins.phase later.went.steps) in
    (owed_lines (refused why.cause why.lacks), lacks_of error later.went.to why.cause why.lacks why.is line, all_but runs most old new later.went _ (ap owed_lines why.phase))
