-- Of a fleet: the lines that were said, and what may stand in a file behind the others.
use Rattle.std.proofs.Common.{◌≡◌, ◌⊎◌, inl, inr, ℕ, ◌+◌, ◌≤◌, false, List, [], ◌∷◌, ◌++◌, length, ◌∙◌, ap, arith, length-append}
use Rattle.std.specs.Prelude.{None}
use Rattle.cacao_site.specs.LinkCalls.{GainsAll}
use Rattle.cacao_site.specs.View.{SiteView}
use Rattle.run_records.specs.declared.record.Record.{Record}
use Rattle.flow_engine.specs.EngineView.{EngineView}
use Rattle.flow_world_steps.specs.Appends.{Tries}
use Rattle.flow_world_steps.specs.Appends.Tries.{done, failed as may_be_done, limited}
use Rattle.flow_world_steps.specs.Steps.Step.{begins as one_begins, moves as one_moves, expires as one_expires, puts_first as one_puts_first, resends as one_resends, replies as one_replies}
use Rattle.flow_world_steps.specs.Steps.Step.{acts_on as one_acts_on, repeats_reply as one_repeats, fails_to_act as one_fails_to_act}
use Rattle.flow_world_steps.specs.Steps.Steps.{nothing as no_step, and_then as then_step}
use Rattle.flow_world_steps.specs.Sums.{one_if, owed_lines, total}
use Rattle.flow_world_steps.specs.Worlds.{Notes, Phase, World, owes_line}
use Rattle.flow_world_steps.proofs.Costs.{sum_set}
use Rattle.flow_world_steps.proofs.Growth.{gains_none, gains_one, gains_same, gains_then}
use Rattle.flow_world_steps.proofs.Spoken.{steps_speak}
use Rattle.flow_fleet_laws.specs.Speeches.{head_of}
use Rattle.flow_fleet_steps.specs.Steps.{FleetStep, FleetSteps}
use Rattle.flow_fleet_steps.specs.Steps.FleetStep.{opens_clock, finds_run_used, asks_clock, finds_late, begins, moves, expires, says, fails_to_say, puts_first, resends}
use Rattle.flow_fleet_steps.specs.Steps.FleetStep.{takes, finds_none, fails_to_take, drops, replies, ignores_reply, acts_on, repeats_reply, fails_to_act, wants_memory_now}
use Rattle.flow_fleet_steps.specs.Steps.FleetSteps.{nothing, and_then}
use Rattle.flow_fleet_steps.specs.Worlds.{FleetWorld, Own}
use Rattle.flow_fleet_steps.proofs.Spending.{fleet_step_going}
use Rattle.flow_fleet_sums.specs.Sums.{records_of}
use Rattle.flow_fleet_sums.proofs.StepKinds.{Kind, NoRun, OneRun, does, kind_of}
use Rattle.flow_fleet_sums.proofs.StepKinds.Kind.{filter, puts, quiet, tries}
use Rattle.flow_fleet_sums.proofs.Written.{IsSure, steps_sure}

-- ---- lines

-- The lines that were said, and those owed, are as many as the records that were appended, or more.
pub record SaysAll (a b : FleetWorld) : Type 0 where
  pub said : List (ℕ × List ℕ)
  pub says : GainsAll a.site.link.said said b.site.link.said
  pub many : total records_of b.engines + owed_lines a.phase ≤ total records_of a.engines + length said + owed_lines b.phase

-- nothing was appended, nothing said, and no line was owed before
none_said : (old new : FleetWorld) → new.engines ≡ old.engines → new.site.link.said ≡ old.site.link.said → owed_lines old.phase ≤ owed_lines new.phase → SaysAll old new
none_said old new engines said owed = record {
  said = [];
  says = gains_same old.site.link.said new.site.link.said said;
  many = let same = ap (λ (l : List EngineView). total records_of l) engines in omega (arith, same, owed);
}

none_owed : (old new : Phase) → owed_lines old ≡ 0 → owed_lines old ≤ owed_lines new
none_owed old new e = omega (arith, e)

same_said : (old new : SiteView) → new ≡ old → new.link.said ≡ old.link.said
same_said old new e = ap (λ (s : SiteView). s.link.said) e

one_says : (old new : FleetWorld) (at : ℕ) (v w : EngineView) (own : Own) → OneRun old new at v w own → owes_line old.phase ≡ false → SaysAll old new
one_says old new at v w own is free =
    let speaks = steps_speak _ _ free (then_step no_step is.step) in
    record {
      said = speaks.said;
      says = speaks.says;
      many =
          let many = speaks.many in
          let sum = sum_set records_of old.engines at v w is.there in
          let all = ap (λ (l : List EngineView). total records_of l) is.engines in
          let none : owed_lines old.phase ≡ 0 = ap one_if free in
          omega (arith, many, sum, all, none);
    }

filter_says : (old new : FleetWorld) (v : EngineView) → NoRun old new v → owes_line old.phase ≡ false → SaysAll old new
filter_says old new v is free =
    let speaks = steps_speak _ _ free (then_step no_step is.step) in
    record {
      said = speaks.said;
      says = speaks.says;
      many =
          let all = ap (λ (l : List EngineView). total records_of l) is.engines in
          let none : owed_lines old.phase ≡ 0 = ap one_if free in
          omega (arith, all, none);
    }

step_says : (old new : FleetWorld) → FleetStep old new → SaysAll old new
step_says old new (opens_clock answer is) = none_said old new is.goes.sides.engines is.goes.reaches.said (none_owed old.phase new.phase (ap owed_lines is.phase))
step_says old new (finds_run_used place agent is) = none_said old new is.only.sides.engines (same_said old.site new.site is.only.site) (none_owed old.phase new.phase (ap owed_lines is.phase))
step_says old new (asks_clock moment answer is) = none_said old new is.goes.sides.engines is.goes.reaches.said (none_owed old.phase new.phase (ap owed_lines is.next.up_to_date.on_time.idle.has_looked.phase))
step_says old new (finds_late moment is) = none_said old new is.only.sides.engines (same_said old.site new.site is.only.site) (none_owed old.phase new.phase (ap owed_lines is.next.up_to_date.on_time.idle.has_looked.phase))
step_says old new (begins place is) = one_says old new place is.does.v is.does.w is.does.own (does _ place old new is.does (one_begins is.does.does)) (ap owes_line is.does.does.phase)
step_says old new (moves place is) = one_says old new place is.does.v is.does.w is.does.own (does _ place old new is.does (one_moves is.does.does)) (ap owes_line is.has_looked.phase)
step_says old new (expires place issue is) = one_says old new place is.does.v is.does.w is.does.own (does _ place old new is.does (one_expires issue is.does.does)) (ap owes_line is.idle.has_looked.phase)
step_says old new (says place v bytes is) = record {
  said = (new.site.disk.beat, head_of v.history.seen.run ++ bytes) ∷ [];
  says = gains_one old.site.link.said new.site.link.said (new.site.disk.beat, head_of v.history.seen.run ++ bytes) is.said;
  many = let same = ap (λ (l : List EngineView). total records_of l) is.speaks.sides.engines in let was = ap owed_lines is.speaks.phase in omega (arith, same, was);
}
step_says old new (fails_to_say place v bytes is) = none_said old new is.speaks.sides.engines is.unsaid (let was = ap owed_lines is.speaks.phase in let now = ap owed_lines is.phase in omega (arith, was, now))
step_says old new (puts_first place issue is) = one_says old new place is.does.v is.does.w is.does.own (does _ place old new is.does (one_puts_first issue is.does.does)) (ap owes_line is.does.does.phase)
step_says old new (resends place issue is) = one_says old new place is.does.v is.does.w is.does.own (does _ place old new is.does (one_resends issue is.does.does)) (ap owes_line is.on_time.idle.has_looked.phase)
step_says old new (takes parcel is) = none_said old new is.sides.engines is.only.said (none_owed old.phase new.phase (ap owed_lines is.turn.phase))
step_says old new (finds_none is) = none_said old new is.sides.engines is.only.said (none_owed old.phase new.phase (ap owed_lines is.turn.phase))
step_says old new (fails_to_take is) = none_said old new is.sides.engines is.only.said (none_owed old.phase new.phase (ap owed_lines is.turn.phase))
step_says old new (drops beat parcel is) = none_said old new is.ignores.sides.engines (same_said old.site new.site is.site) (none_owed old.phase new.phase (ap owed_lines is.phase))
step_says old new (replies beat parcel place is) = one_says old new place is.does.v is.does.w is.does.own (does _ place old new is.does (one_replies beat parcel is.does.does)) (ap owes_line is.does.does.holds_reply.phase)
step_says old new (ignores_reply beat parcel is) = none_said old new is.ignores.sides.engines (same_said old.site new.site is.site) (none_owed old.phase new.phase (ap owed_lines is.holds_reply.phase))
step_says old new (acts_on beat parcel v w is) = filter_says old new is.v (record { there = is.there; engines = is.engines; owns = is.own; step = one_acts_on beat parcel v w is.does }) (ap owes_line is.does.holds_command.phase)
step_says old new (repeats_reply beat parcel v w is) = filter_says old new is.v (record { there = is.there; engines = is.engines; owns = is.own; step = one_repeats beat parcel v w is.does }) (ap owes_line is.does.holds_command.phase)
step_says old new (fails_to_act beat parcel v w error cause is) = filter_says old new is.v (record { there = is.there; engines = is.engines; owns = is.own; step = one_fails_to_act beat parcel v w error cause is.does }) (ap owes_line is.does.holds_command.phase)
step_says old new (wants_memory_now is) = none_said old new is.only.sides.engines (same_said old.site new.site is.only.site) (let same = ap owed_lines is.only.phase in omega (arith, same))

pub steps_say : (a b : FleetWorld) → FleetSteps a b → SaysAll a b
steps_say a b nothing = record { said = []; says = gains_none a.site.link.said; many = omega arith }
steps_say a b (and_then {mid} steps step) =
    let p = steps_say a mid steps in
    let q = step_says mid b step in
    record {
      said = p.said ++ q.said;
      says = gains_then a.site.link.said mid.site.link.said b.site.link.said p.said q.said p.says q.says;
      many = let one = p.many in let two = q.many in let both = length-append p.said q.said in omega (arith, one, two, both);
    }

-- ---- what may stand behind the others

-- no record may stand behind the others in the journal that was tried last, or no act in a filter's file
abbrev pub NotBoth : FleetWorld → Type 0
NotBoth w = ((w.own w.place).unsure ≡ None) ⊎ (w.notes.unsure_act ≡ None)

tried_act : (IsNext : Record → Type 0) (old new : World) → Tries IsNext old new → new.notes.unsure_act ≡ old.notes.unsure_act
tried_act IsNext old new (done is) = ap (λ (n : Notes). n.unsure_act) is.notes
tried_act IsNext old new (may_be_done is) = ap (λ (n : Notes). n.unsure_act) is.notes
tried_act IsNext old new (limited what is) = ap (λ (n : Notes). n.unsure_act) is.notes

kind_not_both : (old new : FleetWorld) → Kind old new → IsSure old → NotBoth new
kind_not_both old new (tries place v w own IsNext is try) sure = inr (tried_act IsNext _ _ try ∙ sure.act)
kind_not_both old new (puts place issue v w own is put) sure = inr (ap (λ (n : Notes). n.unsure_act) put.notes ∙ sure.act)
kind_not_both old new (filter v is did) sure = inl (ap (λ (o : ℕ → Own). (o new.place).unsure) is.owns ∙ sure.own new.place)
kind_not_both old new (quiet is) sure = inr (is.unsure ∙ sure.act)

pub steps_not_both : (a b : FleetWorld) → IsSure a → FleetSteps a b → NotBoth b
steps_not_both a b sure nothing = inr sure.act
steps_not_both a b sure (and_then {mid} steps step) = kind_not_both mid b (kind_of mid b step) (steps_sure a mid steps sure (fleet_step_going mid b step))
