-- What each call of a fleet puts.
use Rattle.std.proofs.Common.{◌≡◌, ◌≢◌, inl, inr, ℕ, suc, ◌+◌, ◌≤◌, Bool, true, false, List, [], ◌∷◌, ◌++◌, refl, sym, ◌∙◌, ap, arith, All}
use Rattle.std.specs.Prelude.{Some, nat_eq, nat_lt, slice_get, if◌then◌else◌}
use Rattle.cacao_site.specs.LinkCalls.{GainsAll}
use Rattle.cacao_site.specs.View.{SiteView}
use Rattle.cacao_site.specs.declared.parcel.Parcel.{Parcel}
use Rattle.run_records.specs.Ranges.{last_moment}
use Rattle.flow_core.specs.declared.flow_errors.LimitKind.TheVariants as limit
use Rattle.flow_engine.specs.EngineView.{EngineView}
use Rattle.flow_laws.proofs.Basics.{same_or_not, same_some}
use Rattle.flow_world_steps.specs.Link.{IsOwn, PutsNoted, RepliesFew, commands_of, in_hand, one_command}
use Rattle.flow_world_steps.specs.Sides.{times}
use Rattle.flow_world_steps.specs.Steps.{Step, after_reach}
use Rattle.flow_world_steps.specs.Steps.Step.{begins as one_begins, moves as one_moves, expires as one_expires, puts_first as one_puts_first, resends as one_resends, replies as one_replies}
use Rattle.flow_world_steps.specs.Steps.Step.{acts_on as one_acts_on, repeats_reply as one_repeats, fails_to_act as one_fails_to_act}
use Rattle.flow_world_steps.specs.Worlds.{past, refused, rests, waits}
use Rattle.flow_world_steps.proofs.Growth.{gains_none, gains_one, gains_same, gains_then}
use Rattle.flow_world_steps.proofs.Issues.{below, eq_apart}
use Rattle.flow_world_steps.proofs.Put.{commands_more, few-trans, few_none, step_few, step_noted}
use Rattle.flow_fleet_steps.specs.Steps.{FleetStep, FleetSteps}
use Rattle.flow_fleet_steps.specs.Steps.FleetStep.{opens_clock, finds_run_used, asks_clock, finds_late, begins, moves, expires, says, fails_to_say, puts_first, resends}
use Rattle.flow_fleet_steps.specs.Steps.FleetStep.{takes, finds_none, fails_to_take, drops, replies, ignores_reply, acts_on, repeats_reply, fails_to_act, wants_memory_now}
use Rattle.flow_fleet_steps.specs.Steps.FleetSteps.{nothing, and_then}
use Rattle.flow_fleet_steps.specs.Worlds.{FleetWorld, Own, part}
use Rattle.flow_fleet_sums.proofs.Adding.{fleet_steps_add, there_of}
use Rattle.flow_fleet_sums.proofs.StepKinds.{Kind, NoRun, OneRun, kind_of}
use Rattle.flow_fleet_sums.proofs.StepKinds.Kind.{filter, puts, quiet, tries}
use Rattle.flow_fleet_sums.proofs.Written.{own_here}
use Rattle.flow_fleet_sums.specs.Sums.{FleetAdds}
use Rattle.flow_fleet_runs.proofs.Changing.{own_other}
use Rattle.flow_fleet_runs.proofs.Handing.{link_taken, site_taken}
use Rattle.flow_fleet_runs.proofs.InHand.{beside}

-- ---- replies

hand_reached : (moment answer : ℕ) → in_hand (after_reach moment answer) ≡ 0
hand_reached moment answer = by (nat_lt last_moment answer) (nat_lt answer moment)
  where
    by : (a b : Bool) → in_hand (if a then refused (past limit.Moment) false else if b then waits moment else rests) ≡ 0
    by true b = refl
    by false true = refl
    by false false = refl

site_puts : (old new : SiteView) → new ≡ old → new.link.puts ≡ old.link.puts
site_puts old new e = ap (λ (s : SiteView). s.link.puts) e

-- beside any run, which plays no part in it
module _ (e : EngineView) (o : Own) where
  few_as : (old new : FleetWorld) (place : ℕ) (v w : EngineView) (a b : Own) → RepliesFew (part place v a old) (part place w b new) → RepliesFew (beside e o old) (beside e o new)
  few_as old new place v w a b is = record { put = is.put; puts = is.puts; taken = is.taken; takes = is.takes; few = is.few }

  one_few : (old new : FleetWorld) (place : ℕ) (v w : EngineView) (a b : Own) → Step (part place v a old) (part place w b new) → RepliesFew (beside e o old) (beside e o new)
  one_few old new place v w a b step = few_as old new place v w a b (step_few (part place v a old) (part place w b new) step)

  none_few : (old new : FleetWorld) → new.site.link.puts ≡ old.site.link.puts → new.site.link.taken ≡ old.site.link.taken → in_hand new.phase ≡ 0 → RepliesFew (beside e o old) (beside e o new)
  none_few old new put taken hand = few_none (beside e o old) (beside e o new) put taken hand

  step_replies : (old new : FleetWorld) → FleetStep old new → RepliesFew (beside e o old) (beside e o new)
  step_replies old new (opens_clock answer is) = none_few old new is.goes.reaches.puts is.goes.reaches.taken (ap in_hand is.goes.phase ∙ hand_reached _ answer)
  step_replies old new (finds_run_used place agent is) = none_few old new (site_puts old.site new.site is.only.site) (site_taken old.site new.site is.only.site) (ap in_hand is.only.phase)
  step_replies old new (asks_clock moment answer is) = none_few old new is.goes.reaches.puts is.goes.reaches.taken (ap in_hand is.goes.phase ∙ hand_reached moment answer)
  step_replies old new (finds_late moment is) = none_few old new (site_puts old.site new.site is.only.site) (site_taken old.site new.site is.only.site) (ap in_hand is.only.phase)
  step_replies old new (begins place is) = let d = is.does in one_few old new place d.v d.w (old.own place) d.own (one_begins d.does)
  step_replies old new (moves place is) = let d = is.does in one_few old new place d.v d.w (old.own place) d.own (one_moves d.does)
  step_replies old new (expires place issue is) = let d = is.does in one_few old new place d.v d.w (old.own place) d.own (one_expires issue d.does)
  step_replies old new (says place v bytes is) = none_few old new is.speaks.only.puts is.speaks.only.taken (ap in_hand is.phase)
  step_replies old new (fails_to_say place v bytes is) = none_few old new is.speaks.only.puts is.speaks.only.taken (ap in_hand is.phase)
  step_replies old new (puts_first place issue is) = let d = is.does in one_few old new place d.v d.w (old.own place) d.own (one_puts_first issue d.does)
  step_replies old new (resends place issue is) = let d = is.does in one_few old new place d.v d.w (old.own place) d.own (one_resends issue d.does)
  step_replies old new (takes parcel is) = record {
    put = [];
    puts = gains_same old.site.link.puts new.site.link.puts is.only.puts;
    taken = (new.site.disk.beat, parcel) ∷ [];
    takes = gains_one old.site.link.taken new.site.link.taken (new.site.disk.beat, parcel) is.some.taken;
    few = let was = ap in_hand is.turn.phase in let now = ap in_hand is.phase in omega (arith, was, now);
  }
  step_replies old new (finds_none is) = none_few old new is.only.puts is.none.taken (ap in_hand is.phase)
  step_replies old new (fails_to_take is) = none_few old new is.only.puts (link_taken old.site new.site is.link) (ap in_hand is.phase)
  step_replies old new (drops beat parcel is) = none_few old new (site_puts old.site new.site is.site) (site_taken old.site new.site is.site) (ap in_hand is.ignores.phase)
  step_replies old new (replies beat parcel place is) = let d = is.does in one_few old new place d.v d.w (old.own place) d.own (one_replies beat parcel d.does)
  step_replies old new (ignores_reply beat parcel is) = none_few old new (site_puts old.site new.site is.site) (site_taken old.site new.site is.site) (ap in_hand is.ignores.phase)
  step_replies old new (acts_on beat parcel v w is) = one_few old new 0 is.v is.v (old.own 0) (old.own 0) (one_acts_on beat parcel v w is.does)
  step_replies old new (repeats_reply beat parcel v w is) = one_few old new 0 is.v is.v (old.own 0) (old.own 0) (one_repeats beat parcel v w is.does)
  step_replies old new (fails_to_act beat parcel v w error cause is) = one_few old new 0 is.v is.v (old.own 0) (old.own 0) (one_fails_to_act beat parcel v w error cause is.does)
  step_replies old new (wants_memory_now is) = none_few old new (site_puts old.site new.site is.only.site) (site_taken old.site new.site is.only.site) (ap in_hand is.only.phase)

  -- at most as many replies are put as commands are taken
  pub fleet_steps_reply_few : (a b : FleetWorld) → FleetSteps a b → RepliesFew (beside e o a) (beside e o b)
  fleet_steps_reply_few a b nothing = record {
    put = [];
    puts = gains_none a.site.link.puts;
    taken = [];
    takes = gains_none a.site.link.taken;
    few = omega arith;
  }
  fleet_steps_reply_few a b (and_then {mid} steps step) = few-trans (beside e o a) (beside e o mid) (beside e o b) (fleet_steps_reply_few a mid steps) (step_replies mid b step)

-- ---- commands

-- the commands among a link's new puts, of each run, are of issues that are noted as put, as often
pub record FleetNotes (a b : FleetWorld) : Type 0 where
  pub put : List (ℕ × Parcel)
  pub puts : GainsAll a.site.link.puts put b.site.link.puts
  pub noted : (place : ℕ) (v : EngineView) (issue : ℕ) → slice_get a.engines place ≡ Some v
      → commands_of v.history.seen.run issue put + times issue (a.own place).put ≤ times issue (b.own place).put

-- no two runs have one number
abbrev pub AreApart : List EngineView → Type 0
AreApart engines = (place other : ℕ) (v w : EngineView) → slice_get engines place ≡ Some v → slice_get engines other ≡ Some w → v.history.seen.run ≡ w.history.seen.run → other ≡ place

-- commands of one run are none of another
none_of : (run other issue : ℕ) (put : List (ℕ × Parcel)) → other ≢ run → All (IsOwn other) put → commands_of run issue put ≡ 0
none_of run other issue [] ne own = refl
none_of run other issue (e ∷ put) ne own =
    let first = by e.1.back refl in
    let rest = none_of run other issue put ne (λ k d lt. own (suc k) d (omega (arith, lt))) in
    omega (arith, first, rest)
  where
    of_command : e.1.back ≡ false → one_command run issue e.1 ≡ 0
    of_command command =
        let its : e.1.run ≡ other = own 0 e (omega arith) command in
        let apart : nat_eq e.1.run run ≡ false = eq_apart e.1.run run (λ same. ne (sym its ∙ same)) in
        ap (λ (b : Bool). if b then 0 else if nat_eq e.1.run run then (if nat_eq e.1.issue issue then 1 else 0) else 0) command
        ∙ ap (λ (b : Bool). if b then (if nat_eq e.1.issue issue then 1 else 0) else 0) apart

    by : (b : Bool) → e.1.back ≡ b → one_command run issue e.1 ≡ 0
    by true back = ap (λ (b : Bool). if b then 0 else if nat_eq e.1.run run then (if nat_eq e.1.issue issue then 1 else 0) else 0) back
    by false command = of_command command

one_notes : (old new : FleetWorld) (at : ℕ) (v w : EngineView) (own : Own) → AreApart old.engines → OneRun old new at v w own → FleetNotes old new
one_notes old new at v w own apart is = record {
  put = p.put;
  puts = p.puts;
  noted = λ place x issue there. elim (same_or_not place at) [ inl e ↦ here place x issue there e | inr ne ↦ elsewhere place x issue there ne ];
}
  where
    p : PutsNoted (part at v (old.own at) old) (part at w own new)
    p = step_noted (part at v (old.own at) old) (part at w own new) is.step

    here : (place : ℕ) (x : EngineView) (issue : ℕ) → slice_get old.engines place ≡ Some x → place ≡ at
        → commands_of x.history.seen.run issue p.put + times issue (old.own place).put ≤ times issue (new.own place).put
    here place x issue there e =
        let x_is : x ≡ v = same_some (sym there ∙ ap (λ (n : ℕ). slice_get old.engines n) e ∙ is.there) in
        let run = ap (λ (y : EngineView). commands_of y.history.seen.run issue p.put) x_is in
        let was = ap (λ (n : ℕ). times issue (old.own n).put) e in
        let now = ap (λ (n : ℕ). times issue (new.own n).put) e ∙ ap (λ (o : ℕ → Own). times issue (o at).put) is.owns ∙ ap (λ (o : Own). times issue o.put) (own_here at own old.own) in
        let noted = p.noted issue in
        omega (arith, run, was, now, noted)

    elsewhere : (place : ℕ) (x : EngineView) (issue : ℕ) → slice_get old.engines place ≡ Some x → place ≢ at
        → commands_of x.history.seen.run issue p.put + times issue (old.own place).put ≤ times issue (new.own place).put
    elsewhere place x issue there ne =
        let none = none_of x.history.seen.run v.history.seen.run issue p.put (λ same. ne (apart at place v x is.there there same)) p.own in
        let same = ap (λ (o : ℕ → Own). times issue (o place).put) is.owns ∙ ap (λ (o : Own). times issue o.put) (own_other at place own old.own ne) in
        omega (arith, none, same)

no_run_notes : (old new : FleetWorld) (v : EngineView) → AreApart old.engines → NoRun old new v → FleetNotes old new
no_run_notes old new v apart is = record {
  put = p.put;
  puts = p.puts;
  noted = λ place x issue there.
      let none = none_at place x issue there in
      let same = ap (λ (o : ℕ → Own). times issue (o place).put) is.owns in
      omega (arith, none, same);
}
  where
    p : PutsNoted (part 0 v (old.own 0) old) (part 0 v (old.own 0) new)
    p = step_noted (part 0 v (old.own 0) old) (part 0 v (old.own 0) new) is.step

    none_at : (place : ℕ) (x : EngineView) (issue : ℕ) → slice_get old.engines place ≡ Some x → commands_of x.history.seen.run issue p.put ≡ 0
    none_at place x issue there = elim (same_or_not place 0) [
      | inl e ↦
          let x_is : x ≡ v = same_some (sym there ∙ ap (λ (n : ℕ). slice_get old.engines n) e ∙ is.there) in
          let run = ap (λ (y : EngineView). commands_of y.history.seen.run issue p.put) x_is in
          let noted = p.noted issue in
          omega (arith, run, noted)
      | inr ne ↦ none_of x.history.seen.run v.history.seen.run issue p.put (λ same. ne (apart 0 place v x is.there there same)) p.own
    ]

kind_notes : (old new : FleetWorld) → AreApart old.engines → Kind old new → FleetNotes old new
kind_notes old new apart (tries place v w own IsNext is try) = one_notes old new place v w own apart is
kind_notes old new apart (puts place issue v w own is put) = one_notes old new place v w own apart is
kind_notes old new apart (filter v is did) = no_run_notes old new v apart is
kind_notes old new apart (quiet is) = record {
  put = [];
  puts = gains_same old.site.link.puts new.site.link.puts is.puts;
  noted = λ place v issue there. let same = ap (λ (o : ℕ → Own). times issue (o place).put) is.sides.own in omega (arith, same);
}

notes-then : (a b c : FleetWorld) → FleetAdds a b → FleetNotes a b → FleetNotes b c → FleetNotes a c
notes-then a b c adds p q = record {
  put = p.put ++ q.put;
  puts = gains_then a.site.link.puts b.site.link.puts c.site.link.puts p.put q.put p.puts q.puts;
  noted = λ place v issue there.
      let mid = there_of b.engines place (let lt = below a.engines place v there in let many = adds.many in omega (arith, lt, many)) in
      let run = ap (λ (n : ℕ). commands_of n issue q.put) (adds.each place v mid.0 there mid.1).run in
      let one = p.noted place v issue there in
      let two = q.noted place mid.0 issue mid.1 in
      let both = commands_more v.history.seen.run issue p.put q.put in
      omega (arith, run, one, two, both);
}

-- runs keep their numbers, so they stay apart
apart_then : (a b : FleetWorld) → FleetAdds a b → AreApart a.engines → AreApart b.engines
apart_then a b adds apart place other v w there here same =
    let x = there_of a.engines place (let lt = below b.engines place v there in let many = adds.many in omega (arith, lt, many)) in
    let y = there_of a.engines other (let lt = below b.engines other w here in let many = adds.many in omega (arith, lt, many)) in
    let one = (adds.each place x.0 v x.1 there).run in
    let two = (adds.each other y.0 w y.1 here).run in
    apart place other x.0 y.0 x.1 y.1 (sym one ∙ same ∙ two)

pub fleet_steps_note : (a b : FleetWorld) → AreApart a.engines → FleetSteps a b → FleetNotes a b
fleet_steps_note a b apart nothing = record {
  put = [];
  puts = gains_none a.site.link.puts;
  noted = λ place v issue there. omega arith;
}
fleet_steps_note a b apart (and_then {mid} steps step) =
    let adds = fleet_steps_add a mid steps in
    notes-then a mid b adds (fleet_steps_note a mid apart steps) (kind_notes mid b (apart_then a mid adds apart) (kind_of mid b step))
