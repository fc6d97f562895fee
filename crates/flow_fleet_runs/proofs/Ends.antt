-- Each close of a fleet comes exactly where its last world stands so.
use Rattle.std.proofs.Common.{◌≡◌, inl, inr, ℕ, ◌≤◌, Bool, [], refl, sym, ◌∙◌, subst, ap, arith}
use Rattle.std.specs.Prelude.{Option, Some, None, IsSome, slice_get}
use Rattle.flow_core_rules.specs.Changes.{outcome}
use Rattle.flow_core_rules.specs.Moves.{due}
use Rattle.flow_engine.specs.EngineView.{EngineView}
use Rattle.flow_laws.proofs.Basics.{same_some}
use Rattle.flow_world_steps.specs.Turns.{most_ignored}
use Rattle.flow_world_steps.specs.Worlds.{IsGoing, Phase, looked, rests, waits}
use Rattle.flow_fleet_steps.specs.Closes.{IsFleetClose}
use Rattle.flow_fleet_steps.specs.Openings.{IsFleetOpened, Runs}
use Rattle.flow_fleet_steps.specs.Steps.{FleetSteps}
use Rattle.flow_fleet_steps.specs.Worlds.{FleetWorld}
use Rattle.flow_fleet_steps.specs.declared.close.FleetClose.{FleetClose}
use Rattle.flow_fleet_steps.specs.declared.close.FleetClose.TheVariants as close
use Rattle.flow_fleet_steps.proofs.Closes.{closes_are_one}
use Rattle.flow_fleet_sums.specs.Ends.{IsFleetShort}
use Rattle.flow_fleet_sums.proofs.Ends.{fleets_wait}
use Rattle.flow_fleet_sums.proofs.Floods.{fleets_flood}
use Rattle.flow_fleet_runs.specs.Ends.{AllHaveEnded, ClosesByKind, EachFleetClosesByKind, EachFleetClosesExactly, IsAsked, IsEnded, NeedsOperator, NothingComes, SomeHasNotEnded, StandsFor, WaitsSinceOpening}
use Rattle.flow_fleet_runs.proofs.Known.{HasCaughtUp, fleet_histories, fleet_caught_up}
use Rattle.flow_fleet_runs.proofs.Turning.{GoesOn, HasDue, steps_turn, turns_at}

-- ---- what a world tells

pub some_of : (o : Option Bool) → (o ≡ None → ⊥) → IsSome o
some_of None not = absurd (not refl)
some_of (Some b) not = refl

not_both : (o : Option Bool) → IsSome o → o ≡ None → ⊥
not_both None some e = absurd (cc)
not_both (Some b) some e = absurd (cc)

no_due : (o : Option ℕ) (at : ℕ) → o ≡ None → o ≡ Some at → ⊥
no_due o at e f = let g : None ≡ Some at = sym e ∙ f in cc

-- where each has ended none goes on
none_left : (w : FleetWorld) → AllHaveEnded w → SomeHasNotEnded w → ⊥
none_left w all some = not_both (outcome some.goes_on.v.history.seen.lists) (all some.place some.goes_on.v some.goes_on.there) some.goes_on.has

goes_left : (w : FleetWorld) → GoesOn w → SomeHasNotEnded w
goes_left w is = record { place = is.on; goes_on = is.goes_on }

no_budget : (n : ℕ) → n ≡ 0 → 1 ≤ n → ⊥
no_budget n none some = absurd (omega (arith, none, some))

not_short : (w : FleetWorld) (moment : ℕ) → HasCaughtUp w → IsFleetShort w moment → ⊥
not_short w moment caught short = let past_ = caught moment short.own in let less = short.short in absurd (omega (arith, past_, less))

rests_waits : (p : Phase) (n : ℕ) → p ≡ rests → p ≡ waits n → ⊥
rests_waits p n e f = let g : rests ≡ waits n = sym e ∙ f in cc

looked_waits : (p : Phase) (n : ℕ) → p ≡ looked → p ≡ waits n → ⊥
looked_waits p n e f = let g : looked ≡ waits n = sym e ∙ f in cc

going_at : (p q : Phase) → p ≡ q → IsGoing q → IsGoing p
going_at p q e g = subst IsGoing (sym e) g

-- ---- a fleet that closed

module _ (a b : FleetWorld) (runs : Runs) (most : ℕ) (begins : IsFleetOpened a runs most) (steps : FleetSteps a b) where
  rests_first : b.phase ≡ rests → WaitsSinceOpening a b → ⊥
  rests_first e first = rests_waits b.phase _ e first.short

  looked_first : b.phase ≡ looked → WaitsSinceOpening a b → ⊥
  looked_first e first = looked_waits b.phase _ e first.short

  caught_at : (q : Phase) → b.phase ≡ q → IsGoing q → HasCaughtUp b
  caught_at q e g = fleet_caught_up a b runs most begins steps (going_at b.phase q e g)

  -- a flooded one goes on
  flooded_goes : b.phase ≡ rests → b.notes.ignored ≡ most_ignored → GoesOn b
  flooded_goes e many = elim (turns_at rests a b e (steps_turn a b runs most begins steps)) [
    | inl calm ↦ absurd (omega (arith, calm, many))
    | inr on ↦ on
  ]

  -- and so does one that waits, but where it did so at once
  waits_goes : (moment : ℕ) → b.phase ≡ waits moment → (WaitsSinceOpening a b → ⊥) → GoesOn b × HasDue b
  waits_goes moment e not = elim (turns_at (waits moment) a b e (steps_turn a b runs most begins steps)) [
    | inl first ↦ absurd (not first)
    | inr turn ↦ turn
  ]

  -- a run whose journal is empty is to begin
  empty_left : (place : ℕ) (v : EngineView) → slice_get b.engines place ≡ Some v → v.history.records ≡ [] → outcome v.history.seen.lists ≡ None
  empty_left place v there none = fleet_histories a b runs most begins steps place v there none

  -- ---- from the close to the world

  stands : (one : FleetClose) → IsFleetClose one b → StandsFor one a b
  stands (close.Ended ill) is = (
    rests_first is.turn.phase,
    λ place v there. some_of (outcome v.history.seen.lists) (λ none. is.ended place (record { v = v; there = there; has = none })),
    is.tells,
  )
  stands close.Paused is = elim is.more [
    | inl begin ↦
        let it = begin.empty in
        (rests_first begin.phase, is.none_left, record { place = begin.place; goes_on = record { v = it.v; there = it.there; has = empty_left begin.place it.v it.there it.has } })
    | inr goes ↦ (rests_first goes.turn.phase, is.none_left, record { place = goes.place; goes_on = goes.goes_on })
  ]
  stands (close.Waiting moment) is = fleets_wait a b (going_at a.phase _ begins.phase tt) steps moment is
  stands close.Flooded is = is.many
  stands (close.Asked run issue) is = (
    looked_first is.idle.has_looked.phase,
    record {
      budget = is.idle.has_looked.budget;
      calm = (turns_at looked a b is.idle.has_looked.phase (steps_turn a b runs most begins steps)).0;
      remains = record { place = is.idle.has_looked.on; goes_on = is.idle.has_looked.goes_on };
      nothing_comes = record { no_move = is.idle.none; nothing_due = is.nothing_due };
    },
    record { place = is.place; least = is.least; lower = is.lower },
  )

  -- ---- from the world to the close

  so_ended : (ill : Option ℕ) → StandsFor (close.Ended ill) a b → (c : FleetClose) → IsFleetClose c b → c ≡ close.Ended ill
  so_ended ill so (close.Ended other) is = closes_are_one b (close.Ended other) (close.Ended ill) is (record { turn = is.turn; ended = is.ended; tells = so.2 })
  so_ended ill so close.Paused is = absurd (none_left b so.1 (stands close.Paused is).2)
  so_ended ill so (close.Waiting moment) is = absurd (none_left b so.1 (goes_left b (waits_goes moment is so.0).0))
  so_ended ill so close.Flooded is = absurd (none_left b so.1 (goes_left b (flooded_goes is.phase is.many)))
  so_ended ill so (close.Asked run issue) is = absurd (none_left b so.1 (record { place = is.idle.has_looked.on; goes_on = is.idle.has_looked.goes_on }))

  so_paused : StandsFor close.Paused a b → (c : FleetClose) → IsFleetClose c b → c ≡ close.Paused
  so_paused so (close.Ended ill) is = absurd (none_left b (stands (close.Ended ill) is).1 so.2)
  so_paused so close.Paused is = refl
  so_paused so (close.Waiting moment) is = absurd (no_budget b.notes.left so.1 (waits_goes moment is so.0).0.budget)
  so_paused so close.Flooded is = absurd (no_budget b.notes.left so.1 (flooded_goes is.phase is.many).budget)
  so_paused so (close.Asked run issue) is = absurd (no_budget b.notes.left so.1 is.idle.has_looked.budget)

  so_waits : (moment : ℕ) → IsFleetShort b moment → (c : FleetClose) → IsFleetClose c b → c ≡ close.Waiting moment
  so_waits moment so (close.Ended ill) is = absurd (not_short b moment (caught_at rests is.turn.phase tt) so)
  so_waits moment so close.Paused is = elim is.more [
    | inl begin ↦ absurd (not_short b moment (caught_at rests begin.phase tt) so)
    | inr goes ↦ absurd (not_short b moment (caught_at rests goes.turn.phase tt) so)
  ]
  so_waits moment so (close.Waiting other) is = ap close.Waiting (same_some (sym (stands (close.Waiting other) is).own ∙ so.own))
  so_waits moment so close.Flooded is = absurd (not_short b moment (caught_at rests is.phase tt) so)
  so_waits moment so (close.Asked run issue) is = absurd (not_short b moment (caught_at looked is.idle.has_looked.phase tt) so)

  nothing_waits : NothingComes b → HasDue b → ⊥
  nothing_waits none some = no_due (due some.due_is.v.history.seen) some.at (none.nothing_due some.place some.due_is.v some.due_is.there) some.due_is.has

  so_asked : (run issue : ℕ) → StandsFor (close.Asked run issue) a b → (c : FleetClose) → IsFleetClose c b → c ≡ close.Asked run issue
  so_asked run issue so (close.Ended ill) is = absurd (none_left b (stands (close.Ended ill) is).1 so.1.remains)
  so_asked run issue so close.Paused is = absurd (no_budget b.notes.left is.none_left so.1.budget)
  so_asked run issue so (close.Waiting moment) is = absurd (nothing_waits so.1.nothing_comes (waits_goes moment is so.0).1)
  so_asked run issue so close.Flooded is = let calm = so.1.calm in let many = is.many in absurd (omega (arith, calm, many))
  so_asked run issue so (close.Asked number other) is =
      let first = so.2 in
      closes_are_one b (close.Asked number other) (close.Asked run issue) is
      (record { idle = is.idle; nothing_due = is.nothing_due; place = first.place; least = first.least; lower = first.lower })

  -- ---- whichever it names

  ended_so : (WaitsSinceOpening a b → ⊥) → AllHaveEnded b → (c : FleetClose) → IsFleetClose c b → IsEnded c
  ended_so not all (close.Ended other) is = tt
  ended_so not all close.Paused is = absurd (none_left b all (stands close.Paused is).2)
  ended_so not all (close.Waiting moment) is = absurd (none_left b all (goes_left b (waits_goes moment is not).0))
  ended_so not all close.Flooded is = absurd (none_left b all (goes_left b (flooded_goes is.phase is.many)))
  ended_so not all (close.Asked run issue) is = absurd (none_left b all (record { place = is.idle.has_looked.on; goes_on = is.idle.has_looked.goes_on }))

  so_all_ended : (c : FleetClose) → IsFleetClose c b → IsEnded c → (WaitsSinceOpening a b → ⊥) × AllHaveEnded b
  so_all_ended (close.Ended ill) is so = let all = stands (close.Ended ill) is in (all.0, all.1)
  so_all_ended close.Paused is so = absurd so
  so_all_ended (close.Waiting moment) is so = absurd so
  so_all_ended close.Flooded is so = absurd so
  so_all_ended (close.Asked run issue) is so = absurd so

  asked_so : (WaitsSinceOpening a b → ⊥) → NeedsOperator b → (c : FleetClose) → IsFleetClose c b → IsAsked c
  asked_so not needs (close.Ended ill) is = absurd (none_left b (stands (close.Ended ill) is).1 needs.remains)
  asked_so not needs close.Paused is = absurd (no_budget b.notes.left is.none_left needs.budget)
  asked_so not needs (close.Waiting moment) is = absurd (nothing_waits needs.nothing_comes (waits_goes moment is not).1)
  asked_so not needs close.Flooded is = let calm = needs.calm in let many = is.many in absurd (omega (arith, calm, many))
  asked_so not needs (close.Asked run issue) is = tt

  so_all_asked : (c : FleetClose) → IsFleetClose c b → IsAsked c → (WaitsSinceOpening a b → ⊥) × NeedsOperator b
  so_all_asked (close.Asked run issue) is so = let all = stands (close.Asked run issue) is in (all.0, all.1)
  so_all_asked (close.Ended ill) is so = absurd so
  so_all_asked close.Paused is so = absurd so
  so_all_asked (close.Waiting moment) is so = absurd so
  so_all_asked close.Flooded is so = absurd so

  by_kind : (c : FleetClose) → IsFleetClose c b → ClosesByKind c a b
  by_kind c is = record {
    ended = (so_all_ended c is, λ all. ended_so all.0 all.1 c is);
    asked = (so_all_asked c is, λ all. asked_so all.0 all.1 c is);
  }

  so : (one : FleetClose) → StandsFor one a b → (c : FleetClose) → IsFleetClose c b → c ≡ one
  so (close.Ended ill) stand = so_ended ill stand
  so close.Paused stand = so_paused stand
  so (close.Waiting moment) stand = so_waits moment stand
  so close.Flooded stand = λ c is. (fleets_flood a b runs most begins steps c is).1 stand
  so (close.Asked run issue) stand = so_asked run issue stand

pub fleets_close_exactly : EachFleetClosesExactly
fleets_close_exactly a b runs most begins steps c is one =
    (λ same. stands a b runs most begins steps one (subst (λ (x : FleetClose). IsFleetClose x b) same is), λ stand. so a b runs most begins steps one stand c is)

pub fleets_close_by_kind : EachFleetClosesByKind
fleets_close_by_kind a b runs most begins steps c is = by_kind a b runs most begins steps c is
