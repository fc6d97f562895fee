-- No two closes hold of one world.
use Rattle.std.proofs.Common.{◌≡◌, ℕ, Bool, refl, sym, ◌∙◌, ap, arith}
use Rattle.std.specs.Prelude.{Option, Some, None}
use Rattle.flow_core_rules.specs.Changes.{outcome}
use Rattle.flow_core_rules.specs.Moves.{asks}
use Rattle.flow_world_parts.specs.Worlds.{Phase, World, Cause, looked, refused, rests, waits}
use Rattle.flow_world_parts.specs.Closes.{IsClose}
use Rattle.flow_world.specs.Laws.{ClosesAreNoRefusals, ClosesAreOne}
use Rattle.flow_world_parts.specs.declared.close.Close.{Close}
use Rattle.flow_world_parts.specs.declared.close.Close.TheVariants as close

abbrev phase_of : Close → Phase
phase_of (close.Waiting moment) = waits moment
phase_of (close.Asked issue) = looked
phase_of other = rests

stands_so : (w : World) (c : Close) → IsClose c w → w.phase ≡ phase_of c
stands_so w (close.Ended well) is = is.turn.phase
stands_so w close.Paused is = is.turn.phase
stands_so w (close.Waiting moment) is = is
stands_so w close.Flooded is = is.phase
stands_so w (close.Asked issue) is = is.untold.idle.has_looked.phase

same_phase : (w : World) (c d : Close) → IsClose c w → IsClose d w → phase_of c ≡ phase_of d
same_phase w c d one other = sym (stands_so w c one) ∙ stands_so w d other

same_some : {T : Type 0} (o : Option T) (a b : T) → o ≡ Some a → o ≡ Some b → a ≡ b
same_some o a b e f = let g : Some a ≡ Some b = sym e ∙ f in cc

not_none : {T : Type 0} (o : Option T) (a : T) → o ≡ Some a → o ≡ None → ⊥
not_none o a e f = let g : Some a ≡ None = sym e ∙ f in cc

pub closes_are_one : ClosesAreOne
closes_are_one w (close.Ended a) (close.Ended b) one other = ap (λ (x : Bool). close.Ended x) (same_some (outcome w.engine.history.seen.lists) a b one.outcome_is other.outcome_is)
closes_are_one w (close.Ended a) close.Paused one other = absurd (not_none (outcome w.engine.history.seen.lists) a one.outcome_is other.goes_on)
closes_are_one w (close.Ended a) close.Flooded one other = absurd (omega (arith, one.turn.calm, other.many))
closes_are_one w (close.Ended a) (close.Waiting m) one other = absurd (let e : rests ≡ waits m = same_phase w (close.Ended a) (close.Waiting m) one other in cc)
closes_are_one w (close.Ended a) (close.Asked n) one other = absurd (let e : rests ≡ looked = same_phase w (close.Ended a) (close.Asked n) one other in cc)
closes_are_one w close.Paused (close.Ended b) one other = absurd (not_none (outcome w.engine.history.seen.lists) b other.outcome_is one.goes_on)
closes_are_one w close.Paused close.Paused one other = refl
closes_are_one w close.Paused close.Flooded one other = absurd (omega (arith, one.turn.calm, other.many))
closes_are_one w close.Paused (close.Waiting m) one other = absurd (let e : rests ≡ waits m = same_phase w close.Paused (close.Waiting m) one other in cc)
closes_are_one w close.Paused (close.Asked n) one other = absurd (let e : rests ≡ looked = same_phase w close.Paused (close.Asked n) one other in cc)
closes_are_one w (close.Waiting k) (close.Ended b) one other = absurd (let e : waits k ≡ rests = same_phase w (close.Waiting k) (close.Ended b) one other in cc)
closes_are_one w (close.Waiting k) close.Paused one other = absurd (let e : waits k ≡ rests = same_phase w (close.Waiting k) close.Paused one other in cc)
closes_are_one w (close.Waiting k) close.Flooded one other = absurd (let e : waits k ≡ rests = same_phase w (close.Waiting k) close.Flooded one other in cc)
closes_are_one w (close.Waiting k) (close.Waiting m) one other = let e : waits k ≡ waits m = sym one ∙ other in ap (λ (x : ℕ). close.Waiting x) (moment_is e)
  where
    moment_is : waits k ≡ waits m → k ≡ m
    moment_is e = cc
closes_are_one w (close.Waiting k) (close.Asked n) one other = absurd (let e : waits k ≡ looked = same_phase w (close.Waiting k) (close.Asked n) one other in cc)
closes_are_one w close.Flooded (close.Ended b) one other = absurd (omega (arith, other.turn.calm, one.many))
closes_are_one w close.Flooded close.Paused one other = absurd (omega (arith, other.turn.calm, one.many))
closes_are_one w close.Flooded close.Flooded one other = refl
closes_are_one w close.Flooded (close.Waiting m) one other = absurd (let e : rests ≡ waits m = same_phase w close.Flooded (close.Waiting m) one other in cc)
closes_are_one w close.Flooded (close.Asked n) one other = absurd (let e : rests ≡ looked = same_phase w close.Flooded (close.Asked n) one other in cc)
closes_are_one w (close.Asked k) (close.Ended b) one other = absurd (let e : looked ≡ rests = same_phase w (close.Asked k) (close.Ended b) one other in cc)
closes_are_one w (close.Asked k) close.Paused one other = absurd (let e : looked ≡ rests = same_phase w (close.Asked k) close.Paused one other in cc)
closes_are_one w (close.Asked k) close.Flooded one other = absurd (let e : looked ≡ rests = same_phase w (close.Asked k) close.Flooded one other in cc)
closes_are_one w (close.Asked k) (close.Waiting m) one other = absurd (let e : looked ≡ waits m = same_phase w (close.Asked k) (close.Waiting m) one other in cc)
closes_are_one w (close.Asked k) (close.Asked n) one other = ap (λ (x : ℕ). close.Asked x) (same_some (asks w.engine.history.seen) k n one.least other.least)

no_close : (c : Close) (cause : Cause) (lacks : Bool) → phase_of c ≡ refused cause lacks → ⊥
no_close (close.Ended well) cause lacks e = let f : rests ≡ refused cause lacks = e in cc
no_close close.Paused cause lacks e = let f : rests ≡ refused cause lacks = e in cc
no_close (close.Waiting m) cause lacks e = let f : waits m ≡ refused cause lacks = e in cc
no_close close.Flooded cause lacks e = let f : rests ≡ refused cause lacks = e in cc
no_close (close.Asked n) cause lacks e = let f : looked ≡ refused cause lacks = e in cc

pub closes_are_no_refusals : ClosesAreNoRefusals
closes_are_no_refusals w c error is refuses = no_close c refuses.cause refuses.lacks (sym (stands_so w c is) ∙ refuses.phase)
