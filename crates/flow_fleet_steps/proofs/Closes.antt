-- A fleet closes in one way only, and where it closes it does not refuse.
use Rattle.std.proofs.Common.{◌≡◌, inl, inr, ℕ, ◌<◌, Bool, refl, sym, ◌∙◌, subst, ap, arith}
use Rattle.std.specs.Prelude.{Option, Some, None, slice_get}
use Rattle.std.proofs.lemmas.Bool.{cases_lt}
use Rattle.flow_core_rules.specs.Moves.{asks}
use Rattle.flow_world_steps.specs.EngineView.{EngineView}
use Rattle.flow_laws.proofs.Basics.{same_some}
use Rattle.flow_world_steps.specs.Worlds.{Cause, Phase, looked, refused, rests, waits}
use Rattle.flow_fleet_steps.specs.Closes.{HasEnded, IsAsking, IsFleetClose, IsFlooded, IsPaused, TellsFailed}
use Rattle.flow_fleet_steps.specs.Laws.{ClosesAreNoRefusals, ClosesAreOne}
use Rattle.flow_fleet_steps.specs.Worlds.{FleetWorld}
use Rattle.flow_fleet_steps.specs.declared.close.FleetClose.{FleetClose}
use Rattle.flow_fleet_steps.specs.declared.close.FleetClose.TheVariants as close

-- the phase of each close
abbrev ClosePhase : FleetClose → Phase → Type 0
ClosePhase (close.Waiting moment) p = p ≡ waits moment
ClosePhase (close.Asked run issue) p = p ≡ looked
ClosePhase other p = p ≡ rests

close_phase : (c : FleetClose) (w : FleetWorld) → IsFleetClose c w → ClosePhase c w.phase
close_phase (close.Ended failed) w is = is.turn.phase
close_phase close.Paused w is = elim is.more [ inl begin ↦ begin.phase | inr goes ↦ goes.turn.phase ]
close_phase (close.Waiting moment) w is = is
close_phase close.Flooded w is = is.phase
close_phase (close.Asked run issue) w is = is.idle.has_looked.phase

-- ---- one place

one_engine : (w : FleetWorld) (place : ℕ) (v x : EngineView) → slice_get w.engines place ≡ Some v → slice_get w.engines place ≡ Some x → v ≡ x
one_engine w place v x a b = same_some (sym a ∙ b)

same_place : (a b : ℕ) → (a < b → ⊥) → (b < a → ⊥) → a ≡ b
same_place a b less more = elim (cases_lt a b) [
  | inl lt ↦ absurd (less lt)
  | inr ge ↦ elim (cases_lt b a) [ inl lt ↦ absurd (more lt) | inr le ↦ omega (arith, ge, le) ]
]

-- the first that failed is one
one_failed : (w : FleetWorld) (a b : Option ℕ) → TellsFailed w a → TellsFailed w b → a ≡ b
one_failed w None None x y = refl
one_failed w None (Some b) x y = absurd (x y.place (record { v = y.failed.v; there = y.failed.there; has = y.failed.has.0 }))
one_failed w (Some a) None x y = absurd (y x.place (record { v = x.failed.v; there = x.failed.there; has = x.failed.has.0 }))
one_failed w (Some a) (Some b) x y =
    let same : x.place ≡ y.place = same_place x.place y.place
    (λ lt. y.lower x.place lt (record { v = x.failed.v; there = x.failed.there; has = x.failed.has.0 }))
    (λ lt. x.lower y.place lt (record { v = y.failed.v; there = y.failed.there; has = y.failed.has.0 })) in
    let one : x.failed.v ≡ y.failed.v = one_engine w y.place x.failed.v y.failed.v (subst (λ (p : ℕ). slice_get w.engines p ≡ Some x.failed.v) same x.failed.there) y.failed.there in
    ap Some (sym x.failed.has.1 ∙ ap (λ (v : EngineView). v.history.seen.run) one ∙ y.failed.has.1)

-- and so is the first that asks
one_asked : (w : FleetWorld) (run issue number other : ℕ) → IsAsking w run issue → IsAsking w number other → close.Asked run issue ≡ close.Asked number other
one_asked w run issue number other x y =
    let same : x.place ≡ y.place = same_place x.place y.place
    (λ lt. none_and_some (asks x.least.v.history.seen) issue (y.lower x.place x.least.v lt x.least.there) x.least.has.0)
    (λ lt. none_and_some (asks y.least.v.history.seen) other (x.lower y.place y.least.v lt y.least.there) y.least.has.0) in
    let one : x.least.v ≡ y.least.v = one_engine w y.place x.least.v y.least.v (subst (λ (p : ℕ). slice_get w.engines p ≡ Some x.least.v) same x.least.there) y.least.there in
    let run_is : run ≡ number = sym x.least.has.1 ∙ ap (λ (v : EngineView). v.history.seen.run) one ∙ y.least.has.1 in
    let issue_is : issue ≡ other = same_some (sym x.least.has.0 ∙ ap (λ (v : EngineView). asks v.history.seen) one ∙ y.least.has.0) in
    ap (λ (n : ℕ). close.Asked n issue) run_is ∙ ap (λ (n : ℕ). close.Asked number n) issue_is
  where
    none_and_some : (o : Option ℕ) (n : ℕ) → o ≡ None → o ≡ Some n → ⊥
    none_and_some o n e f = let g : None ≡ Some n = sym e ∙ f in cc

-- ---- two closes at rest

ended_paused : (w : FleetWorld) (failed : Option ℕ) → HasEnded w failed → IsPaused w → ⊥
ended_paused w failed ended paused = elim paused.more [
  | inl begin ↦ (ended.turn.settled begin.place begin.empty.v begin.empty.there).up.begun begin.empty.has
  | inr goes ↦ ended.ended goes.place goes.goes_on
]

ended_flooded : (w : FleetWorld) (failed : Option ℕ) → HasEnded w failed → IsFlooded w → ⊥
ended_flooded w failed ended flooded = let calm = ended.turn.calm in let many = flooded.many in absurd (omega (arith, calm, many))

paused_flooded : (w : FleetWorld) → IsPaused w → IsFlooded w → ⊥
paused_flooded w paused flooded = elim paused.more [
  | inl begin ↦ let calm = begin.calm in let many = flooded.many in absurd (omega (arith, calm, many))
  | inr goes ↦ let calm = goes.turn.calm in let many = flooded.many in absurd (omega (arith, calm, many))
]

rests_waits : (p : Phase) (moment : ℕ) → p ≡ rests → p ≡ waits moment → ⊥
rests_waits p moment e f = let g : rests ≡ waits moment = sym e ∙ f in cc

rests_looked : (p : Phase) → p ≡ rests → p ≡ looked → ⊥
rests_looked p e f = let g : rests ≡ looked = sym e ∙ f in cc

waits_looked : (p : Phase) (moment : ℕ) → p ≡ waits moment → p ≡ looked → ⊥
waits_looked p moment e f = let g : waits moment ≡ looked = sym e ∙ f in cc

one_moment : (p : Phase) (a b : ℕ) → p ≡ waits a → p ≡ waits b → a ≡ b
one_moment p a b e f = let g : waits a ≡ waits b = sym e ∙ f in cc

pub closes_are_one : ClosesAreOne
closes_are_one w (close.Ended a) (close.Ended b) x y = ap close.Ended (one_failed w a b x.tells y.tells)
closes_are_one w (close.Ended a) close.Paused x y = absurd (ended_paused w a x y)
closes_are_one w (close.Ended a) (close.Waiting m) x y = absurd (rests_waits w.phase m x.turn.phase y)
closes_are_one w (close.Ended a) close.Flooded x y = absurd (ended_flooded w a x y)
closes_are_one w (close.Ended a) (close.Asked run issue) x y = absurd (rests_looked w.phase x.turn.phase y.idle.has_looked.phase)
closes_are_one w close.Paused (close.Ended b) x y = absurd (ended_paused w b y x)
closes_are_one w close.Paused close.Paused x y = refl
closes_are_one w close.Paused (close.Waiting m) x y = absurd (rests_waits w.phase m (close_phase close.Paused w x) y)
closes_are_one w close.Paused close.Flooded x y = absurd (paused_flooded w x y)
closes_are_one w close.Paused (close.Asked run issue) x y = absurd (rests_looked w.phase (close_phase close.Paused w x) y.idle.has_looked.phase)
closes_are_one w (close.Waiting m) (close.Ended b) x y = absurd (rests_waits w.phase m y.turn.phase x)
closes_are_one w (close.Waiting m) close.Paused x y = absurd (rests_waits w.phase m (close_phase close.Paused w y) x)
closes_are_one w (close.Waiting m) (close.Waiting n) x y = ap close.Waiting (one_moment w.phase m n x y)
closes_are_one w (close.Waiting m) close.Flooded x y = absurd (rests_waits w.phase m y.phase x)
closes_are_one w (close.Waiting m) (close.Asked run issue) x y = absurd (waits_looked w.phase m x y.idle.has_looked.phase)
closes_are_one w close.Flooded (close.Ended b) x y = absurd (ended_flooded w b y x)
closes_are_one w close.Flooded close.Paused x y = absurd (paused_flooded w y x)
closes_are_one w close.Flooded (close.Waiting m) x y = absurd (rests_waits w.phase m x.phase y)
closes_are_one w close.Flooded close.Flooded x y = refl
closes_are_one w close.Flooded (close.Asked run issue) x y = absurd (rests_looked w.phase x.phase y.idle.has_looked.phase)
closes_are_one w (close.Asked run issue) (close.Ended b) x y = absurd (rests_looked w.phase y.turn.phase x.idle.has_looked.phase)
closes_are_one w (close.Asked run issue) close.Paused x y = absurd (rests_looked w.phase (close_phase close.Paused w y) x.idle.has_looked.phase)
closes_are_one w (close.Asked run issue) (close.Waiting m) x y = absurd (waits_looked w.phase m y x.idle.has_looked.phase)
closes_are_one w (close.Asked run issue) close.Flooded x y = absurd (rests_looked w.phase y.phase x.idle.has_looked.phase)
closes_are_one w (close.Asked run issue) (close.Asked number other) x y = one_asked w run issue number other x y

-- ---- refusals

not_refused : (c : FleetClose) (p : Phase) (cause : Cause) (lacks : Bool) → ClosePhase c p → p ≡ refused cause lacks → ⊥
not_refused (close.Ended failed) p cause lacks e f = let g : rests ≡ refused cause lacks = sym e ∙ f in cc
not_refused close.Paused p cause lacks e f = let g : rests ≡ refused cause lacks = sym e ∙ f in cc
not_refused (close.Waiting moment) p cause lacks e f = let g : waits moment ≡ refused cause lacks = sym e ∙ f in cc
not_refused close.Flooded p cause lacks e f = let g : rests ≡ refused cause lacks = sym e ∙ f in cc
not_refused (close.Asked run issue) p cause lacks e f = let g : looked ≡ refused cause lacks = sym e ∙ f in cc

pub closes_are_no_refusals : ClosesAreNoRefusals
closes_are_no_refusals w c error closes refuses = not_refused c w.phase refuses.cause refuses.lacks (close_phase c w closes) refuses.phase
