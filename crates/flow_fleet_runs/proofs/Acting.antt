-- How each act that a fleet appended came.
use Rattle.std.proofs.Common.{◌≡◌, ◌⊎◌, inl, inr, ℕ, List, [], ◌∷◌, ◌++◌, length, refl, sym, ◌∙◌, subst, ap, arith}
use Rattle.std.specs.Prelude.{max}
use Rattle.std.proofs.lemmas.Bool.{cases_lt}
use Rattle.std.proofs.lemmas.List.{append_assoc, length-append}
use Rattle.cacao_site.specs.declared.parcel.Parcel.{Parcel}
use Rattle.run_records.specs.declared.act.Act.{Act}
use Rattle.run_records.specs.declared.record.Record.{Record}
use Rattle.slpf_actuator.specs.ActLists.{moment_of_last}
use Rattle.slpf_actuator.specs.ActuatorView.{ActuatorView, act_for}
use Rattle.flow_world_steps.specs.Appends.{Tries}
use Rattle.flow_world_steps.specs.Appends.Tries.{done, failed, limited}
use Rattle.flow_world_steps.specs.Steps.{ActsOn}
use Rattle.flow_world_steps.specs.Worlds.{Notes, World}
use Rattle.flow_world_steps.proofs.Came.{last_of, same_last}
use Rattle.flow_world_steps.proofs.Failing.{fails_notes}
use Rattle.flow_fleet_steps.specs.Steps.{FiltersDo, FleetStep, FleetSteps}
use Rattle.flow_fleet_steps.specs.Steps.FleetStep.{opens_clock, finds_run_used, asks_clock, finds_late, begins, moves, expires, says, fails_to_say, puts_first, resends}
use Rattle.flow_fleet_steps.specs.Steps.FleetStep.{takes, finds_none, fails_to_take, drops, replies, ignores_reply, acts_on, repeats_reply, fails_to_act, wants_memory_now}
use Rattle.flow_fleet_steps.specs.Steps.FleetSteps.{nothing, and_then}
use Rattle.flow_fleet_steps.specs.Worlds.{FleetWorld, Shared}
use Rattle.flow_fleet_runs.specs.Moments.{EachFleetActed, FleetActedByStep, IsActInTime}

-- a filter acted on the command in hand
record Acted (old new : FleetWorld) : Type 0 where
  pub beat : ℕ
  pub parcel : Parcel
  pub v : ActuatorView
  pub w : ActuatorView
  pub acts : FiltersDo (ActsOn beat parcel v w) old new
  pub more : new.notes.acted ≡ old.notes.acted ++ (parcel.agent, act_for v.acts parcel old.site.clock.now) ∷ []

-- or no act was appended
abbrev ActsGrow : FleetWorld → FleetWorld → Type 0
ActsGrow old new = (new.notes.acted ≡ old.notes.acted) ⊎ Acted old new

same_acts : (old new : FleetWorld) → new.notes ≡ old.notes → ActsGrow old new
same_acts old new e = inl (ap (λ (n : Shared). n.acted) e)

tried_acts : (IsNext : Record → Type 0) (old new : World) → Tries IsNext old new → new.notes.acted ≡ old.notes.acted
tried_acts IsNext old new (done is) = ap (λ (n : Notes). n.acted) is.notes
tried_acts IsNext old new (failed is) = ap (λ (n : Notes). n.acted) is.notes
tried_acts IsNext old new (limited what is) = ap (λ (n : Notes). n.acted) is.notes

step_acts : (old new : FleetWorld) → FleetStep old new → ActsGrow old new
step_acts old new (opens_clock answer is) = inl (ap (λ (n : Shared). n.acted) is.goes.notes)
step_acts old new (finds_run_used place agent is) = same_acts old new is.only.notes
step_acts old new (asks_clock moment answer is) = inl (ap (λ (n : Shared). n.acted) is.goes.notes)
step_acts old new (finds_late moment is) = same_acts old new is.only.notes
step_acts old new (begins place is) = inl (tried_acts _ _ _ is.does.does.tries)
step_acts old new (moves place is) = inl (tried_acts _ _ _ is.does.does.tries)
step_acts old new (expires place issue is) = inl (tried_acts _ _ _ is.does.does.tries)
step_acts old new (says place v bytes is) = same_acts old new is.speaks.notes
step_acts old new (fails_to_say place v bytes is) = same_acts old new is.speaks.notes
step_acts old new (puts_first place issue is) = inl (ap (λ (n : Notes). n.acted) is.does.does.puts.notes)
step_acts old new (resends place issue is) = inl (ap (λ (n : Notes). n.acted) is.does.does.puts.notes)
step_acts old new (takes parcel is) = same_acts old new is.notes
step_acts old new (finds_none is) = same_acts old new is.notes
step_acts old new (fails_to_take is) = same_acts old new is.notes
step_acts old new (drops beat parcel is) = inl (ap (λ (n : Shared). n.acted) is.ignores.notes)
step_acts old new (replies beat parcel place is) = inl (tried_acts _ _ _ is.does.does.tries)
step_acts old new (ignores_reply beat parcel is) = inl (ap (λ (n : Shared). n.acted) is.ignores.notes)
step_acts old new (acts_on beat parcel v w is) =
    inr (record { beat = beat; parcel = parcel; v = v; w = w; acts = is; more = ap (λ (n : Notes). n.acted) is.does.notes })
step_acts old new (repeats_reply beat parcel v w is) = inl (ap (λ (n : Notes). n.acted) is.does.ignores.notes)
step_acts old new (fails_to_act beat parcel v w error cause is) = inl (ap (λ (n : Notes). n.acted) (fails_notes error parcel v _ _ is.does.notes))
step_acts old new (wants_memory_now is) = same_acts old new is.only.notes

-- ---- its moment

in_time : (now : ℕ) (acts : List Act) (parcel : Parcel) → IsActInTime now acts (act_for acts parcel now)
in_time now acts parcel =
    let is : (act_for acts parcel now).moment ≡ max now (moment_of_last acts) = refl in
    record {
      no_earlier = omega (arith, is);
      behind = omega (arith, is);
      one = elim (cases_lt now (moment_of_last acts)) [ inl before ↦ inr (omega (arith, is, before)) | inr past ↦ inl (omega (arith, is, past)) ];
    }

-- ---- all calls

too_long : (a front back : List (ℕ × Act)) (e : ℕ × Act) → a ≡ (a ++ front) ++ e ∷ back → ⊥
too_long a front back e is = let long = ap (λ (l : List (ℕ × Act)). length l) is in absurd (omega (arith, long, length-append (a ++ front) (e ∷ back), length-append a front))

later : (a mid b : FleetWorld) (front : List (ℕ × Act)) (e : ℕ × Act) → FleetStep mid b → FleetActedByStep a mid front e → FleetActedByStep a b front e
later a mid b front e step is = record {
  old = is.old;
  new = is.new;
  before = is.before;
  after = and_then is.after step;
  beat = is.beat;
  parcel = is.parcel;
  v = is.v;
  w = is.w;
  acts = is.acts;
  was = is.was;
  is = is.is;
  in_time = is.in_time;
}

last_acted : (a mid b : FleetWorld) (front : List (ℕ × Act)) (e : ℕ × Act) → FleetSteps a mid → (is : Acted mid b) → mid.notes.acted ≡ a.notes.acted ++ front
    → (is.parcel.agent, act_for is.v.acts is.parcel mid.site.clock.now) ≡ e → FleetActedByStep a b front e
last_acted a mid b front e steps is was same = record {
  old = mid;
  new = b;
  before = steps;
  after = nothing;
  beat = is.beat;
  parcel = is.parcel;
  v = is.v;
  w = is.w;
  acts = is.acts;
  was = was;
  is = sym same;
  in_time = subst (λ (x : ℕ × Act). IsActInTime mid.site.clock.now is.v.acts x.1) same (in_time mid.site.clock.now is.v.acts is.parcel);
}

pub fleets_acted : EachFleetActed
fleets_acted a b nothing front back e split = absurd (too_long a.notes.acted front back e split)
fleets_acted a b (and_then {mid} steps step) front back e split = elim (step_acts mid b step) [
  | inl same ↦ later a mid b front e step (fleets_acted a mid steps front back e (sym same ∙ split))
  | inr is ↦ elim (last_of back) [
    | inl none ↦
        let last = same_last mid.notes.acted (a.notes.acted ++ front) (is.parcel.agent, act_for is.v.acts is.parcel mid.site.clock.now) e
        (sym is.more ∙ split ∙ ap (λ (l : List (ℕ × Act)). (a.notes.acted ++ front) ++ e ∷ l) none) in
        last_acted a mid b front e steps is last.0 last.1
    | inr some ↦
        let whole : (a.notes.acted ++ front) ++ e ∷ back ≡ ((a.notes.acted ++ front) ++ e ∷ some.0) ++ some.1 ∷ [] =
        ap (λ (l : List (ℕ × Act)). (a.notes.acted ++ front) ++ e ∷ l) some.2 ∙ sym (append_assoc (a.notes.acted ++ front) (e ∷ some.0) (some.1 ∷ [])) in
        let last = same_last mid.notes.acted ((a.notes.acted ++ front) ++ e ∷ some.0) (is.parcel.agent, act_for is.v.acts is.parcel mid.site.clock.now) some.1 (sym is.more ∙ split ∙ whole) in
        later a mid b front e step (fleets_acted a mid steps front some.0 e last.0)
  ]
]
