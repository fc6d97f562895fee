-- Beside how many filters a session stands.
use Rattle.std.proofs.Common.{◌≡◌, ◌⊎◌, inl, inr, ℕ, zero, suc, ◌-◌, ◌<◌, List, [], ◌∷◌, length, refl, sym, ◌∙◌, arith, All}
use Rattle.std.specs.Prelude.{Some, slice_get}
use Rattle.std.proofs.lemmas.List.Elements.{All-weaker}
use Rattle.std.proofs.lemmas.Option.{none-some}
use Rattle.cacao_site.specs.View.{SiteView}
use Rattle.cacao_site.specs.declared.parcel.Parcel.{Parcel}
use Rattle.slpf_actuator.specs.ActuatorView.{ActuatorView}
use Rattle.flow_world_steps.specs.Handled.{DropsUnaddressed, Handles, HasItsAct, IsCommand}
use Rattle.flow_world_steps.specs.Sides.{AreFilters, FiltersReady}
use Rattle.flow_world_steps.specs.Steps.{IsAddressed, LacksFilter, Steps}
use Rattle.flow_world_steps.specs.Worlds.{HasAllFilters, World}
use Rattle.flow_world_steps.proofs.Grown.{steps_grow_filters}

-- ---- filters that are ready

pub ready_are_all : (filters : List ActuatorView) (site : SiteView) → length filters ≡ 16 → FiltersReady filters site → AreFilters filters site
ready_are_all filters site all ready = record { all = all; each = ready.each }

-- ---- as many as before

pub steps_have_all : (a b : World) → HasAllFilters a → Steps a b → HasAllFilters b
steps_have_all a b all steps = (steps_grow_filters a b steps).many ∙ all

-- ---- where all stand, no command lacks one

some_at : {T : Type 0} (xs : List T) (k : ℕ) → k < length xs → (x : T) × (slice_get xs k ≡ Some x)
some_at [] k lt = absurd (omega (arith, lt))
some_at (x ∷ xs) zero lt = (x, refl)
some_at (x ∷ xs) (suc k) lt = some_at xs k (omega (arith, lt))

pub filter_there : (w : World) (parcel : Parcel) → HasAllFilters w → IsAddressed parcel → (v : ActuatorView) × (slice_get w.filters (parcel.agent - 1) ≡ Some v)
filter_there w parcel all addressed =
    let few : length w.filters ≡ 16 = all in
    some_at w.filters (parcel.agent - 1) (omega (arith, few, addressed.low, addressed.high))

pub none_lacks : (w : World) (parcel : Parcel) → HasAllFilters w → LacksFilter w parcel → ⊥
none_lacks w parcel all lacks = let there = filter_there w parcel all lacks.addressed in none-some there.0 (sym lacks.none ∙ there.1)

-- so only a parcel for no agent, or with too many bytes, is dropped there
pub dropped_for_none : (w : World) (parcel : Parcel) → HasAllFilters w → (IsAddressed parcel → ⊥) ⊎ LacksFilter w parcel → IsAddressed parcel → ⊥
dropped_for_none w parcel all (inl not) = not
dropped_for_none w parcel all (inr lacks) = absurd (none_lacks w parcel all lacks)

pub drops_unaddressed : DropsUnaddressed
drops_unaddressed beat parcel old new all is = dropped_for_none old parcel all is.why

-- and each command that was handed on has its act
act_of : (w : World) (parcel : Parcel) → HasAllFilters w → HasItsAct w parcel ⊎ LacksFilter w parcel → HasItsAct w parcel
act_of w parcel all (inl is) = is
act_of w parcel all (inr lacks) = absurd (none_lacks w parcel all lacks)

pub commands_acted : (a b : World) (h : Handles a b) → HasAllFilters b → All (λ e. IsCommand e.1 → HasItsAct b e.1) h.handled
commands_acted a b h all = All-weaker (λ e. IsCommand e.1 → HasItsAct b e.1 ⊎ LacksFilter b e.1) (λ e. IsCommand e.1 → HasItsAct b e.1)
    (λ e done command. act_of b e.1 all (done command)) h.handled h.commands
