-- A whole fleet, from what followed once its files were open.
use Rattle.std.proofs.Common.{◌≡◌, ◌≢◌, inl, inr, ℕ, zero, suc, ◌≤◌, List, [], ◌∷◌, length, refl, sym, ◌∙◌, subst, ap, arith}
use Rattle.std.specs.Prelude.{Result, Ok, Err, IfOk, IfErr, IsSome, IsTrue}
use Rattle.cacao_site.specs.Sound.{IsSound}
use Rattle.cacao_site.specs.View.{SiteView}
use Rattle.flow_engine.specs.EngineView.{EngineView}
use Rattle.slpf_actuator.specs.ActuatorView.{ActuatorView}
use Rattle.flow_world_steps.specs.Worlds.{opened}
use Rattle.flow_fleet_laws.specs.Events.{Events}
use Rattle.flow_fleet_laws.specs.Fleets.{AreRuns, IsFleetStart, KeepsEach}
use Rattle.flow_fleet_laws.specs.Speeches.Form.{with_numbers}
use Rattle.flow_fleet_steps.specs.Laws.{FleetWent}
use Rattle.flow_fleet_steps.specs.Openings.{AreFleetOpen, IsFleetOpened, RefusesFleetOpening, Runs, blank_own, blank_shared, numbers}
use Rattle.flow_fleet_steps.specs.Steps.{FleetSteps}
use Rattle.flow_fleet_steps.specs.Worlds.{FleetWorld}
use Rattle.flow_fleet_steps.specs.declared.close.FleetClose.{FleetClose}
use Rattle.flow_fleet_steps.specs.declared.error.FleetError.{FleetError}
use Rattle.flow_fleet_steps.specs.declared.error.FleetError.TheVariants as fleet_error
use Rattle.flow_fleet_steps.proofs.Whole.{fleets_are_events, fleets_keep_each}
use Rattle.flow_fleet.specs.Fleets.{AreFleetRuns, FleetClosed, FleetRefused}
use Rattle.flow_fleet.specs.Leads.{ClosesAt, EndedAt, IsNewTo, RefusesAt, at}
use Rattle.flow_fleet.proofs.OpenLemmas.{files_filters, files_many, files_stand}
use Rattle.flow_fleet.proofs.SteadyLemmas.{fleet_steady}

numbers_many : (runs : Runs) → length (numbers runs) ≡ length runs
numbers_many [] = refl
numbers_many (run ∷ runs) = ap suc (numbers_many runs)

pub are_runs : (runs : Runs) → AreFleetRuns runs → AreRuns with_numbers (numbers runs)
are_runs runs is = record { few = let same = numbers_many runs in let few = is.few in omega (arith, same, few); small = is.small; once = is.once }

pub new_to : (most : ℕ) → IsNewTo most (blank_shared most)
new_to most = record { left = refl; turn = refl; ignored = refl }

module _ (runs : Runs) (most : ℕ) (old site new : SiteView) (engines : List EngineView) (filters : List ActuatorView) (are : AreFleetRuns runs) (files : AreFleetOpen runs old site engines filters) where
  abbrev pub start : FleetWorld
  start = at site engines blank_own filters (blank_shared most) opened 0

  begins : IsFleetOpened start runs most
  begins =
      let all = files_stand runs old site engines filters are.few files in
      record {
        phase = refl;
        many = files_many runs old site engines filters are.few files;
        stands = all.stands;
        of_runs = all.of_runs;
        no_puts = all.no_puts;
        filters = files_filters runs old site engines filters are.few files;
        own = refl;
        notes = refl;
      }

  went : (to : FleetWorld) → FleetSteps start to → to.site ≡ new → FleetWent runs most old new
  went to steps is = record { start = start; files = files; begins = begins; to = to; to_is = is; steps = steps }

  closed : (close : FleetClose) → ClosesAt close new start → FleetClosed close runs most old new
  unfolding went
  closed close is = record { went = went is.to is.steps is.left_is; closes = is.closes }

  refused : (error : FleetError) → RefusesAt error new start → FleetRefused error runs most old new
  unfolding went
  refused error is = inr (record { went = went is.to is.steps is.left_is; refuses = is.refuses })

  pub each_closed : (result : Result FleetClose FleetError) → EndedAt result new start → IfOk result (λ close. FleetClosed close runs most old new)
  each_closed (Ok close) is = closed close is
  each_closed (Err error) is = tt

  pub each_refused : (result : Result FleetClose FleetError) → EndedAt result new start → IfErr result (λ error. FleetRefused error runs most old new)
  each_refused (Ok close) is = tt
  each_refused (Err error) is = refused error is

  pub each_went : (result : Result FleetClose FleetError) → EndedAt result new start → FleetWent runs most old new
  each_went (Ok close) is = went is.to is.steps is.left_is
  each_went (Err error) is = went is.to is.steps is.left_is

  pub each_steady : (result : Result FleetClose FleetError) → EndedAt result new start → result ≢ Err fleet_error.Disk → new.disk.faults ≡ old.disk.faults
  each_steady result is other = fleet_steady runs most old new result (each_closed result is) (each_refused result is) other

  pub each_events : (result : Result FleetClose FleetError) → EndedAt result new start → IsSound old → IsTrue old.disk.told → IsSome old.link.puts → IsSome old.link.pending → Events with_numbers (numbers runs) old new
  each_events result is sound told puts pending = fleets_are_events fleet_error.Memory runs most old new sound told puts pending (inl (each_went result is))

  pub each_agrees : (result : Result FleetClose FleetError) → EndedAt result new start → IsSound old → IsFleetStart old (numbers runs) → KeepsEach (numbers runs) old new
  each_agrees result is sound begin = fleets_keep_each fleet_error.Memory runs most old new sound (are_runs runs are) begin (inl (each_went result is))

-- the opening refused
pub refused_events : (error : FleetError) (runs : Runs) (most : ℕ) (old new : SiteView) → IsSound old → RefusesFleetOpening error runs old new → IsTrue old.disk.told → IsSome old.link.puts → IsSome old.link.pending
    → Events with_numbers (numbers runs) old new
refused_events error runs most old new sound refuses told puts pending = fleets_are_events error runs most old new sound told puts pending (inr refuses)

pub refused_agrees : (error : FleetError) (runs : Runs) (most : ℕ) (old new : SiteView) → AreFleetRuns runs → IsSound old → RefusesFleetOpening error runs old new → IsFleetStart old (numbers runs) → KeepsEach (numbers runs) old new
refused_agrees error runs most old new are sound refuses begin = fleets_keep_each error runs most old new sound (are_runs runs are) begin (inr refuses)
