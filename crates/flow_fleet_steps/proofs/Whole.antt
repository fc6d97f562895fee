-- A fleet, from the opening of its files on, is calls in a row, and each of its runs keeps agreement.
use Rattle.std.proofs.Common.{◌≡◌, inl, inr, ℕ, List, refl, sym, ◌∙◌, subst, IsTrue}
use Rattle.std.specs.Prelude.{IsSome}
use Rattle.cacao_site.specs.View.{SiteView}
use Rattle.cacao_site.specs.declared.parcel.Parcel.{Parcel}
use Rattle.cacao_site.specs.Sound.{IsSound}
use Rattle.flow_world_steps.specs.EngineView.{EngineView}
use Rattle.flow_world_steps.specs.Worlds.{Phase, holds, opened}
use Rattle.flow_fleet_laws.specs.Events.{Events}
use Rattle.flow_fleet_laws.specs.Events.Event.{shrinks}
use Rattle.flow_fleet_laws.specs.Events.Events.{nothing, and_then}
use Rattle.flow_fleet_laws.specs.Speeches.Form.{with_numbers}
use Rattle.flow_fleet_laws.proofs.Events.{events_keep_fleets}
use Rattle.flow_fleet_sessions.proofs.Calls.{link_stays}
use Rattle.flow_fleet_steps.specs.Laws.{FleetsAreEvents, FleetsKeepEach}
use Rattle.flow_fleet_steps.specs.Openings.{AreFleetOpen, IsFleetOpened, OpensJournals, Runs, numbers}
use Rattle.flow_fleet_steps.specs.Openings.OpensJournals.{nothing as no_journal, and_then as one_journal}
use Rattle.flow_fleet_steps.specs.Worlds.{FleetWorld}
use Rattle.flow_fleet_steps.specs.declared.error.FleetError.{FleetError}
use Rattle.flow_fleet_steps.proofs.Events.{FleetComes, steps_come}
use Rattle.flow_fleet_steps.proofs.Numbers.{opened_for}
use Rattle.flow_fleet_steps.proofs.Openings.{openings_shrink}

empty_opened : (p : Phase) (beat : ℕ) (parcel : Parcel) → p ≡ opened → p ≡ holds beat parcel → ⊥
empty_opened p beat parcel e h = let f : opened ≡ holds beat parcel = sym e ∙ h in cc

-- an opening leaves the link as it was
same_link : (runs : Runs) (start : SiteView) (many : ℕ) (site : SiteView) (engines : List EngineView) → OpensJournals runs start many site engines → site.link ≡ start.link
same_link runs start many site engines no_journal = refl
same_link runs start many site engines (one_journal {n} {old} {new} {before} run given v was there is) = is.opens.only.rest.link ∙ same_link runs start n old before was

opened_comes : (error : FleetError) (runs : Runs) (most : ℕ) (old : SiteView) (w : FleetWorld) → IsSound old → IsTrue old.disk.told → IsSome old.link.puts → IsSome old.link.pending
    → AreFleetOpen runs old w.site w.engines w.filters → IsFleetOpened w runs most → FleetComes old (numbers runs) w
opened_comes error runs most old w sound told puts pending files is = record {
  site = link_stays with_numbers (numbers runs) old old w.site (record { events = nothing; told = told; puts = puts; pending = pending }) sound
      (shrinks ((openings_shrink error runs old w.site told).0 w.engines w.filters files)) (files.others.rest.link ∙ same_link runs old _ files.middle w.engines files.journals);
  numbers = opened_for runs w.engines is.many is.of_runs;
  in_hand = λ beat parcel h. absurd (empty_opened w.phase beat parcel is.phase h);
}

pub fleets_are_events : FleetsAreEvents
fleets_are_events error runs most old new sound told puts pending (inl went) =
    let from = opened_comes error runs most old went.start sound told puts pending went.files went.begins in
    subst (λ (s : SiteView). Events with_numbers (numbers runs) old s) went.to_is (steps_come old (numbers runs) went.start went.to went.steps from).site.events
fleets_are_events error runs most old new sound told puts pending (inr refuses) =
    and_then nothing sound (shrinks ((openings_shrink error runs old new told).1 refuses))

pub fleets_keep_each : FleetsKeepEach
fleets_keep_each error runs most old new sound are begins went =
    events_keep_fleets (numbers runs) old new are begins (fleets_are_events error runs most old new sound begins.told begins.puts begins.pending went)
