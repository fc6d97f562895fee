-- The opening of a fleet's files leaves of each file's images only such as it had.
use Rattle.std.proofs.Common.{inl, inr, ℕ, ◌+◌, List, refl, ap, subst, IsTrue, arith}
use Rattle.cacao_site.specs.View.{SiteView}
use Rattle.cacao_site.specs.DiskCalls.{IsLeft}
use Rattle.cacao_site.specs.RunViews.{file_of}
use Rattle.cacao_site.proofs.Beats.{goes_on-refl, told-goes_on}
use Rattle.flow_world_steps.specs.EngineView.{EngineView}
use Rattle.flow_fleet_sessions.specs.Openings.{OpensFile, RefusesFilters}
use Rattle.flow_fleet_sessions.specs.WorldError.{WorldError}
use Rattle.flow_fleet_laws.specs.Shrinking.{OnlyShrinks}
use Rattle.flow_fleet_laws.specs.Views.{seen_from}
use Rattle.flow_fleet_laws.proofs.Shrinking.{file_shrinks, shrinks_on}
use Rattle.flow_fleet_sessions.proofs.Openings.{filters_open}
use Rattle.flow_fleet_steps.specs.Laws.{OpeningsShrink}
use Rattle.flow_fleet_steps.specs.Openings.{OpensJournals, RefusesFleetOpening, Runs}
use Rattle.flow_fleet_steps.specs.Openings.OpensJournals.{nothing, and_then}
use Rattle.flow_fleet_steps.specs.declared.error.FleetError.{FleetError}
use Rattle.flow_fleet_steps.proofs.Back.{only_back}

shrinks_not : (site : SiteView) → OnlyShrinks site site
shrinks_not site = record {
  goes_on = goes_on-refl site.disk;
  images = λ file beat image from to left. subst IsTrue (ap (λ (n : ℕ). site.disk.left file n image) (omega (arith, from, to))) left;
  puts = refl;
  said = refl;
}

told_on : (old new : SiteView) → OnlyShrinks old new → IsTrue old.disk.told → IsTrue new.disk.told
told_on old new only told = told-goes_on only.goes_on told

-- one journal was opened, as its run sees the rack
journal_opens : (place : ℕ) (old new : SiteView) → IsTrue old.disk.told → OpensFile 0 (seen_from place old) (seen_from place new) → OnlyShrinks old new
journal_opens place old new told opens =
    file_shrinks (file_of place) old new told (only_back place (IsLeft old.disk (file_of place) old.disk.beat) old new opens.only)

journals_open : (runs : Runs) (start : SiteView) (many : ℕ) (site : SiteView) (engines : List EngineView) → IsTrue start.disk.told → OpensJournals runs start many site engines → OnlyShrinks start site
journals_open runs start many site engines told nothing = shrinks_not start
journals_open runs start many site engines told (and_then {n} {old} {new} {before} run given v was there is) =
    let first = journals_open runs start n old before told was in
    shrinks_on start old new first (journal_opens n old new (told_on start old first told) is.opens)

filters_refused : (error : WorldError) (old new : SiteView) → IsTrue old.disk.told → RefusesFilters error old new → OnlyShrinks old new
filters_refused error old new told refuses =
    let one = filters_open refuses.agent old refuses.middle refuses.filters told refuses.before in
    shrinks_on old refuses.middle new one (file_shrinks (refuses.agent + 1) refuses.middle new (told_on old refuses.middle one told) refuses.refuses.opens.only)

refused : (error : FleetError) (runs : Runs) (old new : SiteView) → IsTrue old.disk.told → RefusesFleetOpening error runs old new → OnlyShrinks old new
refused error runs old new told (inl first) =
    let one = journals_open runs old first.place first.middle first.engines told first.before in
    shrinks_on old first.middle new one (journal_opens first.place first.middle new (told_on old first.middle one told) first.refuses.opens)
refused error runs old new told (inr second) =
    let one = journals_open runs old _ second.middle second.engines told second.journals in
    shrinks_on old second.middle new one (filters_refused second.why second.middle new (told_on old second.middle one told) second.refuses)

pub openings_shrink : OpeningsShrink
openings_shrink error runs old new told = (
  λ engines filters files.
      let one = journals_open runs old _ files.middle engines told files.journals in
      shrinks_on old files.middle new one (filters_open 16 files.middle new filters (told_on old files.middle one told) files.others),
  refused error runs old new told,
)
