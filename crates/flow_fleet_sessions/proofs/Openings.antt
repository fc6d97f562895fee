-- The opening of a session's files leaves of each file's images only such as it had.
use Rattle.std.proofs.Common.{inl, inr, ℕ, ◌+◌, IsTrue}
use Rattle.cacao_site.specs.View.{SiteView}
use Rattle.cacao_site.proofs.Beats.{told-goes_on}
use Rattle.flow_world.specs.Openings.{OpensFile}
use Rattle.flow_fleet_laws.specs.Shrinking.{OnlyShrinks}
use Rattle.flow_fleet_laws.proofs.Shrinking.{file_shrinks, filters_shrink, shrinks_on}
use Rattle.flow_fleet_sessions.specs.Sessions.{FiltersOpen, OpeningsShrink, RefusedOpeningsShrink}

file_opens : (file : ℕ) (old new : SiteView) → IsTrue old.disk.told → OpensFile file old new → OnlyShrinks old new
file_opens file old new told opens = file_shrinks file old new told opens.only

pub filters_open : FiltersOpen
filters_open n old new filters told is =
    filters_shrink n old new is.goes_on (λ file low high beat image from to left. is.images file low high beat image told from to left) is.others is.rest

told_on : (old new : SiteView) → OnlyShrinks old new → IsTrue old.disk.told → IsTrue new.disk.told
told_on old new only told = told-goes_on only.goes_on told

pub openings_shrink : OpeningsShrink
openings_shrink given run old new v filters told is =
    let one = file_opens 0 old is.middle told is.journal.opens in
    shrinks_on old is.middle new one (filters_open 16 is.middle new filters (told_on old is.middle one told) is.others)

pub refused_openings_shrink : RefusedOpeningsShrink
refused_openings_shrink error given run old new told (inl first) = file_opens 0 old new told first.opens
refused_openings_shrink error given run old new told (inr second) =
    let refuses = second.refuses in
    let one = file_opens 0 old second.middle told second.journal.opens in
    let told_one = told_on old second.middle one told in
    let two = filters_open refuses.agent second.middle refuses.middle refuses.filters told_one refuses.before in
    let told_two = told_on second.middle refuses.middle two told_one in
    shrinks_on old second.middle new one
    (shrinks_on second.middle refuses.middle new two (file_opens (refuses.agent + 1) refuses.middle new told_two refuses.refuses.opens))
