-- What the opening of a fleet's files counts.
use Rattle.std.proofs.Common.{◌≡◌, inl, inr, ℕ, List, refl, sym, ◌∙◌, subst, ap}
use Rattle.cacao_site.specs.View.{CountsView, SiteView}
use Rattle.flow_core_rules.specs.Givens.{Given}
use Rattle.flow_engine.specs.EngineView.{EngineView}
use Rattle.flow_engine_history.specs.Openings.{IsRefusedOpening}
use Rattle.flow_engine_history.specs.declared.error.EngineError.{EngineError}
use Rattle.flow_engine_history.specs.declared.error.EngineError.TheVariants as engine_error
use Rattle.slpf_actuator.specs.ActuatorView.{ActuatorView}
use Rattle.flow_world_parts.specs.Errors.{opening_refusal}
use Rattle.flow_world_parts.specs.Openings.{IsFileCause, IsSteady, OpensFilters}
use Rattle.flow_world_parts.specs.declared.error.WorldError.{WorldError}
use Rattle.flow_world_parts.specs.declared.error.WorldError.TheVariants as world_error
use Rattle.flow_fleet_laws.specs.Views.{seen_from}
use Rattle.flow_fleet_steps.specs.Errors.{fleet_refusal}
use Rattle.flow_fleet_steps.specs.Openings.{AreFleetOpen, OpensJournals, RefusesFilterOf, RefusesFleetOpening, RefusesJournalAt, Runs}
use Rattle.flow_fleet_steps.specs.Openings.OpensJournals.{nothing as no_journal, and_then as one_journal}
use Rattle.flow_fleet_steps.specs.declared.error.FleetError.{FleetError}
use Rattle.flow_fleet_steps.specs.declared.error.FleetError.TheVariants as fleet_error
use Rattle.flow_fleet_returns.specs.Causes.{CountsAsRefused, CountsNone}
use Rattle.flow_fleet_returns.proofs.CountSteps.{faults_then, none_then, unsaid_then}

pub refused_then : (error : FleetError) (a b c : SiteView) → CountsNone a b → CountsAsRefused error b c → CountsAsRefused error a c
refused_then fleet_error.Disk a b c one two = faults_then a b c one two
refused_then (fleet_error.Damaged file at) a b c one two = none_then a b c one two
refused_then (fleet_error.OtherRun held asked) a b c one two = none_then a b c one two
refused_then (fleet_error.OtherBook run index) a b c one two = none_then a b c one two
refused_then (fleet_error.RunUsed run agent) a b c one two = none_then a b c one two
refused_then (fleet_error.Limit what) a b c one two = none_then a b c one two
refused_then fleet_error.Say a b c one two = unsaid_then a b c one two
refused_then fleet_error.Memory a b c one two = none_then a b c one two

-- ---- files that were opened

journals_none : (runs : Runs) (start : SiteView) (n : ℕ) (site : SiteView) (engines : List EngineView) → OpensJournals runs start n site engines → CountsNone start site
journals_none runs start n site engines no_journal = record { faults = refl; unsaid = refl }
journals_none runs start many site engines (one_journal {n} {old} {new} {before} run given v was there is) = none_then start old site (journals_none runs start n old before was)
    (record { faults = is.steady; unsaid = ap (λ (c : CountsView). c.unsaid) is.opens.only.rest.counts })

filters_none : (n : ℕ) (old new : SiteView) (filters : List ActuatorView) → OpensFilters n old new filters → CountsNone old new
filters_none n old new filters is = record { faults = is.steady; unsaid = ap (λ (c : CountsView). c.unsaid) is.rest.counts }

pub files_none : (runs : Runs) (start site : SiteView) (engines : List EngineView) (filters : List ActuatorView) → AreFleetOpen runs start site engines filters → CountsNone start site
files_none runs start site engines filters files = none_then start files.middle site (journals_none runs start _ files.middle engines files.journals) (filters_none 16 files.middle site filters files.others)

-- ---- one that was not

journal_tells : (given : Given) (place run : ℕ) (why : EngineError) (old new : SiteView) → IsRefusedOpening given run why (seen_from place old) (seen_from place new) → IsSteady (opening_refusal why) old new
    → new.counts.unsaid ≡ old.counts.unsaid → CountsAsRefused (fleet_refusal place run (opening_refusal why)) old new
journal_tells given place run engine_error.Disk old new is steady unsaid = record { faults = is; unsaid = unsaid }
journal_tells given place run (engine_error.Damaged at) old new is steady unsaid = record { faults = steady (λ e. cc); unsaid = unsaid }
journal_tells given place run (engine_error.OtherRun held asked) old new is steady unsaid = record { faults = steady (λ e. cc); unsaid = unsaid }
journal_tells given place run (engine_error.OtherBook index) old new is steady unsaid = record { faults = steady (λ e. cc); unsaid = unsaid }
journal_tells given place run (engine_error.Limit what) old new is steady unsaid = record { faults = steady (λ e. cc); unsaid = unsaid }
journal_tells given place run engine_error.Broken old new is steady unsaid = absurd is
journal_tells given place run engine_error.Memory old new is steady unsaid = record { faults = steady (λ e. cc); unsaid = unsaid }

file_tells : (agent : ℕ) (why : WorldError) (old new : SiteView) → IsFileCause why agent old new → IsSteady why old new → new.counts.unsaid ≡ old.counts.unsaid → CountsAsRefused (fleet_refusal 0 0 why) old new
file_tells agent world_error.Disk old new is steady unsaid = record { faults = is; unsaid = unsaid }
file_tells agent (world_error.Damaged file at) old new is steady unsaid = record { faults = steady (λ e. cc); unsaid = unsaid }
file_tells agent (world_error.OtherRun held asked) old new is steady unsaid = absurd is
file_tells agent (world_error.OtherBook index) old new is steady unsaid = absurd is
file_tells agent (world_error.RunUsed other) old new is steady unsaid = absurd is
file_tells agent (world_error.Limit what) old new is steady unsaid = absurd is
file_tells agent world_error.Say old new is steady unsaid = absurd is
file_tells agent world_error.Memory old new is steady unsaid = record { faults = steady (λ e. cc); unsaid = unsaid }

pub tells_as : (one other : FleetError) (old new : SiteView) → one ≡ other → CountsAsRefused other old new → CountsAsRefused one old new
tells_as one other old new e is = subst (λ (x : FleetError). CountsAsRefused x old new) (sym e) is

journal_refused : (error : FleetError) (runs : Runs) (old new : SiteView) → RefusesJournalAt error runs old new → CountsAsRefused error old new
journal_refused error runs old new is =
    let same : error ≡ fleet_refusal is.place is.run (opening_refusal is.refuses.why) = is.is ∙ ap (λ (x : WorldError). fleet_refusal is.place is.run x) is.refuses.is in
    let steady : IsSteady (opening_refusal is.refuses.why) is.middle new = subst (λ (x : WorldError). IsSteady x is.middle new) is.refuses.is is.refuses.steady in
    refused_then error old is.middle new (journals_none runs old is.place is.middle is.engines is.before) (tells_as error _ is.middle new same
    (journal_tells is.given is.place is.run is.refuses.why is.middle new is.refuses.refused steady (ap (λ (c : CountsView). c.unsaid) is.refuses.opens.only.rest.counts)))

filter_refused : (error : FleetError) (runs : Runs) (old new : SiteView) → RefusesFilterOf error runs old new → CountsAsRefused error old new
filter_refused error runs old new is =
    refused_then error old is.refuses.middle new
    (none_then old is.middle is.refuses.middle (journals_none runs old _ is.middle is.engines is.journals) (filters_none _ is.middle is.refuses.middle is.refuses.filters is.refuses.before))
    (tells_as error _ is.refuses.middle new is.is (file_tells _ is.why is.refuses.middle new is.refuses.refuses.why is.refuses.refuses.steady (ap (λ (c : CountsView). c.unsaid) is.refuses.refuses.opens.only.rest.counts)))

pub opening_tells : (error : FleetError) (runs : Runs) (old new : SiteView) → RefusesFleetOpening error runs old new → CountsAsRefused error old new
opening_tells error runs old new is = elim is [ inl journal ↦ journal_refused error runs old new journal | inr filter ↦ filter_refused error runs old new filter ]
