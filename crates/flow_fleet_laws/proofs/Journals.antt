-- What calls in a row do to journals: one gains a record by its own run alone, and so it stays that run's.
use Rattle.std.proofs.Common.{◌≡◌, ◌≢◌, ◌⊎◌, inl, inr, ℕ, ◌≤◌, List, [], ◌∷◌, ◌++◌, refl, sym, ◌∙◌, subst, IsTrue, arith}
use Rattle.std.specs.Prelude.{Some}
use Rattle.std.proofs.lemmas.Bool.{cases_eq, cases_lt}
use Rattle.cacao_site.specs.View.{SiteView}
use Rattle.cacao_site.specs.DiskCalls.{GoesOn, IsLeft, OnlyFile}
use Rattle.cacao_site.specs.Sound.{IsSound}
use Rattle.cacao_site.proofs.Beats.{goes_on-refl, goes_on-trans, told-goes_on}
use Rattle.run_records.specs.declared.record.Record.{Record}
use Rattle.flow_laws.specs.Journals.{run_of}
use Rattle.flow_laws.proofs.Basics.{run_of-more, same_some}
use Rattle.flow_laws.proofs.OneList.{same_records}
use Rattle.flow_fleet_laws.specs.Events.{Event, Events, EventsKeepOwn, RecordBy}
use Rattle.flow_fleet_laws.specs.Events.Event.{shrinks, record_by, line_by, other_line, command_by, act_by, reply_by}
use Rattle.flow_fleet_laws.specs.Events.Events.{nothing, and_then}
use Rattle.flow_fleet_laws.specs.Fleets.{AreRuns, IsAt, IsOwnAt}
use Rattle.flow_fleet_laws.specs.Speeches.{Form}
use Rattle.cacao_site.specs.RunViews.{file_of}
use Rattle.flow_fleet_laws.proofs.Places.{low}
use Rattle.flow_fleet_laws.proofs.Seen.{journals_differ, no_filter}

-- ---- time goes on

pub event_goes_on : (form : Form) (runs : List ℕ) (start old new : SiteView) → Event form runs start old new → GoesOn old.disk new.disk
event_goes_on form runs start old new (shrinks only) = only.goes_on
event_goes_on form runs start old new (record_by place run at by) = by.only.each.goes_on
event_goes_on form runs start old new (line_by place run at own by) = by.disk.goes_on
event_goes_on form runs start old new (other_line line none disk puts gained) = disk.goes_on
event_goes_on form runs start old new (command_by place run at own by) = by.puts.disk.disk.goes_on
event_goes_on form runs start old new (act_by agent by) = by.only.each.goes_on
event_goes_on form runs start old new (reply_by by) = by.puts.disk.disk.goes_on

pub events_go_on : (form : Form) (runs : List ℕ) (start site : SiteView) → Events form runs start site → GoesOn start.disk site.disk
events_go_on form runs start site nothing = goes_on-refl start.disk
events_go_on form runs start site (and_then {old} {new} before sound event) =
    goes_on-trans (events_go_on form runs start old before) (event_goes_on form runs start old new event)

-- ---- one call

-- at each of its beats the journal at a place has only images that it had
abbrev pub HasOldImages : ℕ → SiteView → SiteView → Type 0
HasOldImages place old new = (beat : ℕ) → old.disk.beat ≤ beat → beat ≤ new.disk.beat → (image : List ℕ) → IsLeft new.disk (file_of place) beat image
    → IsLeft old.disk (file_of place) old.disk.beat image

-- or it gained a record, by the run that has the place
abbrev pub IsWrittenAt : Form → List ℕ → SiteView → ℕ → SiteView → SiteView → Type 0
IsWrittenAt form runs start place old new = (run : ℕ) × IsAt runs place run × RecordBy form place run start old new

module _ (form : Form) (runs : List ℕ) (are : AreRuns form runs) (place : ℕ) (lies : place ≤ 15) (start old new : SiteView) where
  elsewhere : (file : ℕ) (P : List ℕ → Type 0) → file_of place ≢ file → OnlyFile file old new P → HasOldImages place old new
  elsewhere file P ne only beat from to image left = subst IsTrue ((only.others (file_of place) ne).images beat image from to) left

  pub journal_by : Event form runs start old new → IsWrittenAt form runs start place old new ⊎ HasOldImages place old new
  journal_by (shrinks only) = inr (λ beat from to image left. only.images (file_of place) beat image from to left)
  journal_by (record_by taken number at by) = elim (cases_eq place taken) [
    | inl same ↦ inl (number, subst (λ (p : ℕ). IsAt runs p number) (sym same) at, subst (λ (p : ℕ). RecordBy form p number start old new) (sym same) by)
    | inr ne ↦ inr (elsewhere (file_of taken) _ (journals_differ place taken lies (low form runs are taken number at) (λ e. ne (sym e))) by.only)
  ]
  journal_by (line_by taken number at own by) = inr (λ beat from to image left. subst IsTrue ((by.disk.stays (file_of place)).images beat image from to) left)
  journal_by (other_line line none disk puts gained) = inr (λ beat from to image left. subst IsTrue ((disk.stays (file_of place)).images beat image from to) left)
  journal_by (command_by taken number at own by) = inr (λ beat from to image left. subst IsTrue ((by.puts.disk.disk.stays (file_of place)).images beat image from to) left)
  journal_by (act_by agent by) = inr (elsewhere agent _ (no_filter place agent by.is_agent) by.only)
  journal_by (reply_by by) = inr (λ beat from to image left. subst IsTrue ((by.puts.disk.disk.stays (file_of place)).images beat image from to) left)

-- ---- whose a journal is

-- with one record more, of its run
more_own : (run number : ℕ) (records : List Record) (next : Record) → (number ≡ run) → (records ≡ [] → run_of (next ∷ []) ≡ Some number)
    → ((other : ℕ) → run_of records ≡ Some other → other ≡ run) → (other : ℕ) → run_of (records ++ next ∷ []) ≡ Some other → other ≡ run
more_own run number [] next is first was other of = same_some (sym of ∙ first refl) ∙ is
more_own run number (begin ∷ records) next is first was other of = was other (sym (run_of-more begin records next) ∙ of)

written_own : (form : Form) (place run number : ℕ) (start old new : SiteView) → IsTrue old.disk.told → IsSound old → number ≡ run → RecordBy form place number start old new
    → IsOwnAt old old.disk.beat place run → (beat : ℕ) → old.disk.beat ≤ beat → beat ≤ new.disk.beat → IsOwnAt new beat place run
written_own form place run number start old new told sound is by own beat from to image records left stands other of =
    elim (by.only.each.each told beat image from to left) [
      | inl before ↦ was other (subst (λ (l : List Record). run_of l ≡ Some other) (same_records image records by.records stands before) of)
      | inr after ↦ more_own run number by.records by.next is by.begins was other
          (subst (λ (l : List Record). run_of l ≡ Some other) (same_records image records (by.records ++ by.next ∷ []) stands after) of)
    ]
  where
    was : (n : ℕ) → run_of by.records ≡ Some n → n ≡ run
    was n e =
        let some = sound.images (file_of place) old.disk.beat told (omega arith) in
        own some.0 by.records some.1 (by.before some.0 some.1) n e

pub events_keep_own : EventsKeepOwn
events_keep_own form runs start site are told nothing place run lies takes own beat from to =
    subst (λ (n : ℕ). IsOwnAt start n place run) (omega (arith, from, to)) own
events_keep_own form runs start site are told (and_then {old} {new} before sound event) place run lies takes own beat from to =
    let so_far : (at : ℕ) → start.disk.beat ≤ at → at ≤ old.disk.beat → IsOwnAt old at place run =
    λ at. events_keep_own form runs start old are told before place run lies takes own at in
    let on : GoesOn start.disk old.disk = events_go_on form runs start old before in
    let here : IsOwnAt old old.disk.beat place run = so_far old.disk.beat on.later (omega arith) in
    elim (cases_lt beat old.disk.beat) [
      | inl early ↦ λ image records left stands. so_far beat from (omega (arith, early)) image records
          (subst IsTrue ((event_goes_on form runs start old new event).past (file_of place) beat image (omega (arith, early))) left) stands
      | inr late ↦ elim (journal_by form runs are place lies start old new event) [
        | inl written ↦
            written_own form place run written.0 start old new (told-goes_on on told) sound (takes written.0 written.1) written.2 here beat late to
        | inr stays ↦ λ image records left stands. here image records (stays beat late to image left) stands
      ]
    ]
