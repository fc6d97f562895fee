-- Calls in a row keep the agreement of a run that takes no part, and leave its journal.
use Rattle.std.proofs.Common.{◌≢◌, inl, inr, ℕ, ◌≤◌, List, length, refl, subst, IsTrue, arith}
use Rattle.std.proofs.lemmas.Bool.{cases_lt}
use Rattle.cacao_site.specs.View.{SiteView}
use Rattle.cacao_site.specs.DiskCalls.{IsLeft}
use Rattle.flow_laws.proofs.Calls.{since_start}
use Rattle.flow_fleet_laws.specs.Events.{Event, EventsKeepBystanders}
use Rattle.flow_fleet_laws.specs.Events.Events.{nothing, and_then}
use Rattle.flow_fleet_laws.specs.Fleets.{AreRuns, IsAt, IsBystander, IsItsOwn}
use Rattle.flow_fleet_laws.specs.Speeches.{Form, numbered}
use Rattle.flow_fleet_laws.specs.Speeches.Form.{without_numbers, with_numbers}
use Rattle.cacao_site.specs.RunViews.{file_of}
use Rattle.flow_fleet_laws.specs.Views.{seen_from}
use Rattle.flow_fleet_laws.proofs.Events.{IsWatched, event_kept_by}
use Rattle.flow_fleet_laws.proofs.Journals.{HasOldImages, event_goes_on, journal_by}
use Rattle.flow_fleet_laws.proofs.Lines.{Apart}
use Rattle.flow_fleet_laws.proofs.Places.{below}

apart_by : (form : Form) (number run : ℕ) → number ≢ run → Apart form with_numbers number run
apart_by without_numbers number run ne = tt
apart_by with_numbers number run ne = ne

-- none of the others has its place
none_here : (runs : List ℕ) (place taken number : ℕ) → length runs ≤ place → IsAt runs taken number → taken ≢ place
none_here runs place taken number elsewhere at same = absurd (omega (arith, below runs taken number at, elsewhere, same))

watched_by : (form : Form) (runs : List ℕ) (start : SiteView) (place run : ℕ) → IsBystander runs start place run → IsWatched form with_numbers runs place run
watched_by form runs start place run is = record {
  low = is.low;
  small = is.small;
  takes_part = λ number at. absurd (none_here runs place place number is.elsewhere at refl);
  numbers = λ taken number at ne. is.other taken number at;
  lines = λ taken number at ne. apart_by form number run (is.other taken number at);
}

stays : (form : Form) (runs : List ℕ) → AreRuns form runs → (place : ℕ) → place ≤ 15 → length runs ≤ place → (start old new : SiteView) → Event form runs start old new
    → HasOldImages place old new
stays form runs are place lies elsewhere start old new event = elim (journal_by form runs are place lies start old new event) [
  | inl written ↦ absurd (none_here runs place place written.0 elsewhere written.1 refl)
  | inr kept ↦ kept
]

-- ---- calls in a row

pub events_keep_bystanders : EventsKeepBystanders
events_keep_bystanders form runs start site are told nothing place run is = record {
  agrees = since_start (numbered run) (seen_from place start) told is.begins;
  journal = λ beat from to image left. subst (λ (n : ℕ). IsLeft start.disk (file_of place) n image) (omega (arith, from, to)) left;
}
events_keep_bystanders form runs start site are told (and_then {old} {new} before sound event) place run is =
    let so_far = events_keep_bystanders form runs start old are told before place run is in
    let own : IsItsOwn old place run = λ image records left stands. is.own image records (so_far.journal old.disk.beat so_far.agrees.later (omega arith) image left) stands in
    record {
      agrees = event_kept_by form with_numbers runs are place run (watched_by form runs start place run is) start old new sound (λ all. own)
          (λ at. absurd (none_here runs place place run is.elsewhere at refl)) so_far.agrees event;
      journal = λ beat from to image left. elim (cases_lt beat old.disk.beat) [
        | inl early ↦ so_far.journal beat from (omega (arith, early)) image
            (subst IsTrue ((event_goes_on form runs start old new event).past (file_of place) beat image (omega (arith, early))) left)
        | inr late ↦ so_far.journal old.disk.beat so_far.agrees.later (omega arith) image
            (stays form runs are place is.low is.elsewhere start old new event beat late to image left)
      ];
    }
