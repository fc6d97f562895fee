-- Promise: The parcels that a wire put and took, and its empty takes.
use Rattle.std.specs.Prelude.{ℕ, List, map, Some}
use Rattle.cacao_site.specs.Sound.{IsInTime}
use Rattle.cacao_site.specs.View.{SiteView}
use Rattle.cacao_site.specs.declared.parcel.Parcel.{Parcel}
use Rattle.std.specs.declared.snapshot.Snapshot.{Snapshot}
use Rattle.oc2_wire_site.specs.declared.entries.Put.{Put}
use Rattle.oc2_wire_site.specs.declared.entries.Taken.{Taken}

-- the parcels put, each with the beat at which its site then was
abbrev pub puts_by : {S : Type 0} → (S → SiteView) → List (Put S) → List (ℕ × Parcel)
puts_by view puts = map (λ put. ((view put.at.value).disk.beat, put.parcel)) puts

abbrev pub taken_by : {S : Type 0} → (S → SiteView) → List (Taken S) → List (ℕ × Parcel)
taken_by view taken = map (λ t. ((view t.at.value).disk.beat, t.parcel.value)) taken

-- the moments of the takes that found none
abbrev pub empty_by : {S : Type 0} → (S → SiteView) → List (Snapshot S) → List ℕ
empty_by view sites = map (λ site. (view site.value).clock.now) sites

abbrev pub AreInTime : ℕ → List (ℕ × Parcel) → Type 0
AreInTime beat entries = IsInTime beat (Some entries)
