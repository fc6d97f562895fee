-- Promise: What contracts see of a `MemorySite`.
use Rattle.std.specs.Prelude.{◌≡◌, ℕ, ◌+◌, Bool, true, false, List, ◌++◌, nat_le, if◌then◌else◌, length, replicate, map}
use Rattle.std.specs.List.{filter}
use Rattle.cacao_site.specs.Clock.{clock_view}
use Rattle.cacao_site.specs.Counts.{next_count}
use Rattle.cacao_site.specs.LinkCalls.{Gains, GainsAll}
use Rattle.cacao_site.specs.SiteCounts.{counts_view}
use Rattle.cacao_site_memory.specs.MemoryView.{link_view, memory_view}
use Rattle.cacao_site_memory.specs.Parcels.{all_marked_at, is_due, is_later}
use Rattle.cacao_site_log.specs.Replay.{file_after}
use Rattle.cacao_site.specs.View.{SiteView}
use Rattle.cacao_site_memory.specs.Weather.{arrivals, is_mishap, marks, room_of, weather_at}
use Rattle.cacao_site_memory.specs.declared.site.MemorySite.{MemorySite}
use Rattle.cacao_site.specs.declared.parcel.Parcel.{Parcel}
use Rattle.cacao_site_memory.specs.declared.plan.SitePlan.{SitePlan}
use Rattle.cacao_site_memory.specs.declared.plan.Weather.{Weather}

abbrev pub plan_of : MemorySite → SitePlan
plan_of site = site.plan

-- a count of faults after a call that failed or did not
abbrev pub faults_after : Bool → ℕ → ℕ
faults_after true faults = next_count faults
faults_after false faults = faults

-- the bytes of the room that are used
abbrev pub used_of : MemorySite → ℕ
used_of site = site.used

abbrev pub view_of : MemorySite → SiteView
view_of site =
    memory_view site.starts site.log.calls site.first_beat site.calls site.disk_calls site.written site.faults
    (link_view site.link site.log.lines) (clock_view site.clock) (counts_view site.counts)

-- what the last sync of a file that was Ok left, or its contents at the start
abbrev pub synced_of : MemorySite → ℕ → List ℕ
synced_of site file = (file_after site.starts site.log.calls file).synced

-- the parcels that are held back, in the order of their puts, each with the moment up to which it is
abbrev pub held_of : MemorySite → List (ℕ × Parcel)
held_of site = all_marked_at site.link.puts.items site.link.held.items

-- the puts so far, as far as the list of weather goes
abbrev pub turn_of : MemorySite → ℕ
turn_of site = site.turn

-- the weather of the next put
abbrev pub weather_of : MemorySite → Weather
weather_of site = weather_at site.plan.weather site.turn

-- whether there is room for the next put, of so many bytes
abbrev pub has_room_of : MemorySite → ℕ → Bool
has_room_of site size = nat_le (site.used + room_of (weather_of site) size) site.plan.room

-- the plan, the contents at the start, the lines said and the room for more, the parcels and the clock stay
pub record KeepsRest (old new : MemorySite) : Type 0 where
  pub plan : new.plan ≡ old.plan
  pub starts : new.starts ≡ old.starts
  pub lines : new.log.lines ≡ old.log.lines
  pub line_room : new.log.most_lines ≡ old.log.most_lines
  pub first_beat : new.first_beat ≡ old.first_beat
  pub clock : new.clock ≡ old.clock
  pub link : new.link ≡ old.link
  pub turn : new.turn ≡ old.turn

-- a parcel was put for which there was room: it joins the puts, and copies of it arrive by the weather
pub record Carries (weather : Weather) (parcel : Parcel) (old new : MemorySite) : Type 0 where
  pub puts : Gains (view_of old).link.puts ((view_of new).disk.beat, parcel) (view_of new).link.puts
  pub pending : GainsAll (view_of old).link.pending (replicate (arrivals weather) parcel) (view_of new).link.pending
  pub held : held_of new ≡ held_of old ++ marks weather parcel
  pub mishaps : new.counts.mishaps ≡ (if is_mishap weather then next_count old.counts.mishaps else old.counts.mishaps)
  pub used : new.used ≡ old.used + room_of weather (length parcel.bytes)

-- a parcel was put for which there was no room: it is lost and counted
pub record LosesPut (old new : MemorySite) : Type 0 where
  pub link : (view_of new).link ≡ (view_of old).link
  pub held : held_of new ≡ held_of old
  pub mishaps : new.counts.mishaps ≡ next_count old.counts.mishaps
  pub used : new.used ≡ old.used

-- time went on to this moment: the parcels that were held back up to it became pending, in the order of their puts
pub record Releases (now : ℕ) (old new : MemorySite) : Type 0 where
  pub pending : GainsAll (view_of old).link.pending (map (λ held. held.1) (filter (is_due now) (held_of old)))
      (view_of new).link.pending
  pub held : held_of new ≡ filter (is_later now) (held_of old)

-- what a take and the clock leave as it was
pub record KeepsPlan (old new : MemorySite) : Type 0 where
  pub plan : new.plan ≡ old.plan
  pub used : new.used ≡ old.used
  pub turn : new.turn ≡ old.turn
