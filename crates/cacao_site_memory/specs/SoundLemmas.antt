-- Promise: What holds of each site in memory.
use Rattle.std.proofs.Common.{◌≡◌, ℕ, ◌+◌, ◌-◌, ◌<◌, ◌≤◌, IsTrue, List, length, take, map, get_or, slice_index_or, ap, refl, ◌∙◌, subst, sym, arith, Some}
use Rattle.std.proofs.lemmas.List.{take_all, get_or-map, get_or_default, length-map}
use Rattle.std.proofs.lemmas.List.Elements.{All-map}
use Rattle.cacao_site.specs.Counts.{count_after}
use Rattle.cacao_site_log.specs.Images.{image-from, good-file}
use Rattle.cacao_site_memory.specs.MemoryView.{link_view, memory_view}
use Rattle.cacao_site_memory.specs.Parcels.{AreNamed, marked_at, no_put, parcel_at}
use Rattle.cacao_site_log.specs.Replay.{Call, is_image, file_after}
use Rattle.cacao_site.specs.Sound.{IsInTime, IsSound, WasPut}
use Rattle.cacao_site.specs.View.{ClockView, CountsView}
use Rattle.cacao_site_memory.specs.declared.link.Link.{Link}
use Rattle.cacao_site.specs.declared.parcel.Parcel.{Parcel}

-- beats stay in order, and past, where each entry is given something else beside its beat
pub in-time-map : {S T : Type 0} (beat : ℕ) (d : ℕ × S) (f : ℕ × S → ℕ × T) → ((entry : ℕ × S) → (f entry).0 ≡ entry.0)
    → (entries : List (ℕ × S)) → IsInTime beat (Some entries) → IsInTime beat (Some (map f entries))
in-time-map {S} {T} beat d f keeps entries h = record {
  past = λ k e lt.
      let below : k < length entries = omega (arith, length-map entries f, lt) in
      let is = ap (λ (x : ℕ × T). x.0) (get_or-map f entries k d e below) ∙ keeps (get_or entries k d) in
      omega (arith, is, h.past k d below);
  in_order = λ i j e lt below.
      let last : j < length entries = omega (arith, length-map entries f, below) in
      let first : i < length entries = omega (arith, last, lt) in
      let one = ap (λ (x : ℕ × T). x.0) (get_or-map f entries i d e first) ∙ keeps (get_or entries i d) in
      let two = ap (λ (x : ℕ × T). x.0) (get_or-map f entries j d e last) ∙ keeps (get_or entries j d) in
      omega (arith, one, two, h.in_order i j d lt last);
}

-- a parcel named by its place was put
pub was-put : (puts : List (ℕ × Parcel)) (last place : ℕ) → place < length puts → (slice_index_or puts place no_put).0 ≤ last
    → WasPut puts last (parcel_at puts place)
was-put puts last place lt le =
    let entry : ℕ × Parcel = slice_index_or puts place no_put in
    (entry.0, le, (place, lt, get_or_default puts place entry no_put lt))

pub memory-sound : (starts : List (List ℕ)) (log : List Call) (start made calls written faults : ℕ) (link : Link)
    (lines : List (ℕ × List ℕ)) (clock : ClockView) (counts : CountsView)
    → start + length log ≤ count_after start made → IsInTime (count_after start made) (Some lines)
    → IsInTime (count_after start made) (Some link.puts.items) → IsInTime (count_after start made) (Some link.taken.items)
    → AreNamed link.puts.items link.pending.items link.held.items link.taken.items
    → IsSound (memory_view starts log start made calls written faults (link_view link lines) clock counts)
memory-sound starts log start made calls written faults link lines clock counts whole past puts_past taken_past named = record {
  reads = λ file told.
      let state = file_after starts log file in
      subst (λ (l : List Call). IsTrue (is_image (file_after starts l file) state.reads))
      (sym (take_all (count_after start made - start) log (omega arith)))
      (image-from state state.reads (good-file starts log file).image);
  images = λ file beat told le.
      let state = file_after starts (take (beat - start) log) file in
      (state.reads, image-from state state.reads (good-file starts (take (beat - start) log) file).image);
  puts = puts_past;
  taken = in-time-map (count_after start made) (0, 0) (marked_at link.puts.items) (λ entry. refl) link.taken.items taken_past;
  said = past;
  pending = All-map (WasPut link.puts.items (count_after start made)) (parcel_at link.puts.items) link.pending.items
      (λ k d lt. was-put link.puts.items (count_after start made) _ (named.pending_put k d lt)
      (puts_past.past _ no_put (named.pending_put k d lt)));
  was_put = All-map (λ (entry : ℕ × Parcel). WasPut link.puts.items entry.0 entry.1) (marked_at link.puts.items) link.taken.items
      (λ k d lt. let is = named.taken_put k d lt in was-put link.puts.items _ _ is.0 is.1);
}
