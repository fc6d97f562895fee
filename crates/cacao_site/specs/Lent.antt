-- Promise: What calls on a site are, where it is lent.
use Rattle.std.proofs.Common.{ℕ, List, ◌∷◌, ap}
use Rattle.cacao_site.specs.View.{DiskView, SiteView, lent_disk, lent_site}
use Rattle.cacao_site.specs.DiskCalls.{CallsOn, GoesOn, KeepsDisk, StaysAt}
use Rattle.cacao_site.specs.SayCalls.{SaysOnly}
use Rattle.cacao_site.specs.SiteCalls.{LeavesDisk, Puts, Reaches, TakesOnly}
use Rattle.cacao_site.specs.Sound.{IsSound}
use Rattle.cacao_site.specs.declared.parcel.Parcel.{Parcel}

pub goes_on-lent : {a b : DiskView} (name : ℕ) → GoesOn a b → GoesOn (lent_disk name a) (lent_disk name b)
goes_on-lent name on = record { told = on.told; later = on.later; past = on.past; calls = on.calls; written = on.written; faults = on.faults; label = ap (λ (l : List ℕ). name ∷ l) on.label }

pub stays-lent : {a b : DiskView} (name file : ℕ) → StaysAt a b file → StaysAt (lent_disk name a) (lent_disk name b) file
stays-lent name file stays = record { reads = stays.reads; images = stays.images }

pub keeps-lent : {a b : DiskView} (name : ℕ) → KeepsDisk a b → KeepsDisk (lent_disk name a) (lent_disk name b)
keeps-lent name keeps = record { goes_on = goes_on-lent name keeps.goes_on; stays = λ file. stays-lent name file (keeps.stays file); written = keeps.written; faults = keeps.faults }

pub calls-lent : {a b : DiskView} (name file bytes : ℕ) → CallsOn file bytes a b → CallsOn file bytes (lent_disk name a) (lent_disk name b)
calls-lent name file bytes call = record {
  goes_on = goes_on-lent name call.goes_on;
  takes_beat = call.takes_beat;
  others = λ other ne. stays-lent name other (call.others other ne);
  calls = call.calls;
  written = call.written;
  counted = call.counted;
  handed = call.handed;
}

leaves-lent : {a b : SiteView} (name : ℕ) → LeavesDisk a b → LeavesDisk (lent_site name a) (lent_site name b)
leaves-lent name leaves = record { disk = keeps-lent name leaves.disk; calls = leaves.calls; says = leaves.says }

pub puts-lent : {a b : SiteView} (name : ℕ) (parcel : Parcel) → Puts parcel a b → Puts parcel (lent_site name a) (lent_site name b)
puts-lent name parcel puts = record {
  disk = leaves-lent name puts.disk;
  time = puts.time;
  unsaid = puts.unsaid;
  mishaps = puts.mishaps;
  puts = puts.puts;
  arrives = puts.arrives;
  pending = puts.pending;
  taken = puts.taken;
  empty_takes = puts.empty_takes;
  said = puts.said;
}

pub takes-lent : {a b : SiteView} (name : ℕ) → TakesOnly a b → TakesOnly (lent_site name a) (lent_site name b)
takes-lent name takes = record { disk = leaves-lent name takes.disk; time = takes.time; unsaid = takes.unsaid; mishaps = takes.mishaps; puts = takes.puts; said = takes.said }

pub says-lent : {a b : SiteView} (name : ℕ) → SaysOnly a b → SaysOnly (lent_site name a) (lent_site name b)
says-lent name says = record {
  disk = keeps-lent name says.disk;
  calls = says.calls;
  later = says.later;
  says = says.says;
  counted = says.counted;
  puts = says.puts;
  taken = says.taken;
  empty_takes = says.empty_takes;
  pending = says.pending;
  time = says.time;
  mishaps = says.mishaps;
  unsaid = says.unsaid;
}

pub reaches-lent : {a b : SiteView} (name moment answer : ℕ) → Reaches moment answer a b → Reaches moment answer (lent_site name a) (lent_site name b)
reaches-lent name moment answer reaches = record {
  disk = leaves-lent name reaches.disk;
  later = reaches.later;
  now = reaches.now;
  asked = reaches.asked;
  furthest = reaches.furthest;
  short = reaches.short;
  reached = reaches.reached;
  mishaps = reaches.mishaps;
  unsaid = reaches.unsaid;
  puts = reaches.puts;
  taken = reaches.taken;
  empty_takes = reaches.empty_takes;
  said = reaches.said;
  pending = reaches.pending;
}

pub sound-lent : (name : ℕ) (site : SiteView) → IsSound site → IsSound (lent_site name site)
sound-lent name site sound = record { reads = sound.reads; images = sound.images; puts = sound.puts; taken = sound.taken; said = sound.said; pending = sound.pending; was_put = sound.was_put }
