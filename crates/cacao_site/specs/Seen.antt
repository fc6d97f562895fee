-- Promise: What calls on a rack are, as the run at a place sees them.
use Rattle.std.proofs.Common.{◌≡◌, ◌==◌, ℕ, Bool, true, false, List, ◌∷◌, refl, sym, ◌∙◌, subst, ap, if◌then◌else◌}
use Rattle.std.proofs.lemmas.Bool.{eqb-true, eq-eqb}
use Rattle.cacao_site.specs.View.{DiskView, SiteView}
use Rattle.cacao_site.specs.DiskCalls.{CallsOn, GoesOn, IsLeft, KeepsDisk, OnlyFile, StaysAt}
use Rattle.cacao_site.specs.SayCalls.{SaysOnly}
use Rattle.cacao_site.specs.SiteCalls.{LeavesDisk, Puts, Reaches, TakesOnly}
use Rattle.cacao_site.specs.Sound.{IsSound}
use Rattle.cacao_site.specs.declared.parcel.Parcel.{Parcel}
use Rattle.cacao_site.specs.RunViews.{disk_seen, file_of, rack_file, seen_from}

pub goes_on-seen : {a b : DiskView} (place name : ℕ) → GoesOn a b → GoesOn (disk_seen place name a) (disk_seen place name b)
goes_on-seen place name on = record {
  told = on.told;
  later = on.later;
  past = λ file beat image le. on.past (rack_file place file) beat image le;
  calls = on.calls;
  written = on.written;
  faults = on.faults;
  label = ap (λ (l : List ℕ). place ∷ name ∷ l) on.label;
}

pub stays-seen : {a b : DiskView} (place name file : ℕ) → StaysAt a b (rack_file place file) → StaysAt (disk_seen place name a) (disk_seen place name b) file
stays-seen place name file stays = record { reads = stays.reads; images = stays.images }

pub keeps-seen : {a b : DiskView} (place name : ℕ) → KeepsDisk a b → KeepsDisk (disk_seen place name a) (disk_seen place name b)
keeps-seen place name keeps = record {
  goes_on = goes_on-seen place name keeps.goes_on;
  stays = λ file. stays-seen place name file (keeps.stays (rack_file place file));
  written = keeps.written;
  faults = keeps.faults;
}

-- which file of the rack it is, by cases
own_file : (place : ℕ) → rack_file place 0 ≡ file_of place
own_file place = refl

moved_file : (place file : ℕ) → (file == 0) ≡ false → (file == file_of place) ≡ true → rack_file place file ≡ 0
moved_file place file a b = ap (λ (x : Bool). if x then file_of place else if file == file_of place then 0 else file) a ∙ ap (λ (x : Bool). if x then 0 else file) b

other_file : (place file : ℕ) → (file == 0) ≡ false → (file == file_of place) ≡ false → rack_file place file ≡ file
other_file place file a b = ap (λ (x : Bool). if x then file_of place else if file == file_of place then 0 else file) a ∙ ap (λ (x : Bool). if x then 0 else file) b

-- a file of the view is the file of the rack that it is seen in
pub back : (place file : ℕ) → rack_file place (rack_file place file) ≡ file
back place file = by (file == 0) refl (file == file_of place) refl
  where
    home : (b : Bool) → (file_of place == 0) ≡ b → file ≡ 0 → rack_file place (file_of place) ≡ file
    home true e zero_is = ap (rack_file place) (eqb-true _ _ e) ∙ (eqb-true _ _ e ∙ sym zero_is)
    home false e zero_is = moved_file place (file_of place) e (eq-eqb (file_of place) (file_of place) refl) ∙ sym zero_is

    by : (a : Bool) → (file == 0) ≡ a → (b : Bool) → (file == file_of place) ≡ b → rack_file place (rack_file place file) ≡ file
    by true ea b eb =
        let is : file ≡ 0 = eqb-true _ _ ea in
        subst (λ (f : ℕ). rack_file place f ≡ file) (sym (ap (rack_file place) is)) (home (file_of place == 0) refl is)
    by false ea true eb = ap (rack_file place) (moved_file place file ea eb) ∙ sym (eqb-true _ _ eb)
    by false ea false eb = ap (rack_file place) (other_file place file ea eb) ∙ other_file place file ea eb

pub one_to_one : (place file other : ℕ) → rack_file place file ≡ rack_file place other → file ≡ other
one_to_one place file other e = sym (back place file) ∙ ap (rack_file place) e ∙ back place other

pub calls-seen : {a b : DiskView} (place name file bytes : ℕ) → CallsOn (rack_file place file) bytes a b → CallsOn file bytes (disk_seen place name a) (disk_seen place name b)
calls-seen place name file bytes call = record {
  goes_on = goes_on-seen place name call.goes_on;
  takes_beat = call.takes_beat;
  others = λ other ne. stays-seen place name other (call.others (rack_file place other) (λ e. ne (one_to_one place other file e)));
  calls = call.calls;
  written = call.written;
  counted = call.counted;
  handed = call.handed;
}

leaves-seen : {a b : SiteView} (place name : ℕ) → LeavesDisk a b → LeavesDisk (seen_from place name a) (seen_from place name b)
leaves-seen place name leaves = record { disk = keeps-seen place name leaves.disk; calls = leaves.calls; says = leaves.says }

pub puts-seen : {a b : SiteView} (place name : ℕ) (parcel : Parcel) → Puts parcel a b → Puts parcel (seen_from place name a) (seen_from place name b)
puts-seen place name parcel puts = record {
  disk = leaves-seen place name puts.disk;
  time = puts.time;
  unsaid = puts.unsaid;
  mishaps = puts.mishaps;
  puts = puts.puts;
  arrives = puts.arrives;
  pending = puts.pending;
  taken = puts.taken;
  empty_takes = puts.empty_takes;
  said = puts.said;
}

pub takes-seen : {a b : SiteView} (place name : ℕ) → TakesOnly a b → TakesOnly (seen_from place name a) (seen_from place name b)
takes-seen place name takes = record { disk = leaves-seen place name takes.disk; time = takes.time; unsaid = takes.unsaid; mishaps = takes.mishaps; puts = takes.puts; said = takes.said }

pub says-seen : {a b : SiteView} (place name : ℕ) → SaysOnly a b → SaysOnly (seen_from place name a) (seen_from place name b)
says-seen place name says = record {
  disk = keeps-seen place name says.disk;
  calls = says.calls;
  later = says.later;
  says = says.says;
  counted = says.counted;
  puts = says.puts;
  taken = says.taken;
  empty_takes = says.empty_takes;
  pending = says.pending;
  time = says.time;
  mishaps = says.mishaps;
  unsaid = says.unsaid;
}

pub reaches-seen : {a b : SiteView} (place name moment answer : ℕ) → Reaches moment answer a b → Reaches moment answer (seen_from place name a) (seen_from place name b)
reaches-seen place name moment answer reaches = record {
  disk = leaves-seen place name reaches.disk;
  later = reaches.later;
  now = reaches.now;
  asked = reaches.asked;
  furthest = reaches.furthest;
  short = reaches.short;
  reached = reaches.reached;
  mishaps = reaches.mishaps;
  unsaid = reaches.unsaid;
  puts = reaches.puts;
  taken = reaches.taken;
  empty_takes = reaches.empty_takes;
  said = reaches.said;
  pending = reaches.pending;
}

pub sound-seen : (place name : ℕ) (site : SiteView) → IsSound site → IsSound (seen_from place name site)
sound-seen place name site sound = record {
  reads = λ file told. sound.reads (rack_file place file) told;
  images = λ file beat told le. sound.images (rack_file place file) beat told le;
  puts = sound.puts;
  taken = sound.taken;
  said = sound.said;
  pending = sound.pending;
  was_put = sound.was_put;
}

-- ---- the same of one file, by its number on the rack

module _ (a b : DiskView) (place name file at : ℕ) (is : rack_file place file ≡ at) where
  pub call-at : (bytes : ℕ) → CallsOn at bytes a b → CallsOn file bytes (disk_seen place name a) (disk_seen place name b)
  call-at bytes call = calls-seen place name file bytes (subst (λ (n : ℕ). CallsOn n bytes a b) (sym is) call)

-- ---- from what is seen back to the rack

pub goes_on-back : {a b : DiskView} (place name : ℕ) → GoesOn (disk_seen place name a) (disk_seen place name b) → b.label ≡ a.label → GoesOn a b
goes_on-back {a} {b} place name on same = record {
  told = on.told;
  later = on.later;
  past = λ file beat image le. subst (λ (f : ℕ). b.left f beat image ≡ a.left f beat image) (back place file) (on.past (rack_file place file) beat image le);
  calls = on.calls;
  written = on.written;
  faults = on.faults;
  label = same;
}

pub stays-back : {a b : DiskView} (place name file : ℕ) → StaysAt (disk_seen place name a) (disk_seen place name b) (rack_file place file) → StaysAt a b file
stays-back {a} {b} place name file stays = record {
  reads = subst (λ (f : ℕ). b.reads f ≡ a.reads f) (back place file) stays.reads;
  images = λ beat image from to. subst (λ (f : ℕ). b.left f beat image ≡ a.left f a.beat image) (back place file) (stays.images beat image from to);
}

-- one file alone may have changed
pub only-back : {a b : SiteView} (place name file : ℕ) (P : List ℕ → Type 0) → b.disk.label ≡ a.disk.label
    → OnlyFile file (seen_from place name a) (seen_from place name b) P → OnlyFile (rack_file place file) a b P
only-back {a} {b} place name file P same only = record {
  each = record { goes_on = goes_on-back place name only.each.goes_on same; each = only.each.each };
  others = λ other ne. stays-back place name other (only.others (rack_file place other) (λ e. ne (sym (back place other) ∙ ap (rack_file place) e)));
  rest = record { link = only.rest.link; clock = only.rest.clock; counts = only.rest.counts };
}

-- what the label tells
pub same_place : (p q n m : ℕ) (l k : List ℕ) → p ∷ n ∷ l ≡ q ∷ m ∷ k → p ≡ q
same_place p q n m l k e = cc

pub same_name : (p q n m : ℕ) (l k : List ℕ) → p ∷ n ∷ l ≡ q ∷ m ∷ k → n ≡ m
same_name p q n m l k e = cc

pub same_label : (p q n m : ℕ) (l k : List ℕ) → p ∷ n ∷ l ≡ q ∷ m ∷ k → l ≡ k
same_label p q n m l k e = cc

-- a call on the view of the rack at a place was one on that run's journal alone
pub came_back : (asked place name place' name' : ℕ) (before a b after : SiteView) → place ≡ asked → a ≡ before → (name' ≡ name → after ≡ b)
    → OnlyFile 0 (seen_from place name a) (seen_from place' name' b) (IsLeft (seen_from place name a).disk 0 (seen_from place name a).disk.beat)
    → OnlyFile (file_of asked) before after (IsLeft before.disk (file_of asked) before.disk.beat)
came_back asked place name place' name' before a b after is was end only =
    let label = only.each.goes_on.label in
    let P : List ℕ → Type 0 = IsLeft (seen_from place name a).disk 0 (seen_from place name a).disk.beat in
    let there = subst (λ (p : ℕ). OnlyFile 0 (seen_from place name a) (seen_from p name' b) P) (same_place _ _ _ _ _ _ label) only in
    let here = subst (λ (n : ℕ). OnlyFile 0 (seen_from place name a) (seen_from place n b) P) (same_name _ _ _ _ _ _ label) there in
    let one = only-back place name 0 P (same_label _ _ _ _ _ _ label) here in
    let two = subst (λ (p : ℕ). OnlyFile (file_of p) a b (IsLeft a.disk (file_of p) a.disk.beat)) is one in
    let three = subst (λ (s : SiteView). OnlyFile (file_of asked) s b (IsLeft s.disk (file_of asked) s.disk.beat)) was two in
    subst (λ (s : SiteView). OnlyFile (file_of asked) before s (IsLeft before.disk (file_of asked) before.disk.beat)) (sym (end (same_name _ _ _ _ _ _ label))) three
