-- What calls on a rack are, as the run at a place sees them.
use Rattle.std.proofs.Common.{◌≡◌, ◌≢◌, ◌⊎◌, ◌==◌, inl, inr, ℕ, ◌+◌, ◌≤◌, Bool, true, false, List, refl, sym, ◌∙◌, subst, ap, if◌then◌else◌, arith}
use Rattle.std.proofs.lemmas.Bool.{cases_lt, eqb-true, eq-eqb}
use Rattle.cacao_site.specs.View.{DiskView, SiteView}
use Rattle.cacao_site.specs.DiskCalls.{GoesOn, KeepsDisk, OnlyFile, SameRest, StaysAt}
use Rattle.cacao_site.specs.SiteCalls.{LeavesDisk, Puts}
use Rattle.cacao_site.specs.Sound.{IsSound}
use Rattle.cacao_site.specs.declared.parcel.Parcel.{Parcel}
use Rattle.std.proofs.Math.Path.{fun_ext}
use Rattle.flow_laws.specs.Images.{IsAgent}
use Rattle.cacao_site.specs.RunViews.{file_of, rack_file}
use Rattle.flow_fleet_laws.specs.Views.{ViewsAreWhole, ViewsFromTheFirst, ViewsHideOthers, ViewsShareFilters, disk_seen, seen_from}

pub goes_on-seen : {a b : DiskView} (place : ℕ) → GoesOn a b → GoesOn (disk_seen place a) (disk_seen place b)
goes_on-seen place on = record {
  told = on.told;
  later = on.later;
  past = λ file beat image le. on.past (rack_file place file) beat image le;
  calls = on.calls;
  written = on.written;
  faults = on.faults;
  label = on.label;
}

pub stays-seen : {a b : DiskView} (place file : ℕ) → StaysAt a b (rack_file place file) → StaysAt (disk_seen place a) (disk_seen place b) file
stays-seen place file stays = record { reads = stays.reads; images = stays.images }

pub keeps-seen : {a b : DiskView} (place : ℕ) → KeepsDisk a b → KeepsDisk (disk_seen place a) (disk_seen place b)
keeps-seen place keeps = record {
  goes_on = goes_on-seen place keeps.goes_on;
  stays = λ file. stays-seen place file (keeps.stays (rack_file place file));
  written = keeps.written;
  faults = keeps.faults;
}

moved_file : (place file : ℕ) → (file == 0) ≡ false → (file == file_of place) ≡ true → rack_file place file ≡ 0
moved_file place file a b = ap (λ (x : Bool). if x then file_of place else if file == file_of place then 0 else file) a ∙ ap (λ (x : Bool). if x then 0 else file) b

other_file : (place file : ℕ) → (file == 0) ≡ false → (file == file_of place) ≡ false → rack_file place file ≡ file
other_file place file a b = ap (λ (x : Bool). if x then file_of place else if file == file_of place then 0 else file) a ∙ ap (λ (x : Bool). if x then 0 else file) b

-- a file of the view is the file of the rack that it is seen in
pub back : (place file : ℕ) → rack_file place (rack_file place file) ≡ file
back place file = by (file == 0) refl (file == file_of place) refl
  where
    home : (b : Bool) → (file_of place == 0) ≡ b → file ≡ 0 → rack_file place (file_of place) ≡ file
    home true e zero_is = ap (rack_file place) (eqb-true _ _ e) ∙ (eqb-true _ _ e ∙ sym zero_is)
    home false e zero_is = moved_file place (file_of place) e (eq-eqb (file_of place) (file_of place) refl) ∙ sym zero_is

    by : (a : Bool) → (file == 0) ≡ a → (b : Bool) → (file == file_of place) ≡ b → rack_file place (rack_file place file) ≡ file
    by true ea b eb =
        let is : file ≡ 0 = eqb-true _ _ ea in
        subst (λ (f : ℕ). rack_file place f ≡ file) (sym (ap (rack_file place) is)) (home (file_of place == 0) refl is)
    by false ea true eb = ap (rack_file place) (moved_file place file ea eb) ∙ sym (eqb-true _ _ eb)
    by false ea false eb = ap (rack_file place) (other_file place file ea eb) ∙ other_file place file ea eb

pub one_to_one : (place file other : ℕ) → rack_file place file ≡ rack_file place other → file ≡ other
one_to_one place file other e = sym (back place file) ∙ ap (rack_file place) e ∙ back place other

pub rest-seen : {a b : SiteView} (place : ℕ) → SameRest a b → SameRest (seen_from place a) (seen_from place b)
rest-seen place rest = record { link = rest.link; clock = rest.clock; counts = rest.counts }

leaves-seen : {a b : SiteView} (place : ℕ) → LeavesDisk a b → LeavesDisk (seen_from place a) (seen_from place b)
leaves-seen place leaves = record { disk = keeps-seen place leaves.disk; calls = leaves.calls; says = leaves.says }

pub puts-seen : {a b : SiteView} (place : ℕ) (parcel : Parcel) → Puts parcel a b → Puts parcel (seen_from place a) (seen_from place b)
puts-seen place parcel puts = record {
  disk = leaves-seen place puts.disk;
  time = puts.time;
  unsaid = puts.unsaid;
  mishaps = puts.mishaps;
  puts = puts.puts;
  arrives = puts.arrives;
  pending = puts.pending;
  taken = puts.taken;
  empty_takes = puts.empty_takes;
  said = puts.said;
}

pub sound-seen : (place : ℕ) (site : SiteView) → IsSound site → IsSound (seen_from place site)
sound-seen place site sound = record {
  reads = λ file told. sound.reads (rack_file place file) told;
  images = λ file beat told le. sound.images (rack_file place file) beat told le;
  puts = sound.puts;
  taken = sound.taken;
  said = sound.said;
  pending = sound.pending;
  was_put = sound.was_put;
}

-- ---- a call on one file, as a run sees it

-- where a journal stands
pub file_is : (place : ℕ) → ((place ≡ 0) × (file_of place ≡ 0)) ⊎ ((1 ≤ place) × (file_of place ≡ 16 + place))
file_is place = by (place == 0) refl
  where
    some : (place == 0) ≡ false → 1 ≤ place
    some e = elim (cases_lt 0 place) [
      | inl low ↦ low
      | inr none ↦ let z : place ≡ 0 = omega arith in let t = eq-eqb _ _ z in absurd (cc)
    ]

    by : (b : Bool) → (place == 0) ≡ b → ((place ≡ 0) × (file_of place ≡ 0)) ⊎ ((1 ≤ place) × (file_of place ≡ 16 + place))
    by true e = inl (eqb-true _ _ e, ap (λ (b : Bool). if b then 0 else 16 + place) e)
    by false e = inr (some e, ap (λ (b : Bool). if b then 0 else 16 + place) e)

-- two places have two journals
pub journals_differ : (place other : ℕ) → place ≤ 15 → other ≤ 15 → other ≢ place → file_of place ≢ file_of other
journals_differ place other low high ne same = elim (file_is place) [
  | inl p ↦ elim (file_is other) [
    | inl q ↦ absurd (ne (q.0 ∙ sym p.0))
    | inr q ↦ let a = p.1 in let b = q.1 in absurd (omega (arith, a, b, same))
  ]
  | inr p ↦ elim (file_is other) [
    | inl q ↦ let a = p.1 in let b = q.1 in absurd (omega (arith, a, b, same))
    | inr q ↦ let a = p.1 in let b = q.1 in absurd (ne (omega (arith, a, b, same)))
  ]
]

-- of the files that a run sees, up to 16, none is another run's journal
pub not_others : (place other file : ℕ) → place ≤ 15 → other ≤ 15 → other ≢ place → file ≤ 16 → rack_file place file ≢ file_of other
not_others place other file low high ne le e = by (file == 0) refl (file == file_of place) refl
  where
    late : file ≡ file_of other → (file == 0) ≡ false → ⊥
    late same not_zero = elim (file_is other) [
      | inl q ↦ let z : file ≡ 0 = same ∙ q.1 in let t = eq-eqb _ _ z in absurd (cc)
      | inr q ↦ let a = q.0 in let b = q.1 in absurd (omega (arith, a, b, same, le))
    ]

    by : (a : Bool) → (file == 0) ≡ a → (b : Bool) → (file == file_of place) ≡ b → ⊥
    by true ea b eb = journals_differ place other low high ne (sym (ap (rack_file place) (eqb-true _ _ ea)) ∙ e)
    by false ea true eb = elim (file_is place) [
      | inl p ↦ let z : file ≡ 0 = eqb-true _ _ eb ∙ p.1 in let t = eq-eqb _ _ z in absurd (cc)
      | inr p ↦ let a = p.0 in let b = p.1 in let c = eqb-true _ _ eb in absurd (omega (arith, a, b, c, le))
    ]
    by false ea false eb = late (sym (other_file place file ea eb) ∙ e) ea

-- an agent's file is the same for each run
pub filter_file : (place agent : ℕ) → 1 ≤ agent → agent ≤ 16 → rack_file place agent ≡ agent
filter_file place agent low high = by (agent == 0) refl (agent == file_of place) refl
  where
    by : (a : Bool) → (agent == 0) ≡ a → (b : Bool) → (agent == file_of place) ≡ b → rack_file place agent ≡ agent
    by true ea b eb = let z : agent ≡ 0 = eqb-true _ _ ea in absurd (omega (arith, z, low))
    by false ea true eb = elim (file_is place) [
      | inl p ↦ let z : agent ≡ 0 = eqb-true _ _ eb ∙ p.1 in absurd (omega (arith, z, low))
      | inr p ↦ let a = p.0 in let b = p.1 in let c = eqb-true _ _ eb in absurd (omega (arith, a, b, c, high))
    ]
    by false ea false eb = other_file place agent ea eb

-- one file alone may have changed
pub only-seen : {a b : SiteView} (place file : ℕ) (P : List ℕ → Type 0) → OnlyFile (rack_file place file) a b P → OnlyFile file (seen_from place a) (seen_from place b) P
only-seen place file P only = record {
  each = record { goes_on = goes_on-seen place only.each.goes_on; each = only.each.each };
  others = λ other ne. stays-seen place other (only.others (rack_file place other) (λ e. ne (one_to_one place other file e)));
  rest = rest-seen place only.rest;
}

-- ---- the laws

pub views_are_whole : ViewsAreWhole
views_are_whole place file = back place file

pub views_share_filters : ViewsShareFilters
views_share_filters place agent is = filter_file place agent is.0 is.1

pub views_hide_others : ViewsHideOthers
views_hide_others place other file low high ne le = not_others place other file low high ne le

first_file : (file : ℕ) → rack_file 0 file ≡ file
first_file file = by (file == 0) refl
  where
    by : (b : Bool) → (file == 0) ≡ b → rack_file 0 file ≡ file
    by true e = ap (rack_file 0) (eqb-true _ _ e) ∙ sym (eqb-true _ _ e)
    by false e = other_file 0 file e e

pub views_from_the_first : ViewsFromTheFirst
views_from_the_first site =
    ap (λ (m : ℕ → ℕ). record site { disk = record site.disk { reads = λ file. site.disk.reads (m file); left = λ file beat image. site.disk.left (m file) beat image } })
    (fun_ext first_file)

-- ---- files of a rack

-- the journal of a place is no filter's file
pub no_filter : (place agent : ℕ) → IsAgent agent → file_of place ≢ agent
no_filter place agent is same = elim (file_is place) [
  | inl p ↦ let a = p.1 in absurd (omega (arith, a, same, is.0))
  | inr p ↦ let a = p.0 in let b = p.1 in absurd (omega (arith, a, b, same, is.1))
]

-- what a run sees among files 0 to 16 stands in the first 32
pub few_files : (place file : ℕ) → place ≤ 15 → file ≤ 16 → rack_file place file ≤ 31
few_files place file low le = by (file == 0) refl (file == file_of place) refl
  where
    own : file_of place ≤ 31
    own = elim (file_is place) [
      | inl p ↦ let a = p.1 in omega (arith, a)
      | inr p ↦ let a = p.1 in omega (arith, a, low)
    ]

    by : (a : Bool) → (file == 0) ≡ a → (b : Bool) → (file == file_of place) ≡ b → rack_file place file ≤ 31
    by true ea b eb = subst (λ (n : ℕ). n ≤ 31) (sym (ap (rack_file place) (eqb-true _ _ ea))) own
    by false ea true eb = subst (λ (n : ℕ). n ≤ 31) (sym (moved_file place file ea eb)) (omega arith)
    by false ea false eb = subst (λ (n : ℕ). n ≤ 31) (sym (other_file place file ea eb)) (omega (arith, le))
