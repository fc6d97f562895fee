-- What files hold that were opened again.
use Rattle.std.proofs.Common.{◌≡◌, inl, inr, ℕ, zero, suc, ◌+◌, ◌-◌, ◌<◌, ◌≤◌, List, [], ◌∷◌, length, map, take, Some, refl, sym, subst, ap, ap₂, ◌∙◌, arith}
use Rattle.std.specs.Prelude.{IsTrue, slice_get}
use Rattle.std.proofs.lemmas.List.{length-map}
use Rattle.std.specs.List.{AllByRecursion}
use Rattle.std.proofs.lemmas.Bool.{cases_eq}
use Rattle.std.proofs.lemmas.Option.{same_Some}
use Rattle.cacao_site.specs.DiskCalls.{AllLeft, IsLeft, OnlyFile}
use Rattle.cacao_site.specs.Sound.{IsSound}
use Rattle.cacao_site.specs.View.{DiskView, SiteView}
use Rattle.run_journal.specs.Layout.{IsDamagedAt, Stands}
use Rattle.run_journal.proofs.LayoutLaws.{no_list_where_damaged, one_list}
use Rattle.run_records.specs.Layout.{act_layout, layout}
use Rattle.run_records.specs.Ranges.{ActInRange}
use Rattle.run_records.specs.Reading.{act_of}
use Rattle.run_records.specs.declared.act.Act.{Act}
use Rattle.run_records.specs.declared.record.Record.{Record}
use Rattle.run_records.proofs.ReadLemmas.{act_again}
use Rattle.slpf_actuator.specs.ActLists.{IsHistory, entries_of}
use Rattle.slpf_actuator.specs.ActuatorView.{ActuatorView, HoldsActs}
use Rattle.slpf_actuator.specs.Damage.{IsDamaged}
use Rattle.slpf_actuator.proofs.Damages.{no_acts_where_damaged}
use Rattle.flow_engine_history.specs.HistoryView.{HoldsRecords}
use Rattle.flow_world_steps.specs.Sides.{AreFilters, IsFilter}
use Rattle.flow_world_steps.specs.Sums.{total}
use Rattle.cacao_cli_rehearsal.specs.Counts.{CountsRecords, HoldsFilter, HoldsFilters, HoldsRun, KeepsImages}

-- ---- images

pub keeps_only : (file : ℕ) (old new : SiteView) → OnlyFile file old new (IsLeft old.disk file old.disk.beat) → KeepsImages old.disk new.disk
keeps_only file old new only = record {
  told = only.each.goes_on.told;
  faults = only.each.goes_on.faults;
  each = λ other image told left. elim (cases_eq other file) [
    | inl same ↦
        subst (λ (f : ℕ). IsLeft old.disk f old.disk.beat image) (sym same)
        (only.each.each told new.disk.beat image only.each.goes_on.later (omega arith) (subst (λ (f : ℕ). IsLeft new.disk f new.disk.beat image) same left))
    | inr apart ↦ subst IsTrue ((only.others other (λ e. absurd (apart e))).images new.disk.beat image only.each.goes_on.later (omega arith)) left
  ];
}

pub keeps_then : (a b c : DiskView) → KeepsImages a b → KeepsImages b c → KeepsImages a c
keeps_then a b c one two = record {
  told = two.told ∙ one.told;
  faults = omega (arith, one.faults, two.faults);
  each = λ file image told left. one.each file image told (two.each file image (subst IsTrue (sym one.told) told) left);
}

-- what a file reads as is one of the images that it had before
was_left : (file : ℕ) (old new : SiteView) → KeepsImages old.disk new.disk → IsSound new → IsTrue old.disk.told → IsLeft old.disk file old.disk.beat (new.disk.reads file)
was_left file old new keeps sound told = keeps.each file (new.disk.reads file) told (sound.reads file (subst IsTrue (sym keeps.told) told))

-- ---- records

holds_then : (old new : SiteView) (records : List Record) → KeepsImages old.disk new.disk → IsSound new → IsTrue old.disk.told → AllLeft 0 old.disk (HoldsRecords records)
    → HoldsRecords records (new.disk.reads 0)
holds_then old new records keeps sound told holds = holds told (new.disk.reads 0) (was_left 0 old new keeps sound told)

pub records_counted : (old new : SiteView) (items : List (List ℕ)) (count : ℕ) → KeepsImages old.disk new.disk → IsSound new → IsTrue old.disk.told
    → Stands (new.disk.reads 0) items → count ≡ length items → CountsRecords old.disk count
records_counted old new items count keeps sound told stands many = λ records holds.
    many ∙ ap length (one_list (new.disk.reads 0) items (map layout records) stands (holds_then old new records keeps sound told holds)) ∙ length-map records layout

pub run_stands : (old new : SiteView) (place : ℕ) → KeepsImages old.disk new.disk → IsSound new → IsTrue old.disk.told → HoldsRun old.disk
    → IsDamagedAt (new.disk.reads 0) place → ⊥
run_stands old new place keeps sound told run damaged =
    no_list_where_damaged (new.disk.reads 0) place (map layout run.records) damaged (holds_then old new run.records keeps sound told run.holds)

-- ---- acts

acts_then : (agent : ℕ) (old new : SiteView) (v : ActuatorView) → KeepsImages old.disk new.disk → IsSound new → IsTrue old.disk.told → IsFilter v agent old
    → HoldsActs v.acts (new.disk.reads agent)
acts_then agent old new v keeps sound told is =
    (is.ready.images is.whole told (new.disk.reads agent)
    (subst (λ (f : ℕ). IsLeft old.disk f old.disk.beat (new.disk.reads agent)) (sym is.of_agent) (was_left agent old new keeps sound told))).0

pub filter_stands : (agent : ℕ) (old new : SiteView) (place : ℕ) → KeepsImages old.disk new.disk → IsSound new → IsTrue old.disk.told → HoldsFilter agent old
    → IsDamaged (new.disk.reads agent) place → ⊥
filter_stands agent old new place keeps sound told holds damaged =
    no_acts_where_damaged (new.disk.reads agent) place holds.v.acts damaged (acts_then agent old new holds.v keeps sound told holds.is) holds.is.ready.history

heads : (a b : List ℕ) (r s : List (List ℕ)) → a ∷ r ≡ b ∷ s → (a ≡ b) × (r ≡ s)
heads a b r s e = (cc, cc)

same_acts : (xs ys : List Act) → AllByRecursion ActInRange xs → AllByRecursion ActInRange ys → entries_of xs ≡ entries_of ys → xs ≡ ys
same_acts [] [] p q e = refl
same_acts [] (y ∷ ys) p q e = absurd (cc)
same_acts (x ∷ xs) [] p q e = absurd (cc)
same_acts (x ∷ xs) (y ∷ ys) p q e =
    let parts = heads (act_layout x) (act_layout y) (entries_of xs) (entries_of ys) e in
    let first : x ≡ y = same_Some x y (sym (act_again x p.0) ∙ ap act_of parts.0 ∙ act_again y q.0) in
    ap₂ (λ (a : Act) (l : List Act). a ∷ l) first (same_acts xs ys p.1 q.1 parts.1)

-- the acts that were read are those that were held
pub acts_read : (agent : ℕ) (old new : SiteView) (v w : ActuatorView) → KeepsImages old.disk new.disk → IsSound new → IsTrue old.disk.told → IsFilter v agent old
    → IsHistory w.acts → HoldsActs w.acts (new.disk.reads agent) → w.acts ≡ v.acts
acts_read agent old new v w keeps sound told is history holds =
    same_acts w.acts v.acts history.ranges is.ready.history.ranges
    (one_list (new.disk.reads agent) (entries_of w.acts) (entries_of v.acts) holds (acts_then agent old new v keeps sound told is))

-- ---- filters

filter_kept : (agent : ℕ) (old new : SiteView) (v : ActuatorView) → KeepsImages old.disk new.disk → IsFilter v agent old → IsFilter v agent new
filter_kept agent old new v keeps is = record {
  ready = record {
    low = is.ready.low;
    high = is.ready.high;
    history = is.ready.history;
    images = λ whole told image left. is.ready.images whole (subst IsTrue keeps.told told) image (keeps.each v.agent image (subst IsTrue keeps.told told) left);
  };
  whole = is.whole;
  of_agent = is.of_agent;
}

there : {T : Type 0} (xs : List T) (n : ℕ) → n < length xs → (x : T) × (slice_get xs n ≡ Some x)
there [] n lt = absurd (omega arith)
there (x ∷ xs) zero lt = (x, refl)
there (x ∷ xs) (suc n) lt = there xs n (omega arith)

-- the next filter, as it stands meanwhile
pub record IsNext (agent : ℕ) (filters : List ActuatorView) (site : SiteView) : Type 0 where
  pub v : ActuatorView
  pub there : slice_get filters (agent - 1) ≡ Some v
  pub is : IsFilter v agent site

pub next_filter : (agent : ℕ) (old new : SiteView) (filters : List ActuatorView) → 1 ≤ agent → agent ≤ 16 → KeepsImages old.disk new.disk → AreFilters filters old
    → IsNext agent filters new
next_filter zero old new filters low high keeps are = absurd (omega arith)
next_filter (suc n) old new filters low high keeps are =
    let n_is : suc n - 1 ≡ n = omega arith in
    let found = there filters n (omega (arith, high, are.all)) in
    record {
      v = found.0;
      there = ap (λ (k : ℕ). slice_get filters k) n_is ∙ found.1;
      is = filter_kept (suc n) old new found.0 keeps (are.each n found.0 found.1);
    }

pub holds_next : (agent : ℕ) (old new : SiteView) → 1 ≤ agent → agent ≤ 16 → KeepsImages old.disk new.disk → HoldsFilters old → HoldsFilter agent new
holds_next agent old new low high keeps holds = let next = next_filter agent old new holds.filters low high keeps holds.are in record { v = next.v; is = next.is }

-- ---- sums

pub total_more : {T : Type 0} (f : T → ℕ) (xs : List T) (n : ℕ) (x : T) → slice_get xs n ≡ Some x → total f (take (n + 1) xs) ≡ total f (take n xs) + f x
total_more {T} f xs n x e = let one : n + 1 ≡ suc n = omega arith in ap (λ (k : ℕ). total f (take k xs)) one ∙ by xs n e
  where
    by : (xs : List T) (n : ℕ) → slice_get xs n ≡ Some x → total f (take (suc n) xs) ≡ total f (take n xs) + f x
    by [] n e = absurd (cc)
    by (y ∷ ys) zero e = let same : y ≡ x = same_Some y x e in let at = ap f same in omega (arith, at)
    by (y ∷ ys) (suc n) e = let rest = by ys n e in omega (arith, rest)

pub take_all : {T : Type 0} (xs : List T) (n : ℕ) → length xs ≡ n → take n xs ≡ xs
take_all {T} [] zero e = refl
take_all {T} [] (suc n) e = refl
take_all {T} (x ∷ xs) zero e = absurd (omega (arith, e))
take_all {T} (x ∷ xs) (suc n) e = ap (λ (l : List T). x ∷ l) (take_all xs n (omega (arith, e)))

pub more_counted : (f : ActuatorView → ℕ) (agent so_far one : ℕ) (old mid : SiteView) (filters : List ActuatorView) → 1 ≤ agent → agent ≤ 16 → KeepsImages old.disk mid.disk
    → AreFilters filters old → ((v : ActuatorView) → IsFilter v agent mid → one ≡ f v) → so_far ≡ total f (take (agent - 1) filters)
    → so_far + one ≡ total f (take (agent + 1 - 1) filters)
more_counted f agent so_far one old mid filters low high keeps are counts before =
    let next = next_filter agent old mid filters low high keeps are in
    let here : one ≡ f next.v = counts next.v next.is in
    let more = total_more f filters (agent - 1) next.v next.there in
    let at : agent - 1 + 1 ≡ agent + 1 - 1 = omega (arith, low) in
    let same = ap (λ (n : ℕ). total f (take n filters)) at in
    omega (arith, here, more, same, before)

pub filters_kept : (old new : SiteView) (filters : List ActuatorView) → KeepsImages old.disk new.disk → AreFilters filters old → AreFilters filters new
filters_kept old new filters keeps are = record { all = are.all; each = λ k v there. filter_kept (suc k) old new v keeps (are.each k v there) }

pub told_kept : (old new : DiskView) → KeepsImages old new → IsTrue old.told → IsTrue new.told
told_kept old new keeps told = subst IsTrue (sym keeps.told) told
