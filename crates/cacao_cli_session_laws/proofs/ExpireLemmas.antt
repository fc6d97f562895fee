-- No call that lost no parcel appends an Expire, whatever it answers.
use Rattle.std.proofs.Common.{◌≡◌, ◌≢◌, ◌⊎◌, inl, inr, ◌∙◌, refl, sym, ap, subst, arith, ℕ, List, [], ◌∷◌, ◌++◌, append_assoc, append-nil, Option}
use Rattle.std.specs.Prelude.{IfSome, IsTrue}
use Rattle.std.specs.List.{AllByRecursion}
use Rattle.cacao_site.specs.Counts.{DidNotRise, Rose}
use Rattle.cacao_site.specs.DiskCalls.{IsLeft}
use Rattle.cacao_site.specs.Sound.{IsSound}
use Rattle.cacao_site.specs.View.{SiteView}
use Rattle.cacao_site.proofs.Beats.{goes_on-refl, told-goes_on}
use Rattle.run_records.specs.Ranges.{InRange}
use Rattle.run_records.specs.declared.record.Record.{Record}
use Rattle.flow_core_rules.specs.Givens.{Given}
use Rattle.flow_engine_history.specs.HistoryView.{HoldsRecords}
use Rattle.flow_engine_history.specs.Openings.{IsRefusedOpening}
use Rattle.flow_engine_history.specs.declared.error.EngineError.{EngineError}
use Rattle.flow_engine_history.specs.declared.error.EngineError.TheVariants as refusal
use Rattle.flow_engine_answers.specs.declared.answers.OperatorAnswer.{OperatorAnswer}
use Rattle.flow_laws.specs.Good.{AgreeOn}
use Rattle.flow_laws.specs.Images.{IsRecords, puts_to}
use Rattle.flow_laws.proofs.OneList.{records_of_layout}
use Rattle.flow_world_steps.specs.Complete.{IsComplete, IsNoExpire}
use Rattle.flow_world_steps.specs.Sides.{HoldsWithUnsure}
use Rattle.flow_world_steps.specs.Unbroken.{IsJournalSure}
use Rattle.flow_world_steps.specs.Unsure.{UnsureByStep}
use Rattle.flow_world_steps.specs.Worlds.{Notes}
use Rattle.flow_world.specs.Errors.{opening_refusal}
use Rattle.flow_world.specs.Openings.{RefusesJournal, RefusesOpening}
use Rattle.flow_world.specs.Sessions.{HasRefused, IsStart, Went}
use Rattle.flow_world.specs.WorldError.{WorldError}
use Rattle.flow_world.specs.WorldError.TheVariants as error
use Rattle.flow_world_laws.proofs.Opening.{OnlyOpens, opens_refused}
use Rattle.flow_world_laws.proofs.Undamaged.{reads_agree}
use Rattle.cacao_cli_session_laws.specs.Completing.{AddsNoExpire}
use Rattle.cacao_cli_session_laws.proofs.DoneLemmas.{complete}
use Rattle.cacao_cli_session_laws.proofs.ReturnedRuns.{gains-added, had-records, sound-reads, sound-there, told-there}

-- ---- lists that end with one

no-split : (P : Type 0) (front back : List Record) (r : Record) → [] ≡ front ++ r ∷ back → P
no-split P [] back r e = absurd (cc)
no-split P (x ∷ front) back r e = absurd (cc)

no-more : (P : Type 0) (r x f : Record) (front back : List Record) → r ∷ [] ≡ f ∷ (front ++ x ∷ back) → P
no-more P r x f front back e = no-split P front back x (tails e)
  where
    tails : r ∷ [] ≡ f ∷ (front ++ x ∷ back) → [] ≡ front ++ x ∷ back
    tails e = cc

-- what stands in a list with one more at its end is that one, or stands before it
split-last : (xs front back : List Record) (r x : Record) → xs ++ r ∷ [] ≡ front ++ x ∷ back → (x ≡ r) ⊎ ((rest : List Record) × (xs ≡ front ++ x ∷ rest))
split-last [] [] back r x e = inl (head e)
  where
    head : r ∷ [] ≡ x ∷ back → x ≡ r
    head e = cc
split-last [] (f ∷ front) back r x e = no-more _ r x f front back e
split-last (y ∷ xs) [] back r x e = inr (xs, ap (λ (z : Record). z ∷ xs) (head e))
  where
    head : y ∷ (xs ++ r ∷ []) ≡ x ∷ back → y ≡ x
    head e = cc
split-last (y ∷ xs) (f ∷ front) back r x e = elim (split-last xs front back r x (tails e)) [
  | inl same ↦ inl same
  | inr found ↦ inr (found.0, joined found.0 (head e) found.1)
]
  where
    head : y ∷ (xs ++ r ∷ []) ≡ f ∷ (front ++ x ∷ back) → y ≡ f
    head e = cc

    tails : y ∷ (xs ++ r ∷ []) ≡ f ∷ (front ++ x ∷ back) → xs ++ r ∷ [] ≡ front ++ x ∷ back
    tails e = cc

    joined : (rest : List Record) → y ≡ f → xs ≡ front ++ x ∷ rest → y ∷ xs ≡ f ∷ (front ++ x ∷ rest)
    joined rest p q = cc

all-more : (xs : List Record) (x : Record) → AllByRecursion InRange xs → InRange x → AllByRecursion InRange (xs ++ x ∷ [])
all-more [] x all is = (is, tt)
all-more (y ∷ xs) x all is = (all.0, all-more xs x all.1 is)

-- ---- files that were only opened

pub same-opens : (old mid : SiteView) → mid ≡ old → OnlyOpens old mid
same-opens old mid same = subst (λ (s : SiteView). OnlyOpens old s) (sym same) (record { on = goes_on-refl old.disk; among = λ told file image left. left })

only-disk : (why : EngineError) → error.Disk ≡ opening_refusal why → why ≡ refusal.Disk
only-disk refusal.Disk e = refl
only-disk (refusal.Damaged place) e = absurd (cc)
only-disk (refusal.OtherRun held asked) e = absurd (cc)
only-disk (refusal.OtherBook index) e = absurd (cc)
only-disk (refusal.Limit what) e = absurd (cc)
only-disk refusal.Memory e = absurd (cc)
only-disk refusal.Broken e = absurd (cc)

-- the disk failed, or it did not
pub disk-or-not : (why : WorldError) → (why ≡ error.Disk) ⊎ (why ≢ error.Disk)
disk-or-not error.Disk = inl refl
disk-or-not (error.Damaged file place) = inr (λ e. cc)
disk-or-not (error.OtherRun held asked) = inr (λ e. cc)
disk-or-not (error.OtherBook index) = inr (λ e. cc)
disk-or-not (error.RunUsed agent) = inr (λ e. cc)
disk-or-not (error.Limit what) = inr (λ e. cc)
disk-or-not error.Say = inr (λ e. cc)
disk-or-not error.Memory = inr (λ e. cc)

pub journal-rose : (why : WorldError) (given : Given) (run : ℕ) (old mid : SiteView) → RefusesJournal why given run old mid → why ≡ error.Disk → Rose old.disk.faults mid.disk.faults
journal-rose why given run old mid h e = subst (λ (w : EngineError). IsRefusedOpening given run w old mid) (only-disk h.why (sym e ∙ h.is)) h.refused

rose-not : (old mid new : ℕ) → Rose old mid → new ≡ mid → DidNotRise old new → ⊥
rose-not old mid new rose same still_ = omega (arith, rose, same, still_.0, still_.1)

module _ (old mid new : SiteView) (run : ℕ) (sound_old : IsSound old) (sound : IsSound mid) (is : IsStart old run) (reads : new.disk.reads 0 ≡ mid.disk.reads 0) (faults : new.disk.faults ≡ mid.disk.faults) where
  there : (records : List Record) → IsRecords (mid.disk.reads 0) records → IsRecords (new.disk.reads 0) records
  there records are = subst (λ (image : List ℕ). IsRecords image records) (sym reads) are

  was-left : IsLeft old.disk 0 old.disk.beat (old.disk.reads 0)
  was-left = sound_old.reads 0 is.told

  agreed : OnlyOpens old mid → AgreeOn mid.disk.reads (puts_to old old.disk.beat)
  agreed opens = reads_agree old mid is.told is.start.good sound opens

  none-added : (image : List ℕ) → IsLeft old.disk 0 old.disk.beat image → (DidNotRise old.disk.faults new.disk.faults → image ≡ old.disk.reads 0) → (are : AgreeOn mid.disk.reads (puts_to old old.disk.beat))
      → IsRecords image are.records → AddsNoExpire old new
  none-added image left same are had = record {
    image = image;
    left = left;
    same = same;
    before = are.records;
    had = had;
    added = [];
    has = subst (IsRecords (new.disk.reads 0)) (sym (append-nil are.records)) (there are.records are.are_records);
    none = λ front back r e. no-split (IsNoExpire r) front back r e;
  }

  -- where they read as before
  pub opened-same : OnlyOpens old mid → mid.disk.reads 0 ≡ old.disk.reads 0 → AddsNoExpire old new
  opened-same opens same =
      let are = agreed opens in
      none-added (old.disk.reads 0) was-left (λ still_. refl) are (subst (λ (image : List ℕ). IsRecords image are.records) same are.are_records)

  -- and where a call of the disk failed
  opened-otherwise : OnlyOpens old mid → Rose old.disk.faults mid.disk.faults → AddsNoExpire old new
  opened-otherwise opens rose =
      let are = agreed opens in
      none-added (mid.disk.reads 0) (opens.among is.told 0 (mid.disk.reads 0) (sound.reads 0 (told-goes_on opens.on is.told)))
      (λ still_. absurd (rose-not old.disk.faults mid.disk.faults new.disk.faults rose faults still_)) are are.are_records

  pub refused-none : (why : WorldError) (given : Given) → RefusesOpening why given run old mid → AddsNoExpire old new
  refused-none why given (inl first) = elim (disk-or-not why) [
    | inl failed ↦ opened-otherwise (opens_refused why given run old mid (inl first)) (journal-rose why given run old mid first failed)
    | inr other ↦ opened-same (opens_refused why given run old mid (inl first)) (first.reads other)
  ]
  refused-none why given (inr second) =
      let last = second.refuses in
      opened-same (opens_refused why given run old mid (inr second))
      ((last.refuses.opens.only.others 0 (λ e. omega (arith, e))).reads ∙ (last.before.others 0 (inl refl)).reads ∙ second.journal.reads)

  -- ---- sessions

  module _ (given : Given) (most : ℕ) (answers : List OperatorAnswer) (told : IsTrue mid.disk.told) (went : Went given run most answers old mid) (still_ : DidNotRise old.counts.mishaps mid.counts.mishaps) where
    all : IsComplete went.start went.to
    all = complete old mid run sound is given most answers told went still_

    none-among : (front back : List Record) (r : Record) → went.sums.adds.added ≡ front ++ r ∷ back → IsNoExpire r
    none-among front back r e = all.none_expires front back r
        (went.sums.adds.is ∙ ap (λ (l : List Record). went.start.engine.history.records ++ l) e ∙ sym (append_assoc went.start.engine.history.records front (r ∷ back)))

    gained : (added : List Record) → IsRecords (mid.disk.reads 0) (went.start.engine.history.records ++ added) → ((front back : List Record) (r : Record) → added ≡ front ++ r ∷ back → IsNoExpire r) → AddsNoExpire old new
    gained added has none = record {
      image = old.disk.reads 0;
      left = was-left;
      same = λ s. refl;
      before = went.start.engine.history.records;
      had = had-records given run most answers old mid (sound-reads mid sound) told went;
      added = added;
      has = there (went.start.engine.history.records ++ added) has;
      none = none;
    }

    -- where the last record may stand in the file or not
    unsure-none : (r : Record) → UnsureByStep went.start went.to r → AddsNoExpire old new
    unsure-none r h = by (subst (λ (o : Option Record). HoldsWithUnsure records o (mid.disk.reads 0)) h.has holds)
      where
        records : List Record
        records = went.to.engine.history.records

        first : List Record
        first = went.start.engine.history.records

        added : List Record
        added = went.sums.adds.added

        holds : HoldsWithUnsure records went.to.notes.unsure (mid.disk.reads 0)
        holds = subst (λ (s : SiteView). HoldsWithUnsure records went.to.notes.unsure (s.disk.reads 0)) went.to_is
            (went.sums.journal.holds (told-there given run most answers old mid (sound-reads mid sound) told went) (went.to.site.disk.reads 0)
            ((sound-there given run most answers old mid (sound-reads mid sound) told went).reads 0 (told-there given run most answers old mid (sound-reads mid sound) told went)))

        ranges : AllByRecursion InRange records
        ranges = went.sums.journal.engine.history.ranges

        in-range : InRange r
        in-range = subst InRange h.offers.comes.is h.offers.in_range

        no-expire : IsNoExpire r
        no-expire = subst (λ (o : Option Record). IfSome o IsNoExpire) h.has (all.none_unsure (ap (λ (n : Notes). n.unsure) went.begins.notes))

        among : (front back : List Record) (x : Record) → added ++ r ∷ [] ≡ front ++ x ∷ back → IsNoExpire x
        among front back x e = elim (split-last added front back r x e) [
          | inl same ↦ subst IsNoExpire (sym same) no-expire
          | inr found ↦ none-among front found.0 x found.1
        ]

        by : HoldsRecords records (mid.disk.reads 0) ⊎ HoldsRecords (records ++ r ∷ []) (mid.disk.reads 0) → AddsNoExpire old new
        by (inl before) = gained added (subst (IsRecords (mid.disk.reads 0)) went.sums.adds.is (records_of_layout (mid.disk.reads 0) records ranges before)) none-among
        by (inr after) = gained (added ++ r ∷ [])
            (subst (IsRecords (mid.disk.reads 0)) (ap (λ (l : List Record). l ++ r ∷ []) went.sums.adds.is ∙ append_assoc first added (r ∷ []))
            (records_of_layout (mid.disk.reads 0) (records ++ r ∷ []) (all-more records r ranges in-range) after)) among

    pub went-none : AddsNoExpire old new
    went-none = by went.sums.unbroken.journal
      where
        by : IsJournalSure went.to ⊎ ((r : Record) × UnsureByStep went.start went.to r) → AddsNoExpire old new
        by (inl sure) = gained went.sums.adds.added (gains-added given run most answers old mid (sound-reads mid sound) told went sure).has none-among
        by (inr h) = unsure-none h.0 h.1

  pub refused-adds : (why : WorldError) (given : Given) (most : ℕ) (answers : List OperatorAnswer) → IsTrue mid.disk.told → DidNotRise old.counts.mishaps mid.counts.mishaps
      → HasRefused why given run most answers old mid → AddsNoExpire old new
  refused-adds why given most answers told still_ (inl opening) = refused-none why given opening
  refused-adds why given most answers told still_ (inr later) = went-none given most answers told later.went still_
