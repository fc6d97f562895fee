-- A run whose entries were taken, and why one is not opened.
use Rattle.std.proofs.Common.{◌≡◌, ◌≢◌, ◌↔◌, ◌<◌, inl, inr, ℕ, Bool, true, false, List, length, arith, refl, sym, subst, ap, ◌∙◌}
use Rattle.std.specs.Prelude.{IsTrue}
use Rattle.std.specs.List.{AllByRecursion}
use Rattle.cacao_site.specs.Counts.{Rose}
use Rattle.cacao_site.specs.DiskCalls.{IsDurable, IsLeft}
use Rattle.cacao_site.specs.View.{DiskView, SiteView}
use Rattle.run_journal.specs.Durable.{IsImage}
use Rattle.run_journal.specs.Layout.{IsDamagedAt, Stands}
use Rattle.run_journal.specs.declared.error.JournalError.{JournalError}
use Rattle.run_journal.specs.declared.error.JournalError.TheVariants as journal
use Rattle.run_records.specs.Ranges.{InRange}
use Rattle.run_records.specs.declared.record.Record.{Record}
use Rattle.flow_core_rules.specs.Givens.{Given}
use Rattle.flow_engine_history.specs.HistoryView.{entries_of}
use Rattle.flow_engine_history.specs.Errors.{error_of}
use Rattle.flow_engine_history.specs.Histories.{IsSoFar}
use Rattle.flow_engine_history.specs.KeptHistory.{AreStands, IsKept, records_of}
use Rattle.flow_engine_history.specs.Openings.{IsRefusedOpening, IsToldBy, RefusesEntries}
use Rattle.flow_engine_history.specs.Replays.{IsReplayed, RefusesReplay}
use Rattle.flow_engine_history.specs.declared.error.EngineError.{EngineError}
use Rattle.flow_engine_history.specs.declared.error.EngineError.TheVariants as refused
use Rattle.flow_engine_history.specs.declared.history.History.TheInside.{Inside}
use Rattle.flow_engine_history.proofs.HistoryLemmas.{records_back}

-- the records of entries that were taken are read of them again
read_again : (items : List (List ℕ)) (rs : List Record) → items ≡ entries_of rs → AllByRecursion InRange rs → records_of items ≡ rs
read_again items rs e ranges = ap records_of e ∙ records_back rs ranges

false_true : false ≡ true → ⊥
false_true e = cc

pub kept : (h : Inside) → h.journal.file ≡ 0 → IsReplayed h.flow.seen.given h.flow.seen.run h.journal.items h.flow h.stands.items → IsKept h
kept h file r =
    let back : records_of h.journal.items ≡ r.records = read_again h.journal.items r.records r.are r.ranges in
    record {
      file = file;
      entries = r.are ∙ ap entries_of (sym back);
      ranges = subst (AllByRecursion InRange) (sym back) r.ranges;
      count = r.count ∙ ap length (sym back);
      so_far = subst (λ (l : List Record). IsSoFar l h.flow.seen) (sym back) r.so_far;
      stands = subst (λ (l : List Record). AreStands h.flow.seen.given h.flow.seen.run l h.stands.items) (sym back) r.stood;
      many = r.many ∙ ap length (sym back);
    }

-- the entries of its records are those of the journal
pub entries_back : (h : Inside) → IsReplayed h.flow.seen.given h.flow.seen.run h.journal.items h.flow h.stands.items → entries_of (records_of h.journal.items) ≡ h.journal.items
entries_back h r = ap entries_of (read_again h.journal.items r.records r.are r.ranges) ∙ sym r.are

-- each image of a file that was opened is what it reads, and stands for the entries
pub opened_image : (items entries : List (List ℕ)) (was prepared : Bool) (disk : DiskView) → IsDurable 0 disk → Stands (disk.reads 0) items
    → (IsTrue was ↔ (9 < length (disk.reads 0))) → entries ≡ items → prepared ≡ was → (image : List ℕ) → IsLeft disk 0 disk.beat image → IsImage prepared entries image
opened_image items entries was prepared disk durable stands long same as_before image left =
    subst (IsImage prepared entries) (sym (durable image left))
    (subst (λ (l : List (List ℕ)). IsImage prepared l (disk.reads 0)) (sym same)
    (subst (λ (p : Bool). IsImage p items (disk.reads 0)) (sym as_before) (by was long stands)))
  where
    by : (p : Bool) → (IsTrue p ↔ (9 < length (disk.reads 0))) → Stands (disk.reads 0) items → IsImage p items (disk.reads 0)
    by true h (inl short) = absurd (omega (arith, h.0 refl, short.0))
    by true h (inr there) = (inr there, there.1)
    by false h (inl short) = (inl short, short.0)
    by false h (inr there) = absurd (false_true (h.1 there.0))

told : (given : Given) (run : ℕ) (items : List (List ℕ)) (error : EngineError) (old new : SiteView) → IsDurable 0 new.disk → (IsTrue old.disk.told → Stands (new.disk.reads 0) items)
    → RefusesEntries given run items error → IsToldBy given run error old new
told given run items error old new durable stands h = (durable, λ t. inr (record { entries = items; stands = stands t; refuses = h }))

-- the entries are refused
pub refused_entries : (given : Given) (run : ℕ) (items : List (List ℕ)) (error : EngineError) (old new : SiteView) → IsDurable 0 new.disk
    → (IsTrue old.disk.told → Stands (new.disk.reads 0) items) → RefusesReplay given run items error → IsRefusedOpening given run error old new
refused_entries given run items (refused.Damaged place) old new durable stands h = told given run items (refused.Damaged place) old new durable stands h
refused_entries given run items (refused.OtherRun held asked) old new durable stands h =
    (h.1, h.2, told given run items (refused.OtherRun held asked) old new durable stands h)
refused_entries given run items (refused.OtherBook index) old new durable stands h = told given run items (refused.OtherBook index) old new durable stands h
refused_entries given run items (refused.Limit what) old new durable stands h = (h.0, told given run items (refused.Limit what) old new durable stands h)
refused_entries given run items refused.Disk old new durable stands h = absurd h
refused_entries given run items refused.Broken old new durable stands h = h
refused_entries given run items refused.Memory old new durable stands h = tt

-- the journal is not opened
pub refused_journal : (given : Given) (run : ℕ) (error : JournalError) (old new : SiteView) → ((place : ℕ) → error ≡ journal.Damaged place → IsDurable 0 new.disk)
    → ((place : ℕ) → error ≡ journal.Damaged place → IsTrue old.disk.told → IsDamagedAt (new.disk.reads 0) place)
    → (error ≡ journal.Disk → Rose old.disk.faults new.disk.faults) → ((needed : ℕ) → (error ≢ journal.Broken) × (error ≢ journal.Full needed))
    → IsRefusedOpening given run (error_of error) old new
refused_journal given run (journal.Damaged place) old new durable damaged disk other =
    (durable place refl, λ t. inl (record { place = place; is = refl; damaged = damaged place refl t }))
refused_journal given run journal.Disk old new durable damaged disk other = disk refl
refused_journal given run journal.Broken old new durable damaged disk other = (other 0).0 refl
refused_journal given run (journal.Full needed) old new durable damaged disk other = absurd ((other needed).1 refl)
refused_journal given run journal.Memory old new durable damaged disk other = tt
