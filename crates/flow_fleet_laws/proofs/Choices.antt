-- What agreement tells of a command that was put, and of a journal's records: some choice of images has them.
use Rattle.std.proofs.Common.{◌≡◌, ◌≢◌, ℕ, ◌≤◌, false, List, [], ◌∷◌, refl, sym, subst, ap, IsTrue}
use Rattle.std.specs.Prelude.{Some, Contains}
use Rattle.cacao_site.specs.View.{SiteView}
use Rattle.cacao_site.specs.declared.parcel.Parcel.{Parcel}
use Rattle.cacao_site.specs.DiskCalls.{IsLeft}
use Rattle.cacao_site.specs.Sound.{IsSound}
use Rattle.run_records.specs.declared.record.Record.{Record}
use Rattle.flow_laws.specs.Good.{IsChoice, IsGood}
use Rattle.flow_laws.specs.Images.{AnyJournal, IsRecords, puts_to}
use Rattle.flow_laws.specs.Journals.{IsJournalRun, IsSent, run_of}
use Rattle.flow_laws.proofs.Basics.{put_at, put_at-each, put_at-same}
use Rattle.flow_laws.proofs.OneList.{same_records}

module _ (site : SiteView) (sound : IsSound site) (told : IsTrue site.disk.told) (beat : ℕ) (le : beat ≤ site.disk.beat) (good : IsGood site beat) where
  some : ℕ → List ℕ
  some file = (sound.images file beat told le).0

  some_left : (file : ℕ) → IsLeft site.disk file beat (some file)
  unfolding some
  some_left file = (sound.images file beat told le).1

  with_image : (file : ℕ) (image : List ℕ) → IsLeft site.disk file beat image → IsChoice site beat (put_at file image some)
  with_image file image left = λ other low. put_at-each (λ (n : ℕ) (l : List ℕ). IsLeft site.disk n beat l) file image some other
      (λ e. subst (λ (n : ℕ). IsLeft site.disk n beat image) (sym e) left)
      (λ ne. some_left other)

  -- a command that was put is a Send of each journal of its run
  pub sent_by_good : (at : ℕ) (parcel : Parcel) → Contains (puts_to site beat) (at, parcel) → parcel.back ≡ false
      → AnyJournal site beat (λ records. run_of records ≡ Some parcel.run → IsSent records parcel.issue parcel.agent parcel.bytes)
  sent_by_good at parcel put command image records left stands of =
      let g = good.each (put_at 0 image some) (with_image 0 image left) in
      let here : IsRecords image g.records = subst (λ (l : List ℕ). IsRecords l g.records) (put_at-same 0 image some) g.are_records in
      let one : g.records ≡ records = same_records image g.records records here stands in
      subst (λ (l : List Record). IsSent l parcel.issue parcel.agent parcel.bytes) one
      (g.agree.commands at parcel put command (subst (λ (l : List Record). run_of l ≡ Some parcel.run) (sym one) of))

  -- the records of each journal are a run
  pub run_by_good : AnyJournal site beat IsJournalRun
  run_by_good image records left stands =
      let g = good.each (put_at 0 image some) (with_image 0 image left) in
      let here : IsRecords image g.records = subst (λ (l : List ℕ). IsRecords l g.records) (put_at-same 0 image some) g.are_records in
      subst IsJournalRun (same_records image g.records records here stands) g.agree.is_run

-- records of a run, at least one, have its number
pub has_number : (records : List Record) → IsJournalRun records → records ≢ [] → (number : ℕ) × (run_of records ≡ Some number)
has_number [] is some = absurd (some refl)
has_number (first ∷ others) is some = (is.run, ap run_of is.leads.records_are)
