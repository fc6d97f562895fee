-- What was read and sent since a mark, where a parcel is put.
use Rattle.std.proofs.Common.{◌≡◌, ◌≤◌, ℕ, Bool, true, false, List, [], ◌∷◌, ◌++◌, length, ap, subst, sym, arith, length-append}
use Rattle.cacao_site.specs.View.{SiteView}
use Rattle.cacao_site.specs.declared.parcel.Parcel.{Parcel}
use Rattle.oc2_wire_site.specs.Entries.{puts_by}
use Rattle.oc2_wire_site.specs.LineLinks.{LinesView}
use Rattle.oc2_wire_site.specs.Marks.{WireMark}
use Rattle.oc2_wire_site.specs.PutEnds.{PutEnd, goes_out, uncarried, late, late_unkept, fails, unkept}
use Rattle.oc2_wire_site.specs.ReadLines.{HasReadSince, HasSentSince}
use Rattle.oc2_wire_site.specs.declared.entries.Put.{Put}
use Rattle.oc2_wire_site.proofs.KeptLines.{fits_map, put_in_part, put_late_on, put_out, put_same, put_unkept, since_put}
use Rattle.oc2_wire_site.proofs.PutLemmas.{gains, same}

module _ {S : Type 0} (view : S → SiteView) (site : S) (put : Put S) (at : put.at.value ≡ site) (mark : WireMark) where
  pub reads_by_end : (asking : Bool) (taken : List (ℕ × Parcel)) (puts later : List (Put S)) (old new : LinesView) (went : Bool) → PutEnd put puts later old new went
      → ∥ HasReadSince mark asking old taken ∥₁ → ∥ HasReadSince mark asking new taken ∥₁
  reads_by_end asking taken puts later old new true (goes_out carried was sends kept) held = since_put asking mark old new taken sends.sends.received sends.sends.to_come sends.keeps.unread sends.keeps.passed held
  reads_by_end asking taken puts later old new false (uncarried cannot stays kept) held = subst (λ (l : LinesView). ∥ HasReadSince mark asking l taken ∥₁) (sym stays) held
  reads_by_end asking taken puts later old new false (late was stays kept carried) held = subst (λ (l : LinesView). ∥ HasReadSince mark asking l taken ∥₁) (sym stays) held
  reads_by_end asking taken puts later old new false (late_unkept was stays kept) held = subst (λ (l : LinesView). ∥ HasReadSince mark asking l taken ∥₁) (sym stays) held
  reads_by_end asking taken puts later old new false (fails carried was failed kept) held = since_put asking mark old new taken failed.sends.sends.received failed.sends.sends.to_come failed.keeps.unread failed.keeps.passed held
  reads_by_end asking taken puts later old new false (unkept carried was wants kept) held =
      since_put asking mark old new taken (ap (λ (l : LinesView). l.link.received) wants) (ap (λ (l : LinesView). l.link.to_come) wants) (ap (λ (l : LinesView). l.unread) wants) (ap (λ (l : LinesView). l.passed) wants) held

  fits_in : (puts : List (Put S)) (n : ℕ) → n ≤ length puts → n ≤ length (puts_by view puts)
  fits_in puts n fits = fits_map (λ (p : Put S). ((view p.at.value).disk.beat, p.parcel)) puts n fits

  sends_by_end : (puts later : List (Put S)) (old new : LinesView) (went : Bool) → mark.puts ≤ length puts → PutEnd put puts later old new went
      → ∥ HasSentSince mark old (puts_by view puts) ∥₁ → ∥ HasSentSince mark new (puts_by view later) ∥₁
  sends_by_end puts later old new true fits (goes_out carried was sends kept) held =
      put_out mark old new (puts_by view puts) (puts_by view later) ((view site).disk.beat, put.parcel) (fits_in puts mark.puts fits) (gains view site put at puts later kept) was sends held
  sends_by_end puts later old new false fits (uncarried cannot stays kept) held = put_same mark old new (puts_by view puts) (puts_by view later) (same view site put at puts later kept) stays held
  sends_by_end puts later old new false fits (late was stays kept carried) held =
      put_late_on mark old new (puts_by view puts) (puts_by view later) ((view site).disk.beat, put.parcel) (fits_in puts mark.puts fits) (gains view site put at puts later kept) was stays held
  sends_by_end puts later old new false fits (late_unkept was stays kept) held = put_same mark old new (puts_by view puts) (puts_by view later) (same view site put at puts later kept) stays held
  sends_by_end puts later old new false fits (fails carried was failed kept) held =
      put_in_part mark old new (puts_by view puts) (puts_by view later) ((view site).disk.beat, put.parcel) (fits_in puts mark.puts fits) (gains view site put at puts later kept) was failed held
  sends_by_end puts later old new false fits (unkept carried was wants kept) held = put_unkept mark old new (puts_by view puts) (puts_by view later) (same view site put at puts later kept) wants held

  pub sent_by_end : (asking : Bool) (puts later : List (Put S)) (old new : LinesView) (went : Bool) → mark.puts ≤ length puts → PutEnd put puts later old new went
      → (asking ≡ true → ∥ HasSentSince mark old (puts_by view puts) ∥₁) → asking ≡ true → ∥ HasSentSince mark new (puts_by view later) ∥₁
  sent_by_end asking puts later old new went fits end held asks = sends_by_end puts later old new went fits end (held asks)

  pushed : (puts later : List (Put S)) → later ≡ puts ++ put ∷ [] → mark.puts ≤ length puts → mark.puts ≤ length later
  pushed puts later kept fits = omega (arith, ap length kept, length-append puts (put ∷ []), fits)

  pub more_puts : (puts later : List (Put S)) (old new : LinesView) (went : Bool) → mark.puts ≤ length puts → PutEnd put puts later old new went → mark.puts ≤ length later
  more_puts puts later old new true fits (goes_out carried was sends kept) = pushed puts later kept fits
  more_puts puts later old new false fits (uncarried cannot stays kept) = omega (arith, ap length kept, fits)
  more_puts puts later old new false fits (late was stays kept carried) = pushed puts later kept fits
  more_puts puts later old new false fits (late_unkept was stays kept) = omega (arith, ap length kept, fits)
  more_puts puts later old new false fits (fails carried was failed kept) = pushed puts later kept fits
  more_puts puts later old new false fits (unkept carried was wants kept) = omega (arith, ap length kept, fits)
