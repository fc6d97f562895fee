-- What a put does, by the way in which it ended.
use Rattle.std.proofs.Common.{◌≡◌, ◌≢◌, ◌⊎◌, ◌∙◌, ◌≤◌, ℕ, inl, inr, Bool, true, false, if◌then◌else◌, List, [], ◌∷◌, ◌++◌, Some, refl, ap, sym, subst, arith}
use Rattle.std.proofs.lemmas.List.{map-append}
use Rattle.std.proofs.lemmas.List.Elements.{All-push}
use Rattle.std.proofs.lemmas.List.Quantifiers.{all_pairs_push}
use Rattle.cacao_site.specs.Counts.{Rose, last_count, next_count}
use Rattle.cacao_site.specs.DiskCalls.{KeepsDisk}
use Rattle.cacao_site.specs.SayCalls.{KeepsTime}
use Rattle.cacao_site.specs.SiteCalls.{LeavesDisk, Puts}
use Rattle.cacao_site.specs.Sound.{IsInTime}
use Rattle.cacao_site.specs.View.{ClockView, DiskView, SiteView}
use Rattle.cacao_site.specs.declared.parcel.Parcel.{Parcel}
use Rattle.cacao_site.proofs.Beats.{goes_on-refl}
use Rattle.oc2_wire_lines.specs.Lines.{IsCarried}
use Rattle.oc2_wire_site.specs.Entries.{AreInTime, puts_by}
use Rattle.oc2_wire_site.specs.LineLinks.{LinesView}
use Rattle.oc2_wire_site.specs.Marks.{WireMark}
use Rattle.oc2_wire_site.specs.PutEnds.{PutEnd, goes_out, uncarried, late, late_unkept, fails, unkept}
use Rattle.oc2_wire_site.specs.WireCalls.{PutsLine}
use Rattle.oc2_wire_site.specs.Wires.{wire_view}
use Rattle.oc2_wire_site.specs.declared.entries.Put.{Put}
use Rattle.oc2_wire_site.specs.declared.link_state.LinkState.TheVariants as state

-- ---- a disk and a clock that stay

keeps_same : (disk : DiskView) → KeepsDisk disk disk
keeps_same disk = record {
  goes_on = goes_on-refl disk;
  stays = λ file. record { reads = refl; images = λ beat image from to. let now : beat ≡ disk.beat = omega (arith, from, to) in ap (λ n. disk.left file n image) now };
  written = refl;
  faults = refl;
}

pub leaves_wire : (site : SiteView) (puts later taken got : List (ℕ × Parcel)) (empty none : List ℕ) (m n : ℕ) → LeavesDisk (wire_view site puts taken empty m) (wire_view site later got none n)
leaves_wire site puts later taken got empty none m n = record { disk = keeps_same site.disk; calls = refl; says = refl }

pub same_time : (clock : ClockView) → KeepsTime clock clock
same_time clock = record { now = refl; asked = refl; furthest = refl; shorts = refl }

-- one entry more, at the present beat
pub in_time_push : {T : Type 0} (beat : ℕ) (entries later : List (ℕ × T)) (entry : T) → later ≡ entries ++ (beat, entry) ∷ [] → IsInTime beat (Some entries) → IsInTime beat (Some later)
in_time_push {T} beat entries later entry is held = subst (λ (l : List (ℕ × T)). IsInTime beat (Some l)) (sym is) (record {
  past = All-push (λ (x : ℕ × T). x.0 ≤ beat) entries (beat, entry) held.past (omega arith);
  in_order = all_pairs_push (λ (x y : ℕ × T). x.0 ≤ y.0) entries (beat, entry) held.in_order (λ k d lt. held.past k d lt);
})

-- ---- the put

-- over a link that is broken, where the parcel was kept or not
pub put_late : {S : Type 0} (kept : Bool) (put : Put S) (puts later : List (Put S)) (lines : LinesView) → lines.state ≢ state.Whole → IsCarried put.parcel → later ≡ (if kept then puts ++ put ∷ [] else puts) → PutEnd put puts later lines lines false
put_late true put puts later lines broken carried is = late broken refl is carried
put_late false put puts later lines broken carried is = late_unkept broken refl is

puts_from : (site : SiteView) (parcel : Parcel) (puts later taken : List (ℕ × Parcel)) (empty : List ℕ) (m n : ℕ) → m ≤ n → (later ≡ puts ++ (site.disk.beat, parcel) ∷ []) ⊎ ((later ≡ puts) × Rose m n)
    → Puts parcel (wire_view site puts taken empty m) (wire_view site later taken empty n)
puts_from site parcel puts later taken empty m n more how = record {
  disk = leaves_wire site puts later taken taken empty empty m n;
  time = same_time site.clock;
  unsaid = refl;
  mishaps = more;
  puts = elim how [ inl gains ↦ inl gains | inr same ↦ inr (ap Some same.0, same.1) ];
  arrives = λ same. tt;
  pending = (0, tt);
  taken = refl;
  empty_takes = refl;
  said = refl;
}

module _ {S : Type 0} (view : S → SiteView) (site : S) (put : Put S) (at : put.at.value ≡ site) where
  pub gains : (puts later : List (Put S)) → later ≡ puts ++ put ∷ [] → puts_by view later ≡ puts_by view puts ++ ((view site).disk.beat, put.parcel) ∷ []
  gains puts later e =
      ap (λ (l : List (Put S)). puts_by view l) e
      ∙ map-append (λ (p : Put S). ((view p.at.value).disk.beat, p.parcel)) puts (put ∷ [])
      ∙ ap (λ (x : S). puts_by view puts ++ ((view x).disk.beat, put.parcel) ∷ []) at

  pub same : (puts later : List (Put S)) → later ≡ puts → puts_by view later ≡ puts_by view puts
  same puts later e = ap (λ (l : List (Put S)). puts_by view l) e

  pub puts_by_end : (puts later : List (Put S)) (taken : List (ℕ × Parcel)) (empty : List ℕ) (m n : ℕ) (old new : LinesView) (went : Bool) → PutEnd put puts later old new went → m ≤ last_count → n ≡ (if went then m else next_count m)
      → Puts put.parcel (wire_view (view site) (puts_by view puts) taken empty m) (wire_view (view site) (puts_by view later) taken empty n)
  puts_by_end puts later taken empty m n old new true (goes_out carried was sends kept) fits counted =
      puts_from (view site) put.parcel (puts_by view puts) (puts_by view later) taken empty m n (omega (arith, counted)) (inl (gains puts later kept))
  puts_by_end puts later taken empty m n old new false (uncarried cannot stays kept) fits counted =
      puts_from (view site) put.parcel (puts_by view puts) (puts_by view later) taken empty m n (omega (arith, counted, fits)) (inr (same puts later kept, omega (arith, counted)))
  puts_by_end puts later taken empty m n old new false (late was stays kept carried) fits counted =
      puts_from (view site) put.parcel (puts_by view puts) (puts_by view later) taken empty m n (omega (arith, counted, fits)) (inl (gains puts later kept))
  puts_by_end puts later taken empty m n old new false (late_unkept was stays kept) fits counted =
      puts_from (view site) put.parcel (puts_by view puts) (puts_by view later) taken empty m n (omega (arith, counted, fits)) (inr (same puts later kept, omega (arith, counted)))
  puts_by_end puts later taken empty m n old new false (fails carried was failed kept) fits counted =
      puts_from (view site) put.parcel (puts_by view puts) (puts_by view later) taken empty m n (omega (arith, counted, fits)) (inl (gains puts later kept))
  puts_by_end puts later taken empty m n old new false (unkept carried was wants kept) fits counted =
      puts_from (view site) put.parcel (puts_by view puts) (puts_by view later) taken empty m n (omega (arith, counted, fits)) (inr (same puts later kept, omega (arith, counted)))

  pub line_by_end : (puts later : List (Put S)) (taken : List (ℕ × Parcel)) (empty : List ℕ) (m n : ℕ) (old new : LinesView) (asking : Bool) (mark : WireMark) (went : Bool) → PutEnd put puts later old new went → n ≡ (if went then m else next_count m)
      → PutsLine put.parcel (record { site = wire_view (view site) (puts_by view puts) taken empty m; lines = old; asking = asking; mark = mark })
      (record { site = wire_view (view site) (puts_by view later) taken empty n; lines = new; asking = asking; mark = mark })
  line_by_end puts later taken empty m n old new asking mark true (goes_out carried was sends kept) counted = record {
    asking = refl;
    mark = refl;
    whole = λ can is. record { was = was; sends = sends; puts = gains puts later kept; counted = counted };
    breaks = λ is broken. absurd (broken sends.whole);
    broken = λ broken. absurd (broken was);
    uncarried = λ cannot. absurd (cannot carried);
  }
  line_by_end puts later taken empty m n old new asking mark false (uncarried cannot stays kept) counted = record {
    asking = refl;
    mark = refl;
    whole = λ can is. absurd (cannot can);
    breaks = λ is broken. absurd (broken (ap (λ (l : LinesView). l.state) stays ∙ is));
    broken = λ broken. record { lines = stays; counted = counted };
    uncarried = λ no_line. (record { lines = stays; counted = counted }, ap Some (same puts later kept));
  }
  line_by_end puts later taken empty m n old new asking mark false (late was stays kept carried) counted = record {
    asking = refl;
    mark = refl;
    whole = λ can is. absurd (was (sym (ap (λ (l : LinesView). l.state) stays) ∙ is));
    breaks = λ is broken. absurd (was is);
    broken = λ broken. record { lines = stays; counted = counted };
    uncarried = λ cannot. absurd (cannot carried);
  }
  line_by_end puts later taken empty m n old new asking mark false (late_unkept was stays kept) counted = record {
    asking = refl;
    mark = refl;
    whole = λ can is. absurd (was (sym (ap (λ (l : LinesView). l.state) stays) ∙ is));
    breaks = λ is broken. absurd (was is);
    broken = λ broken. record { lines = stays; counted = counted };
    uncarried = λ cannot. (record { lines = stays; counted = counted }, ap Some (same puts later kept));
  }
  line_by_end puts later taken empty m n old new asking mark false (fails carried was failed kept) counted = record {
    asking = refl;
    mark = refl;
    whole = λ can is. absurd (cc (failed.failed));
    breaks = λ is broken. inl (record { fails = failed; puts = gains puts later kept; counted = counted });
    broken = λ broken. absurd (broken was);
    uncarried = λ cannot. absurd (cannot carried);
  }
  line_by_end puts later taken empty m n old new asking mark false (unkept carried was wants kept) counted = record {
    asking = refl;
    mark = refl;
    whole = λ can is. absurd (cc (ap (λ (l : LinesView). l.state) wants));
    breaks = λ is broken. inr (record { lines = wants; puts = ap Some (same puts later kept); counted = counted });
    broken = λ broken. absurd (broken was);
    uncarried = λ cannot. absurd (cannot carried);
  }

  pub in_time_by_end : (puts later : List (Put S)) (old new : LinesView) (went : Bool) → PutEnd put puts later old new went → AreInTime (view site).disk.beat (puts_by view puts) → AreInTime (view site).disk.beat (puts_by view later)
  in_time_by_end puts later old new true (goes_out carried was sends kept) held = in_time_push (view site).disk.beat (puts_by view puts) (puts_by view later) put.parcel (gains puts later kept) held
  in_time_by_end puts later old new false (uncarried cannot stays kept) held = subst (λ (l : List (ℕ × Parcel)). AreInTime (view site).disk.beat l) (sym (same puts later kept)) held
  in_time_by_end puts later old new false (late was stays kept carried) held = in_time_push (view site).disk.beat (puts_by view puts) (puts_by view later) put.parcel (gains puts later kept) held
  in_time_by_end puts later old new false (late_unkept was stays kept) held = subst (λ (l : List (ℕ × Parcel)). AreInTime (view site).disk.beat l) (sym (same puts later kept)) held
  in_time_by_end puts later old new false (fails carried was failed kept) held = in_time_push (view site).disk.beat (puts_by view puts) (puts_by view later) put.parcel (gains puts later kept) held
  in_time_by_end puts later old new false (unkept carried was wants kept) held = subst (λ (l : List (ℕ × Parcel)). AreInTime (view site).disk.beat l) (sym (same puts later kept)) held
