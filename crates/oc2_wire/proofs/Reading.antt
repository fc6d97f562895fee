-- What each end promises, in words of the lines that it reads.
use Rattle.std.proofs.Common.{◌≡◌, ◌∙◌, ℕ, zero, suc, ◌≤◌, Bool, true, false, cond, List, [], ◌∷◌, ◌++◌, length, map, refl, sym, subst, ap, arith}
use Rattle.std.specs.Prelude.{Contains, IsSome, Option, Some, None, drop, filter, nat_lt}
use Rattle.std.proofs.Math.Logic.{∥∥₁_map}
use Rattle.std.proofs.Math.Seq.{drop-append_seam}
use Rattle.std.proofs.lemmas.Bool.{false≢true}
use Rattle.cacao_site.specs.LinkCalls.{GainsAll}
use Rattle.cacao_site.specs.declared.parcel.Parcel.{Parcel}
use Rattle.flow_laws.specs.Images.{told_list}
use Rattle.oc2_wire_laws.specs.EngineBeats.{MoreIsGot}
use Rattle.oc2_wire_laws.specs.FilterBeats.{MoreForFilters}
use Rattle.oc2_wire_laws.specs.Since.{EngineKeepsSince, FiltersKeepSince, taken_before, takes_of}
use Rattle.oc2_wire_site.specs.ReadLines.{Carry, GainsTold, IsWire, KeepsLinesSince, MarkedKeepLines, mark_now}
use Rattle.oc2_wire_site.specs.Wires.{WireView}
use Rattle.oc2_wire_site.proofs.MarkLemmas.{same_end}
use Rattle.oc2_wire.specs.Reading.{FiltersKeepByLines, KeepsByLines}

-- ---- the parcels that were taken

abbrev parcels : List (ℕ × Parcel) → List Parcel
parcels entries = map (λ (e : ℕ × Parcel). e.1) entries

one_more : (b : Bool) (e : ℕ × Parcel) (entries rest : List (ℕ × Parcel)) (p : Parcel) → (Contains (parcels rest) p → Contains (parcels entries) p) → Contains (parcels (cond b (e ∷ rest) rest)) p
    → Contains (parcels (e ∷ entries)) p
one_more false e entries rest p later has = let was = later has in (suc was.0, omega (arith, was.1), was.2)
one_more true e entries rest p later (zero, l, is) = (0, omega arith, is)
one_more true e entries rest p later (suc k, l, is) = let was = later (k, omega (arith, l), is) in (suc was.0, omega (arith, was.1), was.2)

-- those before a beat are among them
any_before : (entries : List (ℕ × Parcel)) (beat : ℕ) (p : Parcel) → Contains (parcels (filter (λ (e : ℕ × Parcel). nat_lt e.0 beat) entries)) p → Contains (parcels entries) p
any_before [] beat p has = absurd (omega (arith, has.1))
any_before (e ∷ entries) beat p has =
    one_more (nat_lt e.0 beat) e entries (filter (λ (x : ℕ × Parcel). nat_lt x.0 beat) entries) p (λ later. any_before entries beat p later) has

gains_told : (old new : Option (List (ℕ × Parcel))) (more : List (ℕ × Parcel)) → IsSome old → GainsAll old more new → GainsTold old new more
gains_told (Some old) (Some new) more some gains = record { before = old; was = refl; is = ap Some gains }
gains_told (Some old) None more some gains = absurd gains
gains_told None new more some gains = absurd (false≢true some)

-- what a list has more is what stands behind what it had
behind_is : (old new : Option (List (ℕ × Parcel))) (more : List (ℕ × Parcel)) → GainsTold old new more → drop (length (told_list old)) (told_list new) ≡ more
behind_is old new more is =
    ap (λ (o : Option (List (ℕ × Parcel))). drop (length (told_list o)) (told_list new)) is.was
    ∙ ap (λ (o : Option (List (ℕ × Parcel))). drop (length is.before) (told_list o)) is.is
    ∙ drop-append_seam is.before more

-- ---- the wire

module _ (old new : WireView) (was : IsWire old) (is : IsWire new) (label : new.site.disk.label ≡ old.site.disk.label) where
  pub asks_still : old.asking ≡ true → new.asking ≡ true
  asks_still asks = same_end new.asking old.asking new.mark old.mark is.beneath was.beneath (sym is.label ∙ label ∙ was.label) ∙ asks

  module _ (marked_keep : MarkedKeepLines) (marked : old.mark ≡ mark_now old) (taken puts : List (ℕ × Parcel)) (told_taken : IsSome old.site.link.taken) (told_puts : IsSome old.site.link.puts)
      (takes : GainsAll old.site.link.taken taken new.site.link.taken) (puts_more : GainsAll old.site.link.puts puts new.site.link.puts) where
    pub keeps_lines : KeepsLinesSince old new taken puts
    keeps_lines =
        marked_keep old new taken puts was is marked label (gains_told old.site.link.taken new.site.link.taken taken told_taken takes) (gains_told old.site.link.puts new.site.link.puts puts told_puts puts_more)

    -- what was taken before a beat is among what was taken
    in_taken : (beat : ℕ) (p : Parcel) → Contains (taken_before (takes_of old.site) new.site beat) p → Contains (parcels taken) p
    in_taken beat p has =
        let same = behind_is old.site.link.taken new.site.link.taken taken (gains_told old.site.link.taken new.site.link.taken taken told_taken takes) in
        any_before taken beat p (subst (λ (l : List (ℕ × Parcel)). Contains (parcels (filter (λ (e : ℕ × Parcel). nat_lt e.0 beat) l)) p) same has)

    pub keeps_by_lines : MoreIsGot → (run : ℕ) → old.asking ≡ true → EngineKeepsSince old.site run new.site → ∥ KeepsByLines run old new ∥₁
    keeps_by_lines more_is_got run asks kept = ∥∥₁_map keeps_lines.read (λ held. record {
      read = held.read;
      lines = held.lines;
      got = parcels taken;
      carry = subst (λ (b : Bool). Carry b held.read (parcels taken)) asks held.carry;
      kept = λ beat from to.
          more_is_got old.site run (taken_before (takes_of old.site) new.site beat) (parcels taken) new.site beat (in_taken beat) (kept.each beat from to);
    })

    pub filters_by_lines : MoreForFilters → old.asking ≡ false → FiltersKeepSince old.site new.site → ∥ FiltersKeepByLines old new ∥₁
    filters_by_lines more_for_filters answers kept = ∥∥₁_map keeps_lines.read (λ held. record {
      read = held.read;
      lines = held.lines;
      got = parcels taken;
      carry = subst (λ (b : Bool). Carry b held.read (parcels taken)) answers held.carry;
      kept = λ beat from to. more_for_filters old.site (taken_before (takes_of old.site) new.site beat) (parcels taken) new.site beat (in_taken beat) (kept.each beat from to);
    })
