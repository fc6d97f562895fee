-- What a damaged file can't hold.
use Rattle.std.proofs.Common.{◌≡◌, ◌⊎◌, inl, inr, ℕ, ◌<◌, List, [], ◌∷◌, ◌++◌, length, get_or, Some, slice_get, refl, sym, subst, ap, ap₂, ◌∙◌, arith, length-append}
use Rattle.std.specs.List.{AllByRecursion}
use Rattle.std.proofs.Math.Seq.{take-append_seam, get_or-append_seam}
use Rattle.std.proofs.lemmas.List.{get_or_append_left}
use Rattle.std.proofs.lemmas.Option.{same_Some, slice_get-get_or}
use Rattle.run_journal.specs.Layout.{front}
use Rattle.run_journal.proofs.LayoutLaws.{one_list, no_list_where_damaged}
use Rattle.run_journal.proofs.PlaceLaws.{one_place}
use Rattle.run_records.specs.declared.act.Act.{Act}
use Rattle.run_records.specs.Layout.{act_layout}
use Rattle.run_records.specs.Ranges.{ActInRange}
use Rattle.run_records.specs.Reading.{act_of}
use Rattle.run_records.proofs.ReadLemmas.{act_again}
use Rattle.slpf_rules_acts.specs.Acts.{AreActs, IsOther, IsReplied}
use Rattle.slpf_actuator_acts.specs.ActLists.{IsHistory, MayFollow, entries_of}
use Rattle.slpf_actuator_acts.specs.Damage.{BreaksIn, IsBad}
use Rattle.slpf_actuator_acts.specs.Laws.{NoActsWhereDamaged, OneDamage}

same_act : (a b : Act) → ActInRange a → ActInRange b → act_layout a ≡ act_layout b → a ≡ b
same_act a b p q e = same_Some a b (sym (act_again a p) ∙ ap act_of e ∙ act_again b q)

-- the act of an entry, with those before it and behind it
record Split (acts before : List Act) (entry : List ℕ) : Type 0 where
  act : Act
  back : List Act
  is : acts ≡ before ++ act ∷ back
  laid_out : act_layout act ≡ entry
  fits : ActInRange act

heads : (a b : List ℕ) (r s : List (List ℕ)) → a ∷ r ≡ b ∷ s → (a ≡ b) × (r ≡ s)
heads a b r s e = (cc, cc)

split : (acts before : List Act) (entry : List ℕ) (rest : List (List ℕ)) → AllByRecursion ActInRange acts → AllByRecursion ActInRange before
    → entries_of acts ≡ entries_of before ++ entry ∷ rest → Split acts before entry
split [] [] entry rest p q e = absurd (cc)
split [] (b ∷ before) entry rest p q e = absurd (cc)
split (a ∷ acts) [] entry rest p q e =
    record { act = a; back = acts; is = refl; laid_out = (heads (act_layout a) entry (entries_of acts) rest e).0; fits = p.0 }
split (a ∷ acts) (b ∷ before) entry rest p q e =
    let parts = heads (act_layout a) (act_layout b) (entries_of acts) (entries_of before ++ entry ∷ rest) e in
    let inner = split acts before entry rest p.1 q.1 parts.1 in
    record {
      act = inner.act;
      back = inner.back;
      is = ap₂ (λ (x : Act) (l : List Act). x ∷ l) (same_act a b p.0 q.0 parts.0) inner.is;
      laid_out = inner.laid_out;
      fits = inner.fits;
    }

seam_within : (before back : List Act) (act : Act) → length before < length (before ++ act ∷ back)
seam_within before back act = omega (arith, length-append before (act ∷ back))

follows : (before back : List Act) (act : Act) → AreActs (before ++ act ∷ back) → MayFollow before act
follows before back act are = record {
  is_new = λ k d lt. subst (λ (x : Act). IsOther x act) (get_or_append_left before (act ∷ back) d k lt)
      (subst (λ (x : Act). IsOther (get_or (before ++ act ∷ back) k d) x) (get_or-append_seam before act back d)
      (are.once k (length before) d lt (seam_within before back act)));
  replied =
      let there : slice_get (before ++ act ∷ back) (length before) ≡ Some act =
      slice_get-get_or (before ++ act ∷ back) (length before) act (seam_within before back act) ∙ ap (λ (x : Act). Some x) (get_or-append_seam before act back act) in
      subst (λ (l : List Act). IsReplied l act) (take-append_seam before (act ∷ back)) (are.replied (length before) act there);
}

-- acts of a filter have no entry that can't follow
none_bad : (acts before : List Act) (entry : List ℕ) (rest : List (List ℕ)) → IsHistory acts → IsHistory before
    → entries_of acts ≡ entries_of before ++ entry ∷ rest → IsBad before entry → ⊥
none_bad acts before entry rest history earlier e bad =
    let s = split acts before entry rest history.ranges earlier.ranges e in
    bad s.act (ap act_of (sym s.laid_out) ∙ act_again s.act s.fits)
    (follows before s.back s.act (subst AreActs s.is history.are))

pub no_acts_where_damaged : NoActsWhereDamaged
no_acts_where_damaged image place acts (inl damaged) holds history = no_list_where_damaged image place (entries_of acts) damaged holds
no_acts_where_damaged image place acts (inr (items, stands, breaks)) holds history =
    none_bad acts breaks.acts breaks.entry breaks.rest history breaks.history (one_list image (entries_of acts) items holds stands ∙ breaks.is) breaks.bad

-- two fronts of one list: they are equal, or one goes on where the other ends
abbrev Fronts : List (List ℕ) → List (List ℕ) → List ℕ → List ℕ → Type 0
Fronts x y e f = (x ≡ y) ⊎ (((t : List (List ℕ)) × (y ≡ x ++ e ∷ t)) ⊎ ((t : List (List ℕ)) × (x ≡ y ++ f ∷ t)))

fronts_more : (a b : List ℕ) (x y : List (List ℕ)) (e f : List ℕ) → a ≡ b → Fronts x y e f → Fronts (a ∷ x) (b ∷ y) e f
fronts_more a b x y e f h (inl same) = inl (ap₂ (λ (z : List ℕ) (l : List (List ℕ)). z ∷ l) h same)
fronts_more a b x y e f h (inr (inl (t, is))) = inr (inl (t, ap₂ (λ (z : List ℕ) (l : List (List ℕ)). z ∷ l) (sym h) is))
fronts_more a b x y e f h (inr (inr (t, is))) = inr (inr (t, ap₂ (λ (z : List ℕ) (l : List (List ℕ)). z ∷ l) h is))

fronts : (x y r s : List (List ℕ)) (e f : List ℕ) → x ++ e ∷ r ≡ y ++ f ∷ s → Fronts x y e f
fronts [] [] r s e f h = inl refl
fronts [] (b ∷ y) r s e f h = inr (inl (y, ap (λ (z : List ℕ). z ∷ y) (sym (heads e b r (y ++ f ∷ s) h).0)))
fronts (a ∷ x) [] r s e f h = inr (inr (x, ap (λ (z : List ℕ). z ∷ x) (heads a f (x ++ e ∷ r) s h).0))
fronts (a ∷ x) (b ∷ y) r s e f h =
    let parts = heads a b (x ++ e ∷ r) (y ++ f ∷ s) h in
    fronts_more a b x y e f parts.0 (fronts x y r s e f parts.1)

same_break : (items : List (List ℕ)) (p q : ℕ) (a : BreaksIn items p) (b : BreaksIn items q) → Fronts (entries_of a.acts) (entries_of b.acts) a.entry b.entry → p ≡ q
same_break items p q a b (inl same) = a.at ∙ ap (λ (l : List (List ℕ)). length (front l)) same ∙ sym b.at
same_break items p q a b (inr (inl (t, is))) = absurd (none_bad b.acts a.acts a.entry t b.history a.history is a.bad)
same_break items p q a b (inr (inr (t, is))) = absurd (none_bad a.acts b.acts b.entry t a.history b.history is b.bad)

one_break : (items : List (List ℕ)) (p q : ℕ) → BreaksIn items p → BreaksIn items q → p ≡ q
one_break items p q a b =
    same_break items p q a b (fronts (entries_of a.acts) (entries_of b.acts) a.rest b.rest a.entry b.entry (sym a.is ∙ b.is))

pub one_damage : OneDamage
one_damage image p q (inl a) (inl b) = one_place image p q a b
one_damage image p q (inl a) (inr (items, stands, breaks)) = absurd (no_list_where_damaged image p items a stands)
one_damage image p q (inr (items, stands, breaks)) (inl b) = absurd (no_list_where_damaged image q items b stands)
one_damage image p q (inr (items, stands, breaks)) (inr (others, also, too)) =
    one_break items p q breaks (subst (λ (l : List (List ℕ)). BreaksIn l q) (one_list image others items also stands) too)
