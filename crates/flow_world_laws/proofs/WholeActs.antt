-- An image that stands for the acts of a filter is not damaged.
use Rattle.std.proofs.Common.{◌≡◌, inl, inr, ℕ, ◌<◌, List, ◌∷◌, ◌++◌, length, Some, slice_get, subst, ap, ◌∙◌, arith, length-append}
use Rattle.std.specs.Prelude.{get_or}
use Rattle.std.proofs.Math.Seq.{take-append_seam, get_or-append_seam}
use Rattle.std.proofs.lemmas.List.{get_or_append_left}
use Rattle.std.proofs.lemmas.Option.{slice_get-get_or}
use Rattle.run_journal.proofs.LayoutLaws.{no_list_where_damaged, one_list}
use Rattle.run_records.specs.Layout.{act_layout}
use Rattle.run_records.specs.Lists.{acts as acts_in}
use Rattle.run_records.specs.Ranges.{ActInRange}
use Rattle.run_records.specs.Reading.{act_of}
use Rattle.run_records.specs.declared.act.Act.{Act}
use Rattle.run_records.proofs.ReadLemmas.{act_again}
use Rattle.slpf_rules_acts.specs.Acts.{AreActs, IsOther, IsReplied}
use Rattle.slpf_actuator.specs.ActLists.{MayFollow}
use Rattle.slpf_actuator.specs.Damage.{BreaksIn, IsDamaged}
use Rattle.flow_laws.specs.Images.{IsActs}
use Rattle.flow_world_laws.proofs.Cutting.{cut}

seam_within : (before back : List Act) (act : Act) → length before < length (before ++ act ∷ back)
seam_within before back act = omega (arith, length-append before (act ∷ back))

-- each act of a filter may follow those before it
follows : (before back : List Act) (act : Act) → AreActs (before ++ act ∷ back) → MayFollow before act
follows before back act are = record {
  is_new = λ k d lt. subst (λ (x : Act). IsOther x act) (get_or_append_left before (act ∷ back) d k lt)
      (subst (λ (x : Act). IsOther (get_or (before ++ act ∷ back) k d) x) (get_or-append_seam before act back d)
      (are.once k (length before) d lt (seam_within before back act)));
  replied =
      let there : slice_get (before ++ act ∷ back) (length before) ≡ Some act =
      slice_get-get_or (before ++ act ∷ back) (length before) act (seam_within before back act) ∙ ap (λ (x : Act). Some x) (get_or-append_seam before act back act) in
      subst (λ (l : List Act). IsReplied l act) (take-append_seam before (act ∷ back)) (are.replied (length before) act there);
}

none_breaks : (items : List (List ℕ)) (acts : List Act) (place : ℕ) → acts_in items ≡ Some acts → AreActs acts → BreaksIn items place → ⊥
none_breaks items acts place reads are b =
    let c = cut act_of act_layout ActInRange act_again b.acts acts b.entry b.rest b.history.ranges (subst (λ (l : List (List ℕ)). acts_in l ≡ Some acts) b.is reads) in
    b.bad c.it c.reads (follows b.acts c.back c.it (subst AreActs c.is are))

pub acts_undamaged : (image : List ℕ) (acts : List Act) (place : ℕ) → IsActs image acts → AreActs acts → IsDamaged image place → ⊥
acts_undamaged image acts place is are (inl damaged) = no_list_where_damaged image place is.entries damaged is.stands
acts_undamaged image acts place is are (inr (items, stands, breaks)) =
    none_breaks items acts place (subst (λ (l : List (List ℕ)). acts_in l ≡ Some acts) (one_list image is.entries items is.stands stands) is.reads) are breaks
