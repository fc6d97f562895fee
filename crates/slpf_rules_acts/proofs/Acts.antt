-- Acts from none on, one by one.
use Rattle.std.proofs.Common.{◌≡◌, ◌⊎◌, inl, inr, ℕ, zero, suc, ◌<◌, List, [], ◌∷◌, ◌++◌, length, refl, sym, subst, arith}
use Rattle.std.specs.Prelude.{take, Some, slice_get}
use Rattle.std.proofs.Math.Seq.{take-append_seam}
use Rattle.std.proofs.lemmas.List.{take-append-le}
use Rattle.std.proofs.lemmas.List.Quantifiers.{all_pairs_push}
use Rattle.run_records.specs.declared.act.Act.{Act}
use Rattle.slpf_rules_acts.specs.Acts.{IsOther, IsReplied, BeginWithNone, GoOnByOne}

-- what stands at a place of a list with one item more
pub get_push : {T : Type 0} (xs : List T) (y : T) (n : ℕ) (x : T) → slice_get (xs ++ y ∷ []) n ≡ Some x
    → ((n < length xs) × (slice_get xs n ≡ Some x)) ⊎ ((n ≡ length xs) × (y ≡ x))
get_push [] y zero x is = inr (refl, cc)
get_push [] y (suc n) x is = absurd (cc)
get_push (z ∷ xs) y zero x is = inl (omega arith, is)
get_push (z ∷ xs) y (suc n) x is = elim (get_push xs y n x is) [
  | inl old ↦ inl (omega (arith, old.0), old.1)
  | inr new ↦ inr (omega (arith, new.0), new.1)
]

no_act : (n : ℕ) (act : Act) → slice_get [] n ≡ Some act → ⊥
no_act n act is = cc

pub none_are_acts : BeginWithNone
none_are_acts = record {
  once = λ i j d before within. absurd (omega (arith, within));
  replied = λ n act is. absurd (no_act n act is);
}

pub acts_more : GoOnByOne
acts_more acts act were other replied = record {
  once = all_pairs_push IsOther acts act were.once other;
  replied = λ n x is. elim (get_push acts act n x is) [
    | inl old ↦ subst (λ (l : List Act). IsReplied l x) (sym (take-append-le n acts (act ∷ []) (omega (arith, old.0)))) (were.replied n x old.1)
    | inr new ↦
        let all : take n (acts ++ act ∷ []) ≡ acts = subst (λ (k : ℕ). take k (acts ++ act ∷ []) ≡ acts) (sym new.0) (take-append_seam acts (act ∷ [])) in
        subst (λ (l : List Act). IsReplied l x) (sym all) (subst (λ (a : Act). IsReplied acts a) new.1 replied)
  ];
}
