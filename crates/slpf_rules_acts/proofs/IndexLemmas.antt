-- The keys of an index of acts.
use Rattle.std.proofs.Common.{◌≡◌, ℕ, Bool, ◌==◌, ◌&&◌, Ordering, Less, Equal, Greater, nat_cmp, refl, ap₂, ◌∙◌, arith}
use Rattle.std.specs.Ordering.{is_eq, ordering_then}
use Rattle.std.specs.BTreeMap.{is_at}
use Rattle.std.proofs.lemmas.Bool.Decides.{nat_tests}
use Rattle.slpf_rules_acts.specs.Index.{key_cmp}

eq_nat : (n k : ℕ) → is_eq (nat_cmp n k) ≡ (n == k)
eq_nat n k = grind (arith, nat_tests)

eq_then : (a b : Ordering) → is_eq (ordering_then a b) ≡ (is_eq a && is_eq b)
eq_then Less b = refl
eq_then Equal b = refl
eq_then Greater b = refl

pub same_key : (run issue r i : ℕ) → is_at (key_cmp (run, issue)) (r, i) ≡ (run == r && issue == i)
same_key run issue r i =
    eq_then (nat_cmp run r) (nat_cmp issue i) ∙ ap₂ (λ (a b : Bool). a && b) (eq_nat run r) (eq_nat issue i)
