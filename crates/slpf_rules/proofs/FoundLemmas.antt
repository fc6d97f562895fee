-- Rules that are found by their number, after an edit.
use Rattle.std.proofs.Common.{◌≡◌, ℕ, Bool, true, false, cond, nat_eq, nat_cmp, Option, None, refl, arith}
use Rattle.std.specs.BTreeMap.{is_at}
use Rattle.std.proofs.lemmas.Bool.Decides.{nat_tests}
use Rattle.slpf_rules.specs.declared.rules.Rule.{Rule}

pub same_number : (k n : ℕ) → nat_eq k n ≡ is_at (nat_cmp k) n
same_number k n = grind (arith, nat_tests)

pub equal_number : (k n : ℕ) → nat_eq k n ≡ true → n ≡ k
equal_number k n h = grind (arith, nat_tests)

-- two maps that agree still do where both have this now
pub both_put : (b e : Bool) (w x y : Option Rule) → b ≡ e → x ≡ y → cond b w x ≡ cond e w y
both_put b e w x y h is = cc

-- what was put and taken out again
pub undone : (b : Bool) (w o : Option Rule) → (b ≡ true → o ≡ None) → cond b None (cond b w o) ≡ o
undone true w o h = let e = h refl in cc
undone false w o h = refl
