-- The first moment of the resends is that of the next put.
use Rattle.std.proofs.Common.{◌≡◌, inl, inr, ℕ, ◌==◌, ◌<◌, ◌&&◌, ◌||◌, nat_lt, Bool, true, false, cond, List, [], ◌∷◌, Option, Some, None, arith, refl, ap, sym, subst, ◌∙◌}
use Rattle.std.specs.Prelude.{slice_get, option_and_then}
use Rattle.std.specs.List.{AllByRecursion}
use Rattle.flow_core_rules.proofs.RunLemmas.{some_inner}
use Rattle.base_dues.specs.Pairs.{Due, at, comes_first, IsQueue}
use Rattle.flow_engine.specs.declared.puts.Puts.{Puts}
use Rattle.flow_engine.specs.OpenIssues.{OpenIssues, puts_of, resend_of, IsNextPut, IsNoLater}

none_some : {B : Type 0} (x : ℕ) → None ≡ Some x → B
none_some x e = absurd (no e)
  where
    no : None ≡ Some x → ⊥
    no h = cc

same_number : (a b : ℕ) → (a == b) ≡ true → a ≡ b
same_number a b h = grind arith

at-all : (P : Due → Type 0) (ds : List Due) (n m : ℕ) → AllByRecursion P ds → at ds n ≡ Some m → P (m, n)
at-all P [] n m all e = none_some m e
at-all P (d ∷ ds) n m all e = by (n == d.1) refl e (at-all P ds n m all.1)
  where
    by : (b : Bool) → (n == d.1) ≡ b → cond b (Some d.0) (at ds n) ≡ Some m → (at ds n ≡ Some m → P (m, n)) → P (m, n)
    by true p q rest = subst (λ k. P (m, k)) (sym (same_number n d.1 p)) (subst (λ k. P (k, d.1)) (some_inner d.0 m q) all.0)
    by false p q rest = rest q

no_later : (a b : Due) → comes_first a b ≡ true → IsNoLater a b
no_later a b e = by (nat_lt a.0 b.0) refl e
  where
    both : (x y : Bool) → (x && y) ≡ true → (x ≡ true) × (y ≡ true)
    both true y h = (refl, h)
    both false y h = (h, absurd (no h))
      where
        no : false ≡ true → ⊥
        no g = cc

    less : (x y : ℕ) → nat_lt x y ≡ true → x < y
    less x y h = grind arith

    by : (c : Bool) → nat_lt a.0 b.0 ≡ c → (c || ((a.0 == b.0) && nat_lt a.1 b.1)) ≡ true → IsNoLater a b
    by true p q = inl (less a.0 b.0 p)
    by false p q =
        let h = both (a.0 == b.0) (nat_lt a.1 b.1) q in
        let l : a.1 < b.1 = less a.1 b.1 h.1 in
        inr (same_number a.0 b.0 h.0, omega arith)

resent : (issues : OpenIssues) (issue moment : ℕ) (puts : Puts) → puts_of issues issue ≡ Some puts → resend_of puts ≡ Some moment
    → option_and_then resend_of (puts_of issues issue) ≡ Some moment
resent issues issue moment puts is at_moment = ap (λ (o : Option Puts). option_and_then resend_of o) is ∙ at_moment

pub first_is : (issues : OpenIssues) (pairs : List Due) → IsQueue pairs → ((n : ℕ) → at pairs n ≡ option_and_then resend_of (puts_of issues n))
    → IsNextPut issues (slice_get pairs 0)
first_is issues [] queue each = λ issue puts is. sym (each issue ∙ ap (λ (o : Option Puts). option_and_then resend_of o) is)
first_is issues (d ∷ ds) queue each = (found (puts_of issues d.1) refl (sym (each d.1) ∙ here), λ issue moment puts is due. least issue moment (each issue ∙ resent issues issue moment puts is due))
  where
    same : (n : ℕ) → (n == n) ≡ true
    same n = grind arith

    here : at (d ∷ ds) d.1 ≡ Some d.0
    here = ap (λ b. cond b (Some d.0) (at ds d.1)) (same d.1)

    found : (o : Option Puts) → puts_of issues d.1 ≡ o → option_and_then resend_of (puts_of issues d.1) ≡ Some d.0
        → (puts : Puts) × (puts_of issues d.1 ≡ Some puts) × (resend_of puts ≡ Some d.0)
    found None is due = none_some d.0 (sym (ap (λ (o : Option Puts). option_and_then resend_of o) is) ∙ due)
    found (Some puts) is due = (puts, is, sym (ap (λ (o : Option Puts). option_and_then resend_of o) is) ∙ due)

    least : (issue moment : ℕ) → at (d ∷ ds) issue ≡ Some moment → IsNoLater d (moment, issue)
    least issue moment e = by (issue == d.1) refl e
      where
        by : (b : Bool) → (issue == d.1) ≡ b → cond b (Some d.0) (at ds issue) ≡ Some moment → IsNoLater d (moment, issue)
        by true p q = inr (some_inner d.0 moment q, let e : issue ≡ d.1 = same_number issue d.1 p in omega arith)
        by false p q = no_later d (moment, issue) (at-all (λ e. comes_first d e ≡ true) ds issue moment (queue.rises).0 q)
