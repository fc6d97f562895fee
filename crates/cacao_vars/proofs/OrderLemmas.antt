-- Declarations keep the order of their names.
use Rattle.std.proofs.Common.{◌≡◌, ℕ, Bool, true, false, List, [], ◌∷◌, cond, Option, Some, None, is_some, refl, sym, ◌∙◌, ap, subst}
use Rattle.std.specs.List.{AllByRecursion}
use Rattle.std.specs.Str.{bytes_eq}
use Rattle.std.specs.Cmp.Lexicographic.{slice_cmp, nat_list_cmp_total, nat_list_eq_equiv}
use Rattle.std.specs.Ordering.{nat_cmp, is_lt, is_eq, ordering_reverse}
use Rattle.std.specs.declared.cmp.Ordering.{Ordering}
use Rattle.std.specs.declared.cmp.Ordering.TheVariants.{Less, Equal, Greater}
use Rattle.std.proofs.lemmas.Bool.{true≢false}
use Rattle.std.proofs.lemmas.Map.Text.{is_eq-slice_cmp}
use Rattle.cacao_vars.specs.declared.declarations.Var.{Var}
use Rattle.cacao_vars.specs.Declarations.{IsBefore, IsInNameOrder, declared, is_after, placed}

less_from : (o : Ordering) → is_lt o ≡ true → o ≡ Less
less_from Less e = refl
less_from Equal e = absurd (true≢false (sym e))
less_from Greater e = absurd (true≢false (sym e))

greater_from : (o : Ordering) → is_lt o ≡ false → is_eq o ≡ false → o ≡ Greater
greater_from Less e f = absurd (true≢false e)
greater_from Equal e f = absurd (true≢false f)
greater_from Greater e f = refl

-- neither after nor equal is before
before_from : (a b : List ℕ) → is_after b a ≡ false → bytes_eq a b ≡ false → IsBefore b a
before_from a b e f =
    let greater = greater_from (slice_cmp nat_cmp a b) e (is_eq-slice_cmp a b ∙ f) in
    nat_list_cmp_total.antisymm b a ∙ ap ordering_reverse greater

all_later : (a b : List ℕ) (vars : List Var) → IsBefore a b → AllByRecursion (λ later. IsBefore b later.name) vars → AllByRecursion (λ later. IsBefore a later.name) vars
all_later a b [] h all = tt
all_later a b (var ∷ vars) h all = (nat_list_cmp_total.trans a b var.name h all.0, all_later a b vars h all.1)

all_placed : (a : List ℕ) (vars : List Var) (new : Var) → IsBefore a new.name → AllByRecursion (λ later. IsBefore a later.name) vars → AllByRecursion (λ later. IsBefore a later.name) (placed vars new)
all_placed a [] new h all = (h, tt)
all_placed a (var ∷ vars) new h all = elim (is_after var.name new.name) as (λ b. AllByRecursion (λ (later : Var). IsBefore a later.name) (cond b (new ∷ var ∷ vars) (var ∷ placed vars new))) [
  | true ↦ (h, all)
  | false ↦ (all.0, all_placed a vars new h all.1)
]

not_declared : (var : Var) (vars : List Var) (name : List ℕ) → declared (var ∷ vars) name ≡ None → (bytes_eq var.name name ≡ false) × (declared vars name ≡ None)
not_declared var vars name e = cases (bytes_eq var.name name) e
  where
    cases : (b : Bool) → cond b (Some var) (declared vars name) ≡ None → (b ≡ false) × (declared vars name ≡ None)
    cases true f = absurd (cc f)
    cases false f = (refl, f)

order_at : (var : Var) (vars : List Var) (new : Var) (b : Bool) → is_after var.name new.name ≡ b → AllByRecursion (λ later. IsBefore var.name later.name) vars
    → bytes_eq var.name new.name ≡ false → IsInNameOrder vars → IsInNameOrder (placed vars new)
    → IsInNameOrder (cond b (new ∷ var ∷ vars) (var ∷ placed vars new))
order_at var vars new true e later other order rest =
    let h = less_from (slice_cmp nat_cmp new.name var.name) e in ((h, all_later new.name var.name vars h later), (later, order))
order_at var vars new false e later other order rest =
    let apart : bytes_eq new.name var.name ≡ false = nat_list_eq_equiv.symm new.name var.name ∙ other in
    (all_placed var.name vars new (before_from new.name var.name e apart) later, rest)

none_from_test : {X : Type 0} (o : Option X) → is_some o ≡ false → o ≡ None
none_from_test None e = refl
none_from_test (Some x) e = absurd (true≢false e)

placed_order : (vars : List Var) (new : Var) → IsInNameOrder vars → declared vars new.name ≡ None → IsInNameOrder (placed vars new)
placed_order [] new order none = (tt, tt)
placed_order (var ∷ vars) new order none =
    let fresh = not_declared var vars new.name none in
    order_at var vars new (is_after var.name new.name) refl order.0 fresh.0 order.1 (placed_order vars new order.1 fresh.1)

-- a name that is not declared may be added
pub added_order : (old : List Var) (new : Var) (vars : List Var) → IsInNameOrder old → false ≡ is_some (declared old new.name) → vars ≡ placed old new → IsInNameOrder vars
added_order old new vars order none e = subst IsInNameOrder (sym e) (placed_order old new order (none_from_test (declared old new.name) (sym none)))
