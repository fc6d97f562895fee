-- The declared texts, one name after another.
use Rattle.std.proofs.Common.{◌≡◌, ℕ, zero, suc, ◌+◌, ◌<◌, List, [], ◌∷◌, ◌++◌, length, get_or, take, Option, arith, refl, ap, sym, ◌∙◌, subst}
use Rattle.std.specs.List.{AllByRecursion}
use Rattle.std.specs.BTreeMap.{insert_entry}
use Rattle.std.specs.Ordering.{nat_cmp, ordering_reverse}
use Rattle.std.specs.Cmp.Lexicographic.{slice_cmp, nat_list_cmp_total}
use Rattle.std.specs.declared.cmp.Ordering.TheVariants.{Greater}
use Rattle.cacao_vars.specs.declared.declarations.Var.{Var}
use Rattle.cacao_vars.specs.Declarations.{IsBefore, IsInNameOrder}
use Rattle.flow_core_rules.specs.State.{Texts}
use Rattle.flow_core_rules.specs.Edits.{declared_texts}

all-at : {A : Type 0} (P : A → Type 0) (xs : List A) (k : ℕ) (d : A) → AllByRecursion P xs → k < length xs → P (get_or xs k d)
all-at P [] k d h less = absurd (omega arith)
all-at P (x ∷ xs) zero d h less = h.0
all-at P (x ∷ xs) (suc k) d h less = all-at P xs k d h.1 (omega arith)

earlier : (xs : List Var) (i : ℕ) (d : Var) → IsInNameOrder xs → i < length xs → AllByRecursion (λ x. IsBefore x.name (get_or xs i d).name) (take i xs)
earlier [] i d h less = absurd (omega arith)
earlier (x ∷ xs) zero d h less = tt
earlier (x ∷ xs) (suc i) d h less =
    (all-at (λ (later : Var). IsBefore x.name later.name) xs i d h.0 (omega arith), earlier xs i d h.1 (omega arith))

insert_last : (xs : List Var) (k : List ℕ) (w : Option (List ℕ)) → AllByRecursion (λ x. IsBefore x.name k) xs
    → insert_entry (slice_cmp nat_cmp) (declared_texts xs) k w ≡ declared_texts xs ++ (k, w) ∷ []
insert_last [] k w h = refl
insert_last (x ∷ xs) k w h =
    let greater : slice_cmp nat_cmp k x.name ≡ Greater = nat_list_cmp_total.antisymm k x.name ∙ ap ordering_reverse h.0 in
    rw greater (ap (λ (r : Texts). (x.name, x.worth) ∷ r) (insert_last xs k w h.1))

texts_take : (xs : List Var) (i : ℕ) (d : Var) → i < length xs
    → declared_texts (take (suc i) xs) ≡ declared_texts (take i xs) ++ ((get_or xs i d).name, (get_or xs i d).worth) ∷ []
texts_take [] i d less = absurd (omega arith)
texts_take (x ∷ xs) zero d less = refl
texts_take (x ∷ xs) (suc i) d less = ap (λ (r : Texts). (x.name, x.worth) ∷ r) (texts_take xs i d (omega arith))

pub declared_more : (xs : List Var) (i : ℕ) (v : Var) (es after : Texts) → IsInNameOrder xs → i < length xs → v ≡ get_or xs i v → es ≡ declared_texts (take i xs)
    → after ≡ insert_entry (slice_cmp nat_cmp) es v.name v.worth → after ≡ declared_texts (take (i + 1) xs)
declared_more xs i v es after order less item now step =
    let here : AllByRecursion (λ x. IsBefore x.name v.name) (take i xs) = subst (λ (u : Var). AllByRecursion (λ (x : Var). IsBefore x.name u.name) (take i xs)) (sym item) (earlier xs i v order less) in
    let one : i + 1 ≡ suc i = omega arith in
    let more : declared_texts (take (suc i) xs) ≡ declared_texts (take i xs) ++ (v.name, v.worth) ∷ [] =
    texts_take xs i v less ∙ ap (λ (u : Var). declared_texts (take i xs) ++ (u.name, u.worth) ∷ []) (sym item) in
    rw (step, now, one) (insert_last (take i xs) v.name v.worth here ∙ sym more)
