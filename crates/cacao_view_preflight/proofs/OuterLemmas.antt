-- The variables of a playbook that are kept stand in the order of their names.
use Rattle.std.proofs.Common.{◌≡◌, ◌∙◌, refl, ap, Bool, true, false, not, cond, ◌&&◌, List, [], ◌∷◌}
use Rattle.std.specs.Prelude.{filter}
use Rattle.std.specs.List.{AllByRecursion}
use Rattle.cacao_vars.specs.Declarations.{IsBefore, IsInNameOrder}
use Rattle.cacao_vars.specs.declared.declarations.Var.{Var}
use Rattle.cacao_book.specs.declared.books.Book.{Book}
use Rattle.cacao_view_preflight.specs.Constants.{inner_names, is_fixed, outer_constants}
use Rattle.cacao_view_preflight.specs.NameSets.{HasJust, holds}
use Rattle.cacao_view_preflight.specs.declared.name_set.NameSet.{NameSet}

each_kept : (P : Var → Type 0) (keeps : Var → Bool) (vars : List Var) → AllByRecursion P vars → AllByRecursion P (filter keeps vars)
each_kept P keeps [] h = tt
each_kept P keeps (v ∷ vars) h = by (keeps v) (each_kept P keeps vars h.1)
  where
    by : (b : Bool) → AllByRecursion P (filter keeps vars) → AllByRecursion P (cond b (v ∷ filter keeps vars) (filter keeps vars))
    by true rest = (h.0, rest)
    by false rest = rest

pub order_kept : (keeps : Var → Bool) (vars : List Var) → IsInNameOrder vars → IsInNameOrder (filter keeps vars)
order_kept keeps [] h = tt
order_kept keeps (v ∷ vars) h = by (keeps v) (order_kept keeps vars h.1)
  where
    by : (b : Bool) → IsInNameOrder (filter keeps vars) → IsInNameOrder (cond b (v ∷ filter keeps vars) (filter keeps vars))
    by true rest = (each_kept (λ later. IsBefore v.name later.name) keeps vars h.0, rest)
    by false rest = rest

same_kept : (p q : Var → Bool) → ((v : Var) → p v ≡ q v) → (vars : List Var) → filter p vars ≡ filter q vars
same_kept p q same [] = refl
same_kept p q same (v ∷ vars) =
    ap (λ (b : Bool). cond b (v ∷ filter p vars) (filter p vars)) (same v) ∙ ap (λ (l : List Var). cond (q v) (v ∷ l) l) (same_kept p q same vars)

pub outer_kept : (set : NameSet) (book : Book) (vars : List Var) → HasJust set (inner_names book) → vars ≡ book.variables
    → filter (λ (v : Var). is_fixed v && not (holds set v.name)) vars ≡ outer_constants book
outer_kept set book vars just is =
    ap (filter (λ (v : Var). is_fixed v && not (holds set v.name))) is
    ∙ same_kept (λ (v : Var). is_fixed v && not (holds set v.name)) _ (λ v. ap (λ (b : Bool). is_fixed v && not b) (just v.name)) book.variables
