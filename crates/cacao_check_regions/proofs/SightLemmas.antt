-- Where a search for a name begins, and what it finds.
use Rattle.std.proofs.Common.{◌≡◌, ◌↔◌, ◌⊎◌, inl, inr, ℕ, ◌+◌, ◌<◌, ◌≤◌, Bool, true, false, List, length, get_or, Contains, IsTrue, Option, Some, None, refl, sym, ◌∙◌, ap, subst, arith}
use Rattle.std.specs.Prelude.{IsSome, is_some}
use Rattle.std.proofs.lemmas.Bool.{cases_lt, false≢true}
use Rattle.base_graphs.specs.Tables.{IsMarked, IsOpen, row}
use Rattle.base_graphs.specs.Closure.{Closure}
use Rattle.base_graphs.specs.Closure.Closure.{first, onward}
use Rattle.base_graphs.proofs.ClosureLemmas.{closure_map}
use Rattle.cacao_vars.specs.declared.declarations.Var.{Var}
use Rattle.cacao_vars.specs.Declarations.{declared}
use Rattle.cacao_book.specs.declared.books.Book.{Book}
use Rattle.cacao_check_regions.specs.declared.charts.Chart.{Chart}
use Rattle.cacao_check_steps.specs.Links.{declares}
use Rattle.cacao_check_regions.specs.Regions.{Sees, Outside}
use Rattle.cacao_check_regions.specs.Regions.Outside.{region, main}
use Rattle.cacao_check_regions.specs.Charts.{IsChartOf, AreMarksOf, BeginsChosen, FlowsPast}
use Rattle.cacao_check_regions.proofs.ChartLemmas.{begins, begins_within}
use Rattle.cacao_check_regions.proofs.SightLists.{hides_iff}
use Rattle.cacao_check_regions.proofs.SeenLemmas.{ComesFrom, Flows, outside_iff_flows, outside_next, outside_sees, sees_iff_outside, sees_own}

-- the list has the starts, if they are wanted, and the heads of the chosen steps below n
abbrev pub Gathers : List ℕ → List (List ℕ) → List Bool → Bool → ℕ → List ℕ → Type 0
Gathers starts heads chosen at_start n places = (place : ℕ) → Contains places place ↔ ((IsTrue at_start × Contains starts place) ⊎ ((control : ℕ) × control < n × IsMarked chosen control × Contains (row heads control) place))

pub Gathers-none : (starts : List ℕ) (heads : List (List ℕ)) (chosen : List Bool) (at_start : Bool) (places : List ℕ) → ((p : ℕ) → Contains places p ↔ (IsTrue at_start × Contains starts p)) → Gathers starts heads chosen at_start 0 places
Gathers-none starts heads chosen at_start places e p = (λ c. inl ((e p).0 c), λ h. elim h [ inl s ↦ (e p).1 s | inr b ↦ absurd (let lt : b.0 < 0 = b.1 in omega arith) ])

pub Gathers-more : (starts : List ℕ) (heads : List (List ℕ)) (chosen : List Bool) (at_start : Bool) (n : ℕ) (r old new : List ℕ) (b : Bool) → r ≡ row heads n → b ≡ get_or chosen n false → Gathers starts heads chosen at_start n old → ((p : ℕ) → Contains new p ↔ (Contains old p ⊎ (IsTrue b × Contains r p))) → Gathers starts heads chosen at_start (n + 1) new
Gathers-more starts heads chosen at_start n r old new b at mark done adds p = (there, back)
  where
    there : Contains new p → (IsTrue at_start × Contains starts p) ⊎ ((control : ℕ) × control < n + 1 × IsMarked chosen control × Contains (row heads control) p)
    there c = elim ((adds p).0 c) [
      | inl o ↦ elim ((done p).0 o) [ inl s ↦ inl s | inr h ↦ inr (h.0, let lt : h.0 < n = h.1 in omega arith, h.2, h.3) ]
      | inr h ↦ inr (n, omega arith, sym mark ∙ h.0, subst (λ v. Contains v p) at h.1)
    ]

    back : (IsTrue at_start × Contains starts p) ⊎ ((control : ℕ) × control < n + 1 × IsMarked chosen control × Contains (row heads control) p) → Contains new p
    back (inl s) = (adds p).1 (inl ((done p).1 (inl s)))
    back (inr h) = elim (cases_lt h.0 n) [
      | inl below ↦ (adds p).1 (inl ((done p).1 (inr (h.0, below, h.2, h.3))))
      | inr over ↦ let lt : h.0 < n + 1 = h.1 in let same : h.0 ≡ n = omega arith in
          (adds p).1 (inr (mark ∙ ap (λ k. get_or chosen k false) (sym same) ∙ h.2, subst (λ v. Contains v p) (sym at) (subst (λ k. Contains (row heads k) p) same h.3)))
    ]

-- all of them are gathered
pub Gathers-all : (book : Book) (chart : Chart) → IsChartOf book chart → (chosen : List Bool) (at_start : Bool) (n : ℕ) (places : List ℕ) → length book.steps ≤ n → Gathers chart.starts chart.heads.items chosen at_start n places → (p : ℕ) → Contains places p ↔ BeginsChosen book chosen at_start p
Gathers-all book chart is chosen at_start n places over done p = (
  λ c. elim ((done p).0 c) [ inl s ↦ inl (s.0, subst (λ v. Contains v p) is.starts_are s.1) | inr h ↦ inr (h.0, (begins book chart is h.0 p).0 h.3, h.2) ],
  λ h. (done p).1 (elim h [ inl s ↦ inl (s.0, subst (λ v. Contains v p) (sym is.starts_are) s.1) | inr b ↦ inr (b.0, let lt = begins_within book b.0 p b.1 in omega arith, b.2, (begins book chart is b.0 p).1 b.1) ]),
)

-- ---- what a search for a name and a property finds

pub some_or_none : (o : Option Var) → (o ≡ None) ⊎ ((var : Var) × (o ≡ Some var))
some_or_none None = inl refl
some_or_none (Some var) = inr (var, refl)

module _ (book : Book) (name : List ℕ) (q : Option Var → Bool) (hiding own : List Bool) (at_start : Bool) (hides : AreMarksOf (λ p. IsSome (declares book name p)) hiding) (owns : AreMarksOf (λ p. IsSome (declares book name p) × (q (declares book name p) ≡ true)) own) (starts : at_start ≡ q (declared book.variables name)) where
  owned : (p : ℕ) (var : Var) → declares book name p ≡ Some var → q (Some var) ≡ true → IsMarked own p
  owned p var d e = (owns p).1 (ap is_some d, ap q d ∙ e)

  -- the first places of the search are those to which something with the property comes
  begins_chosen : (p : ℕ) (seen : Option Var) → q seen ≡ true → ComesFrom book name p seen → BeginsChosen book own at_start p
  begins_chosen p seen e (ComesFrom.at_control control var b d) = inr (control, b, owned control var d e)
  begins_chosen p seen e (ComesFrom.at_start s) = inl (starts ∙ e, s)

  -- the search follows what flows
  flows_past : (from to : ℕ) → Flows book name from to → FlowsPast book hiding from to
  flows_past from to (inl g) = inl g
  flows_past from to (inr b) = inr (b.0, (hides_iff book name hiding hides from).1 b.1)

  found_there : {p : ℕ} → Closure (BeginsChosen book own at_start) (FlowsPast book hiding) p → (seen : Option Var) × Outside book name p seen × (q seen ≡ true)
  found_there (first (inl s)) = (declared book.variables name, main (first s.1), sym starts ∙ s.0)
  found_there (first (inr b)) = let o : IsSome (declares book name b.0) × (q (declares book name b.0) ≡ true) = (owns b.0).0 b.2 in elim (some_or_none (declares book name b.0)) [
    | inl none ↦ absurd (false≢true (sym (ap is_some none) ∙ o.0))
    | inr var ↦ (Some var.0, region (first b.1) (Sees.own var.1), sym (ap q var.1) ∙ o.1)
  ]
  found_there (onward c (inl g)) = let h : (seen : Option Var) × Outside book name _ seen × (q seen ≡ true) = found_there c in (h.0, outside_next book name g h.1, h.2)
  found_there (onward c (inr b)) = let h : (seen : Option Var) × Outside book name _ seen × (q seen ≡ true) = found_there c in (h.0, region (first b.0) (outside_sees book name ((hides_iff book name hiding hides _).0 b.1) h.1), h.2)

  -- what stands outside a place and has the property
  pub sights_found : (p : ℕ) → Closure (BeginsChosen book own at_start) (FlowsPast book hiding) p ↔ ((seen : Option Var) × Outside book name p seen × (q seen ≡ true))
  sights_found p = (
    λ c. found_there c,
    λ h. closure_map (λ r. ComesFrom book name r h.0) (BeginsChosen book own at_start) (Flows book name) (FlowsPast book hiding) (λ r. begins_chosen r h.0 h.2) flows_past p ((outside_iff_flows book name p h.0).0 h.1),
  )

  -- what a step sees that has the property
  pub sees_found : (outside : List Bool) → AreMarksOf (Closure (BeginsChosen book own at_start) (FlowsPast book hiding)) outside → (p : ℕ) → ((seen : Option Var) × Sees book name p seen × (q seen ≡ true)) ↔ (IsMarked own p ⊎ (IsMarked outside p × IsOpen hiding p))
  sees_found outside found p = (
    λ h. elim (some_or_none (declares book name p)) [
      | inl none ↦ inr ((found p).1 ((sights_found p).1 (h.0, (sees_iff_outside book name p h.0 none).0 h.1, h.2)), (hides_iff book name hiding hides p).1 none)
      | inr var ↦ inl (owned p var.0 var.1 (ap q (sym (sees_own book name p var.0 h.0 var.1 h.1)) ∙ h.2))
    ],
    λ h. elim h [
      | inl o ↦ here o
      | inr o ↦ let f : (seen : Option Var) × Outside book name p seen × (q seen ≡ true) = (sights_found p).0 ((found p).0 o.0) in (f.0, (sees_iff_outside book name p f.0 ((hides_iff book name hiding hides p).0 o.1)).1 f.1, f.2)
    ],
  )
    where
      here : IsMarked own p → (seen : Option Var) × Sees book name p seen × (q seen ≡ true)
      here o = let d : IsSome (declares book name p) × (q (declares book name p) ≡ true) = (owns p).0 o in elim (some_or_none (declares book name p)) [
        | inl none ↦ absurd (false≢true (sym (ap is_some none) ∙ d.0))
        | inr var ↦ (Some var.0, Sees.own var.1, sym (ap q var.1) ∙ d.1)
      ]
