-- Where a step hides what the book has of a name.
use Rattle.std.proofs.Common.{◌≡◌, ◌⊎◌, inl, inr, ℕ, true, List, Option, Some, IsSome, is_some, Contains, sym, ◌∙◌, ap, subst}
use Rattle.std.proofs.lemmas.Bool.{false≢true}
use Rattle.base_graphs.specs.Nests.{IsInside}
use Rattle.base_graphs.proofs.ClosureLemmas.{closure_map}
use Rattle.cacao_vars.specs.declared.declarations.Var.{Var}
use Rattle.cacao_book.specs.declared.books.Book.{Book}
use Rattle.cacao_check_steps.specs.Links.{start_places, declares}
use Rattle.cacao_check_regions.specs.declared.charts.Chart.{Chart}
use Rattle.cacao_check_regions.specs.declared.flaws.Flaw.{Flaw}
use Rattle.cacao_check_regions.specs.Charts.{IsChartOf, LinksBeside, LeadsThrough, IsBehind}
use Rattle.cacao_check_regions.specs.Flaws.{is_flawed, HasOwnFlaw, SeesFlaw}
use Rattle.cacao_check_regions.specs.Declarers.{places_under}
use Rattle.cacao_check_regions.proofs.SeenLemmas.{ComesFrom, Flows, outside_iff_flows, sees_iff_outside, sees_own}
use Rattle.cacao_check_regions.proofs.SightLemmas.{some_or_none}

module _ (book : Book) (name : List ℕ) (flaw : Flaw) (none : (p : ℕ) → HasOwnFlaw book name flaw p → ⊥) where
  own_flaw : (place : ℕ) (var : Var) → declares book name place ≡ Some var → is_flawed flaw (Some var) ≡ true → ⊥
  own_flaw place var d e = none place (ap is_some d, ap (is_flawed flaw) d ∙ e)

  -- what has the flaw comes from the book
  from_start : (seen : Option Var) → is_flawed flaw seen ≡ true → (place : ℕ) → ComesFrom book name place seen → Contains (start_places book) place
  from_start seen e place (ComesFrom.at_control control var b d) = absurd (own_flaw control var d e)
  from_start seen e place (ComesFrom.at_start s) = s

  -- and it flows past no step that declares the name
  beside : (control : ℕ) → IsSome (declares book name control) → (from to : ℕ) → Flows book name from to → LinksBeside book control from to
  beside control declared from to (inl g) = inl g
  beside control declared from to (inr b) = inr (b.0, λ same. false≢true (sym (ap is_some b.1) ∙ subst (λ p. IsSome (declares book name p)) (sym same) declared))

  pub hidden : (place control : ℕ) → IsSome (declares book name control) → (control ≡ place) ⊎ LeadsThrough book control place → SeesFlaw book name flaw place → ⊥
  hidden place control declared behind s = elim (some_or_none (declares book name place)) [
    | inl absent ↦ elim behind [
      | inl same ↦ false≢true (sym (ap is_some absent) ∙ subst (λ p. IsSome (declares book name p)) same declared)
      | inr through ↦ through (closure_map (λ p. ComesFrom book name p s.0) (Contains (start_places book)) (Flows book name) (LinksBeside book control) (from_start s.0 s.2) (beside control declared) place ((outside_iff_flows book name place s.0).0 ((sees_iff_outside book name place s.0 absent).0 s.1)))
    ]
    | inr var ↦ own_flaw place var.0 var.1 (ap (is_flawed flaw) (sym (sees_own book name place var.0 s.0 var.1 s.1)) ∙ s.2)
  ]

-- the places are all that declare the name, none with the flaw, and one of them hides it
pub plainly_hidden : (book : Book) (chart : Chart) (name : List ℕ) (flaw : Flaw) (places : List ℕ) (place : ℕ) → IsChartOf book chart → places ≡ places_under chart.declarers name → IsBehind chart.nests places place
    → ((p : ℕ) → Contains places p → HasOwnFlaw book name flaw p → ⊥) → SeesFlaw book name flaw place → ⊥
plainly_hidden book chart name flaw places place is e behind none = hidden book name flaw nowhere place behind.0 (here behind.0 behind.1) (through behind.2)
  where
    here : (p : ℕ) → Contains places p → IsSome (declares book name p)
    here p c = (is.declarers_are name p).0 (subst (λ (v : List ℕ). Contains v p) e c)

    nowhere : (p : ℕ) → HasOwnFlaw book name flaw p → ⊥
    nowhere p h = none p (subst (λ (v : List ℕ). Contains v p) (sym e) ((is.declarers_are name p).1 h.0)) h

    through : (behind.0 ≡ place) ⊎ IsInside chart.nests place behind.0 → (behind.0 ≡ place) ⊎ LeadsThrough book behind.0 place
    through (inl same) = inl same
    through (inr inside) = inr (is.nests_tell place behind.0 inside)
