-- Closures, forwards and backwards.
use Rattle.std.proofs.Common.{◌≡◌, ◌↔◌, ℕ, refl, sym, subst}
use Rattle.base_graphs.specs.Closure.{Closure}
use Rattle.base_graphs.specs.Closure.Closure.{first, onward}

-- one relation in place of another
pub closure_map : (F F' : ℕ → Type 0) (G G' : ℕ → ℕ → Type 0) → ((p : ℕ) → F p → F' p) → ((p q : ℕ) → G p q → G' p q) → (p : ℕ) → Closure F G p → Closure F' G' p
closure_map F F' G G' f g p (first h) = first (f p h)
closure_map F F' G G' f g p (onward {from} c h) = onward (closure_map F F' G G' f g from c) (g from p h)

module _ (E : ℕ → Type 0) (G : ℕ → ℕ → Type 0) where
  back_from : (place last : ℕ) → Closure (λ p. p ≡ place) G last → Closure E (λ from to. G to from) last → Closure E (λ from to. G to from) place
  back_from place last (first e) c = subst (Closure E (λ from to. G to from)) e c
  back_from place last (onward {from} d g) c = back_from place from d (onward c g)

  from_head : (place next last : ℕ) → G place next → Closure (λ p. p ≡ next) G last → Closure (λ p. p ≡ place) G last
  from_head place next last g (first e) = onward (first refl) (subst (G place) (sym e) g)
  from_head place next last g (onward c h) = onward (from_head place next _ g c) h

  to_end : (place : ℕ) → Closure E (λ from to. G to from) place → (last : ℕ) × Closure (λ p. p ≡ place) G last × E last
  to_end place (first e) = (place, first refl, e)
  to_end place (onward {from} c g) = let r : (last : ℕ) × Closure (λ p. p ≡ from) G last × E last = to_end from c in (r.0, from_head place from r.0 g r.1, r.2)

  -- one of the ends is reached from a place exactly where the place is reached from them backwards
  pub reaches_iff_back : (place : ℕ) → ((last : ℕ) × Closure (λ p. p ≡ place) G last × E last) ↔ Closure E (λ from to. G to from) place
  reaches_iff_back place = (λ r. back_from place r.0 r.1 (first r.2), to_end place)
