-- What stands outside a place is what flows to it from where it is declared.
use Rattle.std.proofs.Common.{◌≡◌, ◌↔◌, ◌⊎◌, inl, inr, ℕ, List, true, is_some, Option, Some, None, Contains, refl, sym, ◌∙◌}
use Rattle.cacao_vars.specs.declared.declarations.Var.{Var}
use Rattle.cacao_vars.specs.Declarations.{declared}
use Rattle.cacao_book.specs.declared.books.Book.{Book}
use Rattle.base_graphs.specs.Closure.{Closure}
use Rattle.base_graphs.specs.Closure.Closure.{first, onward}
use Rattle.cacao_check_steps.specs.Links.{GoesTo, Begins, declares, start_places}
use Rattle.cacao_check_regions.specs.Regions.{InMain, InRegion, Sees, Outside, nearer, ScopesAgree, Encloses}
use Rattle.cacao_check_regions.specs.Regions.Sees.{own, around, outermost}
use Rattle.cacao_check_regions.specs.Regions.Outside.{region, main}
use Rattle.cacao_check_regions.specs.Regions.Encloses.{within, deeper}
use Rattle.cacao_check_regions.specs.Charts.{LinksDown}

-- a step goes on to another, or a branch of a step begins there that does not declare the name
abbrev pub Flows : Book → List ℕ → ℕ → ℕ → Type 0
Flows book name from to = GoesTo book from to ⊎ (Begins book from to × (declares book name from ≡ None))

-- where it comes from: a branch begins there of a step that declares it, or a run of the book that has it
pub data ComesFrom (book : Book) (name : List ℕ) (place : ℕ) : Option Var → Type 0 where
  at_control : (control : ℕ) (var : Var) → Begins book control place → declares book name control ≡ Some var → ComesFrom book name place (Some var)
  at_start : Contains (start_places book) place → ComesFrom book name place (declared book.variables name)

module _ (book : Book) (name : List ℕ) where
  pub outside_sees : {place : ℕ} {seen : Option Var} → declares book name place ≡ None → Outside book name place seen → Sees book name place seen
  outside_sees e (region r s) = around e r s
  outside_sees e (main m) = outermost e m

  pub outside_next : {from to : ℕ} {seen : Option Var} → GoesTo book from to → Outside book name from seen → Outside book name to seen
  outside_next g (region r s) = region (onward r g) s
  outside_next g (main m) = main (onward m g)

  -- all that flows to a place stands outside it
  come_outside : {place : ℕ} {seen : Option Var} → ComesFrom book name place seen → Outside book name place seen
  come_outside (at_control control var b d) = region (first b) (own d)
  come_outside (at_start s) = main (first s)

  flows_outside : (seen : Option Var) {place : ℕ} → Closure (λ p. ComesFrom book name p seen) (Flows book name) place → Outside book name place seen
  flows_outside seen (first c) = come_outside c
  flows_outside seen (onward c (inl g)) = outside_next g (flows_outside seen c)
  flows_outside seen (onward c (inr b)) = region (first b.0) (outside_sees b.1 (flows_outside seen c))

  -- all that stands outside a place flows to it
  main_flows : {place : ℕ} → InMain book place → Closure (λ p. ComesFrom book name p (declared book.variables name)) (Flows book name) place
  main_flows (first s) = first (at_start s)
  main_flows (onward m g) = onward (main_flows m) (inl g)

  own_flows : (control : ℕ) (var : Var) → declares book name control ≡ Some var → {place : ℕ} → InRegion book control place → Closure (λ p. ComesFrom book name p (Some var)) (Flows book name) place
  own_flows control var d (first b) = first (at_control control var b d)
  own_flows control var d (onward r g) = onward (own_flows control var d r) (inl g)

  down_flows : (control : ℕ) (seen : Option Var) → declares book name control ≡ None → Closure (λ p. ComesFrom book name p seen) (Flows book name) control → {place : ℕ} → InRegion book control place → Closure (λ p. ComesFrom book name p seen) (Flows book name) place
  down_flows control seen e c (first b) = onward c (inr (b, e))
  down_flows control seen e c (onward r g) = onward (down_flows control seen e c r) (inl g)

  sees_flows : (control : ℕ) (seen : Option Var) → Sees book name control seen → {place : ℕ} → InRegion book control place → Closure (λ p. ComesFrom book name p seen) (Flows book name) place
  sees_flows control seen (own {var} d) r = own_flows control var d r
  sees_flows control seen (around {control = outer} e r' s) r = down_flows control seen e (sees_flows outer seen s r') r
  sees_flows control seen (outermost e m) r = down_flows control (declared book.variables name) e (main_flows m) r

  outside_flows : {place : ℕ} (seen : Option Var) → Outside book name place seen → Closure (λ p. ComesFrom book name p seen) (Flows book name) place
  outside_flows seen (region {control} r s) = sees_flows control seen s r
  outside_flows seen (main m) = main_flows m

  -- what stands outside a place
  pub outside_iff_flows : (place : ℕ) (seen : Option Var) → Outside book name place seen ↔ Closure (λ p. ComesFrom book name p seen) (Flows book name) place
  outside_iff_flows place seen = (outside_flows seen, flows_outside seen)

  sees_outside : {place : ℕ} {seen : Option Var} → declares book name place ≡ None → Sees book name place seen → Outside book name place seen
  sees_outside e (own d) = absurd (cc)
  sees_outside e (around e' r s) = region r s
  sees_outside e (outermost e' m) = main m

  -- a step that does not declare the name sees what stands outside
  pub sees_iff_outside : (place : ℕ) (seen : Option Var) → declares book name place ≡ None → Sees book name place seen ↔ Outside book name place seen
  sees_iff_outside place seen e = (sees_outside e, outside_sees e)

  -- one that declares the name sees its own declaration alone
  pub sees_own : (place : ℕ) (var : Var) (seen : Option Var) → declares book name place ≡ Some var → Sees book name place seen → seen ≡ Some var
  sees_own place var seen d (own {var = v} d') = sym d' ∙ d
  sees_own place var seen d (around e r s) = absurd (cc)
  sees_own place var seen d (outermost e m) = absurd (cc)

near : (book : Book) (name : List ℕ) (place : ℕ) (own' seen : Option Var) → declares book name place ≡ own' → Outside book name place seen → Sees book name place (nearer own' seen)
near book name place (Some var) seen e o = own e
near book name place None seen e o = outside_sees book name e o

-- the scopes of a run agree with what is seen
pub scopes_agree : ScopesAgree
scopes_agree = record {
  starts = λ book name place s. main (first s);
  goes_on = λ book name from to seen g o. outside_next book name g o;
  branches = λ book name control head seen b o. region (first b) (near book name control (declares book name control) seen refl o);
  sees = λ book name place seen o. near book name place (declares book name place) seen refl o;
}

-- ---- a step stands in a region exactly where something stands outside it

-- ---- enclosing is reaching along both kinds of links

encloses_next : (book : Book) {control from to : ℕ} → Encloses book control from → GoesTo book from to → Encloses book control to
encloses_next book (within r) g = within (onward r g)
encloses_next book (deeper r e) g = deeper r (encloses_next book e g)

encloses_head : (book : Book) {control from to : ℕ} → Encloses book control from → Begins book from to → Encloses book control to
encloses_head book (within r) b = deeper r (within (first b))
encloses_head book (deeper r e) b = deeper r (encloses_head book e b)

region_down : (book : Book) (control : ℕ) {place : ℕ} → InRegion book control place → Closure (Begins book control) (LinksDown book) place
region_down book control (first b) = first b
region_down book control (onward r g) = onward (region_down book control r) (inl g)

join_down : (book : Book) (control inner : ℕ) {place : ℕ} → Closure (Begins book control) (LinksDown book) inner → Closure (Begins book inner) (LinksDown book) place → Closure (Begins book control) (LinksDown book) place
join_down book control inner to_inner (first b) = onward to_inner (inr b)
join_down book control inner to_inner (onward c l) = onward (join_down book control inner to_inner c) l

encloses_down : (book : Book) (control : ℕ) {place : ℕ} → Encloses book control place → Closure (Begins book control) (LinksDown book) place
encloses_down book control (within r) = region_down book control r
encloses_down book control (deeper {inner} r e) = join_down book control inner (region_down book control r) (encloses_down book inner e)

down_encloses : (book : Book) (control : ℕ) {place : ℕ} → Closure (Begins book control) (LinksDown book) place → Encloses book control place
down_encloses book control (first b) = within (first b)
down_encloses book control (onward c (inl g)) = encloses_next book (down_encloses book control c) g
down_encloses book control (onward c (inr b)) = encloses_head book (down_encloses book control c) b

pub encloses_iff_down : (book : Book) (control place : ℕ) → Encloses book control place ↔ Closure (Begins book control) (LinksDown book) place
encloses_iff_down book control place = (encloses_down book control, down_encloses book control)

-- ---- where the book declares the name, nothing that is seen is missing

pub never_missing : (book : Book) (name : List ℕ) → is_some (declared book.variables name) ≡ true → {place : ℕ} {seen : Option Var} → Sees book name place seen → is_some seen ≡ true
never_missing book name e (own d) = refl
never_missing book name e (around d r s) = never_missing book name e s
never_missing book name e (outermost d m) = e

-- ---- what is seen comes from somewhere

-- from a step that declares it, or from what the book has
pub seen_source : (book : Book) (name : List ℕ) {place : ℕ} {seen : Option Var} → Sees book name place seen → ((step : ℕ) × (declares book name step ≡ seen) × (is_some seen ≡ true)) ⊎ (seen ≡ declared book.variables name)
seen_source book name (own {place} d) = inl (place, d, refl)
seen_source book name (around e r s) = seen_source book name s
seen_source book name (outermost e m) = inr refl

-- where a step may find no declaration, a run reaches it
down_reached : (book : Book) (control : ℕ) → Closure (Contains (start_places book)) (LinksDown book) control → {place : ℕ} → InRegion book control place → Closure (Contains (start_places book)) (LinksDown book) place
down_reached book control up (first b) = onward up (inr b)
down_reached book control up (onward c g) = onward (down_reached book control up c) (inl g)

main_reached : (book : Book) {place : ℕ} → InMain book place → Closure (Contains (start_places book)) (LinksDown book) place
main_reached book (first s) = first s
main_reached book (onward c g) = onward (main_reached book c) (inl g)

missing_reached : (book : Book) (name : List ℕ) {place : ℕ} {seen : Option Var} → Sees book name place seen → seen ≡ None → Closure (Contains (start_places book)) (LinksDown book) place
missing_reached book name (own d) e = absurd (cc)
missing_reached book name (around {control} d r s) e = down_reached book control (missing_reached book name s e) r
missing_reached book name (outermost d m) e = main_reached book m

-- so where no run reaches, none is missing
pub found_unreached : (book : Book) (name : List ℕ) (place : ℕ) → (Closure (Contains (start_places book)) (LinksDown book) place → ⊥) → (seen : Option Var) → Sees book name place seen → is_some seen ≡ true
found_unreached book name place unreached None s = absurd (unreached (missing_reached book name s refl))
found_unreached book name place unreached (Some var) s = refl
