-- The first rule that is broken, and the least break of a walk over the steps.
use Rattle.std.proofs.Common.{◌≡◌, inl, inr, ℕ, zero, suc, ◌+◌, ◌<◌, ◌≤◌, List, [], ◌∷◌, Option, Some, None, slice_get, length, refl, sym, ap, arith, map, get_or}
use Rattle.std.specs.Prelude.{IfSome}
use Rattle.std.proofs.lemmas.Bool.{cases_lt}
use Rattle.serde_json.specs.Data.{Data}
use Rattle.cacao_book_shape.specs.Least.{Before, FirstRule, IsLeastBreak}
use Rattle.cacao_book_shape.specs.Shape.{ShapeRule, k1, k2, k3, k4, k5, k6, k7, k8, k9, k10, k11, k12, ShapeDemand, shape_number, shape_rank, place_rank, KeepsOfBook, KeepsOfStep, KeepsShape, KeepsShapeAt, IsWellShaped, IsWellShapedStep, workflow, K1, K2, K3, K4, K5, K6, K7, K8, K9, K10, K11, K12}
use Rattle.cacao_book_shape.specs.Refusals.{TellsShape}

-- ---- the rules of one place: all below a number are kept

below_book : (t : Data) (n : ℕ) → (1 < n → K1 t) → (2 < n → K2 t) → (3 < n → K3 t) → (4 < n → K4 t) → (other : ShapeRule) → shape_number other < n → KeepsOfBook other t
below_book t n h1 h2 h3 h4 k1 lt = h1 lt
below_book t n h1 h2 h3 h4 k2 lt = h2 lt
below_book t n h1 h2 h3 h4 k3 lt = h3 lt
below_book t n h1 h2 h3 h4 k4 lt = h4 lt
below_book t n h1 h2 h3 h4 k5 lt = tt
below_book t n h1 h2 h3 h4 k6 lt = tt
below_book t n h1 h2 h3 h4 k7 lt = tt
below_book t n h1 h2 h3 h4 k8 lt = tt
below_book t n h1 h2 h3 h4 k9 lt = tt
below_book t n h1 h2 h3 h4 k10 lt = tt
below_book t n h1 h2 h3 h4 k11 lt = tt
below_book t n h1 h2 h3 h4 k12 lt = tt

below_step : (s : Data) (n : ℕ) → (5 < n → K5 s) → (6 < n → K6 s) → (7 < n → K7 s) → (8 < n → K8 s) → (9 < n → K9 s) → (10 < n → K10 s) → (11 < n → K11 s) → (12 < n → K12 s) → (other : ShapeRule) → shape_number other < n → KeepsOfStep other s
below_step s n h5 h6 h7 h8 h9 h10 h11 h12 k1 lt = tt
below_step s n h5 h6 h7 h8 h9 h10 h11 h12 k2 lt = tt
below_step s n h5 h6 h7 h8 h9 h10 h11 h12 k3 lt = tt
below_step s n h5 h6 h7 h8 h9 h10 h11 h12 k4 lt = tt
below_step s n h5 h6 h7 h8 h9 h10 h11 h12 k5 lt = h5 lt
below_step s n h5 h6 h7 h8 h9 h10 h11 h12 k6 lt = h6 lt
below_step s n h5 h6 h7 h8 h9 h10 h11 h12 k7 lt = h7 lt
below_step s n h5 h6 h7 h8 h9 h10 h11 h12 k8 lt = h8 lt
below_step s n h5 h6 h7 h8 h9 h10 h11 h12 k9 lt = h9 lt
below_step s n h5 h6 h7 h8 h9 h10 h11 h12 k10 lt = h10 lt
below_step s n h5 h6 h7 h8 h9 h10 h11 h12 k11 lt = h11 lt
below_step s n h5 h6 h7 h8 h9 h10 h11 h12 k12 lt = h12 lt

abbrev pub FirstOfBook : Data → ℕ → Type 0
FirstOfBook t n = FirstRule shape_number (λ rule. KeepsOfBook rule t) (Some n)

pub first_k1 : (t : Data) → ¬ K1 t → FirstOfBook t 1
first_k1 t h = (k1, refl, h, below_book t 1 (λ lt. absurd (omega arith)) (λ lt. absurd (omega arith)) (λ lt. absurd (omega arith)) (λ lt. absurd (omega arith)))

pub first_k2 : (t : Data) → K1 t → ¬ K2 t → FirstOfBook t 2
first_k2 t h1 h = (k2, refl, h, below_book t 2 (λ _. h1) (λ lt. absurd (omega arith)) (λ lt. absurd (omega arith)) (λ lt. absurd (omega arith)))

pub first_k3 : (t : Data) → K1 t → K2 t → ¬ K3 t → FirstOfBook t 3
first_k3 t h1 h2 h = (k3, refl, h, below_book t 3 (λ _. h1) (λ _. h2) (λ lt. absurd (omega arith)) (λ lt. absurd (omega arith)))

pub first_k4 : (t : Data) → K1 t → K2 t → K3 t → ¬ K4 t → FirstOfBook t 4
first_k4 t h1 h2 h3 h = (k4, refl, h, below_book t 4 (λ _. h1) (λ _. h2) (λ _. h3) (λ lt. absurd (omega arith)))

abbrev pub FirstOfStep : Data → ℕ → Type 0
FirstOfStep s n = FirstRule shape_number (λ rule. KeepsOfStep rule s) (Some n)

pub first_k5 : (s : Data) → ¬ K5 s → FirstOfStep s 5
first_k5 s h = (k5, refl, h, below_step s 5 (λ lt. absurd (omega arith)) (λ lt. absurd (omega arith)) (λ lt. absurd (omega arith)) (λ lt. absurd (omega arith)) (λ lt. absurd (omega arith)) (λ lt. absurd (omega arith)) (λ lt. absurd (omega arith)) (λ lt. absurd (omega arith)))

pub first_k6 : (s : Data) → K5 s → ¬ K6 s → FirstOfStep s 6
first_k6 s h5 h = (k6, refl, h, below_step s 6 (λ _. h5) (λ lt. absurd (omega arith)) (λ lt. absurd (omega arith)) (λ lt. absurd (omega arith)) (λ lt. absurd (omega arith)) (λ lt. absurd (omega arith)) (λ lt. absurd (omega arith)) (λ lt. absurd (omega arith)))

pub first_k7 : (s : Data) → K5 s → K6 s → ¬ K7 s → FirstOfStep s 7
first_k7 s h5 h6 h = (k7, refl, h, below_step s 7 (λ _. h5) (λ _. h6) (λ lt. absurd (omega arith)) (λ lt. absurd (omega arith)) (λ lt. absurd (omega arith)) (λ lt. absurd (omega arith)) (λ lt. absurd (omega arith)) (λ lt. absurd (omega arith)))

pub first_k8 : (s : Data) → K5 s → K6 s → K7 s → ¬ K8 s → FirstOfStep s 8
first_k8 s h5 h6 h7 h = (k8, refl, h, below_step s 8 (λ _. h5) (λ _. h6) (λ _. h7) (λ lt. absurd (omega arith)) (λ lt. absurd (omega arith)) (λ lt. absurd (omega arith)) (λ lt. absurd (omega arith)) (λ lt. absurd (omega arith)))

pub first_k9 : (s : Data) → K5 s → K6 s → K7 s → K8 s → ¬ K9 s → FirstOfStep s 9
first_k9 s h5 h6 h7 h8 h = (k9, refl, h, below_step s 9 (λ _. h5) (λ _. h6) (λ _. h7) (λ _. h8) (λ lt. absurd (omega arith)) (λ lt. absurd (omega arith)) (λ lt. absurd (omega arith)) (λ lt. absurd (omega arith)))

pub first_k10 : (s : Data) → K5 s → K6 s → K7 s → K8 s → K9 s → ¬ K10 s → FirstOfStep s 10
first_k10 s h5 h6 h7 h8 h9 h = (k10, refl, h, below_step s 10 (λ _. h5) (λ _. h6) (λ _. h7) (λ _. h8) (λ _. h9) (λ lt. absurd (omega arith)) (λ lt. absurd (omega arith)) (λ lt. absurd (omega arith)))

pub first_k11 : (s : Data) → K5 s → K6 s → K7 s → K8 s → K9 s → K10 s → ¬ K11 s → FirstOfStep s 11
first_k11 s h5 h6 h7 h8 h9 h10 h = (k11, refl, h, below_step s 11 (λ _. h5) (λ _. h6) (λ _. h7) (λ _. h8) (λ _. h9) (λ _. h10) (λ lt. absurd (omega arith)) (λ lt. absurd (omega arith)))

pub first_k12 : (s : Data) → K5 s → K6 s → K7 s → K8 s → K9 s → K10 s → K11 s → ¬ K12 s → FirstOfStep s 12
first_k12 s h5 h6 h7 h8 h9 h10 h11 h = (k12, refl, h, below_step s 12 (λ _. h5) (λ _. h6) (λ _. h7) (λ _. h8) (λ _. h9) (λ _. h10) (λ _. h11) (λ lt. absurd (omega arith)))

pub keeps_step : (s : Data) → K5 s → K6 s → K7 s → K8 s → K9 s → K10 s → K11 s → K12 s → (rule : ShapeRule) → KeepsOfStep rule s
keeps_step s h5 h6 h7 h8 h9 h10 h11 h12 k1 = tt
keeps_step s h5 h6 h7 h8 h9 h10 h11 h12 k2 = tt
keeps_step s h5 h6 h7 h8 h9 h10 h11 h12 k3 = tt
keeps_step s h5 h6 h7 h8 h9 h10 h11 h12 k4 = tt
keeps_step s h5 h6 h7 h8 h9 h10 h11 h12 k5 = h5
keeps_step s h5 h6 h7 h8 h9 h10 h11 h12 k6 = h6
keeps_step s h5 h6 h7 h8 h9 h10 h11 h12 k7 = h7
keeps_step s h5 h6 h7 h8 h9 h10 h11 h12 k8 = h8
keeps_step s h5 h6 h7 h8 h9 h10 h11 h12 k9 = h9
keeps_step s h5 h6 h7 h8 h9 h10 h11 h12 k10 = h10
keeps_step s h5 h6 h7 h8 h9 h10 h11 h12 k11 = h11
keeps_step s h5 h6 h7 h8 h9 h10 h11 h12 k12 = h12

-- ---- the walk

-- no rule of the book is broken
abbrev pub KeepsBook : Data → Type 0
KeepsBook t = (rule : ShapeRule) → KeepsOfBook rule t

-- all rules at all places before this one are kept
abbrev pub KeptTo : List (List ℕ × Data) → ℕ → Type 0
KeptTo steps i = (place : ℕ) (rule : ShapeRule) → place < i → IfSome (slice_get steps place) (λ step. KeepsOfStep rule step.1)

abbrev pub NamesLeast : Data → Option (List ℕ) → ℕ → Type 0
NamesLeast t step n = (demand : ShapeDemand) × TellsShape t step n demand × IsLeastBreak shape_rank (KeepsShape t) demand

none_before : (t : Data) (n : ℕ) → ((other : ShapeRule) → shape_number other < n → KeepsOfBook other t) → (step : Option ℕ) (rule : ShapeRule) → Before (place_rank step ∷ shape_number rule ∷ []) (0 ∷ n ∷ []) → KeepsShapeAt t rule step
none_before t n rules (Some place) rule before = elim before [ inl lt ↦ absurd (omega arith) | inr same ↦ absurd (omega (arith, same.0)) ]
none_before t n rules None rule before = elim before [ inl lt ↦ absurd (omega arith) | inr same ↦ elim same.1 [ inl lower ↦ rules rule lower | inr no_more ↦ absurd no_more.1 ] ]

-- a break of the book is the least
pub book_is_least : (t : Data) (n : ℕ) → FirstOfBook t n → NamesLeast t None n
book_is_least t n found =
    let demand : ShapeDemand = record { step = None; rule = found.0 } in (
      demand,
      (refl, sym found.1),
      record { is_broken = found.2; earlier = λ d before. none_before t n found.3 d.step d.rule (rw found.1 at before) },
    )

kept_here : (steps : List (List ℕ × Data)) (i place : ℕ) (s : List ℕ × Data) (rule : ShapeRule) → slice_get steps i ≡ Some s → place ≡ i → KeepsOfStep rule s.1 → IfSome (slice_get steps place) (λ step. KeepsOfStep rule step.1)
kept_here steps i place s rule at e k = rw (e, at) k

earlier_kept : (t : Data) (i n : ℕ) (s : List ℕ × Data) → slice_get (workflow t) i ≡ Some s → KeepsBook t → KeptTo (workflow t) i → ((other : ShapeRule) → shape_number other < n → KeepsOfStep other s.1) → (step : Option ℕ) (rule : ShapeRule) → Before (place_rank step ∷ shape_number rule ∷ []) (suc i ∷ n ∷ []) → KeepsShapeAt t rule step
earlier_kept t i n s at book kept rules None rule before = book rule
earlier_kept t i n s at book kept rules (Some place) rule before = elim before [
  | inl lt ↦ kept place rule (omega arith)
  | inr same ↦ elim same.1 [ inl lower ↦ kept_here (workflow t) i place s rule at (omega (arith, same.0)) (rules rule lower) | inr no_more ↦ absurd no_more.1 ]
]

-- the first break of the walk is the least
pub step_is_least : (t : Data) (i n : ℕ) (s : List ℕ × Data) → slice_get (workflow t) i ≡ Some s → KeepsBook t → KeptTo (workflow t) i → FirstOfStep s.1 n → NamesLeast t (Some s.0) n
step_is_least t i n s at book kept found =
    let demand : ShapeDemand = record { step = Some i; rule = found.0 } in (
      demand,
      (rw at refl, sym found.1),
      record {
        is_broken = λ k. found.2 (rw at at k);
        earlier = λ d before. earlier_kept t i n s at book kept found.3 d.step d.rule (rw found.1 at before);
      },
    )

-- one more place
pub KeptTo-more : (steps : List (List ℕ × Data)) (i : ℕ) (s : List ℕ × Data) → slice_get steps i ≡ Some s → KeptTo steps i → ((rule : ShapeRule) → KeepsOfStep rule s.1) → KeptTo steps (i + 1)
KeptTo-more steps i s at kept all place rule lt = elim (cases_lt place i) [ inl before ↦ kept place rule before | inr here ↦ kept_here steps i place s rule at (omega arith) (all rule) ]

past : {X : Type 0} (xs : List X) (i : ℕ) → length xs ≤ i → slice_get xs i ≡ None
past [] i h = refl
past (x ∷ xs) zero h = absurd (omega arith)
past (x ∷ xs) (suc i) h = past xs i (omega arith)

-- what was read at a place, seen by f
pub read_mapped : {X Y : Type 0} (f : X → Y) (xs : List X) (i : ℕ) (x : X) → i < length xs → x ≡ get_or xs i x → slice_get (map f xs) i ≡ Some (f x)
read_mapped f [] i x lt at = absurd (omega arith)
read_mapped f (y ∷ ys) zero x lt at = ap (λ z. Some (f z)) (sym at)
read_mapped f (y ∷ ys) (suc i) x lt at = read_mapped f ys i x (omega arith) at

pub no_more : {X Y : Type 0} (f : X → Y) (xs : List X) (i : ℕ) → length xs ≤ i → length (map f xs) ≤ i
no_more f [] i h = omega arith
no_more f (x ∷ xs) zero h = absurd (omega arith)
no_more f (x ∷ xs) (suc i) h = let r : length (map f xs) ≤ i = no_more f xs i (omega arith) in omega arith

-- all places
pub all_kept : (t : Data) (i : ℕ) → length (workflow t) ≤ i → KeepsBook t → KeptTo (workflow t) i → IsWellShaped t
all_kept t i over book kept demand = kept_at t i over book kept demand.step demand.rule
  where
    kept_at : (t : Data) (i : ℕ) → length (workflow t) ≤ i → KeepsBook t → KeptTo (workflow t) i → (step : Option ℕ) (rule : ShapeRule) → KeepsShapeAt t rule step
    kept_at t i over book kept None rule = book rule
    kept_at t i over book kept (Some place) rule = elim (cases_lt place i) [ inl lt ↦ kept place rule lt | inr ge ↦ rw (past (workflow t) place (omega arith)) tt ]

-- the step at a place breaks no rule
pub step_shaped : (t : Data) (i : ℕ) (s : List ℕ × Data) → IsWellShaped t → slice_get (workflow t) i ≡ Some s → IsWellShapedStep s.1
step_shaped t i s h at rule = rw at at (h (record { step = Some i; rule = rule }))
