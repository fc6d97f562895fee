-- No two playbooks or regions are one cluster.
use Rattle.std.proofs.Common.{◌≡◌, ◌≢◌, ℕ, suc, ◌<◌, ◌^◌, Bool, true, false, cond, List, [], ◌∷◌, ◌++◌, map, Option, Some, None, refl, sym, ap, arith}
use Rattle.std.specs.Prelude.{codes, decimal, filter}
use Rattle.std.specs.List.{AllByRecursion}
use Rattle.std.proofs.lemmas.Fmt.{decimal_injective}
use Rattle.std.proofs.lemmas.List.Elements.{All-head, All-tail}
use Rattle.std.proofs.lemmas.Option.{none-some}
use Rattle.serde_json.specs.Data.{Data}
use Rattle.cacao_book.specs.Books.{step_of}
use Rattle.cacao_book_shape.specs.Orders.{IsRising}
use Rattle.cacao_book_shape.specs.Shape.{workflow}
use Rattle.cacao_vars.specs.Declarations.{IsBefore}
use Rattle.cacao_view_graph.specs.Drawings.{branches}
use Rattle.cacao_view_graph.specs.Laws.{Area, AreApart, areas_from}
use Rattle.cacao_view_graph.specs.Statements.{cluster_text, place_text}
use Rattle.cacao_view_graph.proofs.ApartLemmas.{FromOn, IsSolid, apart_append, before_unlike, names_apart, number_apart, rising_steps, same_head, same_tail, solid_number, weaker}

abbrev Step : Type 0
Step = List ℕ × Data

-- ---- the control steps are rising as all steps are

each_kept : (P : Step → Type 0) (keeps : Step → Bool) (ms : List Step) → AllByRecursion P ms → AllByRecursion P (filter keeps ms)
each_kept P keeps [] h = tt
each_kept P keeps (m ∷ ms) h = by (keeps m) (each_kept P keeps ms h.1)
  where
    by : (b : Bool) → AllByRecursion P (filter keeps ms) → AllByRecursion P (cond b (m ∷ filter keeps ms) (filter keeps ms))
    by true rest = (h.0, rest)
    by false rest = rest

rising_kept : (keeps : Step → Bool) (ms : List Step) → IsRising ms → IsRising (filter keeps ms)
rising_kept keeps [] h = tt
rising_kept keeps (m ∷ ms) h = by (keeps m) (rising_kept keeps ms h.1)
  where
    by : (b : Bool) → IsRising (filter keeps ms) → IsRising (cond b (m ∷ filter keeps ms) (filter keeps ms))
    by true rest = (each_kept (λ later. IsBefore m.0 later.0) keeps ms h.0, rest)
    by false rest = rest

-- ---- areas are apart

abbrev controls : Step → Bool
controls m = branches (step_of m).kind

abbrev area_at : ℕ → Option (List ℕ) → Area
area_at number control = (number, control)

abbrev regions : ℕ → List Step → List Area
regions number ms = map (λ m. (number, Some m.0)) ms

inner : (a b : List ℕ) → Some a ≡ Some b → a ≡ b
inner a b e = cc

region_apart : (number : ℕ) (key : List ℕ) (ms : List Step) → AllByRecursion (λ later. IsBefore key later.0) ms → AllByRecursion (λ (y : Area). area_at number (Some key) ≢ y) (regions number ms)
region_apart number key [] h = tt
region_apart number key (later ∷ ms) h = (λ e. before_unlike key later.0 h.0 (inner key later.0 (ap (λ (a : Area). a.1) e)), region_apart number key ms h.1)

regions_apart : (number : ℕ) (ms : List Step) → IsRising ms → AreApart (regions number ms)
regions_apart number [] h = tt
regions_apart number (m ∷ ms) h = (region_apart number m.0 ms h.0, regions_apart number ms h.1)

-- a playbook is no region, and none of a later playbook
whole_apart : (number : ℕ) (ms : List Step) (more : List Area) → FromOn (suc number) more → AllByRecursion (λ (y : Area). area_at number None ≢ y) (regions number ms ++ more)
whole_apart number [] more h = number_apart (area_at number None) more h
whole_apart number (m ∷ ms) more h = (λ e. none-some m.0 (ap (λ (a : Area). a.1) e), whole_apart number ms more h)

regions_from : (number : ℕ) (ms : List Step) (more : List Area) → FromOn number more → FromOn number (regions number ms ++ more)
regions_from number [] more h = h
regions_from number (m ∷ ms) more h = (omega arith, regions_from number ms more h)

regions_between : (number : ℕ) (ms : List Step) (more : List Area) → FromOn (suc number) more → AllByRecursion (λ (x : Area). AllByRecursion (λ (y : Area). x ≢ y) more) (regions number ms)
regions_between number [] more h = tt
regions_between number (m ∷ ms) more h = (number_apart (area_at number (Some m.0)) more h, regions_between number ms more h)

later_areas : (number : ℕ) (ts : List Data) → FromOn number (areas_from number ts)
later_areas number [] = tt
later_areas number (t ∷ ts) =
    (omega arith, regions_from number (filter controls (workflow t)) (areas_from (suc number) ts) (weaker number (areas_from (suc number) ts) (later_areas (suc number) ts)))

apart_from : (number : ℕ) (ts : List Data) → AreApart (areas_from number ts)
apart_from number [] = tt
apart_from number (t ∷ ts) =
    let later : FromOn (suc number) (areas_from (suc number) ts) = later_areas (suc number) ts in
    let kept : List Step = filter controls (workflow t) in (
      whole_apart number kept (areas_from (suc number) ts) later,
      apart_append (regions number kept) (areas_from (suc number) ts) (regions_apart number kept (rising_kept controls (workflow t) (rising_steps t))) (apart_from (suc number) ts)
          (regions_between number kept (areas_from (suc number) ts) later),
    )

pub areas_apart : (trees : List Data) → AreApart (areas_from 0 trees)
areas_apart trees = apart_from 0 trees

-- ---- and so are their names

behind : (zs xs ys : List ℕ) → zs ++ xs ≡ zs ++ ys → xs ≡ ys
behind [] xs ys e = e
behind (z ∷ zs) xs ys e = behind zs xs ys (same_tail z z (zs ++ xs) (zs ++ ys) e)

no_space : (xs ys l : List ℕ) → IsSolid xs → xs ≡ ys ++ 32 ∷ l → ⊥
no_space [] [] l h e = absurd (cc)
no_space [] (y ∷ ys) l h e = absurd (cc)
no_space (x ∷ xs) [] l h e = All-head (λ b. b ≢ 32) x xs h (same_head x 32 xs l e)
no_space (x ∷ xs) (y ∷ ys) l h e = no_space xs ys l (All-tail (λ b. b ≢ 32) x xs h) (same_tail x y xs (ys ++ 32 ∷ l) e)

same_area : (m n : ℕ) (o p : Option (List ℕ)) → m ≡ n → o ≡ p → area_at m o ≡ area_at n p
same_area m n o p e f = cc

named : (m n : ℕ) (o p : Option (List ℕ)) → m < 2 ^ 32 → n < 2 ^ 32 → cluster_text m o ≡ cluster_text n p → area_at m o ≡ area_at n p
named m n None None small small' e =
    let wide : m < 2 ^ 64 = omega arith in
    let wide' : n < 2 ^ 64 = omega arith in
    same_area m n None None (decimal_injective m n wide wide' (behind (codes "cluster ") (decimal m) (decimal n) e)) refl
named m n None (Some l) small small' e =
    let wide : m < 2 ^ 64 = omega arith in
    absurd (no_space (decimal m) (decimal n) l (solid_number m wide) (behind (codes "cluster ") (decimal m) (place_text (n, l)) e))
named m n (Some k) None small small' e =
    let wide : n < 2 ^ 64 = omega arith in
    absurd (no_space (decimal n) (decimal m) k (solid_number n wide) (sym (behind (codes "cluster ") (place_text (m, k)) (decimal n) e)))
named m n (Some k) (Some l) small small' e =
    let same = names_apart (m, k) (n, l) small small' (behind (codes "cluster ") (place_text (m, k)) (place_text (n, l)) e) in
    same_area m n (Some k) (Some l) (ap (λ (p : ℕ × List ℕ). p.0) same) (ap (λ (p : ℕ × List ℕ). Some p.1) same)

pub areas_named_apart : (one other : Area) → one.0 < 2 ^ 32 → other.0 < 2 ^ 32 → cluster_text one.0 one.1 ≡ cluster_text other.0 other.1 → one ≡ other
areas_named_apart one other small small' e = named one.0 other.0 one.1 other.1 small small' e
