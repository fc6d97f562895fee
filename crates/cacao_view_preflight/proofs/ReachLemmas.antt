-- The marks of the steps that are reached, from the surveys of playbooks.
use Rattle.std.proofs.Common.{◌≡◌, refl, sym, ap, subst, arith, ℕ, zero, suc, ◌<◌, List, [], ◌∷◌, length, map, get_or, Some, None}
use Rattle.std.specs.Prelude.{slice_get, slice_index_or}
use Rattle.cacao_book.specs.declared.books.Book.{Book}
use Rattle.cacao_check_regions.specs.declared.surveys.Survey.{Survey}
use Rattle.cacao_check_regions.specs.Charts.{AreMarksOf}
use Rattle.cacao_check_regions.specs.Surveys.{AreSurveysOf}
use Rattle.cacao_view_preflight.specs.Warnings.{AreReached, IsReached}

-- what is made of the item at a place
pub index_mapped : {A B : Type 0} (f : A → B) (xs : List A) (n : ℕ) (d : B) (x : A) → n < length xs → slice_index_or (map f xs) n d ≡ f (get_or xs n x)
index_mapped f [] n d x lt = absurd (omega (arith, lt))
index_mapped f (y ∷ xs) zero d x lt = refl
index_mapped f (y ∷ xs) (suc n) d x lt = index_mapped f xs n d x (omega (arith, lt))

index_got : {A B : Type 0} (f : A → B) (xs : List A) (n : ℕ) (d : B) (x : A) → slice_get xs n ≡ Some x → slice_index_or (map f xs) n d ≡ f x
index_got f [] n d x e = absurd (let no : None ≡ Some x = e in cc)
index_got f (y ∷ xs) zero d x e = ap f (let same : Some y ≡ Some x = e in cc)
index_got f (y ∷ xs) (suc n) d x e = index_got f xs n d x e

beside : {A B : Type 0} (xs : List A) (ys : List B) (n : ℕ) (y : B) → length xs ≡ length ys → slice_get ys n ≡ Some y → (x : A) × (slice_get xs n ≡ Some x)
beside xs [] n y len e = absurd (let no : None ≡ Some y = e in cc)
beside [] (z ∷ ys) n y len e = absurd (omega (arith, len))
beside (x ∷ xs) (z ∷ ys) zero y len e = (x, refl)
beside (x ∷ xs) (z ∷ ys) (suc n) y len e = beside xs ys n y (omega (arith, len)) e

pub reached_all : (books : List Book) (surveys : List Survey) → AreSurveysOf books surveys → AreReached books (map (λ survey. survey.chart.reach) surveys)
reached_all books surveys h n book there =
    let found = beside surveys books n book h.len there in
    subst (AreMarksOf (IsReached book)) (sym (index_got (λ (survey : Survey). survey.chart.reach) surveys n [] found.0 found.1)) (h.each n book found.0 there found.1).chart.reach_are
