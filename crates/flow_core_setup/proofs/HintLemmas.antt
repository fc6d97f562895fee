-- A step that is found where a hint says.
use Rattle.std.proofs.Common.{◌≡◌, ℕ, zero, suc, ◌<◌, Bool, true, false, List, [], ◌∷◌, length, get_or, Some, refl, sym, ◌∙◌, ap, arith, nat_cmp}
use Rattle.std.specs.Bool.{OnTrue}
use Rattle.std.specs.Str.{bytes_eq}
use Rattle.std.specs.Cmp.Lexicographic.{slice_cmp}
use Rattle.std.specs.Ordering.{is_eq}
use Rattle.std.specs.declared.cmp.Ordering.{Ordering}
use Rattle.std.specs.declared.cmp.Ordering.TheVariants.{Less, Equal, Greater}
use Rattle.std.proofs.lemmas.Bool.{false≢true}
use Rattle.std.proofs.lemmas.Map.Text.{is_eq-slice_cmp}
use Rattle.cacao_book.specs.declared.steps.Step.{Step}
use Rattle.cacao_book.specs.Steps.{IsInKeyOrder, place_of}
use Rattle.cacao_book.proofs.PlaceLemmas.{searched_some}

pub on_true : (b : Bool) (P : Type 0) → (b ≡ true → P) → OnTrue b P
on_true true P h = h refl
on_true false P h = tt

is_equal : (o : Ordering) → is_eq o ≡ true → o ≡ Equal
is_equal Less e = absurd (false≢true e)
is_equal Equal e = refl
is_equal Greater e = absurd (false≢true e)

got : (steps : List Step) (i : ℕ) (d step : Step) → i < length steps → step ≡ get_or steps i step → get_or steps i d ≡ step
got [] i d step lt e = absurd (omega arith)
got (s ∷ steps) zero d step lt e = sym e
got (s ∷ steps) (suc i) d step lt e = got steps i d step (omega arith) e

pub stands : (steps : List Step) (key : List ℕ) (i : ℕ) (step : Step) → IsInKeyOrder steps → i < length steps → step ≡ get_or steps i step → bytes_eq step.key key ≡ true
    → place_of steps key ≡ Some i
stands steps key i step order lt e same =
    searched_some steps key i order lt
    (λ d. ap (λ (s : Step). slice_cmp nat_cmp s.key key) (got steps i d step lt e) ∙ is_equal (slice_cmp nat_cmp step.key key) (is_eq-slice_cmp step.key key ∙ same))
