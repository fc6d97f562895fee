-- What is told of a name, from what was found of it.
use Rattle.std.proofs.Common.{◌≡◌, ◌∙◌, refl, sym, ap, ℕ, ◌<◌, true, List, length, get_or, Option, Some, None, IfSome, slice_get}
use Rattle.std.proofs.lemmas.Bool.{false≢true}
use Rattle.std.proofs.lemmas.Option.{slice_get_read}
use Rattle.cacao_vars.specs.declared.declarations.Var.{Var}
use Rattle.cacao_book.specs.declared.books.Book.{Book}
use Rattle.cacao_book.specs.declared.steps.Step.{Step}
use Rattle.cacao_check_steps.specs.Uses.{out_args_of}
use Rattle.cacao_check_regions.specs.declared.flaws.Flaw.TheVariants as flaw
use Rattle.cacao_check_regions.specs.Flaws.{SeesFlaw, is_flawed}
use Rattle.cacao_check_regions.specs.Regions.{Sees}
use Rattle.cacao_view_words.specs.Texts.{Text}
use Rattle.cacao_view_explain.specs.Naming.{IsMisfit, IsMisfitResult}

-- what holds of the name that was found
pub of_found : (P Q : Text → Type 0) (found : Option Text) → ((name : Text) → P name → Q name) → IfSome found P → IfSome found Q
of_found P Q None weaker h = tt
of_found P Q (Some name) weaker h = weaker name h

-- there may be no declaration
pub sees_none : (book : Book) (place : ℕ) (name : Text) → SeesFlaw book name flaw.Missing place → Sees book name place None
sees_none book place name found = by_cases found.0 found.1 found.2
  where
    by_cases : (seen : Option Var) → Sees book name place seen → is_flawed flaw.Missing seen ≡ true → Sees book name place None
    by_cases None sees e = sees
    by_cases (Some var) sees e = absurd (false≢true e)

-- the result of this number
pub misfit_at : (book : Book) (place : ℕ) (step : Step) (outs : List Text) (number : ℕ) (name says : Text) → outs ≡ out_args_of step.kind → number < length outs → name ≡ get_or outs number name
    → IsMisfit book place step number name says → IsMisfitResult book place step number name says
misfit_at book place step outs number name says same lt at misfit =
    record { result = ap (λ (l : List Text). slice_get l number) (sym same) ∙ slice_get_read outs (length outs) number name refl lt at; misfit = misfit }
