-- Promise: What may be said of a break of a rule on the names of a step: of a name no more than holds of it.
use Rattle.std.specs.Prelude.{◌≡◌, ◌⊎◌, ◌==◌, ◌||◌, ℕ, Bool, true, false, Option, Some, None, is_some, option_and_then, slice_get, if◌then◌else◌}
use Rattle.std.specs.List.{list_any}
use Rattle.serde_json.specs.Data.{Data}
use Rattle.cacao_vars.specs.Declarations.{declared}
use Rattle.cacao_book.specs.declared.books.Book.{Book}
use Rattle.cacao_book.specs.declared.steps.Step.{Step}
use Rattle.cacao_book.specs.Books.{book}
use Rattle.cacao_book.specs.Steps.{place_of}
use Rattle.cacao_check_steps.specs.Uses.{Uses, is_action, out_args_of}
use Rattle.cacao_check_regions.specs.declared.flaws.Flaw.TheVariants as flaw
use Rattle.cacao_check_regions.specs.Flaws.{SeesFlaw}
use Rattle.cacao_check_regions.specs.Regions.{Sees}
use Rattle.cacao_check.specs.declared.breaks.Break.{Break}
use Rattle.cacao_view_words.specs.Texts.{Text}
use Rattle.cacao_view_explain.specs.Lines.{named_words}
use Rattle.cacao_view_explain.specs.declared.name_faults.TheConstants.{CONSTANT, ELSEWHERE, KIND, NOWHERE, NO_NAME, NO_RESULT}

-- ---- K22

-- the playbook, or one of its steps, declares the name
abbrev pub is_declared : Book → Text → Bool
is_declared book name = is_some (declared book.variables name) || list_any (λ step. is_some (declared step.variables name)) book.steps

abbrev pub undeclared_words : Bool → Text
undeclared_words true = ELSEWHERE.now
undeclared_words false = NOWHERE.now

-- the words are of a name that the step uses, and of which it may see that there is no declaration
pub record NamesUndeclared (book : Book) (place : ℕ) (step : Step) (what : Text) : Type 0 where
  pub name : Text
  pub uses : Uses step name
  pub unseen : Sees book name place None
  pub is : what ≡ named_words name (undeclared_words (is_declared book name))

-- ---- K23

-- what is wrong with a declaration of the name that the step may see, where the step writes its result of this number to it
pub data IsMisfit (book : Book) (place : ℕ) (step : Step) (number : ℕ) (name : Text) : Text → Type 0 where
  constant : SeesFlaw book name flaw.Constant place → IsMisfit book place step number name CONSTANT.now
  kind : is_action step.kind ≡ true → ¬ SeesFlaw book name flaw.Constant place → SeesFlaw book name (flaw.Unfit number) place
      → IsMisfit book place step number name KIND.now

-- the step writes its result of this number to the name, and this is wrong with that
pub record IsMisfitResult (book : Book) (place : ℕ) (step : Step) (number : ℕ) (name says : Text) : Type 0 where
  pub result : slice_get (out_args_of step.kind) number ≡ Some name
  pub misfit : IsMisfit book place step number name says

-- the words are of a name to which the step writes a result, and of what is wrong with that
pub record NamesMisfit (book : Book) (place : ℕ) (step : Step) (what : Text) : Type 0 where
  pub number : ℕ
  pub name : Text
  pub says : Text
  pub wrong : IsMisfitResult book place step number name says
  pub is : what ≡ named_words name says

-- ---- both

abbrev pub NamesWrong : ℕ → Book → ℕ → Step → Text → Type 0
NamesWrong rule book place step what =
    ((rule ≡ 22) × NamesUndeclared book place step what) ⊎ ((rule ≡ 23) × NamesMisfit book place step what)

-- what is said where no name is told
abbrev pub rule_words : ℕ → Text
rule_words rule = if rule == 22 then NO_NAME.now else NO_RESULT.now

-- of the step of a playbook with this key a name is told
pub record TellsName (book : Book) (key : Option Text) (rule : ℕ) (what : Text) : Type 0 where
  pub place : ℕ
  pub is_place : option_and_then (place_of book.steps) key ≡ Some place
  pub step : Step
  pub is_step : slice_get book.steps place ≡ Some step
  pub wrong : NamesWrong rule book place step what

-- K22 and K23 are of names
abbrev pub IsOfNames : ℕ → Type 0
IsOfNames rule = (rule ≡ 22) ⊎ (rule ≡ 23)

-- the words are those of the rule, or of a name of the step that breaks it
abbrev pub SaysOfName : Book → Option Text → ℕ → Text → Type 0
SaysOfName book key rule what = (what ≡ rule_words rule) ⊎ TellsName book key rule what

-- a break of a rule on names, in the playbook of this tree, is told so
abbrev pub SaysOfNames : Data → Break → Text → Type 0
SaysOfNames root broken what = IsOfNames broken.rule → SaysOfName (book root) broken.step broken.rule what
