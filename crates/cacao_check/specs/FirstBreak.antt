-- Promise: The first break of playbooks, from their trees: the rules of shape of all books come before those of sense.
use Rattle.std.specs.Prelude.{◌≡◌, ℕ, ◌<◌, List, ◌∷◌, map, Option, Some, IfSome, option_and_then, slice_get, ⊤}
use Rattle.serde_json.specs.Data.{Data}
use Rattle.cacao_book_shape.specs.Least.{IsLeastBreak}
use Rattle.cacao_book_shape.specs.Shape.{ShapeDemand, shape_rank, shape_number, KeepsShape, IsWellShaped}
use Rattle.cacao_book_shape.specs.Refusals.{RefusesTree, key_at as key_in}
use Rattle.cacao_book_shape.specs.declared.refusals.BookError.{BookError}
use Rattle.cacao_book_shape.specs.declared.refusals.BookError.TheVariants as book_error
use Rattle.cacao_book.specs.Books.{book}
use Rattle.cacao_check.specs.declared.breaks.Mode.{Mode}
use Rattle.cacao_check.specs.declared.breaks.Break.{Break}
use Rattle.cacao_check.specs.declared.breaks.CheckError.{CheckError}
use Rattle.cacao_check.specs.declared.breaks.CheckError.TheVariants as check_error
use Rattle.cacao_check.specs.Sense.{SenseDemand, sense_rank, sense_number, KeepsSense}
use Rattle.cacao_check.specs.Checks.{key_at}

-- a demand of shape on the tree of a book, or one of sense on the books of all trees
pub data Demand : Type 0 where
  of_shape : ℕ → ShapeDemand → Demand
  of_sense : SenseDemand → Demand

-- what is asked of the shape of any book comes before what is asked of their sense
abbrev pub rank : Demand → List ℕ
rank (of_shape n demand) = 0 ∷ n ∷ shape_rank demand
rank (of_sense demand) = 1 ∷ sense_rank demand

abbrev pub Keeps : List Data → Mode → Demand → Type 0
Keeps trees mode (of_shape n demand) = IfSome (slice_get trees n) (λ t. KeepsShape t demand)
Keeps trees mode (of_sense demand) = KeepsSense (map book trees) mode demand

-- the book, the key of the step, and the number of the rule of a demand
abbrev pub book_of : Demand → ℕ
book_of (of_shape n demand) = n
book_of (of_sense demand) = demand.book

abbrev pub step_of : List Data → Demand → Option (List ℕ)
step_of trees (of_shape n demand) = option_and_then (λ t. key_in t demand.step) (slice_get trees n)
step_of trees (of_sense demand) = key_at (map book trees) demand.book demand.step

abbrev pub rule_of : Demand → ℕ
rule_of (of_shape n demand) = shape_number demand.rule
rule_of (of_sense demand) = sense_number demand.rule

-- the demand is the first that the trees break
abbrev pub IsFirstBroken : List Data → Mode → Demand → Type 0
IsFirstBroken trees mode = IsLeastBreak rank (Keeps trees mode)

-- the first break, as it is told
pub record IsFirstBreak (trees : List Data) (mode : Mode) (told : Break) : Type 0 where
  pub demand : Demand
  pub book : told.book ≡ book_of demand
  pub step : told.step ≡ step_of trees demand
  pub rule : told.rule ≡ rule_of demand
  pub least : IsFirstBroken trees mode demand

-- the trees break no rule
abbrev pub IsAccepted : List Data → Mode → Type 0
IsAccepted trees mode = (demand : Demand) → Keeps trees mode demand

-- why trees give no playbooks that break no rule: this is their first break; or memory was wanted
abbrev pub RefusesTrees : List Data → Mode → CheckError → Type 0
RefusesTrees trees mode (check_error.Broken told) = IsFirstBreak trees mode told
RefusesTrees trees mode check_error.Memory = ⊤

-- ---- rules of shape alone

-- each tree is well shaped, and those before one
abbrev pub AreWellShaped : List Data → Type 0
AreWellShaped trees = (n : ℕ) → IfSome (slice_get trees n) IsWellShaped

abbrev pub AreShapedBefore : List Data → ℕ → Type 0
AreShapedBefore trees n = (k : ℕ) (tree : Data) → k < n → slice_get trees k ≡ Some tree → IsWellShaped tree

-- the break tells of the first tree that is not well shaped, and of the first rule that is broken there
pub record BreaksShape (trees : List Data) (told : Break) : Type 0 where
  pub tree : Data
  pub tree_is : slice_get trees told.book ≡ Some tree
  pub earlier : AreShapedBefore trees told.book
  pub refused : RefusesTree tree (book_error.Shape told.step told.rule)

-- why trees give no playbooks
abbrev pub RefusesShapes : List Data → CheckError → Type 0
RefusesShapes trees (check_error.Broken told) = BreaksShape trees told
RefusesShapes trees check_error.Memory = ⊤

-- the refusal that the break of the tree with this number is
abbrev pub shape_error : ℕ → BookError → CheckError
shape_error book (book_error.Shape step rule) =
    check_error.Broken (record { book = book; step = step; rule = rule })
shape_error book book_error.Memory = check_error.Memory
