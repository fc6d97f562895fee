-- Promise: The grammar of conditions, as a relation between a tree and a text.
use Rattle.std.specs.Prelude.{◌≡◌, ◌⊎◌, ℕ, ◌<◌, ◌==◌, ◌||◌, true, false, IsTrue, List, [], ◌∷◌, ◌++◌, length, codes, FitsSigned, if◌then◌else◌}
use Rattle.std.specs.Fmt.{signed_decimal}
use Rattle.std.specs.Int.{w64}
use Rattle.std.specs.List.{list_all}
use Rattle.std.specs.Str.{IsUtf8}
use Rattle.cacao_vars.specs.Names.{IsName}
use Rattle.cacao_vars.specs.References.{reference_text}
use Rattle.cacao_cond.specs.declared.trees.Op.{Op}
use Rattle.cacao_cond.specs.declared.trees.Op.TheVariants.{Equal, Unequal, Less, AtMost, More, AtLeast}
use Rattle.cacao_cond.specs.declared.trees.Constant.{Constant}
use Rattle.cacao_cond.specs.declared.trees.Constant.TheVariants.{Whole, Flag, Text}
use Rattle.cacao_cond.specs.Trees.{ConstantTree, AnyTree, AllTree, PrimeTree}
use Rattle.cacao_cond.specs.Trees.ConstantTree.{last_constant, more_constants}
use Rattle.cacao_cond.specs.Trees.AnyTree.{last_part, or_else}
use Rattle.cacao_cond.specs.Trees.AllTree.{last_prime, and_also}
use Rattle.cacao_cond.specs.Trees.PrimeTree.{group, compared, among}

-- any number of spaces, and one or more
abbrev pub IsSpaces : List ℕ → Type 0
IsSpaces text = IsTrue (list_all (λ c. c == 32) text)

abbrev pub IsGap : List ℕ → Type 0
IsGap text = (0 < length text) × IsSpaces text

abbrev pub SpellsOp : Op → List ℕ → Type 0
SpellsOp Equal text = (text ≡ codes "=") ⊎ (text ≡ codes "==")
SpellsOp Unequal text = (text ≡ codes "!=") ⊎ (text ≡ codes "<>")
SpellsOp Less text = text ≡ codes "<"
SpellsOp AtMost text = text ≡ codes "<="
SpellsOp More text = text ≡ codes ">"
SpellsOp AtLeast text = text ≡ codes ">="

-- a text between quotation marks: a backslash stands before each `'` and each backslash
abbrev pub escaped : List ℕ → List ℕ
escaped [] = []
escaped (c ∷ cs) = if (c == 39) || (c == 92) then 92 ∷ c ∷ escaped cs else c ∷ escaped cs

-- a whole number of 64 bits as it is printed, a flag, or a quoted text of characters in UTF-8
abbrev pub SpellsConstant : Constant → List ℕ → Type 0
SpellsConstant (Whole z) text = FitsSigned w64 z × (text ≡ signed_decimal z)
SpellsConstant (Flag true) text = text ≡ codes "true"
SpellsConstant (Flag false) text = text ≡ codes "false"
SpellsConstant (Text word) text = IsUtf8 word × (text ≡ 39 ∷ escaped word ++ 39 ∷ [])

-- constants with commas between them
abbrev pub SpellsConstants : ConstantTree → List ℕ → Type 0
SpellsConstants (last_constant constant) text = SpellsConstant constant text
SpellsConstants (more_constants constant rest) text =
    (first before after others : List ℕ) × SpellsConstant constant first × IsSpaces before × IsSpaces after
    × SpellsConstants rest others
    × (text ≡ first ++ (before ++ (codes "," ++ (after ++ others))))

abbrev mutual
  -- parts with `OR` between them
  pub SpellsAny : AnyTree → List ℕ → Type 0
  SpellsAny (last_part part) text = SpellsAll part text
  SpellsAny (or_else part rest) text =
      (first before after others : List ℕ) × SpellsAll part first × IsGap before × IsGap after × SpellsAny rest others
      × (text ≡ first ++ (before ++ (codes "OR" ++ (after ++ others))))

  -- parts with `AND` between them
  pub SpellsAll : AllTree → List ℕ → Type 0
  SpellsAll (last_prime prime) text = SpellsPrime prime text
  SpellsAll (and_also prime rest) text =
      (first before after others : List ℕ) × SpellsPrime prime first × IsGap before × IsGap after × SpellsAll rest others
      × (text ≡ first ++ (before ++ (codes "AND" ++ (after ++ others))))

  -- a condition in parentheses, a comparison, or `IN` and constants in parentheses
  pub SpellsPrime : PrimeTree → List ℕ → Type 0
  SpellsPrime (group any) text =
      (before inner after : List ℕ) × IsSpaces before × SpellsAny any inner × IsSpaces after
      × (text ≡ codes "(" ++ (before ++ (inner ++ (after ++ codes ")"))))
  SpellsPrime (compared name op constant) text =
      (before sign after value : List ℕ) × IsName name × IsSpaces before × SpellsOp op sign × IsSpaces after
      × SpellsConstant constant value
      × (text ≡ reference_text name ++ (before ++ (sign ++ (after ++ value))))
  SpellsPrime (among name constants) text =
      (before open_before open_after list close : List ℕ) × IsName name × IsGap before × IsSpaces open_before
      × IsSpaces open_after × SpellsConstants constants list × IsSpaces close
      × (text ≡ reference_text name
      ++ (before ++ (codes "IN" ++ (open_before ++ (codes "(" ++ (open_after ++ (list ++ (close ++ codes ")"))))))))

-- a condition: its parts, with spaces before and after
abbrev pub Spells : AnyTree → List ℕ → Type 0
Spells tree text =
    (before inner after : List ℕ) × IsSpaces before × SpellsAny tree inner × IsSpaces after × (text ≡ before ++ (inner ++ after))

-- a text spells at most one condition
abbrev pub SpellsAtMostOne : Type 0
SpellsAtMostOne = (one other : AnyTree) (text : List ℕ) → Spells one text → Spells other text → one ≡ other
