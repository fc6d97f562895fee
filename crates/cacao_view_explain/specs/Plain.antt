-- Promise: Lines without control characters.
use Rattle.std.specs.Prelude.{◌≡◌, ◌⊎◌, true, false, ℕ, ◌==◌, ◌&&◌, nat_le, nat_lt, if◌then◌else◌, Bool, List, [], ◌∷◌, ◌++◌, map, slice_get, codes, Some, ⊤}
use Rattle.cacao_cli_ends.specs.Files.{NamedText}
use Rattle.cacao_view_words.specs.Rules.{book_lines}
use Rattle.cacao_view_words.specs.Texts.{Text}

-- a byte as it is shown: a blank for a control character (U+0000 to U+001F)
abbrev pub shown_byte : ℕ → ℕ
shown_byte byte = if nat_lt byte 32 then 32 else byte

abbrev pub shown : Text → Text
shown words = map shown_byte words

-- no control character but a line feed, and that at the end
abbrev pub is_plain_line : Text → Bool
is_plain_line [] = false
is_plain_line (c ∷ []) = c == 10
is_plain_line (c ∷ d ∷ cs) = nat_le 32 c && is_plain_line (d ∷ cs)

-- one of the texts, whose name stands behind the word `file`
pub record IsFileFront (texts : List NamedText) (front : Text) : Type 0 where
  pub number : ℕ
  pub text : NamedText
  pub there : slice_get texts number ≡ Some text
  pub is : front ≡ codes "file " ++ text.name

-- one line, with no control character but in the name of a file with which it begins
pub record IsLine (texts : List NamedText) (line : Text) : Type 0 where
  pub front : Text
  pub names : (front ≡ []) ⊎ IsFileFront texts front
  pub words : Text
  pub plain : is_plain_line words ≡ true
  pub is : line ≡ front ++ words

abbrev pub EachIsLine : List NamedText → List Text → Type 0
EachIsLine texts [] = ⊤
EachIsLine texts (line ∷ lines) = IsLine texts line × EachIsLine texts lines

-- such lines, and then the lines of a rule, or none
pub record AreLines (texts : List NamedText) (lines : List Text) : Type 0 where
  pub told : List Text
  pub each : EachIsLine texts told
  pub rule : List Text
  pub one : (rule ≡ []) ⊎ ((number : ℕ) × (rule ≡ book_lines number))
  pub are : lines ≡ told ++ rule
