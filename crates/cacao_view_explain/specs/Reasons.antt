-- Promise: What is told of a text that has no tree, by the reason.
use Rattle.std.specs.Prelude.{◌≡◌, ◌⊎◌, ℕ, List, [], ◌∷◌}
use Rattle.cacao_json.specs.declared.error.JsonError.{JsonError}
use Rattle.cacao_json.specs.declared.error.JsonError.TheVariants.{NotJson, RepeatedName, NotWhole, Memory}
use Rattle.cacao_cli_ends.specs.Files.{NamedText}
use Rattle.cacao_view_words.specs.Texts.{Text}
use Rattle.cacao_view_faults.specs.Kinds.{IsFaultAt, IsOfNoKind}
use Rattle.cacao_view_faults.specs.Tokens.{IsBrokenNumber, IsTwice}
use Rattle.cacao_view_explain.specs.Lines.{text_line, told_line}

-- one line, without a place; the words are not those of what stands at one
pub record TellsNoPlace (text : NamedText) (lines : List Text) : Type 0 where
  pub what : Text
  pub plain : IsOfNoKind what
  pub are : lines ≡ text_line text.name what ∷ []

-- where a text is not JSON: all before the place is good, and the words are those of what stands there
pub record TellsFaultAt (text : NamedText) (lines : List Text) : Type 0 where
  pub at : ℕ
  pub what : Text
  pub fault : IsFaultAt text.bytes at what
  pub are : lines ≡ told_line text at what ∷ []

-- both places of a name that stands twice in one object
pub record TellsTwice (text : NamedText) (lines : List Text) : Type 0 where
  pub first : ℕ
  pub second : ℕ
  pub twice : IsTwice text.bytes first second
  pub here : Text
  pub there : Text
  pub are : lines ≡ told_line text first here ∷ told_line text second there ∷ []

-- where the number of this number stands, which is not whole
pub record TellsNumber (text : NamedText) (number : ℕ) (lines : List Text) : Type 0 where
  pub at : ℕ
  pub broken : IsBrokenNumber text.bytes number at
  pub what : Text
  pub are : lines ≡ told_line text at what ∷ []

-- nothing is told where memory was wanted
abbrev pub TellsReason : NamedText → JsonError → List Text → Type 0
TellsReason text NotJson lines = TellsFaultAt text lines ⊎ TellsNoPlace text lines
TellsReason text (RepeatedName colons members) lines = TellsTwice text lines ⊎ TellsNoPlace text lines
TellsReason text (NotWhole index) lines = TellsNumber text index lines ⊎ TellsNoPlace text lines
TellsReason text Memory lines = ⊥
