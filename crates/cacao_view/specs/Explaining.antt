-- Promise: What is told of the first break of playbooks.
use Rattle.std.specs.Prelude.{◌≡◌, ◌⊎◌, List, Result, Ok, Err}
use Rattle.serde_json.specs.Data.{Data}
use Rattle.cacao_check.specs.FirstBreak.{IsAccepted, IsFirstBreak}
use Rattle.cacao_check.specs.declared.breaks.Break.{Break}
use Rattle.cacao_check.specs.declared.breaks.Mode.TheVariants.{Read}
use Rattle.cacao_cli_ends.specs.Ends.{End, accepted, refused}
use Rattle.cacao_cli_ends.specs.Files.{NamedText, ShelfCall}
use Rattle.cacao_cli_ends.specs.Work.{trees_of}
use Rattle.cacao_view_explain.specs.Explains.{Explains}
use Rattle.cacao_view_explain.specs.Tells.{Tells}
use Rattle.cacao_view_words.specs.Texts.{Text}
use Rattle.cacao_view.specs.BookReading.{ReadsBooks}

-- the end of `cacao check`: the playbooks are accepted, or this is their first break
abbrev pub ChecksOf : List Data → End → Type 0
ChecksOf trees end =
    (IsAccepted trees Read × (end ≡ accepted)) ⊎ ((broken : Break) × IsFirstBreak trees Read broken × (end ≡ refused broken))

-- or a text has no tree
abbrev pub ChecksRead : Result (List Data) End → End → Type 0
ChecksRead (Ok trees) end = ChecksOf trees end
ChecksRead (Err why) end = end ≡ why

abbrev pub ChecksTo : List NamedText → List Text → End → Type 0
ChecksTo texts lines end = ChecksRead (trees_of texts) end

-- the end that the texts come to, and what is at fault
abbrev pub ExplainsTexts : List NamedText → List Text → End → Type 0
ExplainsTexts texts lines end = Explains texts lines end × Tells texts lines end

-- the files of these names were read, and this is what is told
abbrev pub ExplainsBooks : List Text → ShelfCall → List Text → End → Type 0
ExplainsBooks books = ReadsBooks ExplainsTexts books books
