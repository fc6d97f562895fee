-- Promise: What is told of playbooks that are drawn.
use Rattle.std.specs.Prelude.{◌≡◌, ◌⊎◌, List, [], Result, Ok, Err}
use Rattle.serde_json.specs.Data.{Data}
use Rattle.cacao_check.specs.FirstBreak.{IsAccepted, IsFirstBreak}
use Rattle.cacao_check.specs.declared.breaks.Break.{Break}
use Rattle.cacao_check.specs.declared.breaks.Mode.TheVariants.{Read}
use Rattle.cacao_cli_ends.specs.Ends.{End, done, no_memory, refused}
use Rattle.cacao_cli_ends.specs.Files.{NamedText, ShelfCall}
use Rattle.cacao_cli_ends.specs.Work.{trees_of}
use Rattle.cacao_view_graph.specs.Pictures.{IsPicture}
use Rattle.cacao_view_words.specs.Texts.{Text}
use Rattle.cacao_view.specs.BookReading.{ReadsBooks}

-- the picture of the playbooks with these trees, where they are accepted as `cacao check` judges them; else nothing but their first break
abbrev pub PicturesOf : List Data → List Text → End → Type 0
PicturesOf trees lines end =
    (IsAccepted trees Read × IsPicture trees lines × (end ≡ done))
    ⊎ ((broken : Break) × IsFirstBreak trees Read broken × (lines ≡ []) × (end ≡ refused broken))

-- a text that has no tree
abbrev pub PicturesRead : Result (List Data) End → List Text → End → Type 0
PicturesRead (Ok trees) lines end = PicturesOf trees lines end
PicturesRead (Err why) lines end = (lines ≡ []) × (end ≡ why)

-- the picture of the playbooks with these texts
abbrev pub Pictures : List NamedText → List Text → End → Type 0
Pictures texts = PicturesRead (trees_of texts)

-- or memory was wanted
abbrev pub WantsMemory : List Text → End → Type 0
WantsMemory lines end = (lines ≡ []) × (end ≡ no_memory)

abbrev pub DrawsTexts : List NamedText → List Text → End → Type 0
DrawsTexts texts lines end = Pictures texts lines end ⊎ WantsMemory lines end

abbrev pub DrawsTrees : List Data → List Text → End → Type 0
DrawsTrees trees lines end = PicturesOf trees lines end ⊎ WantsMemory lines end

-- the files of these names were read, and this is what is told
abbrev pub Draws : List Text → ShelfCall → List Text → End → Type 0
Draws books = ReadsBooks DrawsTexts books books
