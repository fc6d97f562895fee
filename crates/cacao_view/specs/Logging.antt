-- Promise: What is told of the records in a file of the shelf.
use Rattle.std.specs.Prelude.{◌≡◌, ◌⊎◌, ℕ, Bool, true, false, List, [], ◌∷◌, Result, Ok, Err}
use Rattle.flow_engine_reports.specs.RunFiles.{IsDamaged, IsTooLarge}
use Rattle.cacao_cli_ends.specs.Ends.{End, damaged, done, no_memory, past}
use Rattle.cacao_cli_ends.specs.Files.{NamedText, ReadsTo, ShelfCall, journal_file}
use Rattle.cacao_cli_ends.specs.declared.limit.Limit.TheVariants.{TaskCount}
use Rattle.cacao_view_log.specs.Logs.{HoldsLog}
use Rattle.cacao_view_log.specs.declared.form.Form.{Form}
use Rattle.cacao_view_log.specs.declared.form.Form.TheVariants as form
use Rattle.cacao_view_words.specs.Texts.{Text}

-- objects where JSON is asked for, else lines
abbrev pub form_of : Bool → Form
form_of true = form.Object
form_of false = form.Line

-- the records in the image of an engine's file; or why it tells none; or memory was wanted
abbrev pub LogsImage : Form → List ℕ → List Text → End → Type 0
LogsImage form image lines end =
    (HoldsLog form image lines × (end ≡ done))
    ⊎ ((lines ≡ []) × (((place : ℕ) × IsDamaged image place × (end ≡ damaged 0 place))
    ⊎ ((IsTooLarge image × (end ≡ past TaskCount)) ⊎ (end ≡ no_memory))))

-- or why the file gave no bytes
abbrev pub LogsRead : Form → Result (List NamedText) End → List Text → End → Type 0
LogsRead form (Err why) lines end = (lines ≡ []) × (end ≡ why)
LogsRead form (Ok []) lines end = ⊥
LogsRead form (Ok (text ∷ more)) lines end = LogsImage form text.bytes lines end

-- the file of this name was read as `cacao audit` reads it, and this is what is told
pub record LogsFile (form : Form) (name : Text) (shelf : ShelfCall) (lines : List Text) (end : End) : Type 0 where
  pub read : Result (List NamedText) End
  pub reads : ReadsTo shelf (journal_file name ∷ []) read
  pub logs : LogsRead form read lines end
