-- Promise: What the lines of `explain` tell: of a break of a rule the step and its name, the path, what is at fault and where it stands, and then the rule;
-- of a text that has no tree where it is wrong.
use Rattle.std.specs.Prelude.{◌≡◌, ◌⊎◌, List, [], ◌∷◌, ◌++◌, Option, Some, None, slice_get, Result, Ok, Err}
use Rattle.serde_json.specs.Data.{Data}
use Rattle.cacao_json.specs.Refusals.{answer}
use Rattle.cacao_json.specs.declared.error.JsonError.{JsonError}
use Rattle.cacao_check.specs.declared.breaks.Break.{Break}
use Rattle.cacao_cli_ends.specs.Ends.{End, no_memory, refused}
use Rattle.cacao_cli_ends.specs.Files.{NamedText}
use Rattle.cacao_cli_ends.specs.Work.{trees_of}
use Rattle.cacao_view_words.specs.Rules.{book_lines}
use Rattle.cacao_view_words.specs.Texts.{Text}
use Rattle.cacao_view_faults.specs.Stands.{LeadsOn}
use Rattle.cacao_view_explain.specs.Lines.{TellsPart, pointer_line, step_lines, step_pointer}
use Rattle.cacao_view_explain.specs.Naming.{SaysOfNames}
use Rattle.cacao_view_explain.specs.Plain.{AreLines}
use Rattle.cacao_view_explain.specs.Reasons.{TellsReason}

-- ---- a break of a rule

-- The step, if it is one's rule, with its name; a pointer (RFC 6901) that leads to a value in the text, which is the playbook, that step or a part
-- of it; and a line that tells what is wrong in these words, and where that value stands in the file, or no place.
pub record TellsFault (text : NamedText) (root : Data) (step : Option Text) (what : Text) (lines : List Text) : Type 0 where
  pub path : Text
  pub leads : LeadsOn text.bytes (step_pointer step) path
  pub part : Text
  pub tells : TellsPart text path what part
  pub are : lines ≡ step_lines step root ++ (pointer_line path ∷ part ∷ [])

-- what is at fault in the playbook that this break names, and then the rule; of names no more is told than holds of them
pub record TellsBroken (texts : List NamedText) (roots : List Data) (broken : Break) (lines : List Text) : Type 0 where
  pub text : NamedText
  pub text_is : slice_get texts broken.book ≡ Some text
  pub root : Data
  pub root_is : slice_get roots broken.book ≡ Some root
  pub what : Text
  pub says : SaysOfNames root broken what
  pub fault : List Text
  pub tells : TellsFault text root broken.step what fault
  pub are : lines ≡ fault ++ book_lines broken.rule

-- ---- a text that has no tree

-- a text, and why it has no tree
abbrev pub Unread : Type 0
Unread = NamedText × JsonError

abbrev pub unread_or : NamedText → Option Unread → Result Data JsonError → Option Unread
unread_or text next (Ok root) = next
unread_or text next (Err why) = Some (text, why)

-- the first of the texts that has no tree
abbrev pub first_unread : List NamedText → Option Unread
first_unread [] = None
first_unread (text ∷ texts) = unread_or text (first_unread texts) (answer text.bytes)

-- what is told of it, by the reason
abbrev pub TellsUnread : Option Unread → List Text → Type 0
TellsUnread None lines = lines ≡ []
TellsUnread (Some unread) lines = TellsReason unread.0 unread.1 lines

-- ---- both

-- where the playbooks are refused, their break is told; where a text has no tree, what is wrong in the first such, unless memory was wanted
abbrev pub TellsOf : Result (List Data) End → List NamedText → List Text → End → Type 0
TellsOf (Ok roots) texts lines end = (broken : Break) → end ≡ refused broken → TellsBroken texts roots broken lines
TellsOf (Err why) texts lines end = TellsUnread (first_unread texts) lines ⊎ (end ≡ no_memory)

-- and each is one line: no control character of a playbook stands in it
abbrev pub Tells : List NamedText → List Text → End → Type 0
Tells texts lines end = TellsOf (trees_of texts) texts lines end × AreLines texts lines
