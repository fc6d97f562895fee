-- Promise: What `explain` comes to, by the texts of playbooks: the end is that of `cacao check`, and the rule that is broken stands behind what is at fault.
use Rattle.std.specs.Prelude.{◌≡◌, ◌⊎◌, ℕ, List, [], ◌++◌, Result, Ok, Err}
use Rattle.serde_json.specs.Data.{Data}
use Rattle.cacao_check.specs.FirstBreak.{IsAccepted, IsFirstBreak}
use Rattle.cacao_check.specs.declared.breaks.Break.{Break}
use Rattle.cacao_check.specs.declared.breaks.Mode.TheVariants.{Read}
use Rattle.cacao_cli_ends.specs.Ends.{End, accepted, no_memory, refused}
use Rattle.cacao_cli_ends.specs.Files.{NamedText}
use Rattle.cacao_cli_ends.specs.Work.{trees_of}
use Rattle.cacao_view_words.specs.Rules.{book_lines}
use Rattle.cacao_view_words.specs.Texts.{Text}

-- what is at fault, and then the rule with this number
pub record TellsRule (rule : ℕ) (lines : List Text) : Type 0 where
  pub at_fault : List Text
  pub are : lines ≡ at_fault ++ book_lines rule

-- this is the first break of the playbooks with these trees, as `cacao check` names it, and its rule is told
pub record TellsBreak (roots : List Data) (lines : List Text) (end : End) : Type 0 where
  pub broken : Break
  pub first : IsFirstBreak roots Read broken
  pub ends : end ≡ refused broken
  pub tells : TellsRule broken.rule lines

-- the playbooks are accepted, and there is nothing to tell; or their first break is told; or memory was wanted
abbrev pub ExplainsTrees : List Data → List Text → End → Type 0
ExplainsTrees roots lines end =
    (IsAccepted roots Read × (lines ≡ []) × (end ≡ accepted))
    ⊎ (TellsBreak roots lines end ⊎ ((lines ≡ []) × (end ≡ no_memory)))

-- a text has no tree, and the end says why; the lines say where
abbrev pub ExplainsOf : Result (List Data) End → List Text → End → Type 0
ExplainsOf (Ok roots) lines end = ExplainsTrees roots lines end
ExplainsOf (Err why) lines end = (end ≡ why) ⊎ ((lines ≡ []) × (end ≡ no_memory))

abbrev pub Explains : List NamedText → List Text → End → Type 0
Explains texts lines end = ExplainsOf (trees_of texts) lines end
