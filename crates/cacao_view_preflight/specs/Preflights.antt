-- Promise: What `preflight` comes to, by the texts of its files: what `run` would end with before its first record, or what is warned of.
use Rattle.std.specs.Prelude.{◌≡◌, ◌⊎◌, ℕ, Bool, not, IsTrue, List, [], ◌∷◌, ◌++◌, length, map, codes, decimal, Result, Ok, Err, if◌then◌else◌}
use Rattle.serde_json.specs.Data.{Data, object, no_members}
use Rattle.cacao_check.specs.Fits.{FitsKind}
use Rattle.cacao_check.specs.declared.breaks.Break.{Break}
use Rattle.flow_core_rules.specs.Accepted.{Accepted}
use Rattle.flow_core_rules.specs.Givens.{Given}
use Rattle.flow_core.specs.SetupReading.{BreaksBindRule, BreaksRule}
use Rattle.flow_core_setup.specs.Setups.{AreAccepted}
use Rattle.cacao_cli_ends.specs.Ends.{End, bind_refused, done, no_memory, refused}
use Rattle.cacao_cli_ends.specs.Files.{NamedText}
use Rattle.cacao_cli_ends.specs.Work.{trees_of}
use Rattle.cacao_view_preflight.specs.Warnings.{AreWarnings, Text}

-- the last of all is that of bindings, where they are bound; else there is none, as this one
pub record SplitsOff {A : Type 0} (bound : Bool) (none : A) (all front : List A) (last : A) : Type 0 where
  pub all_are : all ≡ front ++ (if bound then last ∷ [] else [])
  pub is_none : IsTrue (not bound) → last ≡ none

-- the texts of the playbooks and that of bindings; no bindings are as an empty text
abbrev pub AreTexts : Bool → List NamedText → List Text → Text → Type 0
AreTexts bound texts books bind = SplitsOff bound [] (map (λ text. text.bytes) texts) books bind

-- a rule of playbooks is broken, in the mode of runs, and this is the first break
pub record TellsBookBreak (bound : Bool) (texts : List NamedText) (lines : List Text) (end : End) : Type 0 where
  pub books : List Text
  pub bind : Text
  pub are : AreTexts bound texts books bind
  pub broken : Break
  pub breaks : BreaksRule books bind broken
  pub nothing : lines ≡ []
  pub ends : end ≡ refused broken

-- the playbooks are accepted, and this is the least rule of bindings that is broken
pub record TellsBindBreak (bound : Bool) (texts : List NamedText) (lines : List Text) (end : End) : Type 0 where
  pub books : List Text
  pub bind : Text
  pub are : AreTexts bound texts books bind
  pub rule : ℕ
  pub breaks : BreaksBindRule books bind rule
  pub nothing : lines ≡ []
  pub ends : end ≡ bind_refused rule

-- the last line: how many warnings stand before it
abbrev pub ready_line : ℕ → Text
ready_line n = codes "ready, warnings " ++ (decimal n ++ codes "\n")

-- the lines warn of what a run is given, and these are the trees of its texts
pub record Warns (bound : Bool) (roots : List Data) (given : Given) (lines : List Text) : Type 0 where
  pub trees : List Data
  pub bindings : Data
  pub are : SplitsOff bound (object no_members) roots trees bindings
  pub warned : List Text
  pub warns : AreWarnings given.books trees bindings warned
  pub lines_are : lines ≡ warned ++ ready_line (length warned) ∷ []

-- playbooks and bindings are accepted, so that by these files alone `run` would begin
pub record IsReady (bound : Bool) (texts : List NamedText) (roots : List Data) (lines : List Text) (end : End) : Type 0 where
  pub books : List Text
  pub bind : Text
  pub are : AreTexts bound texts books bind
  pub given : Given
  pub accepted : Accepted AreAccepted FitsKind books bind given
  pub warns : Warns bound roots given lines
  pub ends : end ≡ done

-- what the texts come to, whose trees are these
abbrev pub Judges : Bool → List NamedText → List Data → List Text → End → Type 0
Judges bound texts roots lines end =
    TellsBookBreak bound texts lines end ⊎ (TellsBindBreak bound texts lines end ⊎ IsReady bound texts roots lines end)

-- a text has no tree, and the end says why; or all have one
abbrev pub Reads : Bool → List NamedText → Result (List Data) End → List Text → End → Type 0
Reads bound texts (Err last) lines end = (lines ≡ []) × (end ≡ last)
Reads bound texts (Ok roots) lines end = Judges bound texts roots lines end

-- The lines and the end that the texts of the files come to, that of bindings the last where they are bound; or memory was wanted.
abbrev pub Preflights : Bool → List NamedText → List Text → End → Type 0
Preflights bound texts lines end = Reads bound texts (trees_of texts) lines end ⊎ ((lines ≡ []) × (end ≡ no_memory))
