-- Scaffold: Why texts of playbooks and bindings give no setup.
use Rattle.std.specs.Prelude.{◌≡◌, ℕ, ◌<◌, List, [], ◌∷◌, ◌++◌, map, Some, IsSome, IfSome, Err, slice_get, ⊤}
use Rattle.serde_json.specs.Data.{Data}
use Rattle.cacao_json.specs.Reading.{tree}
use Rattle.cacao_json.specs.Refusals.{answer}
use Rattle.cacao_json.specs.declared.error.JsonError.{JsonError}
use Rattle.cacao_book_shape.specs.Least.{FirstRule}
use Rattle.cacao_vars.specs.declared.declarations.Var.{Var}
use Rattle.cacao_check.specs.declared.breaks.CheckError.{CheckError}
use Rattle.cacao_check.specs.declared.breaks.CheckError.TheVariants as check_error
use Rattle.cacao_check.specs.declared.breaks.Break.{Break}
use Rattle.cacao_check.specs.declared.breaks.Mode.TheVariants.{Run}
use Rattle.cacao_check.specs.Fits.{FitsKind}
use Rattle.cacao_check.specs.FirstBreak.{IsFirstBreak}
use Rattle.flow_core_rules.specs.Bindings.{bindings_of, bind_number, KeepsBind}
use Rattle.flow_core_rules.specs.Accepted.{first_variables}
use Rattle.flow_core_setup.specs.Setups.{AreAccepted}
use Rattle.flow_core_setup.specs.declared.setup_errors.SetupError.{SetupError}
use Rattle.flow_core_setup.specs.declared.setup_errors.SetupError.TheVariants as setup_error

-- the texts that are read: those of playbooks, and behind them that of bindings, unless it is empty
abbrev pub texts_read : List (List ℕ) → List ℕ → List (List ℕ)
texts_read texts [] = texts
texts_read texts (b ∷ bytes) = texts ++ (b ∷ bytes) ∷ []

-- The text with this number is the first that has no tree, and this is why.
pub record IsFirstUnreadable (texts : List (List ℕ)) (file : ℕ) (error : JsonError) : Type 0 where
  pub text : List ℕ
  pub text_is : slice_get texts file ≡ Some text
  pub refused : answer text ≡ Err error
  pub earlier : (k : ℕ) → k < file → IfSome (slice_get texts k) (λ before. IsSome (tree before))

-- these are the trees of the texts
abbrev pub AreTreesOf : List (List ℕ) → List Data → Type 0
AreTreesOf texts trees = map tree texts ≡ map (λ t. Some t) trees

-- All texts have trees, and this is the first break of a rule of playbooks.
pub record BreaksRule (texts : List (List ℕ)) (bind : List ℕ) (told : Break) : Type 0 where
  pub trees : List Data
  pub trees_are : AreTreesOf texts trees
  pub bindings : IsSome (bindings_of bind)
  pub first : IsFirstBreak trees Run told

-- of the rules of bindings this is the least that is broken
abbrev pub IsLeastBindBreak : List Var → Data → ℕ → Type 0
IsLeastBindBreak vars bindings rule = FirstRule bind_number (KeepsBind FitsKind vars bindings) (Some rule)

-- The playbooks are accepted, and this is the least rule of bindings that is broken.
pub record BreaksBindRule (texts : List (List ℕ)) (bind : List ℕ) (rule : ℕ) : Type 0 where
  pub trees : List Data
  pub bindings : Data
  pub trees_are : AreTreesOf texts trees
  pub bindings_are : bindings_of bind ≡ Some bindings
  pub accepted : AreAccepted trees
  pub least : IsLeastBindBreak (first_variables trees) bindings rule

-- The cause of each refusal. No two of the first three hold of the same texts, and none holds of texts that are accepted.
abbrev pub RefusesTexts : List (List ℕ) → List ℕ → SetupError → Type 0
RefusesTexts texts bind (setup_error.Unreadable file error) = IsFirstUnreadable (texts_read texts bind) file error
RefusesTexts texts bind (setup_error.Broken told) = BreaksRule texts bind told
RefusesTexts texts bind (setup_error.Bind rule) = BreaksBindRule texts bind rule
RefusesTexts texts bind setup_error.Memory = ⊤

-- ---- the causes at each part

-- the text with this number has no tree, and why
abbrev pub RefusesText : List ℕ → ℕ → SetupError → Type 0
RefusesText text number (setup_error.Unreadable file error) = (file ≡ number) × (answer text ≡ Err error)
RefusesText text number (setup_error.Broken told) = ⊥
RefusesText text number (setup_error.Bind rule) = ⊥
RefusesText text number setup_error.Memory = ⊤

abbrev pub RefusesBindText : List ℕ → ℕ → SetupError → Type 0
RefusesBindText [] number error = error ≡ setup_error.Memory
RefusesBindText (b ∷ bytes) number error = RefusesText (b ∷ bytes) number error

abbrev pub RefusesBooks : List (List ℕ) → SetupError → Type 0
RefusesBooks texts (setup_error.Unreadable file error) = IsFirstUnreadable texts file error
RefusesBooks texts (setup_error.Broken told) = ⊥
RefusesBooks texts (setup_error.Bind rule) = ⊥
RefusesBooks texts setup_error.Memory = ⊤

abbrev pub RefusesTrees : List Data → SetupError → Type 0
RefusesTrees trees (setup_error.Unreadable file error) = ⊥
RefusesTrees trees (setup_error.Broken told) = IsFirstBreak trees Run told
RefusesTrees trees (setup_error.Bind rule) = ⊥
RefusesTrees trees setup_error.Memory = ⊤

abbrev pub RefusesBindings : List Var → Data → SetupError → Type 0
RefusesBindings vars bindings (setup_error.Unreadable file error) = ⊥
RefusesBindings vars bindings (setup_error.Broken told) = ⊥
RefusesBindings vars bindings (setup_error.Bind rule) = IsLeastBindBreak vars bindings rule
RefusesBindings vars bindings setup_error.Memory = ⊤

-- the refusal that a break of a rule of playbooks gives
abbrev pub RefusesRule : CheckError → SetupError → Type 0
RefusesRule (check_error.Broken told) refusal = refusal ≡ setup_error.Broken told
RefusesRule check_error.Memory refusal = refusal ≡ setup_error.Memory
