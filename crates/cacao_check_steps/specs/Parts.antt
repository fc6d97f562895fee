-- Promise: What is read of a step once: its texts, and where its links lead.
use Rattle.std.specs.Prelude.{◌≡◌, ℕ, List, map, Some, IfSome, IfNone, IsSomeAnd, option_map, option_and_then, slice_get, length}
use Rattle.cacao_json.specs.Tree.{data_of}
use Rattle.cacao_cond.specs.Trees.{AnyTree, tree_of}
use Rattle.cacao_cond.specs.Grammar.{Spells}
use Rattle.cacao_vars.specs.Names.{IsName}
use Rattle.cacao_vars.specs.References.{reference_text}
use Rattle.cacao_book.specs.declared.books.Book.{Book}
use Rattle.cacao_book.specs.declared.steps.Step.{Step}
use Rattle.cacao_book.specs.Steps.{place_of}
use Rattle.cacao_check_steps.specs.declared.parts.Parts.{Parts}
use Rattle.cacao_check_steps.specs.Links.{head_keys, places_of}
use Rattle.cacao_check_steps.specs.Uses.{condition_of, subject_of, commands_of, content_tree}
use Rattle.cacao_check_steps.specs.Calls.{called}

-- The parts are those of a step of a book: a text that spells no condition has none, and a link that names no step leads nowhere.
pub record ReadsStep (books : List Book) (book : Book) (step : Step) (parts : Parts) : Type 0 where
  pub condition : IfSome parts.condition (λ cond. IsSomeAnd (condition_of step.kind) (Spells (tree_of cond)))
  pub no_condition : IfNone parts.condition (IfSome (condition_of step.kind) (λ text. (cond : AnyTree) → ¬ Spells cond text))
  pub subject : IfSome parts.subject (λ name. IsName name × (subject_of step.kind ≡ Some (reference_text name)))
  pub no_subject : IfNone parts.subject
      (IfSome (subject_of step.kind) (λ text. (name : List ℕ) → IsName name → ¬ text ≡ reference_text name))
  pub contents : map (option_map data_of) parts.contents.items ≡ map content_tree (commands_of step.kind)
  pub completion : parts.completion ≡ option_and_then (place_of book.steps) step.completion
  pub success : parts.success ≡ option_and_then (place_of book.steps) step.success
  pub failure : parts.failure ≡ option_and_then (place_of book.steps) step.failure
  pub heads : parts.heads ≡ places_of book (head_keys step.kind)
  pub called : parts.called ≡ called books step

-- each step of a book has its parts
pub record ReadsSteps (books : List Book) (book : Book) (all : List Parts) : Type 0 where
  pub len : length all ≡ length book.steps
  pub each : (place : ℕ) (step : Step) (parts : Parts) → slice_get book.steps place ≡ Some step → slice_get all place ≡ Some parts
      → ReadsStep books book step parts
