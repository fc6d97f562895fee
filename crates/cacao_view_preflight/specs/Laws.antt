-- Promise: What is said of the answers to a command holds whatever the values are.
use Rattle.std.specs.Prelude.{◌≡◌, ◌⊎◌, ℕ, List, [], Option, Some, IsTrue, IsUtf8, true, false, slice_get, unwrap_or}
use Rattle.serde_json.specs.Data.{Data}
use Rattle.cacao_json.specs.Reading.{tree}
use Rattle.cacao_json.specs.Profile.{IsTree}
use Rattle.cacao_vars.specs.Declarations.{IsInNameOrder}
use Rattle.cacao_vars.specs.Scopes.{home_declaration}
use Rattle.cacao_vars.specs.declared.declarations.Var.{Var}
use Rattle.cacao_book.specs.declared.books.Book.{Book}
use Rattle.cacao_book.specs.declared.commands.StepCommand.{StepCommand}
use Rattle.cacao_book.specs.declared.steps.Step.{Step}
use Rattle.cacao_check_regions.specs.Regions.{Sees}
use Rattle.flow_core_rules.specs.Filled.{addressed, command_id, fill, filled}
use Rattle.flow_core_rules.specs.State.{Lists, value_shown}
use Rattle.oc2_msg.specs.Commands.{is_command_id}
use Rattle.oc2_msg.specs.declared.responses.Response.{Response}
use Rattle.slpf_rules.specs.declared.rules.Rule.{Rule}
use Rattle.slpf_rules.specs.Replies.{reply}
use Rattle.cacao_view_preflight.specs.declared.sure.Sure.{Sure}
use Rattle.cacao_view_preflight.specs.declared.sure.Sure.TheVariants as sure
use Rattle.cacao_view_preflight.specs.Constants.{constant_in, is_fixed, outer_constants, sure_of}
use Rattle.cacao_view_preflight.specs.Names.{Text}

-- the response has the status and the text that are sure
abbrev pub Answers : Sure → Response → Type 0
Answers (sure.Answer refusal) response = (response.status ≡ refusal.status) × (response.text ≡ refusal.text)
Answers sure.Malformed response = response.status ≡ 400
Answers sure.Refused response = (response.status ≡ 400) ⊎ (response.status ≡ 501)

-- seen from a scope, these constants have their declarations, and their texts; the texts are UTF-8
pub record HasConstants (known : Text → Option Var) (values : Lists) (scope : ℕ) : Type 0 where
  pub declared : (name : Text) (var : Var) → known name ≡ Some var → home_declaration values.scopes scope name ≡ Some var
  pub valued : (name : Text) (var : Var) → known name ≡ Some var → value_shown values scope name ≡ var.worth
  pub fixed : (name : Text) (var : Var) → known name ≡ Some var → IsTrue (is_fixed var)
  pub texts : (name : Text) (var : Var) → known name ≡ Some var → IsUtf8 (unwrap_or var.worth [])

-- these are the bytes of the command of this content, by some values of the variables, for an issue of a run: they are of a tree,
-- and the number of the run and that of the issue make an identifier
pub record AreBytesOf (known : Text → Option Var) (content bytes : List ℕ) : Type 0 where
  pub values : Lists
  pub scope : ℕ
  pub run : ℕ
  pub issue : ℕ
  pub constants : HasConstants known values scope
  pub are : fill content values scope run issue ≡ Some bytes
  pub is_tree : (d : Data) → tree content ≡ Some d → IsTree (addressed run issue (filled values scope d))
  pub is_named : is_command_id (command_id run issue) ≡ true

-- Whatever the values are of the other variables, whatever rules a filter holds and whenever the command comes: it answers as is sure.
abbrev pub AnswersAreSure : Type 0
AnswersAreSure =
    (known : Text → Option Var) (command : StepCommand) (sure : Sure) (content bytes : List ℕ) (rules : List Rule) (moment : ℕ)
    → sure_of known command ≡ Some sure → command.content ≡ Some content → AreBytesOf known content bytes
    → Answers sure (reply rules bytes moment).0

-- a scope has of each name what a step of a playbook sees, and of each constant that is not external the declared text
pub record IsScopeAt (book : Book) (place : ℕ) (values : Lists) (scope : ℕ) : Type 0 where
  pub sees : (name : Text) → Sees book name place (home_declaration values.scopes scope name)
  pub constants : (name : Text) (var : Var) → home_declaration values.scopes scope name ≡ Some var → IsTrue var.constant
      → var.external ≡ false → value_shown values scope name ≡ var.worth
  pub texts : (name : Text) (var : Var) → home_declaration values.scopes scope name ≡ Some var → IsUtf8 (unwrap_or var.worth [])

-- Then it has the constants that the step is known to see. (The variables of a playbook have different names, in order.)
abbrev pub ConstantsAreSeen : Type 0
ConstantsAreSeen =
    (book : Book) (place : ℕ) (step : Step) (values : Lists) (scope : ℕ) → IsInNameOrder book.variables
    → slice_get book.steps place ≡ Some step → IsScopeAt book place values scope
    → HasConstants (constant_in step.variables (outer_constants book)) values scope
