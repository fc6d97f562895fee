-- Scaffold: What the parts of judging a fleet's texts come to.
use Rattle.std.specs.Prelude.{◌≡◌, ◌⊎◌, ℕ, List, [], ◌∷◌, ◌++◌, map, take, Ok, Option, None, Some, slice_get}
use Rattle.serde_json.specs.Data.{Data}
use Rattle.cacao_check.specs.declared.breaks.Break.{Break}
use Rattle.flow_core_rules.specs.Givens.{Given}
use Rattle.flow_core.specs.SetupReading.{BreaksRule}
use Rattle.flow_fleet_steps.specs.Openings.{Runs, numbers}
use Rattle.cacao_cli_words.specs.Requests.{FleetRequest}
use Rattle.cacao_cli_words.specs.declared.run_book.RunBook.{RunBook}
use Rattle.cacao_cli_ends.specs.Ends.{End, no_memory, refused}
use Rattle.cacao_cli_ends.specs.Files.{NamedText}
use Rattle.cacao_cli_ends.specs.Work.{trees_of}
use Rattle.cacao_cli_fleets.specs.FleetTexts.{AreReady, GiveAll, Gives, IsFirstRefused, told_at}

-- the playbook of this place breaks a rule, by itself; or memory was wanted
abbrev pub IsRefusal : NamedText → ℕ → End → Type 0
IsRefusal text place end =
    ((broken : Break) × BreaksRule (text.bytes ∷ []) [] broken × (end ≡ refused (told_at place broken))) ⊎ (end ≡ no_memory)

-- the runs of the first playbooks
pub record AreFirst (pairs : List RunBook) (texts : List NamedText) (count : ℕ) (runs : Runs) : Type 0 where
  pub numbered : numbers runs ≡ map (λ one. one.run) (take count pairs)
  pub gives : GiveAll texts runs

-- one run more, of the pair at this place and with this text
pub record JoinsRun (pairs : List RunBook) (place : ℕ) (text : NamedText) (before after : Runs) : Type 0 where
  pub one : RunBook
  pub there : slice_get pairs place ≡ Some one
  pub given : Given
  pub gives : Gives text given
  pub more : after ≡ before ++ (one.run, given) ∷ []

-- the runs, if there are some yet
abbrev pub runs_in : Option Runs → Runs
runs_in None = []
runs_in (Some runs) = runs

-- the first playbook that breaks a rule; or memory was wanted
abbrev pub RefusesSome : List NamedText → End → Type 0
RefusesSome texts end =
    ((place : ℕ) × (broken : Break) × IsFirstRefused texts place broken × (end ≡ refused (told_at place broken))) ⊎ (end ≡ no_memory)

-- the texts have trees, and give these runs
pub record AreSetUp (wanted : FleetRequest) (texts : List NamedText) (runs : Runs) : Type 0 where
  pub roots : List Data
  pub trees : trees_of texts ≡ Ok roots
  pub ready : AreReady wanted texts runs
