-- Promise: What the texts of a fleet come to: each playbook stands alone, without bindings.
use Rattle.std.specs.Prelude.{◌≡◌, ℕ, List, [], ◌∷◌, ◌++◌, length, map}
use Rattle.cacao_check.specs.Fits.{FitsKind}
use Rattle.cacao_check.specs.declared.breaks.Break.{Break}
use Rattle.flow_core.specs.Setups.{AreAccepted}
use Rattle.flow_core_rules.specs.Accepted.{Accepted}
use Rattle.flow_core_rules.specs.Givens.{Given}
use Rattle.flow_core.specs.SetupReading.{BreaksRule}
use Rattle.flow_fleet_steps.specs.Openings.{Runs, numbers}
use Rattle.cacao_cli_words.specs.Requests.{FleetRequest}
use Rattle.cacao_cli_words.specs.Words.{Text}
use Rattle.cacao_cli_ends.specs.Files.{File, NamedText, book_file}

-- the files of the playbooks, in order
abbrev pub fleet_files : FleetRequest → List File
fleet_files wanted = map (λ pair. book_file pair.1) wanted.runs

-- a playbook that is accepted by itself gives this
abbrev pub Gives : NamedText → Given → Type 0
Gives text given = Accepted AreAccepted FitsKind (text.bytes ∷ []) [] given

-- each playbook, by itself, gives its run, in order
pub data GiveAll : List NamedText → Runs → Type 0 where
  nothing : GiveAll [] []
  one_more : {texts : List NamedText} {runs : Runs} (text : NamedText) (run : ℕ) (given : Given) → GiveAll texts runs → Gives text given
      → GiveAll (texts ++ text ∷ []) (runs ++ (run, given) ∷ [])

-- each run has its number, and what its playbook gives
pub record AreReady (wanted : FleetRequest) (texts : List NamedText) (runs : Runs) : Type 0 where
  pub numbered : numbers runs ≡ map (λ pair. pair.0) wanted.runs
  pub gives : GiveAll texts runs

-- a rule is broken in the playbook of this place, by itself, and this is its first break; none is in those before it
pub record IsFirstRefused (texts : List NamedText) (place : ℕ) (broken : Break) : Type 0 where
  pub before : List NamedText
  pub text : NamedText
  pub behind : List NamedText
  pub is : texts ≡ before ++ text ∷ behind
  pub place_is : place ≡ length before
  pub runs : Runs
  pub earlier : GiveAll before runs
  pub breaks : BreaksRule (text.bytes ∷ []) [] broken

-- the break is told under the number of the place
abbrev pub told_at : ℕ → Break → Break
told_at place broken = record broken { book = place }
