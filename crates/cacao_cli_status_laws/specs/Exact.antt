-- Promise: Which status comes, where the outside tells what it holds.
use Rattle.std.specs.Prelude.{◌≡◌, ◌⊎◌, ℕ, List, Option}
use Rattle.serde_json.specs.Data.{Data}
use Rattle.cacao_check.specs.FirstBreak.{Demand, IsAccepted, Keeps}
use Rattle.cacao_check.specs.declared.breaks.Mode.{Mode}
use Rattle.cacao_site.specs.View.{SiteView}
use Rattle.cacao_cli_ends.specs.Asked.{Asked}
use Rattle.cacao_cli_ends.specs.Ends.{status_of, End}
use Rattle.cacao_cli_ends.specs.Files.{Files, files_of, reading}
use Rattle.cacao_cli_looks.specs.Openings.{HoldsFilter, HoldsRun, IsDamagedFilter, IsDamagedRun, IsTooLargeRun}
use Rattle.cacao_cli_status_laws.specs.Rehearsing.{IsBrokenRehearsal, RehearsalTo}
use Rattle.cacao_cli_ends.specs.Work.{Work, ends, judges, opens_filter, opens_run, compares, rehearsals, work, Start, starts}
use Rattle.cacao_cli_session_laws.specs.Holding.{CameTo, HasBadAnswer, IsRefusedStart}
use Rattle.cacao_cli_ends.specs.Comes.{IfTold, IsOneOf, faults_of}
use Rattle.cacao_cli_looks.specs.Audited.{HasVerdict}

-- a rule of the playbooks with these trees is broken
abbrev pub IsBroken : List Data → Mode → Type 0
IsBroken trees mode = (demand : Demand) × ¬ Keeps trees mode demand

-- a session was held with what the texts give, and the status is that of the end to which it came
pub record IsSettled (start : Start) (old new : SiteView) (answer : ℕ) : Type 0 where
  pub last : End
  pub came : CameTo start last old new
  pub is : answer ≡ status_of last

-- a rehearsal ran, and the status is that of the end to which it came
pub record IsRehearsed (positions : ℕ) (answer : ℕ) : Type 0 where
  pub last : End
  pub came : RehearsalTo positions last
  pub is : answer ≡ status_of last

-- the status is that of what is told of a rehearsal
abbrev pub HasRehearsed : ℕ → ℕ → Type 0
HasRehearsed positions answer = (IsBrokenRehearsal positions × (answer ≡ 1)) ⊎ IsRehearsed positions answer

-- the status is that of the work; a file of the disk is as it reads on return
abbrev pub HasStatus : Work → SiteView → SiteView → ℕ → Type 0
HasStatus (ends lines end) old new answer = answer ≡ status_of end
HasStatus (judges trees mode accepted) old new answer =
    (IsAccepted trees mode × HasStatus accepted old new answer) ⊎ (IsBroken trees mode × (answer ≡ 1))
HasStatus (opens_filter agent look) old new answer =
    (HoldsFilter agent new × (answer ≡ 0)) ⊎ (IsDamagedFilter agent new × (answer ≡ 13))
HasStatus (starts start) old new answer =
    (HasBadAnswer start × (answer ≡ 5)) ⊎ ((IsRefusedStart start × (answer ≡ 1)) ⊎ IsSettled start old new answer)
HasStatus opens_run old new answer =
    (HoldsRun new × (answer ≡ 0)) ⊎ ((IsDamagedRun new × (answer ≡ 13)) ⊎ (IsTooLargeRun new × (answer ≡ 11)))
HasStatus (compares files) old new answer = HasVerdict files answer
HasStatus (rehearsals positions) old new answer = HasRehearsed positions answer

-- the status is that of the work that the files call for, or one of the faults that may stand in its place

abbrev pub AnswersExactly : Option Asked → Option Files → SiteView → SiteView → ℕ → Type 0
AnswersExactly asked told old new answer = IfTold asked told old (λ files.
    HasStatus (work asked (reading files (files_of asked))) old new answer ⊎ IsOneOf answer (faults_of asked))
