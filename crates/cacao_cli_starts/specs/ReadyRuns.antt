-- Scaffold: What a session of a run begins with, or why there is none.
use Rattle.std.specs.Prelude.{◌≡◌, false, List, map, Some, Ok}
use Rattle.serde_json.specs.Data.{Data}
use Rattle.cacao_check.specs.Fits.{FitsKind}
use Rattle.cacao_site.specs.View.{SiteView}
use Rattle.flow_core.specs.Setups.{AreAccepted}
use Rattle.flow_core_rules.specs.Accepted.{Accepted}
use Rattle.flow_core_rules.specs.Givens.{Given}
use Rattle.flow_engine_answers.specs.declared.answers.OperatorAnswer.{OperatorAnswer}
use Rattle.cacao_cli_words.specs.Requests.{RunRequest}
use Rattle.cacao_cli_ends.specs.Asked.{runs}
use Rattle.cacao_cli_ends.specs.Ends.{End}
use Rattle.cacao_cli_ends.specs.Files.{NamedText, ReadsTo, ShelfCall, book_file, has_too_many, run_names}
use Rattle.cacao_cli_ends.specs.Work.{start_of, trees_of, trees_wanted}
use Rattle.cacao_cli_session.specs.Holding.{AreAnswers}
use Rattle.cacao_cli_status_laws.specs.Ended.{NoSession, PerformedBy}

-- The files of the run were read; each text that wants a tree has one, the texts are accepted, and each line of the answers is one.
pub record IsReady (wanted : RunRequest) (shelf : ShelfCall) (given : Given) (answers : List OperatorAnswer) : Type 0 where
  pub few : has_too_many (runs wanted) ≡ false
  pub texts : List NamedText
  pub reads : ReadsTo shelf (map book_file (run_names wanted)) (Ok texts)
  pub roots : List Data
  pub trees : trees_of (trees_wanted wanted texts) ≡ Ok roots
  pub accepted : Accepted AreAccepted FitsKind (start_of wanted texts).books (start_of wanted texts).bind given
  pub are : AreAnswers (start_of wanted texts) answers

-- the call ends so, without a session, and leaves the site as it is
abbrev pub IsNotReady : RunRequest → ShelfCall → End → Type 0
IsNotReady wanted shelf last = (site : SiteView) → PerformedBy NoSession (Some (runs wanted)) shelf site site last
