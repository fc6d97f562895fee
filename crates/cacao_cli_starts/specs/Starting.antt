-- Scaffold: How the code has the texts of a run, and what its parts come to before a session.
use Rattle.std.specs.Prelude.{◌≡◌, ◌≢◌, ◌⊎◌, ℕ, ◌<◌, ◌≤◌, List, length, [], Some, None, Err, IsSome, option_map, slice_get}
use Rattle.serde_json.specs.Data.{Data}
use Rattle.cacao_json.specs.declared.error.JsonError.{JsonError}
use Rattle.cacao_site.specs.View.{SiteView}
use Rattle.flow_core.specs.SetupReading.{AreTreesOf, IsFirstUnreadable, texts_read}
use Rattle.flow_core_rules.specs.Bindings.{bindings_of}
use Rattle.flow_engine_answers.specs.Answers.{IsFirstBadLine}
use Rattle.cacao_cli_words.specs.Requests.{RunRequest}
use Rattle.cacao_cli_words.specs.Words.{Text}
use Rattle.cacao_cli_ends.specs.Told.{end_of}
use Rattle.cacao_cli_looks.specs.Command.{text_of}
use Rattle.cacao_check.specs.Fits.{FitsKind}
use Rattle.flow_core.specs.Setups.{AreAccepted}
use Rattle.flow_core_rules.specs.Accepted.{Accepted}
use Rattle.flow_core_rules.specs.Givens.{Given}
use Rattle.flow_engine_answers.specs.Answers as told
use Rattle.flow_engine_answers.specs.declared.answers.OperatorAnswer.{OperatorAnswer}
use Rattle.cacao_cli_status_laws.specs.Ended.{NoSession, PerformsBy}
use Rattle.cacao_cli_session.specs.Holding.{WantsToStart}
use Rattle.cacao_cli_ends.specs.Ends.{End, no_memory, not_readable}
use Rattle.cacao_cli_ends.specs.Files.{NamedText}
use Rattle.cacao_cli_ends.specs.Work.{Start, bytes_of, start_of, starts, tree_or_end}
use Rattle.cacao_cli_ends.specs.declared.end.End.{End as HowEnd}
use Rattle.cacao_cli_ends.specs.declared.reason.Reason.TheVariants.{NotJson, Line}
use Rattle.cacao_cli_starts.specs.declared.run_texts.RunTexts.{RunTexts}

-- the texts of a run, as the definitions have them
abbrev pub given_by : RunRequest → RunTexts → Start
given_by wanted texts = record {
  run = wanted.run;
  most = wanted.most;
  books = texts.books.items;
  bind = texts.bind;
  answers = option_map text_of texts.answers;
}

-- they are those of the files
abbrev pub IsStartFrom : RunRequest → List NamedText → RunTexts → Type 0
IsStartFrom wanted texts parts = given_by wanted parts ≡ start_of wanted texts

-- there are as many playbooks as are named, and no text of bindings where none is named
pub record AreNamed (wanted : RunRequest) (texts : RunTexts) : Type 0 where
  pub books : length texts.books.items ≡ length wanted.books
  pub bind : wanted.bind ≡ None → texts.bind ≡ []

abbrev pub answers_of : RunTexts → Text
answers_of texts = bytes_of (option_map text_of texts.answers)

-- why there are no answers: the first bad line, or want of memory
abbrev pub IsNoAnswers : RunTexts → HowEnd → Type 0
IsNoAnswers texts end =
    ((text : NamedText) × (option_map text_of texts.answers ≡ Some text) × (number : ℕ) × IsFirstBadLine text.bytes number
    × (end_of end ≡ not_readable text.name (Line number)))
    ⊎ (end_of end ≡ no_memory)

-- a file of bindings, if one is named, is not an empty one, which has no tree
abbrev pub HasBind : RunRequest → RunTexts → Type 0
HasBind wanted texts = (name : Text) → wanted.bind ≡ Some name → texts.bind ≢ []

-- an empty file of bindings is named
pub record IsBlankBind (wanted : RunRequest) (texts : RunTexts) (last : End) : Type 0 where
  pub name : Text
  pub named : wanted.bind ≡ Some name
  pub blank : texts.bind ≡ []
  pub ends : last ≡ not_readable name NotJson

-- why there are no answers behind playbooks that all have trees
abbrev pub LacksOthers : RunRequest → RunTexts → HowEnd → Type 0
LacksOthers wanted texts end = IsBlankBind wanted texts (end_of end) ⊎ (HasBind wanted texts × IsNoAnswers texts end)

-- the name of the text with this number: playbooks count from 0, and that of bindings stands behind them
abbrev pub IsNameAt : RunRequest → ℕ → Text → Type 0
IsNameAt wanted file name = (slice_get wanted.books file ≡ Some name) ⊎ ((length wanted.books ≤ file) × (wanted.bind ≡ Some name))

-- bindings are named, or the number is that of a playbook
abbrev pub IsNumbered : RunRequest → ℕ → Type 0
IsNumbered wanted file = wanted.bind ≡ None → file < length wanted.books

-- how a call ends where the text with this number has no tree for this reason
abbrev pub IsUnreadableEnd : RunRequest → ℕ → JsonError → End → Type 0
IsUnreadableEnd wanted file error end =
    (name : Text) × IsNameAt wanted file name × (Err end ≡ tree_or_end name (Err error))

-- a text has no tree, and nothing was done
pub record IsUnread (wanted : RunRequest) (texts : RunTexts) (old new : SiteView) (last : End) : Type 0 where
  pub file : ℕ
  pub error : JsonError
  pub first : IsFirstUnreadable (texts_read texts.books.items texts.bind) file error
  pub ends : IsUnreadableEnd wanted file error last
  pub same : new ≡ old

-- the playbooks have trees, and an empty file of bindings is named; nothing was done
pub record IsUnbound (wanted : RunRequest) (texts : RunTexts) (old new : SiteView) (last : End) : Type 0 where
  pub trees : List Data
  pub are : AreTreesOf texts.books.items trees
  pub blank : IsBlankBind wanted texts last
  pub same : new ≡ old

-- all have trees, and no session was held with what they are a start of
pub record IsBegun (wanted : RunRequest) (texts : RunTexts) (old new : SiteView) (last : End) : Type 0 where
  pub trees : List Data
  pub are : AreTreesOf texts.books.items trees
  pub bindings : IsSome (bindings_of texts.bind)
  pub bind : HasBind wanted texts
  pub performs : PerformsBy NoSession (starts (given_by wanted texts)) old new last

-- what came of texts with which no session is held
abbrev pub BeginsSo : RunRequest → RunTexts → SiteView → SiteView → End → Type 0
BeginsSo wanted texts old new last =
    IsUnread wanted texts old new last
    ⊎ (IsUnbound wanted texts old new last ⊎ (IsBegun wanted texts old new last ⊎ WantsToStart old new last))

-- so it is whatever the site, which is left as it is
abbrev pub AreRefused : RunRequest → RunTexts → End → Type 0
AreRefused wanted texts last = (site : SiteView) → BeginsSo wanted texts site site last

-- the texts are accepted, with the answers for the run
pub record AreJudged (wanted : RunRequest) (texts : RunTexts) (given : Given) (answers : List OperatorAnswer) : Type 0 where
  pub accepted : Accepted AreAccepted FitsKind texts.books.items texts.bind given
  pub bind : HasBind wanted texts
  pub answers_are : told.Answers (answers_of texts) wanted.run answers
